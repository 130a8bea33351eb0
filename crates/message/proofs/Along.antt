-- The micropackets of a Message, read in order.
use Rattle.std.proofs.Common.{◌≡◌, ℕ, zero, suc, ◌+◌, ◌-◌, ◌/◌, ◌<◌, ◌≤◌, min, Bool, true, false, cond, eqb, leb, ◌⊎◌, List, [], ◌∷◌, ◌++◌, length, take, drop, Some, None, Ok, Err, Option, Result, sym, refl, ap, ◌∙◌, subst, ap₂, inl, inr, arith, length-append, length-drop, length-take, eq-eqb}
use native.Mathlib.Nat.{min-eq_left}
use Rattle.std.specs.Str.{bytes_eq}
use Rattle.std.proofs.lemmas.List.{drop-drop, drop_at, take_all, length-take-le}
use Rattle.std.proofs.lemmas.Bool.{le-leb, lt-leb, cases_lt}
use Rattle.frame.specs.declared.channel.Channel.{Channel}
use Rattle.frame.specs.declared.refusal.Refusal.{Refusal}
use Rattle.frame.specs.declared.refusal.Refusal.TheVariants.{Marked, OutOfStep}
use Rattle.frame.specs.Naming.{channel_number}
use Rattle.frame.proofs.Roundtrip.{number_back}
use Rattle.message.specs.declared.heading.Heading.{Heading}
use Rattle.message.specs.declared.reader.Reader.{Reader}
use Rattle.message.specs.declared.reader.Underway.{Underway}
use Rattle.message.specs.declared.reader.Read.{Read}
use Rattle.message.specs.declared.reader.Read.TheVariants.{Begins, Piece, Complete}
use Rattle.message.specs.Making.{Message, Micropacket, Loadable, longest_payload, snap, m_len, padded, header_of, data_of, datas_of, data_count, micropackets_of, cut_off}
use Rattle.message.specs.Reading.{part_in, fresh, with_message, four_at, heading_in, heading_refusal, carried_refusal, left_of, begin_refusal, first_of, due_answer, due_message, due_buffer, shaped, shape_refusal, stepped, next_refusal, read_refusal, read_answer, reader_after, buffer_after}
use Rattle.message.specs.Copying.{written}
use Rattle.message.specs.Whole.{handed_on, answer, next_reader, next_bytes, answers, last_reader, last_bytes, More, EndsIn, heading_of, MessagesComeWhole, CutsAreMarked, begun_and_cut}
use Rattle.message.proofs.Figures.{longest_fits, length_datas}
use Rattle.message.proofs.Pieces.{piece_back, length_piece, piece_placed}
use Rattle.message.proofs.Headers.{m_len_back, snap_stands, first_stands, length_header, heading_back}

-- a micropacket that nothing speaks against
pub record Passes (s : Reader) (c : Channel) (buffer : List ℕ) (p : Micropacket) : Type 0 where
  pub shape : shaped (handed_on c p) ≡ None
  pub step : stepped s (handed_on c p) (length buffer) ≡ None

-- what comes of it
pub record Comes (s : Reader) (c : Channel) (buffer : List ℕ) (p : Micropacket) (r : Read) (m : Option Underway) (bytes : List ℕ) : Type 0 where
  pub answered : answer s c buffer p ≡ Ok r
  pub reader : next_reader s c buffer p ≡ with_message s m
  pub written : next_bytes s c buffer p ≡ bytes

comes :
    (s : Reader) (c : Channel) (buffer : List ℕ) (p : Micropacket) → Passes s c buffer p
    → Comes s c buffer p (due_answer s.message (part_in (handed_on c p)) p.content) (due_message s.message (part_in (handed_on c p)) p.content)
    (due_buffer s.message (part_in (handed_on c p)) p.content buffer)
unfolding read_refusal read_answer reader_after buffer_after
comes s c buffer p h =
    let part = part_in (handed_on c p) in
    record {
      answered = cc (h.shape, h.step);
      reader = cc (h.shape, h.step);
      written = cc (h.shape, h.step);
    }

-- one that is refused
refused :
    (s : Reader) (c : Channel) (buffer : List ℕ) (p : Micropacket) (e : Refusal)
    → shaped (handed_on c p) ≡ None → stepped s (handed_on c p) (length buffer) ≡ Some e
    → (answer s c buffer p ≡ Err e) × (next_reader s c buffer p ≡ with_message s None) × (next_bytes s c buffer p ≡ buffer)
unfolding read_refusal read_answer reader_after buffer_after
refused s c buffer p e h k = (cc, cc, cc)

shape_passes : (c : Channel) (kind size : ℕ) → kind < 16 → size ≡ 32 → shape_refusal (channel_number c) kind size ≡ None
shape_passes c kind size h e =
    let k = (number_back c).1 in
    grind arith

own_channel : (c : Channel) → eqb (channel_number c) (channel_number c) ≡ true
own_channel c = eq-eqb (channel_number c) (channel_number c) refl

-- a piece that nothing speaks against
carried_well :
    (n size left : ℕ) (tail : Bool) (room : ℕ) → size ≤ room → tail ≡ leb left n → carried_refusal n size left tail room ≡ None
carried_well n size left tail room h e = grind arith

begins_well :
    (c : Channel) (content : List ℕ) → bytes_eq (take 6 (drop 16 content)) snap ≡ true → 8 ≤ four_at 12 content → four_at 12 content ≤ m_len (longest_payload c)
    → heading_refusal c content ≡ None
begins_well c content a b d = grind arith

-- a reader with a Message under way
abbrev underway : Message → ℕ → Underway
underway m came = record { heading = heading_of m; came = came }

abbrev under : Channel → Message → ℕ → Reader
under c m came = record { channel = c; message = Some (underway m came) }

-- the Header
header_comes :
    (c : Channel) (m : Message) (buffer : List ℕ) → Loadable c m → length m.payload ≤ length buffer
    → Comes (fresh c) c buffer (header_of m)
    (cond (leb (length m.payload) 8) (Complete (heading_of m)) (Begins (heading_of m)))
    (cond (leb (length m.payload) 8) None (Some (underway m 8)))
    (take 8 m.payload ++ drop (min (length m.payload) 8) buffer)
header_comes c m buffer load fits =
    let payload = m.payload in
    let content = (header_of m).content in
    let d = load.destination in
    let f = load.source in
    let long = longest_fits c in
    let short = load.payload in
    let heading = heading_back m d f load.ether_type (omega arith) in
    let counted : four_at 12 content ≡ m_len (length payload) = m_len_back m d f (omega arith) in
    let size : (heading_in content).size ≡ length payload = ap (λ (h : Heading). h.size) heading in
    let begun : begin_refusal c (leb (length payload) 8) content (length buffer) ≡ None =
    ap₂ first_of
    (begins_well c content (snap_stands m d f) (omega arith) (omega arith))
    (carried_well 8 (heading_in content).size (heading_in content).size (leb (length payload) 8) (length buffer) (omega arith) (ap (λ (n : ℕ). leb n 8) (sym size))) in
    let k = comes (fresh c) c buffer (header_of m) (record {
      shape = shape_passes c 9 (length content) (omega arith) (length_header m d f);
      step = ap (λ (b : Bool). cond b (begin_refusal c (leb (length payload) 8) content (length buffer)) (Some OutOfStep)) (own_channel c) ∙ begun;
    }) in
    let part : take (min (heading_in content).size 8) (drop 24 content) ≡ take 8 payload =
    ap₂ (λ (n : ℕ) (xs : List ℕ). take (min n 8) xs) size (first_stands m d f) ∙ piece_back 8 payload in
    let placed = piece_placed payload buffer 0 8 (omega arith) fits in
    record {
      answered = cc (k.answered, heading);
      reader = cc (k.reader, heading);
      written = k.written ∙ ap (λ (xs : List ℕ). written 0 xs buffer) part ∙ placed ∙ ap (λ (n : ℕ). take 8 payload ++ drop n buffer) (omega arith);
    }

-- bytes of the payload so far, and the buffer behind them as it was
abbrev so_far : Message → ℕ → List ℕ → List ℕ
so_far m came room = take came m.payload ++ drop came room

length_so_far :
    (m : Message) (came : ℕ) (room : List ℕ) → came ≤ length m.payload → length m.payload ≤ length room → length (so_far m came room) ≡ length room
length_so_far m came room h k = simp (length-append, length-take, length-drop) (omega arith)

-- a Data
data_comes :
    (c : Channel) (m : Message) (came : ℕ) (buffer room : List ℕ) → came ≤ length m.payload → length m.payload ≤ length room → buffer ≡ so_far m came room
    → Comes (under c m came) c buffer (data_of (drop came m.payload))
    (cond (leb (length m.payload - came) 32) (Complete (heading_of m)) (Piece came 32))
    (cond (leb (length m.payload - came) 32) None (Some (underway m (came + 32))))
    (take (came + 32) m.payload ++ drop (came + min (length m.payload - came) 32) room)
data_comes c m came buffer room h fits is =
    let payload = m.payload in
    let rest = drop came payload in
    let content = padded 32 (take 32 rest) in
    let place : min came (length payload) ≡ came = min-eq_left h in
    let roomy : length buffer ≡ length room = ap length is ∙ length_so_far m came room h fits in
    let left : length rest ≡ length payload - min came (length payload) = length-drop came payload ∙ ap (λ (n : ℕ). length payload - n) (sym place) in
    let passes : next_refusal (underway m came) (leb (length rest) 32) (length buffer) ≡ None =
    carried_well 32 (length payload) (left_of (underway m came)) (leb (length rest) 32) (length buffer) (omega arith) (ap (λ (n : ℕ). leb n 32) left) in
    let k = comes (under c m came) c buffer (data_of rest) (record {
      shape = shape_passes c 8 (length content) (omega arith) (length_piece 32 rest);
      step = ap (λ (b : Bool). cond b (next_refusal (underway m came) (leb (length rest) 32) (length buffer)) (Some OutOfStep)) (own_channel c) ∙ passes;
    }) in
    let part : take (min (length payload - min came (length payload)) 32) content ≡ take 32 rest =
    ap (λ (n : ℕ). take (min n 32) content) (sym left) ∙ piece_back 32 rest in
    let placed = piece_placed payload room came 32 h fits in
    record {
      answered = cc (k.answered, place);
      reader = cc (k.reader, place);
      written = cc (k.written, place, part, is, placed);
    }

-- micropackets that are answered, to the last, as they should be
pub record Goes (r : Result Read Refusal) (After : List ℕ → Type 0) (c : Channel) (s : Reader) (buffer : List ℕ) (ps : List Micropacket) : Type 0 where
  pub ends : EndsIn r (answers s c buffer ps)
  pub bytes : After (last_bytes s c buffer ps)
  pub reader : last_reader s c buffer ps ≡ fresh c

ends_more : (r a : Result Read Refusal) (bs : List (Result Read Refusal)) → More a → EndsIn r bs → EndsIn r (a ∷ bs)
ends_more r a [] m e = absurd e
ends_more r a (b ∷ bs) m e = (m, e)

-- one more in front
goes_more :
    (r : Result Read Refusal) (After : List ℕ → Type 0) (c : Channel) (s : Reader) (buffer : List ℕ) (p : Micropacket) (ps : List Micropacket)
    → More (answer s c buffer p) → Goes r After c (next_reader s c buffer p) (next_bytes s c buffer p) ps → Goes r After c s buffer (p ∷ ps)
goes_more r After c s buffer p ps m g =
    record { ends = ends_more r (answer s c buffer p) (answers (next_reader s c buffer p) c (next_bytes s c buffer p) ps) m g.ends; bytes = g.bytes; reader = g.reader }

says_more : (a b : Result Read Refusal) → a ≡ b → More b → More a
says_more a b e m = subst More (sym e) m

-- a Data that does not complete the payload, and what follows it
goes_on :
    (r : Result Read Refusal) (After : List ℕ → Type 0) (c : Channel) (m : Message) (came : ℕ) (buffer room : List ℕ) (ps : List Micropacket)
    → came + 32 < length m.payload → length m.payload ≤ length room → buffer ≡ so_far m came room
    → ((b : List ℕ) → b ≡ so_far m (came + 32) room → Goes r After c (under c m (came + 32)) b ps)
    → Goes r After c (under c m came) buffer (data_of (drop came m.payload) ∷ ps)
goes_on r After c m came buffer room ps h fits is rest =
    let payload = m.payload in
    let s = under c m came in
    let p = data_of (drop came payload) in
    let k = data_comes c m came buffer room (omega arith) fits is in
    let more : leb (length payload - came) 32 ≡ false = lt-leb (length payload - came) 32 (omega arith) in
    let full : min (length payload - came) 32 ≡ 32 = omega arith in
    let a : answer s c buffer p ≡ Ok (Piece came 32) = cc (k.answered, more) in
    let t : next_reader s c buffer p ≡ under c m (came + 32) = cc (k.reader, more) in
    let b : next_bytes s c buffer p ≡ so_far m (came + 32) room = cc (k.written, full) in
    goes_more r After c s buffer p ps (says_more (answer s c buffer p) (Ok (Piece came 32)) a tt)
    (rw t (rest (next_bytes s c buffer p) b))

-- the Data of a Message, to the last
abbrev Whole : Message → List ℕ → List ℕ → Type 0
Whole m room b = b ≡ m.payload ++ drop (length m.payload) room

along :
    (n : ℕ) (c : Channel) (m : Message) (came : ℕ) (buffer room : List ℕ)
    → came < length m.payload → n ≡ (length m.payload - came + 31) / 32 → length m.payload ≤ length room → buffer ≡ so_far m came room
    → Goes (Ok (Complete (heading_of m))) (Whole m room) c (under c m came) buffer (datas_of n (drop came m.payload))
along zero c m came buffer room h e fits is = absurd (omega arith)
along (suc zero) c m came buffer room h e fits is =
    let payload = m.payload in
    let s = under c m came in
    let k = data_comes c m came buffer room (omega arith) fits is in
    let last : leb (length payload - came) 32 ≡ true = le-leb (length payload - came) 32 (omega arith) in
    let all = take_all (came + 32) payload (omega arith) in
    let end : came + min (length payload - came) 32 ≡ length payload = omega arith in
    record { ends = cc (k.answered, last); bytes = cc (k.written, all, end); reader = cc (k.reader, last) }
along (suc (suc n)) c m came buffer room h e fits is =
    goes_on (Ok (Complete (heading_of m))) (Whole m room) c m came buffer room (datas_of (suc n) (drop 32 (drop came m.payload))) (omega arith) fits is
    (λ b at. rw (drop-drop 32 came m.payload) (along (suc n) c m (came + 32) b room (omega arith) (omega arith) fits at))

-- a Header that does not complete the payload, and what follows it
begins :
    (r : Result Read Refusal) (After : List ℕ → Type 0) (c : Channel) (m : Message) (room : List ℕ) (ps : List Micropacket)
    → Loadable c m → 8 < length m.payload → length m.payload ≤ length room
    → ((b : List ℕ) → b ≡ so_far m 8 room → Goes r After c (under c m 8) b ps)
    → Goes r After c (fresh c) room (header_of m ∷ ps)
begins r After c m room ps load h fits rest =
    let payload = m.payload in
    let s = fresh c in
    let p = header_of m in
    let k = header_comes c m room load fits in
    let more : leb (length payload) 8 ≡ false = lt-leb (length payload) 8 h in
    let full : min (length payload) 8 ≡ 8 = omega arith in
    let a : answer s c room p ≡ Ok (Begins (heading_of m)) = cc (k.answered, more) in
    let t : next_reader s c room p ≡ under c m 8 = cc (k.reader, more) in
    let b : next_bytes s c room p ≡ so_far m 8 room = cc (k.written, full) in
    goes_more r After c s room p ps (says_more (answer s c room p) (Ok (Begins (heading_of m))) a tt)
    (rw t (rest (next_bytes s c room p) b))

goes_whole :
    (c : Channel) (m : Message) (buffer : List ℕ) → Loadable c m → length m.payload ≤ length buffer → (8 < length m.payload) ⊎ (length m.payload ≤ 8)
    → Goes (Ok (Complete (heading_of m))) (Whole m buffer) c (fresh c) buffer (micropackets_of m)
goes_whole c m buffer load fits (inl h) =
    begins (Ok (Complete (heading_of m))) (Whole m buffer) c m buffer (datas_of (data_count (length m.payload)) (drop 8 m.payload)) load h fits
    (λ b at. along (data_count (length m.payload)) c m 8 b buffer h refl fits at)
goes_whole c m buffer load fits (inr h) =
    let payload = m.payload in
    let k = header_comes c m buffer load fits in
    let last : leb (length payload) 8 ≡ true = le-leb (length payload) 8 h in
    let none : data_count (length payload) ≡ 0 = omega arith in
    let all = take_all 8 payload h in
    let end : min (length payload) 8 ≡ length payload = omega arith in
    rw none (record { ends = cc (k.answered, last); bytes = cc (k.written, all, end); reader = cc (k.reader, last) })

pub messages_come_whole : MessagesComeWhole
messages_come_whole c m buffer load fits =
    let g = goes_whole c m buffer load fits (cases_lt 8 (length m.payload)) in
    record { complete = g.ends; payload = g.bytes; reader = g.reader }

-- a cut ends it, whatever the reader had
cut_marked :
    (After : List ℕ → Type 0) (c : Channel) (s : Reader) (buffer : List ℕ) → with_message s None ≡ fresh c → After buffer
    → Goes (Err Marked) After c s buffer (cut_off ∷ [])
cut_marked After c s buffer own holds =
    let k = refused s c buffer cut_off Marked (shape_passes c 8 32 (omega arith) refl) refl in
    record { ends = k.0; bytes = subst After (sym k.2) holds; reader = k.1 ∙ own }

-- the buffer behind the place of the payload
abbrev Rest : Message → List ℕ → List ℕ → Type 0
Rest m room b = drop (length m.payload) b ≡ drop (length m.payload) room

rest_so_far :
    (m : Message) (came : ℕ) (buffer room : List ℕ) → came ≤ length m.payload → buffer ≡ so_far m came room → Rest m room buffer
rest_so_far m came buffer room h is =
    let n = length m.payload in
    let k : came + (n - came) ≡ n = omega arith in
    cc (
      is,
      drop-drop (n - came) came (so_far m came room),
      drop-drop (n - came) came room,
      drop_at (take came m.payload) (drop came room) came (length-take-le came m.payload h),
    )

along_cut :
    (j n : ℕ) (c : Channel) (m : Message) (came : ℕ) (buffer room : List ℕ)
    → j < n → came < length m.payload → n ≡ (length m.payload - came + 31) / 32 → length m.payload ≤ length room → buffer ≡ so_far m came room
    → Goes (Err Marked) (Rest m room) c (under c m came) buffer (take j (datas_of n (drop came m.payload)) ++ cut_off ∷ [])
along_cut zero n c m came buffer room l h e fits is =
    cut_marked (Rest m room) c (under c m came) buffer refl (rest_so_far m came buffer room (omega arith) is)
along_cut (suc j) zero c m came buffer room l h e fits is = absurd (omega arith)
along_cut (suc j) (suc n) c m came buffer room l h e fits is =
    goes_on (Err Marked) (Rest m room) c m came buffer room (take j (datas_of n (drop 32 (drop came m.payload))) ++ cut_off ∷ []) (omega arith) fits is
    (λ b at. rw (drop-drop 32 came m.payload) (along_cut j n c m (came + 32) b room (omega arith) (omega arith) (omega arith) fits at))

goes_cut :
    (k : ℕ) (c : Channel) (m : Message) (buffer : List ℕ) → Loadable c m → length m.payload ≤ length buffer → k < length (micropackets_of m)
    → Goes (Err Marked) (Rest m buffer) c (fresh c) buffer (begun_and_cut k m)
goes_cut zero c m buffer load fits l = cut_marked (Rest m buffer) c (fresh c) buffer refl refl
goes_cut (suc j) c m buffer load fits l =
    let n = data_count (length m.payload) in
    let count = length_datas n (drop 8 m.payload) in
    begins (Err Marked) (Rest m buffer) c m buffer (take j (datas_of n (drop 8 m.payload)) ++ cut_off ∷ []) load (omega arith) fits
    (λ b at. along_cut j n c m 8 b buffer (omega arith) (omega arith) refl fits at)

pub cuts_are_marked : CutsAreMarked
cuts_are_marked c m buffer k load fits l =
    let g = goes_cut k c m buffer load fits l in
    record { marked = g.ends; rest = g.bytes; reader = g.reader }
