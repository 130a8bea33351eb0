-- What comes of a micropacket, from what its steps say.
use Rattle.std.proofs.Common.{◌≡◌, ℕ, min, Bool, true, false, cond, ltb, List, length, take, drop, Some, None, Ok, Err, Option, Result, refl, ap, ◌∙◌, arith, length-drop, eq-eqb, sym}
use Rattle.std.proofs.lemmas.Bool.{ltb-true}
use Rattle.std.proofs.lemmas.List.{take_all}
use Rattle.frame.specs.declared.channel.Channel.{Channel}
use Rattle.frame.specs.declared.kind.Kind.{Kind}
use Rattle.frame.specs.declared.refusal.Refusal.{Refusal}
use Rattle.frame.specs.declared.refusal.Refusal.TheVariants.{BadChannel, BadSize}
use Rattle.frame.specs.Codec.{or_else, size_refusal}
use Rattle.frame.specs.Naming.{kind_at, kind_or, channel_at, channel_or, channel_number}
use Rattle.frame.proofs.Roundtrip.{channel_back, number_back}
use Rattle.message.specs.declared.heading.Heading.{Heading}
use Rattle.message.specs.declared.reader.Reader.{Reader}
use Rattle.message.specs.declared.reader.Underway.{Underway}
use Rattle.message.specs.declared.reader.Outcome.{Outcome}
use Rattle.message.specs.declared.reader.Read.{Read}
use Rattle.message.specs.declared.reader.Read.TheVariants.{Begins}
use Rattle.message.specs.declared.reader.Part.{Part}
use Rattle.message.specs.declared.reader.Part.TheVariants.{First}
use Rattle.message.specs.Reading.{Handed, part_of, heading_in, with_message, unless, heading_refusal, carried_refusal, carried_outcome, carried_buffer, place_of, left_of, begin_refusal, begun_buffer, due_outcome, due_answer, due_message, due_buffer, shaped, step_refusal, stepped, read_refusal, read_answer, after, reader_after, buffer_after, Within, due_refusal}
use Rattle.message.specs.Whole.{RefusalsDrop, MessagesComeWhole, CutsAreMarked}
use Rattle.message.proofs.Along.{messages_come_whole, cuts_are_marked}
use Rattle.message.proofs.Dropping.{refusals_drop}
use Rattle.message.proofs.Rooms.{within}

-- all that a call of `read` ensures
abbrev pub Ensures : Reader → Handed → List ℕ → Result Read Refusal → Reader → List ℕ → Type 0
Ensures s p buffer r s' buffer' =
    record {
      value : r ≡ or_else (read_refusal s p (length buffer)) (read_answer s p);
      state : s' ≡ reader_after s p (length buffer);
      bytes : buffer' ≡ buffer_after s p buffer;
      within : Within (length buffer) r;
      drops : RefusalsDrop;
      whole : MessagesComeWhole;
      cut : CutsAreMarked;
    }

ensured :
    (s : Reader) (p : Handed) (buffer : List ℕ) (r : Result Read Refusal) (s' : Reader) (buffer' : List ℕ)
    → r ≡ or_else (read_refusal s p (length buffer)) (read_answer s p) → s' ≡ reader_after s p (length buffer) → buffer' ≡ buffer_after s p buffer
    → Ensures s p buffer r s' buffer'
ensured s p buffer r s' buffer' e₁ e₂ e₃ =
    record {
      value = e₁;
      state = e₂;
      bytes = e₃;
      within = within s p (length buffer) r e₁;
      drops = refusals_drop;
      whole = messages_come_whole;
      cut = cuts_are_marked;
    }

-- what is no micropacket changes nothing
no_micropacket : (s : Reader) (p : Handed) (buffer : List ℕ) (e : Refusal) → shaped p ≡ Some e → Ensures s p buffer (Err e) s buffer
unfolding read_refusal read_answer reader_after buffer_after
no_micropacket s p buffer e h = ensured s p buffer (Err e) s buffer (cc) (cc) (cc)

pub no_channel : (s : Reader) (p : Handed) (buffer : List ℕ) (e : Refusal) → Err e ≡ channel_or p.channel → Ensures s p buffer (Err e) s buffer
no_channel s p buffer e h = no_micropacket s p buffer e (grind arith)

pub no_content :
    (s : Reader) (p : Handed) (buffer : List ℕ) (c : Channel) (e : Refusal)
    → Ok c ≡ channel_or p.channel → Err e ≡ or_else (size_refusal 32 (length p.content)) p.content → Ensures s p buffer (Err e) s buffer
no_content s p buffer c e h k = no_micropacket s p buffer e (grind arith)

pub no_kind :
    (s : Reader) (p : Handed) (buffer : List ℕ) (c : Channel) (xs : List ℕ) (e : Refusal)
    → Ok c ≡ channel_or p.channel → Ok xs ≡ or_else (size_refusal 32 (length p.content)) p.content → Err e ≡ kind_or p.kind
    → Ensures s p buffer (Err e) s buffer
no_kind s p buffer c xs e h k l = no_micropacket s p buffer e (grind arith)

looked_up : {X : Type 0} (b : Bool) (x y : X) (e : Refusal) → Ok y ≡ cond b (Ok x) (Err e) → (b ≡ true) × (y ≡ x)
looked_up true x y e h = (refl, cc)
looked_up false x y e h = absurd cc

fits :
    (p : Handed) (c : Channel) (xs : List ℕ) (k : Kind)
    → Ok c ≡ channel_or p.channel → Ok xs ≡ or_else (size_refusal 32 (length p.content)) p.content → Ok k ≡ kind_or p.kind
    → (shaped p ≡ None) × (channel_number c ≡ p.channel) × (xs ≡ p.content) × (k ≡ kind_at p.kind)
fits p c xs k h l m =
    let a = looked_up (ltb p.channel 4) (channel_at p.channel) c BadChannel h in
    let b = looked_up (ltb p.kind 16) (kind_at p.kind) k BadSize m in
    (grind arith, ap channel_number a.1 ∙ channel_back p.channel (ltb-true p.channel 4 a.0), grind arith, b.1)

dropped : (s : Reader) (m : Option Underway) (o : Option Refusal) → unless o (with_message s m) (with_message s None) ≡ after None o s m
dropped s m None = refl
dropped s m (Some e) = refl

-- what is one goes on to its step
pub goes_on :
    (s : Reader) (p : Handed) (buffer : List ℕ) (c : Channel) (k : Kind) (part : Part) (xs : List ℕ) (r : Result Read Refusal) (s' : Reader) (buffer' : List ℕ)
    → Ok c ≡ channel_or p.channel → Ok xs ≡ or_else (size_refusal 32 (length p.content)) p.content → Ok k ≡ kind_or p.kind → part ≡ part_of k
    → r ≡ or_else (step_refusal s (channel_number c) part p.tail p.error xs (length buffer)) (due_answer s.message part xs)
    → s' ≡ unless (step_refusal s (channel_number c) part p.tail p.error xs (length buffer)) (with_message s (due_message s.message part xs)) (with_message s None)
    → buffer' ≡ unless (step_refusal s (channel_number c) part p.tail p.error xs (length buffer)) (due_buffer s.message part xs buffer) buffer
    → Ensures s p buffer r s' buffer'
unfolding read_refusal read_answer reader_after buffer_after
goes_on s p buffer c k part xs r s' buffer' h l m q e₁ e₂ e₃ =
    let f = fits p c xs k h l m in
    let step : step_refusal s (channel_number c) part p.tail p.error xs (length buffer) ≡ stepped s p (length buffer) = cc in
    let drop = dropped s (due_message s.message part xs) (step_refusal s (channel_number c) part p.tail p.error xs (length buffer)) in
    ensured s p buffer r s' buffer' (cc) (cc) (cc)

-- on the reader's channel and with no ERROR, what is due decides
pub decided :
    (s : Reader) (c : Channel) (part : Part) (tail error : Bool) (xs : List ℕ) (room : ℕ) → error ≡ false → channel_number c ≡ channel_number s.channel
    → due_refusal s.message part c tail xs room ≡ step_refusal s (channel_number c) part tail error xs room
decided s c part tail error xs room e h =
    let t = eq-eqb (channel_number c) (channel_number s.channel) h in
    let same : c ≡ s.channel = sym (number_back c).0 ∙ ap channel_at h ∙ (number_back s.channel).0 in
    cc

-- a Header that no Message begins with
pub begins_not :
    (c : Channel) (tail : Bool) (content buffer : List ℕ) (e : Refusal) → Err e ≡ or_else (heading_refusal c content) (heading_in content)
    → (Err e ≡ or_else (begin_refusal c tail content (length buffer)) (due_outcome None First content))
    × (buffer ≡ unless (begin_refusal c tail content (length buffer)) (begun_buffer content buffer) buffer)
begins_not c tail content buffer e h = (grind arith, grind arith)

-- a Header that one does begin with goes on to its piece
abbrev pub headed : Heading → Underway
headed h = record { heading = h; came = 0 }

-- the piece of a Header
pub head_of : (content : List ℕ) → length content ≡ 32 → take 8 (drop 24 content) ≡ drop 24 content
head_of content h = take_all 8 (drop 24 content) (simp length-drop (omega arith))

headed_refusal :
    (c : Channel) (tail : Bool) (content piece : List ℕ) (room : ℕ) (h : Heading)
    → length content ≡ 32 → piece ≡ drop 24 content → Ok h ≡ or_else (heading_refusal c content) (heading_in content)
    → carried_refusal (length piece) h.size (left_of (headed h)) tail room ≡ begin_refusal c tail content room
headed_refusal c tail content piece room h long is e =
    let n : length piece ≡ 8 = ap length is ∙ simp length-drop (omega arith) in
    let l : left_of (headed h) ≡ h.size = omega arith in
    grind arith

pub begins_bytes :
    (c : Channel) (tail : Bool) (content piece buffer buffer' : List ℕ) (h : Heading)
    → length content ≡ 32 → piece ≡ drop 24 content → Ok h ≡ or_else (heading_refusal c content) (heading_in content)
    → buffer' ≡ unless (carried_refusal (length piece) h.size (left_of (headed h)) tail (length buffer)) (carried_buffer (length piece) (headed h) piece buffer) buffer
    → buffer' ≡ unless (begin_refusal c tail content (length buffer)) (begun_buffer content buffer) buffer
begins_bytes c tail content piece buffer buffer' h long is e after =
    let o : h ≡ heading_in content = grind arith in
    let n : length piece ≡ 8 = ap length is ∙ simp length-drop (omega arith) in
    let p : place_of (headed h) ≡ 0 = omega arith in
    let l : min (left_of (headed h)) (length piece) ≡ min h.size 8 = omega arith in
    let f = headed_refusal c tail content piece (length buffer) h long is e in
    cc

pub begins_value :
    (c : Channel) (tail : Bool) (content piece : List ℕ) (room : ℕ) (h : Heading) (r : Result Outcome Refusal)
    → length content ≡ 32 → piece ≡ drop 24 content → Ok h ≡ or_else (heading_refusal c content) (heading_in content)
    → r ≡ or_else (carried_refusal (length piece) h.size (left_of (headed h)) tail room) (carried_outcome (length piece) (headed h) (Begins h))
    → r ≡ or_else (begin_refusal c tail content room) (due_outcome None First content)
begins_value c tail content piece room h r long is e was =
    let o : (heading_refusal c content ≡ None) × (h ≡ heading_in content) = (grind arith, grind arith) in
    let n : length piece ≡ 8 = ap length is ∙ simp length-drop (omega arith) in
    let p : place_of (headed h) ≡ 0 = omega arith in
    let l : left_of (headed h) ≡ h.size = omega arith in
    let f = headed_refusal c tail content piece room h long is e in
    cc
