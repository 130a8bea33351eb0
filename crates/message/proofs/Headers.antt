-- What stands in a Header's bytes.
use Rattle.std.proofs.Common.{◌≡◌, ℕ, ◌+◌, ◌-◌, ◌^◌, ◌<◌, true, List, ◌++◌, length, get_or, take, drop, sym, ap, ◌∙◌, arith, length-append}
use Rattle.std.specs.Str.{bytes_eq}
use Rattle.std.proofs.lemmas.List.{append_assoc, drop-drop, take_at, drop_at, get_or-drop}
use Rattle.std.proofs.lemmas.Nat.{from_be_bytes-to_be_bytes_4, from_be_bytes-to_be_bytes_2}
use Rattle.message.specs.Making.{Message, snap, two_bytes, four_bytes, padded, m_len, header_bytes, header_of}
use Rattle.message.specs.Reading.{two_at, four_at, heading_in}
use Rattle.message.specs.Whole.{heading_of}
use Rattle.message.proofs.Pieces.{length_piece}

-- what stands behind the two addresses
abbrev behind : Message → List ℕ
behind m = four_bytes (m_len (length m.payload)) ++ (snap ++ (two_bytes m.ether_type ++ padded 8 (take 8 m.payload)))

behind_addresses : (m : Message) → length m.destination ≡ 6 → length m.source ≡ 6 → drop 12 (header_of m).content ≡ behind m
unfolding header_bytes
behind_addresses m d s =
    let k : length (m.destination ++ m.source) ≡ 12 = simp length-append (omega arith) in
    ap (drop 12) (sym (append_assoc m.destination m.source (behind m))) ∙ drop_at (m.destination ++ m.source) (behind m) 12 k

-- an element behind them
element : (m : Message) (i : ℕ) → length m.destination ≡ 6 → length m.source ≡ 6 → get_or (header_of m).content (12 + i) 0 ≡ get_or (behind m) i 0
element m i d s = sym (get_or-drop 12 (header_of m).content i 0) ∙ ap (λ (xs : List ℕ). get_or xs i 0) (behind_addresses m d s)

pub m_len_stands :
    (m : Message) → length m.destination ≡ 6 → length m.source ≡ 6 → take 4 (drop 12 (header_of m).content) ≡ four_bytes (m_len (length m.payload))
m_len_stands m d s = ap (take 4) (behind_addresses m d s)

pub m_len_back :
    (m : Message) → length m.destination ≡ 6 → length m.source ≡ 6 → m_len (length m.payload) < 2 ^ 32 → four_at 12 (header_of m).content ≡ m_len (length m.payload)
m_len_back m d s h =
    omega (arith, element m 0 d s, element m 1 d s, element m 2 d s, element m 3 d s, from_be_bytes-to_be_bytes_4 (m_len (length m.payload)) h)

ether_type_back : (m : Message) → length m.destination ≡ 6 → length m.source ≡ 6 → m.ether_type < 2 ^ 16 → two_at 22 (header_of m).content ≡ m.ether_type
ether_type_back m d s h = omega (arith, element m 10 d s, element m 11 d s, from_be_bytes-to_be_bytes_2 m.ether_type h)

-- LLC/SNAP
pub snap_stands : (m : Message) → length m.destination ≡ 6 → length m.source ≡ 6 → bytes_eq (take 6 (drop 16 (header_of m).content)) snap ≡ true
snap_stands m d s =
    ap (λ (xs : List ℕ). bytes_eq (take 6 xs) snap) (sym (drop-drop 4 12 (header_of m).content) ∙ ap (drop 4) (behind_addresses m d s))

-- the first piece
pub first_stands : (m : Message) → length m.destination ≡ 6 → length m.source ≡ 6 → drop 24 (header_of m).content ≡ padded 8 (take 8 m.payload)
first_stands m d s = sym (drop-drop 12 12 (header_of m).content) ∙ ap (drop 12) (behind_addresses m d s)

pub length_header : (m : Message) → length m.destination ≡ 6 → length m.source ≡ 6 → length (header_of m).content ≡ 32
unfolding header_bytes
length_header m d s =
    let p = length_piece 8 m.payload in
    simp length-append (omega arith)

-- all that a Header says
pub heading_back :
    (m : Message) → length m.destination ≡ 6 → length m.source ≡ 6 → m.ether_type < 2 ^ 16 → m_len (length m.payload) < 2 ^ 32
    → heading_in (header_of m).content ≡ heading_of m
unfolding header_bytes
heading_back m d s t n =
    let a : take 6 (header_of m).content ≡ m.destination = take_at m.destination _ 6 d in
    let b : take 6 (drop 6 (header_of m).content) ≡ m.source = ap (take 6) (drop_at m.destination _ 6 d) ∙ take_at m.source _ 6 s in
    let e = ether_type_back m d s t in
    let f : four_at 12 (header_of m).content - 8 ≡ length m.payload = ap (λ (x : ℕ). x - 8) (m_len_back m d s n) ∙ omega arith in
    cc
