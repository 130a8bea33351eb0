-- Bytes written into their place.
use Rattle.std.proofs.Common.{◌≡◌, ℕ, ◌-◌, ◌≤◌, min, List, [], ◌++◌, length, replicate, Ok, None, refl, ◌∙◌, arith, length-append}
use borrow.Rule.Slice.PartMut.{put_mid}
use Rattle.std.proofs.lemmas.List.{append_assoc, drop-drop, take_at, drop_at, drop-replicate}
use Rattle.frame.specs.Codec.{or_else, size_refusal}
use Rattle.message.specs.Copying.{written}
use Rattle.message.specs.Making.{padded, snap, two_bytes, four_bytes, m_len, header_bytes, header_refusal}

-- what a lent part leaves
pub part_written : (at k : ℕ) (part ys room : List ℕ) → ys ≡ part → k ≡ length part → put_mid at k room ys ≡ written at part room
unfolding written
part_written at k part ys room e h =
    cc (drop-drop k at room)

-- a part written behind what stands in front of zeros
pub written_next :
    (a b : List ℕ) (n i : ℕ) → length a ≡ i → written i b (a ++ replicate n 0) ≡ (a ++ b) ++ replicate (n - length b) 0
unfolding written
written_next a b n i h =
    let z : List ℕ = replicate n 0 in
    cc (
      take_at a z i h,
      drop_at a z i h,
      drop-drop (length b) i (a ++ z),
      drop-replicate {X = ℕ} (length b) n 0,
      append_assoc a b (replicate (n - length b) 0),
    )

pub written_padded : (b : List ℕ) → written 0 b (replicate 32 0) ≡ padded 32 b
unfolding padded
written_padded b = written_next [] b 32 0 refl

-- the six parts of a Header, one behind the other
header_written :
    (d s f : List ℕ) (t n : ℕ) → length d ≡ 6 → length s ≡ 6
    → written 24 f (written 22 (two_bytes t) (written 16 snap (written 12 (four_bytes (m_len n)) (written 6 s (written 0 d (replicate 32 0))))))
    ≡ header_bytes d s t n f
unfolding padded header_bytes
header_written d s f t n hd hs =
    let m = four_bytes (m_len n) in
    let k₂ : length (d ++ s) ≡ 12 = simp length-append (omega arith) in
    let k₃ : length ((d ++ s) ++ m) ≡ 16 = simp length-append (omega arith) in
    let k₄ : length (((d ++ s) ++ m) ++ snap) ≡ 22 = simp length-append (omega arith) in
    let k₅ : length ((((d ++ s) ++ m) ++ snap) ++ two_bytes t) ≡ 24 = simp length-append (omega arith) in
    let e : written 24 f (written 22 (two_bytes t) (written 16 snap (written 12 m (written 6 s (written 0 d (replicate 32 0))))))
    ≡ (((((d ++ s) ++ m) ++ snap) ++ two_bytes t) ++ f) ++ replicate (8 - length f) 0 =
    cc (
      written_next [] d 32 0 refl,
      written_next d s 26 6 hd,
      written_next (d ++ s) m 20 12 k₂,
      written_next ((d ++ s) ++ m) snap 16 16 k₃,
      written_next (((d ++ s) ++ m) ++ snap) (two_bytes t) 10 22 k₄,
      written_next ((((d ++ s) ++ m) ++ snap) ++ two_bytes t) f 8 24 k₅,
    ) in
    e ∙ simp append_assoc

-- bytes that are as many as were asked for
sized_is : (n : ℕ) (xs ys : List ℕ) → Ok ys ≡ or_else (size_refusal n (length xs)) xs → (length xs ≡ n) × (ys ≡ xs)
sized_is n xs ys h = (grind arith, grind arith)

-- the Header of what fits
pub header_of_parts :
    (d s D S f : List ℕ) (t n : ℕ) → Ok D ≡ or_else (size_refusal 6 (length d)) d → Ok S ≡ or_else (size_refusal 6 (length s)) s
    → n ≤ 4294967287 → length f ≡ min n 8
    → Ok (written 24 f (written 22 (two_bytes t) (written 16 snap (written 12 (four_bytes (m_len n)) (written 6 S (written 0 D (replicate 32 0)))))))
    ≡ or_else (header_refusal (length d) (length s) n (length f)) (header_bytes d s t n f)
header_of_parts d s D S f t n hd hs le e =
    let a = sized_is 6 d D hd in
    let b = sized_is 6 s S hs in
    let k : header_refusal (length d) (length s) n (length f) ≡ None = grind arith in
    cc (a.1, b.1, header_written d s f t n a.0 b.0, k)
