-- What the syndrome of the link check tells of a frame.
use Rattle.std.proofs.Common.{◌≡◌, ℕ, zero, suc, ◌/◌, ◌%◌, ◌^◌, ◌<◌, ◌≤◌, Bool, true, false, cond, not, T, eqb, ◌≢◌, List, [], ◌∷◌, ◌++◌, map, length, get_or, set, sym, refl, ap, ◌∙◌, subst, ap₂, arith, lit<, lit≤, eqb→eq, length-set, get_or-set_other, get_or-set_same, eq-eqb}
use lib.Bits.{bit_xor, xor_zero_r}
use Rattle.std.proofs.lemmas.List.{map-append}
use Rattle.crc.specs.Laws.{Bytes}
use Rattle.crc.specs.Serial.{byte_in, through, residue}
use Rattle.crc.proofs.Burst.{keeps_its_width, residue_tells, shows_a_byte}
use Rattle.crc.proofs.Byte.{byte_by_byte}
use Rattle.crc.proofs.Flips.{turned, turned_lt}
use Rattle.crc.proofs.Table.{at_below}
use Rattle.frame.specs.Checks.{order, covered, link_check, received, syndrome_of, sealed, GoodIsZero, StompedIs06A9, FrameBitShows, SealedIsGood}

-- the generator has 16 bits and constant term 1
term : 2 ^ 15 ≤ 0x8408
term = lit≤ tt

fits : 0x8408 < 2 ^ 16
fits = lit< tt

pub check_lt : (xs : List ℕ) → link_check xs < 2 ^ 16
unfolding link_check
check_lt xs = keeps_its_width 0x8408 term fits 0xFFFF (covered xs) (lit< tt)

received_lt : (xs : List ℕ) → Bytes xs → received xs < 2 ^ 16
received_lt xs bytes = let a = bytes 32 in let b = bytes 33 in omega arith

-- the syndrome tells the difference between the two checks
tells :
    (xs : List ℕ) (d : ℕ) → Bytes xs → d < 2 ^ 16
    → (syndrome_of xs ≡ residue 0x8408 d 0 → received xs ≡ bit_xor (link_check xs) d)
    × (received xs ≡ bit_xor (link_check xs) d → syndrome_of xs ≡ residue 0x8408 d 0)
unfolding syndrome_of
tells xs d bytes h = residue_tells 0x8408 term fits (link_check xs) (received xs) d (check_lt xs) (received_lt xs bytes) h

of_nothing : residue 0x8408 0 0 ≡ 0
unfolding residue
of_nothing = refl

of_stomp : residue 0x8408 0x874D 0 ≡ 0x06A9
unfolding residue
of_stomp = refl

pub good_is_zero : GoodIsZero
good_is_zero xs n bytes =
    let t = tells xs 0 bytes (lit< tt) in (
      λ e. t.0 (e ∙ sym of_nothing) ∙ xor_zero_r (link_check xs),
      λ e. t.1 (e ∙ sym (xor_zero_r (link_check xs))) ∙ of_nothing,
    )

pub stomped_is_06A9 : StompedIs06A9
stomped_is_06A9 xs n bytes =
    let t = tells xs 0x874D bytes (lit< tt) in (λ e. t.0 (e ∙ sym of_stomp), λ e. t.1 e ∙ of_stomp)

-- bytes picked by their places
abbrev pick : List ℕ → List ℕ → List ℕ
pick os xs = map (λ i. get_or xs i 0) os

abbrev has : ℕ → List ℕ → Bool
has i [] = false
has i (o ∷ os) = cond (eqb o i) true (has i os)

abbrev once : ℕ → List ℕ → Bool
once i [] = false
once i (o ∷ os) = cond (eqb o i) (not (has i os)) (once i os)

-- a place that occurs once
record Split (os : List ℕ) (i : ℕ) : Type 0 where
  front : List ℕ
  back : List ℕ
  is : os ≡ front ++ i ∷ back
  no_front : has i front ≡ false
  no_back : has i back ≡ false

is_false : (b : Bool) → T (not b) → b ≡ false
is_false true t = absurd t
is_false false t = refl

split_at : (o : ℕ) (os : List ℕ) (i : ℕ) (b : Bool) → eqb o i ≡ b → (T (once i os) → Split os i) → T (cond b (not (has i os)) (once i os)) → Split (o ∷ os) i
split_at o os i true e rest t =
    record {
      front = [];
      back = os;
      is = ap (λ (n : ℕ). n ∷ os) (eqb→eq o i (subst T (sym e) tt));
      no_front = refl;
      no_back = is_false (has i os) t;
    }
split_at o os i false e rest t =
    let s = rest t in
    record {
      front = o ∷ s.front;
      back = s.back;
      is = ap (λ (l : List ℕ). o ∷ l) s.is;
      no_front = ap (λ (b : Bool). cond b true (has i s.front)) e ∙ s.no_front;
      no_back = s.no_back;
    }

split : (os : List ℕ) (i : ℕ) → T (once i os) → Split os i
split [] i t = absurd t
split (o ∷ os) i t = split_at o os i (eqb o i) refl (λ t. split os i t) t

apart : (o i : ℕ) → eqb o i ≡ false → o ≢ i
apart o i e p = let z : ◌≡◌ {A = ℕ} 0 1 = cc (eq-eqb o i p) in omega arith

-- what is picked elsewhere does not change
unmoved_at : (o : ℕ) (os xs : List ℕ) (i c : ℕ) (b : Bool) → eqb o i ≡ b → cond b true (has i os) ≡ false → (has i os ≡ false → pick os (set xs i c) ≡ pick os xs) → pick (o ∷ os) (set xs i c) ≡ pick (o ∷ os) xs
unmoved_at o os xs i c true e h rest = let z : ◌≡◌ {A = ℕ} 0 1 = cc in absurd (omega arith)
unmoved_at o os xs i c false e h rest =
    ap₂ (λ (x : ℕ) (l : List ℕ). x ∷ l) (get_or-set_other xs i o c 0 (apart o i e)) (rest h)

unmoved : (os xs : List ℕ) (i c : ℕ) → has i os ≡ false → pick os (set xs i c) ≡ pick os xs
unmoved [] xs i c h = refl
unmoved (o ∷ os) xs i c h = unmoved_at o os xs i c (eqb o i) refl h (unmoved os xs i c)

-- a byte that is picked once shows in the register
picked_shows :
    (os xs : List ℕ) (i c : ℕ) → T (once i os) → Bytes xs → i < length xs → c < 256
    → through 0x8408 0xFFFF (pick os (set xs i c)) ≡ through 0x8408 0xFFFF (pick os xs) → c ≡ get_or xs i 0
picked_shows os xs i c t bytes h hc e =
    let s = split os i t in
    let there : (ys : List ℕ) → pick os ys ≡ pick s.front ys ++ get_or ys i 0 ∷ pick s.back ys =
    λ ys. ap (λ (l : List ℕ). pick l ys) s.is ∙ map-append (λ i. get_or ys i 0) s.front (i ∷ s.back) in
    let new : pick os (set xs i c) ≡ pick s.front xs ++ c ∷ pick s.back xs =
    there (set xs i c) ∙ (let f = unmoved s.front xs i c s.no_front in let b = unmoved s.back xs i c s.no_back in let m = get_or-set_same xs i c 0 h in cc) in
    shows_a_byte 0x8408 term fits 0xFFFF c (get_or xs i 0) (pick s.front xs) (pick s.back xs) (lit< tt) hc (bytes i)
    (ap (through 0x8408 0xFFFF) (sym new) ∙ e ∙ ap (through 0x8408 0xFFFF) (there xs))

-- the whole frame in the order of transmission, its check too
unfoldable whole : List ℕ
whole = order ++ 33 ∷ 32 ∷ []

each_once : (i : ℕ) → i < 40 → T (once i whole)
unfolding whole order
each_once i h = at_below (λ i. once i whole) 40 tt i h

through_append : (p q : List ℕ) (r : ℕ) → through 0x8408 r (p ++ q) ≡ through 0x8408 (through 0x8408 r p) q
unfolding through
through_append [] q r = refl
through_append (b ∷ p) q r = through_append p q (byte_in 0x8408 r b)

-- the syndrome is the register after all of the frame
register_after : (xs : List ℕ) → Bytes xs → syndrome_of xs ≡ through 0x8408 0xFFFF (pick whole xs)
unfolding syndrome_of link_check covered whole through
register_after xs bytes =
    let a = bytes 33 in
    let lo : received xs % 256 ≡ get_or xs 33 0 = omega arith in
    let b = bytes 32 in
    let hi : received xs / 256 % 256 ≡ get_or xs 32 0 = omega arith in
    let R = through 0x8408 0xFFFF (pick order xs) in
    byte_by_byte 0x8408 R (received xs)
    ∙ ap₂ (λ (l h : ℕ). through 0x8408 R (l ∷ h ∷ [])) lo hi
    ∙ sym (through_append (pick order xs) (get_or xs 33 0 ∷ get_or xs 32 0 ∷ []) 0xFFFF)
    ∙ ap (through 0x8408 0xFFFF) (sym (map-append (λ i. get_or xs i 0) order (33 ∷ 32 ∷ [])))

bytes_set : (xs : List ℕ) (i c : ℕ) → Bytes xs → c < 256 → Bytes (set xs i c)
bytes_set [] i c b h k = b k
bytes_set (x ∷ xs) zero c b h zero = h
bytes_set (x ∷ xs) zero c b h (suc k) = b (suc k)
bytes_set (x ∷ xs) (suc i) c b h zero = b 0
bytes_set (x ∷ xs) (suc i) c b h (suc k) = bytes_set xs i c (λ j. b (suc j)) h k

pub frame_bit_shows : FrameBitShows
frame_bit_shows xs n len bytes h good bad =
    let i = n / 8 in
    let c = bit_xor (get_or xs i 0) (2 ^ (n % 8)) in
    let hc : c < 256 = turned_lt (get_or xs i 0) (n % 8) (bytes i) (omega arith) in
    let lt : i < 40 = omega arith in
    let within : i < length xs = omega arith in
    turned (get_or xs i 0) (n % 8)
    (picked_shows whole xs i c (each_once i lt) bytes within hc
    (sym (register_after (set xs i c) (bytes_set xs i c bytes hc)) ∙ bad ∙ sym good ∙ register_after xs bytes))

-- the check itself is not covered
not_covered : (xs : List ℕ) (a b : ℕ) → link_check (set (set xs 32 a) 33 b) ≡ link_check xs
unfolding link_check covered order
not_covered xs a b = ap (through 0x8408 0xFFFF) (unmoved order (set xs 32 a) 33 b refl ∙ unmoved order xs 32 a refl)

pub sealed_is_good : SealedIsGood
unfolding sealed
sealed_is_good xs len bytes =
    let check = link_check xs in
    let lt = check_lt xs in
    let a = check / 256 in
    let b = check % 256 in
    let first = set xs 32 a in
    let ys = set first 33 b in
    let size : length ys ≡ 40 = length-set first 33 b ∙ length-set xs 32 a ∙ len in
    let fits : Bytes ys = bytes_set first 33 b (bytes_set xs 32 a bytes (omega arith)) (omega arith) in
    let hi : get_or ys 32 0 ≡ a = get_or-set_other first 33 32 b 0 (λ e. absurd (omega arith)) ∙ get_or-set_same xs 32 a 0 (omega arith) in
    let lo : get_or ys 33 0 ≡ b = get_or-set_same first 33 b 0 (simp length-set (omega arith)) in
    let is : received ys ≡ check = omega arith in
    (good_is_zero ys size fits).1 (is ∙ sym (not_covered xs a b))
