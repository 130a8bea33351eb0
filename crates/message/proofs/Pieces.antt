-- Pieces of a payload, in a micropacket and in the buffer.
use Rattle.std.proofs.Common.{◌≡◌, ℕ, ◌+◌, ◌-◌, ◌≤◌, min, List, ◌++◌, length, take, drop, replicate, ◌∙◌, arith, length-append, length-drop, length-take}
use native.Mathlib.Nat.{min_comm}
use lib.ListN.{length-replicate}
use lib.Seq.{take-append-add}
use Rattle.std.proofs.lemmas.List.{append_assoc, drop-drop, take_at, drop_at, take-append-drop, length-take-le}
use Rattle.message.specs.Copying.{written}
use Rattle.message.specs.Making.{padded}

-- the first bytes and those that follow
pub take_on : (xs : List ℕ) (a n : ℕ) → a ≤ length xs → take (a + n) xs ≡ take a xs ++ take n (drop a xs)
take_on xs a n h =
    cc (length-take-le a xs h, take-append-drop a xs, take-append-add (take a xs) (drop a xs) n)

-- a piece comes out of its padding
pub piece_back : (n : ℕ) (xs : List ℕ) → take (min (length xs) n) (padded n (take n xs)) ≡ take n xs
unfolding padded
piece_back n xs = take_at (take n xs) (replicate (n - length (take n xs)) 0) (min (length xs) n) (length-take n xs ∙ min_comm n (length xs))

pub length_padded : (n : ℕ) (xs : List ℕ) → length xs ≤ n → length (padded n xs) ≡ n
unfolding padded
length_padded n xs h = simp (length-append, length-replicate) (omega arith)

pub length_piece : (n : ℕ) (xs : List ℕ) → length (padded n (take n xs)) ≡ n
length_piece n xs = length_padded n (take n xs) (simp length-take (omega arith))

-- a piece of the payload written behind those before it
pub piece_placed :
    (payload room : List ℕ) (at n : ℕ) → at ≤ length payload → length payload ≤ length room
    → written at (take n (drop at payload)) (take at payload ++ drop at room) ≡ take (at + n) payload ++ drop (at + min (length payload - at) n) room
unfolding written
piece_placed payload room at n h k =
    let part : List ℕ = take n (drop at payload) in
    let a : List ℕ = take at payload in
    let b : List ℕ = drop at room in
    let la = length-take-le at payload h in
    let lp : length part ≡ min (length payload - at) n = simp (length-take, length-drop) (omega arith) in
    cc (
      take_at a b at la,
      drop_at a b at la,
      drop-drop (length part) at (a ++ b),
      drop-drop (length part) at room,
      take_on payload at n h,
      append_assoc a part (drop (at + length part) room),
    )
