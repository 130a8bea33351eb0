-- The laws of numbers that come round, for every count of numbers M and every window W below it.
use Rattle.std.specs.Prelude.{◌≡◌, ℕ, ◌+◌, ◌-◌, ◌%◌, ◌<◌, ◌≤◌, List, [], ◌∷◌, ◌++◌, length, Some, None, Option, ◌==◌, slice_index}
use Rattle.numbers.specs.Round.{code, due, run, freed_among, freed_at_once}
use Rattle.numbers.specs.Wires.{Flight, Rising, Sound, Reached}

-- two counts less than M apart that have one number are one
abbrev pub SameNumber : Type 0
SameNumber = (M a k : ℕ) → a % M ≡ k % M → a < k + M → k < a + M → a ≡ k

-- two counts less than M apart that are told alike are one
abbrev pub SameCode : Type 0
SameCode = (M a b : ℕ) → code M a ≡ code M b → a < b + M → b < a + M → a ≡ b

-- What an end keeps of numbers says what it should: F were freed, which `last` tells, and `ever` after them were
-- sent, the oldest of which has the number `oldest`.
pub record Held (M F : ℕ) (last : Option ℕ) (oldest ever : ℕ) : Type 0 where
  pub narrow : ever < M
  pub taken : last ≡ code M F
  pub from : 0 < ever → oldest ≡ F % M

-- each step on a wire keeps what is said of it
pub record Kept : Type 0 where
  -- a copy goes on last: of one that was sent and is not freed, in a window below M
  pub put :
      (M W S A F k : ℕ) (ks : List ℕ) → W < M → F ≤ k → k < S → A ≤ S → S ≤ F + W → Flight M S A ks → Flight M S A (ks ++ (k ∷ []))
  -- more are sent
  pub sent : (M S T A : ℕ) (ks : List ℕ) → S ≤ T → Flight M S A ks → Flight M T A ks
  -- the oldest copy comes off, and is not accepted or is
  pub drop : (M S A k : ℕ) (ks : List ℕ) → Flight M S A (k ∷ ks) → Flight M S A ks
  pub accept : (M S A : ℕ) (ks : List ℕ) → Flight M S A (A ∷ ks) → Flight M S (A + 1) ks
  -- an acknowledgement of all that were accepted goes on last
  pub told : (F A : ℕ) (counts : List ℕ) → Rising F A counts → Rising F A (counts ++ (A ∷ []))
  -- more are accepted
  pub more : (F A B : ℕ) (counts : List ℕ) → A ≤ B → Rising F A counts → Rising F B counts
  -- the oldest acknowledgement comes off, and frees or is not read
  pub free : (F A a : ℕ) (counts : List ℕ) → Rising F A (a ∷ counts) → Rising a A counts
  pub miss : (F A a : ℕ) (counts : List ℕ) → Rising F A (a ∷ counts) → Rising F A counts

-- what is said of the copies on a wire, told by places: of each one, and of each two
abbrev pub Placed : ℕ → ℕ → ℕ → List ℕ → Type 0
Placed M S A ks =
    ((i : ℕ) → i < length ks → (slice_index ks i < S) × (A + 1 ≤ slice_index ks i + M))
    × ((i j : ℕ) → i < j → j < length ks → slice_index ks i + 2 ≤ slice_index ks j + M)

abbrev pub Places : Type 0
Places = (M S A : ℕ) (ks : List ℕ) → (Flight M S A ks → Placed M S A ks) × (Placed M S A ks → Flight M S A ks)

-- Numbers suffice, with M of them and a window W: whatever is loaded, sent, sent again, lost, accepted and
-- acknowledged, a copy has the number that is due exactly where it is of the next to accept, and an acknowledgement is
-- legal and frees exactly up to its count.
pub record Suffice (M W : ℕ) : Type 0 where
  pub stays : {N S A F : ℕ} {out back : List ℕ} → Reached M W N S A F out back → Sound M W N S A F out back
  pub dues : {N S A F k : ℕ} {out back : List ℕ} → Reached M W N S A F (k ∷ out) back → (k % M == due M (code M A)) ≡ (k == A)
  pub legal :
      {N S A F a : ℕ} {out back : List ℕ} (r : ℕ) →
      Reached M W N S A F out (a ∷ back) →
      code M a ≡ Some r →
      freed_among (code M F) (run M F (S - F)) r ≡ Some (a - F)

-- and something does come through: any number of them are loaded, sent, accepted and freed
abbrev pub Delivers : ℕ → ℕ → Type 0
Delivers M W = (n : ℕ) → Reached M W n n n n [] []

-- Of 255 numbers, 251 to 254 and 0 to 5 were sent, and 250 was taken last: 5 frees ten, 250 none, and 6 is illegal.
pub record Figures : Type 0 where
  pub sent : run 255 251 10 ≡ 251 ∷ 252 ∷ 253 ∷ 254 ∷ 0 ∷ 1 ∷ 2 ∷ 3 ∷ 4 ∷ 5 ∷ []
  pub ten : freed_among (Some 250) (run 255 251 10) 5 ≡ Some 10
  pub none : freed_among (Some 250) (run 255 251 10) 250 ≡ Some 0
  pub illegal : freed_among (Some 250) (run 255 251 10) 6 ≡ None
  pub ten_at_once : freed_at_once 255 (Some 250) 251 10 5 ≡ Some 10
  pub none_at_once : freed_at_once 255 (Some 250) 251 10 250 ≡ Some 0
  pub illegal_at_once : freed_at_once 255 (Some 250) 251 10 6 ≡ None
