-- Copies and acknowledgements on two wires that keep the order: of each copy the count k of what it is a copy of,
-- and of each acknowledgement the count a that it tells. The oldest comes first.
use Rattle.std.specs.Prelude.{◌≡◌, ℕ, ◌+◌, ◌-◌, ◌%◌, ◌<◌, ◌≤◌, max, List, [], ◌∷◌, ◌++◌, Some}
use Rattle.numbers.specs.Round.{code, due, run, freed_among}

-- each of ks, which all come after j, is at most M - 2 behind it
abbrev pub Near : ℕ → ℕ → List ℕ → Type 0
Near M j [] = Unit {0}
Near M j (k ∷ ks) = (j + 2 ≤ k + M) × Near M j ks

-- copies of the first S, on their way to an end that accepted A: none is M or more behind what is due there
abbrev pub Flight : ℕ → ℕ → ℕ → List ℕ → Type 0
Flight M S A [] = Unit {0}
Flight M S A (k ∷ ks) = (k < S) × (A + 1 ≤ k + M) × Near M k ks × Flight M S A ks

-- counts that rise from F to at most A
abbrev pub Rising : ℕ → ℕ → List ℕ → Type 0
Rising F A [] = F ≤ A
Rising F A (a ∷ more) = (F ≤ a) × Rising a A more

-- One direction at a moment: N were loaded, S of them sent at least once, A accepted at the other end, and F freed
-- again; `out` has the copies on the wire there, and `back` the counts on the wire back. W is the window.
pub record Sound (M W N S A F : ℕ) (out back : List ℕ) : Type 0 where
  pub accepted_sent : A ≤ S
  pub sent_loaded : S ≤ N
  pub loaded_held : N ≤ F + W
  pub flight : Flight M S A out
  pub rising : Rising F A back

-- The moments that one direction comes to. Whether a copy is accepted, and how many an acknowledgement frees, is
-- decided by numbers alone, and not by the counts behind them.
pub data Reached (M W : ℕ) : ℕ → ℕ → ℕ → ℕ → List ℕ → List ℕ → Type 0 where
  start : Reached M W 0 0 0 0 [] []
  loads : {N S A F : ℕ} {out back : List ℕ} → N < F + W → Reached M W N S A F out back → Reached M W (N + 1) S A F out back
  sends :
      {N S A F : ℕ} {out back : List ℕ} (k : ℕ) →
      F ≤ k →
      k ≤ S →
      k < N →
      Reached M W N S A F out back →
      Reached M W N (max S (k + 1)) A F (out ++ (k ∷ [])) back
  loses :
      {N S A F : ℕ} {out back : List ℕ} (k : ℕ) →
      F ≤ k →
      k ≤ S →
      k < N →
      Reached M W N S A F out back →
      Reached M W N (max S (k + 1)) A F out back
  passes : {N S A F k : ℕ} {out back : List ℕ} → Reached M W N S A F (k ∷ out) back → Reached M W N S A F out back
  accepts :
      {N S A F k : ℕ} {out back : List ℕ} →
      k % M ≡ due M (code M A) →
      Reached M W N S A F (k ∷ out) back →
      Reached M W N S (A + 1) F out back
  tells : {N S A F : ℕ} {out back : List ℕ} → Reached M W N S A F out back → Reached M W N S A F out (back ++ (A ∷ []))
  misses : {N S A F a : ℕ} {out back : List ℕ} → Reached M W N S A F out (a ∷ back) → Reached M W N S A F out back
  frees :
      {N S A F a : ℕ} {out back : List ℕ} (r x : ℕ) →
      code M a ≡ Some r →
      freed_among (code M F) (run M F (S - F)) r ≡ Some x →
      Reached M W N S A F out (a ∷ back) →
      Reached M W N S A (F + x) out back
