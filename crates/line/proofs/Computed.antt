-- What one test, which antt computes, shows of every number below a limit.
use Rattle.std.proofs.Common.{◌≡◌, ℕ, ◌<◌, Bool, true, sym, ap, ◌∙◌, zero-add, arith}
use Rattle.std.specs.List.{list_all, range_with_len}
use Rattle.std.proofs.lemmas.List.FromFn.{length-range_with_len, get_or-range_with_len}
use Rattle.std.proofs.lemmas.List.Sums.{AllPass-from_list_all}

abbrev pub below : (ℕ → Bool) → ℕ → Bool
below test n = list_all test (range_with_len 0 n)

pub at_below : (test : ℕ → Bool) (n : ℕ) → below test n ≡ true → (k : ℕ) → k < n → test k ≡ true
at_below test n t k h =
    ap test (sym (get_or-range_with_len 0 n k 0 h ∙ zero-add k))
    ∙ AllPass-from_list_all test (range_with_len 0 n) t k 0 (omega (arith, length-range_with_len 0 n))
