-- The laws of a frame that has gone out as groups.
use Rattle.std.proofs.Common.{◌≡◌, ℕ, ◌<◌, Bool, true, false, cond, List, length, get_or, ℤ, Ok, Err, Result, sym, refl, ap, ◌∙◌, subst, eq-eqb, arith}
use Rattle.std.proofs.lemmas.Bool.Decides.{nat_tests}
use Rattle.frame.specs.declared.refusal.Refusal.{Refusal}
use Rattle.frame.specs.declared.refusal.Refusal.TheVariants.{BadSize}
use Rattle.std.specs.List.{list_all}
use Rattle.line.specs.declared.counts.Counts.{Counts}
use Rattle.line.specs.declared.counts.Counts.TheVariants.{Wide, Narrow}
use Rattle.line.specs.Code.{in_range}
use Rattle.line.specs.Places.{lines}
use Rattle.line.specs.Tables.{standard_rows}
use Rattle.line.specs.Groups.{codes_of, counts_of, width_of, with_counts, goes, comes, coded_counts, coded_groups, sent, sent_groups, frame_of, Carried, GivenBack, AllStay}
use Rattle.line.proofs.Rows.{standard_good}
use Rattle.line.proofs.Run.{range_after}
use Rattle.line.proofs.Back.{code_small, words_length, are_words, carries, given_back}

replaced : (counts : Counts) (after : List ℤ) → counts_of (with_counts counts after) ≡ after
replaced (Wide counts) after = refl
replaced (Narrow counts) after = refl

pub record Laws (counts : Counts) (frame after : List ℕ) (r : Result Counts Refusal) : Type 0 where
  pub stay : AllStay r
  pub carried : Carried counts frame after r
  pub back : GivenBack counts frame after r

comes_in :
    (counts : Counts) (frame buffer : List ℕ) → length buffer ≡ 40 → comes (coded_groups counts frame) buffer ≡ true
comes_in counts frame buffer e =
    let w = width_of counts in
    let groups = coded_groups counts frame in
    rw (eq-eqb (length groups) 80 (words_length (lines w) (codes_of w frame) (counts_of counts)), eq-eqb (length buffer) 40 e)
    (are_words w (lines w) frame (counts_of counts))

gone :
    (counts : Counts) (frame : List ℕ) → ((b : ℕ) → get_or frame b 0 < 256) → length frame ≡ 40 → list_all in_range (counts_of counts) ≡ true
    → Laws counts frame (coded_groups counts frame) (Ok (with_counts counts (coded_counts counts frame)))
gone counts frame bytes len range =
    let w = width_of counts in
    record {
      stay =
          ap (list_all in_range) (replaced counts (coded_counts counts frame))
          ∙ range_after standard_rows standard_good (lines w) (codes_of w frame) (code_small w frame) (counts_of counts) range 80;
      carried = carries w (lines w) frame (counts_of counts);
      back = λ buffer e.
          let t = comes_in counts frame buffer e in (
            ap (λ (b : Bool). cond b (Ok tt) (Err BadSize)) t,
            ap (λ (b : Bool). cond b (frame_of w (coded_groups counts frame)) buffer) t
                ∙ given_back w (lines w) frame (counts_of counts) len bytes,
          );
    }

by_test :
    (counts : Counts) (frame before : List ℕ) (test : Bool) → (test ≡ true → Laws counts frame (coded_groups counts frame) (Ok (with_counts counts (coded_counts counts frame))))
    → Laws counts frame (cond test (coded_groups counts frame) before) (cond test (Ok (with_counts counts (coded_counts counts frame))) (Err BadSize))
by_test counts frame before true h = h refl
by_test counts frame before false h = record { stay = tt; carried = tt; back = tt }

pub laws :
    (counts : Counts) (frame before after : List ℕ) (r : Result Counts Refusal) → ((b : ℕ) → get_or frame b 0 < 256)
    → r ≡ sent counts frame before → after ≡ sent_groups counts frame before → Laws counts frame after r
laws counts frame before after r bytes e f =
    let here : Laws counts frame (sent_groups counts frame before) (sent counts frame before) =
    by_test counts frame before (goes counts frame before)
    (λ t. gone counts frame bytes (grind (arith, nat_tests)) (grind (arith, nat_tests))) in
    subst (λ (x : Result Counts Refusal). Laws counts frame after x) (sym e)
    (subst (λ (xs : List ℕ). Laws counts frame xs (sent counts frame before)) (sym f) here)
