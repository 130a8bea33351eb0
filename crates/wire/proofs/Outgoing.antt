-- A frame goes out as groups, and the groups carry it.
use Rattle.std.proofs.Common.{◌≡◌, ℕ, true, false, eqb, List, length, replicate, ℤ, Ok, Err, sym, refl, ◌∙◌, arith}
use Rattle.std.proofs.lemmas.Bool.{eq-eqb}
use Rattle.std.specs.List.{list_all}
use Rattle.frame.specs.declared.refusal.Refusal.{Refusal}
use Rattle.line.specs.declared.counts.Counts.{Counts}
use Rattle.line.specs.declared.counts.Counts.TheVariants.{Wide, Narrow}
use Rattle.line.specs.declared.width.Width.{Width}
use Rattle.line.specs.declared.width.Width.TheVariants as width
use Rattle.line.specs.Code.{in_range}
use Rattle.line.specs.Groups.{counts_of, width_of, with_counts, fresh, coded_counts, sent, sent_groups, Gives}
use Rattle.wire.specs.Lines.{carried, running, groups_out, counts_out, Coded}

width_with : (counts : Counts) (after : List ℤ) → width_of (with_counts counts after) ≡ width_of counts
width_with (Wide counts) after = refl
width_with (Narrow counts) after = refl

pub width_fresh : (w : Width) → width_of (fresh w) ≡ w
width_fresh width.Wide = refl
width_fresh width.Narrow = refl

running_off : (counts : Counts) → list_all in_range (counts_of counts) ≡ false → running counts ≡ fresh (width_of counts)
unfolding running
running_off counts f = rw f refl

running_fresh : (w : Width) → running (fresh w) ≡ fresh w
unfolding running
running_fresh width.Wide = refl
running_fresh width.Narrow = refl

-- a frame that went out did so from counts in range
module _ (counts : Counts) (frame start : List ℕ) (size : length frame ≡ 40) (wide : length start ≡ 80) where
  pub went : (groups : List ℕ) (after : Counts) → Ok after ≡ sent counts frame start → groups ≡ sent_groups counts frame start → Gives (width_of counts) groups frame → Coded counts frame groups after
  unfolding groups_out counts_out carried running
  went groups after e s b =
      let f : eqb (length frame) 40 ≡ true = eq-eqb _ _ size in
      let g : eqb (length start) 80 ≡ true = eq-eqb _ _ wide in
      let same = width_with counts (coded_counts counts frame) in
      record { out = grind (arith, f, g); moved = grind (arith, f, g); back = (b (replicate 40 0) refl).1; width = grind (arith, f, g, same) }

  -- one that did not was to go out from counts that no line comes to, and goes out as if all were 0
  pub afresh : (why : Refusal) (groups : List ℕ) (after : Counts) → Err why ≡ sent counts frame start → Coded (fresh (width_of counts)) frame groups after → Coded counts frame groups after
  unfolding groups_out counts_out
  afresh why groups after e w =
      let f : eqb (length frame) 40 ≡ true = eq-eqb _ _ size in
      let g : eqb (length start) 80 ≡ true = eq-eqb _ _ wide in
      let off : list_all in_range (counts_of counts) ≡ false = grind (arith, f, g) in
      let run : running (fresh (width_of counts)) ≡ running counts = running_fresh (width_of counts) ∙ sym (running_off counts off) in
      record {
        out = rw run at w.out;
        moved = rw run at w.moved;
        back = rw (width_fresh (width_of counts)) at w.back;
        width = w.width ∙ width_fresh (width_of counts);
      }
