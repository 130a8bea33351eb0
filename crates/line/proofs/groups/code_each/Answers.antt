use Rattle.std.proofs.Common.{◌≡◌, ℕ, ◌+◌, ◌%◌, true, List, ℤ, get_or, set, pos, refl, ap, ◌∙◌, arith, w8, of_z, to_z, SFits, rules, below_more}
use borrow.Author.Differences.{ints}
use Rattle.std.proofs.lemmas.Int.{to_z-of_z}
use Rattle.std.proofs.lemmas.List.{get_or-set_same, get_or-set_other}
use Rattle.std.proofs.lemmas.List.FromFn.{fill_by_all}
use Rattle.std.specs.List.{list_all}
use Rattle.line.specs.Code.{group_of, in_range}
use Rattle.line.specs.Groups.{counts_after, word_at, words_of}
use Rattle.line.proofs.Laws.{range_true}
use Rattle.line.proofs.Passes.{all_get}
use Rattle.line.proofs.Run.{range_after, word_next, counts_next}
use Rattle.line.proofs.groups.code_each.Goals as goal

-- the count of a line, as the code passes it
count_at : (counts : List ℤ) (n : ℕ) → list_all in_range counts ≡ true → in_range (get_or counts n (pos 0)) ≡ true
count_at counts n t = all_get in_range counts n (pos 0) refl t

same : (count : ℤ) → in_range count ≡ true → to_z w8 (of_z w8 count) ≡ count
same count e =
    let r = range_true count e in
    let low = r.0 in
    let high = r.1 in
    to_z-of_z w8 count (omega (arith, ints))

pub group-requires : goal.group-requires
group-requires g c =
    let count = get_or c.loop-g.counts (c.loop-g.g % g.row.N) (pos 0) in
    let t = count_at c.loop-g.counts (c.loop-g.g % g.row.N) c.loop-g.invariant.range in
    record {
      code = omega (arith, c.loop-g.invariant.codes c.loop-g.g (omega arith), c.requires.codes c.loop-g.g);
      count = ap in_range (same count t) ∙ t;
    }

pub loop-g-preserved : goal.loop-g-preserved
loop-g-preserved g c =
    let rows = c.args.table.now in
    let codes = c.args.groups.now in
    let counts = c.args.counts in
    let so_far = c.loop-g.counts in
    let i = c.loop-g.g in
    let groups = c.loop-g.groups in
    let r = c.group.result in
    let count = get_or so_far (i % g.row.N) (pos 0) in
    let p : (r.0, r.1) ≡ group_of rows (get_or groups i 0) count =
    c.group.ensures ∙ ap (group_of rows (get_or groups i 0)) (same count (count_at so_far (i % g.row.N) c.loop-g.invariant.range)) in
    let q : get_or groups i 0 ≡ get_or codes i 0 = c.loop-g.invariant.codes i (omega arith) in
    let next_fits : SFits w8 r.1 = search rules in
    let next : set so_far (i % g.row.N) (to_z w8 (of_z w8 r.1)) ≡ counts_after rows g.row.N codes counts (i + 1) =
    ap (set so_far (i % g.row.N)) (to_z-of_z w8 r.1 next_fits)
    ∙ counts_next rows g.row.N codes counts so_far i (get_or groups i 0) r.0 r.1 c.loop-g.invariant.after q p in
    record {
      size = search rules;
      after = next;
      range = ap (list_all in_range) next ∙ range_after rows c.requires.good g.row.N codes c.requires.codes counts c.requires.counts (i + 1);
      words =
          below_more _ _
          (λ k h. get_or-set_other groups i k r.0 0 (λ e. absurd (omega arith)) ∙ c.loop-g.invariant.words k h)
          (get_or-set_same groups i r.0 0 (omega arith)
          ∙ word_next rows g.row.N codes counts so_far i (get_or groups i 0) r.0 r.1 c.loop-g.invariant.after q p);
      codes = λ k h. get_or-set_other groups i k r.0 0 (λ e. absurd (omega arith)) ∙ c.loop-g.invariant.codes k (omega arith);
    }

pub returns : goal.returns
unfolding words_of
returns g c =
    let e : c.loop-g.g ≡ 80 = omega arith in
    record {
      counts = c.loop-g.invariant.after ∙ ap (counts_after c.args.table.now g.row.N c.args.groups.now c.args.counts) e;
      groups =
          fill_by_all (word_at c.args.table.now g.row.N c.args.groups.now c.args.counts) c.loop-g.groups 80 0 c.loop-g.invariant.size
          (λ k h. c.loop-g.invariant.words k (omega arith));
    }
