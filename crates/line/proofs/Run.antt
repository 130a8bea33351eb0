-- The counts of all lines while the groups of a frame go out.
use Rattle.std.proofs.Common.{◌≡◌, ℕ, zero, suc, ◌+◌, ◌%◌, ◌<◌, true, List, length, get_or, set, ℤ, pos, negsuc, ◌≤ℤ◌, refl, ap, ◌∙◌, ap₂, add-one, arith}
use borrow.Author.Differences.{ints}
use Rattle.std.proofs.lemmas.List.{length-set}
use Rattle.std.specs.List.{list_all}
use Rattle.line.specs.Code.{group_of, in_range}
use Rattle.line.specs.Tables.{Good}
use Rattle.line.specs.Groups.{counts_after, word_at}
use Rattle.line.proofs.Laws.{stays, range_true}
use Rattle.line.proofs.Passes.{all_get, all_set}

true_range : (count : ℤ) → negsuc 4 ≤ℤ count → count ≤ℤ pos 4 → in_range count ≡ true
true_range count l h = grind (arith, ints)

pub length_after :
    (rows : List (ℕ × ℕ)) (m : ℕ) (codes : List ℕ) (counts : List ℤ) (g : ℕ) → length (counts_after rows m codes counts g) ≡ length counts
unfolding counts_after
length_after rows m codes counts zero = refl
length_after rows m codes counts (suc g) =
    length-set (counts_after rows m codes counts g) (g % m) _ ∙ length_after rows m codes counts g

-- each count stays in range
pub range_after :
    (rows : List (ℕ × ℕ)) → Good rows → (m : ℕ) (codes : List ℕ) → ((g : ℕ) → get_or codes g 0 < 16) → (counts : List ℤ)
    → list_all in_range counts ≡ true → (g : ℕ) → list_all in_range (counts_after rows m codes counts g) ≡ true
unfolding counts_after
range_after rows good m codes small counts t zero = t
range_after rows good m codes small counts t (suc g) =
    let so_far = counts_after rows m codes counts g in
    let before = range_after rows good m codes small counts t g in
    let count = get_or so_far (g % m) (pos 0) in
    let r = range_true count (all_get in_range so_far (g % m) (pos 0) refl before) in
    let s = stays rows good (get_or codes g 0) count (small g) r.0 r.1 in
    all_set in_range so_far (g % m) (group_of rows (get_or codes g 0) count).1 before (true_range _ s.0 s.1)

-- one more group
pub word_next :
    (rows : List (ℕ × ℕ)) (m : ℕ) (codes : List ℕ) (counts so_far : List ℤ) (g code word : ℕ) (next : ℤ)
    → so_far ≡ counts_after rows m codes counts g → code ≡ get_or codes g 0
    → (word, next) ≡ group_of rows code (get_or so_far (g % m) (pos 0)) → word ≡ word_at rows m codes counts g
word_next rows m codes counts so_far g code word next e f p =
    ap (λ (x : ℕ × ℤ). x.0) p
    ∙ ap₂ (λ (x : ℕ) (ys : List ℤ). (group_of rows x (get_or ys (g % m) (pos 0))).0) f e

pub counts_next :
    (rows : List (ℕ × ℕ)) (m : ℕ) (codes : List ℕ) (counts so_far : List ℤ) (g code word : ℕ) (next : ℤ)
    → so_far ≡ counts_after rows m codes counts g → code ≡ get_or codes g 0
    → (word, next) ≡ group_of rows code (get_or so_far (g % m) (pos 0))
    → set so_far (g % m) next ≡ counts_after rows m codes counts (g + 1)
unfolding counts_after
counts_next rows m codes counts so_far g code word next e f p =
    rw add-one
    (ap (λ (x : ℕ × ℤ). set so_far (g % m) x.1) p
    ∙ ap₂ (λ (x : ℕ) (ys : List ℤ). set ys (g % m) (group_of rows x (get_or ys (g % m) (pos 0))).1) f e)
