-- The groups of a frame give that frame.
use Rattle.std.proofs.Common.{◌≡◌, ℕ, ◌+◌, ◌*◌, ◌/◌, ◌%◌, ◌^◌, ◌<◌, ◌≤◌, true, List, map, length, get_or, ℤ, pos, sym, ap, ◌∙◌, subst, ap₂, inl, inr, arith, lt-ltb}
use Rattle.std.proofs.lemmas.Bool.{cases_lt}
use Rattle.std.proofs.lemmas.List.Elements.{All-from_get_or}
use Rattle.std.proofs.lemmas.List.Sums.{list_all-from_AllPass}
use Rattle.std.specs.List.{list_all, range_with_len}
use Rattle.std.proofs.lemmas.List.FromFn.{get_or-map-range_with_len, length-map-range_with_len}
use Rattle.std.proofs.lemmas.List.{ext_get_or, get_or_past}
use Rattle.line.specs.declared.width.Width.{Width}
use Rattle.line.specs.Code.{decoded, is_word}
use Rattle.line.specs.Places.{place, group_at}
use Rattle.line.specs.Tables.{standard_rows}
use Rattle.line.specs.Groups.{number, frame_bit, group_bit, code_at, codes_of, counts_after, word_at, words_of, frame_of}
use Rattle.line.proofs.Rows.{standard_good, standard_told}
use Rattle.line.proofs.Laws.{undone, word_lt}
use Rattle.line.proofs.Nibbles.{whole, nibble, nibble_bit, low_nibble, high_nibble, source, code_nibble, groups_once}
use Rattle.line.proofs.Bytes.{byte}

code_of : (w : Width) (frame : List ℕ) (g : ℕ) → g < 80 → get_or (codes_of w frame) g 0 ≡ nibble frame (source w g)
unfolding codes_of
code_of w frame g h = get_or-map-range_with_len (code_at w frame) 0 80 g g 0 h (omega arith) ∙ code_nibble w frame g h

codes_length : (w : Width) (frame : List ℕ) → length (codes_of w frame) ≡ 80
unfolding codes_of
codes_length w frame = length-map-range_with_len (code_at w frame) 0 80

-- each code has four bits
pub code_small : (w : Width) (frame : List ℕ) (g : ℕ) → get_or (codes_of w frame) g 0 < 16
code_small w frame g =
    elim (cases_lt g 80) [
      | inl h ↦ subst (λ (m : ℕ). m < 16) (sym (code_of w frame g h)) (omega arith)
      | inr h ↦
          subst (λ (m : ℕ). m < 16) (sym (get_or_past (codes_of w frame) g 0 (subst (λ (m : ℕ). m ≤ g) (sym (codes_length w frame)) h)))
          (omega arith)
    ]

word_of : (w : Width) (lines : ℕ) (frame : List ℕ) (counts : List ℤ) (g : ℕ) → g < 80
    → get_or (words_of standard_rows lines (codes_of w frame) counts) g 0 ≡ word_at standard_rows lines (codes_of w frame) counts g
unfolding words_of
word_of w lines frame counts g h = get_or-map-range_with_len (word_at standard_rows lines (codes_of w frame) counts) 0 80 g g 0 h (omega arith)

pub words_length : (lines : ℕ) (codes : List ℕ) (counts : List ℤ) → length (words_of standard_rows lines codes counts) ≡ 80
unfolding words_of
words_length lines codes counts = length-map-range_with_len (word_at standard_rows lines codes counts) 0 80

pub are_words :
    (w : Width) (lines : ℕ) (frame : List ℕ) (counts : List ℤ) → list_all is_word (words_of standard_rows lines (codes_of w frame) counts) ≡ true
are_words w lines frame counts =
    list_all-from_AllPass is_word (words_of standard_rows lines (codes_of w frame) counts)
    (All-from_get_or (λ x. is_word x ≡ true) (words_of standard_rows lines (codes_of w frame) counts) 0
    (λ g h.
    let l : g < 80 = omega (arith, words_length lines (codes_of w frame) counts) in
    lt-ltb _ 32
    (subst (λ (m : ℕ). m < 32) (sym (word_of w lines frame counts g l))
    (word_lt standard_rows standard_good (get_or (codes_of w frame) g 0)
    (get_or (counts_after standard_rows lines (codes_of w frame) counts g) (g % lines) (pos 0)) (code_small w frame g)))))

-- the group of four bits of a frame is decoded to them
decodes_to :
    (w : Width) (lines : ℕ) (frame : List ℕ) (counts : List ℤ) (h : ℕ) → h < 80
    → decoded (get_or (words_of standard_rows lines (codes_of w frame) counts) (group_at w h) 0) ≡ nibble frame h
decodes_to w lines frame counts h l =
    let g = group_at w h in
    let in_g : g < 80 = (groups_once w).within h l in
    let r = (groups_once w).reach g in_g in
    ap decoded (word_of w lines frame counts g in_g)
    ∙ undone standard_rows standard_good standard_told (get_or (codes_of w frame) g 0)
    (get_or (counts_after standard_rows lines (codes_of w frame) counts g) (g % lines) (pos 0)) (code_small w frame g)
    ∙ code_of w frame g in_g
    ∙ ap (nibble frame) ((groups_once w).apart (source w g) h r.0 l r.1)

-- every bit of a frame stands at its place
pub carries :
    (w : Width) (lines : ℕ) (frame : List ℕ) (counts : List ℤ) (n : ℕ) → n < 320
    → group_bit (words_of standard_rows lines (codes_of w frame) counts) (place w n) ≡ frame_bit frame n
carries w lines frame counts n l =
    let groups = words_of standard_rows lines (codes_of w frame) counts in
    let e = whole w n l in
    let q : place w n / 4 ≡ group_at w (n / 4) = omega (arith, e) in
    let r : place w n % 4 ≡ n % 4 = omega (arith, e) in
    ap₂ (λ (a b : ℕ). decoded (get_or groups a 0) / 2 ^ b % 2) q r
    ∙ ap (λ (x : ℕ). x / 2 ^ (n % 4) % 2) (decodes_to w lines frame counts (n / 4) (omega arith))
    ∙ nibble_bit frame n

pub given_back :
    (w : Width) (lines : ℕ) (frame : List ℕ) (counts : List ℤ) → length frame ≡ 40 → ((b : ℕ) → get_or frame b 0 < 256)
    → frame_of w (words_of standard_rows lines (codes_of w frame) counts) ≡ frame
unfolding frame_of
given_back w lines frame counts len small =
    let groups = words_of standard_rows lines (codes_of w frame) counts in
    let F : ℕ → ℕ = λ b. number 8 (λ j. group_bit groups (place w (8 * b + j))) in
    let size : length (map F (range_with_len 0 40)) ≡ 40 = length-map-range_with_len F 0 40 in
    ext_get_or 0 (map F (range_with_len 0 40)) frame (size ∙ sym len)
    (λ b h.
    let l : b < 40 = omega (arith, size) in
    let p = decodes_to w lines frame counts (2 * b) (omega arith) in
    let q = decodes_to w lines frame counts (2 * b + 1) (omega arith) in
    let e : nibble frame (2 * b) + 16 * nibble frame (2 * b + 1) ≡ get_or frame b 0 =
    ap₂ (λ (x y : ℕ). x + 16 * y) (low_nibble frame b) (high_nibble frame b (small b)) ∙ omega arith in
    get_or-map-range_with_len F 0 40 b b 0 l (omega arith)
    ∙ byte w groups b l (omega (arith, p)) (omega (arith, q))
    ∙ ap₂ (λ (x y : ℕ). x + 16 * y) p q
    ∙ e)
