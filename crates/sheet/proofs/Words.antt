-- The words of a line: their bytes, and how many they are.
use Rattle.std.proofs.Common.{◌≡◌, ℕ, ◌<◌, ◌≤◌, Bool, true, false, List, [], ◌∷◌, map, length, get_or, slice_index_or, Bor, refl, sym, ap, subst, None, Err, arith, rules, codes, ◌-◌, ◌∙◌, take, drop}
use Rattle.std.proofs.lemmas.List.{get_or-map, length-map, drop_more}
use Rattle.std.proofs.lemmas.Slice.{between_to_end}
use Rattle.std.proofs.lemmas.Slice.Eq.{bytes_eq-Decides}
use Rattle.std.proofs.lemmas.Str.{IsUtf8-from_ascii}
use Rattle.std.proofs.lemmas.Str.Ascii.{IsAscii-from_all}
use Rattle.std.specs.Str.{IsUtf8, IsAscii}
use Rattle.sheet.specs.declared.trouble.Trouble.TheVariants.{NotUnderstood}
use Rattle.sheet.specs.Asks.{by_first}
use Rattle.sheet.specs.Lines.{says, width_in}

pub word_is :
    (ws : List (Bor (List ℕ))) (i : ℕ) → i < length ws
    → slice_index_or (map (λ x. x.now) ws) i [] ≡ (get_or ws i (record { ref_ptr = (0, 0); now = [] })).now
word_is ws i h = get_or-map (λ x. x.now) ws i _ _ h

pub ruleset words = (word_is, length-map)

-- a line's first word, and the words behind it
pub first_is :
    (ws : List (Bor (List ℕ))) → 1 ≤ length ws
    → map (λ x. x.now) ws ≡ (get_or ws 0 (record { ref_ptr = (0, 0); now = [] })).now ∷ map (λ x. x.now) (take (length ws - 1) (drop 1 ws))
first_is ws h =
    ap (λ (l : List (Bor (List ℕ))). map (λ x. x.now) l)
    (drop_more ws 0 (record { ref_ptr = (0, 0); now = [] }) (omega arith)
    ∙ ap (λ (l : List (Bor (List ℕ))). get_or ws 0 (record { ref_ptr = (0, 0); now = [] }) ∷ l) (sym (between_to_end ws 1 (length ws) (omega arith))))

pub none_is : (ws : List (Bor (List ℕ))) → length ws < 1 → map (λ x. x.now) ws ≡ []
none_is [] h = refl
none_is (w ∷ ws) h = absurd (omega arith)

pub ruleset cuts = (first_is, none_is)

-- what is no text is no word that is one
said : (b : Bool) (w t : List ℕ) → (b ≡ true → w ≡ t) → ¬ (IsUtf8 w) → IsUtf8 t → b ≡ false
said true w t d n u = absurd (n (subst IsUtf8 (sym (d refl)) u))
said false w t d n u = refl

pub not_text : (w t : List ℕ) → IsAscii t → ¬ (IsUtf8 w) → says w t ≡ false
unfolding says
not_text w t u n = said _ w t (bytes_eq-Decides w t).0 n (IsUtf8-from_ascii t u)

-- so it is none that a line begins with
pub no_first : (w : List ℕ) (ws : List (List ℕ)) → ¬ (IsUtf8 w) → by_first w ws ≡ Err NotUnderstood
no_first w ws n =
    let frame = not_text w (codes "frame") (IsAscii-from_all (codes "frame") (search rules)) n in
    let fields = not_text w (codes "fields") (IsAscii-from_all (codes "fields") (search rules depth 12)) n in
    let code = not_text w (codes "code") (IsAscii-from_all (codes "code") (search rules)) n in
    let decode = not_text w (codes "decode") (IsAscii-from_all (codes "decode") (search rules depth 12)) n in
    let lines = not_text w (codes "lines") (IsAscii-from_all (codes "lines") (search rules)) n in
    let unlines = not_text w (codes "unlines") (IsAscii-from_all (codes "unlines") (search rules depth 12)) n in
    let wire = not_text w (codes "wire") (IsAscii-from_all (codes "wire") (search rules)) n in
    let fates = not_text w (codes "fates") (IsAscii-from_all (codes "fates") (search rules)) n in
    let put = not_text w (codes "w") (IsAscii-from_all (codes "w") (search rules)) n in
    rw (frame, fields, code, decode, lines, unlines, wire, fates, put)

-- nor is what is longer than all of them
longer : (b : Bool) (w t : List ℕ) → (b ≡ true → w ≡ t) → length t < length w → b ≡ false
longer true w t d h = let e : length w ≡ length t = ap length (d refl) in absurd (omega arith)
longer false w t d h = refl

pub not_longer : (w t : List ℕ) → length t < length w → says w t ≡ false
unfolding says
not_longer w t h = longer _ w t (bytes_eq-Decides w t).0 h

pub no_long_first : (w : List ℕ) (ws : List (List ℕ)) → 7 < length w → by_first w ws ≡ Err NotUnderstood
no_long_first w ws h =
    let frame = not_longer w (codes "frame") (omega arith) in
    let fields = not_longer w (codes "fields") (omega arith) in
    let code = not_longer w (codes "code") (omega arith) in
    let decode = not_longer w (codes "decode") (omega arith) in
    let lines = not_longer w (codes "lines") (omega arith) in
    let unlines = not_longer w (codes "unlines") (omega arith) in
    let wire = not_longer w (codes "wire") (omega arith) in
    let fates = not_longer w (codes "fates") (omega arith) in
    let put = not_longer w (codes "w") (omega arith) in
    rw (frame, fields, code, decode, lines, unlines, wire, fates, put)

pub no_long_width : (w : List ℕ) → 6 < length w → width_in w ≡ None
no_long_width w h =
    let wide = not_longer w (codes "wide") (omega arith) in
    let narrow = not_longer w (codes "narrow") (omega arith) in
    rw (wide, narrow)

pub ruleset texts = (not_text, bytes_eq-Decides)
