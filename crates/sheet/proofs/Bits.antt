-- Five bits, as `{:05b}` writes them.
use Rattle.std.proofs.Common.{◌≡◌, ℕ, ◌-◌, ◌^◌, ◌/◌, ◌%◌, Bool, true, false, [], refl, ◌∙◌, arith}
use Rattle.std.proofs.lemmas.Slice.Eq.{bytes_eq-Decides}
use Rattle.std.specs.Fmt.{digits, padded_integral, format_spec, char_count}
use Rattle.std.specs.Str.{bytes_eq}
use Rattle.line.proofs.Computed.{below, at_below}
use Rattle.sheet.specs.Shown.{shown_bits}

abbrev test : ℕ → Bool
test n = bytes_eq (padded_integral (format_spec 32 0 4 5 (2 ^ 64 - 1)) false [] (digits 2 false n)) (shown_bits n)

each : below test 32 ≡ true
unfolding padded_integral char_count digits
each = refl

last_five : (w : ℕ) → shown_bits (w % 32) ≡ shown_bits w
last_five w =
    let a : w % 32 / 16 % 2 ≡ w / 16 % 2 = omega arith in
    let b : w % 32 / 8 % 2 ≡ w / 8 % 2 = omega arith in
    let d : w % 32 / 4 % 2 ≡ w / 4 % 2 = omega arith in
    let e : w % 32 / 2 % 2 ≡ w / 2 % 2 = omega arith in
    let f : w % 32 % 2 ≡ w % 2 = omega arith in
    rw (a, b, d, e, f)

pub bits : (w : ℕ) → padded_integral (format_spec 32 0 4 5 (2 ^ 64 - 1)) false [] (digits 2 false (w % 32)) ≡ shown_bits w
bits w = (bytes_eq-Decides _ _).0 (at_below test 32 each (w % 32) (omega arith)) ∙ last_five w
