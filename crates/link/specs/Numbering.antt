-- The numbers of this edition: how many there are, and the one that stands for none.
use Rattle.std.specs.Prelude.{ℕ, ◌-◌, min, Option, unwrap_or}

-- TSEQ counts from 0 to one below this, and then from 0 again; the window is narrower
abbrev pub numbers : ℕ
numbers = 255

-- the window of an output buffer over so many elements: narrower than there are numbers
abbrev pub window_over : ℕ → ℕ
window_over elements = min (numbers - 1) elements

-- what stands where there is no number
abbrev pub no_number : ℕ
no_number = numbers

-- a number or none, as a frame carries it
abbrev pub carried : Option ℕ → ℕ
carried number = unwrap_or number no_number
