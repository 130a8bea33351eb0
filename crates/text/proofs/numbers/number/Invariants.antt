use Rattle.std.proofs.Common.{◌≡◌, ◌-◌, ◌^◌, ◌<◌, drop}
use Rattle.text.specs.Numbers.{at_most, read_on, number_of}
use Rattle.text.proofs.numbers.number.Given as goal

-- the number so far, with the digits that are to come, gives the word's
abbrev pub invariant-loop-c : goal.invariant-loop-c
invariant-loop-c l = (l.n < 2 ^ 64) × (at_most (2 ^ 64 - 1) (read_on l.n (drop l.c-index l.word)) ≡ number_of (2 ^ 64 - 1) l.word)
