-- What each line of a sheet does.
use Rattle.std.specs.Prelude.{◌≡◌, ℕ, ◌-◌, ◌^◌, Bool, cond, ◌||◌, List, [], length, ℤ, Some, None, Ok, Err, codes, Option, Result, ◌==◌, slice_index, slice_index_or}
use Rattle.std.specs.List.{list_all}
use Rattle.std.specs.Str.{bytes_eq}
use Rattle.frame.specs.declared.fields.Numbers.{Numbers}
use Rattle.frame.specs.declared.refusal.Refusal.{Refusal}
use Rattle.frame.specs.Codec.{or_else, numbers_refusal, fields_from, emit_refusal}
use Rattle.frame.specs.Layout.{frame_of}
use Rattle.frame.specs.declared.refusal.Refusal.TheVariants.{BadSize}
use Rattle.line.specs.declared.width.Width.{Width}
use Rattle.line.specs.declared.width.Width.TheVariants.{Wide, Narrow}
use Rattle.line.specs.Code.{coded, decoding, is_word}
use Rattle.line.specs.Groups.{fresh, coded_groups}
use Rattle.line.specs.Groups as groups
use Rattle.line.specs.Tables.{standard_rows}
use Rattle.text.specs.Hex.{bytes_of, hex4_of}
use Rattle.text.specs.Numbers.{number_of, signed_of, bit_of}
use Rattle.frame.specs.Parts.{taken_apart}
use Rattle.sheet.specs.declared.outcome.Outcome.{Outcome}
use Rattle.sheet.specs.declared.outcome.Outcome.TheVariants.{Frame, Apart, Word, Code, Groups}
use Rattle.sheet.specs.declared.outcome.CodedWord.{CodedWord}
use Rattle.sheet.specs.declared.trouble.Trouble.{Trouble}
use Rattle.sheet.specs.declared.trouble.Trouble.TheVariants.{NotUnderstood, TooLate, Refused, OutOfMemory}

-- a result is as told, unless memory ran out
abbrev pub Gives : {X : Type 0} → Result X Trouble → Result X Trouble → Type 0
Gives (Ok x) told = Ok x ≡ told
Gives (Err NotUnderstood) told = Err NotUnderstood ≡ told
Gives (Err TooLate) told = Err TooLate ≡ told
Gives (Err (Refused r)) told = Err (Refused r) ≡ told
Gives (Err (OutOfMemory _)) told = Unit {0}

-- a value that was read, or else the line is not understood
abbrev pub understood : {A B : Type 0} → Option A → (A → Result B Trouble) → Result B Trouble
understood None f = Err NotUnderstood
understood (Some x) f = f x

-- what comes of a value, unless it was refused
abbrev pub unless_refused : {A B : Type 0} → Result A Refusal → (A → B) → Result B Trouble
unless_refused (Ok x) f = Ok (f x)
unless_refused (Err e) f = Err (Refused e)

-- whether a word is this text
unfoldable pub says : List ℕ → List ℕ → Bool
says word text = bytes_eq word text

-- a width by its word
abbrev pub width_in : List ℕ → Option Width
width_in word = cond (says word (codes "wide")) (Some Wide) (cond (says word (codes "narrow")) (Some Narrow) None)

-- word i of a line, empty past its end
abbrev pub word_at : List (List ℕ) → ℕ → List ℕ
word_at ws i = slice_index_or ws i []

-- what comes of a value that may be missing
abbrev pub then_read : {A B : Type 0} → Option A → (A → Option B) → Option B
then_read None f = None
then_read (Some x) f = f x

-- a number of 64 bits
abbrev pub number : List ℕ → Option ℕ
number word = number_of (2 ^ 64 - 1) word

-- words 1 to 10 of a line `frame`
abbrev pub numbers_in : List (List ℕ) → Option Numbers
numbers_in ws =
    then_read (number (word_at ws 1)) (λ vc.
    then_read (number (word_at ws 2)) (λ kind.
    then_read (bit_of (word_at ws 3)) (λ tail.
    then_read (bit_of (word_at ws 4)) (λ error.
    then_read (number (word_at ws 5)) (λ vcr.
    then_read (number (word_at ws 6)) (λ cr.
    then_read (number (word_at ws 7)) (λ rseq.
    then_read (number (word_at ws 8)) (λ tseq.
    then_read (hex4_of (word_at ws 9)) (λ ecrc.
    then_read (hex4_of (word_at ws 10)) (λ lcrc.
    Some (record { vc = vc; kind = kind; tail = tail; error = error; vcr = vcr; cr = cr; rseq = rseq; tseq = tseq; ecrc = ecrc; lcrc = lcrc })))))))))))

-- the first refusal of two
abbrev pub first_refusal : Option Refusal → Option Refusal → Option Refusal
first_refusal None q = q
first_refusal (Some e) q = Some e

-- numbers and data to a frame: first the numbers, then the sizes
abbrev pub made_frame : Numbers → List ℕ → Result (List ℕ) Refusal
made_frame n content =
    or_else (first_refusal (numbers_refusal n) (emit_refusal (fields_from n) (length content) 40)) (frame_of (fields_from n) content)

unfoldable pub frame_line : List (List ℕ) → Result Outcome Trouble
frame_line ws =
    cond (length ws == 12) (understood (numbers_in ws) (λ n. understood (bytes_of (word_at ws 11)) (λ content. unless_refused (made_frame n content) Frame))) (Err NotUnderstood)

-- bytes taken apart as a frame
abbrev pub parts_of : List ℕ → Result Outcome Trouble
parts_of bytes = unless_refused (taken_apart bytes) Apart

unfoldable pub fields_line : List (List ℕ) → Result Outcome Trouble
fields_line ws = cond (length ws == 2) (understood (bytes_of (word_at ws 1)) parts_of) (Err NotUnderstood)

-- a group that is coded
abbrev pub word_of : Result (ℕ × ℤ) Refusal → Result CodedWord Refusal
word_of (Ok p) = Ok (record { word = p.0; count = p.1 })
word_of (Err e) = Err e

unfoldable pub code_line : List (List ℕ) → Result Outcome Trouble
code_line ws =
    cond (length ws == 3)
    (understood (number (word_at ws 1)) (λ code. understood (signed_of (word_at ws 2)) (λ count. unless_refused (word_of (coded standard_rows code count)) Word)))
    (Err NotUnderstood)

-- the code of a group
abbrev pub code_of : ℕ → Result Outcome Trouble
code_of group = unless_refused (decoding group) Code

unfoldable pub decode_line : List (List ℕ) → Result Outcome Trouble
decode_line ws = cond (length ws == 2) (understood (number (word_at ws 1)) code_of) (Err NotUnderstood)

-- a frame to its groups, all counts 0 before
abbrev pub groups_of : Width → List ℕ → Result Outcome Trouble
groups_of w bytes = cond (length bytes == 40) (Ok (Groups (coded_groups (fresh w) bytes))) (Err (Refused BadSize))

unfoldable pub lines_line : List (List ℕ) → Result Outcome Trouble
lines_line ws =
    cond (length ws == 3)
    (understood (width_in (word_at ws 1)) (λ w. understood (bytes_of (word_at ws 2)) (groups_of w)))
    (Err NotUnderstood)

-- 80 groups to their frame
abbrev pub frame_in : Width → List ℕ → Result Outcome Trouble
frame_in w bytes =
    cond (length bytes == 80) (cond (list_all is_word bytes) (Ok (Frame (groups.frame_of w bytes))) (Err (Refused BadSize))) (Err (Refused BadSize))

unfoldable pub unlines_line : List (List ℕ) → Result Outcome Trouble
unlines_line ws =
    cond (length ws == 3)
    (understood (width_in (word_at ws 1)) (λ w. understood (bytes_of (word_at ws 2)) (frame_in w)))
    (Err NotUnderstood)

-- a line with no word (words are never empty), or whose first word begins with a hash sign, is silent
abbrev pub silent : List ℕ → Bool
silent first = length first == 0 || slice_index first 0 == 35
