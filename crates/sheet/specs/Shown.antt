-- What is printed of each outcome and of each trouble.
use Rattle.std.specs.Prelude.{ℕ, ◌/◌, ◌%◌, Bool, cond, List, ◌++◌, codes, decimal}
use Rattle.std.specs.Fmt.{signed_decimal}
use Rattle.frame.specs.declared.fields.Fields.{Fields}
use Rattle.frame.specs.declared.parts.Parts.{Parts}
use Rattle.frame.specs.declared.refusal.Refusal.{Refusal}
use Rattle.frame.specs.Naming.{type_of, channel_number}
use Rattle.frame.specs.Refusals.{number_of, name_of}
use Rattle.text.specs.Hex.{hex_of, shown_hex4}
use Rattle.sheet.specs.declared.outcome.Outcome.{Outcome}
use Rattle.sheet.specs.declared.outcome.Outcome.TheVariants.{Frame, Apart, Word, Code, Groups, Put, Next, Nothing}
use Rattle.sheet.specs.declared.outcome.CodedWord.{CodedWord}
use Rattle.sheet.specs.declared.trouble.Trouble.{Trouble}
use Rattle.sheet.specs.declared.trouble.Trouble.TheVariants.{NotUnderstood, TooLate, Refused, OutOfMemory}

-- a bit as a digit
abbrev pub digit : Bool → List ℕ
digit b = decimal (cond b 1 0)

-- the number and the name that a person looks up
abbrev pub shown_refusal : Refusal → List ℕ
shown_refusal r = codes "refused " ++ (decimal (number_of r) ++ (codes " " ++ name_of r))

-- the last eight bytes of a frame, field by field
abbrev pub shown_numbers : Fields → List ℕ
shown_numbers f =
    codes "vc " ++ (decimal (channel_number f.vc)
    ++ (codes " type " ++ (decimal (type_of f.kind)
    ++ (codes " tail " ++ (digit f.tail
    ++ (codes " error " ++ (digit f.error
    ++ (codes " vcr " ++ (decimal (channel_number f.vcr)
    ++ (codes " cr " ++ decimal f.cr))))))))))

abbrev pub shown_counts : Fields → List ℕ
shown_counts f =
    codes "rseq " ++ (decimal f.rseq
    ++ (codes " tseq " ++ (decimal f.tseq
    ++ (codes " ecrc " ++ (shown_hex4 f.ecrc
    ++ (codes " lcrc " ++ shown_hex4 f.lcrc))))))

-- all of a frame, part by part
abbrev pub shown_parts : Parts → List ℕ
shown_parts p =
    shown_numbers p.fields ++ (codes " " ++ (shown_counts p.fields
    ++ (codes " data " ++ (hex_of p.content
    ++ (codes " syndrome " ++ shown_hex4 p.syndrome)))))

-- five bits, z y T x w
abbrev pub shown_bits : ℕ → List ℕ
shown_bits w =
    decimal (w / 16 % 2) ++ (decimal (w / 8 % 2) ++ (decimal (w / 4 % 2) ++ (decimal (w / 2 % 2) ++ decimal (w % 2))))

abbrev pub shown_word : CodedWord → List ℕ
shown_word c = codes "word " ++ (shown_bits c.word ++ (codes " count " ++ signed_decimal c.count))

-- what is printed behind a line's number
abbrev pub shown_outcome : Outcome → List ℕ
shown_outcome (Frame bytes) = codes "frame " ++ hex_of bytes
shown_outcome (Apart p) = shown_parts p
shown_outcome (Word c) = shown_word c
shown_outcome (Code code) = codes "code " ++ decimal code
shown_outcome (Groups bytes) = codes "lines " ++ hex_of bytes
shown_outcome Put = codes "put"
shown_outcome (Next bytes) = codes "next " ++ hex_of bytes
shown_outcome Nothing = codes "nothing"

-- what is printed behind a line's number where it shows no outcome; a sheet ends where memory runs out
abbrev pub shown_trouble : Trouble → List ℕ
shown_trouble NotUnderstood = codes "not understood"
shown_trouble TooLate = codes "too late"
shown_trouble (Refused r) = shown_refusal r
shown_trouble (OutOfMemory _) = codes "out of memory"
