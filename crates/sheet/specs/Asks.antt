-- What each line asks for.
use Rattle.std.specs.Prelude.{ℕ, Bool, true, false, cond, List, [], ◌∷◌, ◌++◌, length, drop, Some, None, Ok, Err, vec_items, codes, Option, Result, ◌==◌, nat_lt}
use Rattle.std.specs.Option.{option_map}
use Rattle.text.specs.Hex.{bytes_of}
use Rattle.text.specs.Numbers.{number_of}
use Rattle.wire.specs.declared.fate.Fate.{Fate}
use Rattle.wire.specs.declared.fate.Fate.TheVariants.{Pass, Lose, Flip}
use Rattle.sheet.specs.declared.outcome.Outcome.{Outcome}
use Rattle.sheet.specs.declared.request.Request.{Request}
use Rattle.sheet.specs.declared.request.Request.TheVariants.{Shows, WireIs, FatesAre, Puts, Nexts}
use Rattle.sheet.specs.declared.request.WireKind.{WireKind}
use Rattle.sheet.specs.declared.request.WireKind.TheVariants.{Plain, Line}
use Rattle.sheet.specs.declared.trouble.Trouble.{Trouble}
use Rattle.sheet.specs.declared.trouble.Trouble.TheVariants.{NotUnderstood}
use Rattle.sheet.specs.Lines.{says, word_at, number, silent, width_in, understood, frame_line, fields_line, code_line, decode_line, lines_line, unlines_line}

-- what a line asks for, its bytes and fates as lists
pub data Ask : Type 0 where
  shows : Option Outcome → Ask
  wire_is : WireKind → Ask
  fates_are : List Fate → Ask
  puts : List ℕ → Ask
  nexts : Ask

abbrev pub ask_of : Result Request Trouble → Result Ask Trouble
ask_of (Ok (Shows o)) = Ok (shows o)
ask_of (Ok (WireIs kind)) = Ok (wire_is kind)
ask_of (Ok (FatesAre fates)) = Ok (fates_are (vec_items fates))
ask_of (Ok (Puts bytes)) = Ok (puts (vec_items bytes))
ask_of (Ok Nexts) = Ok nexts
ask_of (Err e) = Err e

-- `plain COUNT`, `wide` or `narrow`, from word 2 on
abbrev pub kind_in : List (List ℕ) → Option WireKind
kind_in ws =
    cond (length ws == 4)
    (cond (says (word_at ws 2) (codes "plain")) (option_map (λ n. Plain n) (number_of 65535 (word_at ws 3))) None)
    (cond (length ws == 3) (option_map (λ w. Line w) (width_in (word_at ws 2))) None)

-- `wire w KIND`
unfoldable pub wire_line : List (List ℕ) → Result Ask Trouble
wire_line ws = cond (says (word_at ws 1) (codes "w")) (understood (kind_in ws) (λ kind. Ok (wire_is kind))) (Err NotUnderstood)

-- the fates of words, where some were read before and a flip may wait for its number
unfoldable pub fates_from : Bool → List Fate → List (List ℕ) → Option (List Fate)
fates_from flip fates [] = cond flip None (Some fates)
fates_from true fates (w ∷ ws) = elim (number w) [ None ↦ None | Some n ↦ fates_from false (fates ++ Flip n ∷ []) ws ]
fates_from false fates (w ∷ ws) =
    cond (says w (codes "flip")) (fates_from true fates ws)
    (cond (says w (codes "pass")) (fates_from false (fates ++ Pass ∷ []) ws)
    (cond (says w (codes "lose")) (fates_from false (fates ++ Lose ∷ []) ws) None))

-- a flip by the words behind its own, and how many words it takes
abbrev pub flip_in : List (List ℕ) → Option (Fate × ℕ)
flip_in [] = None
flip_in (w ∷ ws) = option_map (λ n. (Flip n, 2)) (number w)

-- the fate that the first words say, and how many these are
abbrev pub first_fate : List (List ℕ) → Option (Fate × ℕ)
first_fate [] = None
first_fate (w ∷ ws) =
    cond (says w (codes "pass")) (Some (Pass, 1))
    (cond (says w (codes "lose")) (Some (Lose, 1))
    (cond (says w (codes "flip")) (flip_in ws) None))

abbrev pub fates_in : List (List ℕ) → Option (List Fate)
fates_in ws = fates_from false [] ws

-- `fates w FATE ..`, one at least
unfoldable pub fates_line : List (List ℕ) → Result Ask Trouble
fates_line ws =
    cond (nat_lt (length ws) 3) (Err NotUnderstood)
    (cond (says (word_at ws 1) (codes "w")) (understood (fates_in (drop 2 ws)) (λ fates. Ok (fates_are fates))) (Err NotUnderstood))

-- `w put BYTES` and `w next`
unfoldable pub call_line : List (List ℕ) → Result Ask Trouble
call_line ws =
    cond (length ws == 3)
    (cond (says (word_at ws 1) (codes "put")) (understood (bytes_of (word_at ws 2)) (λ bytes. Ok (puts bytes))) (Err NotUnderstood))
    (cond (length ws == 2) (cond (says (word_at ws 1) (codes "next")) (Ok nexts) (Err NotUnderstood)) (Err NotUnderstood))

-- a look-up asks for its outcome to be shown
abbrev pub shown : Result Outcome Trouble → Result Ask Trouble
shown (Ok o) = Ok (shows (Some o))
shown (Err e) = Err e

-- a line by its first word
abbrev pub by_first : List ℕ → List (List ℕ) → Result Ask Trouble
by_first word ws =
    cond (says word (codes "frame")) (shown (frame_line ws))
    (cond (says word (codes "fields")) (shown (fields_line ws))
    (cond (says word (codes "code")) (shown (code_line ws))
    (cond (says word (codes "decode")) (shown (decode_line ws))
    (cond (says word (codes "lines")) (shown (lines_line ws))
    (cond (says word (codes "unlines")) (shown (unlines_line ws))
    (cond (says word (codes "wire")) (wire_line ws)
    (cond (says word (codes "fates")) (fates_line ws)
    (cond (says word (codes "w")) (call_line ws) (Err NotUnderstood)))))))))

-- what a line asks for, by its words
abbrev pub asked : List (List ℕ) → Result Ask Trouble
asked ws = cond (silent (word_at ws 0)) (Ok (shows None)) (by_first (word_at ws 0) ws)
