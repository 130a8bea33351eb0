use Rattle.std.proofs.Common.{IsUtf8, sym, ap, ◌∙◌, subst, rules, false-eqb}
use Rattle.std.specs.List.{flat_map}
use Rattle.std.proofs.Output.{has_written_of_eq}
use Rattle.text.proofs.HexShown.{hex_of_some, flat_pairs, shown_utf8}
use Rattle.text.proofs.Puts.{put_all, is_text}
use Rattle.text.proofs.writing.HexDisplay.fmt.Goals as goal

-- what was spelled is ASCII, and so is text
pub unwrap-requires : goal.unwrap-requires
unwrap-requires g c =
    let digits = c.as_flattened-digits.ensures.value ∙ ap (flat_map (λ x. x)) c.spelled-text.ensures ∙ flat_pairs c.in-Some.piece.now in
    is_text _ _ _ _ c.from_utf8.ensures.cases (subst IsUtf8 (sym digits) (shown_utf8 _))

pub returns-clause-writes : goal.returns-clause-writes
returns-clause-writes g c plain ok =
    has_written_of_eq _ _ _ _ _ (hex_of_some _ (false-eqb _ 0 c.if-is_empty.ensures)) (put_all _ _ _ _ _ c.loop-piece.invariant.1 (search rules) plain)
