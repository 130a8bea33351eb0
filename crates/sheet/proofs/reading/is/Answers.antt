use Rattle.std.proofs.lemmas.Slice.Eq.{slice_eq-Decides, bytes_eq-Decides}
use Rattle.std.proofs.Common.{rules}
use Rattle.sheet.specs.Lines.{says}
use Rattle.sheet.proofs.reading.is.Goals as goal
use Rattle.std.proofs.lemmas.Bool.Decides.{Decides-eqb}

pub returns : goal.returns
unfolding says
returns c =
    let decides = slice_eq-Decides Decides-eqb c.args.word.now c.as_bytes.result.now c.eq.result c.eq.ensures in
    let text = c.as_bytes.ensures.value in
    search (rules, bytes_eq-Decides)
