use Rattle.std.proofs.Common.{refl}
use Rattle.line.specs.declared.width.Width.TheVariants.{Wide, Narrow}
use Rattle.line.specs.Places.{place}
use Rattle.line.proofs.Once.{table}
use Rattle.line.proofs.places.places.Goals as goal

pub returns-in-Wide : goal.returns-in-Wide
unfolding place
returns-in-Wide c = table c.args.width Wide _ c.in-Wide.is refl

pub returns-in-Narrow : goal.returns-in-Narrow
unfolding place
returns-in-Narrow c = table c.args.width Narrow _ c.in-Narrow.is refl
