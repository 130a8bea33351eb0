use Rattle.std.proofs.Common.{refl}
use lib.Count.{ones, ones_in}
use Rattle.line.specs.Tables.{standard_rows}
use Rattle.line.proofs.Rows.{standard_good, standard_told}
use Rattle.line.proofs.table.standard.Goals as goal

pub returns : goal.returns
unfolding standard_rows ones ones_in
returns c = record { rows = refl; good = standard_good; told = standard_told; figures = (refl, refl, refl) }
