use Rattle.std.proofs.Common.{refl}
use Rattle.crc.proofs.Rows.{rows}
use Rattle.crc.proofs.end_to_end.EndToEndCheckCheck.rows.Goals as goal

pub returns : goal.returns
returns c = rows 0xD008 _ refl tt
