use Rattle.std.proofs.Common.{refl}
use Rattle.crc.proofs.Rows.{rows}
use Rattle.crc.proofs.link.LinkCheckCheck.rows.Goals as goal

pub returns : goal.returns
returns c = rows 0x8408 _ refl tt
