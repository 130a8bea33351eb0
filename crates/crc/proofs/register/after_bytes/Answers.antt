use Rattle.crc.proofs.Single.{shows_a_bit}
use Rattle.crc.proofs.Burst.{shows_a_burst}
use Rattle.crc.proofs.register.after_bytes.Goals as goal

pub returns-clause-bit : goal.returns-clause-bit
returns-clause-bit g c = shows_a_bit g.C.Check.GENERATOR g.met.C.Check.term g.met.C.Check.fits

pub returns-clause-burst : goal.returns-clause-burst
returns-clause-burst g c = shows_a_burst g.C.Check.GENERATOR g.met.C.Check.term g.met.C.Check.fits
