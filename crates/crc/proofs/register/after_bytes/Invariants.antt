use Rattle.std.proofs.Common.{◌≡◌, drop}
use Rattle.crc.specs.Serial.{through}
use Rattle.crc.proofs.register.after_bytes.Given as goal

abbrev pub invariant-loop-byte : goal.invariant-loop-byte
invariant-loop-byte g l =
    through g.C.Check.GENERATOR l.at (drop l.byte-index l.bytes)
    ≡ through g.C.Check.GENERATOR l.register l.bytes
