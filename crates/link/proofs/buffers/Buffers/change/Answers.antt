use Rattle.std.proofs.Common.{rules}
use Rattle.link.proofs.buffers.Buffers.change.Goals as goal

pub returns-in-Vc0-clause-ran : goal.returns-in-Vc0-clause-ran
returns-in-Vc0-clause-ran g c = record { shown = _; shows = search rules; left = _; met = c.f.ensures; leaves = search rules }

pub returns-in-Vc1-clause-ran : goal.returns-in-Vc1-clause-ran
returns-in-Vc1-clause-ran g c = record { shown = _; shows = search rules; left = _; met = c.f-in-Vc1.ensures; leaves = search rules }

pub returns-in-Vc2-clause-ran : goal.returns-in-Vc2-clause-ran
returns-in-Vc2-clause-ran g c = record { shown = _; shows = search rules; left = _; met = c.f-in-Vc2.ensures; leaves = search rules }

pub returns-in-Vc3-clause-ran : goal.returns-in-Vc3-clause-ran
returns-in-Vc3-clause-ran g c = record { shown = _; shows = search rules; left = _; met = c.f-in-Vc3.ensures; leaves = search rules }
