use Rattle.std.proofs.Common.{refl, ◌∙◌}
use Rattle.port.proofs.Single.{get_keeps}
use Rattle.frames.proofs.port_wires.status.Goals as goal

pub returns-in-Full-clause-after : goal.returns-in-Full-clause-after
returns-in-Full-clause-after g c = c.get.ensures.after ∙ get_keeps _ 25 refl
