use Rattle.std.proofs.Common.{refl, ap, ◌∙◌}
use Rattle.scripts.specs.Showing.{bus_text}
use Rattle.scripts.proofs.machines.Machine.show.Goals as goal

pub returns : goal.returns
returns c = ((_, refl, c.in_ok-text.ensures.ok ∙ ap bus_text c.chip.ensures), refl)
