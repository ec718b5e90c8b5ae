-- When two directions are the same. Assumes nothing.
use Rattle.std.specs.Prelude.{Bool, true, false}
use Rattle.port.specs.declared.directions.Direction.{Direction}
use Rattle.port.specs.declared.directions.Direction.TheVariants.{Out, In}

abbrev pub facing : Direction → Direction → Bool
facing Out Out = true
facing Out In = false
facing In Out = false
facing In In = true
