-- Setting up a bench chip: what each call adds, when it refuses, and what it then leaves. Assumes nothing.
use Rattle.std.specs.Prelude.{◌≡◌, ℕ, Bool, true, false, ◌&&◌, List, ◌++◌, Ok, Err, Result}
use Rattle.port.specs.Devices.{Devices}
use Rattle.port.specs.Bus.{Bus}
use Rattle.devices.specs.declared.plans.EndpointPlan.{EndpointPlan}
use Rattle.devices.specs.declared.plans.SetupError.{SetupError}
use Rattle.devices.specs.declared.plans.SetupError.TheVariants.{Refused, NoMemory}
use Rattle.devices.specs.Setups.{in_range, vacant}
use Rattle.bench.specs.declared.chips.BenchChip.{BenchChip}
use Rattle.bench.specs.Chips.{bus_of}

abbrev pub plan_fits : EndpointPlan → Bus → Bool
plan_fits p b = in_range p && vacant p b.devices.endpoints

abbrev pub with_devices : Bus → Devices → Bus
with_devices b d = record { chip = b.chip; devices = d; fates = b.fates }

-- more fates, after those that are there
abbrev pub more_fates : List ℕ → Bus → Bus
more_fates bytes b = record { chip = b.chip; devices = b.devices; fates = b.fates ++ bytes }

-- how a set-up call ends. What fits is added; what does not is refused, and the chip is the very same; and where memory is
-- wanting the chip stands for what it stood for
abbrev pub SetsUp : Bool → Bus → BenchChip → Result (Unit {0}) SetupError → BenchChip → Type 0
SetsUp fits bus before (Ok done) after = (fits ≡ true) × (bus_of after ≡ bus)
SetsUp fits bus before (Err Refused) after = (fits ≡ false) × (after ≡ before)
SetsUp fits bus before (Err NoMemory) after = (fits ≡ true) × (bus_of after ≡ bus_of before)
