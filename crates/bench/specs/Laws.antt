-- A bench chip that is set up by its calls stands for a fresh bus. Assumes nothing.
use Rattle.std.specs.Prelude.{◌≡◌, ℕ, true, List}
use Rattle.port.specs.Bus.{Bus, Fresh}
use Rattle.devices.specs.declared.plans.EndpointPlan.{EndpointPlan}
use Rattle.bench.specs.Chips.{empty_bus}
use Rattle.devices.specs.Setups.{planned, more_endpoints, packet_fits, packet_place, more_packets}
use Rattle.bench.specs.Setups.{plan_fits, more_fates, with_devices}

-- the bus of a new chip is fresh, and what the set-up calls add, where it fits, keeps it so: the endpoints stay in range and
-- apart, nothing is taken, and no setup was heard
abbrev pub SetUpBusesAreFresh : Type 0
SetUpBusesAreFresh =
    Fresh empty_bus
    × ((b : Bus) (p : EndpointPlan) → Fresh b → plan_fits p b ≡ true → Fresh (with_devices b (more_endpoints (planned p) b.devices)))
    × ((b : Bus) (address number : ℕ) (bytes : List ℕ) → Fresh b → packet_fits address number bytes b.devices ≡ true → Fresh (with_devices b (more_packets (packet_place address number b.devices) bytes b.devices)))
    × ((b : Bus) (bytes : List ℕ) → Fresh b → Fresh (more_fates bytes b))
