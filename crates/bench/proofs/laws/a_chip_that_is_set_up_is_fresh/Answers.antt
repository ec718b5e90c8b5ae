use Rattle.bench.proofs.Freshness.{set_up_buses_are_fresh}
use Rattle.bench.proofs.laws.a_chip_that_is_set_up_is_fresh.Goals as goal

pub returns : goal.returns
returns c = set_up_buses_are_fresh
