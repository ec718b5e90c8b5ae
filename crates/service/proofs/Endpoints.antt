-- No call makes an endpoint or takes one away. Assumes nothing.
use Rattle.std.proofs.Common.{arith, ℕ, [], ◌∷◌, Result}
use Rattle.std.proofs.lemmas.Grind.{common_steps}
use Rattle.pipes.specs.declared.pipes.Pipe.{Pipe}
use Rattle.pipes.specs.declared.refusals.Refusal.{Refusal}
use Rattle.pipes.specs.Checks.{present}
use Rattle.host.specs.Calls.{close_by}
use Rattle.host.specs.Effects.{SameEndpoints}
use Rattle.host.proofs.Names.{same_bus, bus_twice, reached_named}
use Rattle.host.proofs.Reaches.{tries_are_launches, tries_of_a_fetch_are_launches}
use Rattle.service.specs.Asks.{Ask, open_pipe, send_message, fetch_into, recover_pipe, look_at, close_pipe}
use Rattle.service.specs.Serving.{State, step, at_the_end}
use Rattle.service.specs.Laws.{NoEndpointComesOrGoes}

closes : (s : State) (n : ℕ) (r : Result Pipe Refusal) → SameEndpoints s.bus (close_by s.places s.bus n r).bus
closes s n r = grind (arith, common_steps)

step_endpoints : (s : State) (ask : Ask) → SameEndpoints s.bus (step s ask).state.bus
step_endpoints s (open_pipe n a e d size limit) = reached_named ((tries_are_launches s.places s.bus n).1 a e d size limit)
step_endpoints s (send_message n message) = reached_named ((tries_are_launches s.places s.bus n).0 message)
step_endpoints s (fetch_into n buffer) = reached_named (tries_of_a_fetch_are_launches s.places s.bus n buffer)
step_endpoints s (recover_pipe n) = reached_named (tries_are_launches s.places s.bus n).2
step_endpoints s (look_at n) = same_bus s.bus
step_endpoints s (close_pipe n) = closes s n (present s.places n)

pub no_endpoint_comes_or_goes : NoEndpointComesOrGoes
unfolding at_the_end
no_endpoint_comes_or_goes s [] = same_bus s.bus
no_endpoint_comes_or_goes s (ask ∷ asks) = bus_twice s.bus (step s ask).state.bus (at_the_end (step s ask).state asks).bus (step_endpoints s ask) (no_endpoint_comes_or_goes (step s ask).state asks)
