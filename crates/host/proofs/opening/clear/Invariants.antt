use Rattle.std.proofs.Common.{◌≡◌, ◌-◌, ◌≤◌}
use Rattle.host.specs.Opening.{requesting, clear_going, clear_step, clear_run}
use Rattle.host.specs.Machines.{run}
use Rattle.host.proofs.opening.clear.Given as goal

abbrev pub invariant-loop : goal.invariant-loop
invariant-loop g l =
    (run (clear_going l.pipe.address l.pipe.endpoint l.pipe.direction l.pipe.limit) (clear_step l.pipe.address l.pipe.endpoint l.pipe.direction l.pipe.limit) (l.budget - l.counter) (requesting l.clearing (g.P.Port.meaning l.port)) ≡ clear_run l.pipe.address l.pipe.endpoint l.pipe.direction l.pipe.limit (g.P.Port.meaning l.initial.port))
    × (l.clearing.tally.tries ≤ l.counter)
