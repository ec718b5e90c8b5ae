use Rattle.std.proofs.Common.{◌≡◌, ◌-◌, ◌≤◌, length}
use Rattle.host.specs.Fetching.{fetching, fetch_going, fetch_step, fetch_run}
use Rattle.host.specs.Machines.{run}
use Rattle.host.proofs.fetching.fetch.Given as goal

abbrev pub invariant-loop : goal.invariant-loop
invariant-loop g l =
    (run (fetch_going l.pipe.address l.pipe.endpoint l.pipe.size l.pipe.limit) (fetch_step l.pipe.address l.pipe.endpoint l.pipe.size l.pipe.limit) (l.budget - l.counter) (fetching l.intake l.buffer (g.P.Port.meaning l.port)) ≡ fetch_run l.pipe.address l.pipe.endpoint l.pipe.size l.pipe.limit l.pipe.toggle l.initial.buffer (g.P.Port.meaning l.initial.port))
    × (l.intake.tally.tries ≤ l.counter)
    × (l.intake.received ≤ length l.buffer)
