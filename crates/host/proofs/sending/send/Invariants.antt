use Rattle.std.proofs.Common.{◌≡◌, ◌-◌, ◌≤◌, length}
use Rattle.host.specs.Sending.{sending, send_going, send_step, send_run}
use Rattle.host.specs.Machines.{run}
use Rattle.host.proofs.sending.send.Given as goal

abbrev pub invariant-loop : goal.invariant-loop
invariant-loop g l =
    (run (send_going l.pipe l.message) (send_step l.pipe l.message) (l.budget - l.counter) (sending l.progress (g.P.Port.meaning l.port)) ≡ send_run l.pipe l.message (g.P.Port.meaning l.initial.port))
    × (l.progress.tally.tries ≤ l.counter)
    × (l.progress.sent ≤ length l.message)
