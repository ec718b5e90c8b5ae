-- One step of a send, from what the code does in it. Assumes nothing.
use Rattle.std.proofs.Common.{ℕ, ◌≤◌, List, length, arith}
use Rattle.std.proofs.lemmas.Grind.{common_steps}
use Rattle.port.specs.Bus.{Bus}
use Rattle.pipes.specs.declared.pipes.Pipe.{Pipe}
use Rattle.host.specs.declared.sending.Progress.{Progress}
use Rattle.host.specs.Sending.{sending, send_step}

-- a step sends no more than the message has, and tries once more
pub step_sent : (p : Pipe) (message : List ℕ) (q : Progress) (b : Bus) → q.sent ≤ length message → (send_step p message (sending q b)).progress.sent ≤ length message
step_sent p message q b h = grind (arith, common_steps)
