-- What comes of one message over a pipe that is opened for it. Assumes nothing.
use Rattle.std.specs.Prelude.{ℕ, List}
use Rattle.port.specs.Bus.{Bus}
use Rattle.pipes.specs.declared.answers.Answer.{Answer}
use Rattle.pipes.specs.declared.pipes.PipePlan.{PipePlan}
use Rattle.pipes.specs.Tables.{unused}
use Rattle.host.specs.Calls.{Done, open_done, send_done}

-- pipe 0 of an unused host on this bus, opened
abbrev pub opened_first : PipePlan → Bus → Done
opened_first plan b = open_done unused b 0 plan.address plan.endpoint plan.direction plan.size plan.limit

-- and the message sent over it
abbrev pub message_answer : PipePlan → List ℕ → Bus → Answer
message_answer plan message b = (send_done (opened_first plan b).places (opened_first plan b).bus 0 message).answer
