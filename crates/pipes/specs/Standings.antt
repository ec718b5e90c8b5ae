-- The next standing of a pipe, from the present one and what came of a call. Assumes nothing.
use Rattle.pipes.specs.declared.pipes.Standing.{Standing}
use Rattle.pipes.specs.declared.pipes.Standing.TheVariants.{InStep, Doubtful, Halted}
use Rattle.pipes.specs.declared.pipes.Event.{Event}
use Rattle.pipes.specs.declared.pipes.Event.TheVariants.{Succeeded, StoppedSure, StoppedUnsure, Stalled, LongPacket, RecoverFailed}

-- success brings the pipe in step, STALL halts it, and doubt or a packet that is too long makes it doubtful, whatever it was; a stop
-- with nothing doubtful leaves it
abbrev pub next_standing : Standing → Event → Standing
next_standing s Succeeded = InStep
next_standing s StoppedSure = s
next_standing s StoppedUnsure = Doubtful
next_standing s Stalled = Halted
next_standing s LongPacket = Doubtful
next_standing s RecoverFailed = Doubtful
