-- When a call declines: the checks of each call, from the top down. Assumes nothing.
use Rattle.std.specs.Prelude.{ℕ, ◌%◌, Bool, cond, not, ◌&&◌, ◌||◌, is_some, Some, None, Ok, Err, Option, Result, ◌==◌, nat_le, nat_lt}
use Rattle.port.specs.declared.directions.Direction.{Direction}
use Rattle.port.specs.declared.directions.Direction.TheVariants.{Out, In}
use Rattle.port.specs.Directions.{facing}
use Rattle.pipes.specs.declared.pipes.Pipe.{Pipe}
use Rattle.pipes.specs.declared.pipes.PipePlan.{PipePlan}
use Rattle.pipes.specs.declared.pipes.Standing.{Standing}
use Rattle.pipes.specs.declared.pipes.Standing.TheVariants.{InStep, Doubtful, Halted}
use Rattle.pipes.specs.declared.refusals.Refusal.{Refusal}
use Rattle.pipes.specs.declared.refusals.Refusal.TheVariants.{NoSuchPipe, PipeThere, PipeAbsent, BadAddress, BadEndpoint, BadSize, NoLimit, EndpointTaken, WrongDirection, BadLength, PipeDoubtful, PipeHalted, PipeInStep}
use Rattle.pipes.specs.Tables.{Places, pipe_at, some_pipe_at, new_pipe}

abbrev pub good_size : ℕ → Bool
good_size size = size == 8 || (size == 16 || (size == 32 || size == 64))

-- open: 1, 2, and 4 to 8
abbrev pub open_refusal : Places → ℕ → ℕ → ℕ → Direction → ℕ → ℕ → Option Refusal
open_refusal places number address endpoint direction size limit =
    cond (nat_lt 7 number) (Some NoSuchPipe)
    (cond (is_some (pipe_at places number)) (Some PipeThere)
    (cond (not (nat_le 1 address && nat_le address 127)) (Some BadAddress)
    (cond (not (nat_le 1 endpoint && nat_le endpoint 15)) (Some BadEndpoint)
    (cond (not (good_size size)) (Some BadSize)
    (cond (limit == 0) (Some NoLimit)
    (cond (some_pipe_at address endpoint direction places) (Some EndpointTaken)
    None))))))

-- the pipe that an open makes
abbrev pub unless_refused : Pipe → Option Refusal → Result Pipe Refusal
unless_refused p None = Ok p
unless_refused p (Some refusal) = Err refusal

abbrev pub admit_open : Places → ℕ → PipePlan → Result Pipe Refusal
admit_open places number plan =
    unless_refused (new_pipe plan.address plan.endpoint plan.direction plan.size plan.limit)
    (open_refusal places number plan.address plan.endpoint plan.direction plan.size plan.limit)

-- the pipe of a call that needs one: 1 and 3
abbrev pub there : Option Pipe → Result Pipe Refusal
there None = Err PipeAbsent
there (Some p) = Ok p

abbrev pub present : Places → ℕ → Result Pipe Refusal
present places number = cond (nat_lt 7 number) (Err NoSuchPipe) (there (pipe_at places number))

-- 11 and 12, of a pipe that passed the checks before them
abbrev pub by_standing : Pipe → Standing → Result Pipe Refusal
by_standing p InStep = Ok p
by_standing p Doubtful = Err PipeDoubtful
by_standing p Halted = Err PipeHalted

-- send: 9 to 12 of a pipe that is there
abbrev pub sendable : ℕ → Pipe → Result Pipe Refusal
sendable long p =
    cond (facing p.direction In) (Err WrongDirection)
    (cond (not (nat_le 1 long && nat_le long 1024)) (Err BadLength)
    (by_standing p p.standing))

-- a buffer of this length holds a whole number of packets, one at least, and is not too long
abbrev pub good_buffer : ℕ → ℕ → Bool
good_buffer size long = (nat_le 1 long && nat_le long 1024) && (nat_lt 0 size && long % size == 0)

-- fetch: 9 to 12 of a pipe that is there
abbrev pub fetchable : ℕ → Pipe → Result Pipe Refusal
fetchable long p =
    cond (facing p.direction Out) (Err WrongDirection)
    (cond (not (good_buffer p.size long)) (Err BadLength)
    (by_standing p p.standing))

-- recover: 13 of a pipe that is there
abbrev pub not_in_step : Pipe → Standing → Result Pipe Refusal
not_in_step p InStep = Err PipeInStep
not_in_step p Doubtful = Ok p
not_in_step p Halted = Ok p

abbrev pub recoverable : Pipe → Result Pipe Refusal
recoverable p = not_in_step p p.standing

-- a check more of a pipe that passed the checks so far
abbrev pub then : Result Pipe Refusal → (Pipe → Result Pipe Refusal) → Result Pipe Refusal
then (Ok p) f = f p
then (Err refusal) f = Err refusal

abbrev pub admit_send : Places → ℕ → ℕ → Result Pipe Refusal
admit_send places number long = then (present places number) (sendable long)

abbrev pub admit_fetch : Places → ℕ → ℕ → Result Pipe Refusal
admit_fetch places number long = then (present places number) (fetchable long)

abbrev pub admit_recover : Places → ℕ → Result Pipe Refusal
admit_recover places number = then (present places number) recoverable
