-- The number of each refusal. Assumes nothing.
use Rattle.std.specs.Prelude.{ℕ}
use Rattle.pipes.specs.declared.refusals.Refusal.{Refusal}
use Rattle.pipes.specs.declared.refusals.Refusal.TheVariants.{NoSuchPipe, PipeThere, PipeAbsent, BadAddress, BadEndpoint, BadSize, NoLimit, EndpointTaken, WrongDirection, BadLength, PipeDoubtful, PipeHalted, PipeInStep, NakLimit, ThirdMiss, Stalled, PacketTooLong}

abbrev pub refusal_number : Refusal → ℕ
refusal_number NoSuchPipe = 1
refusal_number PipeThere = 2
refusal_number PipeAbsent = 3
refusal_number BadAddress = 4
refusal_number BadEndpoint = 5
refusal_number BadSize = 6
refusal_number NoLimit = 7
refusal_number EndpointTaken = 8
refusal_number WrongDirection = 9
refusal_number BadLength = 10
refusal_number PipeDoubtful = 11
refusal_number PipeHalted = 12
refusal_number PipeInStep = 13
refusal_number NakLimit = 14
refusal_number ThirdMiss = 15
refusal_number Stalled = 16
refusal_number PacketTooLong = 17
