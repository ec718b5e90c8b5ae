-- Worked cases: a printer at address 5, endpoint 2, and a send of ten bytes; a tag pad at address 9, endpoint 1, and a fetch into 16 bytes.
-- Packet size 8 and NAK limit 3, both toggles 0.
-- Assumes nothing.
use Rattle.std.specs.Prelude.{◌≡◌, ℕ, false, List, [], ◌∷◌, ◌++◌, length, replicate, Some, None, Option, slice_index_or}
use Rattle.port.specs.declared.directions.Direction.TheVariants.{Out, In}
use Rattle.port.specs.declared.toggles.Toggle.TheVariants.{Data0}
use Rattle.port.specs.Chip.{fresh_chip}
use Rattle.port.specs.Endpoints.{Endpoint, nowhere}
use Rattle.port.specs.Bus.{Bus}
use Rattle.pipes.specs.declared.pipes.Pipe.{Pipe}
use Rattle.pipes.specs.declared.refusals.Refusal.TheVariants.{NakLimit, ThirdMiss, Stalled}
use Rattle.pipes.specs.Answers.{answered, fetched}
use Rattle.host.specs.Calls.{Done, Brought, open_done, send_done, fetch_done}
use Rattle.pipes.specs.Tables.{Places, pipe_at, new_pipe}

-- the printer's endpoint, and the bus with these fates
abbrev pub printer : Endpoint
printer =
    record {
      address = 5;
      number = 2;
      direction = Out;
      toggle = Data0;
      halted = false;
      capacity = 4096;
      taken = [];
      waiting = [];
    }

abbrev pub bus_with : List ℕ → Bus
bus_with fates = record { chip = fresh_chip; devices = record { endpoints = printer ∷ []; heard = None }; fates = fates }

abbrev pub no_pipes : Places
no_pipes = replicate 8 None

-- the table with the printer's pipe in its first place
abbrev pub one_pipe : Places
one_pipe = Some (new_pipe 5 2 Out 8 3) ∷ replicate 7 None

abbrev pub ten_bytes : List ℕ
ten_bytes = 48 ∷ 49 ∷ 50 ∷ 51 ∷ 52 ∷ 53 ∷ 54 ∷ 55 ∷ 56 ∷ 57 ∷ []

abbrev pub sent_under : List ℕ → Done
sent_under fates = send_done one_pipe (bus_with fates) 0 ten_bytes

abbrev pub taken_by : Done → List ℕ
taken_by d = (slice_index_or d.bus.devices.endpoints 0 nowhere).taken

abbrev pub toggle_shown : Done → Option Pipe
toggle_shown d = pipe_at d.places 0

-- 00 00: sent 10, tries 2, and the toggle is 0 again
abbrev pub TwoArrivals : Type 0
TwoArrivals = ((sent_under (0x00 ∷ 0x00 ∷ [])).answer ≡ answered None 10 0 2 0) × (toggle_shown (sent_under (0x00 ∷ 0x00 ∷ [])) ≡ Some (new_pipe 5 2 Out 8 3)) × (taken_by (sent_under (0x00 ∷ 0x00 ∷ [])) ≡ ten_bytes)

-- 2E 00 00: the first packet goes twice, and is taken once
abbrev pub TakenOnce : Type 0
TakenOnce = ((sent_under (0x2E ∷ 0x00 ∷ 0x00 ∷ [])).answer ≡ answered None 10 0 3 0) × (taken_by (sent_under (0x2E ∷ 0x00 ∷ 0x00 ∷ [])) ≡ ten_bytes)

-- 1E 1E 1E and 2E 1E 1E: the same answer, with nothing taken and with eight bytes taken
abbrev pub SameAnswerNoneTaken : Type 0
SameAnswerNoneTaken = ((sent_under (0x1E ∷ 0x1E ∷ 0x1E ∷ [])).answer ≡ answered (Some ThirdMiss) 0 8 3 14) × (taken_by (sent_under (0x1E ∷ 0x1E ∷ 0x1E ∷ [])) ≡ [])

abbrev pub SameAnswerEightTaken : Type 0
SameAnswerEightTaken = ((sent_under (0x2E ∷ 0x1E ∷ 0x1E ∷ [])).answer ≡ answered (Some ThirdMiss) 0 8 3 14) × (length (taken_by (sent_under (0x2E ∷ 0x1E ∷ 0x1E ∷ []))) ≡ 8)

-- 30 30 30: 14 with nothing doubtful, in step
abbrev pub BusyAndSure : Type 0
BusyAndSure = ((sent_under (0x30 ∷ 0x30 ∷ 0x30 ∷ [])).answer ≡ answered (Some NakLimit) 0 0 3 4) × (toggle_shown (sent_under (0x30 ∷ 0x30 ∷ 0x30 ∷ [])) ≡ Some (new_pipe 5 2 Out 8 3))

-- 1E 30 30 30: 14 with eight bytes doubtful, tries 4
abbrev pub BusyAfterAMiss : Type 0
BusyAfterAMiss = (sent_under (0x1E ∷ 0x30 ∷ 0x30 ∷ 0x30 ∷ [])).answer ≡ answered (Some NakLimit) 0 8 4 4

-- open with 2E 00 00: the setup's answer is lost, and it goes again
abbrev pub OpenedInThree : Type 0
OpenedInThree = ((open_done no_pipes (bus_with (0x2E ∷ 0x00 ∷ 0x00 ∷ [])) 0 5 2 Out 8 3).answer ≡ answered None 0 0 3 0) × (pipe_at (open_done no_pipes (bus_with (0x2E ∷ 0x00 ∷ 0x00 ∷ [])) 0 5 2 Out 8 3).places 0 ≡ Some (new_pipe 5 2 Out 8 3))

-- open at an address without endpoints: three time-outs
abbrev pub NoSuchDevice : Type 0
NoSuchDevice = (open_done no_pipes (bus_with (0x00 ∷ 0x00 ∷ 0x00 ∷ [])) 0 6 2 Out 8 3).answer ≡ answered (Some ThirdMiss) 0 0 3 14

-- open of an endpoint that the device does not have: the device says so at the second stage
abbrev pub NoSuchEndpoint : Type 0
NoSuchEndpoint = (open_done no_pipes (bus_with (0x00 ∷ 0x00 ∷ [])) 0 5 3 Out 8 3).answer ≡ answered (Some Stalled) 0 0 2 5

-- the tag pad, with a packet of eight bytes and one of three, and a fetch over its pipe into 16 bytes
abbrev pub eight_bytes : List ℕ
eight_bytes = 65 ∷ 66 ∷ 67 ∷ 68 ∷ 69 ∷ 70 ∷ 71 ∷ 72 ∷ []

abbrev pub three_bytes : List ℕ
three_bytes = 73 ∷ 74 ∷ 75 ∷ []

abbrev pub tag_pad : Endpoint
tag_pad =
    record {
      address = 9;
      number = 1;
      direction = In;
      toggle = Data0;
      halted = false;
      capacity = 0;
      taken = [];
      waiting = eight_bytes ∷ three_bytes ∷ [];
    }

abbrev pub fetched_under : List ℕ → Brought
fetched_under fates =
    fetch_done (Some (new_pipe 9 1 In 8 3) ∷ replicate 7 None)
    (record { chip = fresh_chip; devices = record { endpoints = tag_pad ∷ []; heard = None }; fates = fates })
    0 (replicate 16 0xEE)

-- 2E 00 00: the first packet comes twice, and is handed over once; received 11, tries 3, and the rest of the buffer is as it was
abbrev pub ReceivedOnce : Type 0
ReceivedOnce =
    ((fetched_under (0x2E ∷ 0x00 ∷ 0x00 ∷ [])).answer ≡ fetched None 11 3 0)
    × ((fetched_under (0x2E ∷ 0x00 ∷ 0x00 ∷ [])).buffer ≡ eight_bytes ++ (three_bytes ++ replicate 5 0xEE))
    × ((slice_index_or (fetched_under (0x2E ∷ 0x00 ∷ 0x00 ∷ [])).bus.devices.endpoints 0 nowhere).waiting ≡ [])
