-- Worked runs, which show that the laws say something. A printer at address 5, endpoint 2, and a tag pad at address 9, endpoint 1, each
-- alone on its bus, with packet size 8 and NAK limit 3. Assumes nothing.
use Rattle.std.specs.Prelude.{◌≡◌, ℕ, false, List, [], ◌∷◌, ◌++◌, take, replicate, Some, None, Ok}
use Rattle.port.specs.declared.directions.Direction.TheVariants.{Out, In}
use Rattle.port.specs.declared.toggles.Toggle.TheVariants.{Data0, Data1}
use Rattle.port.specs.Chip.{fresh_chip}
use Rattle.port.specs.Endpoints.{Endpoint}
use Rattle.port.specs.Bus.{Bus, Fresh}
use Rattle.attempt.specs.Tries.{out_answer, after_out}
use Rattle.pipes.specs.declared.pipes.Standing.TheVariants.{InStep}
use Rattle.pipes.specs.declared.refusals.Refusal.TheVariants.{ThirdMiss}
use Rattle.pipes.specs.Answers.{answered, fetched, looked_at}
use Rattle.pipes.specs.Tables.{unused}
use Rattle.host.specs.Calls.{look_answer}
use Rattle.host.specs.Effects.{endpoint_at}
use Rattle.service.specs.Asks.{Ask, open_pipe, send_message, fetch_into, recover_pipe, Reply, answers, brings}
use Rattle.service.specs.Serving.{State, state, replies, at_the_end}
use Rattle.service.specs.Words.{Lead}
use Rattle.service.specs.Laws.{Took, StillHolds, story}

abbrev pub bus_of : Endpoint → List ℕ → Bus
bus_of e fates = record { chip = fresh_chip; devices = record { endpoints = e ∷ []; heard = None }; fates = fates }

abbrev pub printer : Endpoint
printer = record { address = 5; number = 2; direction = Out; toggle = Data1; halted = false; capacity = 4096; taken = []; waiting = [] }

abbrev pub slip : List ℕ
slip = 48 ∷ 49 ∷ 50 ∷ 51 ∷ 52 ∷ 53 ∷ 54 ∷ 55 ∷ 56 ∷ 57 ∷ []

abbrev pub ends_with : Bus → List Ask → State
ends_with b asks = at_the_end (state unused b) asks

abbrev pub replies_of : Bus → List Ask → List Reply
replies_of b asks = replies (state unused b) asks

-- what the endpoint at the first place has taken at the end
abbrev pub taken_at_end : Bus → List Ask → List ℕ
taken_at_end b asks = (endpoint_at (ends_with b asks).bus 0).taken

-- open, and one slip
abbrev pub one_slip : List Ask
one_slip = open_pipe 0 5 2 Out 8 3 ∷ send_message 0 slip ∷ []

-- the first packet is lost three times; or it arrives unheard, and is then lost twice
abbrev pub lost_thrice : Bus
lost_thrice = bus_of printer (0x00 ∷ 0x00 ∷ 0x1E ∷ 0x1E ∷ 0x1E ∷ [])

abbrev pub unheard_then_lost : Bus
unheard_then_lost = bus_of printer (0x00 ∷ 0x00 ∷ 0x2E ∷ 0x1E ∷ 0x1E ∷ [])

-- both buses are fresh, and the replies are the same: eight bytes are doubtful. One printer took nothing, the other eight bytes
abbrev pub DoubtIsReal : Type 0
DoubtIsReal =
    Fresh lost_thrice
    × Fresh unheard_then_lost
    × (replies_of lost_thrice one_slip ≡ answers (answered None 0 0 2 0) ∷ answers (answered (Some ThirdMiss) 0 8 3 14) ∷ [])
    × (replies_of unheard_then_lost one_slip ≡ replies_of lost_thrice one_slip)
    × (taken_at_end lost_thrice one_slip ≡ [])
    × (taken_at_end unheard_then_lost one_slip ≡ take 8 slip)

-- the slip again after a recover: eight bytes were taken twice, and the laws allow it
abbrev pub slip_again : List Ask
slip_again = open_pipe 0 5 2 Out 8 3 ∷ send_message 0 slip ∷ recover_pipe 0 ∷ send_message 0 slip ∷ []

abbrev pub mended : Bus
mended = bus_of printer (0x00 ∷ 0x00 ∷ 0x2E ∷ 0x1E ∷ 0x1E ∷ 0x00 ∷ 0x00 ∷ 0x00 ∷ 0x00 ∷ [])

abbrev pub TakenTwiceInPart : Type 0
TakenTwiceInPart =
    Fresh mended
    × (replies_of mended slip_again ≡ answers (answered None 0 0 2 0) ∷ answers (answered (Some ThirdMiss) 0 8 3 14) ∷ answers (answered None 0 0 2 0) ∷ answers (answered None 10 0 2 0) ∷ [])
    × (taken_at_end mended slip_again ≡ take 8 slip ++ slip)

-- a pad with a packet of eight bytes and one of three
abbrev pub first_packet : List ℕ
first_packet = 65 ∷ 66 ∷ 67 ∷ 68 ∷ 69 ∷ 70 ∷ 71 ∷ 72 ∷ []

abbrev pub second_packet : List ℕ
second_packet = 73 ∷ 74 ∷ 75 ∷ []

abbrev pub pad : Endpoint
pad = record { address = 9; number = 1; direction = In; toggle = Data1; halted = false; capacity = 0; taken = []; waiting = first_packet ∷ second_packet ∷ [] }

-- the acknowledgement of the first packet is lost
abbrev pub unacknowledged : Bus
unacknowledged = bus_of pad (0x00 ∷ 0x00 ∷ 0x2E ∷ 0x00 ∷ 0x00 ∷ [])

abbrev pub pad_lead : Lead
pad_lead = record { address = 9; endpoint = 1; direction = In; size = 8 }

abbrev pub blank : List ℕ
blank = replicate 8 0

-- one fetch, and then another
abbrev pub one_fetch : List Ask
one_fetch = open_pipe 1 9 1 In 8 3 ∷ fetch_into 1 blank ∷ []

abbrev pub two_fetches : List Ask
two_fetches = open_pipe 1 9 1 In 8 3 ∷ fetch_into 1 blank ∷ fetch_into 1 blank ∷ []

-- after the first fetch the device still holds the packet that it handed over, and the toggle shown is not the device's; the next fetch meets
-- that packet again, drops it, and hands over the one that follows
abbrev pub StillHeldAndNotTwice : Type 0
StillHeldAndNotTwice =
    Fresh unacknowledged
    × StillHolds 1 pad_lead (story unacknowledged one_fetch) (ends_with unacknowledged one_fetch).bus
    × (look_answer (ends_with unacknowledged one_fetch).places 1 ≡ Ok (looked_at InStep Data1))
    × ((endpoint_at (ends_with unacknowledged one_fetch).bus 0).toggle ≡ Data0)
    × (replies_of unacknowledged two_fetches ≡ answers (answered None 0 0 2 0) ∷ brings (fetched None 8 1 0) first_packet ∷ brings (fetched None 3 2 0) (second_packet ++ replicate 5 0) ∷ [])

-- a host that goes on with its old toggle, where eight bytes are doubtful: the printer takes its next packet for the one it took before, drops
-- it, and acknowledges it. To call those bytes sent breaks the slip law
abbrev pub next_slip : List ℕ
next_slip = 97 ∷ 98 ∷ 99 ∷ 100 ∷ 101 ∷ 102 ∷ 103 ∷ 104 ∷ []

-- as above, with one fate more, so that the next packet arrives
abbrev pub cable : Bus
cable = bus_of printer (0x00 ∷ 0x00 ∷ 0x2E ∷ 0x1E ∷ 0x1E ∷ 0x00 ∷ [])

abbrev pub OldToggleLies : Type 0
OldToggleLies =
    (replies_of cable one_slip ≡ answers (answered None 0 0 2 0) ∷ answers (answered (Some ThirdMiss) 0 8 3 14) ∷ [])
    × ((out_answer 5 2 Data0 next_slip (ends_with cable one_slip).bus).0 ≡ 0)
    × ((endpoint_at (after_out 5 2 Data0 next_slip (ends_with cable one_slip).bus) 0).taken ≡ take 8 slip)
    × (Took (record { bytes = next_slip; answer = answered None 8 0 1 0 } ∷ record { bytes = slip; answer = answered (Some ThirdMiss) 0 8 3 14 } ∷ []) (take 8 slip) → ⊥)
