-- A fetch as a step machine: each step is one try of the next packet, into the part of the buffer behind what was received. It knows
-- an address, an endpoint, a packet size and a NAK limit, and no pipe. Assumes nothing.
use Rattle.std.specs.Prelude.{ℕ, ◌+◌, ◌*◌, Bool, false, cond, not, ◌&&◌, List, ◌++◌, length, take, drop, Some, Option, ◌==◌, nat_lt}
use Rattle.port.specs.declared.toggles.Toggle.{Toggle}
use Rattle.port.specs.Toggles.{toggle_of}
use Rattle.port.specs.Bus.{Bus}
use Rattle.attempt.specs.declared.tries.Arrival.{Arrival}
use Rattle.attempt.specs.declared.tries.Arrival.TheVariants as arrival
use Rattle.attempt.specs.Tries.{in_answer, in_arrival, in_room, after_in}
use Rattle.pipes.specs.declared.answers.Answer.{Answer}
use Rattle.host.specs.declared.fetching.Intake.{Intake}
use Rattle.host.specs.declared.tallies.Tally.{Tally}
use Rattle.pipes.specs.declared.pipes.Event.{Event}
use Rattle.pipes.specs.declared.pipes.Event.TheVariants as event
use Rattle.pipes.specs.declared.refusals.Refusal.{Refusal}
use Rattle.pipes.specs.declared.refusals.Refusal.TheVariants.{PacketTooLong}
use Rattle.pipes.specs.Answers.{fetched}
use Rattle.host.specs.Machines.{run}
use Rattle.host.specs.Tallies.{no_tries, tallied}
use Rattle.host.specs.Sending.{none_yet}

-- how far a fetch has come, the buffer and the bus
pub record Fetching : Type 0 where
  pub intake : Intake
  pub buffer : List ℕ
  pub bus : Bus

abbrev pub fetching : Intake → List ℕ → Bus → Fetching
fetching q buffer b = record { intake = q; buffer = buffer; bus = b }

-- how many bytes a try brought
abbrev pub bytes_in : Arrival → ℕ
bytes_in arrival.Nothing = 0
bytes_in (arrival.Read n) = n
bytes_in arrival.TooLong = 0

-- the packet that came is shorter than the packet size: it is the last
abbrev pub is_short : ℕ → Arrival → Bool
is_short size arrival.Nothing = false
is_short size (arrival.Read n) = nat_lt n size
is_short size arrival.TooLong = false

-- a packet that is longer than the packet size stops the fetch
abbrev pub long_stop : Arrival → Option Refusal → Option Refusal
long_stop arrival.Nothing stop = stop
long_stop (arrival.Read n) stop = stop
long_stop arrival.TooLong stop = Some PacketTooLong

-- the tally of a fetch that such a packet stops, if it does
abbrev pub long_stopped : Arrival → Tally → Tally
long_stopped came t = record { counts = t.counts; tries = t.tries; last = t.last; stop = long_stop came t.stop }

-- the progress after a try: on success the packet's bytes are received
abbrev pub in_judged : ℕ → ℕ → Intake → ℕ → ℕ → Arrival → Intake
in_judged size limit q code bit came =
    record {
      received = q.received + bytes_in came;
      tally = long_stopped came (tallied limit q.tally code);
      toggle = toggle_of bit;
      ended = is_short size came;
    }

-- nothing received, nothing tried
abbrev pub fetch_start : ℕ → Toggle → Intake
fetch_start limit toggle = record { received = 0; tally = no_tries limit; toggle = toggle; ended = false }

-- a list with other elements from a place on, as many as there are of them
abbrev pub written : ℕ → List ℕ → List ℕ → List ℕ
written i bytes buffer = take i buffer ++ (bytes ++ drop (length bytes) (drop i buffer))

module _ (address endpoint size limit : ℕ) where
  -- the room for the next packet: as many bytes as the packet size, behind what was received
  abbrev pub next_room : Intake → List ℕ → List ℕ
  next_room q buffer = take size (drop q.received buffer)

  -- one try
  abbrev pub fetch_step : Fetching → Fetching
  fetch_step s =
      let q = s.intake in
      let room = next_room q s.buffer in
      let reply = in_answer address endpoint q.toggle room s.bus in
      record {
        intake = in_judged size limit q reply.0 reply.1 (in_arrival address endpoint q.toggle room s.bus);
        buffer = written q.received (in_room address endpoint q.toggle room s.bus) s.buffer;
        bus = after_in address endpoint q.toggle room s.bus;
      }

  -- no short packet has come, the buffer is not full, and nothing has stopped it
  abbrev pub fetch_going : Fetching → Bool
  fetch_going s = none_yet s.intake.tally.stop && (not s.intake.ended && nat_lt s.intake.received (length s.buffer))

  -- no fetch into a buffer of this length needs more tries: three misses and the NAKs of the limit for each byte
  abbrev pub fetch_budget : ℕ → ℕ
  fetch_budget long = long * (limit + 3)

  abbrev pub fetch_run : Toggle → List ℕ → Bus → Fetching
  fetch_run toggle buffer b = run fetch_going fetch_step (fetch_budget (length buffer)) (fetching (fetch_start limit toggle) buffer b)

abbrev pub fetch_answer : Intake → Answer
fetch_answer q = fetched q.tally.stop q.received q.tally.tries q.tally.last

-- what came of a fetch, by the number of its answer
abbrev pub fetch_event : ℕ → Event
fetch_event number = cond (number == 0) event.Succeeded (cond (number == 16) event.Stalled (cond (number == 17) event.LongPacket event.StoppedSure))
