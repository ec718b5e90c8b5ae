-- A send as a step machine: each step is one try of the present packet. Assumes nothing.
use Rattle.std.specs.Prelude.{ℕ, ◌+◌, ◌*◌, min, Bool, true, false, cond, ◌&&◌, List, length, take, drop, Some, None, Option, ◌==◌, nat_lt}
use Rattle.port.specs.Toggles.{toggle_of}
use Rattle.port.specs.Bus.{Bus}
use Rattle.attempt.specs.Tries.{out_answer, after_out}
use Rattle.pipes.specs.declared.pipes.Event.{Event}
use Rattle.pipes.specs.declared.pipes.Event.TheVariants as event
use Rattle.pipes.specs.declared.pipes.Pipe.{Pipe}
use Rattle.pipes.specs.declared.refusals.Refusal.{Refusal}
use Rattle.host.specs.declared.sending.Progress.{Progress}
use Rattle.pipes.specs.Answers.{answered}
use Rattle.pipes.specs.declared.answers.Answer.{Answer}
use Rattle.pipes.specs.Counting.{verdict, succeeded}
use Rattle.host.specs.Machines.{run}
use Rattle.host.specs.Tallies.{no_tries, tallied}

abbrev pub none_yet : Option Refusal → Bool
none_yet None = true
none_yet (Some refusal) = false

-- how far a send has come, and the bus
pub record Sending : Type 0 where
  pub progress : Progress
  pub bus : Bus

abbrev pub sending : Progress → Bus → Sending
sending q b = record { progress = q; bus = b }

-- the progress after a try of a packet of this length: on success the packet is sent
abbrev pub judged : ℕ → Progress → ℕ → ℕ → ℕ → Progress
judged limit q long code bit =
    record {
      sent = cond (succeeded (verdict code q.tally.counts)) (q.sent + long) q.sent;
      tally = tallied limit q.tally code;
      toggle = toggle_of bit;
    }

-- nothing sent, nothing tried, the pipe's toggle
abbrev pub send_start : Pipe → Progress
send_start p = record { sent = 0; tally = no_tries p.limit; toggle = p.toggle }

module _ (p : Pipe) (message : List ℕ) where
  -- the packet that is tried next: as many bytes as the packet size, or what is left
  abbrev pub send_packet : Progress → List ℕ
  send_packet q = take (min p.size 64) (drop q.sent message)

  -- one try
  abbrev pub send_step : Sending → Sending
  send_step s =
      record {
        progress =
            judged p.limit s.progress (length (send_packet s.progress))
            (out_answer p.address p.endpoint s.progress.toggle (send_packet s.progress) s.bus).0
            (out_answer p.address p.endpoint s.progress.toggle (send_packet s.progress) s.bus).1;
        bus = after_out p.address p.endpoint s.progress.toggle (send_packet s.progress) s.bus;
      }

  -- there is more to send, and nothing has stopped it
  abbrev pub send_going : Sending → Bool
  send_going s = none_yet s.progress.tally.stop && nat_lt s.progress.sent (length message)

  -- no send needs more tries than this: three misses and the NAKs of the limit for each byte
  abbrev pub send_budget : ℕ
  send_budget = length message * (p.limit + 3)

  abbrev pub send_run : Bus → Sending
  send_run b = run send_going send_step send_budget (sending (send_start p) b)

  -- the bytes that the device may have taken: the packet at which the send stopped, if any try of it was a miss
  abbrev pub doubt : Progress → ℕ
  doubt q = cond (none_yet q.tally.stop) 0 (cond q.tally.counts.missed (length (send_packet q)) 0)

  abbrev pub send_answer : Progress → Answer
  send_answer q = answered q.tally.stop q.sent (doubt q) q.tally.tries q.tally.last

-- what came of a send, by the number of its answer and how many bytes are doubtful
abbrev pub send_event : ℕ → ℕ → Event
send_event number n = cond (number == 0) event.Succeeded (cond (number == 16) event.Stalled (cond (nat_lt 0 n) event.StoppedUnsure event.StoppedSure))
