-- The calls as functions of the table, the bus and the arguments: the answer, the table and the bus afterwards. Assumes nothing.
use Rattle.std.specs.Prelude.{ℕ, List, length, Some, None, Ok, Err, Option, Result, slice_set}
use Rattle.port.specs.declared.directions.Direction.{Direction}
use Rattle.port.specs.declared.toggles.Toggle.TheVariants.{Data0}
use Rattle.port.specs.Bus.{Bus}
use Rattle.pipes.specs.declared.answers.Answer.{Answer}
use Rattle.pipes.specs.declared.answers.Looked.{Looked}
use Rattle.host.specs.declared.fetching.Intake.{Intake}
use Rattle.pipes.specs.declared.pipes.Event.TheVariants.{Succeeded, RecoverFailed}
use Rattle.pipes.specs.declared.pipes.Pipe.{Pipe}
use Rattle.pipes.specs.declared.refusals.Refusal.{Refusal}
use Rattle.host.specs.declared.sending.Progress.{Progress}
use Rattle.pipes.specs.Answers.{answer_number, answered, declined, looked_at}
use Rattle.pipes.specs.Standings.{next_standing}
use Rattle.pipes.specs.Tables.{Places, with_state, new_pipe}
use Rattle.pipes.specs.Checks.{open_refusal, present, admit_send, admit_fetch, admit_recover}
use Rattle.host.specs.Opening.{Requesting, clear_run, clear_answer}
use Rattle.host.specs.Sending.{Sending, send_run, send_answer, send_event}
use Rattle.host.specs.Fetching.{Fetching, fetch_run, fetch_answer, fetch_event}

-- what a call leaves
pub record Done : Type 0 where
  pub answer : Answer
  pub places : Places
  pub bus : Bus

abbrev pub done : Answer → Places → Bus → Done
done answer places bus = record { answer = answer; places = places; bus = bus }

-- what a fetch leaves: the buffer too
pub record Brought : Type 0 where
  pub answer : Answer
  pub buffer : List ℕ
  pub places : Places
  pub bus : Bus

abbrev pub brought : Answer → List ℕ → Places → Bus → Brought
brought answer buffer places bus = record { answer = answer; buffer = buffer; places = places; bus = bus }

module _ (places : Places) (b : Bus) (number : ℕ) where
  -- open: success puts the pipe into its place; a failure leaves it absent
  abbrev pub opened : Pipe → Option Refusal → Places
  opened p None = slice_set places number (Some p)
  opened p (Some refusal) = places

  abbrev pub open_end : Pipe → Requesting → Done
  open_end p s = done (clear_answer s.clearing) (opened p s.clearing.tally.stop) s.bus

  abbrev pub open_by : ℕ → ℕ → Direction → ℕ → ℕ → Option Refusal → Done
  open_by address endpoint direction size limit (Some refusal) = done (declined refusal) places b
  open_by address endpoint direction size limit None = open_end (new_pipe address endpoint direction size limit) (clear_run address endpoint direction limit b)

  abbrev pub open_done : ℕ → ℕ → Direction → ℕ → ℕ → Done
  open_done address endpoint direction size limit = open_by address endpoint direction size limit (open_refusal places number address endpoint direction size limit)

  -- send: the pipe's toggle is the one after the last try, and its standing follows from what came of it
  abbrev pub sent_pipe : Pipe → List ℕ → Progress → Pipe
  sent_pipe p message q =
      with_state p q.toggle (next_standing p.standing (send_event (answer_number (send_answer p message q)) (send_answer p message q).doubtful))

  abbrev pub send_end : Pipe → List ℕ → Sending → Done
  send_end p message s = done (send_answer p message s.progress) (slice_set places number (Some (sent_pipe p message s.progress))) s.bus

  abbrev pub send_by : List ℕ → Result Pipe Refusal → Done
  send_by message (Err refusal) = done (declined refusal) places b
  send_by message (Ok p) = send_end p message (send_run p message b)

  abbrev pub send_done : List ℕ → Done
  send_done message = send_by message (admit_send places number (length message))

  -- fetch: the pipe's toggle is the one after the last try, and its standing follows from what came of it
  abbrev pub fetched_pipe : Pipe → Intake → Pipe
  fetched_pipe p q = with_state p q.toggle (next_standing p.standing (fetch_event (answer_number (fetch_answer q))))

  abbrev pub fetch_end : Pipe → Fetching → Brought
  fetch_end p s = brought (fetch_answer s.intake) s.buffer (slice_set places number (Some (fetched_pipe p s.intake))) s.bus

  abbrev pub fetch_by : List ℕ → Result Pipe Refusal → Brought
  fetch_by buffer (Err refusal) = brought (declined refusal) buffer places b
  fetch_by buffer (Ok p) = fetch_end p (fetch_run p.address p.endpoint p.size p.limit p.toggle buffer b)

  abbrev pub fetch_done : List ℕ → Brought
  fetch_done buffer = fetch_by buffer (admit_fetch places number (length buffer))

  -- recover: success brings the pipe in step with DATA0; a failure makes it doubtful and leaves its toggle
  abbrev pub recovered : Pipe → Option Refusal → Pipe
  recovered p None = with_state p Data0 (next_standing p.standing Succeeded)
  recovered p (Some refusal) = with_state p p.toggle (next_standing p.standing RecoverFailed)

  abbrev pub recover_end : Pipe → Requesting → Done
  recover_end p s = done (clear_answer s.clearing) (slice_set places number (Some (recovered p s.clearing.tally.stop))) s.bus

  abbrev pub recover_by : Result Pipe Refusal → Done
  recover_by (Err refusal) = done (declined refusal) places b
  recover_by (Ok p) = recover_end p (clear_run p.address p.endpoint p.direction p.limit b)

  abbrev pub recover_done : Done
  recover_done = recover_by (admit_recover places number)

  -- close: the pipe is absent
  abbrev pub close_by : Result Pipe Refusal → Done
  close_by (Err refusal) = done (declined refusal) places b
  close_by (Ok p) = done (answered None 0 0 0 0) (slice_set places number None) b

  abbrev pub close_done : Done
  close_done = close_by (present places number)

-- look: the pipe's standing and toggle
abbrev pub look_by : Result Pipe Refusal → Result Looked Refusal
look_by (Err refusal) = Err refusal
look_by (Ok p) = Ok (looked_at p.standing p.toggle)

abbrev pub look_answer : Places → ℕ → Result Looked Refusal
look_answer places number = look_by (present places number)
