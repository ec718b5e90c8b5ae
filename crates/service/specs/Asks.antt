-- A call and what came of it as plain values: numbers and lists of bytes, whatever memory holds them. Assumes nothing.
use Rattle.std.specs.Prelude.{ℕ, List, Ok, Err, Result, vec_items}
use Rattle.port.specs.declared.directions.Direction.{Direction}
use Rattle.pipes.specs.declared.answers.Answer.{Answer}
use Rattle.pipes.specs.declared.answers.Looked.{Looked}
use Rattle.pipes.specs.declared.refusals.Refusal.{Refusal}
use Rattle.pipes.specs.Answers.{answer_number}
use Rattle.pipes.specs.Refusals.{refusal_number}
use Rattle.service.specs.declared.calls.Call.{Call}
use Rattle.service.specs.declared.calls.Call.TheVariants as call
use Rattle.service.specs.declared.calls.Outcome.{Outcome}
use Rattle.service.specs.declared.calls.Outcome.TheVariants as outcome

-- what is asked of the host; the first number is the pipe's
pub data Ask : Type 0 where
  open_pipe : (pipe address endpoint : ℕ) (direction : Direction) (size limit : ℕ) → Ask
  send_message : (pipe : ℕ) (message : List ℕ) → Ask
  fetch_into : (pipe : ℕ) (buffer : List ℕ) → Ask
  recover_pipe : (pipe : ℕ) → Ask
  look_at : (pipe : ℕ) → Ask
  close_pipe : (pipe : ℕ) → Ask

-- what it replies: an answer; of a fetch with the buffer afterwards; of a look what it shows, or why it shows nothing
pub data Reply : Type 0 where
  answers : Answer → Reply
  brings : Answer → List ℕ → Reply
  shows : Result Looked Refusal → Reply

abbrev pub asked : Call → Ask
asked (call.Open n plan) = open_pipe n plan.address plan.endpoint plan.direction plan.size plan.limit
asked (call.Send n m) = send_message n (vec_items m)
asked (call.Fetch n b) = fetch_into n (vec_items b)
asked (call.Recover n) = recover_pipe n
asked (call.Look n) = look_at n
asked (call.Close n) = close_pipe n

-- 0 for success, else the refusal's number
abbrev pub reply_number : Reply → ℕ
reply_number (answers a) = answer_number a
reply_number (brings a buffer) = answer_number a
reply_number (shows (Ok l)) = 0
reply_number (shows (Err why)) = refusal_number why

abbrev pub replied : Outcome → Reply
replied (outcome.Answered a) = answers a
replied (outcome.Fetched a b) = brings a (vec_items b)
replied (outcome.Shown l) = shows l
