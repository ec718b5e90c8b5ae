-- What the answer of a send says of the message. Assumes nothing.
use Rattle.std.proofs.Common.{◌≡◌, ℕ, ◌+◌, ◌≤◌, true, ltb, List, length, Ok, Err, Option, Result, sym, ap, ◌∙◌, ⊎_elim, arith}
use Rattle.std.proofs.lemmas.Grind.{common_steps}
use Rattle.std.proofs.lemmas.Bool.{ltb-false, and_cases, false≢true}
use Rattle.port.specs.Bus.{Bus}
use Rattle.pipes.specs.declared.pipes.Pipe.{Pipe}
use Rattle.pipes.specs.declared.refusals.Refusal.{Refusal}
use Rattle.host.specs.declared.sending.Progress.{Progress}
use Rattle.pipes.specs.Answers.{number_of, answer_number}
use Rattle.pipes.specs.Tables.{Places}
use Rattle.pipes.specs.Checks.{admit_send}
use Rattle.host.specs.Calls.{send_by}
use Rattle.host.specs.Sending.{sending, none_yet, send_start, send_step, send_going, send_budget, send_run, doubt}
use Rattle.host.specs.Laws.{Made, AnswersStayWithinTheMessage, SuccessSendsAll}
use Rattle.host.proofs.Budgets.{run_over, run_kept}
use Rattle.host.proofs.Runs.{run_keeps}
use Rattle.host.proofs.Steps.{step_sent}

-- the doubtful packet is a part of what is left
pub doubt_within : (p : Pipe) (message : List ℕ) (q : Progress) → q.sent ≤ length message → q.sent + doubt p message q ≤ length message
doubt_within p message q h = grind (arith, common_steps)

run_within : (p : Pipe) (message : List ℕ) (b : Bus) → (send_run p message b).progress.sent ≤ length message
run_within p message b =
    run_keeps (send_going p message) (send_step p message) (λ s. s.progress.sent ≤ length message) (λ s h g. step_sent p message s.progress s.bus h) (send_budget p message) (sending (send_start p) b) (let z : 0 ≤ length message = omega arith in z)

within_by : (places : Places) (b : Bus) (number : ℕ) (message : List ℕ) (r : Result Pipe Refusal) → (send_by places b number message r).answer.sent + (send_by places b number message r).answer.doubtful ≤ length message
within_by places b number message (Ok p) = doubt_within p message (send_run p message b).progress (run_within p message b)
within_by places b number message (Err why) = omega arith

pub answers_stay_within : AnswersStayWithinTheMessage
answers_stay_within places b number message = within_by places b number message (admit_send places number (length message))

pub succeeded : (o : Option Refusal) → number_of o ≡ 0 → none_yet o ≡ true
succeeded o h = grind (arith, common_steps)

-- a run that was not stopped has sent everything
pub all_sent : (p : Pipe) (message : List ℕ) (b : Bus) → Made p → none_yet (send_run p message b).progress.tally.stop ≡ true → (send_run p message b).progress.sent ≡ length message
all_sent p message b made none =
    let q = (send_run p message b).progress in
    let over = run_over p message made.size_above made.limit_above b in
    let kept = run_kept p message made.size_above made.limit_above b in
    ⊎_elim
    (λ f. absurd (false≢true (sym f ∙ none)))
    (λ f. let le = ltb-false q.sent (length message) f in omega (arith, kept.within))
    (and_cases (none_yet q.tally.stop) (ltb q.sent (length message)) over)

pub success_sends_all : SuccessSendsAll
success_sends_all places b number message p h made zero =
    let e = ap (send_by places b number message) h in
    ap (λ d. d.answer.sent) e ∙ all_sent p message b made (succeeded (send_run p message b).progress.tally.stop (sym (ap (λ d. answer_number d.answer) e) ∙ zero))
