-- An open, by whether it is admitted. Assumes nothing.
use Rattle.std.proofs.Common.{◌≡◌, ℕ, Some, None, Ok, Err, Option, Result, refl, sym, ap, ◌∙◌}
use Rattle.port.specs.Bus.{Bus}
use Rattle.pipes.specs.declared.pipes.Pipe.{Pipe}
use Rattle.pipes.specs.declared.pipes.PipePlan.{PipePlan}
use Rattle.pipes.specs.declared.refusals.Refusal.{Refusal}
use Rattle.pipes.specs.Answers.{declined}
use Rattle.pipes.specs.Tables.{Places, new_pipe}
use Rattle.pipes.specs.Checks.{open_refusal, unless_refused, admit_open}
use Rattle.host.specs.Calls.{Done, done, open_end, open_by, open_done}
use Rattle.host.specs.Opening.{clear_run}

module _ (places : Places) (b : Bus) (number : ℕ) (plan : PipePlan) where
  abbrev end_by : Result Pipe Refusal → Done
  end_by (Ok p) = open_end places b number p (clear_run p.address p.endpoint p.direction p.limit b)
  end_by (Err why) = done (declined why) places b

  same_end : (r : Option Refusal) → open_by places b number plan.address plan.endpoint plan.direction plan.size plan.limit r ≡ end_by (unless_refused (new_pipe plan.address plan.endpoint plan.direction plan.size plan.limit) r)
  same_end None = refl
  same_end (Some why) = refl

  -- an open ends as the admitted pipe, or the refusal, says
  pub open_ends : (r : Result Pipe Refusal) → r ≡ admit_open places number plan → end_by r ≡ open_done places b number plan.address plan.endpoint plan.direction plan.size plan.limit
  open_ends r is = ap end_by is ∙ sym (same_end (open_refusal places number plan.address plan.endpoint plan.direction plan.size plan.limit))
