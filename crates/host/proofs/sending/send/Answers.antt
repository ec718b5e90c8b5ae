use Rattle.std.proofs.Common.{◌≤◌, length, sym, ap, subst, arith}
use Rattle.host.specs.Sending.{sending}
use Rattle.host.proofs.Steps.{step_sent}
use Rattle.host.proofs.Runs.{turn_more, turn_still, turn_last}
use Rattle.host.proofs.sending.send.Goals as goal

pub returns-then-not-going : goal.returns-then-not-going
returns-then-not-going g c =
    let e = turn_still _ _ _ _ _ _ c.loop.invariant.0 c.if-not-going.ensures in
    record { progress = ap (λ s. s.progress) e; after = ap (λ s. s.bus) e; within = c.loop.invariant.2 }

pub loop-preserved : goal.loop-preserved
loop-preserved g c = (
  turn_more _ _ _ _ _ _ c.loop.invariant.0 _ c.loop-test.true c.if-not-going.ensures (λ i. sending (c.step.ensures.progress i) (c.step.ensures.after i)),
  omega (arith, ap (λ q. q.tally.tries) c.step.ensures.progress, c.loop.invariant.1),
  subst (λ q. q.sent ≤ length c.args.message.now) (sym c.step.ensures.progress) (step_sent c.args.pipe c.args.message.now c.loop.progress (g.P.Port.meaning c.loop.port) c.loop.invariant.2),
)

pub returns : goal.returns
returns g c =
    let e = turn_last _ _ _ _ _ _ c.loop.invariant.0 c.loop-test.false in
    record { progress = ap (λ s. s.progress) e; after = ap (λ s. s.bus) e; within = c.loop.invariant.2 }
