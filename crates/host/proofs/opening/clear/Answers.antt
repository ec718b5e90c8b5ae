use Rattle.std.proofs.Common.{ap, arith}
use Rattle.host.specs.Opening.{requesting}
use Rattle.host.proofs.Runs.{turn_more, turn_still, turn_last}
use Rattle.host.proofs.opening.clear.Goals as goal

pub returns-then-not-going : goal.returns-then-not-going
returns-then-not-going g c =
    let e = turn_still _ _ _ _ _ _ c.loop.invariant.0 c.if-not-going.ensures in
    record { clearing = ap (λ s. s.clearing) e; after = ap (λ s. s.bus) e }

pub loop-preserved : goal.loop-preserved
loop-preserved g c = (
  turn_more _ _ _ _ _ _ c.loop.invariant.0 _ c.loop-test.true c.if-not-going.ensures (λ i. requesting (c.step.ensures.clearing i) (c.step.ensures.after i)),
  omega (arith, ap (λ q. q.tally.tries) c.step.ensures.clearing, c.loop.invariant.1),
)

pub returns : goal.returns
returns g c =
    let e = turn_last _ _ _ _ _ _ c.loop.invariant.0 c.loop-test.false in
    record { clearing = ap (λ s. s.clearing) e; after = ap (λ s. s.bus) e }
