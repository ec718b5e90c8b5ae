use Rattle.std.proofs.Common.{length, ap, arith}
use Rattle.host.specs.Fetching.{fetching}
use Rattle.host.proofs.FetchSteps.{step_within}
use Rattle.host.proofs.Runs.{turn_more, turn_still, turn_last}
use Rattle.host.proofs.fetching.fetch.Goals as goal

pub returns-then-not-going : goal.returns-then-not-going
returns-then-not-going g c =
    let e = turn_still _ _ _ _ _ _ c.loop.invariant.0 c.if-not-going.ensures in
    record { intake = ap (λ s. s.intake) e; buffer = ap (λ s. s.buffer) e; after = ap (λ s. s.bus) e }

pub loop-preserved : goal.loop-preserved
loop-preserved g c = (
  turn_more _ _ _ _ _ _ c.loop.invariant.0 _ c.loop-test.true c.if-not-going.ensures (λ i. fetching (c.step.ensures.intake i) (c.step.ensures.buffer i) (c.step.ensures.after i)),
  omega (arith, ap (λ q. q.tally.tries) c.step.ensures.intake, c.loop.invariant.1),
  let p = c.args.pipe in
      let w = step_within p.address p.endpoint p.size p.limit (fetching c.loop.intake c.loop.buffer (g.P.Port.meaning c.loop.port)) c.loop.invariant.2 in
      let r = ap (λ q. q.received) c.step.ensures.intake in
      let l = ap length c.step.ensures.buffer in
      omega arith,
)

pub returns : goal.returns
returns g c =
    let e = turn_last _ _ _ _ _ _ c.loop.invariant.0 c.loop-test.false in
    record { intake = ap (λ s. s.intake) e; buffer = ap (λ s. s.buffer) e; after = ap (λ s. s.bus) e }
