use Rattle.std.proofs.Common.{◌≡◌, [], map, vec_items, refl, ap, subst, arith}
use Rattle.std.proofs.lemmas.List.{nil_from_length}
use Rattle.std.specs.Vec.Iter.{into_iter_items}
use Rattle.service.specs.Asks.{asked, replied}
use Rattle.service.specs.Serving.{state, ServedBehind}
use Rattle.service.proofs.Serves.{so_far_more, so_far_all}
use Rattle.service.proofs.serving.serve_into.Goals as goal

pub loop-call-preserved : goal.loop-call-preserved
loop-call-preserved g c =
    let s = state c.loop-call.host.table.pipes (g.P.Port.meaning c.loop-call.host.port) in
    let steps = c.in-Some.ensures.steps in (
      so_far_more _ s _ _ (map replied (vec_items c.loop-call.outcomes)) _ (asked c.in-Some.call) _ _ _ _
          (ap (map asked) steps.0)
          refl
          (λ i. state (c.serve_next.ensures.table i) (c.serve_next.ensures.after i))
          c.serve_next.ensures.reply
          c.loop-call.invariant.0,
      omega (arith, c.loop-call.invariant.1, steps.1, c.serve_next.ensures.len, c.serve_next.ensures.capacity),
      tt,
      tt,
    )

pub returns-clause-served : goal.returns-clause-served
returns-clause-served g c =
    let s = state c.loop-call.host.table.pipes (g.P.Port.meaning c.loop-call.host.port) in
    let start = state c.args.host.now.table.pipes (g.P.Port.meaning c.args.host.now.port) in
    let before = map replied (vec_items c.args.outcomes.now) in
    let items = into_iter_items c.loop-call.call-iterator in
    let none : items ≡ [] = nil_from_length items (omega (arith, c.loop-call.call-iterator.rest.ok.0, c.in-None.ensures.steps.0)) in
    let all : map asked (into_iter_items c.into_iter-call-iterator.result) ≡ map asked (vec_items c.args.calls) = ap (map asked) c.into_iter-call-iterator.ensures.into_iter_gives.0 in
    let given = map replied (vec_items c.loop-call.outcomes) in
    subst (λ l. ServedBehind before start l given s) all (so_far_all before s start given (map asked items) _ (ap (map asked) none) c.loop-call.invariant.0)
