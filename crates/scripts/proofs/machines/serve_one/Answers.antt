use Rattle.std.proofs.Common.{◌≡◌, vec_len, length, ◌∙◌, ap, arith}
use Rattle.std.proofs.lemmas.Grind.{common_steps}
use Rattle.service.specs.Asks.{replied}
use Rattle.scripts.specs.Scenes.{serving}
use Rattle.scripts.proofs.Once.{once, last_of_one, taken, called}
use Rattle.scripts.proofs.machines.serve_one.Goals as goal

pub unwrap-outcome-requires : goal.unwrap-outcome-requires
unwrap-outcome-requires g c =
    let (o, one, reply, after) = once _ _ c.args.call c.in_ok-calls.calls.items c.in_ok-outcomes.outcomes.items c.in_ok-calls.ensures.items c.in_ok-outcomes.ensures.served in
    let many : vec_len c.in_ok-outcomes.outcomes ≡ length c.in_ok-outcomes.outcomes.items = grind (arith, common_steps) in
    let (some, last) = last_of_one c.in_ok-outcomes.outcomes.items (vec_len c.in_ok-outcomes.outcomes) o one many in
    c.pop.ensures.variant.1 some

pub returns : goal.returns
returns g c =
    let (o, one, reply, after) = once _ _ c.args.call c.in_ok-calls.calls.items c.in_ok-outcomes.outcomes.items c.in_ok-calls.ensures.items c.in_ok-outcomes.ensures.served in
    let many : vec_len c.in_ok-outcomes.outcomes ≡ length c.in_ok-outcomes.outcomes.items = grind (arith, common_steps) in
    let (some, last) = last_of_one c.in_ok-outcomes.outcomes.items (vec_len c.in_ok-outcomes.outcomes) o one many in
    let popped = c.pop.ensures.value o some in
    let it = taken c.pop.result c.unwrap-outcome.result _ o c.unwrap-outcome.ensures popped last in
    (c.unwrap-outcome.result, called c.args.call _ _ _ c.of-verb.ensures c.pipe_of-pipe.ensures, ap replied it ∙ reply, ap serving after)
