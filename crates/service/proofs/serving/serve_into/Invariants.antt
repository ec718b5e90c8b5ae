use Rattle.std.proofs.Common.{◌+◌, ◌≤◌, map, vec_items, vec_len, vec_capacity}
use Rattle.std.specs.Vec.Iter.{into_iter_items, into_iter_len}
use Rattle.service.specs.Asks.{asked, replied}
use Rattle.service.specs.Serving.{state}
use Rattle.service.proofs.Serves.{SoFar}
use Rattle.service.proofs.serving.serve_into.Given as goal

abbrev pub invariant-loop-call : goal.invariant-loop-call
invariant-loop-call g l =
    (SoFar (map replied (vec_items l.initial.outcomes)) (state l.host.table.pipes (g.P.Port.meaning l.host.port)) (map replied (vec_items l.outcomes)) (map asked (into_iter_items l.call-iterator)) (state l.initial.host.table.pipes (g.P.Port.meaning l.initial.host.port)) (map asked (into_iter_items l.initial.call-iterator)))
    × (vec_len l.outcomes + into_iter_len l.call-iterator ≤ vec_capacity l.outcomes)
    × (goal.iterator-loop-call g).can_next l.call-iterator
    × (goal.iterator-loop-call g).is_finite l.call-iterator
