use Rattle.std.proofs.Common.{arith}
use Rattle.port.proofs.Many.{gets_more, gots_more}
use Rattle.port.proofs.accesses.Port.get_many.Goals as goal

pub loop-place-preserved : goal.loop-place-preserved
loop-place-preserved g c = (
  gets_more _ c.loop-place.into c.loop-place.place-index _ _ _ _ (omega arith) c.get.ensures.after c.loop-place.invariant.0,
  gots_more _ c.loop-place.into c.loop-place.place-index _ _ _ _ (omega arith) c.get.ensures.value c.get.ensures.after c.loop-place.invariant.1,
)
