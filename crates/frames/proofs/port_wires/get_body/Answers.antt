use Rattle.std.proofs.Common.{arith}
use Rattle.frames.proofs.Bodies.{get_more, got_more}
use Rattle.frames.proofs.port_wires.get_body.Goals as goal

pub loop-byte-preserved : goal.loop-byte-preserved
loop-byte-preserved g c = (
  get_more _ _ c.loop-byte.body c.loop-byte.byte-index _ _ _ (omega arith) c.next-at.ensures c.get.ensures.after _ c.loop-byte.invariant.0,
  got_more _ _ c.loop-byte.body c.loop-byte.byte-index _ _ _ (omega arith) c.next-at.ensures c.get.ensures.after _ c.get.ensures.value c.loop-byte.invariant.1,
)
