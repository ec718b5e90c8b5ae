use Rattle.std.proofs.Common.{◌∙◌, sym, arith, rules}
use Rattle.std.specs.Slice.Iter.{chunks_rest}
use Rattle.frames.specs.Format.{put_command}
use Rattle.frames.specs.Pieces.{frame_size}
use Rattle.frames.proofs.Above.{puts_above}
use Rattle.frames.proofs.Carrying.{some_fit}
use Rattle.frames.proofs.Cutting.{puts_parts, leads_more, put_after, put_sent}
use Rattle.frames.proofs.framed_ports.FramedPortPort.put_many.Goals as goal

pub returns-in_default-clause-after : goal.returns-in_default-clause-after
returns-in_default-clause-after g c = sym (puts_above c.args.register (omega arith) c.args.bytes.now _)

pub loop-piece-preserved : goal.loop-piece-preserved
loop-piece-preserved g c =
    let r = c.in-Some.register.number in
    let steps = c.in-Some-piece.ensures.steps in
    let size = c.loop-piece.invariant.size in
    let parts = puts_parts r c.in-Some-piece.piece.now (chunks_rest c.next.new.self) (g.W.Wire.meaning c.loop-piece.self.wire) in
    record {
      can = search rules;
      ends = tt;
      size = steps.0 ∙ size;
      after = cc (steps.1.0, c.put_piece.ensures.after, c.loop-piece.invariant.after);
      sent =
          leads_more g.W.Wire.heard (put_command r) (frame_size r) (some_fit r) _ _ _ _ _ _ _ steps.1.2 steps.1.0 (rw size at steps.1.1) c.put_piece.ensures.sent c.loop-piece.invariant.sent;
      mode = c.put_piece.ensures.mode ∙ c.loop-piece.invariant.mode;
    }

pub returns : goal.returns
returns g c =
    let none = c.in-None.ensures.steps.1.0 in
    record {
      after = put_after c.in-Some.register.number _ c.args.bytes.now (chunks_rest c.loop-piece.piece-iterator) none c.in-Some.ensures _ (g.W.Wire.meaning c.args.self.now.wire) c.loop-piece.invariant.after;
      mode = c.loop-piece.invariant.mode;
      sent = put_sent _ _ _ _ none c.in-Some.ensures g.W.Wire.heard _ _ c.in-Some.register.named c.loop-piece.invariant.sent;
    }
