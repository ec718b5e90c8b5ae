use Rattle.std.proofs.Common.{◌≡◌}
use Rattle.std.specs.Slice.Iter.{chunks_rest, chunks_size}
use Rattle.port.specs.Accesses.{after_puts}
use Rattle.frames.specs.Format.{put_command}
use Rattle.frames.specs.Pieces.{frame_size, row}
use Rattle.frames.proofs.Cutting.{Leads}
use Rattle.frames.proofs.framed_ports.FramedPortPort.put_many.Given as goal

abbrev pub invariant-loop-piece : goal.invariant-loop-piece
invariant-loop-piece g l = record {
  can : (goal.iterator-loop-piece g).can_next l.piece-iterator;
  ends : (goal.iterator-loop-piece g).is_finite l.piece-iterator;
  size : chunks_size l.piece-iterator ≡ frame_size l.register.number;
  after : after_puts l.register.number (chunks_rest l.piece-iterator) (g.W.Wire.meaning l.self.wire) ≡ after_puts l.register.number l.fn.bytes (g.W.Wire.meaning l.initial.self.wire);
  sent : Leads g.W.Wire.heard (row (put_command l.register.number) (frame_size l.register.number) (chunks_rest l.piece-iterator)) l.self.wire (row (put_command l.register.number) (frame_size l.register.number) l.fn.bytes) l.initial.self.wire;
  mode : g.W.Wire.duplex l.self.wire ≡ g.W.Wire.duplex l.initial.self.wire;
}
