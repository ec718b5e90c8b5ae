use Rattle.std.proofs.Common.{◌≡◌, length}
use Rattle.frames.proofs.Cutting.{Fetched}
use Rattle.frames.proofs.framed_ports.FramedPortPort.get_many.Given as goal

abbrev pub invariant-loop-start : goal.invariant-loop-start
invariant-loop-start g l = record {
  fetched : Fetched (λ w. g.W.Wire.meaning w) (λ w bytes w'. g.W.Wire.heard w bytes w') l.register.number (length l.fn.into) l.initial.self.wire l.start l.into l.self.wire;
  mode : g.W.Wire.duplex l.self.wire ≡ g.W.Wire.duplex l.initial.self.wire;
}
