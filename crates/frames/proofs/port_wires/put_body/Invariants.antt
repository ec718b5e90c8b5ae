use Rattle.std.proofs.Common.{◌≡◌, take, drop, replicate}
use Rattle.frames.specs.Exchanges.{after_put_body}
use Rattle.frames.proofs.port_wires.put_body.Given as goal

abbrev pub invariant-loop-byte : goal.invariant-loop-byte
invariant-loop-byte g l =
    (after_put_body l.at.number (drop l.byte-index l.body) (g.P.Port.meaning l.port) ≡ after_put_body l.fn.register.number l.initial.body (g.P.Port.meaning l.initial.port))
    × (take l.byte-index l.body ≡ replicate l.byte-index 0)
