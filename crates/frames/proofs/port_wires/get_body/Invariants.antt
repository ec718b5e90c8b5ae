use Rattle.std.proofs.Common.{◌≡◌, ◌-◌, ◌++◌, length, take}
use Rattle.frames.specs.Exchanges.{got_body, after_got_body}
use Rattle.frames.proofs.port_wires.get_body.Given as goal

abbrev pub invariant-loop-byte : goal.invariant-loop-byte
invariant-loop-byte g l =
    (after_got_body l.at.number (length l.body - l.byte-index) (g.P.Port.meaning l.port) ≡ after_got_body l.fn.register.number (length l.initial.body) (g.P.Port.meaning l.initial.port))
    × (take l.byte-index l.body ++ got_body l.at.number (length l.body - l.byte-index) (g.P.Port.meaning l.port) ≡ got_body l.fn.register.number (length l.initial.body) (g.P.Port.meaning l.initial.port))
