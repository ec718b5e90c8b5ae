use Rattle.std.proofs.Common.{◌≡◌, drop}
use Rattle.port.specs.Accesses.{after_puts}
use Rattle.port.proofs.accesses.Port.put_many.Given as goal

abbrev pub invariant-loop-byte : goal.invariant-loop-byte
invariant-loop-byte g l = after_puts l.register (drop l.byte-index l.bytes) (g.Self.Port.meaning l.self) ≡ after_puts l.register l.bytes (g.Self.Port.meaning l.initial.self)
