use Rattle.std.proofs.Common.{◌≡◌, ◌-◌, ◌++◌, length, take}
use Rattle.port.specs.Accesses.{gots, after_gets}
use Rattle.port.proofs.accesses.Port.get_many.Given as goal

abbrev pub invariant-loop-place : goal.invariant-loop-place
invariant-loop-place g l =
    (after_gets l.register (length l.into - l.place-index) (g.Self.Port.meaning l.self) ≡ after_gets l.register (length l.initial.into) (g.Self.Port.meaning l.initial.self))
    × (take l.place-index l.into ++ gots l.register (length l.into - l.place-index) (g.Self.Port.meaning l.self) ≡ gots l.register (length l.initial.into) (g.Self.Port.meaning l.initial.self))
