-- That a fate is one that a byte can stand for is a fact: it has one proof at most. Assumes nothing.
use Rattle.std.specs.Coded.{×_prop, Unit-prop, le_prop}
use Rattle.port.specs.declared.fates.Fate.{Fate}
use Rattle.port.specs.declared.fates.Fate.TheVariants.{Arrives, Lost, Unheard, Nak, Stall}
use Rattle.port.specs.Fates.{Real}

pub Real-prop : (fate : Fate) → IsProp (Real fate)
Real-prop Arrives = Unit-prop
Real-prop (Lost code) = ×_prop le_prop le_prop
Real-prop (Unheard code) = ×_prop le_prop le_prop
Real-prop Nak = Unit-prop
Real-prop Stall = Unit-prop
