-- How a byte is read as a fate: its kind in the upper four bits, a result code in the lower four. Assumes nothing.
use Rattle.std.specs.Prelude.{ℕ, ◌/◌, ◌%◌, ◌≤◌, Bool, cond, ◌&&◌, ◌==◌, nat_le}
use Rattle.port.specs.declared.fates.Fate.{Fate}
use Rattle.port.specs.declared.fates.Fate.TheVariants.{Arrives, Lost, Unheard, Nak, Stall}

-- the byte is of this kind, and its code is one that a fate can have: 7 to 15
abbrev pub coded : ℕ → ℕ → Bool
coded kind byte = byte / 16 == kind && nat_le 7 (byte % 16)

-- every byte that stands for no fate is lost with code 14
abbrev pub fate_of : ℕ → Fate
fate_of byte =
    cond (byte == 0x00) Arrives
    (cond (byte == 0x30) Nak
    (cond (byte == 0x40) Stall
    (cond (coded 1 byte) (Lost (byte % 16))
    (cond (coded 2 byte) (Unheard (byte % 16))
    (Lost 14)))))

-- a fate that a byte can stand for: its code is 7 to 15
abbrev pub Real : Fate → Type 0
Real Arrives = Unit {0}
Real (Lost code) = (7 ≤ code) × (code ≤ 15)
Real (Unheard code) = (7 ≤ code) × (code ≤ 15)
Real Nak = Unit {0}
Real Stall = Unit {0}
