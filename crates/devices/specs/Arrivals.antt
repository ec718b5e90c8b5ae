-- When an IN brings a packet to the host. Assumes nothing.
use Rattle.std.specs.Prelude.{ℕ, Bool, false, ◌==◌}
use Rattle.port.specs.declared.fates.Fate.{Fate}
use Rattle.port.specs.declared.fates.Fate.TheVariants.{Arrives, Lost, Unheard, Nak, Stall}

-- an IN under this fate reached its endpoint, and its code says that the packet was received
abbrev pub brings : Fate → ℕ → Bool
brings Arrives code = code == 0
brings (Lost _) code = false
brings (Unheard _) code = code == 0
brings Nak code = false
brings Stall code = false
