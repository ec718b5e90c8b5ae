-- A port's meaning: the chip record, the devices on the bus, and the fates to come. Assumes nothing.
use Rattle.std.specs.Prelude.{◌≡◌, ℕ, List, [], ◌∷◌, None}
use Rattle.std.specs.List.{AllByRecursion}
use Rattle.port.specs.declared.fates.Fate.{Fate}
use Rattle.port.specs.declared.fates.Fate.TheVariants.{Lost}
use Rattle.port.specs.Fates.{fate_of}
use Rattle.port.specs.Chip.{Chip, fresh_chip}
use Rattle.port.specs.Endpoints.{WellFormed, FreshEndpoint}
use Rattle.port.specs.Devices.{Devices}

pub record Bus : Type 0 where
  pub chip : Chip
  pub devices : Devices
  -- one byte for each legal launch to come; when they run out, every launch is lost with code 14
  pub fates : List ℕ

abbrev pub with_chip : Bus → Chip → Bus
with_chip b c = record { chip = c; devices = b.devices; fates = b.fates }

-- the fate that the next legal launch meets
abbrev pub next_fate : List ℕ → Fate
next_fate [] = Lost 14
next_fate (byte ∷ bytes) = fate_of byte

-- the fates that are left then: taking one from an empty list removes nothing
abbrev pub later_fates : List ℕ → List ℕ
later_fates [] = []
later_fates (byte ∷ bytes) = bytes

-- fresh: the chip as it is at first, no byte taken by any endpoint, no setup heard; any fates
pub record Fresh (b : Bus) : Type 0 where
  pub chip_fresh : b.chip ≡ fresh_chip
  pub endpoints_formed : WellFormed b.devices.endpoints
  pub endpoints_fresh : AllByRecursion FreshEndpoint b.devices.endpoints
  pub none_heard : b.devices.heard ≡ None
