-- What the rules of a port amount to, in the words of the bus: relations that hold whatever is put, and in whatever state.
-- Assumes nothing.
use Rattle.std.specs.Prelude.{◌≡◌, ℕ, ◌+◌, ◌%◌, ◌<◌, ◌≤◌, true, false, ◌⊎◌, List, [], ◌++◌, Some, slice_index_or}
use Rattle.port.specs.declared.directions.Direction.TheVariants.{Out, In}
use Rattle.port.specs.declared.fates.Fate.TheVariants.{Lost}
use Rattle.port.specs.Fates.{fate_of, Real}
use Rattle.port.specs.Chip.{Chip, has_bit, packet, request}
use Rattle.port.specs.Endpoints.{nowhere, stands_at}
use Rattle.port.specs.Devices.{clear_target, named_direction}
use Rattle.port.specs.Bus.{Bus, next_fate}
use Rattle.port.specs.Accesses.{after_put, after_get}

-- two bytes that stand for no fate: a code below 7, and a NAK with a code
abbrev pub OddFatesAreLost : Type 0
OddFatesAreLost = (fate_of 0x16 ≡ Lost 14) × (fate_of 0x31 ≡ Lost 14)

-- no byte is a fate with a code outside 7 to 15
abbrev pub FatesHaveRealCodes : Type 0
FatesHaveRealCodes = (byte : ℕ) → Real (fate_of byte)

-- both bits of a pair, put to R29, leave that pair's toggle as it is
abbrev pub BothBitsChangeNothing : Type 0
BothBitsChangeNothing =
    ((b : Bus) (value : ℕ) → has_bit 128 value ≡ true → has_bit 64 value ≡ true → (after_put 29 value b).chip.send_toggle ≡ b.chip.send_toggle)
    × ((b : Bus) (value : ℕ) → has_bit 32 value ≡ true → has_bit 16 value ≡ true → (after_put 29 value b).chip.receive_toggle ≡ b.chip.receive_toggle)

-- the chip as every launch leaves it
pub record Idle (c : Chip) : Type 0 where
  pub none_sending : c.sending ≡ []
  pub none_counted : c.count ≡ 0
  pub none_setup : c.setup ≡ []
  pub is_done : c.done ≡ true
  pub is_free : c.free ≡ true
  pub result_small : c.result < 16

-- a put to R30 ends so, whatever the value, the devices and the fate
abbrev pub LaunchesEndIdle : Type 0
LaunchesEndIdle = (b : Bus) (value : ℕ) → Idle (after_put 30 value b).chip

-- nothing more was taken, or one packet more, at the end
abbrev pub Grown : List ℕ → List ℕ → List ℕ → Type 0
Grown bytes before after = (more : List ℕ) × (after ≡ before ++ more) × ((more ≡ []) ⊎ (more ≡ bytes))

-- bytes that were taken stay taken: a put adds at most the packet that is loaded, at the end, to what an endpoint has taken, and
-- a get changes no device
abbrev pub TakenBytesOnlyGrow : Type 0
TakenBytesOnlyGrow =
    ((b : Bus) (register value i : ℕ) → Grown (packet b.chip) (slice_index_or b.devices.endpoints i nowhere).taken (slice_index_or (after_put register value b).devices.endpoints i nowhere).taken)
    × ((b : Bus) (register : ℕ) → (after_get register b).devices ≡ b.devices)

-- an OUT or an IN changes no endpoint but the one of its address, number and direction; a SETUP none but the one that it asks to
-- clear; an HS-IN none
abbrev pub OtherEndpointsStay : Type 0
OtherEndpointsStay =
    ((b : Bus) (number i : ℕ) → 1 ≤ number → number ≤ 15 → stands_at b.chip.address number Out (slice_index_or b.devices.endpoints i nowhere) ≡ false → slice_index_or (after_put 30 (0x20 + number) b).devices.endpoints i nowhere ≡ slice_index_or b.devices.endpoints i nowhere)
    × ((b : Bus) (number i : ℕ) → 1 ≤ number → number ≤ 15 → stands_at b.chip.address number In (slice_index_or b.devices.endpoints i nowhere) ≡ false → slice_index_or (after_put 30 number b).devices.endpoints i nowhere ≡ slice_index_or b.devices.endpoints i nowhere)
    × ((b : Bus) (i : ℕ) → ((ee : ℕ) → clear_target (request b.chip) ≡ Some ee → stands_at b.chip.address (ee % 16) (named_direction ee) (slice_index_or b.devices.endpoints i nowhere) ≡ false) → slice_index_or (after_put 30 0x10 b).devices.endpoints i nowhere ≡ slice_index_or b.devices.endpoints i nowhere)
    × ((b : Bus) → (after_put 30 0x80 b).devices ≡ b.devices)

-- a launch that is lost changes nothing on any device
abbrev pub LostChangesNoDevice : Type 0
LostChangesNoDevice = (b : Bus) (value code : ℕ) → next_fate b.fates ≡ Lost code → (after_put 30 value b).devices ≡ b.devices
