-- The devices' side of the bus: the endpoints, and what is kept by device address. Assumes nothing.
use Rattle.std.specs.Prelude.{ℕ, ◌%◌, Bool, false, cond, ◌&&◌, ◌||◌, List, length, Some, None, Option, ◌==◌, nat_le, nat_lt, slice_index, slice_index_or, slice_set}
use Rattle.port.specs.declared.directions.Direction.{Direction}
use Rattle.port.specs.declared.directions.Direction.TheVariants.{Out, In}
use Rattle.port.specs.declared.setups.Heard.{Heard}
use Rattle.port.specs.Endpoints.{Endpoint, nowhere, cleared, place}

-- what belongs to a device and not to one of its endpoints has its place here, beside the endpoints: so far that is the
-- last setup heard, with the address that heard it
pub record Devices : Type 0 where
  pub endpoints : List Endpoint
  pub heard : Option Heard

abbrev pub with_endpoints : Devices → List Endpoint → Devices
with_endpoints d es = record { endpoints = es; heard = d.heard }

-- the eight bytes are the clear request, whatever endpoint they name: 02 01 00 00 ee 00 00 00
abbrev pub asks_clear : List ℕ → Bool
asks_clear bytes =
    (slice_index bytes 0 == 0x02) && (slice_index bytes 1 == 0x01 && (slice_index bytes 2 == 0 && (slice_index bytes 3 == 0
    && (slice_index bytes 5 == 0 && (slice_index bytes 6 == 0 && slice_index bytes 7 == 0)))))

-- the byte ee names an endpoint: 1 to 15 in the low four bits, bit 7 for IN, and the bits between clear
abbrev pub names_endpoint : ℕ → Bool
names_endpoint ee = (nat_le 1 ee && nat_le ee 15) || (nat_le 0x81 ee && nat_le ee 0x8F)

abbrev pub named_direction : ℕ → Direction
named_direction ee = cond (nat_lt ee 0x80) Out In

-- the endpoint byte of the clear request; every other request asks for nothing that a device here can do
abbrev pub clear_target : List ℕ → Option ℕ
clear_target bytes = cond (asks_clear bytes && names_endpoint (slice_index bytes 4)) (Some (slice_index bytes 4)) None

-- the place of the endpoint that the byte names at this address; the number of endpoints where there is none
abbrev pub target_place : ℕ → Option ℕ → List Endpoint → ℕ
target_place address None es = length es
target_place address (Some ee) es = place address (ee % 16) (named_direction ee) es

abbrev pub clear_place : ℕ → List ℕ → List Endpoint → ℕ
clear_place address bytes es = target_place address (clear_target bytes) es

-- the devices with the endpoint at this place cleared; a place past the last endpoint is none
abbrev pub cleared_at : ℕ → Devices → Devices
cleared_at i d = with_endpoints d (slice_set d.endpoints i (cleared (slice_index_or d.endpoints i nowhere)))

abbrev pub with_heard : Devices → Heard → Devices
with_heard d h = record { endpoints = d.endpoints; heard = Some h }

-- a device at this address heard the eight bytes: the endpoint named is cleared, and the setup is the last one heard
unfoldable pub after_setup : ℕ → List ℕ → Devices → Devices
after_setup address bytes d =
    with_heard (cleared_at (clear_place address bytes d.endpoints) d)
    (record { address = address; good = nat_lt (clear_place address bytes d.endpoints) (length d.endpoints) })

-- the last setup heard was good, and at this address
abbrev pub heard_good : ℕ → Option Heard → Bool
heard_good address None = false
heard_good address (Some h) = h.address == address && h.good
