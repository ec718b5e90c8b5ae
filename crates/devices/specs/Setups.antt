-- Setting up the devices of a bus: what each call adds, when it refuses, and what it then leaves. Assumes nothing.
use Rattle.std.specs.Prelude.{◌≡◌, ℕ, Bool, true, false, ◌&&◌, List, [], ◌∷◌, ◌++◌, length, Some, None, Ok, Err, Option, Result, codes, nat_le, nat_lt, slice_index_or, slice_set}
use Rattle.port.specs.declared.directions.Direction.TheVariants.{In}
use Rattle.port.specs.Toggles.{toggle_of}
use Rattle.port.specs.Endpoints.{Endpoint, with_state, nowhere, place}
use Rattle.port.specs.Devices.{Devices as Meant, with_endpoints}
use Rattle.devices.specs.declared.bus.Devices.{Devices}
use Rattle.devices.specs.declared.plans.EndpointPlan.{EndpointPlan}
use Rattle.devices.specs.declared.plans.SetupError.{SetupError}
use Rattle.devices.specs.declared.plans.SetupError.TheVariants.{Refused, NoMemory}
use Rattle.devices.specs.Devices.{devices_of}

-- the number of a refusal; want of memory has none
abbrev pub error_number : SetupError → Option ℕ
error_number Refused = Some 18
error_number NoMemory = None

-- what is printed of it
abbrev pub error_text : SetupError → List ℕ
error_text Refused = codes "the bench refused a set-up"
error_text NoMemory = codes "no memory for the bench"

-- the endpoint that a plan describes
abbrev pub planned : EndpointPlan → Endpoint
planned p =
    record {
      address = p.address;
      number = p.number;
      direction = p.direction;
      toggle = toggle_of p.toggle;
      halted = p.halted;
      capacity = p.capacity;
      taken = [];
      waiting = [];
    }

-- the plan is in range
abbrev pub in_range : EndpointPlan → Bool
in_range p =
    nat_le 1 p.address && (nat_le p.address 127 && (nat_le 1 p.number && (nat_le p.number 15 && (nat_le p.toggle 1 && nat_le p.capacity 4096))))

-- there is room for it: it would be no ninth endpoint, and none stands at its address, number and direction
abbrev pub vacant : EndpointPlan → List Endpoint → Bool
vacant p es = nat_lt (length es) 8 && nat_le (length es) (place p.address p.number p.direction es)

-- one endpoint more, after those that are there
abbrev pub more_endpoints : Endpoint → Meant → Meant
more_endpoints e d = with_endpoints d (d.endpoints ++ e ∷ [])

-- one packet more waits at an endpoint
abbrev pub more_waiting : List ℕ → Endpoint → Endpoint
more_waiting bytes e = with_state e e.toggle e.halted e.taken (e.waiting ++ bytes ∷ [])

-- one packet more waits at the endpoint of this place
abbrev pub more_packets : ℕ → List ℕ → Meant → Meant
more_packets i bytes d = with_endpoints d (slice_set d.endpoints i (more_waiting bytes (slice_index_or d.endpoints i nowhere)))

-- the place of the IN endpoint that a packet is for
abbrev pub packet_place : ℕ → ℕ → Meant → ℕ
packet_place address number d = place address number In d.endpoints

-- a packet of at most 64 bytes, for an IN endpoint that is there and has fewer than 16 waiting
abbrev pub packet_fits : ℕ → ℕ → List ℕ → Meant → Bool
packet_fits address number bytes d =
    nat_le (length bytes) 64
    && (nat_lt (packet_place address number d) (length d.endpoints) && nat_lt (length (slice_index_or d.endpoints (packet_place address number d) nowhere).waiting) 16)

-- how a set-up call ends. What fits is added; what does not is refused, and the devices are the very same; and where memory is
-- wanting the devices stand for what they stood for
abbrev pub Adds : Bool → Meant → Devices → Result (Unit {0}) SetupError → Devices → Type 0
Adds fits meant before (Ok done) after = (fits ≡ true) × (devices_of after ≡ meant)
Adds fits meant before (Err Refused) after = (fits ≡ false) × (after ≡ before)
Adds fits meant before (Err NoMemory) after = (fits ≡ true) × (devices_of after ≡ devices_of before)
