-- Device endpoints: what one is, how one is found on the bus, and what makes a list of them well formed and fresh. Assumes nothing.
use Rattle.std.specs.Prelude.{◌≡◌, ℕ, suc, ◌<◌, ◌≤◌, Bool, true, false, cond, ◌&&◌, ◌||◌, List, [], ◌∷◌, ◌++◌, length, ◌==◌, slice_index_or}
use Rattle.std.specs.List.{AllByRecursion}
use Rattle.port.specs.declared.directions.Direction.{Direction}
use Rattle.port.specs.declared.directions.Direction.TheVariants.{Out}
use Rattle.port.specs.declared.toggles.Toggle.{Toggle}
use Rattle.port.specs.declared.toggles.Toggle.TheVariants.{Data0}
use Rattle.port.specs.Directions.{facing}
use Rattle.port.specs.Toggles.{flip}

-- one endpoint of a device on the bus
pub record Endpoint : Type 0 where
  pub address : ℕ
  pub number : ℕ
  pub direction : Direction
  -- the toggle that it expects next (OUT) or sends next (IN)
  pub toggle : Toggle
  pub halted : Bool
  -- the most bytes that it can ever take
  pub capacity : ℕ
  -- the bytes taken from OUT packets, in order
  pub taken : List ℕ
  -- the packets that wait for an IN, in order
  pub waiting : List (List ℕ)

-- the toggle, the halt, the bytes taken and the packets waiting are what a transaction can change
abbrev pub with_state : Endpoint → Toggle → Bool → List ℕ → List (List ℕ) → Endpoint
with_state e toggle halted taken waiting =
    record {
      address = e.address;
      number = e.number;
      direction = e.direction;
      toggle = toggle;
      halted = halted;
      capacity = e.capacity;
      taken = taken;
      waiting = waiting;
    }

-- STALL: the endpoint is halted
abbrev pub halt : Endpoint → Endpoint
halt e = with_state e e.toggle true e.taken e.waiting

-- the clear request: its toggle is DATA0 and it is not halted
abbrev pub cleared : Endpoint → Endpoint
cleared e = with_state e Data0 false e.taken e.waiting

-- a packet was taken, and the toggle flips
abbrev pub took : List ℕ → Endpoint → Endpoint
took bytes e = with_state e (flip e.toggle) e.halted (e.taken ++ bytes) e.waiting

-- the packets after the first
abbrev pub rest : List (List ℕ) → List (List ℕ)
rest [] = []
rest (p ∷ ps) = ps

-- the first packet was handed over, and the toggle flips
abbrev pub handed : Endpoint → Endpoint
handed e = with_state e (flip e.toggle) e.halted e.taken (rest e.waiting)

-- the endpoint that stands for none, where a look-up has to give one
abbrev pub nowhere : Endpoint
nowhere =
    record {
      address = 0;
      number = 0;
      direction = Out;
      toggle = Data0;
      halted = false;
      capacity = 0;
      taken = [];
      waiting = [];
    }

-- the endpoint has this address, number and direction
abbrev pub stands_at : ℕ → ℕ → Direction → Endpoint → Bool
stands_at address number direction e = e.address == address && (e.number == number && facing e.direction direction)

-- the place of the endpoint of this address, number and direction in the list; the list's length where there is none
unfoldable pub place : ℕ → ℕ → Direction → List Endpoint → ℕ
place address number direction [] = 0
place address number direction (e ∷ es) = cond (stands_at address number direction e) 0 (suc (place address number direction es))

-- some endpoint has this address: a device answers there
unfoldable pub lives : ℕ → List Endpoint → Bool
lives address [] = false
lives address (e ∷ es) = e.address == address || lives address es

-- one endpoint whose every part is in range
pub record InRange (e : Endpoint) : Type 0 where
  pub address_above : 1 ≤ e.address
  pub address_most : e.address ≤ 127
  pub number_above : 1 ≤ e.number
  pub number_most : e.number ≤ 15
  pub capacity_most : e.capacity ≤ 4096
  pub taken_most : length e.taken ≤ e.capacity
  pub packets_most : length e.waiting ≤ 16
  pub packet_most : AllByRecursion (λ p. length p ≤ 64) e.waiting

-- well formed: every endpoint in range, and no two with the same address, number and direction
pub record WellFormed (es : List Endpoint) : Type 0 where
  pub each : AllByRecursion InRange es
  pub distinct : (i j : ℕ) → i < j → j < length es → stands_at (slice_index_or es i nowhere).address (slice_index_or es i nowhere).number (slice_index_or es i nowhere).direction (slice_index_or es j nowhere) ≡ false

-- fresh: nothing taken yet; the toggle and the halt may be anything
abbrev pub FreshEndpoint : Endpoint → Type 0
FreshEndpoint e = e.taken ≡ []
