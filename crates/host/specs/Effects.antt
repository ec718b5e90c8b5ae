-- What one call leaves of the bus, in the words of the bus: which endpoint it may change, and what becomes of that one.
-- Assumes nothing.
use Rattle.std.specs.Prelude.{◌≡◌, ℕ, ◌<◌, ◌≤◌, true, false, ◌≢◌, ◌⊎◌, List, [], ◌∷◌, ◌++◌, length, drop, Ok, slice_index_or}
use Rattle.port.specs.declared.directions.Direction.{Direction}
use Rattle.port.specs.declared.directions.Direction.TheVariants.{Out, In}
use Rattle.port.specs.declared.toggles.Toggle.{Toggle}
use Rattle.port.specs.declared.toggles.Toggle.TheVariants.{Data0}
use Rattle.port.specs.Toggles.{flip}
use Rattle.port.specs.Endpoints.{Endpoint, nowhere, place}
use Rattle.port.specs.Bus.{Bus}
use Rattle.pipes.specs.declared.pipes.Pipe.{Pipe}
use Rattle.pipes.specs.declared.pipes.Standing.TheVariants.{InStep}
use Rattle.pipes.specs.Answers.{answer_number}
use Rattle.pipes.specs.Standings.{next_standing}
use Rattle.pipes.specs.Tables.{Places}
use Rattle.pipes.specs.Checks.{fetchable}
use Rattle.host.specs.Opening.{Requesting, clear_run}
use Rattle.host.specs.Sending.{none_yet, send_run}
use Rattle.host.specs.Fetching.{Fetching, fetch_run, fetch_answer, fetch_event}
use Rattle.host.specs.Handing.{handed_over}
use Rattle.host.specs.Calls.{fetch_done}
use Rattle.host.specs.Laws.{Made, IsInStep}

abbrev pub endpoint_at : Bus → ℕ → Endpoint
endpoint_at b k = slice_index_or b.devices.endpoints k nowhere

-- the place of an endpoint on the bus
abbrev pub place_on : ℕ → ℕ → Direction → Bus → ℕ
place_on address number direction b = place address number direction b.devices.endpoints

-- the chip between two calls: its send and setup buffers are empty, and no received packet waits to be cleared
pub record Quiet (b : Bus) : Type 0 where
  pub no_sending : b.chip.sending ≡ []
  pub no_setup : b.chip.setup ≡ []
  pub none_received : b.chip.received ≡ false

-- the same endpoint of the same device
pub record SameName (e e' : Endpoint) : Type 0 where
  pub same_address : e'.address ≡ e.address
  pub same_number : e'.number ≡ e.number
  pub same_direction : e'.direction ≡ e.direction

-- the same endpoints stand in the same places
pub record SameEndpoints (b b' : Bus) : Type 0 where
  pub as_many : length b'.devices.endpoints ≡ length b.devices.endpoints
  pub same_names : (k : ℕ) → SameName (endpoint_at b k) (endpoint_at b' k)

-- from one bus to the other at most the endpoint of this address, number and direction has changed, and no endpoint its name; the
-- chip is quiet again
pub record Touched (address number : ℕ) (direction : Direction) (b b' : Bus) : Type 0 where
  pub quiet : Quiet b'
  pub as_many : length b'.devices.endpoints ≡ length b.devices.endpoints
  pub same_names : (k : ℕ) → SameName (endpoint_at b k) (endpoint_at b' k)
  pub others : (k : ℕ) → k ≢ place_on address number direction b → endpoint_at b' k ≡ endpoint_at b k

-- a send over a pipe that is in step with its device
abbrev pub SendsTouchOneEndpoint : Type 0
SendsTouchOneEndpoint =
    (p : Pipe) (message : List ℕ) (b : Bus) → IsInStep p b → Quiet b → Touched p.address p.endpoint Out b (send_run p message b).bus

-- the endpoint is there, with DATA0, and is not halted
pub record Cleared (address number : ℕ) (direction : Direction) (b : Bus) : Type 0 where
  pub there : place_on address number direction b < length b.devices.endpoints
  pub zero : (endpoint_at b (place_on address number direction b)).toggle ≡ Data0
  pub live : (endpoint_at b (place_on address number direction b)).halted ≡ false

-- what the request that opens and recovers does: no byte is taken and no packet handed over, and success means that the endpoint is cleared
pub record Requested (address number : ℕ) (direction : Direction) (b : Bus) (s : Requesting) : Type 0 where
  pub touched : Touched address number direction b s.bus
  pub same_taken : (k : ℕ) → (endpoint_at s.bus k).taken ≡ (endpoint_at b k).taken
  pub same_waiting : (k : ℕ) → (endpoint_at s.bus k).waiting ≡ (endpoint_at b k).waiting
  pub cleared : none_yet s.clearing.tally.stop ≡ true → Cleared address number direction s.bus

abbrev pub RequestsClearOneEndpoint : Type 0
RequestsClearOneEndpoint =
    (address number : ℕ) (direction : Direction) (limit : ℕ) (b : Bus) → address ≤ 127 → 1 ≤ number → number ≤ 15 → 1 ≤ limit → Quiet b →
    Requested address number direction b (clear_run address number direction limit b)

-- an IN endpoint beside the host that fetches from it: these packets waited when the two were last brought in step, and those were
-- handed over since. Either the device has gone on behind the last of them, and the toggles agree; or it still holds that one, and the
-- toggles differ
pub record Level (waited handed : List (List ℕ)) (toggle : Toggle) (e : Endpoint) : Type 0 where
  pub rest : List (List ℕ)
  pub front : waited ≡ handed ++ rest
  pub at :
      ((e.toggle ≡ toggle) × (e.waiting ≡ rest))
      ⊎ ((before : List (List ℕ)) × (last : List ℕ) × (handed ≡ before ++ last ∷ []) × (e.toggle ≡ flip toggle) × (e.waiting ≡ last ∷ rest))

-- what a fetch does: no byte is taken; what it hands over are the next packets that waited; and where the pipe stays in step, host and
-- device are level again
pub record Handed (p : Pipe) (b : Bus) (waited handed : List (List ℕ)) (s : Fetching) : Type 0 where
  pub touched : Touched p.address p.endpoint In b s.bus
  pub same_taken : (k : ℕ) → (endpoint_at s.bus k).taken ≡ (endpoint_at b k).taken
  pub front : (rest : List (List ℕ)) × (waited ≡ (handed ++ handed_over p.size (fetch_answer s.intake) s.buffer) ++ rest)
  pub level : next_standing InStep (fetch_event (answer_number (fetch_answer s.intake))) ≡ InStep → Level waited (handed ++ handed_over p.size (fetch_answer s.intake) s.buffer) s.intake.toggle (endpoint_at s.bus (place_on p.address p.endpoint In b))

abbrev pub FetchesHandOverTheNextPackets : Type 0
FetchesHandOverTheNextPackets =
    (p : Pipe) (buffer : List ℕ) (b : Bus) (waited handed : List (List ℕ)) →
    fetchable (length buffer) p ≡ Ok p → Made p → Quiet b → place_on p.address p.endpoint In b < length b.devices.endpoints →
    Level waited handed p.toggle (endpoint_at b (place_on p.address p.endpoint In b)) →
    Handed p b waited handed (fetch_run p.address p.endpoint p.size p.limit p.toggle buffer b)

-- behind what was received the buffer is as it was
abbrev pub FetchesKeepTheRestOfTheBuffer : Type 0
FetchesKeepTheRestOfTheBuffer =
    (places : Places) (b : Bus) (number : ℕ) (buffer : List ℕ) →
    (length (fetch_done places b number buffer).buffer ≡ length buffer)
    × (drop (fetch_done places b number buffer).answer.received (fetch_done places b number buffer).buffer ≡ drop (fetch_done places b number buffer).answer.received buffer)
