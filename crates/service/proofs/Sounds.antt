-- What the promise rests on: how the pipe table, the bus and the history belong together between two calls. Assumes nothing.
use Rattle.std.proofs.Common.{◌≡◌, ℕ, ◌<◌, false, ◌≢◌, List, length, get_or, Some}
use Rattle.port.specs.declared.directions.Direction.{Direction}
use Rattle.port.specs.declared.directions.Direction.TheVariants.{Out, In}
use Rattle.port.specs.Endpoints.{Endpoint, nowhere, stands_at}
use Rattle.port.specs.Bus.{Bus}
use Rattle.pipes.specs.declared.pipes.Pipe.{Pipe}
use Rattle.pipes.specs.declared.pipes.Standing.TheVariants.{InStep}
use Rattle.pipes.specs.Tables.{pipe_at}
use Rattle.host.specs.Laws.{Made, IsInStep}
use Rattle.host.specs.Effects.{endpoint_at, place_on, Quiet, Level}
use Rattle.service.specs.Serving.{State}
use Rattle.service.specs.Histories.{History}
use Rattle.service.specs.Words.{Lead, lead_of, handed_since, waited_since}
use Rattle.service.specs.Laws.{SlipsAreTrue, LabelsAreTrue}

-- where a pipe of the table leads
abbrev pub lead_to : Pipe → Lead
lead_to p = record { address = p.address; endpoint = p.endpoint; direction = p.direction; size = p.size }

-- the place of an IN pipe's endpoint
abbrev pub source : Pipe → Bus → ℕ
source p b = place_on p.address p.endpoint In b

-- a pipe of the table: it leads where the history says; and where it is in step, an OUT pipe is in step with its device, and an IN pipe is
-- level with it
pub record PipeSound (n : ℕ) (p : Pipe) (b : Bus) (past : History) : Type 0 where
  pub made : Made p
  pub led : lead_of n past ≡ Some (lead_to p)
  pub out_step : p.direction ≡ Out → p.standing ≡ InStep → IsInStep p b
  pub in_there : p.direction ≡ In → p.standing ≡ InStep → source p b < length b.devices.endpoints
  pub in_level : p.direction ≡ In → p.standing ≡ InStep → Level (waited_since n past) (handed_since n past) p.toggle (endpoint_at b (source p b))

-- the pipe does not lead to the endpoint of this address, number and direction
abbrev pub Away : ℕ → ℕ → Direction → Pipe → Type 0
Away a e d p = p.address ≡ a → p.endpoint ≡ e → p.direction ≡ d → ⊥

-- no two endpoints have the same name
abbrev pub Distinct : List Endpoint → Type 0
Distinct es = (i j : ℕ) → i < j → j < length es → stands_at (get_or es i nowhere).address (get_or es i nowhere).number (get_or es i nowhere).direction (get_or es j nowhere) ≡ false

pub record Sound (s : State) (past : History) : Type 0 where
  pub quiet : Quiet s.bus
  pub wide : 7 < length s.places
  pub distinct : Distinct s.bus.devices.endpoints
  pub apart : (i j : ℕ) (p q : Pipe) → i ≢ j → pipe_at s.places i ≡ Some p → pipe_at s.places j ≡ Some q → Away p.address p.endpoint p.direction q
  pub pipes : (n : ℕ) (p : Pipe) → pipe_at s.places n ≡ Some p → PipeSound n p s.bus past
  pub slips : SlipsAreTrue past s.bus
  pub labels : LabelsAreTrue past
