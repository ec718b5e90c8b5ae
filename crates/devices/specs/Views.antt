-- A view of an endpoint, part by part. Assumes nothing.
use Rattle.std.specs.Prelude.{◌≡◌}
use Rattle.port.specs.Endpoints.{Endpoint}
use Rattle.devices.specs.declared.endpoints.views.EndpointState.{EndpointState}

-- the view shows the endpoint
pub record Shows (e : Endpoint) (s : EndpointState) : Type 0 where
  pub same_address : s.address ≡ e.address
  pub same_number : s.number ≡ e.number
  pub same_direction : s.direction ≡ e.direction
  pub same_toggle : s.toggle ≡ e.toggle
  pub same_halt : s.halted ≡ e.halted
  pub same_capacity : s.capacity ≡ e.capacity
  pub same_bytes : s.taken.now ≡ e.taken
