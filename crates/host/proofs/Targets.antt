-- The clear request names the endpoint that it is made for, whichever its direction. Assumes nothing.
use Rattle.std.proofs.Common.{◌≡◌, ℕ, ◌≤◌, List, arith}
use Rattle.std.proofs.lemmas.Grind.{common_steps}
use Rattle.port.specs.declared.directions.Direction.{Direction}
use Rattle.port.specs.Endpoints.{Endpoint, place}
use Rattle.port.specs.Devices.{clear_place}
use Rattle.host.specs.Opening.{clear_request}

module _ (e : ℕ) (low : 1 ≤ e) (high : e ≤ 15) where
  -- and so a device clears that endpoint
  pub finds : (a : ℕ) (d : Direction) (es : List Endpoint) → clear_place a (clear_request e d) es ≡ place a e d es
  finds a d es = grind (arith, common_steps)
