-- What the devices in memory stand for. Assumes nothing.
use Rattle.std.specs.Prelude.{◌≡◌, ℕ, ◌<◌, ◌≤◌, List, map, length, Some, None, Option, vec_items}
use Rattle.port.specs.Endpoints.{Endpoint}
use Rattle.port.specs.Devices.{Devices as Meant}
use Rattle.devices.specs.Endpoints.{endpoint_of}
use Rattle.devices.specs.declared.bus.Devices.{Devices}

abbrev pub endpoints_of : Devices → List Endpoint
endpoints_of d = map endpoint_of (vec_items d.endpoints)

abbrev pub devices_of : Devices → Meant
devices_of d = record { endpoints = endpoints_of d; heard = d.heard }

-- what a search for an endpoint answers: its place in the list, and none where that is past the end
abbrev pub FindsPlace : ℕ → List Endpoint → Option ℕ → Type 0
FindsPlace p es None = length es ≤ p
FindsPlace p es (Some i) = (i ≡ p) × (i < length es)
