-- The endpoints in memory as the list that they stand for: one of them, and a change of one. Assumes nothing.
use Rattle.std.proofs.Common.{◌≡◌, ℕ, ◌<◌, List, map, length, get_or, set, sym, ap, ◌∙◌, arith}
use Rattle.std.proofs.lemmas.List.{length-map, get_or-map, map-set}
use Rattle.std.proofs.Math.Seq.{map-set_same}
use Rattle.port.specs.Endpoints.{nowhere}
use Rattle.devices.specs.declared.endpoints.DeviceEndpoint.{DeviceEndpoint}
use Rattle.devices.specs.Endpoints.{endpoint_of}

pub row_at : (xs : List DeviceEndpoint) (i : ℕ) (x : DeviceEndpoint) → x ≡ get_or xs i x → i < length (map endpoint_of xs) → get_or (map endpoint_of xs) i nowhere ≡ endpoint_of x
row_at xs i x read within = get_or-map endpoint_of xs i x nowhere (let n = length-map xs endpoint_of in omega arith) ∙ ap endpoint_of (sym read)

pub rows_set : (xs : List DeviceEndpoint) (i : ℕ) (y : DeviceEndpoint) → map endpoint_of (set xs i y) ≡ set (map endpoint_of xs) i (endpoint_of y)
rows_set xs i y = map-set endpoint_of xs i y

pub rows_same : (xs : List DeviceEndpoint) (i : ℕ) (x y : DeviceEndpoint) → x ≡ get_or xs i x → endpoint_of y ≡ endpoint_of x → map endpoint_of (set xs i y) ≡ map endpoint_of xs
rows_same xs i x y read same = map-set_same endpoint_of xs i y x (same ∙ ap endpoint_of read)

-- what a change of one endpoint takes
pub ruleset rows = (row_at, rows_set, rows_same)
