-- Where an endpoint stands in the list that the endpoints in memory stand for, and whether one has an address: what a search through
-- those in memory comes to. Assumes nothing.
use Rattle.std.proofs.Common.{◌≡◌, ℕ, suc, ◌+◌, Bool, true, false, cond, not, ◌||◌, ltb, eqb, List, [], ◌∷◌, map, length, Some, None, position, refl, ap, arith}
use Rattle.std.specs.List.{position_or_len, list_any}
use Rattle.std.proofs.lemmas.Bool.{cond_both, ltb-true, ltb-false}
use Rattle.std.proofs.lemmas.List.{length-map}
use Rattle.port.specs.declared.directions.Direction.{Direction}
use Rattle.port.specs.Endpoints.{Endpoint, stands_at, place, lives}
use Rattle.devices.specs.declared.endpoints.DeviceEndpoint.{DeviceEndpoint}
use Rattle.devices.specs.Endpoints.{endpoint_of}
use Rattle.devices.specs.Devices.{FindsPlace}

one_further : (b : Bool) (p q : ℕ) → p ≡ q → cond (not b) (1 + p) 0 ≡ cond b 0 (suc q)
one_further true p q h = refl
one_further false p q h = omega arith

finds : (p : ℕ) (es : List Endpoint) → FindsPlace p es (cond (ltb p (length es)) (Some p) None)
finds p es = cond_both (ltb p (length es)) (Some p) None (FindsPlace p es) (λ h. (refl, ltb-true p (length es) h)) (ltb-false p (length es))

module _ (a n : ℕ) (d : Direction) where
  place_is : (xs : List DeviceEndpoint) → position_or_len (λ e. stands_at a n d (endpoint_of e)) xs ≡ place a n d (map endpoint_of xs)
  unfolding place
  place_is [] = refl
  place_is (x ∷ xs) = one_further (stands_at a n d (endpoint_of x)) _ _ (place_is xs)

  pub place_found : (xs : List DeviceEndpoint) → FindsPlace (place a n d (map endpoint_of xs)) (map endpoint_of xs) (position (λ e. stands_at a n d (endpoint_of e)) xs)
  place_found xs = rw (place_is, ← length-map xs endpoint_of) (finds _ (map endpoint_of xs))

pub lives_any : (a : ℕ) (xs : List DeviceEndpoint) → list_any (λ e. eqb e.spot.address a) xs ≡ lives a (map endpoint_of xs)
unfolding lives
lives_any a [] = refl
lives_any a (x ∷ xs) = ap (λ b. eqb x.spot.address a || b) (lives_any a xs)
