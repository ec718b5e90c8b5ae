-- What comes of a transaction, by whether its endpoint or its address is there. Assumes nothing.
use Rattle.std.proofs.Common.{◌≡◌, ℕ, ◌<◌, ◌≤◌, true, false, cond, length, sym, ap}
use Rattle.std.proofs.lemmas.Bool.{lt-ltb, le-ltb}
use Rattle.port.specs.Endpoints.{lives}
use Rattle.port.specs.Devices.{Devices}
use Rattle.port.specs.Reactions.{Outcome, outcome, at_place, at_address}

module _ (f : Devices → ℕ → Outcome) (d : Devices) (i : ℕ) where
  pub at_found : i < length d.endpoints → at_place f d i ≡ f d i
  unfolding at_place
  at_found h = ap (λ b. cond b (f d i) (outcome 14 d)) (lt-ltb i (length d.endpoints) h)

  pub at_missing : length d.endpoints ≤ i → at_place f d i ≡ outcome 14 d
  unfolding at_place
  at_missing h = ap (λ b. cond b (f d i) (outcome 14 d)) (le-ltb i (length d.endpoints) h)

module _ (address : ℕ) (o : Outcome) (d : Devices) where
  pub at_living : true ≡ lives address d.endpoints → at_address address o d ≡ o
  unfolding at_address
  at_living e = sym (ap (λ b. cond b o (outcome 14 d)) e)

  pub at_silent : false ≡ lives address d.endpoints → at_address address o d ≡ outcome 14 d
  unfolding at_address
  at_silent e = sym (ap (λ b. cond b o (outcome 14 d)) e)
