-- At a register above 31 a port does nothing, and gets give 0. Assumes nothing.
use Rattle.std.proofs.Common.{◌≡◌, ℕ, zero, suc, ◌<◌, List, [], ◌∷◌, replicate, refl, arith}
use Rattle.std.proofs.lemmas.Bool.Decides.{nat_tests}
use Rattle.port.specs.Bus.{Bus}
use Rattle.port.specs.Accesses.{after_put, got, after_get, after_puts, gots, after_gets}

module _ (r : ℕ) (h : 31 < r) where
  pub put_above : (value : ℕ) (b : Bus) → after_put r value b ≡ b
  unfolding after_put
  put_above value b = grind (arith, nat_tests)

  pub got_above : (b : Bus) → got r b ≡ 0
  unfolding got
  got_above b = grind (arith, nat_tests)

  pub get_above : (b : Bus) → after_get r b ≡ b
  unfolding after_get
  get_above b = grind (arith, nat_tests)

  pub puts_above : (values : List ℕ) (b : Bus) → after_puts r values b ≡ b
  puts_above [] b = refl
  puts_above (value ∷ values) b = rw (put_above value b, puts_above values b)

  pub gets_above : (n : ℕ) (b : Bus) → after_gets r n b ≡ b
  gets_above zero b = refl
  gets_above (suc n) b = rw (get_above b, gets_above n b)

  pub gots_above : (n : ℕ) (b : Bus) → gots r n b ≡ replicate n 0
  gots_above zero b = refl
  gots_above (suc n) b = rw (got_above b, get_above b, gots_above n b)
