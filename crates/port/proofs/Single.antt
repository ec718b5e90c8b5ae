-- What single registers do, for proofs that do not look into the definitions of the accesses. Assumes nothing.
use Rattle.std.proofs.Common.{◌≡◌, ℕ, false, eqb, length, Some, None, Option, refl}
use Rattle.std.proofs.lemmas.Bool.{cond_both}
use Rattle.port.specs.declared.transactions.Transaction.{Transaction}
use Rattle.port.specs.Transactions.{transaction_of}
use Rattle.port.specs.Chip.{load_sending, load_setup, set_count, clear_flags, set_address, set_toggles, take_incoming, flags, status}
use Rattle.port.specs.Bus.{Bus, with_chip}
use Rattle.port.specs.Launches.{held, carried, refused, launch_of, launch}
use Rattle.port.specs.Accesses.{after_put, got, after_get}

module _ (value : ℕ) (b : Bus) where
  pub put_2 : after_put 2 value b ≡ with_chip b (load_sending b.chip value)
  unfolding after_put
  put_2 = refl

  pub put_4 : after_put 4 value b ≡ with_chip b (load_setup b.chip value)
  unfolding after_put
  put_4 = refl

  pub put_7 : after_put 7 value b ≡ with_chip b (set_count b.chip value)
  unfolding after_put
  put_7 = refl

  pub put_25 : after_put 25 value b ≡ with_chip b (clear_flags b.chip value)
  unfolding after_put
  put_25 = refl

  pub put_28 : after_put 28 value b ≡ with_chip b (set_address b.chip value)
  unfolding after_put
  put_28 = refl

  pub put_29 : after_put 29 value b ≡ with_chip b (set_toggles b.chip value)
  unfolding after_put
  put_29 = refl

  pub put_30 : after_put 30 value b ≡ launch_of (transaction_of value) b
  unfolding after_put launch
  put_30 = refl

  -- a launch is refused or carries a transaction: what holds after both holds after every put to R30
  pub launch_cases : (P : Bus → Type 0) → P (refused b) → ((t : Transaction) → P (carried t b)) → P (after_put 30 value b)
  unfolding after_put launch
  launch_cases P none some = of (transaction_of value)
    where
      of : (o : Option Transaction) → P (launch_of o b)
      of None = none
      of (Some t) = cond_both (held t b.chip) (refused b) (carried t b) P (λ _. none) (λ _. some t)

module _ (b : Bus) where
  pub got_6 : got 6 b ≡ length b.chip.incoming
  unfolding got
  got_6 = refl

  pub got_25 : got 25 b ≡ flags b.chip
  unfolding got
  got_25 = refl

  pub got_31 : got 31 b ≡ status b.chip
  unfolding got
  got_31 = refl

  -- no register but R1 is changed by being read
  pub get_keeps : (register : ℕ) → eqb register 1 ≡ false → after_get register b ≡ b
  unfolding after_get
  get_keeps register h = rw h refl

  pub get_devices : (register : ℕ) → (after_get register b).devices ≡ b.devices
  unfolding after_get
  get_devices register = cond_both (eqb register 1) (with_chip b (take_incoming b.chip)) b (λ (b' : Bus). b'.devices ≡ b.devices) (λ _. refl) (λ _. refl)
