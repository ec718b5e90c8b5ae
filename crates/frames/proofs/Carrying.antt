-- One frame of one register carries what a many-access of that register does. Assumes nothing.
use Rattle.std.proofs.Common.{◌≡◌, ℕ, zero, suc, ◌-◌, ◌<◌, ◌≤◌, true, List, [], ◌∷◌, length, take, drop, inl, inr, refl, ap, ◌∙◌, append-nil, arith}
use Rattle.std.proofs.lemmas.List.{take_all}
use Rattle.std.proofs.lemmas.Slice.{between_is}
use Rattle.std.proofs.lemmas.Bool.{cases_Bool}
use Rattle.std.proofs.lemmas.Bool.Decides.{nat_tests}
use Rattle.port.specs.Bus.{Bus}
use Rattle.port.specs.Accesses.{after_put, after_get, after_puts, gots, after_gets}
use Rattle.frames.specs.declared.duplexes.Duplex.{Duplex}
use Rattle.frames.specs.Registers.{stays_at}
use Rattle.frames.specs.Asked.{puts, gets}
use Rattle.frames.specs.Format.{frame_of}
use Rattle.frames.specs.Exchanges.{after_put_body, got_body, after_got_body, first_answer, exchanged, after_exchange}
use Rattle.frames.specs.Pieces.{frame_size}
use Rattle.frames.proofs.Commands.{put_puts, get_gets, put_register, get_register, zeros_length, zeros_body, zeros_past}

module _ (r : ℕ) where
  pub some_fit : 0 < frame_size r
  some_fit = grind (arith, nat_tests)

  small_frame : (n : ℕ) → n ≤ frame_size r → n ≤ 64
  small_frame n h = grind (arith, nat_tests)

  -- at a register that stays, however many there are
  puts_stay : stays_at r ≡ true → (values : List ℕ) (b : Bus) → after_put_body r values b ≡ after_puts r values b
  puts_stay stay [] b = refl
  puts_stay stay (value ∷ values) b = rw (stay, puts_stay stay values (after_put r value b))

  gets_stay : stays_at r ≡ true → (n : ℕ) (b : Bus) → (got_body r n b ≡ gots r n b) × (after_got_body r n b ≡ after_gets r n b)
  gets_stay stay zero b = (refl, refl)
  gets_stay stay (suc n) b = let more = gets_stay stay n (after_get r b) in (rw (stay, more.0), rw (stay, more.1))

  -- at any register, where there is at most one
  puts_one : (values : List ℕ) (b : Bus) → length values ≤ 1 → after_put_body r values b ≡ after_puts r values b
  puts_one [] b h = refl
  puts_one (value ∷ []) b h = refl
  puts_one (value ∷ (value₂ ∷ values)) b h = absurd (omega arith)

  gets_one : (n : ℕ) (b : Bus) → n ≤ 1 → (got_body r n b ≡ gots r n b) × (after_got_body r n b ≡ after_gets r n b)
  gets_one zero b h = (refl, refl)
  gets_one (suc zero) b h = (refl, refl)
  gets_one (suc (suc n)) b h = absurd (omega arith)

  -- so in all that goes into one frame
  puts_framed : (values : List ℕ) (b : Bus) → length values ≤ frame_size r → after_put_body r values b ≡ after_puts r values b
  puts_framed values b h = elim (cases_Bool (stays_at r)) [ inl t ↦ puts_stay t values b | inr f ↦ puts_one values b (rw f at h) ]

  gets_framed : (n : ℕ) (b : Bus) → n ≤ frame_size r → (got_body r n b ≡ gots r n b) × (after_got_body r n b ≡ after_gets r n b)
  gets_framed n b h = elim (cases_Bool (stays_at r)) [ inl t ↦ gets_stay t n b | inr f ↦ gets_one n b (rw f at h) ]

  -- a put frame
  pub put_carries : (values : List ℕ) (b : Bus) → length values ≤ frame_size r → after_exchange (frame_of (puts r values)) b ≡ after_puts r values b
  put_carries values b h = rw (take_all 64 values (small_frame (length values) h), put_puts r, put_register r, puts_framed values b h)

  -- a get frame
  pub get_carries : (n : ℕ) (b : Bus) → n ≤ frame_size r → after_exchange (frame_of (gets r n)) b ≡ after_gets r n b
  get_carries n b h = rw (zeros_body n (small_frame n h), get_gets r, get_register r, zeros_length n, (gets_framed n b h).1)

  get_answers : (duplex : Duplex) (n : ℕ) (b : Bus) → n ≤ frame_size r → exchanged duplex (frame_of (gets r n)) b ≡ first_answer duplex b ∷ gots r n b
  get_answers duplex n b h =
      let small = small_frame n h in
      rw (zeros_body n small, zeros_past n small, get_gets r, get_register r, zeros_length n, append-nil, (gets_framed n b h).0)

  -- the answers behind the first
  pub got_part : (duplex : Duplex) (n : ℕ) (b : Bus) (k : ℕ) (answers : List ℕ) → n ≤ frame_size r → take k answers ≡ exchanged duplex (frame_of (gets r n)) b → take (k - 1) (drop 1 answers) ≡ gots r n b
  got_part duplex n b k answers h a = between_is answers 1 k ∙ ap (drop 1) (a ∙ get_answers duplex n b h)
