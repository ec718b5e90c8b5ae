-- One try of a stage, SETUP or HS-IN, on any bus: what it answers and what it does to the devices. Assumes nothing.
use Rattle.std.proofs.Common.{◌≡◌, ℕ, ◌+◌, ◌%◌, ◌<◌, ◌≤◌, cond, List, [], ◌∷◌, ◌++◌, length, None, sym, refl, ap, ◌∙◌, subst, append_assoc, append-nil, arith}
use Rattle.std.proofs.lemmas.Grind.{common_steps}
use Rattle.std.proofs.lemmas.List.{length_push}
use Rattle.std.proofs.lemmas.Bool.{lt-ltb}
use Rattle.port.specs.declared.transactions.Transaction.{Transaction}
use Rattle.port.specs.declared.transactions.Transaction.TheVariants.{Setup, HsIn}
use Rattle.port.specs.Chip.{Chip}
use Rattle.port.specs.Reactions.{Outcome, setup_outcome, hs_outcome}
use Rattle.port.specs.Bus.{Bus, with_chip, next_fate}
use Rattle.port.specs.Launches.{carried}
use Rattle.port.specs.Accesses.{after_put, after_puts}
use Rattle.port.proofs.Codes.{next_real, setup_code_small, hs_code_small}
use Rattle.port.proofs.Single.{put_4, put_25, put_28, put_30, got_31, get_keeps}
use Rattle.attempt.specs.Tries.{begun, stage_launched, stage_answer, after_stage, code_of}
use Rattle.host.proofs.OutTry.{status_code}

-- the chip with another setup buffer, and with the address of a try
abbrev with_request : Chip → List ℕ → Chip
with_request c bytes =
    record {
      sending = c.sending;
      count = c.count;
      setup = bytes;
      incoming = c.incoming;
      address = c.address;
      send_toggle = c.send_toggle;
      receive_toggle = c.receive_toggle;
      result = c.result;
      done = c.done;
      free = c.free;
      received = c.received;
    }

abbrev aimed : Chip → ℕ → Chip
aimed c a =
    record {
      sending = c.sending;
      count = c.count;
      setup = c.setup;
      incoming = c.incoming;
      address = a % 128;
      send_toggle = c.send_toggle;
      receive_toggle = c.receive_toggle;
      result = c.result;
      done = c.done;
      free = c.free;
      received = c.received;
    }

loads : (bytes : List ℕ) (b : Bus) → length b.chip.setup + length bytes ≤ 8 → after_puts 4 bytes b ≡ with_chip b (with_request b.chip (b.chip.setup ++ bytes))
loads [] b h = sym (ap (λ l. with_chip b (with_request b.chip l)) (append-nil b.chip.setup))
loads (x ∷ xs) b h =
    let setup = b.chip.setup in
    let more = with_chip b (with_request b.chip (setup ++ x ∷ [])) in
    let room : length setup < 8 = omega arith in
    let one : after_put 4 x b ≡ more =
    put_4 x b ∙ ap (λ t. with_chip b (with_request b.chip (cond t (setup ++ x ∷ []) setup))) (lt-ltb (length setup) 8 room) in
    let n = length_push setup x in
    ap (after_puts 4 xs) one
    ∙ loads xs more (omega arith)
    ∙ ap (λ l. with_chip b (with_request b.chip l)) (append_assoc setup (x ∷ []) xs)

-- the bus just before the launch of a stage
abbrev ready : Bus → ℕ → List ℕ → Bus
ready b a bytes = with_chip b (with_request (aimed b.chip a) bytes)

module _ (a : ℕ) (bytes : List ℕ) (b : Bus) (none : b.chip.setup ≡ []) where
  loaded_stage : length bytes ≤ 8 → after_puts 4 bytes (begun a None b) ≡ ready b a bytes
  loaded_stage short =
      let n = ap length none in
      ap (after_puts 4 bytes) (put_28 a b)
      ∙ loads bytes (with_chip b (aimed b.chip a)) (omega arith)
      ∙ ap (λ l. with_chip b (with_request (aimed b.chip a) (l ++ bytes))) none

-- a stage whose launch carries this transaction, with what comes of it
module _ (a value : ℕ) (bytes : List ℕ) (b : Bus) (t : Transaction) (o : Outcome) (is : stage_launched a value bytes b ≡ carried t (ready b a bytes)) (code : (carried t (ready b a bytes)).chip.result ≡ o.code) (devices : (carried t (ready b a bytes)).devices ≡ o.devices) (empty : (carried t (ready b a bytes)).chip.setup ≡ []) (unsent : (carried t (ready b a bytes)).chip.sending ≡ []) (received : (carried t (ready b a bytes)).chip.received ≡ b.chip.received) (small : o.code < 16) where
  answers : (stage_answer a value bytes b).0 ≡ o.code
  answers =
      let x = stage_launched a value bytes b in
      let r : x.chip.result ≡ o.code = ap (λ y. y.chip.result) is ∙ code in
      ap code_of (got_31 x) ∙ status_code x.chip.send_toggle x.chip.receive_toggle x.chip.result (subst (λ n. n < 16) (sym r) small) ∙ r

  kept : after_stage a value bytes b ≡ after_put 25 0x80 (carried t (ready b a bytes))
  kept = ap (after_put 25 0x80) (get_keeps (stage_launched a value bytes b) 31 refl ∙ is)

  leaves : ((after_stage a value bytes b).devices ≡ o.devices) × ((after_stage a value bytes b).chip.setup ≡ []) × ((after_stage a value bytes b).chip.sending ≡ []) × ((after_stage a value bytes b).chip.received ≡ b.chip.received)
  leaves =
      let e = kept ∙ put_25 0x80 (carried t (ready b a bytes)) in
      (ap (λ x. x.devices) e ∙ devices, ap (λ x. x.chip.setup) e ∙ empty, ap (λ x. x.chip.sending) e ∙ unsent, ap (λ x. x.chip.received) e ∙ received)

-- what is known after a stage
pub record Staged (a value : ℕ) (bytes : List ℕ) (b : Bus) (o : Outcome) : Type 0 where
  pub code : (stage_answer a value bytes b).0 ≡ o.code
  pub devices : (after_stage a value bytes b).devices ≡ o.devices
  pub no_setup : (after_stage a value bytes b).chip.setup ≡ []
  pub no_sending : (after_stage a value bytes b).chip.sending ≡ []
  pub same_received : (after_stage a value bytes b).chip.received ≡ b.chip.received

module _ (a : ℕ) (bytes : List ℕ) (b : Bus) (none : b.chip.setup ≡ []) where
  setup_code : length bytes ≡ 8 → (carried Setup (ready b a bytes)).chip.result ≡ (setup_outcome (a % 128) (next_fate b.fates) b.devices bytes).code
  unfolding carried
  setup_code h = grind (arith, common_steps)

  setup_devices : length bytes ≡ 8 → (carried Setup (ready b a bytes)).devices ≡ (setup_outcome (a % 128) (next_fate b.fates) b.devices bytes).devices
  unfolding carried
  setup_devices h = grind (arith, common_steps)

  setup_chip : ((carried Setup (ready b a bytes)).chip.setup ≡ []) × ((carried Setup (ready b a bytes)).chip.sending ≡ []) × ((carried Setup (ready b a bytes)).chip.received ≡ b.chip.received)
  unfolding carried
  setup_chip = (refl, refl, refl)

  pub setup_staged : length bytes ≡ 8 → Staged a 0x10 bytes b (setup_outcome (a % 128) (next_fate b.fates) b.devices bytes)
  setup_staged h =
      let o = setup_outcome (a % 128) (next_fate b.fates) b.devices bytes in
      let is : stage_launched a 0x10 bytes b ≡ carried Setup (ready b a bytes) = ap (after_put 30 0x10) (loaded_stage a bytes b none (omega arith)) ∙ put_30 0x10 (ready b a bytes) in
      let small = setup_code_small (a % 128) (next_fate b.fates) b.devices (next_real b.fates) bytes in
      let l = leaves a 0x10 bytes b Setup o is (setup_code h) (setup_devices h) setup_chip.0 setup_chip.1 setup_chip.2 small in
      record { code = answers a 0x10 bytes b Setup o is (setup_code h) (setup_devices h) setup_chip.0 setup_chip.1 setup_chip.2 small; devices = l.0; no_setup = l.1; no_sending = l.2; same_received = l.3 }

module _ (a : ℕ) (b : Bus) (none : b.chip.setup ≡ []) where
  hs_code : (carried HsIn (ready b a [])).chip.result ≡ (hs_outcome (a % 128) (next_fate b.fates) b.devices).code
  unfolding carried
  hs_code = refl

  hs_devices : (carried HsIn (ready b a [])).devices ≡ (hs_outcome (a % 128) (next_fate b.fates) b.devices).devices
  unfolding carried
  hs_devices = refl

  hs_chip : ((carried HsIn (ready b a [])).chip.setup ≡ []) × ((carried HsIn (ready b a [])).chip.sending ≡ []) × ((carried HsIn (ready b a [])).chip.received ≡ b.chip.received)
  unfolding carried
  hs_chip = (refl, refl, refl)

  pub hs_staged : Staged a 0x80 [] b (hs_outcome (a % 128) (next_fate b.fates) b.devices)
  hs_staged =
      let o = hs_outcome (a % 128) (next_fate b.fates) b.devices in
      let is : stage_launched a 0x80 [] b ≡ carried HsIn (ready b a []) = ap (after_put 30 0x80) (loaded_stage a [] b none (omega arith)) ∙ put_30 0x80 (ready b a []) in
      let small = hs_code_small (a % 128) (next_fate b.fates) b.devices (next_real b.fates) in
      let l = leaves a 0x80 [] b HsIn o is hs_code hs_devices hs_chip.0 hs_chip.1 hs_chip.2 small in
      record { code = answers a 0x80 [] b HsIn o is hs_code hs_devices hs_chip.0 hs_chip.1 hs_chip.2 small; devices = l.0; no_setup = l.1; no_sending = l.2; same_received = l.3 }
