-- One OUT try on any bus: what it answers and what it does to the devices. Assumes nothing.
use Rattle.std.proofs.Common.{◌≡◌, ℕ, ◌+◌, ◌*◌, ◌%◌, ◌<◌, ◌≤◌, false, cond, List, [], ◌∷◌, ◌++◌, length, Some, sym, refl, ap, ◌∙◌, subst, append_assoc, append-nil, arith}
use Rattle.std.proofs.lemmas.Grind.{common_steps}
use Rattle.std.proofs.lemmas.List.{length_push}
use Rattle.std.proofs.lemmas.Bool.{lt-ltb, le-leb}
use Rattle.port.specs.declared.toggles.Toggle.{Toggle}
use Rattle.port.specs.declared.toggles.Toggle.TheVariants.{Data0, Data1}
use Rattle.port.specs.declared.transactions.Transaction.TheVariants.{Out}
use Rattle.port.specs.Toggles.{bit, toggle_of}
use Rattle.port.specs.Chip.{Chip}
use Rattle.port.specs.Reactions.{Outcome, out_outcome}
use Rattle.port.specs.Bus.{Bus, with_chip, next_fate}
use Rattle.port.specs.Launches.{advanced, launch_of, carried}
use Rattle.port.specs.Accesses.{after_put, after_puts}
use Rattle.port.proofs.Codes.{next_real, out_code_small}
use Rattle.port.proofs.Others.{is_out}
use Rattle.port.proofs.Single.{put_2, put_7, put_25, put_28, put_29, put_30, got_31, get_keeps}
use Rattle.attempt.specs.Tries.{begun, send_control, out_launched, out_answer, after_out, code_of, send_bit}

-- the chip with another send buffer
abbrev with_bytes : Chip → List ℕ → Chip
with_bytes c bytes =
    record {
      sending = bytes;
      count = c.count;
      setup = c.setup;
      incoming = c.incoming;
      address = c.address;
      send_toggle = c.send_toggle;
      receive_toggle = c.receive_toggle;
      result = c.result;
      done = c.done;
      free = c.free;
      received = c.received;
    }

-- the bytes of a packet, put to R2 one after another, are loaded where they fit
loads : (bytes : List ℕ) (b : Bus) → length b.chip.sending + length bytes ≤ 64 → after_puts 2 bytes b ≡ with_chip b (with_bytes b.chip (b.chip.sending ++ bytes))
loads [] b h = sym (ap (λ l. with_chip b (with_bytes b.chip l)) (append-nil b.chip.sending))
loads (x ∷ xs) b h =
    let sending = b.chip.sending in
    let more = with_chip b (with_bytes b.chip (sending ++ x ∷ [])) in
    let room : length sending < 64 = omega arith in
    let one : after_put 2 x b ≡ more =
    put_2 x b ∙ ap (λ t. with_chip b (with_bytes b.chip (cond t (sending ++ x ∷ []) sending))) (lt-ltb (length sending) 64 room) in
    let n = length_push sending x in
    ap (after_puts 2 xs) one
    ∙ loads xs more (omega arith)
    ∙ ap (λ l. with_chip b (with_bytes b.chip l)) (append_assoc sending (x ∷ []) xs)

-- the chip with the address and the send toggle of a try
abbrev aimed : Chip → ℕ → Toggle → Chip
aimed c a t =
    record {
      sending = c.sending;
      count = c.count;
      setup = c.setup;
      incoming = c.incoming;
      address = a % 128;
      send_toggle = t;
      receive_toggle = c.receive_toggle;
      result = c.result;
      done = c.done;
      free = c.free;
      received = c.received;
    }

begun_is : (a : ℕ) (t : Toggle) (b : Bus) → begun a (Some (send_control t)) b ≡ with_chip b (aimed b.chip a t)
begun_is a Data0 b = ap (after_put 29 0x40) (put_28 a b) ∙ put_29 0x40 _
begun_is a Data1 b = ap (after_put 29 0x80) (put_28 a b) ∙ put_29 0x80 _

-- the chip just before the launch of an OUT
abbrev ready : Chip → ℕ → Toggle → List ℕ → Chip
ready c a t bytes =
    record {
      sending = bytes;
      count = length bytes;
      setup = c.setup;
      incoming = c.incoming;
      address = a % 128;
      send_toggle = t;
      receive_toggle = c.receive_toggle;
      result = c.result;
      done = c.done;
      free = false;
      received = c.received;
    }

loaded_out : (a : ℕ) (t : Toggle) (bytes : List ℕ) (b : Bus) → b.chip.sending ≡ [] → length bytes ≤ 64 → after_put 7 (length bytes) (after_puts 2 bytes (begun a (Some (send_control t)) b)) ≡ with_chip b (ready b.chip a t bytes)
loaded_out a t bytes b none h =
    let n = ap length none in
    let aim = with_chip b (aimed b.chip a t) in
    let full = with_chip b (with_bytes (aimed b.chip a t) bytes) in
    let load : after_puts 2 bytes (begun a (Some (send_control t)) b) ≡ full =
    ap (after_puts 2 bytes) (begun_is a t b)
    ∙ loads bytes aim (omega arith)
    ∙ ap (λ l. with_chip b (with_bytes (aimed b.chip a t) (l ++ bytes))) none in
    ap (after_put 7 (length bytes)) load
    ∙ put_7 (length bytes) full
    ∙ ap (λ x. with_chip b (cond x (ready b.chip a t bytes) (with_bytes (aimed b.chip a t) bytes))) (le-leb (length bytes) 64 h)

-- R31 read back
pub status_code : (s r : Toggle) (x : ℕ) → x < 16 → code_of (32 * bit s + 16 * bit r + x) ≡ x
status_code s r x h = grind (arith, common_steps)

status_toggle : (s r : Toggle) (x : ℕ) → x < 16 → toggle_of (send_bit (32 * bit s + 16 * bit r + x)) ≡ s
status_toggle s r x h = grind (arith, common_steps)

module _ (a e : ℕ) (t : Toggle) (bytes : List ℕ) (b : Bus) (low : 1 ≤ e) (high : e ≤ 15) (none : b.chip.sending ≡ []) (short : length bytes ≤ 64) where
  -- what comes of the transaction
  abbrev pub outcome_out : Outcome
  outcome_out = out_outcome (a % 128) (next_fate b.fates) b.devices e t bytes

  small : outcome_out.code < 16
  small = out_code_small (a % 128) (next_fate b.fates) b.devices (next_real b.fates) e t bytes

  launched_is : out_launched a e t bytes b ≡ carried (Out e) (with_chip b (ready b.chip a t bytes))
  launched_is =
      let m : e % 16 ≡ e = omega arith in
      ap (λ n. after_put 30 (0x20 + n) (after_put 7 (length bytes) (after_puts 2 bytes (begun a (Some (send_control t)) b)))) m
      ∙ ap (after_put 30 (0x20 + e)) (loaded_out a t bytes b none short)
      ∙ put_30 (0x20 + e) (with_chip b (ready b.chip a t bytes))
      ∙ ap (λ x. launch_of x (with_chip b (ready b.chip a t bytes))) (is_out e low high)

  -- the six things that are known of the bus after the launch
  carried_result : (carried (Out e) (with_chip b (ready b.chip a t bytes))).chip.result ≡ outcome_out.code
  unfolding carried
  carried_result = grind (arith, common_steps)

  carried_toggle : (carried (Out e) (with_chip b (ready b.chip a t bytes))).chip.send_toggle ≡ advanced outcome_out.code t
  unfolding carried
  carried_toggle = grind (arith, common_steps)

  carried_devices : (carried (Out e) (with_chip b (ready b.chip a t bytes))).devices ≡ outcome_out.devices
  unfolding carried
  carried_devices = grind (arith, common_steps)

  carried_empty : (carried (Out e) (with_chip b (ready b.chip a t bytes))).chip.sending ≡ []
  unfolding carried
  carried_empty = refl

  carried_setup : (carried (Out e) (with_chip b (ready b.chip a t bytes))).chip.setup ≡ []
  unfolding carried
  carried_setup = refl

  carried_received : (carried (Out e) (with_chip b (ready b.chip a t bytes))).chip.received ≡ b.chip.received
  unfolding carried
  carried_received = refl

  result_is : (out_launched a e t bytes b).chip.result ≡ outcome_out.code
  result_is = ap (λ x. x.chip.result) launched_is ∙ carried_result

  toggle_is : (out_launched a e t bytes b).chip.send_toggle ≡ advanced outcome_out.code t
  toggle_is = ap (λ x. x.chip.send_toggle) launched_is ∙ carried_toggle

  small_result : (out_launched a e t bytes b).chip.result < 16
  small_result = subst (λ n. n < 16) (sym result_is) small

  pub out_code : (out_answer a e t bytes b).0 ≡ outcome_out.code
  out_code =
      let x = out_launched a e t bytes b in
      ap code_of (got_31 x) ∙ status_code x.chip.send_toggle x.chip.receive_toggle x.chip.result small_result ∙ result_is

  pub out_toggle : toggle_of (out_answer a e t bytes b).1 ≡ advanced outcome_out.code t
  out_toggle =
      let x = out_launched a e t bytes b in
      ap (λ s. toggle_of (send_bit s)) (got_31 x) ∙ status_toggle x.chip.send_toggle x.chip.receive_toggle x.chip.result small_result ∙ toggle_is

  kept : after_out a e t bytes b ≡ after_put 25 0x80 (carried (Out e) (with_chip b (ready b.chip a t bytes)))
  kept = ap (after_put 25 0x80) (get_keeps (out_launched a e t bytes b) 31 refl ∙ launched_is)

  pub out_devices : (after_out a e t bytes b).devices ≡ outcome_out.devices
  out_devices = ap (λ x. x.devices) (kept ∙ put_25 0x80 (carried (Out e) (with_chip b (ready b.chip a t bytes)))) ∙ carried_devices

  pub out_empty : (after_out a e t bytes b).chip.sending ≡ []
  out_empty = ap (λ x. x.chip.sending) (kept ∙ put_25 0x80 (carried (Out e) (with_chip b (ready b.chip a t bytes)))) ∙ carried_empty

  pub out_setup : (after_out a e t bytes b).chip.setup ≡ []
  out_setup = ap (λ x. x.chip.setup) (kept ∙ put_25 0x80 (carried (Out e) (with_chip b (ready b.chip a t bytes)))) ∙ carried_setup

  -- no packet is received, and none that was is cleared
  pub out_received : (after_out a e t bytes b).chip.received ≡ b.chip.received
  out_received = ap (λ x. x.chip.received) (kept ∙ put_25 0x80 (carried (Out e) (with_chip b (ready b.chip a t bytes)))) ∙ carried_received
