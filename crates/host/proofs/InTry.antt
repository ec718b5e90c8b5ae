-- One IN try on a bus where no received packet waits: what it answers, what it writes and what it does to the devices. Assumes nothing.
use Rattle.std.proofs.Common.{◌≡◌, ℕ, zero, suc, ◌+◌, ◌*◌, ◌%◌, ◌<◌, ◌≤◌, Bool, true, false, cond, eqb, leb, List, [], ◌∷◌, ◌++◌, length, get_or, drop, Some, sym, refl, ap, ◌∙◌, subst, arith}
use Rattle.std.proofs.lemmas.Grind.{common_steps}
use Rattle.std.proofs.lemmas.Bool.{cond_both}
use Rattle.port.specs.declared.toggles.Toggle.{Toggle}
use Rattle.port.specs.declared.toggles.Toggle.TheVariants.{Data0, Data1}
use Rattle.port.specs.declared.transactions.Transaction.TheVariants.{In}
use Rattle.port.specs.Toggles.{bit, toggle_of}
use Rattle.port.specs.Chip.{Chip}
use Rattle.port.specs.Reactions.{Outcome, in_outcome}
use Rattle.port.specs.Bus.{Bus, with_chip, next_fate}
use Rattle.port.specs.Launches.{advanced, launch_of, refused, carried}
use Rattle.port.specs.Accesses.{after_put, got, gots, after_get, after_gets}
use Rattle.port.proofs.Codes.{next_real, in_code_small}
use Rattle.port.proofs.Others.{is_in}
use Rattle.port.proofs.Single.{put_25, put_28, put_29, put_30, got_6, got_31, get_keeps}
use Rattle.attempt.specs.declared.tries.Arrival.{Arrival}
use Rattle.attempt.specs.declared.tries.Arrival.TheVariants.{Nothing, Read, TooLong}
use Rattle.attempt.specs.Tries.{begun, receive_control, in_launched, in_answer, in_arrival, in_room, after_in, arrived, room_read, after_read, code_of, receive_bit, result_got}
use Rattle.host.specs.Effects.{Quiet}
use Rattle.host.proofs.OutTry.{status_code}

where_true : {A : Type 0} (t : Bool) (x y n : A) → (t ≡ true → x ≡ y) → cond t x n ≡ cond t y n
where_true t x y n h = grind (arith, common_steps)

-- the bytes that wait in the chip are got one after another
reads : (n : ℕ) (bs : List ℕ) (b : Bus) → b.chip.incoming ≡ bs → length bs ≡ n → gots 1 n b ≡ bs
unfolding got after_get
reads zero [] b h l = refl
reads zero (x ∷ bs) b h l = absurd (omega arith)
reads (suc n) [] b h l = absurd (omega arith)
reads (suc n) (x ∷ bs) b h l =
    let here : got 1 b ≡ x = ap (λ xs. get_or xs 0 0) h in
    let more = reads n bs (after_get 1 b) (ap (drop 1) h) (omega arith) in
    (λ i. here i ∷ more i)

-- the gets take bytes and leave the rest
record Kept (b b' : Bus) : Type 0 where
  pub devices : b'.devices ≡ b.devices
  pub sending : b'.chip.sending ≡ b.chip.sending
  pub setup : b'.chip.setup ≡ b.chip.setup

gets_keep : (n : ℕ) (b : Bus) → Kept b (after_gets 1 n b)
unfolding after_get
gets_keep zero b = record { devices = refl; sending = refl; setup = refl }
gets_keep (suc n) b = let k = gets_keep n (after_get 1 b) in record { devices = k.devices; sending = k.sending; setup = k.setup }

-- the chip with the address and the receive toggle of a try
abbrev aimed : Chip → ℕ → Toggle → Chip
aimed c a t =
    record {
      sending = c.sending;
      count = c.count;
      setup = c.setup;
      incoming = c.incoming;
      address = a % 128;
      send_toggle = c.send_toggle;
      receive_toggle = t;
      result = c.result;
      done = c.done;
      free = c.free;
      received = c.received;
    }

begun_is : (a : ℕ) (t : Toggle) (b : Bus) → begun a (Some (receive_control t)) b ≡ with_chip b (aimed b.chip a t)
begun_is a Data0 b = ap (after_put 29 0x10) (put_28 a b) ∙ put_29 0x10 _
begun_is a Data1 b = ap (after_put 29 0x20) (put_28 a b) ∙ put_29 0x20 _

status_toggle : (s r : Toggle) (x : ℕ) → x < 16 → toggle_of (receive_bit (32 * bit s + 16 * bit r + x)) ≡ r
status_toggle s r x h = grind (arith, common_steps)

-- what a try brings and what it makes of the room, by its result and the packet
abbrev pub packet_in : ℕ → List ℕ → List ℕ → Arrival
packet_in code bytes room = cond (eqb code 0) (cond (leb (length bytes) (length room)) (Read (length bytes)) TooLong) Nothing

abbrev pub room_after : ℕ → List ℕ → List ℕ → List ℕ
room_after code bytes room = cond (eqb code 0) (cond (leb (length bytes) (length room)) (bytes ++ drop (length bytes) room) room) room

module _ (a e : ℕ) (t : Toggle) (room : List ℕ) (b : Bus) (low : 1 ≤ e) (high : e ≤ 15) (clear : b.chip.received ≡ false) where
  -- what comes of the transaction
  abbrev pub outcome_in : Outcome
  outcome_in = in_outcome (a % 128) (next_fate b.fates) b.devices e t

  small : outcome_in.code < 16
  small = in_code_small (a % 128) (next_fate b.fates) b.devices (next_real b.fates) e t

  -- the bus after the launch
  abbrev went : Bus
  went = carried (In e) (with_chip b (aimed b.chip a t))

  launched_is : in_launched a e t room b ≡ went
  launched_is =
      let m : e % 16 ≡ e = omega arith in
      ap (λ n. after_put 30 n (begun a (Some (receive_control t)) b)) m
      ∙ ap (after_put 30 e) (begun_is a t b)
      ∙ put_30 e (with_chip b (aimed b.chip a t))
      ∙ ap (λ x. launch_of x (with_chip b (aimed b.chip a t))) (is_in e low high)
      ∙ ap (λ x. cond x (refused (with_chip b (aimed b.chip a t))) went) clear

  went_result : went.chip.result ≡ outcome_in.code
  unfolding carried
  went_result = refl

  went_toggle : went.chip.receive_toggle ≡ advanced outcome_in.code t
  unfolding carried
  went_toggle = refl

  went_devices : went.devices ≡ outcome_in.devices
  unfolding carried
  went_devices = refl

  went_sending : went.chip.sending ≡ []
  unfolding carried
  went_sending = refl

  went_setup : went.chip.setup ≡ []
  unfolding carried
  went_setup = refl

  went_incoming : eqb outcome_in.code 0 ≡ true → went.chip.incoming ≡ outcome_in.bytes
  unfolding carried
  went_incoming z = ap (λ x. cond x outcome_in.bytes b.chip.incoming) z

  went_received : eqb outcome_in.code 0 ≡ false → went.chip.received ≡ false
  unfolding carried
  went_received z = ap (λ x. cond x true b.chip.received) z ∙ clear

  small_result : (in_launched a e t room b).chip.result < 16
  small_result = subst (λ n. n < 16) (sym (ap (λ x. x.chip.result) launched_is ∙ went_result)) small

  pub in_code : (in_answer a e t room b).0 ≡ outcome_in.code
  in_code =
      let x = in_launched a e t room b in
      ap code_of (got_31 x) ∙ status_code x.chip.send_toggle x.chip.receive_toggle x.chip.result small_result ∙ ap (λ y. y.chip.result) launched_is ∙ went_result

  pub in_toggle : toggle_of (in_answer a e t room b).1 ≡ advanced outcome_in.code t
  in_toggle =
      let x = in_launched a e t room b in
      ap (λ s. toggle_of (receive_bit s)) (got_31 x) ∙ status_toggle x.chip.send_toggle x.chip.receive_toggle x.chip.result small_result ∙ ap (λ y. y.chip.receive_toggle) launched_is ∙ went_toggle

  got_is : result_got (in_launched a e t room b) ≡ went
  got_is = get_keeps (in_launched a e t room b) 31 refl ∙ launched_is

  length_is : eqb outcome_in.code 0 ≡ true → got 6 went ≡ length outcome_in.bytes
  length_is z = got_6 went ∙ ap length (went_incoming z)

  bytes_are : eqb outcome_in.code 0 ≡ true → gots 1 (got 6 went) (after_get 6 went) ≡ outcome_in.bytes
  bytes_are z = ap (gots 1 (got 6 went)) (get_keeps went 6 refl) ∙ reads (got 6 went) outcome_in.bytes went (went_incoming z) (sym (length_is z))

  pub in_arrives : in_arrival a e t room b ≡ packet_in outcome_in.code outcome_in.bytes room
  in_arrives =
      (λ j. cond (eqb (in_code j) 0) (arrived room (got_is j)) Nothing)
      ∙ where_true (eqb outcome_in.code 0) _ _ Nothing (λ z. ap (λ n. cond (leb n (length room)) (Read n) TooLong) (length_is z))

  pub in_writes : in_room a e t room b ≡ room_after outcome_in.code outcome_in.bytes room
  in_writes =
      (λ j. cond (eqb (in_code j) 0) (room_read room (got_is j)) room)
      ∙ where_true (eqb outcome_in.code 0) _ _ room
      (λ z.
      let long = length_is z in
      let bytes = bytes_are z in
      (λ j. cond (leb (long j) (length room)) (bytes j ++ drop (long j) room) room))

  -- what is known of the bus afterwards
  pub record Left (b' : Bus) : Type 0 where
    pub devices : b'.devices ≡ outcome_in.devices
    pub quiet : Quiet b'

  read_kept : Kept went (after_read room went)
  read_kept =
      let n = got 6 went in
      let k = gets_keep n went in
      let same = get_keeps went 6 refl in
      cond_both (leb n (length room)) (after_gets 1 n (after_get 6 went)) (after_get 6 went) (Kept went)
      (λ _. subst (λ x. Kept went (after_gets 1 n x)) (sym same) k)
      (λ _. subst (Kept went) (sym same) (gets_keep 0 went))

  after_read_left : (x : Bus) → Kept went x → Left (after_put 25 0x84 x)
  after_read_left x k =
      subst Left (sym (put_25 0x84 x))
      (record {
        devices = k.devices ∙ went_devices;
        quiet = record { no_sending = k.sending ∙ went_sending; no_setup = k.setup ∙ went_setup; none_received = refl };
      })

  unread_left : eqb outcome_in.code 0 ≡ false → Left (after_put 25 0x80 went)
  unread_left z =
      subst Left (sym (put_25 0x80 went))
      (record {
        devices = went_devices;
        quiet = record { no_sending = went_sending; no_setup = went_setup; none_received = went_received z };
      })

  pub in_left : Left (after_in a e t room b)
  in_left =
      subst Left (sym (λ j. cond (eqb (in_code j) 0) (after_put 25 0x84 (after_read room (got_is j))) (after_put 25 0x80 (got_is j))))
      (cond_both (eqb outcome_in.code 0) (after_put 25 0x84 (after_read room went)) (after_put 25 0x80 went) Left
      (λ _. after_read_left (after_read room went) read_kept)
      unread_left)
