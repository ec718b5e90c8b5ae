-- Host and device stay level through every reply of the device, and each packet is handed over once. Assumes nothing.
use Rattle.std.proofs.lemmas.Grind.{common_steps}
use Rattle.std.proofs.Common.{◌≡◌, ℕ, suc, ◌+◌, ◌*◌, ◌<◌, ◌≤◌, Bool, true, false, cond, eqb, ltb, leb, ◌⊎◌, List, [], ◌∷◌, ◌++◌, length, take, drop, sym, refl, ap, ◌∙◌, subst, inl, inr, ⊎_elim, append_assoc, suc-mul, arith}
use Rattle.std.proofs.lemmas.List.{length-take, length-drop}
use Rattle.std.proofs.lemmas.Bool.{cases_Bool, leb-true, ltb-true, ltb-false, ne_eqb, false≢true}
use Rattle.port.specs.declared.toggles.Toggle.{Toggle}
use Rattle.port.specs.Toggles.{agree, flip}
use Rattle.port.specs.Endpoints.{Endpoint, halt, handed, rest}
use Rattle.port.specs.Reactions.{Met, first}
use Rattle.port.specs.Launches.{advanced}
use Rattle.attempt.specs.declared.tries.Arrival.{Arrival}
use Rattle.attempt.specs.declared.tries.Arrival.TheVariants.{Read, TooLong}
use Rattle.host.specs.Tallies.{tallied}
use Rattle.host.specs.declared.fetching.Intake.{Intake}
use Rattle.pipes.specs.declared.pipes.Standing.TheVariants.{InStep, Doubtful}
use Rattle.pipes.specs.Answers.{number_of}
use Rattle.pipes.specs.Standings.{next_standing}
use Rattle.host.specs.Sending.{none_yet}
use Rattle.host.specs.Fetching.{bytes_in, is_short, written, fetch_event, long_stopped}
use Rattle.host.specs.Effects.{Level}
use Rattle.host.proofs.InReplies.{Waits, InReply, came, came_kept, again, nothing, stalled}
use Rattle.host.proofs.InTry.{packet_in, room_after}
use Rattle.host.proofs.Packets.{came_in, one_more}
use Rattle.host.proofs.Writes.{written_length, written_front, written_bytes}

-- toggles
flip_flip : (t : Toggle) → flip (flip t) ≡ t
flip_flip t = grind (arith, common_steps)

-- a pipe that is in doubt is not in step
not_in_step : Doubtful ≡ InStep → ⊥
not_in_step e = cc

module _ (size limit : ℕ) (waited before : List (List ℕ)) where
  -- the packets handed over in all, those of this fetch behind the others
  abbrev pub over : Intake → List ℕ → List (List ℕ)
  over q buffer = before ++ came_in size q.received q.ended buffer

  -- what every state of a fetch keeps of the packets: those received are full, but for one that has ended it; those handed over are the
  -- first that waited; and host and device are level, but where a packet was too long
  pub record Flows (q : Intake) (buffer : List ℕ) (e : Endpoint) : Type 0 where
    pub whole : q.ended ≡ false → (k : ℕ) × (q.received ≡ k * size)
    pub short : q.ended ≡ true → (q.received < length buffer) × (none_yet q.tally.stop ≡ true)
    pub front : (later : List (List ℕ)) × (waited ≡ over q buffer ++ later)
    pub level : next_standing InStep (fetch_event (number_of q.tally.stop)) ≡ InStep → Level waited (over q buffer) q.toggle e

  -- the progress after a try with this code, toggle and arrival
  abbrev pub next : Intake → ℕ → Toggle → Arrival → Intake
  next q code t x =
      record {
        received = q.received + bytes_in x;
        tally = long_stopped x (tallied limit q.tally code);
        toggle = t;
        ended = is_short size x;
      }

  module _ (some : 1 ≤ size) (q : Intake) (buffer : List ℕ) (k : ℕ) (whole : q.received ≡ k * size) (here : q.received ≤ length buffer) (fits : length (take size (drop q.received buffer)) ≡ size) where
    abbrev room : List ℕ
    room = take size (drop q.received buffer)

    -- the packets handed over before this try
    abbrev so_far : List (List ℕ)
    so_far = before ++ came_in size q.received false buffer

    -- nothing was written, and nothing received
    still : (code : ℕ) (t : Toggle) (x : Arrival) → bytes_in x ≡ 0 → is_short size x ≡ false → over (next q code t x) (written q.received room buffer) ≡ so_far
    still code t x none same = grind (arith, common_steps)

    -- a try that brings no packet: host and device are as level as they were
    unmoved : (code : ℕ) (packet : List ℕ) (e : Endpoint) → eqb code 0 ≡ false → Level waited so_far q.toggle e → Flows (next q code (advanced code q.toggle) (packet_in code packet room)) (written q.received (room_after code packet room) buffer) e
    unmoved code packet e f level = grind (arith, common_steps)

    -- a packet comes that waited behind those handed over
    module _ (packet : List ℕ) (later : List (List ℕ)) (e : Endpoint) (split : waited ≡ so_far ++ (packet ∷ later)) (at : ((e.toggle ≡ flip q.toggle) × (e.waiting ≡ later)) ⊎ ((e.toggle ≡ q.toggle) × (e.waiting ≡ packet ∷ later))) where
      -- longer than the room: it is not handed over
      refused : Flows (next q 0 (flip q.toggle) TooLong) (written q.received room buffer) e
      refused =
          let same = still 0 (flip q.toggle) TooLong refl refl in
          record {
            whole = λ _. (k, omega arith);
            short = λ t. absurd (false≢true t);
            front = (packet ∷ later, split ∙ ap (λ l. l ++ (packet ∷ later)) (sym same));
            level = λ doubt. absurd (not_in_step doubt);
          }

      -- no longer: it is
      received : length packet ≤ length room → Flows (next q 0 (flip q.toggle) (Read (length packet))) (written q.received (packet ++ drop (length packet) room) buffer) e
      received h =
          let r = q.received in
          let buffer' = written r (packet ++ drop (length packet) room) buffer in
          let most : length packet ≤ size = omega arith in
          let front : take (k * size) buffer' ≡ take (k * size) buffer = subst (λ n. take n buffer' ≡ take n buffer) whole (written_front r size packet buffer here h) in
          let back : drop (k * size) buffer' ≡ packet ++ drop (r + length packet) buffer = subst (λ n. drop n buffer' ≡ packet ++ drop (r + length packet) buffer) whole (written_bytes r size packet buffer here h) in
          let more : came_in size (r + length packet) (ltb (length packet) size) buffer' ≡ came_in size r false buffer ++ (packet ∷ []) =
          ap (λ n. came_in size (n + length packet) (ltb (length packet) size) buffer') whole
          ∙ one_more size k some packet (drop (r + length packet) buffer) buffer buffer' most front back
          ∙ ap (λ n. came_in size n false buffer ++ (packet ∷ [])) (sym whole) in
          let all : before ++ came_in size (r + length packet) (ltb (length packet) size) buffer' ≡ so_far ++ (packet ∷ []) =
          ap (λ l. before ++ l) more ∙ sym (append_assoc before (came_in size r false buffer) (packet ∷ [])) in
          let first : waited ≡ (so_far ++ (packet ∷ [])) ++ later = split ∙ sym (append_assoc so_far (packet ∷ []) later) in
          let long = written_length r size packet buffer here h in
          let m = suc-mul k size in
          record {
            whole = λ full. (suc k, (let le = ltb-false (length packet) size full in omega arith));
            short = λ less. ((let lt = ltb-true (length packet) size less in let a = length-take size (drop r buffer) in let b = length-drop r buffer in omega arith), refl);
            front = (later, first ∙ ap (λ l. l ++ later) (sym all));
            level = λ _.
                subst (λ l. Level waited l (flip q.toggle) e) (sym all)
                (record {
                  rest = later;
                  front = first;
                  at = ⊎_elim (λ gone. inl gone) (λ stays. inr (so_far, packet, refl, stays.0 ∙ sym (flip_flip q.toggle), stays.1)) at;
                });
          }

      arrived : Flows (next q 0 (flip q.toggle) (packet_in 0 packet room)) (written q.received (room_after 0 packet room) buffer) e
      arrived =
          let P : Bool → Type 0 = λ z. Flows (next q 0 (flip q.toggle) (cond z (Read (length packet)) TooLong)) (written q.received (cond z (packet ++ drop (length packet) room) room) buffer) e in
          ⊎_elim
          (λ t. subst P (sym t) (received (leb-true (length packet) (length room) t)))
          (λ f. subst P (sym f) refused)
          (cases_Bool (leb (length packet) (length room)))

    module _ (e : Endpoint) (level : Level waited so_far q.toggle e) where
      -- what waits first, where the toggles agree, is the next packet
      next_is : agree q.toggle e.toggle ≡ true → (w : Waits e.waiting) → (e.toggle ≡ q.toggle) × (waited ≡ so_far ++ (w.packet ∷ w.later))
      next_is same w = grind (arith, common_steps)

      taken : (e' : Endpoint) (w : Waits e.waiting) → agree q.toggle e.toggle ≡ true → ((e'.toggle ≡ flip q.toggle) × (e'.waiting ≡ w.later)) ⊎ ((e'.toggle ≡ q.toggle) × (e'.waiting ≡ w.packet ∷ w.later)) → Flows (next q 0 (flip q.toggle) (packet_in 0 (first e.waiting) room)) (written q.received (room_after 0 (first e.waiting) room) buffer) e'
      taken e' w same at =
          subst (λ p. Flows (next q 0 (flip q.toggle) (packet_in 0 p room)) (written q.received (room_after 0 p room) buffer) e') (sym (ap first w.split))
          (arrived w.packet w.later e' (next_is same w).1 at)

      -- a packet that came before is dropped, and the device goes on: the toggles agree again
      gone_on : agree q.toggle e.toggle ≡ false → Level waited so_far q.toggle (handed e)
      gone_on other = grind (arith, common_steps)

      pub after_reply : {m : Met} → InReply q.toggle e m → Flows (next q m.code (advanced m.code q.toggle) (packet_in m.code (first e.waiting) room)) (written q.received (room_after m.code (first e.waiting) room) buffer) m.endpoint
      after_reply (came same w) = taken (handed e) w same (inl (ap flip (next_is same w).0, ap rest w.split))
      after_reply (came_kept same w) = taken e w same (inr ((next_is same w).0, w.split))
      after_reply (again other w) = unmoved 6 (first e.waiting) (handed e) refl (gone_on other)
      after_reply (nothing code h) = unmoved code (first e.waiting) e (ne_eqb code 0 (λ z. omega arith)) level
      after_reply stalled = unmoved 5 (first e.waiting) (halt e) refl (record { rest = level.rest; front = level.front; at = level.at })
