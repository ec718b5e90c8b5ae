-- A send accounts for every byte: what each step keeps of the device's side, and what follows at the end. Assumes nothing.
use Rattle.std.proofs.lemmas.Grind.{common_steps}
use Rattle.std.proofs.Common.{◌≡◌, ℕ, zero, suc, ◌+◌, ◌%◌, ◌<◌, ◌≤◌, min, Bool, true, false, cond, ◌≢◌, ◌⊎◌, List, [], ◌∷◌, ◌++◌, length, get_or, take, drop, set, Some, sym, refl, ap, ◌∙◌, subst, inl, inr, ⊎_elim, append_assoc, arith, take-add}
use Rattle.std.proofs.lemmas.List.{length-take, length-set, get_or-set_same, get_or-set_other}
use Rattle.std.proofs.lemmas.Bool.{both_ways}
use Rattle.port.specs.declared.directions.Direction.{Direction}
use Rattle.port.specs.declared.directions.Direction.TheVariants as directions
use Rattle.port.specs.declared.toggles.Toggle.{Toggle}
use Rattle.port.specs.Toggles.{agree, flip}
use Rattle.port.specs.Endpoints.{Endpoint, nowhere, halt, took, stands_at, place}
use Rattle.port.specs.Reactions.{Met, met, out_met, out_at, at_place}
use Rattle.port.specs.Bus.{next_fate}
use Rattle.port.specs.Launches.{advanced}
use Rattle.port.proofs.Codes.{next_real}
use Rattle.port.proofs.Outcomes.{at_found}
use Rattle.pipes.specs.declared.pipes.Pipe.{Pipe}
use Rattle.pipes.specs.declared.refusals.Refusal.TheVariants.{Stalled}
use Rattle.host.specs.Tallies.{tallied}
use Rattle.host.specs.declared.sending.Progress.{Progress}
use Rattle.pipes.specs.Counting.{verdict, succeeded}
use Rattle.host.specs.Sending.{Sending, send_packet, send_step, send_going}
use Rattle.host.proofs.OutTry.{outcome_out, out_code, out_toggle, out_devices, out_empty}
use Rattle.host.proofs.Replies.{Reply, taken, repeated, busy, stalled, lost, unheard_taken, reply}

-- toggles
agree_same : (t u : Toggle) → agree t u ≡ true → u ≡ t
agree_same t u h = grind (arith, common_steps)

agree_other : (t u : Toggle) → agree t u ≡ false → u ≡ flip t
agree_other t u h = grind (arith, common_steps)

pub agree_self : (t u : Toggle) → u ≡ t → agree t u ≡ true
agree_self t u h = grind (arith, common_steps)

pub agree_flip : (t u : Toggle) → u ≡ flip t → agree t u ≡ false
agree_flip t u h = grind (arith, common_steps)

-- a cut at the length of a cut is that cut
take_cut : (k : ℕ) (xs : List ℕ) → take (length (take k xs)) xs ≡ take k xs
take_cut k xs = grind (arith, common_steps)

-- the first n bytes and then at most k more are the first bytes, as many
take_join : (n : ℕ) (k : ℕ) (xs : List ℕ) → take n xs ++ take k (drop n xs) ≡ take (n + length (take k (drop n xs))) xs
take_join n k xs = sym (take-add n (length (take k (drop n xs))) xs ∙ ap (λ l. take n xs ++ l) (take_cut k (drop n xs)))

-- a change that keeps an endpoint's address, number and direction moves no place
pub place_set : (a n : ℕ) (d : Direction) (es : List Endpoint) (k : ℕ) (e' : Endpoint) → k < length es → stands_at a n d e' ≡ stands_at a n d (get_or es k nowhere) → place a n d (set es k e') ≡ place a n d es
unfolding place
place_set a n d [] k e' lt h = absurd (omega arith)
place_set a n d (e ∷ es) zero e' lt h = ap (λ b. cond b 0 (suc (place a n d es))) h
place_set a n d (e ∷ es) (suc k) e' lt h = ap (λ x. cond (stands_at a n d e) 0 (suc x)) (place_set a n d es k e' (omega arith) h)

module _ (p : Pipe) (message : List ℕ) (start : List ℕ) where
  -- the length of the packet that begins there
  abbrev long : ℕ → ℕ
  long sent = length (take (min p.size 64) (drop sent message))

  -- where the device is: just behind the host, or, where some try was a miss, perhaps one packet ahead of it
  abbrev pub Spot : ℕ → Bool → Toggle → Endpoint → Type 0
  Spot sent missed t e =
      ((e.toggle ≡ t) × (e.taken ≡ start ++ take sent message))
      ⊎ ((missed ≡ true) × (e.toggle ≡ flip t) × (e.taken ≡ start ++ take (sent + long sent) message))

  -- the progress after a try with this code
  abbrev next : Progress → ℕ → Toggle → Progress
  next q code t =
      record {
        sent = cond (succeeded (verdict code q.tally.counts)) (q.sent + length (send_packet p message q)) q.sent;
        tally = tallied p.limit q.tally code;
        toggle = t;
      }

  -- what is known after a reply
  record After (q : Progress) (e : Endpoint) (m : Met) : Type 0 where
    pub now_at : Spot (next q m.code (advanced m.code q.toggle)).sent (next q m.code (advanced m.code q.toggle)).tally.counts.missed (advanced m.code q.toggle) m.endpoint
    pub now_live : (m.endpoint.halted ≡ false) ⊎ ((next q m.code (advanced m.code q.toggle)).tally.stop ≡ Some Stalled)
    pub stays_put : (a n : ℕ) (d : Direction) → stands_at a n d m.endpoint ≡ stands_at a n d e

  module _ (q : Progress) (e : Endpoint) (live : e.halted ≡ false) (at : Spot q.sent q.tally.counts.missed q.toggle e) where
    -- the bytes taken, with the packet behind them
    joined : e.taken ≡ start ++ take q.sent message → e.taken ++ send_packet p message q ≡ start ++ take (q.sent + length (send_packet p message q)) message
    joined h =
        ap (λ l. l ++ send_packet p message q) h
        ∙ append_assoc start (take q.sent message) (send_packet p message q)
        ∙ ap (λ l. start ++ l) (take_join q.sent (min p.size 64) message)

    after_taken : agree q.toggle e.toggle ≡ true → After q e (met 0 (took (send_packet p message q) e))
    after_taken same =
        record {
          now_at =
              ⊎_elim
              (λ first. inl (ap flip (agree_same q.toggle e.toggle same), joined first.1))
              (λ second. absurd (both_ways (agree q.toggle e.toggle) (agree_flip q.toggle e.toggle second.1) same))
              at;
          now_live = inl live;
          stays_put = λ a n d. refl;
        }

    after_repeated : agree q.toggle e.toggle ≡ false → After q e (met 0 e)
    after_repeated other = grind (arith, common_steps)

    after_busy : After q e (met 4 e)
    after_busy = grind (arith, common_steps)

    after_stalled : After q e (met 5 (halt e))
    after_stalled = grind (arith, common_steps)

    module _ (code : ℕ) (high : 7 ≤ code) where
      missed_spot : (e' : Endpoint) → Spot q.sent true q.toggle e' → Spot (next q code (advanced code q.toggle)).sent (next q code (advanced code q.toggle)).tally.counts.missed (advanced code q.toggle) e'
      missed_spot e' spot = grind (arith, common_steps)

      after_lost : After q e (met code e)
      after_lost = grind (arith, common_steps)

      after_unheard : agree q.toggle e.toggle ≡ true → After q e (met code (took (send_packet p message q) e))
      after_unheard same =
          record {
            now_at =
                missed_spot (took (send_packet p message q) e)
                (⊎_elim
                (λ first. inr (refl, ap flip first.0, joined first.1))
                (λ second. absurd (both_ways (agree q.toggle e.toggle) (agree_flip q.toggle e.toggle second.1) same))
                at);
            now_live = inl live;
            stays_put = λ a n d. refl;
          }

    after_reply : {m : Met} → Reply q.toggle (send_packet p message q) e m → After q e m
    after_reply (taken same) = after_taken same
    after_reply (repeated other) = after_repeated other
    after_reply busy = after_busy
    after_reply stalled = after_stalled
    after_reply (lost code high) = after_lost code high
    after_reply (unheard_taken code high same) = after_unheard code high same

  -- what every state of a send keeps of the bus, from the bus before it
  module _ (es₀ : List Endpoint) (i : ℕ) (within : i < length es₀) where
    pub record Held (s : Sending) : Type 0 where
      pub unsent : s.bus.chip.sending ≡ []
      pub many : length s.bus.devices.endpoints ≡ length es₀
      pub here : place (p.address % 128) p.endpoint directions.Out s.bus.devices.endpoints ≡ i
      pub others : (k : ℕ) → k ≢ i → get_or s.bus.devices.endpoints k nowhere ≡ get_or es₀ k nowhere
      pub at : Spot s.progress.sent s.progress.tally.counts.missed s.progress.toggle (get_or s.bus.devices.endpoints i nowhere)
      pub live : ((get_or s.bus.devices.endpoints i nowhere).halted ≡ false) ⊎ (s.progress.tally.stop ≡ Some Stalled)

    going_on : (s : Sending) → send_going p message s ≡ true → s.progress.tally.stop ≡ Some Stalled → ⊥
    going_on s g e = grind (arith, common_steps)

    module _ (low : 1 ≤ p.endpoint) (high : p.endpoint ≤ 15) (s : Sending) (h : Held s) (g : send_going p message s ≡ true) where
      pub step_held : Held (send_step p message s)
      step_held =
          let q = s.progress in
          let b = s.bus in
          let es = b.devices.endpoints in
          let pk = send_packet p message q in
          let fate = next_fate b.fates in
          let e = get_or es i nowhere in
          let m = out_met fate q.toggle pk e in
          let short : length pk ≤ 64 = (let l = length-take (min p.size 64) (drop q.sent message) in omega arith) in
          let lt : i < length es = omega (arith, h.many) in
          let alive : e.halted ≡ false = ⊎_elim (λ x. x) (λ x. absurd (going_on s g x)) h.live in
          let f = out_at fate q.toggle pk in
          let o : outcome_out p.address p.endpoint q.toggle pk b low high h.unsent short ≡ f b.devices i = ap (at_place f b.devices) h.here ∙ at_found f b.devices i lt in
          let code = out_code p.address p.endpoint q.toggle pk b low high h.unsent short ∙ ap (λ x. x.code) o in
          let toggle = out_toggle p.address p.endpoint q.toggle pk b low high h.unsent short ∙ ap (λ x. advanced x.code q.toggle) o in
          let devices = out_devices p.address p.endpoint q.toggle pk b low high h.unsent short ∙ ap (λ x. x.devices) o in
          let ends : (send_step p message s).bus.devices.endpoints ≡ set es i m.endpoint = ap (λ d. d.endpoints) devices in
          let done : (send_step p message s).progress ≡ next q m.code (advanced m.code q.toggle) =
          (λ j. record {
            sent = cond (succeeded (verdict (code j) q.tally.counts)) (q.sent + length pk) q.sent;
            tally = tallied p.limit q.tally (code j);
            toggle = toggle j;
          }) in
          let after = after_reply q e alive h.at (reply q.toggle pk e alive fate (next_real b.fates)) in
          let mine : get_or (send_step p message s).bus.devices.endpoints i nowhere ≡ m.endpoint = ap (λ l. get_or l i nowhere) ends ∙ get_or-set_same es i m.endpoint nowhere lt in
          record {
            unsent = out_empty p.address p.endpoint q.toggle pk b low high h.unsent short;
            many = ap length ends ∙ length-set es i m.endpoint ∙ h.many;
            here = ap (place (p.address % 128) p.endpoint directions.Out) ends ∙ place_set (p.address % 128) p.endpoint directions.Out es i m.endpoint lt (after.stays_put (p.address % 128) p.endpoint directions.Out) ∙ h.here;
            others = λ k ne. ap (λ l. get_or l k nowhere) ends ∙ get_or-set_other es i k m.endpoint nowhere ne ∙ h.others k ne;
            at = subst (λ x. Spot x.sent x.tally.counts.missed x.toggle (get_or (send_step p message s).bus.devices.endpoints i nowhere)) (sym done) (subst (λ x. Spot (next q m.code (advanced m.code q.toggle)).sent (next q m.code (advanced m.code q.toggle)).tally.counts.missed (advanced m.code q.toggle) x) (sym mine) after.now_at);
            live = ⊎_elim (λ x. inl (ap (λ y. y.halted) mine ∙ x)) (λ x. inr (ap (λ y. y.tally.stop) done ∙ x)) after.now_live;
          }
