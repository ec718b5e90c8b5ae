-- A send keeps what is sound: its device has taken the first bytes of the message, and no other device anything. Assumes nothing.
use Rattle.std.proofs.Common.{◌≡◌, ℕ, ◌+◌, ◌<◌, ◌≤◌, true, cond, ◌&&◌, eqb, ◌⊎◌, List, [], ◌∷◌, ◌++◌, length, get_or, take, Some, None, Ok, Err, Result, sym, refl, ap, ◌∙◌, subst, ⊎_elim, arith}
use Rattle.std.proofs.lemmas.List.{get_or-set_same}
use Rattle.std.proofs.lemmas.Bool.{eq-eqb, eqb-true, and_parts, cases_eq, cases_Bool}
use Rattle.port.specs.declared.directions.Direction.TheVariants.{Out}
use Rattle.port.specs.Directions.{facing}
use Rattle.port.specs.Endpoints.{nowhere, place}
use Rattle.pipes.specs.declared.pipes.Pipe.{Pipe}
use Rattle.pipes.specs.declared.pipes.Standing.TheVariants.{InStep}
use Rattle.pipes.specs.declared.refusals.Refusal.{Refusal}
use Rattle.pipes.specs.Checks.{admit_send}
use Rattle.pipes.specs.Tables.{pipe_at}
use Rattle.host.specs.Sending.{send_run}
use Rattle.host.specs.Calls.{Done, sent_pipe, send_by, send_done}
use Rattle.host.specs.Laws.{spot, device, IsInStep}
use Rattle.host.specs.Effects.{endpoint_at, Touched}
use Rattle.host.proofs.Admits.{send_admits}
use Rattle.host.proofs.Accounted.{sends_are_accounted_for, sends_keep_step}
use Rattle.host.proofs.Sent.{answers_stay_within}
use Rattle.host.proofs.Touches.{sends_touch_one_endpoint}
use Rattle.host.proofs.Places.{place_finds, place_of}
use Rattle.service.specs.Asks.{send_message, answers}
use Rattle.service.specs.Serving.{State, state, Step, stepped}
use Rattle.service.specs.Histories.{Event, History, event}
use Rattle.service.specs.Words.{lead_of, Message, goes_to, messages_to}
use Rattle.service.specs.Laws.{Took, more, SlipsAreTrue}
use Rattle.service.proofs.Recalls.{Inert, lead_same, messages_more}
use Rattle.service.proofs.Sounds.{lead_to, Sound}
use Rattle.service.proofs.Keeps.{moved_sound, label_same}
use Rattle.service.proofs.Declines.{send_declined_sound}
use Rattle.service.proofs.Changes.{not_both, made_still, changed_moved}

module _ (s : State) (past : History) (sound : Sound s past) (n : ℕ) (message : List ℕ) where
  abbrev Good : Step → Type 0
  Good x = Sound x.state (event (send_message n message) x.reply x.state ∷ past)

  module _ (p : Pipe) (admitted : admit_send s.places n (length message) ≡ Ok p) where
    abbrev after : Done
    after = send_by s.places s.bus n message (Ok p)

    same_done : send_done s.places s.bus n message ≡ after
    same_done = ap (send_by s.places s.bus n message) admitted

    abbrev ev : Event
    ev = event (send_message n message) (answers after.answer) (state after.places after.bus)

    abbrev msg : Message
    msg = record { bytes = message; answer = after.answer }

    -- the message went to the endpoint of the pipe
    module _ (faces : p.direction ≡ Out) (led : lead_of n past ≡ Some (lead_to p)) (x y : ℕ) where
      goes : goes_to x y (lead_of n past) ≡ (eqb p.address x && (eqb p.endpoint y && facing p.direction Out))
      goes = ap (goes_to x y) led

      went : p.address ≡ x → p.endpoint ≡ y → messages_to x y (ev ∷ past) ≡ msg ∷ messages_to x y past
      went a e =
          let yes : goes_to x y (lead_of n past) ≡ true = goes ∙ (let a' = eq-eqb p.address x a in let e' = eq-eqb p.endpoint y e in λ i. a' i && (e' i && facing (faces i) Out)) in
          messages_more x y ev past ∙ ap (λ t. cond t (msg ∷ []) [] ++ messages_to x y past) yes

      went_not : (p.address ≡ x → p.endpoint ≡ y → ⊥) → messages_to x y (ev ∷ past) ≡ messages_to x y past
      went_not other =
          ⊎_elim
          (λ t.
          let parts = and_parts (eqb p.address x) (eqb p.endpoint y && facing p.direction Out) (sym goes ∙ t) in
          absurd (other (eqb-true p.address x parts.0) (eqb-true p.endpoint y (and_parts (eqb p.endpoint y) (facing p.direction Out) parts.1).0)))
          (λ f. messages_more x y ev past ∙ ap (λ t. cond t (msg ∷ []) [] ++ messages_to x y past) f)
          (cases_Bool (goes_to x y (lead_of n past)))

    module _ (faces : p.direction ≡ Out) (led : lead_of n past ≡ Some (lead_to p)) (step : IsInStep p s.bus) (t : Touched p.address p.endpoint Out s.bus after.bus) where
      -- how many bytes of the message its device took
      Taken : Done → Type 0
      Taken d =
          (k : ℕ)
          × ((k ≡ d.answer.sent) ⊎ (k ≡ d.answer.sent + d.answer.doubtful))
          × ((get_or d.bus.devices.endpoints (spot p s.bus) nowhere).taken ≡ (device p s.bus).taken ++ take k message)
          × (k ≤ length message)

      taken : Taken after
      unfolding Taken
      taken =
          let (k, which, bytes, others) = sends_are_accounted_for s.places s.bus n message p admitted step in
          let most = answers_stay_within s.places s.bus n message in
          let all : Taken (send_done s.places s.bus n message) = (k, which, bytes, ⊎_elim (λ w. omega arith) (λ w. omega arith) which) in
          subst Taken same_done all

      slips : SlipsAreTrue (ev ∷ past) after.bus
      unfolding Taken
      slips k within out =
          let b = s.bus in
          let b' = after.bus in
          let name = t.same_names k in
          let inside : k < length b.devices.endpoints = omega (arith, t.as_many) in
          let outward = sym name.same_direction ∙ out in
          let before = sound.slips k inside outward in
          ⊎_elim
          (λ here.
          let (c, which, bytes, most) = taken in
          let found = place_finds p.address p.endpoint Out b.devices.endpoints step.there in
          let x = (endpoint_at b k).address in
          let y = (endpoint_at b k).number in
          let a : p.address ≡ x = sym found.0 ∙ ap (λ i. (endpoint_at b i).address) (sym here) in
          let e : p.endpoint ≡ y = sym found.1 ∙ ap (λ i. (endpoint_at b i).number) (sym here) in
          let now_took : (endpoint_at b' k).taken ≡ (endpoint_at b k).taken ++ take c message = ap (λ i. (endpoint_at b' i).taken) here ∙ bytes ∙ sym (ap (λ i. (endpoint_at b i).taken ++ take c message) here) in
          let took : Took (msg ∷ messages_to x y past) ((endpoint_at b k).taken ++ take c message) = more msg c which most before in
          let ms : messages_to (endpoint_at b' k).address (endpoint_at b' k).number (ev ∷ past) ≡ msg ∷ messages_to x y past =
          (λ i. messages_to (name.same_address i) (name.same_number i) (ev ∷ past)) ∙ went faces led x y a e in
          subst (λ l. Took l (endpoint_at b' k).taken) (sym ms) (subst (Took (msg ∷ messages_to x y past)) (sym now_took) took))
          (λ elsewhere.
          let x = (endpoint_at b k).address in
          let y = (endpoint_at b k).number in
          let other : p.address ≡ x → p.endpoint ≡ y → ⊥ =
          (λ a e.
          elsewhere
          (sym (place_of b.devices.endpoints k inside sound.distinct)
          ∙ (λ i. place (sym a i) (sym e i) (outward i) b.devices.endpoints))) in
          let same : (endpoint_at b' k).taken ≡ (endpoint_at b k).taken = ap (λ z. z.taken) (t.others k elsewhere) in
          let ms : messages_to (endpoint_at b' k).address (endpoint_at b' k).number (ev ∷ past) ≡ messages_to x y past =
          (λ i. messages_to (name.same_address i) (name.same_number i) (ev ∷ past)) ∙ went_not faces led x y other in
          subst (λ l. Took l (endpoint_at b' k).taken) (sym ms) (subst (Took (messages_to x y past)) (sym same) before))
          (cases_eq k (spot p b))

  pub send_sound : (r : Result Pipe Refusal) → admit_send s.places n (length message) ≡ r → Good (stepped (send_by s.places s.bus n message r))
  send_sound (Err why) is = send_declined_sound s past sound (event (send_message n message) _ s) n message why refl refl
  send_sound (Ok p) is =
      let at = send_admits s.places n (length message) p is in
      let mine = sound.pipes n p at.is_there in
      let step = mine.out_step at.faces at.in_step in
      let t = sends_touch_one_endpoint p message s.bus step sound.quiet in
      let q = (send_run p message s.bus).progress in
      let p' = sent_pipe s.places s.bus n p message q in
      let e = ev p is in
      let inert : Inert n e past = record { unopened = refl; unrenewed = refl; unhanded = refl } in
      let within : n < length s.places = omega (arith, at.number_most, sound.wide) in
      let stored = get_or-set_same s.places n (Some p') None within in
      let keeps : p'.standing ≡ InStep → IsInStep p' (after p is).bus =
      (λ st.
      subst (λ d. pipe_at d.places n ≡ Some p' → IsInStep p' d.bus) (same_done p is)
      (λ there. sends_keep_step s.places s.bus n message p p' within is step there st) stored) in
      moved_sound s past sound e (state (after p is).places (after p is).bus)
      (changed_moved s past sound n p at.number_most at.is_there p'.toggle p'.standing (after p is).bus e Out at.faces t
      (record {
        made = made_still s past sound n p at.number_most at.is_there p'.toggle p'.standing (after p is).bus;
        led = lead_same n e past refl ∙ mine.led;
        out_step = λ _ st. keeps st;
        in_there = λ inward _. absurd (not_both (sym at.faces ∙ inward));
        in_level = λ inward _. absurd (not_both (sym at.faces ∙ inward));
      })
      (slips p is at.faces mine.led step t)
      (label_same n e past inert (sound.labels n)))
