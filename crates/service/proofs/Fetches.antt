-- A fetch keeps what is sound: what it hands over are the next packets that waited. Assumes nothing.
use Rattle.std.proofs.Common.{◌≡◌, ℕ, cond, List, [], ◌∷◌, ◌++◌, length, set, Some, Ok, Err, Result, sym, refl, ap, ◌∙◌, subst, arith}
use Rattle.std.proofs.lemmas.Bool.{eq-eqb}
use Rattle.port.specs.declared.directions.Direction.TheVariants.{In}
use Rattle.pipes.specs.declared.pipes.Pipe.{Pipe}
use Rattle.pipes.specs.declared.pipes.Standing.TheVariants.{InStep}
use Rattle.pipes.specs.declared.refusals.Refusal.{Refusal}
use Rattle.pipes.specs.Answers.{answer_number}
use Rattle.pipes.specs.Standings.{next_standing}
use Rattle.pipes.specs.Checks.{admit_fetch}
use Rattle.host.specs.Fetching.{fetch_run, fetch_answer, fetch_event}
use Rattle.host.specs.Handing.{handed_over}
use Rattle.host.specs.Calls.{fetched_pipe, fetch_by}
use Rattle.host.specs.Effects.{endpoint_at, Level}
use Rattle.host.proofs.Admits.{fetch_admits}
use Rattle.host.proofs.HandedOver.{fetches_hand_over}
use Rattle.service.specs.Asks.{fetch_into, brings}
use Rattle.service.specs.Serving.{State, state, Step, fetch_stepped}
use Rattle.service.specs.Histories.{History, event}
use Rattle.service.specs.Words.{lead_of, by_size, packets_of, handed_since, waited_since}
use Rattle.service.proofs.Recalls.{lead_same, handed_more, waited_same}
use Rattle.service.proofs.Sounds.{source, Sound}
use Rattle.service.proofs.Frames.{place_stays}
use Rattle.service.proofs.Keeps.{Label, moved_sound, slips_stay}
use Rattle.service.proofs.Declines.{fetch_declined_sound}
use Rattle.service.proofs.Changes.{not_both, made_still, changed_moved}

module _ (s : State) (past : History) (sound : Sound s past) (n : ℕ) (buffer : List ℕ) where
  abbrev Good : Step → Type 0
  Good x = Sound x.state (event (fetch_into n buffer) x.reply x.state ∷ past)

  pub fetch_sound : (r : Result Pipe Refusal) → admit_fetch s.places n (length buffer) ≡ r → Good (fetch_stepped (fetch_by s.places s.bus n buffer r))
  fetch_sound (Err why) is = fetch_declined_sound s past sound (event (fetch_into n buffer) _ s) n buffer buffer why refl refl
  fetch_sound (Ok p) is =
      let ok = fetch_admits s.places n (length buffer) p is in
      let at = ok.admitted in
      let mine = sound.pipes n p at.is_there in
      let b = s.bus in
      let f = fetch_run p.address p.endpoint p.size p.limit p.toggle buffer b in
      let b' = f.bus in
      let a = fetch_answer f.intake in
      let p' = fetched_pipe s.places b n p f.intake in
      let s' = state (set s.places n (Some p')) b' in
      let e = event (fetch_into n buffer) (brings a f.buffer) s' in
      let waited = waited_since n past in
      let handed = handed_since n past in
      let got = handed_over p.size a f.buffer in
      let h = fetches_hand_over p buffer b waited handed ok.fits mine.made sound.quiet (mine.in_there at.faces at.in_step) (mine.in_level at.faces at.in_step) in
      let w : waited_since n (e ∷ past) ≡ waited = waited_same n e past refl in
      let packets : packets_of n (fetch_into n buffer) (brings a f.buffer) (lead_of n past) ≡ got =
      ap (λ t. cond t (by_size (lead_of n past) a f.buffer) []) (eq-eqb n n refl) ∙ ap (λ l. by_size l a f.buffer) mine.led in
      let g : handed_since n (e ∷ past) ≡ handed ++ got = handed_more n e past refl ∙ ap (λ l. handed ++ l) packets in
      let i = place_stays p.address p.endpoint In b b' h.touched p.address p.endpoint In in
      let (rest, front) = h.front in
      let label : Label n (e ∷ past) = (rest, w ∙ front ∙ sym (ap (λ l. l ++ rest) g)) in
      let level : p'.standing ≡ InStep → Level (waited_since n (e ∷ past)) (handed_since n (e ∷ past)) f.intake.toggle (endpoint_at b' (source p b')) =
      (λ st.
      subst (λ x. Level x (handed_since n (e ∷ past)) f.intake.toggle (endpoint_at b' (source p b'))) (sym w)
      (subst (λ x. Level waited x f.intake.toggle (endpoint_at b' (source p b'))) (sym g)
      (subst (λ k. Level waited (handed ++ got) f.intake.toggle (endpoint_at b' k)) (sym i)
      (h.level (sym (ap (λ x. next_standing x (fetch_event (answer_number a))) at.in_step) ∙ st))))) in
      moved_sound s past sound e s'
      (changed_moved s past sound n p at.number_most at.is_there p'.toggle p'.standing b' e In at.faces h.touched
      (record {
        made = made_still s past sound n p at.number_most at.is_there p'.toggle p'.standing b';
        led = lead_same n e past refl ∙ mine.led;
        out_step = λ out _. absurd (not_both (sym out ∙ at.faces));
        in_there = λ _ _. omega (arith, i, h.touched.as_many, mine.in_there at.faces at.in_step);
        in_level = λ _ st. level st;
      })
      (slips_stay p.address p.endpoint In b b' h.touched past e (λ x y. refl) h.same_taken sound.slips)
      label)
