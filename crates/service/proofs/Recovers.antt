-- A recover keeps what is sound. Assumes nothing.
use Rattle.std.proofs.Common.{◌≡◌, ℕ, ◌≤◌, true, ◌&&◌, ◌∷◌, set, Some, None, Ok, Err, Option, Result, refl, ap, ◌∙◌}
use Rattle.std.proofs.lemmas.Bool.{eq-eqb}
use Rattle.port.specs.declared.toggles.Toggle.TheVariants.{Data0}
use Rattle.pipes.specs.declared.pipes.Pipe.{Pipe}
use Rattle.pipes.specs.declared.pipes.Standing.TheVariants.{InStep, Doubtful}
use Rattle.pipes.specs.declared.refusals.Refusal.{Refusal}
use Rattle.pipes.specs.Answers.{answered}
use Rattle.pipes.specs.Checks.{admit_recover}
use Rattle.pipes.specs.Tables.{pipe_at}
use Rattle.host.specs.Opening.{Requesting, clear_run}
use Rattle.host.specs.Sending.{none_yet}
use Rattle.host.specs.Calls.{done, recovered, recover_by}
use Rattle.pipes.specs.Tables.{with_state}
use Rattle.host.specs.Effects.{Requested}
use Rattle.host.proofs.Admits.{recover_admits}
use Rattle.host.proofs.Requests.{requests_clear_one_endpoint}
use Rattle.service.specs.Asks.{recover_pipe, answers}
use Rattle.service.specs.Serving.{State, state, Step, stepped}
use Rattle.service.specs.Histories.{History, event}
use Rattle.service.specs.Words.{renews}
use Rattle.service.proofs.Recalls.{lead_same}
use Rattle.service.proofs.Sounds.{Sound}
use Rattle.service.proofs.Keeps.{moved_sound, label_same, slips_stay}
use Rattle.service.proofs.Declines.{not_zero, inert_failed, declined_sound}
use Rattle.service.proofs.Renewals.{renewed_label, renewed_sound}
use Rattle.service.proofs.Changes.{made_still, changed_moved}

not_doubtful : Doubtful ≡ InStep → ⊥
not_doubtful h = cc

module _ (s : State) (past : History) (sound : Sound s past) (n : ℕ) where
  abbrev Good : Step → Type 0
  Good x = Sound x.state (event (recover_pipe n) x.reply x.state ∷ past)

  module _ (p : Pipe) (small : n ≤ 7) (there : pipe_at s.places n ≡ Some p) (r : Requesting) (h : Requested p.address p.endpoint p.direction s.bus r) (tries last : ℕ) where
    ended : (stop : Option Refusal) → (stop ≡ None → none_yet r.clearing.tally.stop ≡ true) → Good (stepped (done (answered stop 0 0 tries last) (set s.places n (Some (recovered s.places s.bus n p stop))) r.bus))
    ended (Some why) went =
        let s' = state (set s.places n (Some (with_state p p.toggle Doubtful))) r.bus in
        let e = event (recover_pipe n) (answers (answered (Some why) 0 0 tries last)) s' in
        let inert = inert_failed n e past (not_zero why) refl in
        moved_sound s past sound e s'
        (changed_moved s past sound n p small there p.toggle Doubtful r.bus e p.direction refl h.touched
        (record {
          made = made_still s past sound n p small there p.toggle Doubtful r.bus;
          led = lead_same n e past inert.unopened ∙ (sound.pipes n p there).led;
          out_step = λ _ step. absurd (not_doubtful step);
          in_there = λ _ step. absurd (not_doubtful step);
          in_level = λ _ step. absurd (not_doubtful step);
        })
        (slips_stay p.address p.endpoint p.direction s.bus r.bus h.touched past e (λ x y. refl) h.same_taken sound.slips)
        (label_same n e past inert (sound.labels n)))
    ended None went =
        let s' = state (set s.places n (Some (with_state p Data0 InStep))) r.bus in
        let e = event (recover_pipe n) (answers (answered None 0 0 tries last)) s' in
        let renewed : renews n e ≡ true = ap (λ t. t && true) (eq-eqb n n refl) in
        let led = lead_same n e past refl ∙ (sound.pipes n p there).led in
        moved_sound s past sound e s'
        (changed_moved s past sound n p small there Data0 InStep r.bus e p.direction refl h.touched
        (renewed_sound n e past renewed (with_state p Data0 InStep) (made_still s past sound n p small there Data0 InStep r.bus) refl led h.touched.quiet (h.cleared (went refl)))
        (slips_stay p.address p.endpoint p.direction s.bus r.bus h.touched past e (λ x y. refl) h.same_taken sound.slips)
        (renewed_label n e past renewed))

  pub recover_sound : (r : Result Pipe Refusal) → admit_recover s.places n ≡ r → Good (stepped (recover_by s.places s.bus n r))
  recover_sound (Err why) is = declined_sound s past sound (event (recover_pipe n) _ s) why refl (λ x y. refl)
  recover_sound (Ok p) is =
      let at = recover_admits s.places n p is in
      let made = (sound.pipes n p at.1).made in
      let q = clear_run p.address p.endpoint p.direction p.limit s.bus in
      ended p at.0 at.1 q (requests_clear_one_endpoint p.address p.endpoint p.direction p.limit s.bus made.address_most made.endpoint_above made.endpoint_most made.limit_above sound.quiet) q.clearing.tally.tries q.clearing.tally.last q.clearing.tally.stop (λ none. ap none_yet none)
