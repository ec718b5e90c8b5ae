-- An open keeps what is sound. Assumes nothing.
use Rattle.std.proofs.Common.{◌≡◌, ℕ, ◌<◌, true, cond, ◌&&◌, ◌∷◌, length, set, Some, None, Option, sym, refl, ap, ◌∙◌, subst, arith}
use Rattle.std.proofs.lemmas.List.{length-set, get_or-set_same, get_or-set_other}
use Rattle.std.proofs.lemmas.Bool.{eq-eqb}
use Rattle.port.specs.declared.directions.Direction.{Direction}
use Rattle.pipes.specs.declared.pipes.Pipe.{Pipe}
use Rattle.pipes.specs.declared.refusals.Refusal.{Refusal}
use Rattle.pipes.specs.Answers.{answered}
use Rattle.pipes.specs.Checks.{open_refusal}
use Rattle.pipes.specs.Tables.{pipe_at, new_pipe}
use Rattle.host.specs.Opening.{Requesting, clear_run}
use Rattle.host.specs.Sending.{none_yet}
use Rattle.host.specs.Calls.{done, opened, open_by}
use Rattle.host.specs.Effects.{Requested}
use Rattle.host.proofs.Admits.{Openable, open_passed, none_leads}
use Rattle.host.proofs.Requests.{requests_clear_one_endpoint}
use Rattle.service.specs.Asks.{open_pipe, answers}
use Rattle.service.specs.Serving.{State, state, Step, stepped}
use Rattle.service.specs.Histories.{History, event}
use Rattle.service.specs.Words.{renews}
use Rattle.service.proofs.Recalls.{lead_new}
use Rattle.service.proofs.Sounds.{lead_to, PipeSound, Sound}
use Rattle.service.proofs.Keeps.{moved_sound, label_same, slips_stay}
use Rattle.service.proofs.Declines.{not_zero, inert_failed, declined_sound}
use Rattle.service.proofs.Renewals.{renewed_label, renewed_sound}

module _ (s : State) (past : History) (sound : Sound s past) (n a e : ℕ) (d : Direction) (size limit : ℕ) where
  abbrev Good : Step → Type 0
  Good x = Sound x.state (event (open_pipe n a e d size limit) x.reply x.state ∷ past)

  module _ (ok : Openable s.places n a e d size limit) (r : Requesting) (h : Requested a e d s.bus r) (tries last : ℕ) where
    -- the request stopped, or went through
    ended : (stop : Option Refusal) → (stop ≡ None → none_yet r.clearing.tally.stop ≡ true) → Good (stepped (done (answered stop 0 0 tries last) (opened s.places s.bus n (new_pipe a e d size limit) stop) r.bus))
    ended (Some why) went =
        let s' = state s.places r.bus in
        let ev = event (open_pipe n a e d size limit) (answers (answered (Some why) 0 0 tries last)) s' in
        moved_sound s past sound ev s'
        (record {
          address = a;
          number = e;
          direction = d;
          touched = h.touched;
          alone = λ j q ne there. none_leads a e d s.places ok.alone j q there;
          same_places = λ j ne. refl;
          long = refl;
          mine = λ q there. let f = ok.free in cc;
          mine_apart = λ j q q' ne there _. let f = ok.free in cc;
          slips = slips_stay a e d s.bus r.bus h.touched past ev (λ x y. refl) h.same_taken sound.slips;
          label = label_same n ev past (inert_failed n ev past (not_zero why) refl) (sound.labels n);
        })
    ended None went =
        let p = new_pipe a e d size limit in
        let s' = state (set s.places n (Some p)) r.bus in
        let ev = event (open_pipe n a e d size limit) (answers (answered None 0 0 tries last)) s' in
        let within : n < length s.places = omega (arith, ok.number_most, sound.wide) in
        let here = get_or-set_same s.places n (Some p) None within in
        let own = eq-eqb n n refl in
        let renewed : renews n ev ≡ true = ap (λ t. t && true) own in
        let led = lead_new n ev past (lead_to p) (ap (λ t. cond (t && true) (Some (lead_to p)) None) own) in
        let mine = renewed_sound n ev past renewed p ok.made refl led h.touched.quiet (h.cleared (went refl)) in
        let is : (q : Pipe) → pipe_at s'.places n ≡ Some q → p ≡ q = (λ q there. cc) in
        moved_sound s past sound ev s'
        (record {
          address = a;
          number = e;
          direction = d;
          touched = h.touched;
          alone = λ j q ne there. none_leads a e d s.places ok.alone j q there;
          same_places = λ j ne. get_or-set_other s.places n j (Some p) None ne;
          long = length-set s.places n (Some p);
          mine = λ q there. subst (λ x. PipeSound n x r.bus (ev ∷ past)) (is q there) mine;
          mine_apart = λ j q q' ne there other. let same = is q there in λ x y z. none_leads a e d s.places ok.alone j q' other (x ∙ sym (ap (λ k. k.address) same)) (y ∙ sym (ap (λ k. k.endpoint) same)) (z ∙ sym (ap (λ k. k.direction) same));
          slips = slips_stay a e d s.bus r.bus h.touched past ev (λ x y. refl) h.same_taken sound.slips;
          label = renewed_label n ev past renewed;
        })

  pub open_sound : (r : Option Refusal) → open_refusal s.places n a e d size limit ≡ r → Good (stepped (open_by s.places s.bus n a e d size limit r))
  open_sound (Some why) is = declined_sound s past sound (event (open_pipe n a e d size limit) _ s) why refl (λ x y. refl)
  open_sound None is =
      let ok = open_passed s.places n a e d size limit is in
      let q = clear_run a e d limit s.bus in
      ended ok q (requests_clear_one_endpoint a e d limit s.bus ok.made.address_most ok.made.endpoint_above ok.made.endpoint_most ok.made.limit_above sound.quiet) q.clearing.tally.tries q.clearing.tally.last q.clearing.tally.stop (λ none. ap none_yet none)
