-- A pipe that was just brought in step, by open or recover, is sound. Assumes nothing.
use Rattle.std.proofs.Common.{◌≡◌, ℕ, true, ◌∷◌, ◌++◌, Some, sym, refl, ap, ◌∙◌, subst, inl}
use Rattle.port.specs.declared.directions.Direction.{Direction}
use Rattle.port.specs.declared.directions.Direction.TheVariants.{Out, In}
use Rattle.port.specs.declared.toggles.Toggle.TheVariants.{Data0}
use Rattle.pipes.specs.declared.pipes.Pipe.{Pipe}
use Rattle.host.specs.Laws.{Made}
use Rattle.host.specs.Effects.{endpoint_at, place_on, Quiet, Cleared, Level}
use Rattle.service.specs.Histories.{Event, History}
use Rattle.service.specs.Words.{lead_of, renews, waited_since, waiting_there}
use Rattle.service.proofs.Recalls.{handed_none, waited_new}
use Rattle.service.proofs.Sounds.{lead_to, source, PipeSound}
use Rattle.service.proofs.Keeps.{Label}

module _ (n : ℕ) (e : Event) (past : History) (renewed : renews n e ≡ true) where
  -- nothing was handed over since
  pub renewed_label : Label n (e ∷ past)
  renewed_label = (waited_since n (e ∷ past), sym (ap (λ l. l ++ waited_since n (e ∷ past)) (handed_none n e past renewed)))

  pub renewed_sound : (p : Pipe) → Made p → p.toggle ≡ Data0 → lead_of n (e ∷ past) ≡ Some (lead_to p) → Quiet e.bus → Cleared p.address p.endpoint p.direction e.bus → PipeSound n p e.bus (e ∷ past)
  renewed_sound p made zero led quiet clear =
      let b = e.bus in
      let cleared_as : (d : Direction) → p.direction ≡ d → Cleared p.address p.endpoint d b = (λ d is. subst (λ x. Cleared p.address p.endpoint x b) is clear) in
      record {
        made = made;
        led = led;
        out_step = λ out _.
            let c = cleared_as Out out in
            record { made = made; there = c.there; live = c.live; agrees = c.zero ∙ sym zero; unsent = quiet.no_sending };
        in_there = λ inward _. (cleared_as In inward).there;
        in_level = λ inward _.
            let c = cleared_as In inward in
            let w : waited_since n (e ∷ past) ≡ (endpoint_at b (source p b)).waiting =
            waited_new n e past renewed ∙ ap (λ l. waiting_there l b) led ∙ ap (λ d. (endpoint_at b (place_on p.address p.endpoint d b)).waiting) inward in
            subst (λ l. Level (waited_since n (e ∷ past)) l p.toggle (endpoint_at b (source p b))) (sym (handed_none n e past renewed))
            (record { rest = waited_since n (e ∷ past); front = refl; at = inl (c.zero ∙ sym zero, sym w) });
      }
