-- A call at one endpoint leaves pipes that lead elsewhere as they were, in step or level with their devices. Assumes nothing.
use Rattle.std.proofs.Common.{◌≡◌, ℕ, ◌<◌, ◌∷◌, length, sym, ap, ◌∙◌, subst, arith}
use Rattle.std.proofs.lemmas.Grind.{common_steps}
use Rattle.port.specs.declared.directions.Direction.{Direction}
use Rattle.port.specs.declared.directions.Direction.TheVariants.{Out, In}
use Rattle.port.specs.Bus.{Bus}
use Rattle.pipes.specs.declared.pipes.Pipe.{Pipe}
use Rattle.host.specs.Laws.{IsInStep}
use Rattle.host.specs.Effects.{endpoint_at, place_on, Quiet, Touched, Level}
use Rattle.host.proofs.Places.{place_same, place_finds}
use Rattle.service.specs.Histories.{Event, History}
use Rattle.service.specs.Words.{handed_since, waited_since}
use Rattle.service.proofs.Recalls.{Inert, lead_same, handed_same, waited_same}
use Rattle.service.proofs.Sounds.{source, PipeSound, Away, Distinct}

-- nothing changed at all
pub untouched : (a n : ℕ) (d : Direction) (b : Bus) → Quiet b → Touched a n d b b
untouched a n d b q = grind (arith, common_steps)

module _ (a n : ℕ) (d : Direction) (b b' : Bus) (t : Touched a n d b b') where
  -- places stay
  pub place_stays : (x y : ℕ) (z : Direction) → place_on x y z b' ≡ place_on x y z b
  place_stays x y z = place_same x y z b.devices.endpoints b'.devices.endpoints t.as_many t.same_names

  -- an endpoint of another name stays
  pub others_stay : (x y : ℕ) (z : Direction) → place_on x y z b < length b.devices.endpoints → (x ≡ a → y ≡ n → z ≡ d → ⊥) → endpoint_at b' (place_on x y z b) ≡ endpoint_at b (place_on x y z b)
  others_stay x y z within away =
      t.others (place_on x y z b)
      (λ same.
      let here = place_finds x y z b.devices.endpoints within in
      let there = place_finds a n d b.devices.endpoints (subst (λ k. k < length b.devices.endpoints) same within) in
      let e = ap (endpoint_at b) same in
      away
      (sym here.0 ∙ ap (λ x. x.address) e ∙ there.0)
      (sym here.1 ∙ ap (λ x. x.number) e ∙ there.1)
      (sym here.2 ∙ ap (λ x. x.direction) e ∙ there.2))

  pub distinct_stays : Distinct b.devices.endpoints → Distinct b'.devices.endpoints
  distinct_stays h i j lt within = grind (arith, common_steps)

  -- an OUT pipe that leads elsewhere stays in step with its device
  step_stays : (p : Pipe) → (p.address ≡ a → p.endpoint ≡ n → Out ≡ d → ⊥) → IsInStep p b → IsInStep p b'
  step_stays p away step =
      let i = place_stays p.address p.endpoint Out in
      let e = ap (endpoint_at b') i ∙ others_stay p.address p.endpoint Out step.there away in
      record {
        made = step.made;
        there = subst (λ k. k < length b'.devices.endpoints) (sym i) (omega (arith, t.as_many, step.there));
        live = ap (λ x. x.halted) e ∙ step.live;
        agrees = ap (λ x. x.toggle) e ∙ step.agrees;
        unsent = t.quiet.no_sending;
      }

  -- the place of an IN pipe's endpoint, and the endpoint
  there_stays : (p : Pipe) → source p b < length b.devices.endpoints → source p b' < length b'.devices.endpoints
  there_stays p h = let i = place_stays p.address p.endpoint In in omega (arith, t.as_many)

  source_stays : (p : Pipe) → (p.address ≡ a → p.endpoint ≡ n → In ≡ d → ⊥) → source p b < length b.devices.endpoints → endpoint_at b' (source p b') ≡ endpoint_at b (source p b)
  source_stays p away h = ap (endpoint_at b') (place_stays p.address p.endpoint In) ∙ others_stay p.address p.endpoint In h away

  pub pipe_stays : (m : ℕ) (p : Pipe) (e : Event) (past : History) → Away a n d p → Inert m e past → PipeSound m p b past → PipeSound m p b' (e ∷ past)
  pipe_stays m p e past away inert sound =
      let h = handed_same m e past inert.unrenewed inert.unhanded in
      let w = waited_same m e past inert.unrenewed in
      record {
        made = sound.made;
        led = lead_same m e past inert.unopened ∙ sound.led;
        out_step = λ out step. step_stays p (λ x y z. away x y (out ∙ z)) (sound.out_step out step);
        in_there = λ inward step. there_stays p (sound.in_there inward step);
        in_level = λ inward step.
            let same = source_stays p (λ x y z. away x y (inward ∙ z)) (sound.in_there inward step) in
            subst (λ x. Level x (handed_since m (e ∷ past)) p.toggle (endpoint_at b' (source p b'))) (sym w)
            (subst (λ x. Level (waited_since m past) x p.toggle (endpoint_at b' (source p b'))) (sym h)
            (subst (Level (waited_since m past) (handed_since m past) p.toggle) (sym same) (sound.in_level inward step)));
      }

-- a pipe where nothing changed
pub pipe_same : (m : ℕ) (p : Pipe) (b : Bus) (e : Event) (past : History) → Inert m e past → PipeSound m p b past → PipeSound m p b (e ∷ past)
pipe_same m p b e past inert sound =
    let h = handed_same m e past inert.unrenewed inert.unhanded in
    let w = waited_same m e past inert.unrenewed in
    record {
      made = sound.made;
      led = lead_same m e past inert.unopened ∙ sound.led;
      out_step = sound.out_step;
      in_there = sound.in_there;
      in_level = λ inward step.
          subst (λ x. Level x (handed_since m (e ∷ past)) p.toggle (endpoint_at b (source p b))) (sym w)
          (subst (λ x. Level (waited_since m past) x p.toggle (endpoint_at b (source p b))) (sym h) (sound.in_level inward step));
    }
