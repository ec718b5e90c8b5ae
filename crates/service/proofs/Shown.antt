-- The three laws, from what is sound. Assumes nothing.
use Rattle.std.proofs.Common.{◌≡◌, ℕ, ◌<◌, List, [], ◌∷◌, ◌++◌, length, Ok, Err, Result, refl, ap, subst, ⊎_elim, arith}
use Rattle.std.proofs.lemmas.Grind.{common_steps}
use Rattle.port.specs.declared.directions.Direction.{Direction}
use Rattle.port.specs.declared.directions.Direction.TheVariants.{In}
use Rattle.port.specs.declared.toggles.Toggle.{Toggle}
use Rattle.port.specs.Toggles.{flip}
use Rattle.port.specs.Bus.{Bus}
use Rattle.pipes.specs.declared.pipes.Pipe.{Pipe}
use Rattle.pipes.specs.declared.pipes.Standing.TheVariants.{InStep}
use Rattle.pipes.specs.declared.refusals.Refusal.{Refusal}
use Rattle.pipes.specs.Answers.{looked_at}
use Rattle.pipes.specs.Checks.{present}
use Rattle.host.specs.Calls.{look_by}
use Rattle.host.specs.Effects.{place_on, Level}
use Rattle.host.proofs.Admits.{present_at}
use Rattle.service.specs.Asks.{Ask, Reply}
use Rattle.service.specs.Serving.{State}
use Rattle.service.specs.Histories.{History, event}
use Rattle.service.specs.Words.{Lead, handed_since, waited_since, device_of}
use Rattle.service.specs.Laws.{ToggleBeside, IsInStepWith, LawsAfter}
use Rattle.service.proofs.Sounds.{lead_to, PipeSound, Sound}

-- the toggle of an IN pipe that is level with its device
module _ (n : ℕ) (l : Lead) (past : History) (b : Bus) (t : Toggle) (level : Level (waited_since n past) (handed_since n past) t (device_of l b)) where
  abbrev handed : List (List ℕ)
  handed = handed_since n past

  abbrev waited : List (List ℕ)
  waited = waited_since n past

  -- the device has gone on
  gone : ((device_of l b).toggle ≡ t) → ((device_of l b).waiting ≡ level.rest) → ToggleBeside In n l past b t
  gone same left = grind (arith, common_steps)

  -- the device still holds the last packet
  held : (before : List (List ℕ)) (last : List ℕ) → handed ≡ before ++ last ∷ [] → ((device_of l b).toggle ≡ flip t) → ((device_of l b).waiting ≡ last ∷ level.rest) → ToggleBeside In n l past b t
  held before last is other left = grind (arith, common_steps)

  pub level_beside : ToggleBeside In n l past b t
  level_beside = ⊎_elim (λ x. gone x.0 x.1) (λ x. held x.0 x.1 x.2 x.3 x.4) level.at

module _ (s : State) (past : History) (sound : Sound s past) where
  -- by the direction of the pipe
  pipe_beside : (n : ℕ) (p : Pipe) → PipeSound n p s.bus past → p.standing ≡ InStep → (d : Direction) → p.direction ≡ d → (place_on p.address p.endpoint d s.bus < length s.bus.devices.endpoints) × ToggleBeside d n (record { address = p.address; endpoint = p.endpoint; direction = d; size = p.size }) past s.bus p.toggle
  pipe_beside n p h g d k = grind (arith, common_steps)

  -- what look shows in step
  in_step : (ask : Ask) (reply : Reply) (n : ℕ) (shown : Toggle) (r : Result Pipe Refusal) → present s.places n ≡ r → look_by r ≡ Ok (looked_at InStep shown) → IsInStepWith n shown (event ask reply s) past
  in_step ask reply n shown (Err why) is look = cc
  in_step ask reply n shown (Ok p) is look =
      let at = present_at s.places n p is in
      let h = sound.pipes n p at.1 in
      let same : looked_at p.standing p.toggle ≡ looked_at InStep shown = cc in
      let standing = ap (λ l. l.standing) same in
      let toggle = ap (λ l. l.toggle) same in
      let x = pipe_beside n p h standing p.direction refl in
      record {
        lead = lead_to p;
        leads = h.led;
        there = x.0;
        beside = subst (ToggleBeside p.direction n (lead_to p) past s.bus) toggle x.1;
      }

  pub laws_hold : (ask : Ask) (reply : Reply) → LawsAfter (event ask reply s) past
  laws_hold ask reply =
      record {
        slips = sound.slips;
        labels = sound.labels;
        toggles = λ n shown look. in_step ask reply n shown (present s.places n) refl look;
      }
