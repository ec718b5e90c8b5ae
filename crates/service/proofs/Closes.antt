-- A close keeps what is sound. Assumes nothing.
use Rattle.std.proofs.Common.{◌≡◌, ℕ, ◌<◌, ◌∷◌, length, set, None, Ok, Err, Result, sym, refl, arith}
use Rattle.std.proofs.lemmas.List.{length-set, get_or-set_same, get_or-set_other}
use Rattle.pipes.specs.declared.pipes.Pipe.{Pipe}
use Rattle.pipes.specs.declared.refusals.Refusal.{Refusal}
use Rattle.pipes.specs.Answers.{answered}
use Rattle.pipes.specs.Checks.{present}
use Rattle.host.specs.Calls.{close_by}
use Rattle.host.proofs.Admits.{present_at}
use Rattle.service.specs.Asks.{close_pipe, answers}
use Rattle.service.specs.Serving.{State, state, Step, stepped}
use Rattle.service.specs.Histories.{History, event}
use Rattle.service.proofs.Recalls.{Inert}
use Rattle.service.proofs.Sounds.{Sound}
use Rattle.service.proofs.Frames.{untouched}
use Rattle.service.proofs.Keeps.{moved_sound, label_same}
use Rattle.service.proofs.Declines.{declined_sound, quiet_slips}

module _ (s : State) (past : History) (sound : Sound s past) (n : ℕ) where
  abbrev Good : Step → Type 0
  Good x = Sound x.state (event (close_pipe n) x.reply x.state ∷ past)

  pub close_sound : (r : Result Pipe Refusal) → present s.places n ≡ r → Good (stepped (close_by s.places s.bus n r))
  close_sound (Err why) is = declined_sound s past sound (event (close_pipe n) _ s) why refl (λ x y. refl)
  close_sound (Ok p) is =
      let at = present_at s.places n p is in
      let s' = state (set s.places n None) s.bus in
      let e = event (close_pipe n) (answers (answered None 0 0 0 0)) s' in
      let inert : Inert n e past = record { unopened = refl; unrenewed = refl; unhanded = refl } in
      let within : n < length s.places = omega (arith, at.0, sound.wide) in
      let gone = get_or-set_same s.places n None None within in
      moved_sound s past sound e s'
      (record {
        address = p.address;
        number = p.endpoint;
        direction = p.direction;
        touched = untouched p.address p.endpoint p.direction s.bus sound.quiet;
        alone = λ j q ne there. sound.apart n j p q (λ x. ne (sym x)) at.1 there;
        same_places = λ j ne. get_or-set_other s.places n j None None ne;
        long = length-set s.places n None;
        mine = λ q there. cc;
        mine_apart = λ j q r ne there _. cc;
        slips = quiet_slips s past sound e (λ x y. refl);
        label = label_same n e past inert (sound.labels n);
      })
