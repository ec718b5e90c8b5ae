-- A call over a pipe that is there changes its state in the table and leaves where it leads. Assumes nothing.
use Rattle.std.proofs.Common.{◌≡◌, ℕ, ◌<◌, ◌≤◌, ◌∷◌, length, set, Some, None, sym, ap, ◌∙◌, subst, arith}
use Rattle.std.proofs.lemmas.Grind.{common_steps}
use Rattle.std.proofs.lemmas.List.{length-set, get_or-set_same, get_or-set_other}
use Rattle.port.specs.declared.directions.Direction.{Direction}
use Rattle.port.specs.declared.directions.Direction.TheVariants.{Out, In}
use Rattle.port.specs.declared.toggles.Toggle.{Toggle}
use Rattle.port.specs.Bus.{Bus}
use Rattle.pipes.specs.declared.pipes.Pipe.{Pipe}
use Rattle.pipes.specs.declared.pipes.Standing.{Standing}
use Rattle.pipes.specs.Tables.{pipe_at}
use Rattle.pipes.specs.Tables.{with_state}
use Rattle.host.specs.Laws.{Made}
use Rattle.host.specs.Effects.{Touched}
use Rattle.service.specs.Serving.{State, state}
use Rattle.service.specs.Histories.{Event, History}
use Rattle.service.specs.Laws.{SlipsAreTrue}
use Rattle.service.proofs.Sounds.{PipeSound, Sound}
use Rattle.service.proofs.Keeps.{Moved, Label}

-- no pipe faces both ways
pub not_both : Out ≡ In → ⊥
not_both h = cc

made_same : (p : Pipe) (t : Toggle) (st : Standing) → Made p → Made (with_state p t st)
made_same p t st m = grind (arith, common_steps)

module _ (s : State) (past : History) (sound : Sound s past) (n : ℕ) (p : Pipe) (small : n ≤ 7) (there : pipe_at s.places n ≡ Some p) (t : Toggle) (st : Standing) (b' : Bus) where
  abbrev pub changed : State
  changed = state (set s.places n (Some (with_state p t st))) b'

  pub made_still : Made (with_state p t st)
  made_still = made_same p t st (sound.pipes n p there).made

  pub changed_moved : (e : Event) (d : Direction) → p.direction ≡ d → Touched p.address p.endpoint d s.bus b' → PipeSound n (with_state p t st) b' (e ∷ past) → SlipsAreTrue (e ∷ past) b' → Label n (e ∷ past) → Moved s past n e changed
  changed_moved e d faces touched mine slips label =
      let p' = with_state p t st in
      let within : n < length s.places = omega (arith, sound.wide) in
      let here = get_or-set_same s.places n (Some p') None within in
      let is : (q : Pipe) → pipe_at changed.places n ≡ Some q → p' ≡ q = (λ q at. cc) in
      record {
        address = p.address;
        number = p.endpoint;
        direction = d;
        touched = touched;
        alone = λ j q ne at. let away = sound.apart n j p q (λ x. ne (sym x)) there at in λ x y z. away x y (z ∙ sym faces);
        same_places = λ j ne. get_or-set_other s.places n j (Some p') None ne;
        long = length-set s.places n (Some p');
        mine = λ q at. subst (λ x. PipeSound n x b' (e ∷ past)) (is q at) mine;
        mine_apart = λ j q q' ne at other.
            let same = is q at in
            let away = sound.apart n j p q' (λ x. ne (sym x)) there other in
            λ x y z. away (x ∙ sym (ap (λ k. k.address) same)) (y ∙ sym (ap (λ k. k.endpoint) same)) (z ∙ sym (ap (λ k. k.direction) same));
        slips = slips;
        label = label;
      }
