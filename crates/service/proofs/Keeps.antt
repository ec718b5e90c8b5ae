-- What is sound stays sound: once for a call that changes one pipe and one endpoint at most, and once for a call that changes nothing.
-- Assumes nothing.
use Rattle.std.proofs.Common.{◌≡◌, ℕ, ◌≢◌, List, [], ◌∷◌, ◌++◌, length, Some, sym, ap, ◌∙◌, subst, ⊎_elim, arith}
use Rattle.std.proofs.lemmas.Grind.{common_steps}
use Rattle.std.proofs.lemmas.Bool.{cases_eq}
use Rattle.port.specs.declared.directions.Direction.{Direction}
use Rattle.port.specs.Bus.{Bus}
use Rattle.pipes.specs.declared.pipes.Pipe.{Pipe}
use Rattle.pipes.specs.Tables.{pipe_at}
use Rattle.host.specs.Effects.{endpoint_at, Touched}
use Rattle.service.specs.Serving.{State}
use Rattle.service.specs.Histories.{Event, History}
use Rattle.service.specs.Words.{message_of, messages_to, handed_since, waited_since}
use Rattle.service.specs.Laws.{Took, SlipsAreTrue, LabelsAreTrue}
use Rattle.service.proofs.Recalls.{Inert, handed_same, waited_same, messages_more, pipe_of, inert_elsewhere}
use Rattle.service.proofs.Sounds.{PipeSound, Away, Sound}
use Rattle.service.proofs.Frames.{distinct_stays, pipe_stays, pipe_same}

-- a pipe's packets so far are the first of those that waited
abbrev pub Label : ℕ → History → Type 0
Label n past = (rest : List (List ℕ)) × (waited_since n past ≡ handed_since n past ++ rest)

pub label_same : (n : ℕ) (e : Event) (past : History) → Inert n e past → Label n past → Label n (e ∷ past)
label_same n e past inert (rest, is) = (rest, waited_same n e past inert.unrenewed ∙ is ∙ sym (ap (λ l. l ++ rest) (handed_same n e past inert.unrenewed inert.unhanded)))

-- what a call about the pipe m does, at the endpoint of one name
pub record Moved (s : State) (past : History) (m : ℕ) (e : Event) (s' : State) : Type 0 where
  pub address : ℕ
  pub number : ℕ
  pub direction : Direction
  pub touched : Touched address number direction s.bus s'.bus
  -- no other pipe leads there
  pub alone : (j : ℕ) (q : Pipe) → j ≢ m → pipe_at s.places j ≡ Some q → Away address number direction q
  -- the other pipes stay in the table
  pub same_places : (j : ℕ) → j ≢ m → pipe_at s'.places j ≡ pipe_at s.places j
  pub long : length s'.places ≡ length s.places
  -- this pipe, if it is there afterwards
  pub mine : (p : Pipe) → pipe_at s'.places m ≡ Some p → PipeSound m p s'.bus (e ∷ past)
  pub mine_apart : (j : ℕ) (p q : Pipe) → j ≢ m → pipe_at s'.places m ≡ Some p → pipe_at s.places j ≡ Some q → Away p.address p.endpoint p.direction q
  pub slips : SlipsAreTrue (e ∷ past) s'.bus
  pub label : Label m (e ∷ past)

module _ (s : State) (past : History) (sound : Sound s past) (e : Event) where
  module _ (s' : State) (h : Moved s past (pipe_of e.ask) e s') where
    abbrev m : ℕ
    m = pipe_of e.ask

    apart' : (i j : ℕ) (p q : Pipe) → i ≢ j → pipe_at s'.places i ≡ Some p → pipe_at s'.places j ≡ Some q → Away p.address p.endpoint p.direction q
    apart' i j p q ne pi qj =
        ⊎_elim
        (λ im.
        let jm : j ≢ m = (λ x. ne (im ∙ sym x)) in
        h.mine_apart j p q jm (subst (λ x. pipe_at s'.places x ≡ Some p) im pi) (sym (h.same_places j jm) ∙ qj))
        (λ im.
        ⊎_elim
        (λ jm. let away = h.mine_apart i q p im (subst (λ x. pipe_at s'.places x ≡ Some q) jm qj) (sym (h.same_places i im) ∙ pi) in λ x y z. away (sym x) (sym y) (sym z))
        (λ jm. sound.apart i j p q ne (sym (h.same_places i im) ∙ pi) (sym (h.same_places j jm) ∙ qj))
        (cases_eq j m))
        (cases_eq i m)

    pipes' : (n : ℕ) (p : Pipe) → pipe_at s'.places n ≡ Some p → PipeSound n p s'.bus (e ∷ past)
    pipes' n p there =
        ⊎_elim
        (λ nm. subst (λ x. PipeSound x p s'.bus (e ∷ past)) (sym nm) (h.mine p (subst (λ x. pipe_at s'.places x ≡ Some p) nm there)))
        (λ nm.
        let was = sym (h.same_places n nm) ∙ there in
        pipe_stays h.address h.number h.direction s.bus s'.bus h.touched n p e past (h.alone n p nm was) (inert_elsewhere n e past nm) (sound.pipes n p was))
        (cases_eq n m)

    labels' : LabelsAreTrue (e ∷ past)
    labels' n =
        ⊎_elim
        (λ nm. subst (λ x. Label x (e ∷ past)) (sym nm) h.label)
        (λ nm. label_same n e past (inert_elsewhere n e past nm) (sound.labels n))
        (cases_eq n m)

    pub moved_sound : Sound s' (e ∷ past)
    moved_sound =
        record {
          quiet = h.touched.quiet;
          wide = omega (arith, h.long, sound.wide);
          distinct = distinct_stays h.address h.number h.direction s.bus s'.bus h.touched sound.distinct;
          apart = apart';
          pipes = pipes';
          slips = h.slips;
          labels = labels';
        }

  -- nothing changed, and the call tells nothing new of any pipe
  pub still_sound : ((n : ℕ) → Inert n e past) → SlipsAreTrue (e ∷ past) s.bus → Sound s (e ∷ past)
  still_sound inert slips =
      record {
        quiet = sound.quiet;
        wide = sound.wide;
        distinct = sound.distinct;
        apart = sound.apart;
        pipes = λ n p there. pipe_same n p s.bus e past (inert n) (sound.pipes n p there);
        slips = slips;
        labels = λ n. label_same n e past (inert n) (sound.labels n);
      }

-- slips after a call that sends nothing and changes no bytes taken
module _ (a n : ℕ) (d : Direction) (b b' : Bus) (t : Touched a n d b b') where
  pub slips_at : (past : History) (e : Event) (k : ℕ) → ((x y : ℕ) → messages_to x y (e ∷ past) ≡ messages_to x y past) → (endpoint_at b' k).taken ≡ (endpoint_at b k).taken → Took (messages_to (endpoint_at b k).address (endpoint_at b k).number past) (endpoint_at b k).taken → Took (messages_to (endpoint_at b' k).address (endpoint_at b' k).number (e ∷ past)) (endpoint_at b' k).taken
  slips_at past e k same taken h = grind (arith, common_steps)

  pub slips_stay : (past : History) (e : Event) → ((x y : ℕ) → message_of x y e.ask e.reply past ≡ []) → ((k : ℕ) → (endpoint_at b' k).taken ≡ (endpoint_at b k).taken) → SlipsAreTrue past b → SlipsAreTrue (e ∷ past) b'
  slips_stay past e none taken h k within out =
      slips_at past e k (λ x y. messages_more x y e past ∙ ap (λ l. l ++ messages_to x y past) (none x y)) (taken k)
      (h k (omega (arith, t.as_many)) (sym (t.same_names k).same_direction ∙ out))
