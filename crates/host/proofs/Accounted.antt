-- The promises of a send, from what its run keeps. Assumes nothing.
use Rattle.std.proofs.Common.{◌≡◌, ℕ, ◌+◌, ◌%◌, ◌<◌, ◌≤◌, min, true, false, ◌≢◌, ◌⊎◌, List, ◌++◌, length, get_or, take, drop, Some, None, Option, sym, refl, ap, ◌∙◌, subst, inl, inr, ⊎_elim, append-nil, arith}
use Rattle.std.proofs.lemmas.Grind.{common_steps}
use Rattle.std.proofs.lemmas.List.{length-take, length-drop, get_or-set_same}
use Rattle.std.proofs.lemmas.Bool.{cases_Bool, false≢true}
use Rattle.port.specs.declared.directions.Direction.TheVariants as directions
use Rattle.port.specs.Endpoints.{nowhere, place}
use Rattle.port.specs.Bus.{Bus}
use Rattle.pipes.specs.declared.pipes.Pipe.{Pipe}
use Rattle.pipes.specs.declared.pipes.Standing.{Standing}
use Rattle.pipes.specs.declared.pipes.Standing.TheVariants.{InStep}
use Rattle.pipes.specs.declared.refusals.Refusal.{Refusal}
use Rattle.pipes.specs.declared.refusals.Refusal.TheVariants.{NakLimit, Stalled}
use Rattle.host.specs.declared.sending.Progress.{Progress}
use Rattle.pipes.specs.Answers.{number_of}
use Rattle.pipes.specs.Standings.{next_standing}
use Rattle.pipes.specs.Tables.{Places}
use Rattle.host.specs.Calls.{Done, send_by, send_done, sent_pipe}
use Rattle.host.specs.Sending.{Sending, sending, none_yet, send_start, send_packet, send_step, send_going, send_budget, send_run, doubt, send_event}
use Rattle.host.specs.Laws.{spot, device, IsInStep, SendsAreAccountedFor, BusyPrintersStayInStep, SendsKeepStep}
use Rattle.host.proofs.Accounts.{Held, step_held}
use Rattle.host.proofs.Budgets.{packet_some}
use Rattle.host.proofs.Runs.{run_keeps}
use Rattle.host.proofs.Sent.{all_sent, succeeded as unstopped}

module _ (p : Pipe) (message : List ℕ) (b : Bus) where
  Short : Sending → Type 0
  Short s = none_yet s.progress.tally.stop ≡ false → s.progress.sent < length message

  step_short : (s : Sending) → Short s → send_going p message s ≡ true → Short (send_step p message s)
  unfolding Short
  step_short s h g = grind (arith, common_steps)

  run_short : none_yet (send_run p message b).progress.tally.stop ≡ false → (send_run p message b).progress.sent < length message
  unfolding Short
  run_short = run_keeps (send_going p message) (send_step p message) Short step_short (send_budget p message) (sending (send_start p) b) (λ e. absurd (false≢true (sym e)))

  module _ (step : IsInStep p b) where
    mod_address : p.address % 128 ≡ p.address
    mod_address = omega (arith, step.made.address_most)

    pub run_held : Held p message (device p b).taken b.devices.endpoints (spot p b) step.there (send_run p message b)
    run_held =
        run_keeps (send_going p message) (send_step p message) (Held p message (device p b).taken b.devices.endpoints (spot p b) step.there)
        (λ s h g. step_held p message (device p b).taken b.devices.endpoints (spot p b) step.there step.made.endpoint_above step.made.endpoint_most s h g)
        (send_budget p message) (sending (send_start p) b)
        (record {
          unsent = step.unsent;
          many = refl;
          here = ap (λ a. place a p.endpoint directions.Out b.devices.endpoints) mod_address;
          others = λ k ne. refl;
          at = inl (step.agrees, sym (append-nil (device p b).taken));
          live = inl step.live;
        })

-- the doubt of a send that stopped after a miss
doubt_stopped : (p : Pipe) (message : List ℕ) (q : Progress) → none_yet q.tally.stop ≡ false → q.tally.counts.missed ≡ true → doubt p message q ≡ length (send_packet p message q)
doubt_stopped p message q stopped missed = grind (arith, common_steps)

pub sends_are_accounted_for : SendsAreAccountedFor
sends_are_accounted_for places b number message p admitted step =
    let q = (send_run p message b).progress in
    let held = run_held p message b step in
    let Accounted : Done → Type 0 =
    (λ d.
    (n : ℕ)
    × ((n ≡ d.answer.sent) ⊎ (n ≡ d.answer.sent + d.answer.doubtful))
    × ((get_or d.bus.devices.endpoints (spot p b) nowhere).taken ≡ (device p b).taken ++ take n message)
    × ((k : ℕ) → k ≢ spot p b → get_or d.bus.devices.endpoints k nowhere ≡ get_or b.devices.endpoints k nowhere)) in
    subst Accounted (sym (ap (send_by places b number message) admitted))
    (⊎_elim
    (λ first. (q.sent, inl refl, first.1, held.others))
    (λ second. (
      q.sent + length (send_packet p message q),
      ⊎_elim
          (λ none.
          let all = all_sent p message b step.made none in
          let l = length-take (min p.size 64) (drop q.sent message) in
          let d = length-drop q.sent message in
          inl (omega arith))
          (λ stopped. inr (ap (λ n. q.sent + n) (sym (doubt_stopped p message q stopped second.0))))
          (cases_Bool (none_yet q.tally.stop)),
      second.2,
      held.others,
    ))
    held.at)

-- a miss is forgotten once its packet is sent, so none is left when all is sent
module _ (p : Pipe) (message : List ℕ) (b : Bus) where
  Sure : Sending → Type 0
  Sure s = length message ≤ s.progress.sent → s.progress.tally.counts.missed ≡ false

  step_sure : (s : Sending) → Sure s → send_going p message s ≡ true → Sure (send_step p message s)
  unfolding Sure
  step_sure s h g = grind (arith, common_steps)

  run_sure : length message ≤ (send_run p message b).progress.sent → (send_run p message b).progress.tally.counts.missed ≡ false
  unfolding Sure
  run_sure = run_keeps (send_going p message) (send_step p message) Sure step_sure (send_budget p message) (sending (send_start p) b) (λ le. refl)

  -- the pipe after a send whose device is just behind it, and not halted
  module _ (places : Places) (number : ℕ) (step : IsInStep p b) (agrees : (get_or (send_run p message b).bus.devices.endpoints (spot p b) nowhere).toggle ≡ (send_run p message b).progress.toggle) (alive : (get_or (send_run p message b).bus.devices.endpoints (spot p b) nowhere).halted ≡ false) where
    still_in_step : IsInStep (sent_pipe places b number p message (send_run p message b).progress) (send_run p message b).bus
    still_in_step =
        let b' = (send_run p message b).bus in
        let held = run_held p message b step in
        let same : spot p b' ≡ spot p b = ap (λ a. place a p.endpoint directions.Out b'.devices.endpoints) (sym (mod_address p message b step)) ∙ held.here in
        record {
          made = record {
            address_most = step.made.address_most;
            endpoint_above = step.made.endpoint_above;
            endpoint_most = step.made.endpoint_most;
            size_above = step.made.size_above;
            limit_above = step.made.limit_above;
          };
          there = subst (λ n. n < length b'.devices.endpoints) (sym same) (omega (arith, held.many, step.there));
          live = ap (λ n. (get_or b'.devices.endpoints n nowhere).halted) same ∙ alive;
          agrees = ap (λ n. (get_or b'.devices.endpoints n nowhere).toggle) same ∙ agrees;
          unsent = held.unsent;
        }

-- 14 and 16 are other stops
not_stalled : (o : Option Refusal) → o ≡ Some NakLimit → o ≡ Some Stalled → ⊥
not_stalled o one other = grind (arith, common_steps)

pub busy_printers_stay_in_step : BusyPrintersStayInStep
busy_printers_stay_in_step places b number message p inside admitted step limit sure =
    let e = ap (send_by places b number message) admitted in
    let q = (send_run p message b).progress in
    let b' = (send_run p message b).bus in
    let p' = sent_pipe places b number p message q in
    let held = run_held p message b step in
    let stop : q.tally.stop ≡ Some NakLimit = sym (ap (λ d. d.answer.refusal) e) ∙ limit in
    let none : doubt p message q ≡ 0 = sym (ap (λ d. d.answer.doubtful) e) ∙ sure in
    let stopped : none_yet q.tally.stop ≡ false = ap none_yet stop in
    let some = packet_some p message step.made.size_above step.made.limit_above q (run_short p message b stopped) in
    let clean : ((get_or b'.devices.endpoints (spot p b) nowhere).toggle ≡ q.toggle) × ((get_or b'.devices.endpoints (spot p b) nowhere).taken ≡ (device p b).taken ++ take q.sent message) =
    ⊎_elim (λ first. first) (λ second. let d = doubt_stopped p message q stopped second.0 in absurd (omega arith)) held.at in
    let alive : (get_or b'.devices.endpoints (spot p b) nowhere).halted ≡ false = ⊎_elim (λ x. x) (λ x. absurd (not_stalled q.tally.stop stop x)) held.live in
    let standing : p'.standing ≡ p.standing = (λ j. next_standing p.standing (send_event (number_of (stop j)) (none j))) in (
      p',
      ap (λ d. get_or d.places number None) e ∙ get_or-set_same places number (Some p') None inside,
      subst (IsInStep p') (sym (ap (λ d. d.bus) e)) (still_in_step p message b places number step clean.0 alive),
      standing,
    )

-- what a standing of in step says of the answer
shown : (standing : Standing) (n d : ℕ) → next_standing standing (send_event n d) ≡ InStep → (n ≡ 0) ⊎ ((n ≡ 16 → ⊥) × (d ≡ 0))
shown standing n d h = grind (arith, common_steps)

same_some : (p p' : Pipe) → Some p ≡ Some p' → p ≡ p'
same_some p p' e = cc

pub sends_keep_step : SendsKeepStep
sends_keep_step places b number message p p' inside admitted step found standing =
    let e = ap (send_by places b number message) admitted in
    let q = (send_run p message b).progress in
    let held = run_held p message b step in
    let p'' = sent_pipe places b number p message q in
    let is : p'' ≡ p' = same_some p'' p' (sym (ap (λ d. get_or d.places number None) e ∙ get_or-set_same places number (Some p'') None inside) ∙ found) in
    let told = shown p.standing (number_of q.tally.stop) (doubt p message q) (ap (λ x. x.standing) is ∙ standing) in
    let clean : (get_or (send_run p message b).bus.devices.endpoints (spot p b) nowhere).toggle ≡ q.toggle =
    ⊎_elim (λ first. first.0)
    (λ second.
    ⊎_elim
    (λ none. let all = all_sent p message b step.made none in absurd (false≢true (sym (run_sure p message b (omega arith)) ∙ second.0)))
    (λ stopped.
    let d = doubt_stopped p message q stopped second.0 in
    let some = packet_some p message step.made.size_above step.made.limit_above q (run_short p message b stopped) in
    ⊎_elim (λ zero. absurd (false≢true (sym stopped ∙ unstopped q.tally.stop zero))) (λ sure. absurd (let z = sure.1 in omega arith)) told)
    (cases_Bool (none_yet q.tally.stop)))
    held.at in
    let alive : (get_or (send_run p message b).bus.devices.endpoints (spot p b) nowhere).halted ≡ false =
    ⊎_elim (λ x. x) (λ x. ⊎_elim (λ zero. let z : ◌≡◌ {A = ℕ} 16 0 = sym (ap number_of x) ∙ zero in absurd (omega arith)) (λ sure. absurd (sure.0 (ap number_of x))) told) held.live in
    subst (λ x. IsInStep x (send_done places b number message).bus) is (subst (IsInStep p'') (sym (ap (λ d. d.bus) e)) (still_in_step p message b places number step clean alive))
