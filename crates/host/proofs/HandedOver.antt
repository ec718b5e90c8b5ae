-- A fetch hands over the next packets that wait: what its run keeps, and what its answer says of it. Assumes nothing.
use Rattle.std.proofs.Common.{◌≡◌, ℕ, suc, ◌*◌, ◌/◌, ◌%◌, ◌<◌, ◌≤◌, Bool, true, false, cond, List, ◌++◌, length, get_or, take, drop, Ok, Err, Option, Result, sym, refl, ap, ◌∙◌, subst, ⊎_elim, mul-le-mul_right, suc-mul, arith}
use Rattle.std.proofs.lemmas.Grind.{common_steps}
use Rattle.std.proofs.lemmas.List.{length-take, length-drop}
use Rattle.std.proofs.lemmas.Bool.{cases_lt}
use Rattle.port.specs.declared.directions.Direction.TheVariants.{In}
use Rattle.port.specs.declared.toggles.Toggle.{Toggle}
use Rattle.port.specs.Endpoints.{Endpoint, nowhere, place}
use Rattle.port.specs.Reactions.{first}
use Rattle.pipes.specs.declared.pipes.Pipe.{Pipe}
use Rattle.pipes.specs.declared.pipes.Standing.TheVariants.{InStep}
use Rattle.pipes.specs.declared.refusals.Refusal.{Refusal}
use Rattle.pipes.specs.Answers.{number_of}
use Rattle.pipes.specs.Standings.{next_standing}
use Rattle.pipes.specs.Checks.{fetchable}
use Rattle.host.specs.Sending.{none_yet}
use Rattle.host.specs.Fetching.{Fetching, fetching, fetch_start, written, fetch_step, fetch_going, fetch_budget, fetch_run, fetch_answer, fetch_event}
use Rattle.host.specs.Handing.{handed_over}
use Rattle.host.specs.Effects.{Level, place_on, FetchesHandOverTheNextPackets}
use Rattle.host.proofs.FetchBudgets.{goes, run_over}
use Rattle.host.proofs.FetchHeld.{Held, made, reply_is, code_is, toggle_is, arrival_is, room_is, endpoint_is, step_held, all_same, same_self}
use Rattle.host.proofs.InTry.{room_after}
use Rattle.host.proofs.KeptBuffers.{KeptIn, step_kept, start_kept}
use Rattle.host.proofs.Levels.{Flows, over, next, after_reply}
use Rattle.host.proofs.Packets.{came_in}
use Rattle.host.proofs.Runs.{run_keeps}

-- a fetch that nothing has stopped leaves its pipe in step
unstopped_in_step : (o : Option Refusal) → none_yet o ≡ true → next_standing InStep (fetch_event (number_of o)) ≡ InStep
unstopped_in_step o h = grind (arith, common_steps)

-- behind full packets a buffer for full packets has room for one more, or is full
room_full : (size m k r : ℕ) (buffer : List ℕ) → r ≡ k * size → length buffer ≡ m * size → r < length buffer → length (take size (drop r buffer)) ≡ size
room_full size m k r buffer e l lt =
    let a = length-take size (drop r buffer) in
    let b = length-drop r buffer in
    ⊎_elim
    (λ less. let s = suc-mul k size in let le : suc k * size ≤ m * size = mul-le-mul_right size less in omega arith)
    (λ more. let le : m * size ≤ k * size = mul-le-mul_right size more in absurd (omega arith))
    (cases_lt k m)

-- a check that was passed
passed : (p : Pipe) (t : Bool) (why : Refusal) (r : Result Pipe Refusal) → cond t (Err why) r ≡ Ok p → (t ≡ false) × (r ≡ Ok p)
passed p t why r h = grind (arith, common_steps)

whole_buffer : (p : Pipe) (long : ℕ) → fetchable long p ≡ Ok p → long ≡ long / p.size * p.size
whole_buffer p long h = grind (arith, common_steps)

module _ (address endpoint size limit : ℕ) (low : 1 ≤ endpoint) (high : endpoint ≤ 15) (some_size : 1 ≤ size) (some_limit : 1 ≤ limit) (before : List ℕ) (m : ℕ) (long : length before ≡ m * size) (es₀ : List Endpoint) (i : ℕ) (within : i < length es₀) (waited handed : List (List ℕ)) where
  -- what every state of a fetch keeps
  record Keeps (s : Fetching) : Type 0 where
    pub kept : KeptIn address endpoint size limit before s
    pub held : Held address endpoint size limit low high es₀ i within s
    pub flows : Flows size limit waited handed s.intake s.buffer (get_or s.bus.devices.endpoints i nowhere)

  step_keeps : (s : Fetching) → Keeps s → fetch_going address endpoint size limit s ≡ true → Keeps (fetch_step address endpoint size limit s)
  step_keeps s h g =
      let q = s.intake in
      let e = get_or s.bus.devices.endpoints i nowhere in
      let s' = fetch_step address endpoint size limit s in
      let going = goes address endpoint size limit before some_size some_limit s g in
      let whole = h.flows.whole going.unended in
      let k = whole.0 in
      let l = h.kept.long ∙ long in
      let full = room_full size m k q.received s.buffer whole.1 l going.more in
      let level : Level waited (handed ++ came_in size q.received false s.buffer) q.toggle e =
      subst (λ z. Level waited (handed ++ came_in size q.received z s.buffer) q.toggle e) going.unended (h.flows.level (unstopped_in_step q.tally.stop going.unstopped)) in
      let met = made address endpoint size limit low high es₀ i within s h.held in
      let after = after_reply size limit waited handed some_size q s.buffer k whole.1 h.kept.within full e level (reply_is address endpoint size limit low high es₀ i within s h.held) in
      let code = code_is address endpoint size limit low high es₀ i within s h.held in
      let toggle = toggle_is address endpoint size limit low high es₀ i within s h.held in
      let arrival = arrival_is address endpoint size limit low high es₀ i within s h.held in
      let room = room_is address endpoint size limit low high es₀ i within s h.held in
      let buffer' = written q.received (room_after met.code (first e.waiting) (take size (drop q.received s.buffer))) s.buffer in
      let mine = endpoint_is address endpoint size limit low high es₀ i within s h.held in
      record {
        kept = step_kept address endpoint size limit before s h.kept;
        held = step_held address endpoint size limit low high es₀ i within s h.held;
        flows =
            subst (λ x. Flows size limit waited handed s'.intake s'.buffer x) (sym mine)
            (subst (λ x. Flows size limit waited handed s'.intake x met.endpoint) (sym (λ j. written q.received (room j) s.buffer))
            (subst (λ x. Flows size limit waited handed x buffer' met.endpoint) (sym (λ j. next size limit waited handed q (code j) (toggle j) (arrival j))) after));
      }

  handed_is : (s : Fetching) → Keeps s → fetch_going address endpoint size limit s ≡ false → handed_over size (fetch_answer s.intake) s.buffer ≡ came_in size s.intake.received s.intake.ended s.buffer
  unfolding handed_over
  handed_is s h over = grind (arith, common_steps)

  start_flows : (toggle : Toggle) (e : Endpoint) → Level waited handed toggle e → Flows size limit waited handed (fetch_start limit toggle) before e
  start_flows toggle e level = grind (arith, common_steps)

pub fetches_hand_over : FetchesHandOverTheNextPackets
fetches_hand_over p buffer b waited handed admitted made quiet there level =
    let es = b.devices.endpoints in
    let i = place_on p.address p.endpoint In b in
    let m = length buffer / p.size in
    let long = whole_buffer p (length buffer) admitted in
    let low = made.endpoint_above in
    let high = made.endpoint_most in
    let size = made.size_above in
    let limit = made.limit_above in
    let s = fetch_run p.address p.endpoint p.size p.limit p.toggle buffer b in
    let plain : p.address % 128 ≡ p.address = omega (arith, made.address_most) in
    let keeps : Keeps p.address p.endpoint p.size p.limit low high size limit buffer m long es i there waited handed s =
    run_keeps (fetch_going p.address p.endpoint p.size p.limit) (fetch_step p.address p.endpoint p.size p.limit) (Keeps p.address p.endpoint p.size p.limit low high size limit buffer m long es i there waited handed)
    (step_keeps p.address p.endpoint p.size p.limit low high size limit buffer m long es i there waited handed)
    (fetch_budget p.address p.endpoint p.size p.limit (length buffer)) (fetching (fetch_start p.limit p.toggle) buffer b)
    (record {
      kept = start_kept p.address p.endpoint p.size p.limit buffer p.toggle b;
      held = record {
        quiet = quiet;
        many = refl;
        here = ap (λ a. place a p.endpoint In es) plain;
        others = λ k ne. refl;
        mine = same_self (get_or es i nowhere);
      };
      flows = start_flows p.address p.endpoint p.size p.limit low high size limit buffer m long es i there waited handed p.toggle (get_or es i nowhere) level;
    }) in
    let done = run_over p.address p.endpoint p.size p.limit buffer size limit p.toggle b in
    let is = handed_is p.address p.endpoint p.size p.limit low high size limit buffer m long es i there waited handed s keeps done in
    let same = all_same p.address p.endpoint p.size p.limit low high es i there s keeps.held in
    record {
      touched = record {
        quiet = keeps.held.quiet;
        as_many = keeps.held.many;
        same_names = λ k. (same k).name;
        others = keeps.held.others;
      };
      same_taken = λ k. (same k).taken;
      front = subst (λ l. (later : List (List ℕ)) × (waited ≡ (handed ++ l) ++ later)) (sym is) keeps.flows.front;
      level = λ stands. subst (λ l. Level waited (handed ++ l) s.intake.toggle (get_or s.bus.devices.endpoints i nowhere)) (sym is) (keeps.flows.level stands);
    }
