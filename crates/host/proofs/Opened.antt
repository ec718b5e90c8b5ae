-- A clear request that succeeds brings the endpoint to DATA0, not halted. Assumes nothing.
use Rattle.std.proofs.lemmas.Grind.{common_steps}
use Rattle.std.proofs.Common.{◌≡◌, ℕ, ◌+◌, ◌-◌, ◌*◌, ◌%◌, ◌<◌, ◌≤◌, true, false, cond, not, eqb, ltb, List, [], length, get_or, set, Some, sym, refl, ap, ◌∙◌, subst, ⊎_elim, arith}
use Rattle.std.proofs.lemmas.List.{length-set, get_or-set_same, set_past}
use Rattle.std.proofs.lemmas.Bool.{cases_lt, and_parts, and_cases, ltb-true, false≢true}
use Rattle.port.specs.declared.directions.Direction.{Direction}
use Rattle.port.specs.declared.fates.Fate.{Fate}
use Rattle.port.specs.declared.setups.Heard.{Heard}
use Rattle.port.specs.declared.toggles.Toggle.TheVariants.{Data0}
use Rattle.port.specs.Fates.{Real}
use Rattle.port.specs.Endpoints.{nowhere, cleared, place}
use Rattle.port.specs.Devices.{Devices, with_heard, cleared_at, clear_place, after_setup, heard_good}
use Rattle.port.specs.Reactions.{at_address, setup_outcome, hs_outcome}
use Rattle.port.specs.Bus.{Bus, next_fate}
use Rattle.port.proofs.Codes.{next_real}
use Rattle.attempt.specs.Tries.{stage_answer, after_stage}
use Rattle.pipes.specs.declared.counting.Counts.{Counts}
use Rattle.host.specs.declared.tallies.Tally.{Tally}
use Rattle.host.specs.declared.opening.Stage.{Stage}
use Rattle.host.specs.declared.opening.Stage.TheVariants.{Setup, Handshake, Done}
use Rattle.pipes.specs.Counting.{fresh_counts, verdict, counted, succeeded, stop_of}
use Rattle.host.specs.Opening.{Requesting, requesting, clear_request, next_stage, is_done, stage_value, stage_bytes, clear_start, clear_step, clear_going, clear_budget, clear_run}
use Rattle.host.specs.Sending.{none_yet}
use Rattle.host.proofs.Tallying.{counts_kept}
use Rattle.host.proofs.Accounts.{place_set}
use Rattle.pipes.proofs.Judging.{Bounds, won, again, stops, judge_cases}
use Rattle.host.proofs.Runs.{run_keeps, run_ends}
use Rattle.host.proofs.StageTry.{setup_staged, hs_staged}
use Rattle.host.proofs.Targets.{finds}

setup_zero : (a : ℕ) (fate : Fate) (d : Devices) (bytes : List ℕ) → Real fate → (setup_outcome a fate d bytes).code ≡ 0 → (setup_outcome a fate d bytes).devices ≡ after_setup a bytes d
unfolding at_address
setup_zero a fate d bytes r = grind (arith, common_steps)

hs_zero : (a : ℕ) (fate : Fate) (d : Devices) → Real fate → (hs_outcome a fate d).code ≡ 0 → heard_good a d.heard ≡ true
unfolding at_address
hs_zero a fate d r = grind (arith, common_steps)

pub hs_kept : (a : ℕ) (fate : Fate) (d : Devices) → (hs_outcome a fate d).devices ≡ d
unfolding at_address
hs_kept a fate d = grind (arith, common_steps)

module _ (a e : ℕ) (way : Direction) (limit : ℕ) (low : 1 ≤ e) (high : e ≤ 15) (some : 1 ≤ limit) where
  abbrev pub spot_in : Devices → ℕ
  spot_in d = place (a % 128) e way d.endpoints

  -- the endpoint is there, with DATA0, and not halted
  pub record There (d : Devices) : Type 0 where
    pub within : spot_in d < length d.endpoints
    pub zero : (get_or d.endpoints (spot_in d) nowhere).toggle ≡ Data0
    pub live : (get_or d.endpoints (spot_in d) nowhere).halted ≡ false

  abbrev pub heard_of : Devices → Heard
  heard_of d = record { address = a % 128; good = ltb (spot_in d) (length d.endpoints) }

  -- what is known when a stage begins
  unfoldable pub Known : Stage → Devices → Type 0
  Known Setup d = Unit {0}
  Known Handshake d = (d.heard ≡ Some (heard_of d)) × (spot_in d < length d.endpoints → There d)
  Known Done d = There d

  heard_known : (d : Devices) → Known Handshake (after_setup (a % 128) (clear_request e way) d)
  unfolding Known after_setup
  heard_known d =
      let es = d.endpoints in
      let i = place (a % 128) e way es in
      let d₁ : Devices = with_heard (cleared_at i d) (record { address = a % 128; good = ltb i (length es) }) in
      let is : with_heard (cleared_at (clear_place (a % 128) (clear_request e way) es) d) (record { address = a % 128; good = ltb (clear_place (a % 128) (clear_request e way) es) (length es) }) ≡ d₁ =
      ap (λ k. with_heard (cleared_at k d) (record { address = a % 128; good = ltb k (length es) })) (finds e low high (a % 128) way es) in
      let n = length-set es i (cleared (get_or es i nowhere)) in
      let stays : spot_in d₁ ≡ i =
      ⊎_elim
      (λ lt. place_set (a % 128) e way es i (cleared (get_or es i nowhere)) lt refl)
      (λ le. ap (place (a % 128) e way) (set_past es i (cleared (get_or es i nowhere)) le))
      (cases_lt i (length es)) in
      subst (λ x. (x.heard ≡ Some (heard_of x)) × (spot_in x < length x.endpoints → There x)) (sym is) (
        (let back = sym stays in let long = sym n in λ j. Some (record { address = a % 128; good = ltb (back j) (long j) })),
        λ lt.
            let inside : i < length es = omega arith in
            let mine = ap (λ k. get_or (set es i (cleared (get_or es i nowhere))) k nowhere) stays ∙ get_or-set_same es i (cleared (get_or es i nowhere)) nowhere inside in
            record { within = lt; zero = ap (λ x. x.toggle) mine; live = ap (λ x. x.halted) mine },
      )

  -- what every state of the request keeps
  pub record Asked (s : Requesting) : Type 0 where
    pub no_setup : s.bus.chip.setup ≡ []
    pub no_sending : s.bus.chip.sending ≡ []
    pub bounds : Bounds limit s.clearing.tally.counts
    pub known : Known s.clearing.stage s.bus.devices

  -- the next stage is known where the try succeeds, and the present one where it does not
  known_after : (code : ℕ) (c : Counts) (stage : Stage) (d d' : Devices) → (code ≡ 0 → Known (next_stage stage) d') → Known stage d' → Known (cond (succeeded (verdict code c)) (next_stage stage) stage) d'
  known_after code c stage d d' up same = grind (arith, common_steps)

  step_at : (stage : Stage) (t : Tally) (b : Bus) → Asked (requesting (record { stage = stage; tally = t }) b) → clear_going a e way limit (requesting (record { stage = stage; tally = t }) b) ≡ true → Asked (clear_step a e way limit (requesting (record { stage = stage; tally = t }) b))
  unfolding Known
  step_at Setup t b h g =
      let bytes = clear_request e way in
      let fate = next_fate b.fates in
      let staged = setup_staged a bytes b h.no_setup refl in
      let code = (stage_answer a 0x10 bytes b).0 in
      record {
        no_setup = staged.no_setup;
        no_sending = staged.no_sending;
        bounds = counts_kept limit some code t h.bounds;
        known =
            known_after code t.counts Setup b.devices (after_stage a 0x10 bytes b).devices
            (λ zero.
            let o : (setup_outcome (a % 128) fate b.devices bytes).code ≡ 0 = sym staged.code ∙ zero in
            subst (Known Handshake) (sym (staged.devices ∙ setup_zero (a % 128) fate b.devices bytes (next_real b.fates) o)) (heard_known b.devices))
            tt;
      }
  step_at Handshake t b h g =
      let fate = next_fate b.fates in
      let d = b.devices in
      let staged = hs_staged a b h.no_setup in
      let code = (stage_answer a 0x80 [] b).0 in
      let same : (after_stage a 0x80 [] b).devices ≡ d = staged.devices ∙ hs_kept (a % 128) fate d in
      record {
        no_setup = staged.no_setup;
        no_sending = staged.no_sending;
        bounds = counts_kept limit some code t h.bounds;
        known =
            known_after code t.counts Handshake d (after_stage a 0x80 [] b).devices
            (λ zero.
            let o : (hs_outcome (a % 128) fate d).code ≡ 0 = sym staged.code ∙ zero in
            let good = sym (ap (heard_good (a % 128)) h.known.0) ∙ hs_zero (a % 128) fate d (next_real b.fates) o in
            let inside = ltb-true (spot_in d) (length d.endpoints) (and_parts (eqb (a % 128) (a % 128)) (ltb (spot_in d) (length d.endpoints)) good).1 in
            subst (Known Done) (sym same) (h.known.1 inside))
            (subst (Known Handshake) (sym same) h.known);
      }
  step_at Done t b h g = absurd (false≢true (and_parts (none_yet t.stop) false g).1)

  step_asked : (s : Requesting) → Asked s → clear_going a e way limit s ≡ true → Asked (clear_step a e way limit s)
  step_asked s h g = step_at s.clearing.stage s.clearing.tally s.bus h g

  -- how many stages are left
  rank : Stage → ℕ
  rank Setup = 2
  rank Handshake = 1
  rank Done = 0

  left : Requesting → ℕ
  left s = rank s.clearing.stage * (limit + 3) + s.clearing.tally.counts.misses + s.clearing.tally.counts.naks - (limit + 3)

  some_at : (stage : Stage) (c : Counts) → Bounds limit c → not (is_done stage) ≡ true → 0 < rank stage * (limit + 3) + c.misses + c.naks - (limit + 3)
  unfolding rank
  some_at stage c h g = grind (arith, common_steps)

  some_left : (s : Requesting) → Asked s → clear_going a e way limit s ≡ true → 0 < left s
  unfolding left
  some_left s h g = some_at s.clearing.stage s.clearing.tally.counts h.bounds (and_parts (none_yet s.clearing.tally.stop) (not (is_done s.clearing.stage)) g).1

  on_won : (stage : Stage) (c : Counts) → Bounds limit c → not (is_done stage) ≡ true → rank (next_stage stage) * (limit + 3) + 3 + limit - (limit + 3) < rank stage * (limit + 3) + c.misses + c.naks - (limit + 3)
  unfolding rank
  on_won stage c h g = grind (arith, common_steps)

  on_again : (stage : Stage) (c c' : Counts) → Bounds limit c → c'.misses + c'.naks + 1 ≡ c.misses + c.naks → Bounds limit c' → not (is_done stage) ≡ true → rank stage * (limit + 3) + c'.misses + c'.naks - (limit + 3) < rank stage * (limit + 3) + c.misses + c.naks - (limit + 3)
  unfolding rank
  on_again stage c c' h g k l = grind (arith, common_steps)

  -- the measure after a try, where the request goes on
  falls_at : (stage : Stage) (code : ℕ) (c : Counts) → Bounds limit c → not (is_done stage) ≡ true → none_yet (stop_of (verdict code c)) ≡ true → rank (cond (succeeded (verdict code c)) (next_stage stage) stage) * (limit + 3) + (cond (succeeded (verdict code c)) (fresh_counts limit) (counted code c)).misses + (cond (succeeded (verdict code c)) (fresh_counts limit) (counted code c)).naks - (limit + 3) < rank stage * (limit + 3) + c.misses + c.naks - (limit + 3)
  falls_at stage code c h g none =
      elim (judge_cases limit code c h) [
        | won v n ↦ subst (λ x. rank (cond (succeeded x) (next_stage stage) stage) * (limit + 3) + (cond (succeeded x) (fresh_counts limit) (counted code c)).misses + (cond (succeeded x) (fresh_counts limit) (counted code c)).naks - (limit + 3) < rank stage * (limit + 3) + c.misses + c.naks - (limit + 3)) (sym v) (on_won stage c h g)
        | again v n k ↦ subst (λ x. rank (cond (succeeded x) (next_stage stage) stage) * (limit + 3) + (cond (succeeded x) (fresh_counts limit) (counted code c)).misses + (cond (succeeded x) (fresh_counts limit) (counted code c)).naks - (limit + 3) < rank stage * (limit + 3) + c.misses + c.naks - (limit + 3)) (sym v) (on_again stage c (counted code c) h n k g)
        | stops why v k ↦ absurd (false≢true (sym (ap (λ x. none_yet (stop_of x)) v) ∙ none))
      ]

  falls : (s : Requesting) → Asked s → clear_going a e way limit s ≡ true → clear_going a e way limit (clear_step a e way limit s) ≡ true → left (clear_step a e way limit s) < left s
  unfolding left
  falls s h g g' =
      falls_at s.clearing.stage (stage_answer a (stage_value s.clearing.stage) (stage_bytes s.clearing.stage (clear_request e way)) s.bus).0 s.clearing.tally.counts h.bounds
      (and_parts (none_yet s.clearing.tally.stop) (not (is_done s.clearing.stage)) g).1
      (and_parts (none_yet (clear_step a e way limit s).clearing.tally.stop) (not (is_done (clear_step a e way limit s).clearing.stage)) g').0

  module _ (b : Bus) (no_setup : b.chip.setup ≡ []) (no_sending : b.chip.sending ≡ []) where
    begin : Asked (requesting (clear_start limit) b)
    unfolding Known
    begin = grind (arith, common_steps)

    pub run_asked : Asked (clear_run a e way limit b)
    run_asked = run_keeps (clear_going a e way limit) (clear_step a e way limit) Asked step_asked (clear_budget a e way limit) (requesting (clear_start limit) b) begin

    run_over : clear_going a e way limit (clear_run a e way limit b) ≡ false
    unfolding left rank
    run_over =
        run_ends (clear_going a e way limit) (clear_step a e way limit) Asked left step_asked some_left falls (clear_budget a e way limit) (requesting (clear_start limit) b) begin
        (λ g. omega arith)

    done_known : (stage : Stage) (d : Devices) → Known stage d → not (is_done stage) ≡ false → There d
    unfolding Known
    done_known stage d h g = grind (arith, common_steps)

    -- a request that was not stopped has cleared the endpoint
    pub run_there : none_yet (clear_run a e way limit b).clearing.tally.stop ≡ true → There (clear_run a e way limit b).bus.devices
    run_there none =
        let q = (clear_run a e way limit b).clearing in
        ⊎_elim
        (λ f. absurd (false≢true (sym f ∙ none)))
        (λ f. done_known q.stage (clear_run a e way limit b).bus.devices run_asked.known f)
        (and_cases (none_yet q.tally.stop) (not (is_done q.stage)) run_over)
