-- A fetch comes to an end by itself within its budget. Assumes nothing.
use Rattle.std.proofs.Common.{◌≡◌, ℕ, ◌+◌, ◌-◌, ◌*◌, ◌<◌, ◌≤◌, true, false, eqb, List, length, refl, ap, arith}
use Rattle.std.proofs.lemmas.Grind.{common_steps}
use Rattle.std.proofs.lemmas.Bool.{ltb-false, false≢true}
use Rattle.port.specs.declared.toggles.Toggle.{Toggle}
use Rattle.port.specs.Bus.{Bus}
use Rattle.attempt.specs.declared.tries.Arrival.{Arrival}
use Rattle.attempt.specs.Tries.{in_answer}
use Rattle.host.specs.declared.fetching.Intake.{Intake}
use Rattle.pipes.specs.declared.counting.Counts.{Counts}
use Rattle.pipes.specs.Counting.{verdict, succeeded, stop_of}
use Rattle.host.specs.Sending.{none_yet}
use Rattle.host.specs.Fetching.{Fetching, fetching, bytes_in, in_judged, fetch_start, next_room, fetch_step, fetch_going, fetch_budget, fetch_run}
use Rattle.host.proofs.Budgets.{at_least}
use Rattle.host.proofs.Arrivals.{Brings, nothing, bytes, too_long, brings}
use Rattle.pipes.proofs.Judging.{Bounds}
use Rattle.host.proofs.KeptBuffers.{KeptIn, step_kept}
use Rattle.host.proofs.Runs.{run_ends}
use Rattle.host.proofs.Tallying.{counts_kept}

-- result 0 succeeds, and no other
pub succeeds_at : (code : ℕ) (c : Counts) → succeeded (verdict code c) ≡ eqb code 0
succeeds_at code c = grind (arith, common_steps)

module _ (address endpoint size limit : ℕ) (before : List ℕ) (some_size : 1 ≤ size) (some_limit : 1 ≤ limit) where
  -- what every state of a fetch keeps
  pub record Within (s : Fetching) : Type 0 where
    pub bounds : Bounds limit s.intake.tally.counts
    pub kept : KeptIn address endpoint size limit before s

  start_within : (toggle : Toggle) (b : Bus) → Within (fetching (fetch_start limit toggle) before b)
  start_within toggle b = grind (arith, common_steps)

  step_within : (s : Fetching) → Within s → fetch_going address endpoint size limit s ≡ true → Within (fetch_step address endpoint size limit s)
  step_within s h g =
      let q = s.intake in
      let room = next_room address endpoint size limit q s.buffer in
      record {
        bounds = counts_kept limit some_limit (in_answer address endpoint q.toggle room s.bus).0 q.tally h.bounds;
        kept = step_kept address endpoint size limit before s h.kept;
      }

  -- what a state that goes on says of itself
  pub record Goes (s : Fetching) : Type 0 where
    pub unstopped : none_yet s.intake.tally.stop ≡ true
    pub unended : s.intake.ended ≡ false
    pub more : s.intake.received < length s.buffer

  pub goes : (s : Fetching) → fetch_going address endpoint size limit s ≡ true → Goes s
  goes s g = grind (arith, common_steps)

  left : Intake → ℕ
  left q = (length before - q.received) * (limit + 3) + q.tally.counts.misses + q.tally.counts.naks - (limit + 3)

  some_left : (s : Fetching) → Within s → fetch_going address endpoint size limit s ≡ true → 0 < left s.intake
  unfolding left
  some_left s h g =
      let lt = (goes s g).more in
      let l = h.kept.long in
      let x : 1 ≤ length before - s.intake.received = omega arith in
      let y = at_least (length before - s.intake.received) (limit + 3) x in
      omega (arith, h.bounds.some_misses)

  module _ (q : Intake) (code bit : ℕ) (room : List ℕ) (h : Bounds limit q.tally.counts) (lt : q.received < length before) where
    -- a try that brought nothing and did not stop the fetch leaves a chance less
    no_bytes : eqb code 0 ≡ false → (came : Arrival) → bytes_in came ≡ 0 → none_yet (stop_of (verdict code q.tally.counts)) ≡ true → left (in_judged size limit q code bit came) < left q
    unfolding left
    no_bytes f came none on = grind (arith, common_steps)

    -- a packet of full size brings the end nearer
    some_bytes : eqb code 0 ≡ true → (came : Arrival) → 1 ≤ bytes_in came → left (in_judged size limit q code bit came) < left q
    unfolding left
    some_bytes t came some = grind (arith, common_steps)

    falls_by : {x : Arrival} {y : List ℕ} → Brings room (eqb code 0) x y → none_yet (in_judged size limit q code bit x).tally.stop ≡ true → (in_judged size limit q code bit x).ended ≡ false → left (in_judged size limit q code bit x) < left q
    falls_by {x} (nothing f) on full = no_bytes f x refl on
    falls_by {x} (bytes t bs fits) on full = some_bytes t x (let le = ltb-false (length bs) size full in omega arith)
    falls_by (too_long t) on full = absurd (false≢true on)

  falls : (s : Fetching) → Within s → fetch_going address endpoint size limit s ≡ true → fetch_going address endpoint size limit (fetch_step address endpoint size limit s) ≡ true → left (fetch_step address endpoint size limit s).intake < left s.intake
  falls s h g g' =
      let q = s.intake in
      let room = next_room address endpoint size limit q s.buffer in
      let reply = in_answer address endpoint q.toggle room s.bus in
      let now = goes s g in
      let then = goes (fetch_step address endpoint size limit s) g' in
      let l = h.kept.long in
      falls_by q reply.0 reply.1 room h.bounds (omega (arith, now.more)) (brings address endpoint q.toggle room s.bus) then.unstopped then.unended

  pub run_over : (toggle : Toggle) (b : Bus) → fetch_going address endpoint size limit (fetch_run address endpoint size limit toggle before b) ≡ false
  unfolding left
  run_over toggle b =
      run_ends (fetch_going address endpoint size limit) (fetch_step address endpoint size limit) Within (λ s. left s.intake) step_within some_left falls (fetch_budget address endpoint size limit (length before)) (fetching (fetch_start limit toggle) before b) (start_within toggle b)
      (λ g. let e : (length before - 0) * (limit + 3) ≡ length before * (limit + 3) = ap (λ n. n * (limit + 3)) (let z : length before - 0 ≡ length before = omega arith in z) in omega arith)
