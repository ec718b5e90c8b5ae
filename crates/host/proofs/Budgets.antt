-- A send comes to an end by itself within its budget. Assumes nothing.
use Rattle.std.proofs.Common.{◌≡◌, ℕ, ◌+◌, ◌-◌, ◌*◌, ◌<◌, ◌≤◌, true, false, cond, ltb, List, length, Some, sym, ap, ◌∙◌, arith}
use Rattle.std.proofs.lemmas.Grind.{common_steps}
use Rattle.std.proofs.lemmas.Bool.{and_parts, false≢true}
use Rattle.port.specs.Bus.{Bus}
use Rattle.attempt.specs.Tries.{out_answer}
use Rattle.pipes.specs.declared.pipes.Pipe.{Pipe}
use Rattle.host.specs.declared.sending.Progress.{Progress}
use Rattle.pipes.specs.Counting.{fresh_counts, counted, succeeded, stop_of}
use Rattle.host.specs.Sending.{Sending, sending, none_yet, send_start, send_packet, send_step, send_going, send_budget, send_run}
use Rattle.pipes.proofs.Judging.{Bounds, won, again, stops, judge_cases}
use Rattle.host.proofs.Runs.{run_keeps, run_ends}
use Rattle.host.proofs.Tallying.{fresh_bounds}

pub at_least : (x y : ℕ) → 1 ≤ x → y ≤ x * y
at_least x y h = grind (arith, common_steps)

pub one_less : (x x' y : ℕ) → x' < x → x' * y + y ≤ x * y
one_less x x' y h = grind (arith, common_steps)

module _ (p : Pipe) (message : List ℕ) (size : 1 ≤ p.size) (limit : 1 ≤ p.limit) where
  -- what every state of a send keeps
  pub record Kept (s : Sending) : Type 0 where
    pub bounds : Bounds p.limit s.progress.tally.counts
    pub within : s.progress.sent ≤ length message

  pub start_kept : (b : Bus) → Kept (sending (send_start p) b)
  start_kept b = record { bounds = fresh_bounds p.limit limit; within = omega arith }

  code_of_step : Sending → ℕ
  code_of_step s = (out_answer p.address p.endpoint s.progress.toggle (send_packet p message s.progress) s.bus).0

  pub step_kept : (s : Sending) → Kept s → send_going p message s ≡ true → Kept (send_step p message s)
  unfolding code_of_step
  step_kept s h g = grind (arith, common_steps)

  left : Sending → ℕ
  left s = (length message - s.progress.sent) * (p.limit + 3) + s.progress.tally.counts.misses + s.progress.tally.counts.naks - (p.limit + 3)

  going_sent : (s : Sending) → send_going p message s ≡ true → s.progress.sent < length message
  going_sent s g = grind (arith, common_steps)

  some_left : (s : Sending) → Kept s → send_going p message s ≡ true → 0 < left s
  unfolding left
  some_left s h g =
      let lt = going_sent s g in
      let x : 1 ≤ length message - s.progress.sent = omega arith in
      let y = at_least (length message - s.progress.sent) (p.limit + 3) x in
      omega (arith, h.bounds.some_misses)

  pub packet_some : (q : Progress) → q.sent < length message → 1 ≤ length (send_packet p message q)
  packet_some q lt = grind (arith, common_steps)

  falls : (s : Sending) → Kept s → send_going p message s ≡ true → send_going p message (send_step p message s) ≡ true → left (send_step p message s) < left s
  unfolding left code_of_step
  falls s h g g' =
      let code = code_of_step s in
      let q = s.progress in
      let c = q.tally.counts in
      let lt = going_sent s g in
      let x : 1 ≤ length message - q.sent = omega arith in
      let y = at_least (length message - q.sent) (p.limit + 3) x in
      elim (judge_cases p.limit code c h.bounds) [
        | won v n ↦
            let sent : (send_step p message s).progress.sent ≡ q.sent + length (send_packet p message q) = ap (λ z. cond (succeeded z) (q.sent + length (send_packet p message q)) q.sent) v in
            let counts : (send_step p message s).progress.tally.counts ≡ fresh_counts p.limit = ap (λ z. cond (succeeded z) (fresh_counts p.limit) (counted code c)) v in
            let m : (send_step p message s).progress.tally.counts.misses ≡ 3 = ap (λ z. z.misses) counts in
            let k : (send_step p message s).progress.tally.counts.naks ≡ p.limit = ap (λ z. z.naks) counts in
            let some = packet_some q lt in
            let less = one_less (length message - q.sent) (length message - (send_step p message s).progress.sent) (p.limit + 3) (omega arith) in
            omega (arith, h.bounds.some_misses)
        | again v n k ↦
            let sent : (send_step p message s).progress.sent ≡ q.sent = ap (λ z. cond (succeeded z) (q.sent + length (send_packet p message q)) q.sent) v in
            let counts : (send_step p message s).progress.tally.counts ≡ counted code c = ap (λ z. cond (succeeded z) (fresh_counts p.limit) (counted code c)) v in
            let m : (send_step p message s).progress.tally.counts.misses ≡ (counted code c).misses = ap (λ z. z.misses) counts in
            let d : (send_step p message s).progress.tally.counts.naks ≡ (counted code c).naks = ap (λ z. z.naks) counts in
            let same : (length message - (send_step p message s).progress.sent) * (p.limit + 3) ≡ (length message - q.sent) * (p.limit + 3) = ap (λ z. (length message - z) * (p.limit + 3)) sent in
            omega (arith, k.some_misses)
        | stops why v k ↦
            let stop : (send_step p message s).progress.tally.stop ≡ Some why = ap stop_of v in
            let none : none_yet (send_step p message s).progress.tally.stop ≡ true = (and_parts (none_yet (send_step p message s).progress.tally.stop) (ltb (send_step p message s).progress.sent (length message)) g').0 in
            absurd (false≢true (sym (ap none_yet stop) ∙ none))
      ]

  pub run_kept : (b : Bus) → Kept (send_run p message b)
  run_kept b = run_keeps (send_going p message) (send_step p message) Kept step_kept (send_budget p message) (sending (send_start p) b) (start_kept b)

  pub run_over : (b : Bus) → send_going p message (send_run p message b) ≡ false
  unfolding left
  run_over b =
      run_ends (send_going p message) (send_step p message) Kept left step_kept some_left falls (send_budget p message) (sending (send_start p) b) (start_kept b)
      (λ g. let e : (length message - 0) * (p.limit + 3) ≡ length message * (p.limit + 3) = ap (λ n. n * (p.limit + 3)) (let z : length message - 0 ≡ length message = omega arith in z) in omega arith)
