-- What one try more does to the tally: its counts stay in bounds. Assumes nothing.
use Rattle.std.proofs.Common.{ℕ, ◌≤◌, arith}
use Rattle.std.proofs.lemmas.Grind.{common_steps}
use Rattle.host.specs.declared.tallies.Tally.{Tally}
use Rattle.pipes.specs.Counting.{fresh_counts}
use Rattle.pipes.proofs.Judging.{Bounds}
use Rattle.host.specs.Tallies.{tallied}

module _ (limit : ℕ) (some : 1 ≤ limit) where
  pub fresh_bounds : Bounds limit (fresh_counts limit)
  fresh_bounds = grind (arith, common_steps)

  pub counts_kept : (code : ℕ) (t : Tally) → Bounds limit t.counts → Bounds limit (tallied limit t code).counts
  counts_kept code t h = grind (arith, common_steps)
