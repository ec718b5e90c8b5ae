-- How the tries of one call went: counted, and whether they stopped it. Assumes nothing.
use Rattle.std.specs.Prelude.{ℕ, ◌+◌, cond, None}
use Rattle.host.specs.declared.tallies.Tally.{Tally}
use Rattle.pipes.specs.Counting.{fresh_counts, verdict, counted, succeeded, stop_of}

-- nothing tried
abbrev pub no_tries : ℕ → Tally
no_tries limit = record { counts = fresh_counts limit; tries = 0; last = 0; stop = None }

-- after one try more with this code: on success counting starts anew
abbrev pub tallied : ℕ → Tally → ℕ → Tally
tallied limit t code =
    record {
      counts = cond (succeeded (verdict code t.counts)) (fresh_counts limit) (counted code t.counts);
      tries = t.tries + 1;
      last = code;
      stop = stop_of (verdict code t.counts);
    }
