-- Counting the tries of one packet or stage: what each result code leads to. Assumes nothing.
use Rattle.std.specs.Prelude.{ℕ, ◌-◌, Bool, true, false, cond, Some, None, Option, ◌==◌, nat_le}
use Rattle.pipes.specs.declared.counting.Counts.{Counts}
use Rattle.pipes.specs.declared.counting.Verdict.{Verdict}
use Rattle.pipes.specs.declared.counting.Verdict.TheVariants.{Succeeded, Again, Stop}
use Rattle.pipes.specs.declared.refusals.Refusal.{Refusal}
use Rattle.pipes.specs.declared.refusals.Refusal.TheVariants.{NakLimit, ThirdMiss, Stalled}

-- three misses, and as many NAKs as the limit, are left
abbrev pub fresh_counts : ℕ → Counts
fresh_counts limit = record { misses = 3; naks = limit; missed = false }

-- 0 succeeds, 4 is a NAK, 5 stops, and every other code is a miss; the NAK that reaches the limit and the third miss stop
abbrev pub verdict : ℕ → Counts → Verdict
verdict code c =
    cond (code == 0) Succeeded
    (cond (code == 5) (Stop Stalled)
    (cond (code == 4) (cond (nat_le c.naks 1) (Stop NakLimit) Again)
    (cond (nat_le c.misses 1) (Stop ThirdMiss) Again)))

abbrev pub with_nak : Counts → Counts
with_nak c = record { misses = c.misses; naks = c.naks - 1; missed = c.missed }

-- the counts after it: a miss is remembered, also where it stops
abbrev pub counted : ℕ → Counts → Counts
counted code c =
    cond (code == 0) c
    (cond (code == 5) c
    (cond (code == 4) (cond (nat_le c.naks 1) c (with_nak c))
    (record { misses = cond (nat_le c.misses 1) c.misses (c.misses - 1); naks = c.naks; missed = true })))

abbrev pub succeeded : Verdict → Bool
succeeded Succeeded = true
succeeded Again = false
succeeded (Stop refusal) = false

-- why a verdict stops, if it does
abbrev pub stop_of : Verdict → Option Refusal
stop_of Succeeded = None
stop_of Again = None
stop_of (Stop refusal) = Some refusal
