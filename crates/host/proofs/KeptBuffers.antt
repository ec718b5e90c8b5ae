-- A fetch keeps its buffer's length, and behind what was received its bytes. Assumes nothing.
use Rattle.std.proofs.Common.{◌≡◌, ℕ, ◌+◌, ◌≤◌, Bool, eqb, List, ◌++◌, length, take, drop, Ok, Err, Result, sym, refl, ap, ◌∙◌, arith}
use Rattle.std.proofs.lemmas.Grind.{common_steps}
use Rattle.std.proofs.lemmas.List.{length-take, length-drop, drop-drop}
use Rattle.port.specs.declared.toggles.Toggle.{Toggle}
use Rattle.port.specs.Bus.{Bus}
use Rattle.attempt.specs.declared.tries.Arrival.{Arrival}
use Rattle.attempt.specs.Tries.{in_answer}
use Rattle.pipes.specs.declared.pipes.Pipe.{Pipe}
use Rattle.pipes.specs.declared.refusals.Refusal.{Refusal}
use Rattle.pipes.specs.Tables.{Places}
use Rattle.pipes.specs.Checks.{admit_fetch}
use Rattle.host.specs.Fetching.{Fetching, fetching, bytes_in, fetch_start, written, next_room, fetch_step, fetch_going, fetch_budget, fetch_run}
use Rattle.host.specs.Calls.{fetch_by}
use Rattle.host.specs.Effects.{FetchesKeepTheRestOfTheBuffer}
use Rattle.host.proofs.Arrivals.{Brings, nothing, bytes, too_long, brings}
use Rattle.host.proofs.Runs.{run_keeps}
use Rattle.host.proofs.Writes.{written_length, written_behind}

-- so many bytes were received into the buffer, which was this one before
pub record Kept (before : List ℕ) (received : ℕ) (buffer : List ℕ) : Type 0 where
  pub long : length buffer ≡ length before
  pub within : received ≤ length buffer
  pub behind : drop received buffer ≡ drop received before

-- nothing more was received
same_kept : (before : List ℕ) (i size : ℕ) (buffer : List ℕ) → Kept before i buffer → Kept before (i + 0) (written i (take size (drop i buffer)) buffer)
same_kept before i size buffer k = grind (arith, common_steps)

more_kept : (before : List ℕ) (i size : ℕ) (bs buffer : List ℕ) → Kept before i buffer → length bs ≤ length (take size (drop i buffer)) → Kept before (i + length bs) (written i (bs ++ drop (length bs) (take size (drop i buffer))) buffer)
more_kept before i size bs buffer k fits =
    let l = written_length i size bs buffer k.within fits in
    let a = length-take size (drop i buffer) in
    let b = length-drop i buffer in
    record {
      long = l ∙ k.long;
      within = omega (arith, k.within);
      behind = written_behind i size bs buffer k.within fits ∙ sym (drop-drop (length bs) i buffer) ∙ ap (drop (length bs)) k.behind ∙ drop-drop (length bs) i before;
    }

pub try_kept : (before : List ℕ) (i size : ℕ) (buffer : List ℕ) (succeeds : Bool) {x : Arrival} {y : List ℕ} → Kept before i buffer → Brings (take size (drop i buffer)) succeeds x y → Kept before (i + bytes_in x) (written i y buffer)
try_kept before i size buffer succeeds k (nothing f) = same_kept before i size buffer k
try_kept before i size buffer succeeds k (bytes t bs fits) = more_kept before i size bs buffer k fits
try_kept before i size buffer succeeds k (too_long t) = same_kept before i size buffer k

module _ (address endpoint size limit : ℕ) (before : List ℕ) where
  abbrev pub KeptIn : Fetching → Type 0
  KeptIn s = Kept before s.intake.received s.buffer

  pub step_kept : (s : Fetching) → KeptIn s → KeptIn (fetch_step address endpoint size limit s)
  step_kept s k =
      let q = s.intake in
      let room = next_room address endpoint size limit q s.buffer in
      try_kept before q.received size s.buffer (eqb (in_answer address endpoint q.toggle room s.bus).0 0) k (brings address endpoint q.toggle room s.bus)

  pub start_kept : (toggle : Toggle) (b : Bus) → KeptIn (fetching (fetch_start limit toggle) before b)
  start_kept toggle b = record { long = refl; within = omega arith; behind = refl }

  pub run_kept : (toggle : Toggle) (b : Bus) → KeptIn (fetch_run address endpoint size limit toggle before b)
  run_kept toggle b =
      run_keeps (fetch_going address endpoint size limit) (fetch_step address endpoint size limit) KeptIn (λ s k g. step_kept s k)
      (fetch_budget address endpoint size limit (length before)) (fetching (fetch_start limit toggle) before b) (start_kept toggle b)

kept_by : (places : Places) (b : Bus) (number : ℕ) (buffer : List ℕ) (r : Result Pipe Refusal) → (length (fetch_by places b number buffer r).buffer ≡ length buffer) × (drop (fetch_by places b number buffer r).answer.received (fetch_by places b number buffer r).buffer ≡ drop (fetch_by places b number buffer r).answer.received buffer)
kept_by places b number buffer (Ok p) = let k = run_kept p.address p.endpoint p.size p.limit buffer p.toggle b in (k.long, k.behind)
kept_by places b number buffer (Err why) = (refl, refl)

pub fetches_keep_the_rest : FetchesKeepTheRestOfTheBuffer
fetches_keep_the_rest places b number buffer = kept_by places b number buffer (admit_fetch places number (length buffer))
