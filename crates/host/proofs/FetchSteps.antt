-- One step of a fetch, from what the code does in it. Assumes nothing.
use Rattle.std.proofs.Common.{◌≡◌, ℕ, ◌+◌, ◌-◌, ◌≤◌, min, List, length, take, drop, arith}
use Rattle.std.proofs.lemmas.Grind.{common_steps}
use Rattle.port.specs.Bus.{Bus}
use Rattle.host.specs.declared.fetching.Intake.{Intake}
use Rattle.host.specs.Fetching.{Fetching, next_room, fetch_step}

-- a cut at the end of a list is a cut at any place past it
pub cut_min : (size i k : ℕ) (xs : List ℕ) → k ≡ min (i + size) (length xs) → i ≤ length xs → take (k - i) (drop i xs) ≡ take size (drop i xs)
cut_min size i k xs e h = grind (arith, common_steps)

-- one step of the code is one step of the machine
module _ (a e size limit : ℕ) (q : Intake) (buffer : List ℕ) (b : Bus) (k : ℕ) (is : k ≡ min (q.received + size) (length buffer)) (within : q.received ≤ length buffer) where
  abbrev lent : List ℕ
  lent = take (k - q.received) (drop q.received buffer)

-- a step keeps what was received within the buffer, and the buffer's length
module _ (a e size limit : ℕ) (s : Fetching) (within : s.intake.received ≤ length s.buffer) where
  abbrev room : List ℕ
  room = next_room a e size limit s.intake s.buffer

  pub step_within : (fetch_step a e size limit s).intake.received ≤ length (fetch_step a e size limit s).buffer
  step_within = grind (arith, common_steps)
