-- The clear request as a step machine: SETUP, then HS-IN, each tried until it succeeds or stops it. Assumes nothing.
use Rattle.std.specs.Prelude.{ℕ, ◌+◌, ◌*◌, ◌%◌, Bool, true, false, cond, not, ◌&&◌, List, [], ◌∷◌}
use Rattle.port.specs.declared.directions.Direction.{Direction}
use Rattle.port.specs.declared.directions.Direction.TheVariants.{Out, In}
use Rattle.port.specs.Bus.{Bus}
use Rattle.attempt.specs.Tries.{stage_answer, after_stage}
use Rattle.pipes.specs.declared.answers.Answer.{Answer}
use Rattle.host.specs.declared.opening.Clearing.{Clearing}
use Rattle.host.specs.declared.opening.Stage.{Stage}
use Rattle.host.specs.declared.opening.Stage.TheVariants.{Setup, Handshake, Done}
use Rattle.pipes.specs.Answers.{answered}
use Rattle.pipes.specs.Counting.{verdict, succeeded}
use Rattle.host.specs.Machines.{run}
use Rattle.host.specs.Tallies.{no_tries, tallied}
use Rattle.host.specs.Sending.{none_yet}

-- the endpoint byte of the clear request, and the eight bytes
abbrev pub endpoint_byte : ℕ → Direction → ℕ
endpoint_byte endpoint Out = endpoint % 16
endpoint_byte endpoint In = 0x80 + endpoint % 16

abbrev pub clear_request : ℕ → Direction → List ℕ
clear_request endpoint direction = 0x02 ∷ 0x01 ∷ 0 ∷ 0 ∷ endpoint_byte endpoint direction ∷ 0 ∷ 0 ∷ 0 ∷ []

-- how far the request has come, and the bus
pub record Requesting : Type 0 where
  pub clearing : Clearing
  pub bus : Bus

abbrev pub requesting : Clearing → Bus → Requesting
requesting q b = record { clearing = q; bus = b }

abbrev pub next_stage : Stage → Stage
next_stage Setup = Handshake
next_stage Handshake = Done
next_stage Done = Done

abbrev pub is_done : Stage → Bool
is_done Setup = false
is_done Handshake = false
is_done Done = true

-- the progress after a try of a stage: on success the next stage comes
abbrev pub stage_judged : ℕ → Clearing → ℕ → Clearing
stage_judged limit q code =
    record {
      stage = cond (succeeded (verdict code q.tally.counts)) (next_stage q.stage) q.stage;
      tally = tallied limit q.tally code;
    }

abbrev pub clear_start : ℕ → Clearing
clear_start limit = record { stage = Setup; tally = no_tries limit }

-- the launch value of a stage, and its setup bytes
abbrev pub stage_value : Stage → ℕ
stage_value Setup = 0x10
stage_value Handshake = 0x80
stage_value Done = 0x80

abbrev pub stage_bytes : Stage → List ℕ → List ℕ
stage_bytes Setup bytes = bytes
stage_bytes Handshake bytes = []
stage_bytes Done bytes = []

module _ (address endpoint : ℕ) (direction : Direction) (limit : ℕ) where
  -- one try of the present stage
  abbrev pub clear_step : Requesting → Requesting
  clear_step s =
      let value = stage_value s.clearing.stage in
      let bytes = stage_bytes s.clearing.stage (clear_request endpoint direction) in
      record {
        clearing = stage_judged limit s.clearing (stage_answer address value bytes s.bus).0;
        bus = after_stage address value bytes s.bus;
      }

  -- a stage is left, and nothing has stopped it
  abbrev pub clear_going : Requesting → Bool
  clear_going s = none_yet s.clearing.tally.stop && not (is_done s.clearing.stage)

  -- no request needs more tries than this: three misses and the NAKs of the limit for each of the two stages
  abbrev pub clear_budget : ℕ
  clear_budget = 2 * (limit + 3)

  abbrev pub clear_run : Bus → Requesting
  clear_run b = run clear_going clear_step clear_budget (requesting (clear_start limit) b)

abbrev pub clear_answer : Clearing → Answer
clear_answer q = answered q.tally.stop 0 0 q.tally.tries q.tally.last
