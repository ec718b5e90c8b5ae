-- A history: the calls of a list with the reply to each, and what there was to see after each. Assumes nothing.
use Rattle.std.specs.Prelude.{ℕ, List, [], ◌∷◌, Result}
use Rattle.port.specs.Bus.{Bus}
use Rattle.pipes.specs.declared.answers.Looked.{Looked}
use Rattle.pipes.specs.declared.refusals.Refusal.{Refusal}
use Rattle.host.specs.Calls.{look_answer}
use Rattle.service.specs.Asks.{Ask, Reply}
use Rattle.service.specs.Serving.{State, step}

-- one call: what was asked, what the host replied, what look shows of each pipe afterwards, and the bus afterwards
pub record Event : Type 0 where
  pub ask : Ask
  pub reply : Reply
  pub shown : ℕ → Result Looked Refusal
  pub bus : Bus

-- the latest call comes first
abbrev pub History : Type 0
History = List Event

abbrev pub event : Ask → Reply → State → Event
event ask reply s = record { ask = ask; reply = reply; shown = look_answer s.places; bus = s.bus }

-- the history of calls that are made from a state, with the replies that were given, on top of an earlier one
unfoldable pub going_on : History → State → List Ask → List Reply → History
going_on past s [] given = past
going_on past s (ask ∷ asks) [] = past
going_on past s (ask ∷ asks) (reply ∷ given) = going_on (event ask reply (step s ask).state ∷ past) (step s ask).state asks given

abbrev pub history : State → List Ask → List Reply → History
history s asks given = going_on [] s asks given
