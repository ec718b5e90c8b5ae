-- A list of calls, made one after another: the reply to each, and the table and the bus at the end. Assumes nothing.
use Rattle.std.specs.Prelude.{◌≡◌, List, [], ◌∷◌, ◌++◌}
use Rattle.port.specs.Bus.{Bus}
use Rattle.pipes.specs.Tables.{Places}
use Rattle.host.specs.Calls.{Done, Brought, open_done, send_done, fetch_done, recover_done, close_done, look_answer}
use Rattle.service.specs.Asks.{Ask, open_pipe, send_message, fetch_into, recover_pipe, look_at, close_pipe, Reply, answers, brings, shows}

-- the host's pipe table and the bus
pub record State : Type 0 where
  pub places : Places
  pub bus : Bus

abbrev pub state : Places → Bus → State
state places b = record { places = places; bus = b }

-- what one call leaves
pub record Step : Type 0 where
  pub reply : Reply
  pub state : State

abbrev pub stepped : Done → Step
stepped d = record { reply = answers d.answer; state = state d.places d.bus }

abbrev pub fetch_stepped : Brought → Step
fetch_stepped d = record { reply = brings d.answer d.buffer; state = state d.places d.bus }

-- one call, from the table and the bus before it
abbrev pub step : State → Ask → Step
step s (open_pipe n a e d size limit) = stepped (open_done s.places s.bus n a e d size limit)
step s (send_message n message) = stepped (send_done s.places s.bus n message)
step s (fetch_into n buffer) = fetch_stepped (fetch_done s.places s.bus n buffer)
step s (recover_pipe n) = stepped (recover_done s.places s.bus n)
step s (look_at n) = record { reply = shows (look_answer s.places n); state = s }
step s (close_pipe n) = stepped (close_done s.places s.bus n)

-- all calls of a list, from the first on
unfoldable pub replies : State → List Ask → List Reply
replies s [] = []
replies s (ask ∷ asks) = (step s ask).reply ∷ replies (step s ask).state asks

unfoldable pub at_the_end : State → List Ask → State
at_the_end s [] = s
at_the_end s (ask ∷ asks) = at_the_end (step s ask).state asks

-- a list of calls was served: from this state, with these replies behind earlier ones, to that state
pub record ServedBehind (before : List Reply) (s : State) (asks : List Ask) (given : List Reply) (s' : State) : Type 0 where
  pub replies_are : given ≡ before ++ replies s asks
  pub ends_at : s' ≡ at_the_end s asks

-- the same with no earlier ones
abbrev pub Served : State → List Ask → List Reply → State → Type 0
Served s asks given s' = ServedBehind [] s asks given s'
