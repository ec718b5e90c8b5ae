-- The words of the promise, each as a function of the history: where a pipe leads, which messages were sent to an endpoint, what the
-- fetches of a pipe handed over, and what waited when it was last brought in step. A history has its latest call first. Assumes nothing.
use Rattle.std.specs.Prelude.{ℕ, Bool, false, cond, ◌&&◌, List, [], ◌∷◌, ◌++◌, Some, None, Option, ◌==◌}
use Rattle.port.specs.declared.directions.Direction.{Direction}
use Rattle.port.specs.declared.directions.Direction.TheVariants.{Out}
use Rattle.port.specs.Directions.{facing}
use Rattle.port.specs.Endpoints.{Endpoint}
use Rattle.port.specs.Bus.{Bus}
use Rattle.pipes.specs.declared.answers.Answer.{Answer}
use Rattle.pipes.specs.Answers.{answer_number}
use Rattle.host.specs.Handing.{handed_over}
use Rattle.host.specs.Effects.{endpoint_at, place_on}
use Rattle.service.specs.Asks.{Ask, open_pipe, send_message, fetch_into, recover_pipe, look_at, close_pipe, Reply, answers, brings, shows}
use Rattle.service.specs.Histories.{Event, History}

-- the reply says that the call succeeded: its number is 0
abbrev pub succeeds : Reply → Bool
succeeds (answers a) = answer_number a == 0
succeeds (brings a buffer) = answer_number a == 0
succeeds (shows l) = false

-- where a pipe leads: an endpoint of a device, and the packet size
pub record Lead : Type 0 where
  pub address : ℕ
  pub endpoint : ℕ
  pub direction : Direction
  pub size : ℕ

-- the call is a successful open of this pipe
abbrev pub opens : ℕ → Ask → Bool → Option Lead
opens pipe (open_pipe n a e d size limit) success = cond (n == pipe && success) (Some (record { address = a; endpoint = e; direction = d; size = size })) None
opens pipe (send_message n message) success = None
opens pipe (fetch_into n buffer) success = None
opens pipe (recover_pipe n) success = None
opens pipe (look_at n) success = None
opens pipe (close_pipe n) success = None

abbrev pub or_else : Option Lead → Option Lead → Option Lead
or_else None other = other
or_else (Some lead) other = Some lead

-- a pipe leads where its last successful open led it; one that was never opened leads nowhere
unfoldable pub lead_of : ℕ → History → Option Lead
lead_of pipe [] = None
lead_of pipe (e ∷ past) = or_else (opens pipe e.ask (succeeds e.reply)) (lead_of pipe past)

-- a message that was sent, with what was answered
pub record Message : Type 0 where
  pub bytes : List ℕ
  pub answer : Answer

-- the pipe leads to the OUT endpoint of this address and number
abbrev pub goes_to : ℕ → ℕ → Option Lead → Bool
goes_to address number None = false
goes_to address number (Some l) = l.address == address && (l.endpoint == number && facing l.direction Out)

-- the message of a call, if it is a send over a pipe that leads to this OUT endpoint
abbrev pub message_of : ℕ → ℕ → Ask → Reply → History → List Message
message_of address number (send_message n message) (answers a) past = cond (goes_to address number (lead_of n past)) (record { bytes = message; answer = a } ∷ []) []
message_of address number (send_message n message) (brings a buffer) past = []
message_of address number (send_message n message) (shows l) past = []
message_of address number (open_pipe n a e d size limit) reply past = []
message_of address number (fetch_into n buffer) reply past = []
message_of address number (recover_pipe n) reply past = []
message_of address number (look_at n) reply past = []
message_of address number (close_pipe n) reply past = []

-- all messages that were sent to this OUT endpoint, over whatever pipe, the latest first
unfoldable pub messages_to : ℕ → ℕ → History → List Message
messages_to address number [] = []
messages_to address number (e ∷ past) = message_of address number e.ask e.reply past ++ messages_to address number past

-- the call is an open or a recover of this pipe
abbrev pub asks_renewal : ℕ → Ask → Bool
asks_renewal pipe (open_pipe n a e d size limit) = n == pipe
asks_renewal pipe (send_message n message) = false
asks_renewal pipe (fetch_into n buffer) = false
asks_renewal pipe (recover_pipe n) = n == pipe
asks_renewal pipe (look_at n) = false
asks_renewal pipe (close_pipe n) = false

-- the call brought this pipe in step with its device: a successful open or recover
abbrev pub renews : ℕ → Event → Bool
renews pipe e = asks_renewal pipe e.ask && succeeds e.reply

-- the packets of a call, if it is a fetch over this pipe: read off the answer, the buffer and the packet size
abbrev pub by_size : Option Lead → Answer → List ℕ → List (List ℕ)
by_size None a buffer = []
by_size (Some l) a buffer = handed_over l.size a buffer

abbrev pub packets_of : ℕ → Ask → Reply → Option Lead → List (List ℕ)
packets_of pipe (fetch_into n buffer) (brings a filled) lead = cond (n == pipe) (by_size lead a filled) []
packets_of pipe (fetch_into n buffer) (answers a) lead = []
packets_of pipe (fetch_into n buffer) (shows l) lead = []
packets_of pipe (open_pipe n a e d size limit) reply lead = []
packets_of pipe (send_message n message) reply lead = []
packets_of pipe (recover_pipe n) reply lead = []
packets_of pipe (look_at n) reply lead = []
packets_of pipe (close_pipe n) reply lead = []

-- the packets that the fetches of this pipe handed over since it was last brought in step, in order
unfoldable pub handed_since : ℕ → History → List (List ℕ)
handed_since pipe [] = []
handed_since pipe (e ∷ past) = cond (renews pipe e) [] (handed_since pipe past ++ packets_of pipe e.ask e.reply (lead_of pipe past))

-- the place and the endpoint that a pipe leads to, on a bus
abbrev pub place_of : Lead → Bus → ℕ
place_of l b = place_on l.address l.endpoint l.direction b

abbrev pub device_of : Lead → Bus → Endpoint
device_of l b = endpoint_at b (place_of l b)

abbrev pub waiting_there : Option Lead → Bus → List (List ℕ)
waiting_there None b = []
waiting_there (Some l) b = (device_of l b).waiting

-- the packets that waited at its device right after this pipe was last brought in step
unfoldable pub waited_since : ℕ → History → List (List ℕ)
waited_since pipe [] = []
waited_since pipe (e ∷ past) = cond (renews pipe e) (waiting_there (lead_of pipe (e ∷ past)) e.bus) (waited_since pipe past)
