-- What one call promises, in the words of the bus: relations between the bus before and the bus after. Assumes nothing.
use Rattle.std.specs.Prelude.{◌≡◌, ℕ, suc, ◌+◌, ◌<◌, ◌≤◌, false, ◌≢◌, ◌⊎◌, List, [], ◌++◌, length, take, Some, None, Ok, Err, slice_index_or}
use Rattle.port.specs.declared.directions.Direction.{Direction}
use Rattle.port.specs.declared.directions.Direction.TheVariants.{Out}
use Rattle.port.specs.Endpoints.{Endpoint, nowhere, place}
use Rattle.port.specs.Bus.{Bus}
use Rattle.port.specs.Accesses.{after_put, after_get}
use Rattle.pipes.specs.declared.pipes.Pipe.{Pipe}
use Rattle.pipes.specs.declared.pipes.Standing.TheVariants.{InStep}
use Rattle.pipes.specs.declared.refusals.Refusal.{Refusal}
use Rattle.pipes.specs.declared.refusals.Refusal.TheVariants.{NakLimit}
use Rattle.pipes.specs.Answers.{answer_number, declined}
use Rattle.pipes.specs.Tables.{Places, pipe_at, new_pipe}
use Rattle.pipes.specs.Checks.{admit_send, admit_fetch, open_refusal, admit_recover, present}
use Rattle.host.specs.Calls.{done, brought, recovered, open_done, send_done, fetch_done, recover_done, close_done}

-- the place of a pipe's endpoint among the devices' endpoints, and the endpoint
abbrev pub spot : Pipe → Bus → ℕ
spot p b = place p.address p.endpoint Out b.devices.endpoints

abbrev pub device : Pipe → Bus → Endpoint
device p b = slice_index_or b.devices.endpoints (spot p b) nowhere

-- a pipe as open makes them
pub record Made (p : Pipe) : Type 0 where
  pub address_most : p.address ≤ 127
  pub endpoint_above : 1 ≤ p.endpoint
  pub endpoint_most : p.endpoint ≤ 15
  pub size_above : 1 ≤ p.size
  pub limit_above : 1 ≤ p.limit

-- an OUT pipe is in step with its device: the endpoint is there, is not halted, and has the pipe's toggle; and the chip's send
-- buffer is empty, as every launch leaves it
pub record IsInStep (p : Pipe) (b : Bus) : Type 0 where
  pub made : Made p
  pub there : spot p b < length b.devices.endpoints
  pub live : (device p b).halted ≡ false
  pub agrees : (device p b).toggle ≡ p.toggle
  pub unsent : b.chip.sending ≡ []

-- after a send the device of the pipe has taken exactly the first n bytes of the message more, n being what the answer calls sent,
-- or that and what it calls doubtful; and every other endpoint is as it was
abbrev pub SendsAreAccountedFor : Type 0
SendsAreAccountedFor =
    (places : Places) (b : Bus) (number : ℕ) (message : List ℕ) (p : Pipe) →
    admit_send places number (length message) ≡ Ok p → IsInStep p b →
    ((n : ℕ)
    × ((n ≡ (send_done places b number message).answer.sent) ⊎ (n ≡ (send_done places b number message).answer.sent + (send_done places b number message).answer.doubtful))
    × ((slice_index_or (send_done places b number message).bus.devices.endpoints (spot p b) nowhere).taken ≡ (device p b).taken ++ take n message)
    × ((k : ℕ) → k ≢ spot p b → slice_index_or (send_done places b number message).bus.devices.endpoints k nowhere ≡ slice_index_or b.devices.endpoints k nowhere))

-- sent and doubtful bytes never pass the message
abbrev pub AnswersStayWithinTheMessage : Type 0
AnswersStayWithinTheMessage =
    (places : Places) (b : Bus) (number : ℕ) (message : List ℕ) →
    (send_done places b number message).answer.sent + (send_done places b number message).answer.doubtful ≤ length message

-- a send that answers 0 has sent all of the message
abbrev pub SuccessSendsAll : Type 0
SuccessSendsAll =
    (places : Places) (b : Bus) (number : ℕ) (message : List ℕ) (p : Pipe) →
    admit_send places number (length message) ≡ Ok p → Made p → answer_number (send_done places b number message).answer ≡ 0 →
    (send_done places b number message).answer.sent ≡ length message

-- a send that stops at the NAK limit with nothing doubtful leaves its pipe in step with its device
abbrev pub BusyPrintersStayInStep : Type 0
BusyPrintersStayInStep =
    (places : Places) (b : Bus) (number : ℕ) (message : List ℕ) (p : Pipe) →
    number < length places → admit_send places number (length message) ≡ Ok p → IsInStep p b →
    (send_done places b number message).answer.refusal ≡ Some NakLimit → (send_done places b number message).answer.doubtful ≡ 0 →
    (p' : Pipe) × (pipe_at (send_done places b number message).places number ≡ Some p') × IsInStep p' (send_done places b number message).bus × (p'.standing ≡ p.standing)

-- a pipe whose standing is in step after a send is in step with its device
abbrev pub SendsKeepStep : Type 0
SendsKeepStep =
    (places : Places) (b : Bus) (number : ℕ) (message : List ℕ) (p p' : Pipe) →
    number < length places → admit_send places number (length message) ≡ Ok p → IsInStep p b →
    pipe_at (send_done places b number message).places number ≡ Some p' → p'.standing ≡ InStep →
    IsInStep p' (send_done places b number message).bus

-- an OUT pipe that open makes, or recover brings back, is in step with its device: the request that succeeded found the endpoint, set its
-- toggle to DATA0 and lifted its halt. The chip's buffers are empty before, as every launch leaves them
abbrev pub OpenedPipesAreInStep : Type 0
OpenedPipesAreInStep =
    (places : Places) (b : Bus) (number : ℕ) → b.chip.setup ≡ [] → b.chip.sending ≡ [] →
    ((address endpoint size limit : ℕ) → open_refusal places number address endpoint Out size limit ≡ None → answer_number (open_done places b number address endpoint Out size limit).answer ≡ 0 → IsInStep (new_pipe address endpoint Out size limit) (open_done places b number address endpoint Out size limit).bus)
    × ((p : Pipe) → admit_recover places number ≡ Ok p → p.direction ≡ Out → Made p → answer_number (recover_done places b number).answer ≡ 0 → IsInStep (recovered places b number p None) (recover_done places b number).bus)

-- a call that declines answers with its refusal and nothing else, and leaves table and bus as they were
abbrev pub DeclinedCallsChangeNothing : Type 0
DeclinedCallsChangeNothing =
    (places : Places) (b : Bus) (number : ℕ) →
    ((address endpoint : ℕ) (direction : Direction) (size limit : ℕ) (why : Refusal) → open_refusal places number address endpoint direction size limit ≡ Some why → open_done places b number address endpoint direction size limit ≡ done (declined why) places b)
    × ((message : List ℕ) (why : Refusal) → admit_send places number (length message) ≡ Err why → send_done places b number message ≡ done (declined why) places b)
    × ((why : Refusal) → admit_recover places number ≡ Err why → recover_done places b number ≡ done (declined why) places b)
    × ((why : Refusal) → present places number ≡ Err why → close_done places b number ≡ done (declined why) places b)

-- a fetch that declines likewise, and leaves the buffer too
abbrev pub DeclinedFetchesChangeNothing : Type 0
DeclinedFetchesChangeNothing =
    (places : Places) (b : Bus) (number : ℕ) (buffer : List ℕ) (why : Refusal) →
    admit_fetch places number (length buffer) ≡ Err why → fetch_done places b number buffer ≡ brought (declined why) buffer places b

-- the bus is reached by register accesses among which are exactly so many launches
pub data Reached : ℕ → Bus → Bus → Type 0 where
  here : {b : Bus} → Reached 0 b b
  put : {n : ℕ} {b b' : Bus} (register value : ℕ) → (register ≢ 30) → Reached n b b' → Reached n b (after_put register value b')
  get : {n : ℕ} {b b' : Bus} (register : ℕ) → Reached n b b' → Reached n b (after_get register b')
  launch : {n : ℕ} {b b' : Bus} (value : ℕ) → Reached n b b' → Reached (suc n) b (after_put 30 value b')

-- the tries of an answer are the launches that the call made
abbrev pub TriesAreLaunches : Type 0
TriesAreLaunches =
    (places : Places) (b : Bus) (number : ℕ) →
    ((message : List ℕ) → Reached (send_done places b number message).answer.tries b (send_done places b number message).bus)
    × ((address endpoint : ℕ) (direction : Direction) (size limit : ℕ) → Reached (open_done places b number address endpoint direction size limit).answer.tries b (open_done places b number address endpoint direction size limit).bus)
    × Reached (recover_done places b number).answer.tries b (recover_done places b number).bus

-- and those of a fetch likewise
abbrev pub TriesOfAFetchAreLaunches : Type 0
TriesOfAFetchAreLaunches =
    (places : Places) (b : Bus) (number : ℕ) (buffer : List ℕ) → Reached (fetch_done places b number buffer).answer.tries b (fetch_done places b number buffer).bus
