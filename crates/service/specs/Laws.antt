-- The promise over every list of calls: three laws that hold after each call, whatever the calls and the faults. They speak of the history
-- and the bus. Assumes nothing.
use Rattle.std.specs.Prelude.{◌≡◌, ℕ, ◌+◌, ◌-◌, ◌<◌, ◌≤◌, ◌⊎◌, List, [], ◌∷◌, ◌++◌, length, take, drop, Some, Ok}
use Rattle.port.specs.declared.directions.Direction.{Direction}
use Rattle.port.specs.declared.directions.Direction.TheVariants.{Out, In}
use Rattle.port.specs.declared.toggles.Toggle.{Toggle}
use Rattle.port.specs.Toggles.{flip}
use Rattle.port.specs.Bus.{Bus, Fresh}
use Rattle.pipes.specs.declared.pipes.Standing.TheVariants.{InStep}
use Rattle.pipes.specs.Answers.{looked_at}
use Rattle.pipes.specs.Tables.{unused}
use Rattle.host.specs.Effects.{endpoint_at, SameEndpoints}
use Rattle.service.specs.Asks.{Ask, Reply}
use Rattle.service.specs.Serving.{State, state, replies, at_the_end}
use Rattle.service.specs.Histories.{Event, History, history}
use Rattle.service.specs.Words.{Lead, lead_of, Message, messages_to, handed_since, waited_since, place_of, device_of}

-- these bytes are what a device has taken of these messages, the latest first: of each the first n bytes and no others, n being what its
-- answer calls sent, or that and what it calls doubtful
pub data Took : List Message → List ℕ → Type 0 where
  nothing : Took [] []
  more : {ms : List Message} {bytes : List ℕ} (m : Message) (n : ℕ) → (n ≡ m.answer.sent) ⊎ (n ≡ m.answer.sent + m.answer.doubtful) → n ≤ length m.bytes → Took ms bytes → Took (m ∷ ms) (bytes ++ take n m.bytes)

-- the slip law: every OUT endpoint has taken, in order, the first bytes of each message sent to it, and nothing else
abbrev pub SlipsAreTrue : History → Bus → Type 0
SlipsAreTrue past b = (k : ℕ) → k < length b.devices.endpoints → (endpoint_at b k).direction ≡ Out → Took (messages_to (endpoint_at b k).address (endpoint_at b k).number past) (endpoint_at b k).taken

-- the label law: the packets that the fetches of a pipe handed over since it was last brought in step are the first that waited then,
-- whole and in order
abbrev pub LabelsAreTrue : History → Type 0
LabelsAreTrue past = (pipe : ℕ) → (rest : List (List ℕ)) × (waited_since pipe past ≡ handed_since pipe past ++ rest)

-- the device still holds the last packet that was handed over: just the packets from that one on wait
abbrev pub StillHolds : ℕ → Lead → History → Bus → Type 0
StillHolds pipe l past b = (0 < length (handed_since pipe past)) × ((device_of l b).waiting ≡ drop (length (handed_since pipe past) - 1) (waited_since pipe past))

-- just the packets behind the last one that was handed over wait
abbrev pub GoneOn : ℕ → Lead → History → Bus → Type 0
GoneOn pipe l past b = (device_of l b).waiting ≡ drop (length (handed_since pipe past)) (waited_since pipe past)

-- the toggle that is shown of a pipe, beside its device. An OUT pipe has its device's toggle. An IN pipe has the other one exactly when the
-- device still holds the last packet handed over
abbrev pub ToggleBeside : Direction → ℕ → Lead → History → Bus → Toggle → Type 0
ToggleBeside Out pipe l past b shown = shown ≡ (device_of l b).toggle
ToggleBeside In pipe l past b shown =
    (StillHolds pipe l past b × (shown ≡ flip (device_of l b).toggle))
    ⊎ ((StillHolds pipe l past b → ⊥) × GoneOn pipe l past b × (shown ≡ (device_of l b).toggle))

-- the toggle law: a pipe that is shown in step was opened, its device endpoint is there, and its toggle is as above
pub record IsInStepWith (pipe : ℕ) (shown : Toggle) (e : Event) (past : History) : Type 0 where
  pub lead : Lead
  pub leads : lead_of pipe past ≡ Some lead
  pub there : place_of lead e.bus < length e.bus.devices.endpoints
  pub beside : ToggleBeside lead.direction pipe lead past e.bus shown

abbrev pub TogglesShownAreTrue : Event → History → Type 0
TogglesShownAreTrue e past = (pipe : ℕ) (shown : Toggle) → e.shown pipe ≡ Ok (looked_at InStep shown) → IsInStepWith pipe shown e past

-- the three laws after the latest call of a history
pub record LawsAfter (e : Event) (past : History) : Type 0 where
  pub slips : SlipsAreTrue past e.bus
  pub labels : LabelsAreTrue past
  pub toggles : TogglesShownAreTrue e past

abbrev pub Laws : History → Type 0
Laws [] = Unit {0}
Laws (e ∷ past) = LawsAfter e (e ∷ past)

-- they hold after every number of calls
abbrev pub Kept : State → List Ask → List Reply → Type 0
Kept s asks given = (k : ℕ) → k ≤ length asks → Laws (history s (take k asks) (take k given))

-- the promise, of a host and a port as they are when serving begins: if the host is unused and the port fresh, the laws are kept
abbrev pub Promised : State → List Ask → List Reply → Type 0
Promised s asks given = s.places ≡ unused → Fresh s.bus → Kept s asks given

-- the same of lists that are served one after another: if an unused host on a fresh port was brought to where it is by earlier calls, the laws
-- are kept of all calls together
abbrev pub PromisedOnward : State → List Ask → List Reply → Type 0
PromisedOnward s asks given =
    (start : State) (earlier : List Ask) → start.places ≡ unused → Fresh start.bus → s ≡ at_the_end start earlier →
    Kept start (earlier ++ asks) (replies start earlier ++ given)

-- each law by itself, of every list of calls: the history of the calls that an unused host serves on this bus
abbrev pub story : Bus → List Ask → History
story b asks = history (state unused b) asks (replies (state unused b) asks)

abbrev pub SlipsAfter : History → Type 0
SlipsAfter [] = Unit {0}
SlipsAfter (e ∷ past) = SlipsAreTrue (e ∷ past) e.bus

abbrev pub TogglesAfter : History → Type 0
TogglesAfter [] = Unit {0}
TogglesAfter (e ∷ past) = TogglesShownAreTrue e (e ∷ past)

abbrev pub EverySlipIsTrue : Type 0
EverySlipIsTrue = (b : Bus) (asks : List Ask) → Fresh b → SlipsAfter (story b asks)

abbrev pub EveryLabelIsTrue : Type 0
EveryLabelIsTrue = (b : Bus) (asks : List Ask) → Fresh b → LabelsAreTrue (story b asks)

abbrev pub EveryToggleShownIsTrue : Type 0
EveryToggleShownIsTrue = (b : Bus) (asks : List Ask) → Fresh b → TogglesAfter (story b asks)

-- and beside them, of any host on any bus: the endpoints of which the laws speak are the same ones, in the same places, from the first call to
-- the last
abbrev pub NoEndpointComesOrGoes : Type 0
NoEndpointComesOrGoes = (s : State) (asks : List Ask) → SameEndpoints s.bus (at_the_end s asks).bus
