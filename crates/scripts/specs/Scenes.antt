-- What a machine stands for, and what each command makes of it and says. Assumes nothing.
use Rattle.std.specs.Prelude.{◌≡◌, ℕ, Bool, true, List, string_bytes, String, MatchBool, MatchResult, Result, Ok, Err}
use Rattle.std.specs.declared.alloc.Global.{Global}
use Rattle.port.specs.Accesses.{after_put, got, after_get}
use Rattle.port.specs.Bus.{Bus as Meant}
use Rattle.devices.specs.Setups.{planned, more_endpoints, packet_fits, packet_place, more_packets}
use Rattle.devices.specs.declared.plans.SetupError.{SetupError}
use Rattle.devices.specs.declared.plans.SetupError.TheVariants as setup
use Rattle.bench.specs.Chips.{bus_of, empty_bus}
use Rattle.bench.specs.Setups.{plan_fits, more_fates, with_devices}
use Rattle.frames.specs.Exchanges.{exchanged, after_exchange}
use Rattle.pipes.specs.Tables.{unused}
use Rattle.service.specs.Asks.{asked, replied}
use Rattle.service.specs.Serving.{State, state, step}
use Rattle.service.specs.declared.calls.Call.{Call as ServiceCall}
use Rattle.service.specs.declared.calls.Outcome.{Outcome}
use Rattle.scripts.specs.Buses.{driven_bus}
use Rattle.scripts.specs.Saying.{verb_of, pipe_of}
use Rattle.scripts.specs.Showing.{bus_text}
use Rattle.scripts.specs.declared.benches.Bench.{Bench}
use Rattle.scripts.specs.declared.buses.Bus.{Bus}
use Rattle.scripts.specs.declared.buses.Bus.TheVariants.{Direct, Framed}
use Rattle.scripts.specs.declared.commands.Command.{Command}
use Rattle.scripts.specs.declared.commands.Command.TheVariants.{Nothing, New, Drive, Endpoint, Packet, Fates, Put, Get, Frame, Call, Show}
use Rattle.scripts.specs.declared.errors.LineError.{LineError}
use Rattle.scripts.specs.declared.errors.LineError.TheVariants.{NotUnderstood, NoMemory}
use Rattle.scripts.specs.declared.machines.Machine.{Machine}
use Rattle.scripts.specs.declared.machines.Stage.{Stage}
use Rattle.scripts.specs.declared.machines.Stage.TheVariants.{SettingUp, Serving}
use Rattle.scripts.specs.declared.saying.Part.{Part}
use Rattle.scripts.specs.declared.saying.Part.TheVariants as part
use Rattle.scripts.specs.declared.saying.Said.{Said}
use Rattle.scripts.specs.declared.saying.Said.TheVariants as said

-- a bus that is being set up, and how the chip is driven; or, from the first call on, a pipe table and a bus
pub data Scene : Type 0 where
  setting_up : (over : Bus) (bus : Meant) → Scene
  serving : (s : State) → Scene

abbrev pub bench_scene : Bench → Scene
bench_scene b = setting_up b.bus (bus_of b.chip)

abbrev pub stage_scene : Stage → Scene
stage_scene (SettingUp b) = bench_scene b
stage_scene (Serving host) = serving (state host.table.pipes (driven_bus host.port))

abbrev pub scene_of : Machine → Scene
scene_of m = stage_scene m.stage

-- a fresh chip on an empty bus, driven directly
abbrev pub fresh_scene : Scene
fresh_scene = setting_up Direct empty_bus

abbrev pub bus_in : Scene → Meant
bus_in (setting_up over b) = b
bus_in (serving s) = s.bus

-- what a call meets: before the first one the host is unused
abbrev pub state_in : Scene → State
state_in (setting_up over b) = state unused b
state_in (serving s) = s

-- what a line says and leaves
abbrev pub Leaves : Type 1
Leaves = Result Said LineError → Scene → Type 0

-- how a set-up call ended, as it is said
abbrev pub set_up_said : Part → Result (Unit {0}) SetupError → Result Said LineError
set_up_said part (Ok done) = Ok (said.Added part)
set_up_said part (Err setup.Refused) = Ok (said.Refused part)
set_up_said part (Err setup.NoMemory) = Err NoMemory

-- a set-up line: what fits is added, and what does not is refused; for want of memory nothing is added
abbrev pub Adds : Part → Bool → Meant → Bus → Meant → Leaves
Adds part fits more over b r s =
    MatchResult r (λ x. MatchBool fits ((x ≡ said.Added part) × (s ≡ setting_up over more)) ((x ≡ said.Refused part) × (s ≡ setting_up over b)))
    (λ e. (e ≡ NoMemory) × (fits ≡ true) × (s ≡ setting_up over b))

-- an exchange of bytes on the wire; a direct bus has none
abbrev pub Exchanges : Bus → List ℕ → Meant → Leaves
Exchanges Direct bytes b r s = (r ≡ Err NotUnderstood) × (s ≡ setting_up Direct b)
Exchanges (Framed duplex) bytes b r s =
    MatchResult r (λ x. (v : _) × (x ≡ said.Exchanged v) × (v.items ≡ exchanged duplex bytes b) × (s ≡ setting_up (Framed duplex) (after_exchange bytes b)))
    (λ e. ⊥)

-- a line before the first call
abbrev pub Prepares : Command → Bus → Meant → Leaves
Prepares (Drive bus) over b r s = (r ≡ Ok said.Nothing) × (s ≡ setting_up bus b)
Prepares (Endpoint p) over b r s = Adds part.Endpoint (plan_fits p b) (with_devices b (more_endpoints (planned p) b.devices)) over b r s
Prepares (Packet a n bytes) over b r s =
    Adds part.Packet (packet_fits a n bytes.items b.devices) (with_devices b (more_packets (packet_place a n b.devices) bytes.items b.devices)) over b r s
Prepares (Fates bytes) over b r s = Adds part.Fates true (more_fates bytes.items b) over b r s
Prepares (Put register value) over b r s = (r ≡ Ok (said.Put register value)) × (s ≡ setting_up over (after_put register value b))
Prepares (Get register) over b r s = (r ≡ Ok (said.Got register (got register b))) × (s ≡ setting_up over (after_get register b))
Prepares (Frame bytes) over b r s = Exchanges over bytes.items b r s
Prepares _ over b r s = (r ≡ Err NotUnderstood) × (s ≡ setting_up over b)

-- a call of the host: what came of it is what one step gives; for want of memory none is made
abbrev pub Serves : ServiceCall → State → Leaves
Serves c t r s =
    MatchResult r (λ x. (outcome : Outcome) × (x ≡ said.Called (verb_of c) (pipe_of c) outcome) × (replied outcome ≡ (step t (asked c)).reply) × (s ≡ serving (step t (asked c)).state))
    (λ e. (e ≡ NoMemory) × (s ≡ serving t))

-- the endpoints and the fates left, as a text
abbrev pub Shows : Scene → Leaves
Shows t r s = MatchResult r (λ x. (text : String Global) × (x ≡ said.Shown text) × (string_bytes text ≡ bus_text (bus_in t))) (λ e. e ≡ NoMemory) × (s ≡ t)

-- a fresh machine; for want of memory the old one stays
abbrev pub StartsOver : Scene → Leaves
StartsOver t r s = MatchResult r (λ x. (x ≡ said.Nothing) × (s ≡ fresh_scene)) (λ e. (e ≡ NoMemory) × (s ≡ t))

-- a set-up line, which is understood only before the first call
abbrev pub SetsUp : Command → Scene → Leaves
SetsUp c (setting_up over b) r s = Prepares c over b r s
SetsUp c (serving t) r s = (r ≡ Err NotUnderstood) × (s ≡ serving t)

-- any command
abbrev pub Obeys : Command → Scene → Leaves
Obeys Nothing t r s = (r ≡ Ok said.Nothing) × (s ≡ t)
Obeys New t r s = StartsOver t r s
Obeys (Call c) t r s = Serves c (state_in t) r s
Obeys Show t r s = Shows t r s
Obeys c t r s = SetsUp c t r s
