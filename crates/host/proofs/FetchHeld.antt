-- One step of a fetch beside the endpoint that it meets: what the step answers and writes, and that all other endpoints stay. Assumes nothing.
use Rattle.std.proofs.Common.{◌≡◌, ℕ, ◌%◌, ◌<◌, ◌≤◌, ◌≢◌, List, length, get_or, set, sym, refl, ap, ◌∙◌, subst, arith}
use Rattle.std.proofs.lemmas.Grind.{common_steps}
use Rattle.std.proofs.lemmas.List.{length-set, get_or-set_same, get_or-set_other}
use Rattle.port.specs.declared.directions.Direction.{Direction}
use Rattle.port.specs.declared.directions.Direction.TheVariants.{In}
use Rattle.port.specs.declared.toggles.Toggle.{Toggle}
use Rattle.port.specs.Toggles.{toggle_of}
use Rattle.port.specs.Endpoints.{Endpoint, nowhere, stands_at, place}
use Rattle.port.specs.Reactions.{Met, first, in_met, in_at, at_place}
use Rattle.port.specs.Bus.{next_fate}
use Rattle.port.specs.Launches.{advanced}
use Rattle.port.proofs.Codes.{next_real}
use Rattle.port.proofs.Outcomes.{at_found}
use Rattle.attempt.specs.Tries.{in_answer, in_arrival, in_room}
use Rattle.host.specs.Fetching.{Fetching, next_room, fetch_step}
use Rattle.host.specs.Effects.{Quiet, SameName}
use Rattle.host.proofs.Accounts.{place_set}
use Rattle.host.proofs.InReplies.{InReply, in_reply}
use Rattle.host.proofs.InTry.{packet_in, room_after, outcome_in, in_code, in_toggle, in_arrives, in_writes, in_left}

-- an endpoint keeps its name, and the bytes that it has taken
pub record Same (e e' : Endpoint) : Type 0 where
  pub name : SameName e e'
  pub taken : e'.taken ≡ e.taken

refl_name : (e : Endpoint) → SameName e e
refl_name e = grind (arith, common_steps)

pub same_self : (e : Endpoint) → Same e e
same_self e = record { name = refl_name e; taken = refl }

same_then : (e e' e'' : Endpoint) → Same e e' → Same e' e'' → Same e e''
same_then e e' e'' one two = grind (arith, common_steps)

reply_same : (toggle : Toggle) (e : Endpoint) {m : Met} → InReply toggle e m → Same e m.endpoint
reply_same toggle e h = grind (arith, common_steps)

same_stands : (a n : ℕ) (d : Direction) (e e' : Endpoint) → SameName e e' → stands_at a n d e' ≡ stands_at a n d e
same_stands a n d e e' s = grind (arith, common_steps)

module _ (address endpoint size limit : ℕ) (low : 1 ≤ endpoint) (high : endpoint ≤ 15) (es₀ : List Endpoint) (i : ℕ) (within : i < length es₀) where
  -- what every state of a fetch keeps of the bus, from the bus before it
  pub record Held (s : Fetching) : Type 0 where
    pub quiet : Quiet s.bus
    pub many : length s.bus.devices.endpoints ≡ length es₀
    pub here : place (address % 128) endpoint In s.bus.devices.endpoints ≡ i
    pub others : (k : ℕ) → k ≢ i → get_or s.bus.devices.endpoints k nowhere ≡ get_or es₀ k nowhere
    pub mine : Same (get_or es₀ i nowhere) (get_or s.bus.devices.endpoints i nowhere)

  module _ (s : Fetching) (h : Held s) where
    -- the endpoint, and what it makes of the try
    abbrev pub meets : Endpoint
    meets = get_or s.bus.devices.endpoints i nowhere

    abbrev pub made : Met
    made = in_met (next_fate s.bus.fates) s.intake.toggle meets

    abbrev room : List ℕ
    room = next_room address endpoint size limit s.intake s.buffer

    pub reply_is : InReply s.intake.toggle meets made
    reply_is = in_reply s.intake.toggle meets (next_fate s.bus.fates) (next_real s.bus.fates)

    lt : i < length s.bus.devices.endpoints
    lt = omega (arith, h.many)

    met_is : outcome_in address endpoint s.intake.toggle room s.bus low high h.quiet.none_received ≡ in_at (next_fate s.bus.fates) s.intake.toggle s.bus.devices i
    met_is = let f = in_at (next_fate s.bus.fates) s.intake.toggle in ap (at_place f s.bus.devices) h.here ∙ at_found f s.bus.devices i lt

    pub code_is : (in_answer address endpoint s.intake.toggle room s.bus).0 ≡ made.code
    code_is = in_code address endpoint s.intake.toggle room s.bus low high h.quiet.none_received ∙ ap (λ o. o.code) met_is

    pub toggle_is : toggle_of (in_answer address endpoint s.intake.toggle room s.bus).1 ≡ advanced made.code s.intake.toggle
    toggle_is = in_toggle address endpoint s.intake.toggle room s.bus low high h.quiet.none_received ∙ ap (λ o. advanced o.code s.intake.toggle) met_is

    pub arrival_is : in_arrival address endpoint s.intake.toggle room s.bus ≡ packet_in made.code (first meets.waiting) room
    arrival_is = in_arrives address endpoint s.intake.toggle room s.bus low high h.quiet.none_received ∙ ap (λ o. packet_in o.code o.bytes room) met_is

    pub room_is : in_room address endpoint s.intake.toggle room s.bus ≡ room_after made.code (first meets.waiting) room
    room_is = in_writes address endpoint s.intake.toggle room s.bus low high h.quiet.none_received ∙ ap (λ o. room_after o.code o.bytes room) met_is

    ends : (fetch_step address endpoint size limit s).bus.devices.endpoints ≡ set s.bus.devices.endpoints i made.endpoint
    ends = ap (λ d. d.endpoints) ((in_left address endpoint s.intake.toggle room s.bus low high h.quiet.none_received).devices ∙ ap (λ o. o.devices) met_is)

    pub endpoint_is : get_or (fetch_step address endpoint size limit s).bus.devices.endpoints i nowhere ≡ made.endpoint
    endpoint_is = ap (λ l. get_or l i nowhere) ends ∙ get_or-set_same s.bus.devices.endpoints i made.endpoint nowhere lt

    pub step_held : Held (fetch_step address endpoint size limit s)
    step_held =
        let es = s.bus.devices.endpoints in
        let same = reply_same s.intake.toggle meets reply_is in
        record {
          quiet = (in_left address endpoint s.intake.toggle room s.bus low high h.quiet.none_received).quiet;
          many = ap length ends ∙ length-set es i made.endpoint ∙ h.many;
          here = ap (place (address % 128) endpoint In) ends ∙ place_set (address % 128) endpoint In es i made.endpoint lt (same_stands (address % 128) endpoint In meets made.endpoint same.name) ∙ h.here;
          others = λ k ne. ap (λ l. get_or l k nowhere) ends ∙ get_or-set_other es i k made.endpoint nowhere ne ∙ h.others k ne;
          mine = subst (Same (get_or es₀ i nowhere)) (sym endpoint_is) (same_then (get_or es₀ i nowhere) meets made.endpoint h.mine same);
        }

  -- the same of every endpoint
  pub all_same : (s : Fetching) → Held s → (k : ℕ) → Same (get_or es₀ k nowhere) (get_or s.bus.devices.endpoints k nowhere)
  all_same s h k = grind (arith, common_steps)
