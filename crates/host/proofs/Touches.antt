-- A send touches the endpoint that it is made to and no other, whatever the bus does. Assumes nothing.
use Rattle.std.proofs.Common.{◌≡◌, ℕ, ◌%◌, ◌≤◌, min, ltb, List, length, get_or, drop, set, sym, ◌∙◌, subst, arith}
use Rattle.std.proofs.lemmas.Grind.{common_steps}
use Rattle.std.proofs.lemmas.List.{length-take}
use Rattle.std.proofs.lemmas.Bool.{cond_both}
use Rattle.port.specs.declared.directions.Direction.TheVariants as directions
use Rattle.port.specs.declared.fates.Fate.{Fate}
use Rattle.port.specs.declared.toggles.Toggle.{Toggle}
use Rattle.port.specs.Endpoints.{Endpoint, nowhere, place}
use Rattle.port.specs.Devices.{Devices}
use Rattle.port.specs.Reactions.{out_met, out_at, at_place, outcome, out_outcome}
use Rattle.port.specs.Bus.{Bus, next_fate}
use Rattle.attempt.specs.Tries.{after_out}
use Rattle.host.specs.Sending.{sending, send_start, send_packet, send_step, send_going, send_budget, send_run}
use Rattle.host.specs.Effects.{Quiet, SameName, SendsTouchOneEndpoint}
use Rattle.host.proofs.Only.{Only, only_none, only_set}
use Rattle.host.proofs.OutTry.{out_devices, out_empty, out_setup, out_received}
use Rattle.host.proofs.Places.{place_same}
use Rattle.host.proofs.Runs.{run_keeps}

pub met_named : (fate : Fate) (toggle : Toggle) (bytes : List ℕ) (e : Endpoint) → SameName e (out_met fate toggle bytes e).endpoint
met_named fate toggle bytes e = grind (arith, common_steps)

-- from the endpoints before the send
module _ (a e : ℕ) (low : 1 ≤ e) (high : e ≤ 15) (es₀ : List Endpoint) where
  abbrev OnlyThere : Devices → Type 0
  OnlyThere d = Only (place (a % 128) e directions.Out es₀) es₀ d.endpoints

  outcome_only : (d : Devices) (fate : Fate) (toggle : Toggle) (bytes : List ℕ) → OnlyThere d → OnlyThere (out_outcome (a % 128) fate d e toggle bytes).devices
  unfolding at_place
  outcome_only d fate toggle bytes h =
      let i = place (a % 128) e directions.Out es₀ in
      let es = d.endpoints in
      let k = place (a % 128) e directions.Out es in
      let same : k ≡ i = place_same (a % 128) e directions.Out es₀ es h.as_many h.same_names in
      cond_both (ltb k (length es)) (out_at fate toggle bytes d k) (outcome 14 d) (λ o. OnlyThere o.devices)
      (λ _.
      subst (λ n. Only i es₀ (set es n (out_met fate toggle bytes (get_or es n nowhere)).endpoint)) (sym same)
      (only_set i es₀ es (out_met fate toggle bytes (get_or es i nowhere)).endpoint h (met_named fate toggle bytes (get_or es i nowhere))))
      (λ _. h)

  -- what every try keeps of the bus
  record Kept (b : Bus) : Type 0 where
    pub quiet : Quiet b
    pub only : OnlyThere b.devices

  out_kept : (toggle : Toggle) (bytes : List ℕ) (b : Bus) → length bytes ≤ 64 → Kept b → Kept (after_out a e toggle bytes b)
  out_kept toggle bytes b short h =
      let none = h.quiet.no_sending in
      record {
        quiet = record { no_sending = out_empty a e toggle bytes b low high none short; no_setup = out_setup a e toggle bytes b low high none short; none_received = out_received a e toggle bytes b low high none short ∙ h.quiet.none_received };
        only = subst OnlyThere (sym (out_devices a e toggle bytes b low high none short)) (outcome_only b.devices (next_fate b.fates) toggle bytes h.only);
      }

pub sends_touch_one_endpoint : SendsTouchOneEndpoint
sends_touch_one_endpoint p message b step quiet =
    let a = p.address in
    let e = p.endpoint in
    let low = step.made.endpoint_above in
    let high = step.made.endpoint_most in
    let es₀ = b.devices.endpoints in
    let m : a % 128 ≡ a = omega (arith, step.made.address_most) in
    let kept : Kept a e low high es₀ (send_run p message b).bus =
    run_keeps (send_going p message) (send_step p message) (λ s. Kept a e low high es₀ s.bus)
    (λ s h g. out_kept a e low high es₀ s.progress.toggle (send_packet p message s.progress) s.bus (let l = length-take (min p.size 64) (drop s.progress.sent message) in omega arith) h)
    (send_budget p message) (sending (send_start p) b)
    (record { quiet = quiet; only = only_none (place (a % 128) e directions.Out es₀) es₀ }) in
    let only = subst (λ n. Only (place n e directions.Out es₀) es₀ (send_run p message b).bus.devices.endpoints) m kept.only in
    record { quiet = kept.quiet; as_many = only.as_many; same_names = only.same_names; others = only.others }
