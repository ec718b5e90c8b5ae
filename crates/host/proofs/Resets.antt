-- A clear request resets at most the endpoint that it names: what one SETUP or HS-IN keeps of the devices. Assumes nothing.
use Rattle.std.proofs.Common.{arith, ◌≡◌, ℕ, ◌%◌, ◌≤◌, List, get_or, set, sym, ◌∙◌, subst}
use Rattle.std.proofs.lemmas.Grind.{common_steps}
use Rattle.std.proofs.lemmas.Bool.{cond_both}
use Rattle.port.specs.declared.directions.Direction.{Direction}
use Rattle.port.specs.declared.fates.Fate.{Fate}
use Rattle.port.specs.declared.fates.Fate.TheVariants.{Arrives, Lost, Unheard, Nak, Stall}
use Rattle.port.specs.Endpoints.{Endpoint, nowhere, cleared, place, lives}
use Rattle.port.specs.Devices.{Devices, clear_place, after_setup}
use Rattle.port.specs.Reactions.{outcome, at_address, setup_met, setup_outcome, hs_outcome}
use Rattle.host.specs.Opening.{clear_request}
use Rattle.host.proofs.Only.{Only}
use Rattle.host.proofs.Opened.{hs_kept}
use Rattle.host.proofs.Places.{place_same}
use Rattle.host.proofs.Targets.{finds}

-- at most the endpoint at this place has changed; none has its name changed, or has taken or handed over anything
pub record Reset (i : ℕ) (es es' : List Endpoint) : Type 0 where
  pub only : Only i es es'
  pub same_taken : (k : ℕ) → (get_or es' k nowhere).taken ≡ (get_or es k nowhere).taken
  pub same_waiting : (k : ℕ) → (get_or es' k nowhere).waiting ≡ (get_or es k nowhere).waiting

pub reset_none : (i : ℕ) (es : List Endpoint) → Reset i es es
reset_none i es = grind (arith, common_steps)

reset_more : (i : ℕ) (es es' : List Endpoint) → Reset i es es' → Reset i es (set es' i (cleared (get_or es' i nowhere)))
reset_more i es es' h = grind (arith, common_steps)

-- from the endpoints before the request
module _ (a e : ℕ) (way : Direction) (low : 1 ≤ e) (high : e ≤ 15) (es₀ : List Endpoint) where
  abbrev pub Resets : Devices → Type 0
  Resets d = Reset (place (a % 128) e way es₀) es₀ d.endpoints

  heard_resets : (d : Devices) → Resets d → Resets (after_setup (a % 128) (clear_request e way) d)
  unfolding after_setup
  heard_resets d h =
      let i = place (a % 128) e way es₀ in
      let es = d.endpoints in
      let same : clear_place (a % 128) (clear_request e way) es ≡ i = finds e low high (a % 128) way es ∙ place_same (a % 128) e way es₀ es h.only.as_many h.only.same_names in
      subst (λ k. Reset i es₀ (set es k (cleared (get_or es k nowhere)))) (sym same) (reset_more i es₀ es h)

  met_resets : (d : Devices) (fate : Fate) → Resets d → Resets (setup_met (a % 128) (clear_request e way) d fate).devices
  met_resets d Arrives h = heard_resets d h
  met_resets d (Lost code) h = h
  met_resets d (Unheard code) h = heard_resets d h
  met_resets d Nak h = h
  met_resets d Stall h = h

  pub setup_resets : (d : Devices) (fate : Fate) → Resets d → Resets (setup_outcome (a % 128) fate d (clear_request e way)).devices
  unfolding at_address
  setup_resets d fate h =
      cond_both (lives (a % 128) d.endpoints) (setup_met (a % 128) (clear_request e way) d fate) (outcome 14 d) (λ o. Resets o.devices)
      (λ _. met_resets d fate h) (λ _. h)

  pub hs_resets : (d : Devices) (fate : Fate) → Resets d → Resets (hs_outcome (a % 128) fate d).devices
  hs_resets d fate h = subst Resets (sym (hs_kept (a % 128) fate d)) h
