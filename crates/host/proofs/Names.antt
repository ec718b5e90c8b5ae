-- No register access makes an endpoint, takes one away or changes a name, and so no call does. Assumes nothing.
use Rattle.std.proofs.Common.{arith, ◌≡◌, ℕ, eqb, List, length, get_or, set}
use Rattle.std.proofs.lemmas.Grind.{common_steps}
use Rattle.std.proofs.lemmas.Bool.{cond_both}
use Rattle.port.specs.declared.directions.Direction.TheVariants as directions
use Rattle.port.specs.declared.fates.Fate.{Fate}
use Rattle.port.specs.declared.fates.Fate.TheVariants.{Arrives, Lost, Unheard, Nak, Stall}
use Rattle.port.specs.declared.toggles.Toggle.{Toggle}
use Rattle.port.specs.declared.transactions.Transaction.{Transaction}
use Rattle.port.specs.declared.transactions.Transaction.TheVariants.{Setup, In, Out, HsIn}
use Rattle.port.specs.Chip.{Chip, packet, request, load_sending, load_setup, set_count, clear_flags, set_address, set_toggles}
use Rattle.port.specs.Endpoints.{Endpoint, nowhere, place}
use Rattle.port.specs.Devices.{Devices, after_setup}
use Rattle.port.specs.Reactions.{in_met, out_met, Outcome, out_at, in_at, at_place, at_address, setup_met}
use Rattle.port.specs.Bus.{Bus, with_chip, next_fate}
use Rattle.port.specs.Launches.{outcome_of, carried, refused, launch}
use Rattle.port.specs.Accesses.{after_put, after_get}
use Rattle.port.proofs.Single.{launch_cases}
use Rattle.host.specs.Effects.{SameName, SameEndpoints}
use Rattle.host.specs.Laws.{Reached, here, put, get, launch as launched}
use Rattle.host.proofs.Touches.{met_named}

in_named : (fate : Fate) (toggle : Toggle) (e : Endpoint) → SameName e (in_met fate toggle e).endpoint
in_named fate toggle e = grind (arith, common_steps)

-- two lists of endpoints with the same names in the same places
record Named (es es' : List Endpoint) : Type 0 where
  pub as_many : length es' ≡ length es
  pub same_names : (k : ℕ) → SameName (get_or es k nowhere) (get_or es' k nowhere)

same_list : (es : List Endpoint) → Named es es
same_list es = grind (arith, common_steps)

set_named : (es : List Endpoint) (i : ℕ) (e' : Endpoint) → SameName (get_or es i nowhere) e' → Named es (set es i e')
set_named es i e' h = grind (arith, common_steps)

at_place_named : (f : Devices → ℕ → Outcome) (d : Devices) (i : ℕ) → Named d.endpoints (f d i).devices.endpoints → Named d.endpoints (at_place f d i).devices.endpoints
unfolding at_place
at_place_named f d i h = grind (arith, common_steps)

at_address_named : (address : ℕ) (o : Outcome) (d : Devices) → Named d.endpoints o.devices.endpoints → Named d.endpoints (at_address address o d).devices.endpoints
unfolding at_address
at_address_named address o d h = grind (arith, common_steps)

setup_named : (address : ℕ) (bytes : List ℕ) (d : Devices) → Named d.endpoints (after_setup address bytes d).endpoints
unfolding after_setup
setup_named address bytes d = grind (arith, common_steps)

setup_met_named : (address : ℕ) (bytes : List ℕ) (d : Devices) (fate : Fate) → Named d.endpoints (setup_met address bytes d fate).devices.endpoints
setup_met_named address bytes d Arrives = setup_named address bytes d
setup_met_named address bytes d (Lost code) = same_list d.endpoints
setup_met_named address bytes d (Unheard code) = setup_named address bytes d
setup_met_named address bytes d Nak = same_list d.endpoints
setup_met_named address bytes d Stall = same_list d.endpoints

outcome_named : (t : Transaction) (fate : Fate) (c : Chip) (d : Devices) → Named d.endpoints (outcome_of t fate c d).devices.endpoints
outcome_named Setup fate c d = at_address_named c.address (setup_met c.address (request c) d fate) d (setup_met_named c.address (request c) d fate)
outcome_named (In number) fate c d =
    let i = place c.address number directions.In d.endpoints in
    at_place_named (in_at fate c.receive_toggle) d i (set_named d.endpoints i (in_met fate c.receive_toggle (get_or d.endpoints i nowhere)).endpoint (in_named fate c.receive_toggle (get_or d.endpoints i nowhere)))
outcome_named (Out number) fate c d =
    let i = place c.address number directions.Out d.endpoints in
    at_place_named (out_at fate c.send_toggle (packet c)) d i (set_named d.endpoints i (out_met fate c.send_toggle (packet c) (get_or d.endpoints i nowhere)).endpoint (met_named fate c.send_toggle (packet c) (get_or d.endpoints i nowhere)))
outcome_named HsIn fate c d = at_address_named c.address _ d (same_list d.endpoints)

pub same_bus : (b : Bus) → SameEndpoints b b
same_bus b = grind (arith, common_steps)

pub bus_twice : (x y z : Bus) → SameEndpoints x y → SameEndpoints y z → SameEndpoints x z
bus_twice x y z one two = grind (arith, common_steps)

chip_named : (b : Bus) (c : Chip) → SameEndpoints b (with_chip b c)
chip_named b c = grind (arith, common_steps)

refused_named : (b : Bus) → SameEndpoints b (refused b)
unfolding refused
refused_named b = chip_named b _

carried_named : (b : Bus) (t : Transaction) → SameEndpoints b (carried t b)
unfolding carried
carried_named b t = let h = outcome_named t (next_fate b.fates) b.chip b.devices in record { as_many = h.as_many; same_names = h.same_names }

put_named : (register value : ℕ) (b : Bus) → SameEndpoints b (after_put register value b)
unfolding after_put
put_named register value b =
    cond_both (eqb register 2) (with_chip b (load_sending b.chip value)) _ (SameEndpoints b) (λ _. chip_named b _) λ _.
    cond_both (eqb register 4) (with_chip b (load_setup b.chip value)) _ (SameEndpoints b) (λ _. chip_named b _) λ _.
    cond_both (eqb register 7) (with_chip b (set_count b.chip value)) _ (SameEndpoints b) (λ _. chip_named b _) λ _.
    cond_both (eqb register 25) (with_chip b (clear_flags b.chip value)) _ (SameEndpoints b) (λ _. chip_named b _) λ _.
    cond_both (eqb register 28) (with_chip b (set_address b.chip value)) _ (SameEndpoints b) (λ _. chip_named b _) λ _.
    cond_both (eqb register 29) (with_chip b (set_toggles b.chip value)) _ (SameEndpoints b) (λ _. chip_named b _) λ _.
    cond_both (eqb register 30) (launch value b) b (SameEndpoints b) (λ _. launch_cases value b (SameEndpoints b) (refused_named b) (carried_named b)) (λ _. same_bus b)

get_named : (register : ℕ) (b : Bus) → SameEndpoints b (after_get register b)
unfolding after_get
get_named register b = grind (arith, common_steps)

-- however a bus was reached by accesses
pub reached_named : {n : ℕ} {b b' : Bus} → Reached n b b' → SameEndpoints b b'
reached_named {b = b} here = same_bus b
reached_named {b = b} (put {b' = b'} register value other r) = bus_twice b b' (after_put register value b') (reached_named r) (put_named register value b')
reached_named {b = b} (get {b' = b'} register r) = bus_twice b b' (after_get register b') (reached_named r) (get_named register b')
reached_named {b = b} (launched {b' = b'} value r) = bus_twice b b' (after_put 30 value b') (reached_named r) (put_named 30 value b')
