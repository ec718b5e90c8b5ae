-- Bytes that an endpoint has taken stay taken. Assumes nothing.
use Rattle.std.proofs.Common.{◌≡◌, ℕ, ◌+◌, Bool, true, false, cond, not, eqb, ltb, List, [], length, get_or, set, sym, refl, ap, ◌∙◌, subst, inl, inr, ⊎_elim, append-nil}
use Rattle.std.proofs.lemmas.List.{get_or-set_same, get_or-set_other, set_past}
use Rattle.std.proofs.lemmas.Bool.{cond_both, cases_lt, cases_eq}
use Rattle.port.specs.declared.directions.Direction.TheVariants as directions
use Rattle.port.specs.declared.fates.Fate.{Fate}
use Rattle.port.specs.declared.fates.Fate.TheVariants.{Arrives, Lost, Unheard, Nak, Stall}
use Rattle.port.specs.declared.toggles.Toggle.{Toggle}
use Rattle.port.specs.declared.transactions.Transaction.{Transaction}
use Rattle.port.specs.declared.transactions.Transaction.TheVariants.{Setup, In, Out, HsIn}
use Rattle.port.specs.Toggles.{agree}
use Rattle.port.specs.Chip.{Chip, load_sending, load_setup, set_count, clear_flags, set_address, set_toggles, packet}
use Rattle.port.specs.Endpoints.{Endpoint, nowhere, took, handed, place, lives, cleared}
use Rattle.port.specs.Devices.{Devices, clear_place, after_setup}
use Rattle.port.specs.Reactions.{Met, met, out_reaches, out_met, in_reaches, in_met, Outcome, outcome, out_at, in_at, at_place, at_address, setup_met}
use Rattle.port.specs.Bus.{Bus, with_chip, next_fate}
use Rattle.port.specs.Launches.{carried, refused, launch, outcome_of}
use Rattle.port.specs.Accesses.{after_put}
use Rattle.port.specs.Laws.{Grown, TakenBytesOnlyGrow}
use Rattle.port.proofs.Single.{launch_cases, get_devices}

-- nothing more was taken
same_grown : (bytes before after : List ℕ) → after ≡ before → Grown bytes before after
same_grown bytes before after h = ([], h ∙ sym (append-nil before), inl refl)

out_reached_grown : (toggle : Toggle) (bytes : List ℕ) (e : Endpoint) → Grown bytes e.taken (out_reaches toggle bytes e).endpoint.taken
out_reached_grown toggle bytes e =
    let P : Met → Type 0 = λ m. Grown bytes e.taken m.endpoint.taken in
    cond_both e.halted (met 5 e) _ P (λ _. same_grown bytes e.taken e.taken refl) λ _.
    cond_both (not (agree toggle e.toggle)) (met 0 e) _ P (λ _. same_grown bytes e.taken e.taken refl) λ _.
    cond_both (ltb e.capacity (length e.taken + length bytes)) (met 4 e) (met 0 (took bytes e)) P (λ _. same_grown bytes e.taken e.taken refl) λ _.
    (bytes, refl, inr refl)

out_grown : (fate : Fate) (toggle : Toggle) (bytes : List ℕ) (e : Endpoint) → Grown bytes e.taken (out_met fate toggle bytes e).endpoint.taken
out_grown Arrives toggle bytes e = out_reached_grown toggle bytes e
out_grown (Lost code) toggle bytes e = same_grown bytes e.taken e.taken refl
out_grown (Unheard code) toggle bytes e = out_reached_grown toggle bytes e
out_grown Nak toggle bytes e = same_grown bytes e.taken e.taken refl
out_grown Stall toggle bytes e = same_grown bytes e.taken e.taken refl

in_reached_taken : (heard : Bool) (toggle : Toggle) (e : Endpoint) → (in_reaches heard toggle e).endpoint.taken ≡ e.taken
in_reached_taken heard toggle e =
    let P : Met → Type 0 = λ m. m.endpoint.taken ≡ e.taken in
    cond_both e.halted (met 5 e) _ P (λ _. refl) λ _.
    cond_both (ltb 0 (length e.waiting)) (met (cond (agree toggle e.toggle) 0 6) (cond heard (handed e) e)) (met 4 e) P
    (λ _. cond_both heard (handed e) e (λ e'. e'.taken ≡ e.taken) (λ _. refl) (λ _. refl))
    (λ _. refl)

in_taken : (fate : Fate) (toggle : Toggle) (e : Endpoint) → (in_met fate toggle e).endpoint.taken ≡ e.taken
in_taken Arrives toggle e = in_reached_taken true toggle e
in_taken (Lost code) toggle e = refl
in_taken (Unheard code) toggle e = in_reached_taken false toggle e
in_taken Nak toggle e = refl
in_taken Stall toggle e = refl

-- every endpoint of a list against the one in its place of another
AllGrown : List ℕ → List Endpoint → List Endpoint → Type 0
AllGrown bytes es es' = (i : ℕ) → Grown bytes (get_or es i nowhere).taken (get_or es' i nowhere).taken

all_same : (bytes : List ℕ) (es : List Endpoint) → AllGrown bytes es es
unfolding AllGrown
all_same bytes es i = same_grown bytes (get_or es i nowhere).taken (get_or es i nowhere).taken refl

set_grown : (bytes : List ℕ) (es : List Endpoint) (k : ℕ) (e' : Endpoint) → Grown bytes (get_or es k nowhere).taken e'.taken → AllGrown bytes es (set es k e')
unfolding AllGrown
set_grown bytes es k e' h i =
    ⊎_elim
    (λ same.
    ⊎_elim
    (λ lt. subst (λ e. Grown bytes (get_or es i nowhere).taken e.taken) (sym (ap (λ n. get_or (set es k e') n nowhere) same ∙ get_or-set_same es k e' nowhere lt)) (subst (λ n. Grown bytes (get_or es n nowhere).taken e'.taken) (sym same) h))
    (λ le. same_grown bytes (get_or es i nowhere).taken (get_or (set es k e') i nowhere).taken (ap (λ l. (get_or l i nowhere).taken) (set_past es k e' le)))
    (cases_lt k (length es)))
    (λ other. same_grown bytes (get_or es i nowhere).taken (get_or (set es k e') i nowhere).taken (ap (λ e. e.taken) (get_or-set_other es k i e' nowhere other)))
    (cases_eq i k)

-- what comes of a transaction at a place, or at an address
OutcomeGrown : List ℕ → Devices → Outcome → Type 0
OutcomeGrown bytes d o = AllGrown bytes d.endpoints o.devices.endpoints

at_place_grown : (bytes : List ℕ) (f : Devices → ℕ → Outcome) (d : Devices) (i : ℕ) → OutcomeGrown bytes d (f d i) → OutcomeGrown bytes d (at_place f d i)
unfolding at_place OutcomeGrown
at_place_grown bytes f d i h = cond_both (ltb i (length d.endpoints)) (f d i) (outcome 14 d) (OutcomeGrown bytes d) (λ _. h) (λ _. all_same bytes d.endpoints)

at_address_grown : (bytes : List ℕ) (address : ℕ) (o : Outcome) (d : Devices) → OutcomeGrown bytes d o → OutcomeGrown bytes d (at_address address o d)
unfolding at_address OutcomeGrown
at_address_grown bytes address o d h = cond_both (lives address d.endpoints) o (outcome 14 d) (OutcomeGrown bytes d) (λ _. h) (λ _. all_same bytes d.endpoints)

setup_grown : (bytes : List ℕ) (address : ℕ) (setup : List ℕ) (d : Devices) → AllGrown bytes d.endpoints (after_setup address setup d).endpoints
unfolding after_setup
setup_grown bytes address setup d =
    let i = clear_place address setup d.endpoints in
    set_grown bytes d.endpoints i (cleared (get_or d.endpoints i nowhere)) (same_grown bytes (get_or d.endpoints i nowhere).taken _ refl)

setup_met_grown : (bytes : List ℕ) (address : ℕ) (setup : List ℕ) (d : Devices) (fate : Fate) → OutcomeGrown bytes d (setup_met address setup d fate)
unfolding OutcomeGrown
setup_met_grown bytes address setup d Arrives = setup_grown bytes address setup d
setup_met_grown bytes address setup d (Lost code) = all_same bytes _
setup_met_grown bytes address setup d (Unheard code) = setup_grown bytes address setup d
setup_met_grown bytes address setup d Nak = all_same bytes _
setup_met_grown bytes address setup d Stall = all_same bytes _

outcome_grown : (t : Transaction) (fate : Fate) (c : Chip) (d : Devices) → OutcomeGrown (packet c) d (outcome_of t fate c d)
unfolding OutcomeGrown
outcome_grown Setup fate c d = at_address_grown _ _ _ d (setup_met_grown _ _ _ d fate)
outcome_grown (In number) fate c d =
    let i = place c.address number directions.In d.endpoints in
    let e = get_or d.endpoints i nowhere in
    at_place_grown (packet c) (in_at fate c.receive_toggle) d i
    (set_grown (packet c) d.endpoints i (in_met fate c.receive_toggle e).endpoint (same_grown (packet c) e.taken _ (in_taken fate c.receive_toggle e)))
outcome_grown (Out number) fate c d =
    let i = place c.address number directions.Out d.endpoints in
    let e = get_or d.endpoints i nowhere in
    at_place_grown (packet c) (out_at fate c.send_toggle (packet c)) d i
    (set_grown (packet c) d.endpoints i (out_met fate c.send_toggle (packet c) e).endpoint (out_grown fate c.send_toggle (packet c) e))
outcome_grown HsIn fate c d = at_address_grown _ _ _ d (all_same _ _)

BusGrown : Bus → Bus → Type 0
BusGrown b b' = AllGrown (packet b.chip) b.devices.endpoints b'.devices.endpoints

chip_grown : (b : Bus) (c : Chip) → BusGrown b (with_chip b c)
unfolding BusGrown
chip_grown b c = all_same _ _

refused_grown : (b : Bus) → BusGrown b (refused b)
unfolding refused
refused_grown b = chip_grown b _

carried_grown : (b : Bus) (t : Transaction) → BusGrown b (carried t b)
unfolding carried BusGrown OutcomeGrown
carried_grown b t = outcome_grown t (next_fate b.fates) b.chip b.devices

put_grown : (b : Bus) (register value : ℕ) → BusGrown b (after_put register value b)
unfolding after_put
put_grown b register value =
    cond_both (eqb register 2) (with_chip b (load_sending b.chip value)) _ (BusGrown b) (λ _. chip_grown b _) λ _.
    cond_both (eqb register 4) (with_chip b (load_setup b.chip value)) _ (BusGrown b) (λ _. chip_grown b _) λ _.
    cond_both (eqb register 7) (with_chip b (set_count b.chip value)) _ (BusGrown b) (λ _. chip_grown b _) λ _.
    cond_both (eqb register 25) (with_chip b (clear_flags b.chip value)) _ (BusGrown b) (λ _. chip_grown b _) λ _.
    cond_both (eqb register 28) (with_chip b (set_address b.chip value)) _ (BusGrown b) (λ _. chip_grown b _) λ _.
    cond_both (eqb register 29) (with_chip b (set_toggles b.chip value)) _ (BusGrown b) (λ _. chip_grown b _) λ _.
    cond_both (eqb register 30) (launch value b) b (BusGrown b) (λ _. launch_cases value b (BusGrown b) (refused_grown b) (carried_grown b)) (λ _. chip_grown b b.chip)

pub taken_bytes_only_grow : TakenBytesOnlyGrow
unfolding BusGrown AllGrown
taken_bytes_only_grow = (λ b register value. put_grown b register value, λ b register. get_devices b register)
