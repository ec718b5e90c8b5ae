-- A launch changes no other endpoint, and a lost one changes none. Assumes nothing.
use Rattle.std.proofs.Common.{◌≡◌, ℕ, ◌+◌, ◌%◌, ◌<◌, ◌≤◌, true, false, ltb, List, [], ◌∷◌, length, get_or, set, Some, None, Option, sym, refl, ap, ◌∙◌, subst, ⊎_elim, arith}
use Rattle.std.proofs.lemmas.List.{get_or-set_other, set_past, set-get_or}
use Rattle.std.proofs.lemmas.Bool.{cond_both, cases_lt, cases_eq, cases_Bool, both_ways}
use Rattle.std.proofs.lemmas.Bool.Decides.{nat_tests}
use Rattle.port.specs.declared.directions.Direction.{Direction}
use Rattle.port.specs.declared.directions.Direction.TheVariants as directions
use Rattle.port.specs.declared.fates.Fate.{Fate}
use Rattle.port.specs.declared.fates.Fate.TheVariants.{Arrives, Lost, Unheard, Nak, Stall}
use Rattle.port.specs.declared.transactions.Transaction.{Transaction}
use Rattle.port.specs.declared.transactions.Transaction.TheVariants.{Setup, In, Out, HsIn}
use Rattle.port.specs.Transactions.{transaction_of}
use Rattle.port.specs.Chip.{Chip, packet, request}
use Rattle.port.specs.Endpoints.{Endpoint, nowhere, stands_at, place, lives}
use Rattle.port.specs.Devices.{Devices, with_endpoints, named_direction, clear_target, target_place, after_setup}
use Rattle.port.specs.Reactions.{Outcome, outcome, out_at, in_at, at_place, at_address, setup_met, hs_code}
use Rattle.port.specs.Bus.{Bus, next_fate}
use Rattle.port.specs.Launches.{carried, refused, launch_of, outcome_of}
use Rattle.port.specs.Laws.{OtherEndpointsStay, LostChangesNoDevice}
use Rattle.port.proofs.Places.{place_first, place_later}
use Rattle.port.proofs.Single.{put_30, launch_cases}

-- a place that was found is that of an endpoint which stands there
module _ (a n : ℕ) (d : Direction) where
  pub place_stands : (es : List Endpoint) → place a n d es < length es → stands_at a n d (get_or es (place a n d es) nowhere) ≡ true
  place_stands [] h = absurd (omega arith)
  place_stands (e ∷ es) h =
      ⊎_elim
      (λ t. subst (λ k. stands_at a n d (get_or (e ∷ es) k nowhere) ≡ true) (sym (place_first a n d e es t)) t)
      (λ f.
      let later = place_later a n d e es f in
      subst (λ k. stands_at a n d (get_or (e ∷ es) k nowhere) ≡ true) (sym later) (place_stands es (omega arith)))
      (cases_Bool (stands_at a n d e))

  -- a change at that place leaves an endpoint which does not stand there
  pub kept_elsewhere : (es : List Endpoint) (e' : Endpoint) (k : ℕ) → stands_at a n d (get_or es k nowhere) ≡ false → get_or (set es (place a n d es) e') k nowhere ≡ get_or es k nowhere
  kept_elsewhere es e' k f =
      ⊎_elim
      (λ same.
      ⊎_elim
      (λ lt. absurd (both_ways (stands_at a n d (get_or es k nowhere)) f (subst (λ i. stands_at a n d (get_or es i nowhere) ≡ true) (sym same) (place_stands es lt))))
      (λ le. ap (λ l. get_or l k nowhere) (set_past es (place a n d es) e' le))
      (cases_lt (place a n d es) (length es)))
      (λ other. get_or-set_other es (place a n d es) k e' nowhere other)
      (cases_eq k (place a n d es))

KeptAt : ℕ → Devices → Devices → Type 0
KeptAt k d d' = get_or d'.endpoints k nowhere ≡ get_or d.endpoints k nowhere

at_place_kept : (k : ℕ) (f : Devices → ℕ → Outcome) (d : Devices) (i : ℕ) → KeptAt k d (f d i).devices → KeptAt k d (at_place f d i).devices
unfolding at_place KeptAt
at_place_kept k f d i h = cond_both (ltb i (length d.endpoints)) (f d i) (outcome 14 d) (λ o. KeptAt k d o.devices) (λ _. h) (λ _. refl)

at_address_kept : (k address : ℕ) (o : Outcome) (d : Devices) → KeptAt k d o.devices → KeptAt k d (at_address address o d).devices
unfolding at_address KeptAt
at_address_kept k address o d h = cond_both (lives address d.endpoints) o (outcome 14 d) (λ o. KeptAt k d o.devices) (λ _. h) (λ _. refl)

-- a setup that asks to clear another endpoint, or none
target_kept : (a k : ℕ) (es : List Endpoint) (e' : Endpoint) (t : Option ℕ) → ((ee : ℕ) → t ≡ Some ee → stands_at a (ee % 16) (named_direction ee) (get_or es k nowhere) ≡ false) → get_or (set es (target_place a t es) e') k nowhere ≡ get_or es k nowhere
target_kept a k es e' None h = ap (λ l. get_or l k nowhere) (set_past es (length es) e' (omega arith))
target_kept a k es e' (Some ee) h = kept_elsewhere a (ee % 16) (named_direction ee) es e' k (h ee refl)

module _ (a k : ℕ) (bytes : List ℕ) (d : Devices) (other : (ee : ℕ) → clear_target bytes ≡ Some ee → stands_at a (ee % 16) (named_direction ee) (get_or d.endpoints k nowhere) ≡ false) where
  heard_kept : KeptAt k d (after_setup a bytes d)
  unfolding KeptAt after_setup
  heard_kept = target_kept a k d.endpoints _ (clear_target bytes) other

  setup_kept : (fate : Fate) → KeptAt k d (setup_met a bytes d fate).devices
  unfolding KeptAt
  setup_kept Arrives = heard_kept
  setup_kept (Lost code) = refl
  setup_kept (Unheard code) = heard_kept
  setup_kept Nak = refl
  setup_kept Stall = refl

-- the legal values of OUT and IN
pub is_out : (number : ℕ) → 1 ≤ number → number ≤ 15 → transaction_of (0x20 + number) ≡ Some (Out number)
is_out number low high = grind (arith, nat_tests)

pub is_in : (number : ℕ) → 1 ≤ number → number ≤ 15 → transaction_of number ≡ Some (In number)
is_in number low high = grind (arith, nat_tests)

out_kept : (b : Bus) (number k : ℕ) → stands_at b.chip.address number directions.Out (get_or b.devices.endpoints k nowhere) ≡ false → KeptAt k b.devices (carried (Out number) b).devices
unfolding carried KeptAt
out_kept b number k f =
    at_place_kept k (out_at (next_fate b.fates) b.chip.send_toggle (packet b.chip)) b.devices _
    (kept_elsewhere b.chip.address number directions.Out b.devices.endpoints _ k f)

in_kept : (b : Bus) (number k : ℕ) → stands_at b.chip.address number directions.In (get_or b.devices.endpoints k nowhere) ≡ false → KeptAt k b.devices (refused b).devices × KeptAt k b.devices (carried (In number) b).devices
unfolding refused carried KeptAt
in_kept b number k f = (
  refl,
  at_place_kept k (in_at (next_fate b.fates) b.chip.receive_toggle) b.devices _
      (kept_elsewhere b.chip.address number directions.In b.devices.endpoints _ k f),
)

carried_setup_kept : (b : Bus) (k : ℕ) → ((ee : ℕ) → clear_target (request b.chip) ≡ Some ee → stands_at b.chip.address (ee % 16) (named_direction ee) (get_or b.devices.endpoints k nowhere) ≡ false) → KeptAt k b.devices (carried Setup b).devices
unfolding carried
carried_setup_kept b k other = at_address_kept k b.chip.address _ b.devices (setup_kept b.chip.address k (request b.chip) b.devices other (next_fate b.fates))

carried_hs_kept : (b : Bus) → (carried HsIn b).devices ≡ b.devices
unfolding carried at_address
carried_hs_kept b =
    cond_both (lives b.chip.address b.devices.endpoints) (outcome (hs_code b.chip.address b.devices (next_fate b.fates)) b.devices) (outcome 14 b.devices) (λ o. o.devices ≡ b.devices) (λ _. refl) (λ _. refl)

pub other_endpoints_stay : OtherEndpointsStay
unfolding KeptAt
other_endpoints_stay = (
  λ b number k low high f. ap (λ b'. get_or b'.devices.endpoints k nowhere) (put_30 (0x20 + number) b ∙ ap (λ t. launch_of t b) (is_out number low high)) ∙ out_kept b number k f,
  λ b number k low high f.
      let both = in_kept b number k f in
      ap (λ b'. get_or b'.devices.endpoints k nowhere) (put_30 number b ∙ ap (λ t. launch_of t b) (is_in number low high))
      ∙ cond_both b.chip.received (refused b) (carried (In number) b) (λ b'. KeptAt k b.devices b'.devices) (λ _. both.0) (λ _. both.1),
  λ b k other. ap (λ b'. get_or b'.devices.endpoints k nowhere) (put_30 0x10 b) ∙ carried_setup_kept b k other,
  λ b. ap (λ b'. b'.devices) (put_30 0x80 b) ∙ carried_hs_kept b,
)

-- what is lost reaches no device
lost_kept : (t : Transaction) (code : ℕ) (c : Chip) (d : Devices) → (outcome_of t (Lost code) c d).devices ≡ d
unfolding at_place at_address
lost_kept Setup code c d = cond_both (lives c.address d.endpoints) (outcome code d) (outcome 14 d) (λ o. o.devices ≡ d) (λ _. refl) (λ _. refl)
lost_kept (In number) code c d =
    let i = place c.address number directions.In d.endpoints in
    cond_both (ltb i (length d.endpoints)) (in_at (Lost code) c.receive_toggle d i) (outcome 14 d) (λ o. o.devices ≡ d)
    (λ _. ap (with_endpoints d) (set-get_or d.endpoints i nowhere)) (λ _. refl)
lost_kept (Out number) code c d =
    let i = place c.address number directions.Out d.endpoints in
    cond_both (ltb i (length d.endpoints)) (out_at (Lost code) c.send_toggle (packet c) d i) (outcome 14 d) (λ o. o.devices ≡ d)
    (λ _. ap (with_endpoints d) (set-get_or d.endpoints i nowhere)) (λ _. refl)
lost_kept HsIn code c d = cond_both (lives c.address d.endpoints) (outcome code d) (outcome 14 d) (λ o. o.devices ≡ d) (λ _. refl) (λ _. refl)

refused_keeps : (b : Bus) → (refused b).devices ≡ b.devices
unfolding refused
refused_keeps b = refl

lost_carried : (b : Bus) (code : ℕ) → next_fate b.fates ≡ Lost code → (t : Transaction) → (carried t b).devices ≡ b.devices
unfolding carried
lost_carried b code f t = ap (λ fate. (outcome_of t fate b.chip b.devices).devices) f ∙ lost_kept t code b.chip b.devices

pub lost_changes_no_device : LostChangesNoDevice
lost_changes_no_device b value code f = launch_cases value b (λ b'. b'.devices ≡ b.devices) (refused_keeps b) (lost_carried b code f)
