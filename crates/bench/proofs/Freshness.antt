-- Setting up keeps a fresh bus fresh. Assumes nothing.
use Rattle.std.proofs.Common.{◌≡◌, ℕ, zero, suc, ◌<◌, ◌≤◌, Bool, true, false, ◌&&◌, eqb, ltb, leb, List, [], ◌∷◌, ◌++◌, length, get_or, set, sym, refl, ap, ◌∙◌, ⊎_elim, arith}
use Rattle.std.proofs.ByRecursion.{All-get_or, All-set, All-push}
use Rattle.std.proofs.lemmas.List.{length_push, length-set, get_or_append_left, get_or_push, get_or-set_same, get_or-set_other}
use Rattle.std.proofs.lemmas.Bool.Decides.{nat_tests}
use Rattle.std.proofs.lemmas.Bool.{and_parts, leb-true, ltb-true, cases_eq, cases_lt, cases_Bool}
use Rattle.port.specs.declared.directions.Direction.{Direction}
use Rattle.port.specs.declared.directions.Direction.TheVariants.{Out, In}
use Rattle.port.specs.Directions.{facing}
use Rattle.port.specs.Endpoints.{Endpoint, nowhere, stands_at, place, InRange, WellFormed, FreshEndpoint}
use Rattle.port.proofs.Places.{place_first, place_later}
use Rattle.devices.specs.declared.plans.EndpointPlan.{EndpointPlan}
use Rattle.devices.specs.Setups.{planned, in_range, vacant, more_waiting, packet_place}
use Rattle.bench.specs.Laws.{SetUpBusesAreFresh}

eqb_swap : (a b : ℕ) → eqb a b ≡ eqb b a
eqb_swap a b = grind (arith, nat_tests)

facing_swap : (d e : Direction) → facing d e ≡ facing e d
facing_swap Out Out = refl
facing_swap Out In = refl
facing_swap In Out = refl
facing_swap In In = refl

-- two endpoints by their addresses, numbers and directions
abbrev same_spot : ℕ → ℕ → Direction → ℕ → ℕ → Direction → Bool
same_spot a n d a' n' d' = eqb a' a && (eqb n' n && facing d' d)

swap : (x y : Endpoint) → stands_at x.address x.number x.direction y ≡ stands_at y.address y.number y.direction x
swap x y = λ i. eqb_swap y.address x.address i && (eqb_swap y.number x.number i && facing_swap y.direction x.direction i)

-- where the search finds nothing, no endpoint stands there
none_stands : (a n : ℕ) (d : Direction) (es : List Endpoint) (i : ℕ) → length es ≤ place a n d es → i < length es → stands_at a n d (get_or es i nowhere) ≡ false
none_stands a n d [] i h lt = absurd (omega arith)
none_stands a n d (e ∷ es) zero h lt =
    ⊎_elim
    (λ t. let z = place_first a n d e es t in absurd (omega arith))
    (λ f. f)
    (cases_Bool (stands_at a n d e))
none_stands a n d (e ∷ es) (suc i) h lt =
    ⊎_elim
    (λ t. let z = place_first a n d e es t in absurd (omega arith))
    (λ f. let z = place_later a n d e es f in none_stands a n d es i (omega arith) (omega arith))
    (cases_Bool (stands_at a n d e))

module _ (es : List Endpoint) (formed : WellFormed es) where
  -- one endpoint more, at a place where none stands
  distinct_push : (e : Endpoint) → length es ≤ place e.address e.number e.direction es → (i j : ℕ) → i < j → j < length (es ++ e ∷ []) → stands_at (get_or (es ++ e ∷ []) i nowhere).address (get_or (es ++ e ∷ []) i nowhere).number (get_or (es ++ e ∷ []) i nowhere).direction (get_or (es ++ e ∷ []) j nowhere) ≡ false
  distinct_push e free i j lt within =
      let long = length_push es e in
      let old : i < length es = omega arith in
      let first = get_or_append_left es (e ∷ []) nowhere i old in
      ⊎_elim
      (λ earlier.
      let last = get_or_append_left es (e ∷ []) nowhere j earlier in
      (λ k. stands_at (first k).address (first k).number (first k).direction (last k)) ∙ formed.distinct i j lt earlier)
      (λ le.
      let last = get_or_push es e nowhere j (let h : length es ≡ j = omega arith in h) in
      (λ k. stands_at (first k).address (first k).number (first k).direction (last k))
      ∙ swap (get_or es i nowhere) e
      ∙ none_stands e.address e.number e.direction es i free old)
      (cases_lt j (length es))

  -- another state of one endpoint
  module _ (k : ℕ) (e' : Endpoint) (lt : k < length es) (a : e'.address ≡ (get_or es k nowhere).address) (n : e'.number ≡ (get_or es k nowhere).number) (d : e'.direction ≡ (get_or es k nowhere).direction) where
    same_at : (i : ℕ) → ((get_or (set es k e') i nowhere).address ≡ (get_or es i nowhere).address) × ((get_or (set es k e') i nowhere).number ≡ (get_or es i nowhere).number) × ((get_or (set es k e') i nowhere).direction ≡ (get_or es i nowhere).direction)
    same_at i =
        ⊎_elim
        (λ same.
        let here : get_or (set es k e') i nowhere ≡ e' = ap (λ m. get_or (set es k e') m nowhere) same ∙ get_or-set_same es k e' nowhere lt in
        let there : get_or es k nowhere ≡ get_or es i nowhere = ap (λ m. get_or es m nowhere) (sym same) in
        (ap (λ x. x.address) here ∙ a ∙ ap (λ x. x.address) there, ap (λ x. x.number) here ∙ n ∙ ap (λ x. x.number) there, ap (λ x. x.direction) here ∙ d ∙ ap (λ x. x.direction) there))
        (λ other. let e = get_or-set_other es k i e' nowhere other in (ap (λ x. x.address) e, ap (λ x. x.number) e, ap (λ x. x.direction) e))
        (cases_eq i k)

    distinct_set : (i j : ℕ) → i < j → j < length (set es k e') → stands_at (get_or (set es k e') i nowhere).address (get_or (set es k e') i nowhere).number (get_or (set es k e') i nowhere).direction (get_or (set es k e') j nowhere) ≡ false
    distinct_set i j before within =
        let long = length-set es k e' in
        let x = same_at i in
        let y = same_at j in
        (λ m. same_spot (x.0 m) (x.1 m) (x.2 m) (y.0 m) (y.1 m) (y.2 m)) ∙ formed.distinct i j before (omega arith)

-- the parts of a plan that is in range
plan_in_range : (p : EndpointPlan) → in_range p ≡ true → InRange (planned p)
plan_in_range p h =
    record {
      address_above = grind (arith, nat_tests);
      address_most = grind (arith, nat_tests);
      number_above = grind (arith, nat_tests);
      number_most = grind (arith, nat_tests);
      capacity_most = grind (arith, nat_tests);
      taken_most = omega arith;
      packets_most = omega arith;
      packet_most = tt;
    }

one_more_waits : (e : Endpoint) (bytes : List ℕ) → InRange e → length bytes ≤ 64 → length e.waiting < 16 → InRange (more_waiting bytes e)
one_more_waits e bytes h short few =
    record {
      address_above = h.address_above;
      address_most = h.address_most;
      number_above = h.number_above;
      number_most = h.number_most;
      capacity_most = h.capacity_most;
      taken_most = h.taken_most;
      packets_most = (let l = length_push e.waiting bytes in omega arith);
      packet_most = All-push (λ p. length p ≤ 64) e.waiting bytes h.packet_most short;
    }

pub set_up_buses_are_fresh : SetUpBusesAreFresh
set_up_buses_are_fresh = (
  record { chip_fresh = refl; endpoints_formed = record { each = tt; distinct = λ i j lt within. absurd (omega arith) }; endpoints_fresh = tt; none_heard = refl },
  λ b p fresh fits.
      let es = b.devices.endpoints in
      let parts = and_parts (in_range p) (vacant p es) fits in
      let free = leb-true (length es) (place p.address p.number p.direction es) (and_parts (ltb (length es) 8) _ parts.1).1 in
      record {
        chip_fresh = fresh.chip_fresh;
        endpoints_formed = record {
          each = All-push InRange es (planned p) fresh.endpoints_formed.each (plan_in_range p parts.0);
          distinct = distinct_push es fresh.endpoints_formed (planned p) free;
        };
        endpoints_fresh = All-push FreshEndpoint es (planned p) fresh.endpoints_fresh refl;
        none_heard = fresh.none_heard;
      },
  λ b address number bytes fresh fits.
      let es = b.devices.endpoints in
      let i = packet_place address number b.devices in
      let e = get_or es i nowhere in
      let parts = and_parts (leb (length bytes) 64) (ltb i (length es) && ltb (length e.waiting) 16) fits in
      let more = and_parts (ltb i (length es)) (ltb (length e.waiting) 16) parts.1 in
      let lt = ltb-true i (length es) more.0 in
      record {
        chip_fresh = fresh.chip_fresh;
        endpoints_formed = record {
          each = All-set InRange es i (more_waiting bytes e) (one_more_waits e bytes (All-get_or InRange es i nowhere lt fresh.endpoints_formed.each) (leb-true (length bytes) 64 parts.0) (ltb-true (length e.waiting) 16 more.1)) fresh.endpoints_formed.each;
          distinct = distinct_set es fresh.endpoints_formed i (more_waiting bytes e) lt refl refl refl;
        };
        endpoints_fresh = All-set FreshEndpoint es i (more_waiting bytes e) (All-get_or FreshEndpoint es i nowhere lt fresh.endpoints_fresh) fresh.endpoints_fresh;
        none_heard = fresh.none_heard;
      },
  λ b bytes fresh. record { chip_fresh = fresh.chip_fresh; endpoints_formed = fresh.endpoints_formed; endpoints_fresh = fresh.endpoints_fresh; none_heard = fresh.none_heard },
)
