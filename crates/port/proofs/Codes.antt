-- Every byte is read as a fate with a code of 7 to 15, and so every result code is below 16. Assumes nothing.
use Rattle.std.proofs.Common.{◌≡◌, ℕ, ◌+◌, ◌/◌, ◌%◌, ◌<◌, ◌≤◌, Bool, true, false, cond, not, eqb, ltb, leb, List, [], ◌∷◌, length, arith}
use Rattle.std.proofs.lemmas.Bool.{cond_both, and_parts, leb-true}
use Rattle.port.specs.declared.fates.Fate.{Fate}
use Rattle.port.specs.declared.fates.Fate.TheVariants.{Arrives, Lost, Unheard, Nak, Stall}
use Rattle.port.specs.declared.toggles.Toggle.{Toggle}
use Rattle.port.specs.Fates.{coded, fate_of, Real}
use Rattle.port.specs.Toggles.{agree}
use Rattle.port.specs.Endpoints.{Endpoint, took, handed, lives}
use Rattle.port.specs.Devices.{Devices, heard_good}
use Rattle.port.specs.Reactions.{Met, met, out_met, in_met, in_reaches, Outcome, outcome, out_at, in_at, at_place, at_address, out_outcome, in_outcome, setup_met, setup_outcome, hs_code, hs_outcome}
use Rattle.port.specs.declared.transactions.Transaction.{Transaction}
use Rattle.port.specs.declared.transactions.Transaction.TheVariants.{Setup, In, Out, HsIn}
use Rattle.port.specs.Chip.{Chip}
use Rattle.port.specs.Bus.{next_fate}
use Rattle.port.specs.Launches.{outcome_of}

coded_small : (kind byte : ℕ) → coded kind byte ≡ true → (7 ≤ byte % 16) × (byte % 16 ≤ 15)
coded_small kind byte h =
    let both = and_parts (eqb (byte / 16) kind) (leb 7 (byte % 16)) h in
    (leb-true 7 (byte % 16) both.1, omega arith)

pub fate_real : (byte : ℕ) → Real (fate_of byte)
fate_real byte =
    cond_both (eqb byte 0x00) Arrives _ Real (λ _. tt) λ _.
    cond_both (eqb byte 0x30) Nak _ Real (λ _. tt) λ _.
    cond_both (eqb byte 0x40) Stall _ Real (λ _. tt) λ _.
    cond_both (coded 1 byte) (Lost (byte % 16)) _ Real (coded_small 1 byte) λ _.
    cond_both (coded 2 byte) (Unheard (byte % 16)) _ Real (coded_small 2 byte) λ _.
    (omega arith, omega arith)

pub next_real : (bytes : List ℕ) → Real (next_fate bytes)
next_real [] = (omega arith, omega arith)
next_real (byte ∷ bytes) = fate_real byte

SmallMet : Met → Type 0
SmallMet m = m.code < 16

Small : Outcome → Type 0
Small o = o.code < 16

out_reached : (toggle : Toggle) (bytes : List ℕ) (e : Endpoint) → SmallMet (out_met Arrives toggle bytes e)
unfolding SmallMet
out_reached toggle bytes e =
    cond_both e.halted (met 5 e) _ SmallMet (λ _. omega arith) λ _.
    cond_both (not (agree toggle e.toggle)) (met 0 e) _ SmallMet (λ _. omega arith) λ _.
    cond_both (ltb e.capacity (length e.taken + length bytes)) (met 4 e) (met 0 (took bytes e)) SmallMet (λ _. omega arith) λ _. omega arith

out_small : (fate : Fate) (toggle : Toggle) (bytes : List ℕ) (e : Endpoint) → Real fate → SmallMet (out_met fate toggle bytes e)
unfolding SmallMet
out_small Arrives toggle bytes e r = out_reached toggle bytes e
out_small (Lost code) toggle bytes e r = omega arith
out_small (Unheard code) toggle bytes e r = omega arith
out_small Nak toggle bytes e r = omega arith
out_small Stall toggle bytes e r = omega arith

in_reached : (heard : Bool) (toggle : Toggle) (e : Endpoint) → SmallMet (in_reaches heard toggle e)
unfolding SmallMet
in_reached heard toggle e =
    cond_both e.halted (met 5 e) _ SmallMet (λ _. omega arith) λ _.
    cond_both (ltb 0 (length e.waiting)) (met (cond (agree toggle e.toggle) 0 6) (cond heard (handed e) e)) (met 4 e) SmallMet
    (λ _. cond_both (agree toggle e.toggle) 0 6 (λ n. n < 16) (λ _. omega arith) λ _. omega arith)
    λ _. omega arith

in_small : (fate : Fate) (toggle : Toggle) (e : Endpoint) → Real fate → SmallMet (in_met fate toggle e)
unfolding SmallMet
in_small Arrives toggle e r = in_reached true toggle e
in_small (Lost code) toggle e r = omega arith
in_small (Unheard code) toggle e r = in_reached false toggle e
in_small Nak toggle e r = omega arith
in_small Stall toggle e r = omega arith

setup_small : (address : ℕ) (bytes : List ℕ) (d : Devices) (fate : Fate) → Real fate → Small (setup_met address bytes d fate)
unfolding Small
setup_small address bytes d Arrives r = omega arith
setup_small address bytes d (Lost code) r = omega arith
setup_small address bytes d (Unheard code) r = omega arith
setup_small address bytes d Nak r = omega arith
setup_small address bytes d Stall r = omega arith

hs_answer_small : (b : Bool) → cond b 0 5 < 16
hs_answer_small true = omega arith
hs_answer_small false = omega arith

hs_small : (address : ℕ) (d : Devices) (fate : Fate) → Real fate → hs_code address d fate < 16
hs_small address d Arrives r = hs_answer_small (heard_good address d.heard)
hs_small address d (Lost code) r = omega arith
hs_small address d (Unheard code) r = hs_answer_small (heard_good address d.heard)
hs_small address d Nak r = omega arith
hs_small address d Stall r = omega arith

at_place_small : (f : Devices → ℕ → Outcome) (d : Devices) (i : ℕ) → (f d i).code < 16 → (at_place f d i).code < 16
unfolding at_place Small
at_place_small f d i h = cond_both (ltb i (length d.endpoints)) (f d i) (outcome 14 d) Small (λ _. h) λ _. omega arith

at_address_small : (address : ℕ) (o : Outcome) (d : Devices) → o.code < 16 → (at_address address o d).code < 16
unfolding at_address Small
at_address_small address o d h = cond_both (lives address d.endpoints) o (outcome 14 d) Small (λ _. h) λ _. omega arith

-- whatever the fate, the result code of each transaction is below 16
module _ (address : ℕ) (fate : Fate) (d : Devices) (r : Real fate) where
  pub out_code_small : (number : ℕ) (toggle : Toggle) (bytes : List ℕ) → (out_outcome address fate d number toggle bytes).code < 16
  unfolding SmallMet
  out_code_small number toggle bytes = at_place_small (out_at fate toggle bytes) d _ (out_small fate _ _ _ r)

  pub in_code_small : (number : ℕ) (toggle : Toggle) → (in_outcome address fate d number toggle).code < 16
  unfolding SmallMet
  in_code_small number toggle = at_place_small (in_at fate toggle) d _ (in_small fate _ _ r)

  pub setup_code_small : (bytes : List ℕ) → (setup_outcome address fate d bytes).code < 16
  unfolding Small
  setup_code_small bytes = at_address_small _ _ d (setup_small _ _ d fate r)

  pub hs_code_small : (hs_outcome address fate d).code < 16
  hs_code_small = at_address_small _ _ d (hs_small _ d fate r)

pub outcome_small : (t : Transaction) (fate : Fate) (c : Chip) (d : Devices) → Real fate → (outcome_of t fate c d).code < 16
outcome_small Setup fate c d r = setup_code_small _ fate d r _
outcome_small (In number) fate c d r = in_code_small _ fate d r number _
outcome_small (Out number) fate c d r = out_code_small _ fate d r number _ _
outcome_small HsIn fate c d r = hs_code_small _ fate d r
