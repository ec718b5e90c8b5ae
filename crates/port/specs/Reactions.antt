-- What the devices do when a transaction meets a given fate: the result code that the host sees, and the devices afterwards.
-- Where the fates come from plays no part here. Assumes nothing.
use Rattle.std.specs.Prelude.{ℕ, ◌+◌, Bool, true, false, cond, not, List, [], ◌∷◌, length, nat_lt, slice_index_or, slice_set}
use Rattle.port.specs.declared.directions.Direction.TheVariants.{Out, In}
use Rattle.port.specs.declared.fates.Fate.{Fate}
use Rattle.port.specs.declared.fates.Fate.TheVariants.{Arrives, Lost, Unheard, Nak, Stall}
use Rattle.port.specs.declared.toggles.Toggle.{Toggle}
use Rattle.port.specs.Toggles.{agree}
use Rattle.port.specs.Endpoints.{Endpoint, nowhere, halt, took, handed, place, lives}
use Rattle.port.specs.Devices.{Devices, with_endpoints, after_setup, heard_good}

-- one endpoint's part in a transaction: the result code, and the endpoint afterwards
pub record Met : Type 0 where
  pub code : ℕ
  pub endpoint : Endpoint

abbrev pub met : ℕ → Endpoint → Met
met code e = record { code = code; endpoint = e }

-- the same endpoint, seen by a host that hears another code
abbrev pub unheard : ℕ → Met → Met
unheard code m = met code m.endpoint

-- an OUT packet reaches its endpoint. In this order: a halted endpoint answers STALL; a packet with the other toggle is one
-- that was taken before, and is acknowledged and dropped; one that does not fit is answered NAK; any other is taken
abbrev pub out_reaches : Toggle → List ℕ → Endpoint → Met
out_reaches toggle bytes e =
    cond e.halted (met 5 e)
    (cond (not (agree toggle e.toggle)) (met 0 e)
    (cond (nat_lt e.capacity (length e.taken + length bytes)) (met 4 e)
    (met 0 (took bytes e))))

-- an OUT packet under a fate. Where it reached the device and the acknowledgement is lost, the host sees the code
abbrev pub out_met : Fate → Toggle → List ℕ → Endpoint → Met
out_met Arrives toggle bytes e = out_reaches toggle bytes e
out_met (Lost code) toggle bytes e = met code e
out_met (Unheard code) toggle bytes e = unheard code (out_reaches toggle bytes e)
out_met Nak toggle bytes e = met 4 e
out_met Stall toggle bytes e = met 5 (halt e)

-- an IN reaches its endpoint. In this order: a halted endpoint answers STALL, and one with nothing waiting NAK; else its first
-- packet comes, which the host receives if the toggles agree, and drops with result 6 if not. In both cases the host
-- acknowledges it: where the device hears that, it goes on to the next packet, and else it keeps packet and toggle
abbrev pub in_reaches : Bool → Toggle → Endpoint → Met
in_reaches heard toggle e =
    cond e.halted (met 5 e)
    (cond (nat_lt 0 (length e.waiting))
    (met (cond (agree toggle e.toggle) 0 6) (cond heard (handed e) e))
    (met 4 e))

-- an IN under a fate: the codes of an unheard one are the device's, since it is the device that does not hear
abbrev pub in_met : Fate → Toggle → Endpoint → Met
in_met Arrives toggle e = in_reaches true toggle e
in_met (Lost code) toggle e = met code e
in_met (Unheard code) toggle e = in_reaches false toggle e
in_met Nak toggle e = met 4 e
in_met Stall toggle e = met 5 (halt e)

-- the packet that an IN with result 0 brings
abbrev pub first : List (List ℕ) → List ℕ
first [] = []
first (p ∷ ps) = p

-- what came of a transaction: the result code, the devices afterwards, and the bytes that an IN with result 0 brought
pub record Outcome : Type 0 where
  pub code : ℕ
  pub devices : Devices
  pub bytes : List ℕ

abbrev pub outcome : ℕ → Devices → Outcome
outcome code d = record { code = code; devices = d; bytes = [] }

-- the devices with what the endpoint at this place did
abbrev pub with_met : Devices → ℕ → Met → Devices
with_met d i m = with_endpoints d (slice_set d.endpoints i m.endpoint)

-- what comes of an OUT that meets the endpoint at a place, and of an IN
abbrev pub out_at : Fate → Toggle → List ℕ → Devices → ℕ → Outcome
out_at fate toggle bytes d i =
    let m = out_met fate toggle bytes (slice_index_or d.endpoints i nowhere) in
    outcome m.code (with_met d i m)

abbrev pub in_at : Fate → Toggle → Devices → ℕ → Outcome
in_at fate toggle d i =
    let m = in_met fate toggle (slice_index_or d.endpoints i nowhere) in
    record { code = m.code; devices = with_met d i m; bytes = first (slice_index_or d.endpoints i nowhere).waiting }

-- a place past the last endpoint is none: result 14, and nothing changes
unfoldable pub at_place : (Devices → ℕ → Outcome) → Devices → ℕ → Outcome
at_place f d i = cond (nat_lt i (length d.endpoints)) (f d i) (outcome 14 d)

-- where no endpoint has the address no device answers: result 14, and nothing changes
unfoldable pub at_address : ℕ → Outcome → Devices → Outcome
at_address address o d = cond (lives address d.endpoints) o (outcome 14 d)

-- a SETUP that the devices at this address may hear: NAK and STALL are no answers to it, so it is lost with 14
abbrev pub setup_met : ℕ → List ℕ → Devices → Fate → Outcome
setup_met address bytes d Arrives = outcome 0 (after_setup address bytes d)
setup_met address bytes d (Lost code) = outcome code d
setup_met address bytes d (Unheard code) = outcome code (after_setup address bytes d)
setup_met address bytes d Nak = outcome 14 d
setup_met address bytes d Stall = outcome 14 d

-- the code of an HS-IN that the devices at this address may hear: whether the last setup was good. Nothing on a device changes
abbrev pub hs_code : ℕ → Devices → Fate → ℕ
hs_code address d Arrives = cond (heard_good address d.heard) 0 5
hs_code address d (Lost code) = code
hs_code address d (Unheard code) = cond (heard_good address d.heard) 0 5
hs_code address d Nak = 4
hs_code address d Stall = 5

-- what comes of each of the four transactions, at the address, under the fate
module _ (address : ℕ) (fate : Fate) (d : Devices) where
  abbrev pub out_outcome : ℕ → Toggle → List ℕ → Outcome
  out_outcome number toggle bytes = at_place (out_at fate toggle bytes) d (place address number Out d.endpoints)

  abbrev pub in_outcome : ℕ → Toggle → Outcome
  in_outcome number toggle = at_place (in_at fate toggle) d (place address number In d.endpoints)

  abbrev pub setup_outcome : List ℕ → Outcome
  setup_outcome bytes = at_address address (setup_met address bytes d fate) d

  abbrev pub hs_outcome : Outcome
  hs_outcome = at_address address (outcome (hs_code address d fate) d) d
