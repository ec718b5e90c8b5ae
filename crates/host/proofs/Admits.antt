-- What it says of the table and the pipe that a call passed its checks. Assumes nothing.
use Rattle.std.proofs.Common.{◌≡◌, ℕ, zero, suc, ◌≤◌, Bool, true, false, cond, not, ◌&&◌, eqb, ltb, leb, [], ◌∷◌, is_some, Some, None, Ok, Option, sym, ap, ◌∙◌, ⊎_elim, arith}
use Rattle.std.proofs.lemmas.Grind.{common_steps}
use Rattle.std.proofs.lemmas.Bool.{and_parts, or_parts, leb-true, ltb-false, eqb-false, eq-eqb, not-false, cases_eq, false≢true}
use Rattle.port.specs.declared.directions.Direction.{Direction}
use Rattle.port.specs.declared.directions.Direction.TheVariants.{Out, In}
use Rattle.port.specs.Directions.{facing}
use Rattle.pipes.specs.declared.pipes.Pipe.{Pipe}
use Rattle.pipes.specs.declared.pipes.Standing.TheVariants.{InStep}
use Rattle.pipes.specs.declared.refusals.Refusal.TheVariants.{NoSuchPipe, PipeThere, BadAddress, BadEndpoint, BadSize, NoLimit, EndpointTaken}
use Rattle.pipes.specs.Tables.{Places, pipe_at, leads_to, some_pipe_at, new_pipe}
use Rattle.pipes.specs.Checks.{good_size, open_refusal, present, fetchable, admit_send, admit_fetch, admit_recover}
use Rattle.host.specs.Laws.{Made}

-- a check that was passed
passed : {X : Type 0} (t : Bool) (x : X) (rest : Option X) → cond t (Some x) rest ≡ None → (t ≡ false) × (rest ≡ None)
passed t x rest h = grind (arith, common_steps)

size_some : (size : ℕ) → good_size size ≡ true → 1 ≤ size
size_some size h = grind (arith, common_steps)

absent : (o : Option Pipe) → is_some o ≡ false → o ≡ None
absent o h = grind (arith, common_steps)

above : (n : ℕ) → (n ≡ 0 → ⊥) → 1 ≤ n
above n h = ⊎_elim (λ z. absurd (h z)) (λ z. omega arith) (cases_eq n 0)

-- an open that passed its checks: the pipe's place is free, what it makes is in range, and no pipe leads there
pub record Openable (places : Places) (number address endpoint : ℕ) (direction : Direction) (size limit : ℕ) : Type 0 where
  pub number_most : number ≤ 7
  pub free : pipe_at places number ≡ None
  pub made : Made (new_pipe address endpoint direction size limit)
  pub alone : some_pipe_at address endpoint direction places ≡ false

pub open_passed : (places : Places) (number a e : ℕ) (d : Direction) (size limit : ℕ) → open_refusal places number a e d size limit ≡ None → Openable places number a e d size limit
open_passed places number a e d size limit h =
    let one = passed (ltb 7 number) NoSuchPipe _ h in
    let two = passed (is_some (pipe_at places number)) PipeThere _ one.1 in
    let four = passed (not (leb 1 a && leb a 127)) BadAddress _ two.1 in
    let five = passed (not (leb 1 e && leb e 15)) BadEndpoint _ four.1 in
    let six = passed (not (good_size size)) BadSize _ five.1 in
    let seven = passed (eqb limit 0) NoLimit (cond (some_pipe_at a e d places) (Some EndpointTaken) None) six.1 in
    let eight = passed (some_pipe_at a e d places) EndpointTaken None seven.1 in
    let address = and_parts (leb 1 a) (leb a 127) (not-false _ four.0) in
    let endpoint = and_parts (leb 1 e) (leb e 15) (not-false _ five.0) in
    record {
      number_most = ltb-false 7 number one.0;
      free = absent (pipe_at places number) two.0;
      made = record {
        address_most = leb-true a 127 address.1;
        endpoint_above = leb-true 1 e endpoint.0;
        endpoint_most = leb-true e 15 endpoint.1;
        size_above = size_some size (not-false (good_size size) six.0);
        limit_above = above limit (eqb-false limit 0 seven.0);
      };
      alone = eight.0;
    }

facing_same : (d d' : Direction) → d ≡ d' → facing d d' ≡ true
facing_same d d' h = grind (arith, common_steps)

-- where no pipe leads to an endpoint, the pipe of a number does not
pub none_leads : (a e : ℕ) (d : Direction) (places : Places) → some_pipe_at a e d places ≡ false → (n : ℕ) (p : Pipe) → pipe_at places n ≡ Some p → p.address ≡ a → p.endpoint ≡ e → p.direction ≡ d → ⊥
none_leads a e d [] h n p is x y z = cc
none_leads a e d (place ∷ places) h zero p is x y z =
    let first = (or_parts (leads_to a e d place) (some_pipe_at a e d places) h).0 in
    let yes : leads_to a e d (Some p) ≡ true = (let x' = eq-eqb p.address a x in let y' = eq-eqb p.endpoint e y in let z' = facing_same p.direction d z in λ i. x' i && (y' i && z' i)) in
    false≢true (sym first ∙ ap (leads_to a e d) is ∙ yes)
none_leads a e d (place ∷ places) h (suc n) p is x y z = none_leads a e d places (or_parts (leads_to a e d place) (some_pipe_at a e d places) h).1 n p is x y z

pub present_at : (places : Places) (n : ℕ) (p : Pipe) → present places n ≡ Ok p → (n ≤ 7) × (pipe_at places n ≡ Some p)
present_at places n p = grind (arith, common_steps)

-- the pipe of a send, and of a fetch: it is there, faces the right way, and is in step
pub record Admitted (places : Places) (n : ℕ) (d : Direction) (p : Pipe) : Type 0 where
  pub number_most : n ≤ 7
  pub is_there : pipe_at places n ≡ Some p
  pub faces : p.direction ≡ d
  pub in_step : p.standing ≡ InStep

pub send_admits : (places : Places) (n long : ℕ) (p : Pipe) → admit_send places n long ≡ Ok p → Admitted places n Out p
send_admits places n long p h = grind (arith, common_steps)

pub record Fetchable (places : Places) (n long : ℕ) (p : Pipe) : Type 0 where
  pub admitted : Admitted places n In p
  pub fits : fetchable long p ≡ Ok p

pub fetch_admits : (places : Places) (n long : ℕ) (p : Pipe) → admit_fetch places n long ≡ Ok p → Fetchable places n long p
fetch_admits places n long p h = grind (arith, common_steps)

pub recover_admits : (places : Places) (n : ℕ) (p : Pipe) → admit_recover places n ≡ Ok p → (n ≤ 7) × (pipe_at places n ≡ Some p)
recover_admits places n p h = grind (arith, common_steps)
