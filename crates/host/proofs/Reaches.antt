-- The tries of an answer are the launches that were made. Assumes nothing.
use Rattle.std.proofs.Common.{◌≡◌, ℕ, zero, suc, List, [], ◌∷◌, length, Some, None, Ok, Err, Option, Result, sym, subst, add-one, arith}
use Rattle.port.specs.declared.directions.Direction.{Direction}
use Rattle.port.specs.declared.toggles.Toggle.{Toggle}
use Rattle.port.specs.Bus.{Bus}
use Rattle.port.specs.Accesses.{after_put, after_puts, after_get, after_gets}
use Rattle.attempt.specs.Tries.{begun, send_control, receive_control, result_got, after_out, after_stage, in_launched, in_succeeds, packet_length, fits_room, after_read, after_in}
use Rattle.pipes.specs.declared.pipes.Pipe.{Pipe}
use Rattle.pipes.specs.declared.refusals.Refusal.{Refusal}
use Rattle.pipes.specs.Tables.{Places}
use Rattle.pipes.specs.Checks.{open_refusal, admit_send, admit_fetch, admit_recover}
use Rattle.host.specs.Opening.{requesting, clear_start, clear_step, clear_going, clear_budget, clear_run, stage_value, stage_bytes, clear_request}
use Rattle.host.specs.Sending.{sending, send_start, send_packet, send_step, send_going, send_budget, send_run}
use Rattle.host.specs.Fetching.{fetching, fetch_start, next_room, fetch_step, fetch_going, fetch_budget, fetch_run}
use Rattle.host.specs.Calls.{open_by, send_by, fetch_by, recover_by}
use Rattle.host.specs.Laws.{Reached, here, put, get, launch, TriesAreLaunches, TriesOfAFetchAreLaunches}
use Rattle.host.proofs.Runs.{run_keeps}
use Rattle.std.proofs.lemmas.Bool.{cond_both}

-- many puts that are no launches
puts : {n : ℕ} {b : Bus} (register : ℕ) → (register ≡ 30 → ⊥) → (bytes : List ℕ) {b' : Bus} → Reached n b b' → Reached n b (after_puts register bytes b')
puts register no_launch [] r = r
puts register no_launch (x ∷ xs) r = puts register no_launch xs (put register x no_launch r)

begins : {n : ℕ} {b b' : Bus} (a : ℕ) (control : Option ℕ) → Reached n b b' → Reached n b (begun a control b')
begins a None r = put 28 a (λ e. omega arith) r
begins a (Some control) r = put 29 control (λ e. omega arith) (put 28 a (λ e. omega arith) r)

out_launches : {n : ℕ} {b b' : Bus} (a e : ℕ) (t : Toggle) (bytes : List ℕ) → Reached n b b' → Reached (suc n) b (after_out a e t bytes b')
out_launches a e t bytes r = put 25 0x80 (λ e. omega arith) (get 31 (launch _ (put 7 (length bytes) (λ e. omega arith) (puts 2 (λ e. omega arith) bytes (begins a (Some (send_control t)) r)))))

stage_launches : {n : ℕ} {b b' : Bus} (a value : ℕ) (bytes : List ℕ) → Reached n b b' → Reached (suc n) b (after_stage a value bytes b')
stage_launches a value bytes r = put 25 0x80 (λ e. omega arith) (get 31 (launch value (puts 4 (λ e. omega arith) bytes (begins a None r))))

-- many gets
gets : {n : ℕ} {b : Bus} (register k : ℕ) {b' : Bus} → Reached n b b' → Reached n b (after_gets register k b')
gets register zero r = r
gets register (suc k) r = gets register k (get register r)

in_launches : {n : ℕ} {b b' : Bus} (a e : ℕ) (t : Toggle) (room : List ℕ) → Reached n b b' → Reached (suc n) b (after_in a e t room b')
in_launches {n} {b} {b'} a e t room r =
    let x = result_got (in_launched a e t room b') in
    let launched : Reached (suc n) b x = get 31 (launch _ (begins a (Some (receive_control t)) r)) in
    let k = packet_length room x in
    let read : Reached (suc n) b (after_read room x) = cond_both (fits_room room x) (after_gets 1 k (after_get 6 x)) (after_get 6 x) (Reached (suc n) b) (λ _. gets 1 k (get 6 launched)) (λ _. get 6 launched) in
    cond_both (in_succeeds a e t room b') (after_put 25 0x84 (after_read room x)) (after_put 25 0x80 x) (Reached (suc n) b)
    (λ _. put 25 0x84 (λ e. omega arith) read)
    (λ _. put 25 0x80 (λ e. omega arith) launched)

fetch_reached : (a e size limit : ℕ) (t : Toggle) (buffer : List ℕ) (b : Bus) → Reached (fetch_run a e size limit t buffer b).intake.tally.tries b (fetch_run a e size limit t buffer b).bus
fetch_reached a e size limit t buffer b =
    run_keeps (fetch_going a e size limit) (fetch_step a e size limit) (λ s. Reached s.intake.tally.tries b s.bus)
    (λ s r g. subst (λ n. Reached n b (fetch_step a e size limit s).bus) (sym (add-one s.intake.tally.tries)) (in_launches a e s.intake.toggle (next_room a e size limit s.intake s.buffer) r))
    (fetch_budget a e size limit (length buffer)) (fetching (fetch_start limit t) buffer b) here

send_reached : (p : Pipe) (message : List ℕ) (b : Bus) → Reached (send_run p message b).progress.tally.tries b (send_run p message b).bus
send_reached p message b =
    run_keeps (send_going p message) (send_step p message) (λ s. Reached s.progress.tally.tries b s.bus)
    (λ s r g. subst (λ n. Reached n b (send_step p message s).bus) (sym (add-one s.progress.tally.tries)) (out_launches p.address p.endpoint s.progress.toggle (send_packet p message s.progress) r))
    (send_budget p message) (sending (send_start p) b) here

clear_reached : (a e : ℕ) (d : Direction) (limit : ℕ) (b : Bus) → Reached (clear_run a e d limit b).clearing.tally.tries b (clear_run a e d limit b).bus
clear_reached a e d limit b =
    run_keeps (clear_going a e d limit) (clear_step a e d limit) (λ s. Reached s.clearing.tally.tries b s.bus)
    (λ s r g. subst (λ n. Reached n b (clear_step a e d limit s).bus) (sym (add-one s.clearing.tally.tries)) (stage_launches a (stage_value s.clearing.stage) (stage_bytes s.clearing.stage (clear_request e d)) r))
    (clear_budget a e d limit) (requesting (clear_start limit) b) here

send_by_reached : (places : Places) (b : Bus) (number : ℕ) (message : List ℕ) (r : Result Pipe Refusal) → Reached (send_by places b number message r).answer.tries b (send_by places b number message r).bus
send_by_reached places b number message (Ok p) = send_reached p message b
send_by_reached places b number message (Err why) = here

fetch_by_reached : (places : Places) (b : Bus) (number : ℕ) (buffer : List ℕ) (r : Result Pipe Refusal) → Reached (fetch_by places b number buffer r).answer.tries b (fetch_by places b number buffer r).bus
fetch_by_reached places b number buffer (Ok p) = fetch_reached p.address p.endpoint p.size p.limit p.toggle buffer b
fetch_by_reached places b number buffer (Err why) = here

open_by_reached : (places : Places) (b : Bus) (number a e : ℕ) (d : Direction) (size limit : ℕ) (r : Option Refusal) → Reached (open_by places b number a e d size limit r).answer.tries b (open_by places b number a e d size limit r).bus
open_by_reached places b number a e d size limit None = clear_reached a e d limit b
open_by_reached places b number a e d size limit (Some why) = here

recover_by_reached : (places : Places) (b : Bus) (number : ℕ) (r : Result Pipe Refusal) → Reached (recover_by places b number r).answer.tries b (recover_by places b number r).bus
recover_by_reached places b number (Ok p) = clear_reached p.address p.endpoint p.direction p.limit b
recover_by_reached places b number (Err why) = here

pub tries_are_launches : TriesAreLaunches
tries_are_launches places b number = (
  λ message. send_by_reached places b number message (admit_send places number (length message)),
  λ a e d size limit. open_by_reached places b number a e d size limit (open_refusal places number a e d size limit),
  recover_by_reached places b number (admit_recover places number),
)

pub tries_of_a_fetch_are_launches : TriesOfAFetchAreLaunches
tries_of_a_fetch_are_launches places b number buffer = fetch_by_reached places b number buffer (admit_fetch places number (length buffer))
