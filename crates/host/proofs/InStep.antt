-- Open and recover bring an OUT pipe in step with its device. Assumes nothing.
use Rattle.std.proofs.Common.{◌≡◌, ◌%◌, ◌<◌, true, [], length, get_or, None, sym, refl, ap, ◌∙◌, subst, arith}
use Rattle.port.specs.declared.directions.Direction.TheVariants.{Out}
use Rattle.port.specs.declared.toggles.Toggle.TheVariants.{Data0}
use Rattle.port.specs.Endpoints.{nowhere, place}
use Rattle.port.specs.Bus.{Bus}
use Rattle.pipes.specs.declared.pipes.Pipe.{Pipe}
use Rattle.pipes.specs.Answers.{answer_number}
use Rattle.pipes.specs.Tables.{new_pipe}
use Rattle.host.specs.Opening.{clear_run}
use Rattle.host.specs.Calls.{recovered, open_by, recover_by}
use Rattle.host.specs.Sending.{none_yet}
use Rattle.host.specs.Laws.{Made, IsInStep, OpenedPipesAreInStep}
use Rattle.host.proofs.Admits.{open_passed}
use Rattle.host.proofs.Opened.{run_asked, run_there}
use Rattle.host.proofs.Sent.{succeeded}

-- the request over a pipe's endpoint
module _ (p : Pipe) (made : Made p) (b : Bus) (no_setup : b.chip.setup ≡ []) (no_sending : b.chip.sending ≡ []) where
  stepped : (p' : Pipe) → Made p' → p'.address ≡ p.address → p'.endpoint ≡ p.endpoint → p'.toggle ≡ Data0 → none_yet (clear_run p.address p.endpoint Out p.limit b).clearing.tally.stop ≡ true → IsInStep p' (clear_run p.address p.endpoint Out p.limit b).bus
  stepped p' made' same_address same_endpoint zero none =
      let s = clear_run p.address p.endpoint Out p.limit b in
      let asked = run_asked p.address p.endpoint Out p.limit made.endpoint_above made.endpoint_most made.limit_above b no_setup no_sending in
      let there = run_there p.address p.endpoint Out p.limit made.endpoint_above made.endpoint_most made.limit_above b no_setup no_sending none in
      let m : p.address % 128 ≡ p.address = omega (arith, made.address_most) in
      let es = s.bus.devices.endpoints in
      let same : place (p.address % 128) p.endpoint Out es ≡ place p'.address p'.endpoint Out es = (let back = m ∙ sym same_address in let here = sym same_endpoint in λ i. place (back i) (here i) Out es) in
      record {
        made = made';
        there = subst (λ n. n < length es) same there.within;
        live = sym (ap (λ n. (get_or es n nowhere).halted) same) ∙ there.live;
        agrees = sym (ap (λ n. (get_or es n nowhere).toggle) same) ∙ there.zero ∙ sym zero;
        unsent = asked.no_sending;
      }

pub opened_pipes_are_in_step : OpenedPipesAreInStep
opened_pipes_are_in_step places b number no_setup no_sending = (
  λ a e size limit passes zero.
      let p = new_pipe a e Out size limit in
      let made = (open_passed places number a e Out size limit passes).made in
      let d = ap (open_by places b number a e Out size limit) passes in
      subst (IsInStep p) (sym (ap (λ x. x.bus) d))
      (stepped p made b no_setup no_sending p made refl refl refl (succeeded (clear_run a e Out limit b).clearing.tally.stop (sym (ap (λ x. answer_number x.answer) d) ∙ zero))),
  λ p admitted out made zero.
      let d = ap (recover_by places b number) admitted in
      let q = recovered places b number p None in
      let made' : Made q = record { address_most = made.address_most; endpoint_above = made.endpoint_above; endpoint_most = made.endpoint_most; size_above = made.size_above; limit_above = made.limit_above } in
      let run = ap (λ x. clear_run p.address p.endpoint x p.limit b) out in
      subst (IsInStep q) (sym (ap (λ x. x.bus) d ∙ ap (λ x. x.bus) run))
      (stepped p made b no_setup no_sending q made' refl refl refl
      (sym (ap (λ x. none_yet x.clearing.tally.stop) run) ∙ succeeded (clear_run p.address p.endpoint p.direction p.limit b).clearing.tally.stop (sym (ap (λ x. answer_number x.answer) d) ∙ zero))),
)
