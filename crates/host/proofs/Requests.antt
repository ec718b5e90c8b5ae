-- The request that opens and recovers clears one endpoint and touches no other. Assumes nothing.
use Rattle.std.proofs.Common.{◌≡◌, ℕ, ◌%◌, ◌<◌, ◌≤◌, false, List, [], length, get_or, sym, refl, ◌∙◌, subst, arith}
use Rattle.port.specs.declared.directions.Direction.{Direction}
use Rattle.port.specs.declared.toggles.Toggle.TheVariants.{Data0}
use Rattle.port.specs.Endpoints.{Endpoint, nowhere, place}
use Rattle.port.specs.Bus.{Bus, next_fate}
use Rattle.attempt.specs.Tries.{after_stage}
use Rattle.host.specs.declared.opening.Stage.{Stage}
use Rattle.host.specs.declared.opening.Stage.TheVariants.{Setup, Handshake, Done}
use Rattle.host.specs.Opening.{requesting, clear_request, stage_value, stage_bytes, clear_start, clear_step, clear_going, clear_budget, clear_run}
use Rattle.host.specs.Effects.{Quiet, RequestsClearOneEndpoint}
use Rattle.host.proofs.Opened.{run_there}
use Rattle.host.proofs.Resets.{Reset, reset_none, Resets, setup_resets, hs_resets}
use Rattle.host.proofs.Runs.{run_keeps}
use Rattle.host.proofs.StageTry.{setup_staged, hs_staged}

module _ (a e : ℕ) (way : Direction) (low : 1 ≤ e) (high : e ≤ 15) (es₀ : List Endpoint) where
  -- what every try keeps of the bus
  record Kept (b : Bus) : Type 0 where
    pub quiet : Quiet b
    pub resets : Resets a e way low high es₀ b.devices

  hs_kept : (b : Bus) → Kept b → Kept (after_stage a 0x80 [] b)
  hs_kept b h =
      let staged = hs_staged a b h.quiet.no_setup in
      record {
        quiet = record { no_sending = staged.no_sending; no_setup = staged.no_setup; none_received = staged.same_received ∙ h.quiet.none_received };
        resets = subst (Resets a e way low high es₀) (sym staged.devices) (hs_resets a e way low high es₀ b.devices (next_fate b.fates) h.resets);
      }

  stage_kept : (stage : Stage) (b : Bus) → Kept b → Kept (after_stage a (stage_value stage) (stage_bytes stage (clear_request e way)) b)
  stage_kept Setup b h =
      let staged = setup_staged a (clear_request e way) b h.quiet.no_setup refl in
      record {
        quiet = record { no_sending = staged.no_sending; no_setup = staged.no_setup; none_received = staged.same_received ∙ h.quiet.none_received };
        resets = subst (Resets a e way low high es₀) (sym staged.devices) (setup_resets a e way low high es₀ b.devices (next_fate b.fates) h.resets);
      }
  stage_kept Handshake b h = hs_kept b h
  stage_kept Done b h = hs_kept b h

  run_kept : (limit : ℕ) (b : Bus) → Kept b → Kept (clear_run a e way limit b).bus
  run_kept limit b h =
      run_keeps (clear_going a e way limit) (clear_step a e way limit) (λ s. Kept s.bus) (λ s k g. stage_kept s.clearing.stage s.bus k)
      (clear_budget a e way limit) (requesting (clear_start limit) b) h

pub requests_clear_one_endpoint : RequestsClearOneEndpoint
requests_clear_one_endpoint a e way limit b most low high some quiet =
    let s = clear_run a e way limit b in
    let es₀ = b.devices.endpoints in
    let es = s.bus.devices.endpoints in
    let m : a % 128 ≡ a = omega arith in
    let kept = run_kept a e way low high es₀ limit b (record { quiet = quiet; resets = reset_none (place (a % 128) e way es₀) es₀ }) in
    let reset = subst (λ n. Reset (place n e way es₀) es₀ es) m kept.resets in
    record {
      touched = record { quiet = kept.quiet; as_many = reset.only.as_many; same_names = reset.only.same_names; others = reset.only.others };
      same_taken = reset.same_taken;
      same_waiting = reset.same_waiting;
      cleared = λ none.
          let there = run_there a e way limit low high some b quiet.no_setup quiet.no_sending none in
          record {
            there = subst (λ n. place n e way es < length es) m there.within;
            zero = subst (λ n. (get_or es (place n e way es) nowhere).toggle ≡ Data0) m there.zero;
            live = subst (λ n. (get_or es (place n e way es) nowhere).halted ≡ false) m there.live;
          };
    }
