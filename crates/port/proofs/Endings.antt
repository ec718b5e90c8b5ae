-- Every launch ends idle, and both bits of a toggle pair change nothing. Assumes nothing.
use Rattle.std.proofs.Common.{ℕ, ◌<◌, refl, ap, ◌∙◌, arith}
use Rattle.port.specs.declared.transactions.Transaction.{Transaction}
use Rattle.port.specs.declared.transactions.Transaction.TheVariants.{Setup, In, Out, HsIn}
use Rattle.port.specs.Chip.{Chip, toggled}
use Rattle.port.specs.Reactions.{Outcome}
use Rattle.port.specs.Bus.{Bus, next_fate}
use Rattle.port.specs.Launches.{ends, ends_plain, carried, refused}
use Rattle.port.specs.Laws.{Idle, LaunchesEndIdle, BothBitsChangeNothing}
use Rattle.port.proofs.Codes.{next_real, outcome_small}
use Rattle.port.proofs.Single.{put_29, launch_cases}

plain_idle : (code : ℕ) (c : Chip) → code < 16 → Idle (ends_plain code c)
plain_idle code c h = record { none_sending = refl; none_counted = refl; none_setup = refl; is_done = refl; is_free = refl; result_small = h }

ends_idle : (t : Transaction) (o : Outcome) (c : Chip) → o.code < 16 → Idle (ends t o c)
ends_idle Setup o c h = plain_idle o.code c h
ends_idle (In number) o c h = record { none_sending = refl; none_counted = refl; none_setup = refl; is_done = refl; is_free = refl; result_small = h }
ends_idle (Out number) o c h = record { none_sending = refl; none_counted = refl; none_setup = refl; is_done = refl; is_free = refl; result_small = h }
ends_idle HsIn o c h = plain_idle o.code c h

refused_idle : (b : Bus) → Idle (refused b).chip
unfolding refused
refused_idle b = plain_idle 2 b.chip (omega arith)

carried_idle : (b : Bus) (t : Transaction) → Idle (carried t b).chip
unfolding carried
carried_idle b t = ends_idle t _ b.chip (outcome_small t (next_fate b.fates) b.chip b.devices (next_real b.fates))

pub launches_end_idle : LaunchesEndIdle
launches_end_idle b value = launch_cases value b (λ b'. Idle b'.chip) (refused_idle b) (carried_idle b)

pub both_bits : BothBitsChangeNothing
both_bits = (
  λ b value one other. ap (λ b'. b'.chip.send_toggle) (put_29 value b) ∙ (λ i. toggled (one i) (other i) b.chip.send_toggle),
  λ b value one other. ap (λ b'. b'.chip.receive_toggle) (put_29 value b) ∙ (λ i. toggled (one i) (other i) b.chip.receive_toggle),
)
