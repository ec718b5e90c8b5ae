use Rattle.std.proofs.Common.{refl, rules}
use Rattle.analyser.proofs.taps.Tap.keep.Goals as goal

pub returns-clause-seen : goal.returns-clause-seen
returns-clause-seen g c = record {
  kept = record { sent = c.args.sent; answered = c.in_ok-answered.answered };
  sent_bytes = refl;
  answered_bytes = search rules;
  behind = search rules;
}
