use Rattle.service.proofs.Promise.{every_toggle_shown_is_true}
use Rattle.service.proofs.laws.every_toggle_shown_is_true.Goals as goal

pub returns : goal.returns
returns c = every_toggle_shown_is_true
