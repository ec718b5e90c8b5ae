use Rattle.service.proofs.Promise.{every_slip_is_true}
use Rattle.service.proofs.laws.every_slip_is_true.Goals as goal

pub returns : goal.returns
returns c = every_slip_is_true
