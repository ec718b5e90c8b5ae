use Rattle.host.proofs.Accounted.{busy_printers_stay_in_step}
use Rattle.host.proofs.laws.a_busy_printer_stays_in_step.Goals as goal

pub returns : goal.returns
returns c = busy_printers_stay_in_step
