-- A call that declines changes nothing. Assumes nothing.
use Rattle.std.proofs.Common.{arith, ap}
use Rattle.std.proofs.lemmas.Grind.{common_steps}
use Rattle.host.specs.Calls.{fetch_by}
use Rattle.host.specs.Laws.{DeclinedCallsChangeNothing, DeclinedFetchesChangeNothing}

pub declined_calls_change_nothing : DeclinedCallsChangeNothing
declined_calls_change_nothing places b number = grind (arith, common_steps)

pub declined_fetches_change_nothing : DeclinedFetchesChangeNothing
declined_fetches_change_nothing places b number buffer why h = ap (fetch_by places b number buffer) h
