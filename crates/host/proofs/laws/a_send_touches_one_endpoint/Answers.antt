use Rattle.host.proofs.Touches.{sends_touch_one_endpoint}
use Rattle.host.proofs.laws.a_send_touches_one_endpoint.Goals as goal

pub returns : goal.returns
returns c = sends_touch_one_endpoint
