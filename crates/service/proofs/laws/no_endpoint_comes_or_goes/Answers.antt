use Rattle.service.proofs.Endpoints.{no_endpoint_comes_or_goes}
use Rattle.service.proofs.laws.no_endpoint_comes_or_goes.Goals as goal

pub returns : goal.returns
returns c = no_endpoint_comes_or_goes
