use Rattle.host.proofs.Requests.{requests_clear_one_endpoint}
use Rattle.host.proofs.laws.a_request_clears_one_endpoint.Goals as goal

pub returns : goal.returns
returns c = requests_clear_one_endpoint
