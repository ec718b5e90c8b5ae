use Rattle.host.proofs.KeptBuffers.{fetches_keep_the_rest}
use Rattle.host.proofs.laws.a_fetch_keeps_the_rest_of_the_buffer.Goals as goal

pub returns : goal.returns
returns c = fetches_keep_the_rest
