use Rattle.host.proofs.InStep.{opened_pipes_are_in_step}
use Rattle.host.proofs.laws.an_opened_pipe_is_in_step.Goals as goal

pub returns : goal.returns
returns c = opened_pipes_are_in_step
