use Rattle.frames.proofs.Rows.{chains_are_whole}
use Rattle.frames.proofs.laws.a_chain_is_all_that_was_heard.Goals as goal

pub returns : goal.returns
returns c = chains_are_whole
