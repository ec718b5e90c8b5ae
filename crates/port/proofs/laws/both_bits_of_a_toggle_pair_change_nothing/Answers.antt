use Rattle.port.proofs.Endings.{both_bits}
use Rattle.port.proofs.laws.both_bits_of_a_toggle_pair_change_nothing.Goals as goal

pub returns : goal.returns
returns c = both_bits
