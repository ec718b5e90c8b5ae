use Rattle.std.proofs.Common.{◌≡◌, ◌++◌, length}
use Rattle.std.specs.List.{flat_map}
use Rattle.scripts.specs.Words.{hex_pair, AreBytes}
use Rattle.scripts.proofs.hexes.bytes.Given as goal

abbrev pub invariant-loop-rest : goal.invariant-loop-rest
invariant-loop-rest l = (flat_map hex_pair l.bytes.items ++ l.rest ≡ l.fn.word) × AreBytes l.bytes

abbrev pub decreases-loop-rest : goal.decreases-loop-rest
decreases-loop-rest l = length l.rest
