use Rattle.std.proofs.Common.{rules}
use Rattle.port.proofs.Codes.{in_code_small}
use Rattle.bench.proofs.Arrived.{arrived}
use Rattle.bench.proofs.Ends.{low_four}
use Rattle.bench.proofs.boards.Board.input.Goals as goal

pub returns : goal.returns
returns c =
    search (
      rules,
      low_four _ _ c.input-code.ensures.code (in_code_small _ _ _ c.args.fate.real _ _),
      arrived _ _ _ _ _ _ c.args.fate.real c.input-code.ensures.code _ _ _ c.input-code.ensures.bytes,
    )
