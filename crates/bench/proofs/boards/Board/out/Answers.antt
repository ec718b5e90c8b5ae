use Rattle.std.proofs.Common.{rules}
use Rattle.port.proofs.Codes.{out_code_small}
use Rattle.bench.proofs.Ends.{low_four}
use Rattle.bench.proofs.boards.Board.out.Goals as goal

pub returns : goal.returns
returns c = search (rules, low_four _ _ c.out-code.ensures.code (out_code_small _ _ _ c.args.fate.real _ _ _))
