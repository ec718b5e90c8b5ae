use Rattle.std.proofs.Common.{rules, tests}
use Rattle.std.proofs.lemmas.Iterator.{YieldsList-from_slice}
use Rattle.std.proofs.lemmas.Iterator.Search.{any_from_yields_List}
use Rattle.pipes.specs.Tables.{leads_to}
use Rattle.pipes.proofs.tables.Table.holds.Goals as goal

pub returns : goal.returns
returns c =
    any_from_yields_List (leads_to c.args.address c.args.endpoint c.args.direction) _ _ _ c.any.ensures.ran
    (YieldsList-from_slice c.args.self.now.pipes (cc)) (λ x b q k. search (rules, tests))
