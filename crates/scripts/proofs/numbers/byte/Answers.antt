use Rattle.std.proofs.Common.{rules}
use Rattle.scripts.proofs.Decimals.{narrowed}
use Rattle.scripts.proofs.numbers.byte.Goals as goal

pub returns : goal.returns
returns c =
    let (is, small) = c.in_ok-short.ensures in
    let p = narrowed c.in_ok-short.field-0 c.args.word.now _ is small c.try_from.ensures in
    search (rules, p)
