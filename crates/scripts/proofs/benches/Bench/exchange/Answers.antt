use Rattle.std.proofs.Common.{◌≡◌, ◌∙◌, length, refl, arith, rules}
use Rattle.std.proofs.lemmas.List.{with_items_is}
use Rattle.scripts.proofs.benches.Bench.exchange.Goals as goal

pub returns : goal.returns
returns c =
    let same : length c.exchange.new.bytes ≡ c.args.bytes.len = grind arith in
    rw c.in-Framed.is (_, refl, with_items_is c.args.bytes c.exchange.new.bytes same ∙ search rules, search rules)
