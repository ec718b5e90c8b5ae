use Rattle.std.proofs.Common.{arith, rules}
use Rattle.std.proofs.lemmas.Grind.{common_steps}
use Rattle.scripts.proofs.Decimals.{no_plus, no_zeros, parsed}
use Rattle.scripts.proofs.numbers.short.Goals as goal

pub returns-in-43 : goal.returns-in-43
returns-in-43 c = λ _ n small is. no_plus n _ small is (grind (arith, common_steps))

pub returns-in-43-2 : goal.returns-in-43-2
returns-in-43-2 c = λ _ n small is. no_plus n _ small is (grind (arith, common_steps))

pub returns-in-43-3 : goal.returns-in-43-3
returns-in-43-3 c = λ _ n small is. no_zeros n _ small is (grind (arith, common_steps)) (grind (arith, common_steps))

pub returns-in_default : goal.returns-in_default
returns-in_default c =
    let p = parsed c.args.word.now _ c.parse.ensures.value.0 (grind (arith, common_steps)) (λ zero. grind (arith, common_steps)) in search (rules, p)
