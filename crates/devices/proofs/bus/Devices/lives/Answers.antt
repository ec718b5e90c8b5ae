use Rattle.std.proofs.Common.{rules, tests, eqb, vec_items, ◌∙◌}
use Rattle.std.proofs.lemmas.Iterator.{YieldsList-from_slice}
use Rattle.std.proofs.lemmas.Iterator.Search.{any_from_yields_List}
use Rattle.devices.proofs.Places.{lives_any}
use Rattle.devices.proofs.bus.Devices.lives.Goals as goal

pub returns : goal.returns
returns c =
    any_from_yields_List (λ e. eqb e.spot.address c.args.address) _ _ _ c.any.ensures.ran (YieldsList-from_slice (vec_items c.args.self.now.endpoints) (cc)) (λ x b q k. search (rules, tests))
    ∙ lives_any _ _
