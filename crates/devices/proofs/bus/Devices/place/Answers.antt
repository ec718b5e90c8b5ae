use Rattle.std.proofs.Common.{rules, tests, vec_items, sym, subst}
use Rattle.std.proofs.lemmas.Iterator.{YieldsList-from_slice}
use Rattle.std.proofs.lemmas.Iterator.Search.{position_from_yields_List}
use Rattle.port.specs.Endpoints.{stands_at, place}
use Rattle.devices.specs.Endpoints.{endpoint_of}
use Rattle.devices.specs.Devices.{endpoints_of, FindsPlace}
use Rattle.devices.proofs.Places.{place_found}
use Rattle.devices.proofs.bus.Devices.place.Goals as goal

pub returns : goal.returns
returns c =
    let spot = c.args.spot in
    let d = c.args.self.now in
    subst (FindsPlace (place spot.address spot.number spot.direction (endpoints_of d)) (endpoints_of d))
    (sym (position_from_yields_List (λ e. stands_at spot.address spot.number spot.direction (endpoint_of e)) _ _ _ c.position.ensures.ran (YieldsList-from_slice (vec_items d.endpoints) (cc)) (λ x b q k. search (rules, tests))))
    (place_found spot.address spot.number spot.direction (vec_items d.endpoints))
