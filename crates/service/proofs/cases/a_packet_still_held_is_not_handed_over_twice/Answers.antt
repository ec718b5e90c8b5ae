use Rattle.std.proofs.Common.{refl, arith}
use Rattle.port.specs.Accesses.{after_put, got, after_get}
use Rattle.port.specs.Devices.{after_setup}
use Rattle.port.specs.Endpoints.{place, lives}
use Rattle.port.specs.Launches.{launch, carried, refused}
use Rattle.port.specs.Reactions.{at_place, at_address}
use Rattle.host.specs.Machines.{run}
use Rattle.service.specs.Serving.{replies, at_the_end}
use Rattle.host.specs.Handing.{handed_over}
use Rattle.service.specs.Histories.{going_on}
use Rattle.service.specs.Words.{lead_of, handed_since, waited_since}
use Rattle.service.proofs.Worked.{pad_fresh}
use Rattle.service.proofs.cases.a_packet_still_held_is_not_handed_over_twice.Goals as goal

pub returns : goal.returns
unfolding replies at_the_end run after_put got after_get launch carried refused at_place at_address place lives after_setup going_on lead_of handed_since waited_since handed_over
returns c = (pad_fresh _, (omega arith, refl), refl, refl, refl)
