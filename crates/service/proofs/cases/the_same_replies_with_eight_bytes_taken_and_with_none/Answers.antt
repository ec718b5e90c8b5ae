use Rattle.std.proofs.Common.{refl}
use Rattle.port.specs.Accesses.{after_put, got, after_get}
use Rattle.port.specs.Devices.{after_setup}
use Rattle.port.specs.Endpoints.{place, lives}
use Rattle.port.specs.Launches.{launch, carried, refused}
use Rattle.port.specs.Reactions.{at_place, at_address}
use Rattle.host.specs.Machines.{run}
use Rattle.service.specs.Serving.{replies, at_the_end}
use Rattle.service.proofs.Worked.{printer_fresh}
use Rattle.service.proofs.cases.the_same_replies_with_eight_bytes_taken_and_with_none.Goals as goal

pub returns : goal.returns
unfolding replies at_the_end run after_put got after_get launch carried refused at_place at_address place lives after_setup
returns c = (printer_fresh _, printer_fresh _, refl, refl, refl, refl)
