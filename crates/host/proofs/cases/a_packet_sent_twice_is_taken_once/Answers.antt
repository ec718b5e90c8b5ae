use Rattle.std.proofs.Common.{refl}
use Rattle.port.specs.Accesses.{after_put, got, after_get}
use Rattle.port.specs.Devices.{after_setup}
use Rattle.port.specs.Endpoints.{place, lives}
use Rattle.port.specs.Launches.{launch, carried, refused}
use Rattle.port.specs.Reactions.{at_place, at_address}
use Rattle.host.specs.Machines.{run}
use Rattle.host.proofs.cases.a_packet_sent_twice_is_taken_once.Goals as goal

pub returns : goal.returns
unfolding run after_put got after_get launch carried refused at_place at_address place lives after_setup
returns c = (refl, refl)
