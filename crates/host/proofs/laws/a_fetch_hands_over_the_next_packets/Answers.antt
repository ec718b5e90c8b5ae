use Rattle.host.proofs.HandedOver.{fetches_hand_over}
use Rattle.host.proofs.laws.a_fetch_hands_over_the_next_packets.Goals as goal

pub returns : goal.returns
returns c = fetches_hand_over
