use Rattle.std.proofs.Common.{take}
use Rattle.std.specs.Fmt.{HasWritten, IsPlainFormatter}
use Rattle.std.specs.List.{flat_map}
use Rattle.devices.specs.Endpoints.{endpoint_of}
use Rattle.scripts.specs.Showing.{packet_text}
use Rattle.scripts.proofs.showing.WaitingDisplay.fmt.Given as goal

abbrev pub invariant-loop-place : goal.invariant-loop-place
invariant-loop-place g l =
    IsPlainFormatter l.initial.f → HasWritten g.W.Write.write_str_gives l.initial.f (flat_map packet_text (take l.place (endpoint_of l.self.0.now).waiting)) l.f
