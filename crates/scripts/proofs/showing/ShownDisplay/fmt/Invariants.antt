use Rattle.std.proofs.Common.{map, take}
use Rattle.std.specs.Fmt.{HasWritten, IsPlainFormatter}
use Rattle.std.specs.List.{flat_map}
use Rattle.devices.specs.Endpoints.{endpoint_of}
use Rattle.scripts.specs.Showing.{endpoint_text}
use Rattle.scripts.proofs.showing.ShownDisplay.fmt.Given as goal

abbrev pub invariant-loop-endpoint : goal.invariant-loop-endpoint
invariant-loop-endpoint g l =
    IsPlainFormatter l.initial.f → HasWritten g.W.Write.write_str_gives l.initial.f (flat_map endpoint_text (take l.endpoint-index (map endpoint_of l.endpoint-items))) l.f
