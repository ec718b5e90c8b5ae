use Rattle.std.proofs.Common.{rules, arith}
use Rattle.std.proofs.Output.{has_written_append, has_written_of_eq}
use Rattle.devices.specs.Endpoints.{endpoint_of}
use Rattle.scripts.specs.Showing.{endpoint_text}
use Rattle.scripts.proofs.Rows.{one_more_row}
use Rattle.scripts.proofs.showing.ShownDisplay.fmt.Goals as goal

pub loop-endpoint-preserved : goal.loop-endpoint-preserved
loop-endpoint-preserved g c = λ plain.
    has_written_of_eq _ _ _ _ _ (one_more_row endpoint_text endpoint_of _ c.loop-endpoint.endpoint-index c.endpoint-item.result (omega arith) c.endpoint-item.is)
    (has_written_append _ _ _ _ _ _ (c.loop-endpoint.invariant plain) (search rules))
