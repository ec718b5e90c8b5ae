use Rattle.frames.proofs.Bodies.{data_bytes}
use Rattle.frames.proofs.formats.read_frame.Goals as goal

pub returns : goal.returns
returns c = rw (c.in_ok-command.ensures.cases.0, c.read_parts.ensures, data_bytes c.in_ok-command.rest.now _ c.min-end.ensures)
