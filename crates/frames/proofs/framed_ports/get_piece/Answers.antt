use Rattle.std.proofs.Common.{◌∙◌}
use Rattle.frames.proofs.Carrying.{get_carries, got_part}
use Rattle.frames.proofs.framed_ports.get_piece.Goals as goal

pub returns-clause-bytes : goal.returns-clause-bytes
returns-clause-bytes g c = c.copy_from_slice.ensures.after ∙ got_part c.args.register.number _ _ _ _ c.exchange_frame-length.new.buffer c.requires c.exchange_frame-length.ensures.answers

pub returns-clause-after : goal.returns-clause-after
returns-clause-after g c = c.exchange_frame-length.ensures.after ∙ get_carries c.args.register.number _ _ c.requires
