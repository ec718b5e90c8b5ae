use Rattle.std.proofs.Common.{◌∙◌}
use Rattle.frames.proofs.Carrying.{put_carries}
use Rattle.frames.proofs.framed_ports.put_piece.Goals as goal

pub returns-clause-after : goal.returns-clause-after
returns-clause-after g c = c.exchange_frame.ensures.after ∙ put_carries c.args.register.number c.args.piece.now _ c.requires
