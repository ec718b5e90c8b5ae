use Rattle.std.proofs.Common.{ap, ◌∙◌}
use Rattle.host.proofs.Opens.{open_ends}
use Rattle.host.proofs.hosts.Host.open.Goals as goal

pub returns-in-Ok-clause-answer : goal.returns-in-Ok-clause-answer
returns-in-Ok-clause-answer g c = c.open_pipe.ensures.answer ∙ ap (λ d. d.answer) (open_ends c.args.self.now.table.pipes (g.P.Port.meaning c.args.self.now.port) c.args.number c.args.plan _ c.in-Ok.ensures)

pub returns-in-Ok-clause-table : goal.returns-in-Ok-clause-table
returns-in-Ok-clause-table g c = c.open_pipe.ensures.table ∙ ap (λ d. d.places) (open_ends c.args.self.now.table.pipes (g.P.Port.meaning c.args.self.now.port) c.args.number c.args.plan _ c.in-Ok.ensures)

pub returns-in-Ok-clause-after : goal.returns-in-Ok-clause-after
returns-in-Ok-clause-after g c = c.open_pipe.ensures.after ∙ ap (λ d. d.bus) (open_ends c.args.self.now.table.pipes (g.P.Port.meaning c.args.self.now.port) c.args.number c.args.plan _ c.in-Ok.ensures)

pub returns-in-Err-clause-answer : goal.returns-in-Err-clause-answer
returns-in-Err-clause-answer g c = c.declined.ensures ∙ ap (λ d. d.answer) (open_ends c.args.self.now.table.pipes (g.P.Port.meaning c.args.self.now.port) c.args.number c.args.plan _ c.in-Err.ensures)

pub returns-in-Err-clause-table : goal.returns-in-Err-clause-table
returns-in-Err-clause-table g c = ap (λ d. d.places) (open_ends c.args.self.now.table.pipes (g.P.Port.meaning c.args.self.now.port) c.args.number c.args.plan _ c.in-Err.ensures)

pub returns-in-Err-clause-after : goal.returns-in-Err-clause-after
returns-in-Err-clause-after g c = ap (λ d. d.bus) (open_ends c.args.self.now.table.pipes (g.P.Port.meaning c.args.self.now.port) c.args.number c.args.plan _ c.in-Err.ensures)
