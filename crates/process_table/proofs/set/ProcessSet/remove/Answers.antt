use Rattle.std.proofs.Common.{◌∙◌, Bool, List, false, ap}
use Rattle.vf_base.specs.Base.{process_number}
use Rattle.vf_base.specs.Lists.{change_at}
use Rattle.process_table.proofs.Lists.{set-change}
use Rattle.process_table.proofs.set.ProcessSet.remove.Goals as goal

pub returns-then-process-self : goal.returns-then-process-self
returns-then-process-self c =
    set-change c.self.inside.members.items (process_number c.args.process) false
    ∙ ap (λ (members : List Bool). change_at members (process_number c.args.process) (λ (member : Bool). false)) c.self.view_is

pub returns-else-process-self : goal.returns-else-process-self
returns-else-process-self c =
    set-change c.self.inside.members.items (process_number c.args.process) false
    ∙ ap (λ (members : List Bool). change_at members (process_number c.args.process) (λ (member : Bool). false)) c.self.view_is
