use Rattle.std.proofs.Common.{◌∙◌, Bool, List, true, ap}
use Rattle.vf_base.specs.Base.{process_number}
use Rattle.vf_base.specs.Lists.{change_at}
use Rattle.process_table.proofs.Lists.{set-change}
use Rattle.process_table.proofs.set.ProcessSet.insert.Goals as goal

pub returns : goal.returns
returns c =
    set-change c.self.inside.members.items (process_number c.args.process) true
    ∙ ap (λ (members : List Bool). change_at members (process_number c.args.process) (λ (member : Bool). true)) c.self.view_is
