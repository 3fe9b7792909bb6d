use Rattle.std.proofs.Common.{◌∙◌, Bool, ap, arith}
use Rattle.vf_base.specs.Lists.{first_place}
use Rattle.process_table.proofs.Members.{set-first, set-empty}
use Rattle.process_table.proofs.set.ProcessSet.first.Goals as goal

pub returns-then-self-len : goal.returns-then-self-len
returns-then-self-len c =
    set-first c.self.inside.members.items c.self.inside.least c.self.invariant.first (omega (arith, c.if-self-len.true, c.len.ensures)) ∙ ap (first_place (λ (member : Bool). member)) c.self.view_is

pub returns-else-self-len : goal.returns-else-self-len
returns-else-self-len c =
    set-empty c.self.inside.members.items c.self.inside.least c.self.invariant.first (omega (arith, c.if-self-len.false, c.len.ensures)) ∙ ap (first_place (λ (member : Bool). member)) c.self.view_is
