use Rattle.std.proofs.Common.{rules, ◌≡◌, sym, subst}
use Rattle.vf_base.specs.Base.{object_number}
use Rattle.v_design.specs.PlainDesigns.{design_of}
use Rattle.net_state.specs.Held.{marks_with}
use Rattle.net_state.specs.HeldLaws.{marks-changed, marks-unchanged}
use Rattle.net_state.proofs.put.mark_if.Goals as goal

pub returns-then-changed-clause-marks : goal.returns-then-changed-clause-marks
returns-then-changed-clause-marks c =
    subst (λ b. c.change.new.self.marks.items ≡ marks_with (design_of c.args.settle.now.graph.now.design.now) (object_number c.args.object) b c.args.settle.now.marks.items) (sym c.if-changed.true)
    (marks-changed (design_of c.args.settle.now.graph.now.design.now) (object_number c.args.object) c.args.settle.now.marks.items c.change.new.self.marks.items (search rules)
    (search rules) c.change.ensures.readers)

pub returns-else-changed-clause-marks : goal.returns-else-changed-clause-marks
returns-else-changed-clause-marks c =
    subst (λ b. c.args.settle.now.marks.items ≡ marks_with (design_of c.args.settle.now.graph.now.design.now) (object_number c.args.object) b c.args.settle.now.marks.items) (sym c.if-changed.false)
    (marks-unchanged (design_of c.args.settle.now.graph.now.design.now) (object_number c.args.object) c.args.settle.now.marks.items (search rules))
