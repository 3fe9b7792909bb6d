-- One change more.
use Rattle.std.proofs.Common.{◌≤◌, Vec, Global, length, sym, ap, ◌∙◌, arith}
use Rattle.std.proofs.lemmas.List.{set_past}
use Rattle.four_value.specs.Values.{LogicValue}
use Rattle.vf_base.specs.Base.{object_number}
use Rattle.moment_parts.proofs.Puts.{put-more}
use Rattle.moment_parts.proofs.within.put_changes.Goals as goal
use Rattle.moment_parts.proofs.within.put_changes.Goals.{then-object-len, else-object-len}

pub changes-preserved : goal.changes-preserved
changes-preserved c =
    let pushed = c.in_ok-push.ensures.items in
    elim c.if-object-len.branch [
      | then-object-len w ↦
          put-more c.changes.change-index c.args.changes.now c.change-item.result c.args.values.now.items c.changes.values.items c.args.changed.now.items c.changes.changed.items (omega arith)
          c.change-item.is c.changes.invariant c.if-object-len.values.items c.push.new.self.items (ap (λ (v : Vec LogicValue Global). v.items) w.values-is) pushed
      | else-object-len w ↦
          put-more c.changes.change-index c.args.changes.now c.change-item.result c.args.values.now.items c.changes.values.items c.args.changed.now.items c.changes.changed.items (omega arith)
          c.change-item.is c.changes.invariant c.if-object-len.values.items c.push.new.self.items
          (ap (λ (v : Vec LogicValue Global). v.items) w.values-is
          ∙ sym (set_past c.changes.values.items (object_number c.change-item.result.object) c.change-item.result.value
          (let past : length c.changes.values.items ≤ object_number c.change-item.result.object = omega arith in past))) pushed
    ]
