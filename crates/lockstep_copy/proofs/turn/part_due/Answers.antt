use Rattle.std.proofs.Common.{◌≡◌, ℕ, ◌+◌, ◌∷◌, [], ◌++◌, take, sym, ap, subst, ◌∙◌}
use Rattle.std.proofs.lemmas.List.{take_all, take_more}
use Rattle.std.specs.Prelude.{List}
use Rattle.v_design.specs.declared.plan.Due.{Due}
use Rattle.lockstep_copy.specs.Kept.{ArePartedBy}
use Rattle.lockstep_copy.proofs.Lists.{part-none, part-more}
use Rattle.lockstep_copy.proofs.turn.part_due.Goals as goal

pub updates-init : goal.updates-init
updates-init c = part-none c.args.now c.args.rest.now.items c.args.lane.now.items

pub updates-preserved : goal.updates-preserved
updates-preserved c =
    let updates = c.args.updates.now in
    let i = c.updates.update-index in
    subst
    (λ (l : List Due). ArePartedBy c.args.now l c.args.rest.now.items c.put_by_time.new.rest.items c.args.lane.now.items c.put_by_time.new.lane.items)
    (ap (λ (d : Due). take i updates ++ d ∷ []) c.update-item.is ∙ sym (take_more updates i c.update-item.result c.updates-test.true))
    (part-more c.args.now (take i updates) (c.update-item.result ∷ []) c.args.rest.now.items c.updates.rest.items c.put_by_time.new.rest.items c.args.lane.now.items c.updates.lane.items
    c.put_by_time.new.lane.items c.updates.invariant c.in_ok-put_by_time.ensures)

pub returns : goal.returns
returns c =
    subst (λ (l : List Due). ArePartedBy c.args.now l c.args.rest.now.items c.updates.rest.items c.args.lane.now.items c.updates.lane.items)
    (take_all c.updates.update-index c.args.updates.now c.updates-test.false) c.updates.invariant
