use Rattle.std.proofs.Common.{◌∙◌, List, length, take, ap, subst, take_all}
use Rattle.std.specs.HashMap.{get}
use Rattle.std.proofs.lemmas.List.{length-map}
use Rattle.v_design.specs.declared.plan.Fault.{Fault}
use Rattle.v_design.specs.Plain.{fault_of}
use Rattle.v_design.specs.PlainDesigns.{design_of}
use Rattle.v_design.specs.RulesHold.{rules_hold}
use Rattle.fault_list.specs.Listed.{stuck}
use Rattle.fault_list.specs.SameKeys.{same_key}
use Rattle.fault_list.proofs.Meeting.{Met, Met-step, classes-met}
use Rattle.fault_list.proofs.class.classes.Goals as goal

pub faults-preserved : goal.faults-preserved
faults-preserved c =
    Met-step (design_of c.args.design.now) c.args.faults.now c.faults.number _ (λ k. get same_key c.faults.firsts k)
    (λ k. get same_key c.first_place.new.firsts k) c.faults.places.items _ c.key_of-key.result c.in_ok-first.first
    c.faults-test.true (c.key_of-key.ensures ∙ c.standing.ensures) c.faults.invariant c.in_ok-first.ensures c.in_ok-push.ensures.items

pub returns-clause-count : goal.returns-clause-count
returns-clause-count c =
    c.faults.invariant.count ∙ length-map (take c.faults.number c.args.faults.now) fault_of ∙ ap (λ (l : List Fault). length l) (take_all c.faults.number c.args.faults.now c.faults-test.false)

pub returns-clause-classes : goal.returns-clause-classes
returns-clause-classes c =
    classes-met (design_of c.args.design.now) (stuck c.args.faults.now) (λ k. get same_key c.faults.firsts k) c.faults.places.items (rules_hold (design_of c.args.design.now) c.args.design.now.rules)
    (subst (λ l. Met (design_of c.args.design.now) (stuck l) (λ k. get same_key c.faults.firsts k) c.faults.places.items)
    (take_all c.faults.number c.args.faults.now c.faults-test.false) c.faults.invariant)
