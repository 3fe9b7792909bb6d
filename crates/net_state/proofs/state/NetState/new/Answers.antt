use Rattle.std.proofs.Common.{◌≡◌, length, map, sym, ap, subst, ◌∙◌, arith}
use Rattle.v_design.specs.declared.plan.Design.{Design}
use Rattle.v_design.specs.PlainDesigns.{design_of}
use Rattle.v_design.specs.RulesHold.{rules_hold}
use Rattle.v_design.specs.Views.{machine_of, machine_with}
use Rattle.v_design.specs.Assignments.{settled_from}
use Rattle.node_eval.specs.ValuesOf.{AreValuesOf}
use Rattle.net_settle.specs.declared.settle.Settle.{Settle}
use Rattle.net_state.specs.Held.{node_marked}
use Rattle.net_state.specs.HeldLaws.{none-at-start}
use Rattle.net_state.specs.StartLaws.{first-values}
use Rattle.net_state.proofs.state.NetState.new.Goals as goal

pub invariant_of-objects : goal.invariant_of-objects
invariant_of-objects c = record {
  are =
      subst (λ (d : Design). AreValuesOf (design_of d) c.in_ok-values.values.items) (sym (c.in_ok-settle.ensures.belongs ∙ c.requires))
      (subst (AreValuesOf (design_of c.args.view.design.now)) (sym c.in_ok-values.ensures)
      (first-values (machine_of c.args.view) (rules_hold (design_of c.args.view.design.now) c.args.view.design.now.rules)));
}

pub returns-clause-begins : goal.returns-clause-begins
returns-clause-begins c =
    let same : c.in_ok-settle.settle.graph.now.design.now ≡ c.args.view.design.now = c.in_ok-settle.ensures.belongs ∙ c.requires in
    let sized : length c.in_ok-settle.settle.marks.items ≡ length (design_of c.in_ok-settle.settle.graph.now.design.now).nodes = omega (arith, c.in_ok-settle.settle.sized) in
    record {
      values = c.settle_all.ensures.values ∙ (λ j. settled_from (machine_with (same j) c.args.view.fault) 0 (design_of (same j)).nodes (c.in_ok-values.ensures j));
      nodes =
          ap (λ (s : Settle). map node_marked s.marks.items) c.settle_all.ensures.settle
          ∙ none-at-start c.in_ok-settle.settle.marks.items (design_of c.args.view.design.now).nodes (sized ∙ ap (λ (d : Design). length (design_of d).nodes) same) c.in_ok-settle.ensures.none;
    }
