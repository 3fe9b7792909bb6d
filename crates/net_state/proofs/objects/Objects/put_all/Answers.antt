use Rattle.std.proofs.Common.{rules, ◌≡◌, ◌+◌, ◌<◌, [], false, get_or, length, map, take, sym, ap, subst, ◌∙◌, refl, arith}
use Rattle.std.proofs.lemmas.List.{get_or-map, get_or_default, length-map}
use Rattle.vf_base.specs.Base.{object_number}
use Rattle.vf_base.specs.Lists.{has}
use Rattle.v_design.specs.Designs.{width_in}
use Rattle.v_design.specs.Assignments.{value_at}
use Rattle.v_design.specs.States.{with_value, with_values}
use Rattle.v_design.specs.PlainDesigns.{design_of}
use Rattle.net_graph.specs.declared.graph.Graph.{Graph}
use Rattle.value_change.specs.Changes.{change_seen}
use Rattle.value_change.specs.ChangeLaws.{net_changes}
use Rattle.net_state.specs.InOrder.{AreInOrder, with_change}
use Rattle.net_state.specs.Held.{Holds}
use Rattle.net_state.specs.HeldLaws.{with_values-more}
use Rattle.net_state.specs.OrderLaws.{nets-in_order}
use Rattle.net_state.specs.OutputLaws.{output-there, output-width}
use Rattle.node_eval.specs.ValuesOf.{AreValuesOf}
use Rattle.net_state.specs.PutLaws.{no-changes, distinct-before, changes-more, others-more, told-objects, told-widths}
use Rattle.net_state.proofs.objects.Objects.put_all.Goals as goal

pub outputs-init : goal.outputs-init
outputs-init c =
    let design = design_of c.args.self.now.settle.graph.now.design.now in
    record {
      belongs = refl;
      changes = ap (map change_seen) c.requires.empty ∙ sym (no-changes design c.args.self.now.values.items c.args.self.now.values.items);
      others = λ x none. refl;
      holds = λ machine state is h. h;
    }

pub put-change-requires-clause-there : goal.put-change-requires-clause-there
put-change-requires-clause-there c =
    let design = design_of c.args.self.now.settle.graph.now.design.now in
    output-there design c.args.outputs.now (length c.outputs.self.values.items) c.outputs.at (record { 0 = 0 }) c.requires.nets
    (c.outputs.self.are.count ∙ ap (λ (g : Graph). length (design_of g.design.now).objects) c.outputs.invariant.belongs) (search rules)

pub put-change-requires-clause-width : goal.put-change-requires-clause-width
put-change-requires-clause-width c =
    let design = design_of c.args.self.now.settle.graph.now.design.now in
    output-width design c.args.outputs.now c.args.values.now c.outputs.at (record { 0 = 0 }) c.index-values-at.result c.requires.widths (search rules) c.index-values-at.is
    ∙ ap (λ (g : Graph). width_in (design_of g.design.now) (object_number (get_or c.args.outputs.now c.outputs.at (record { 0 = 0 })))) (sym c.outputs.invariant.belongs)

pub tell-requires-clause-order : goal.tell-requires-clause-order
tell-requires-clause-order c =
    let design = design_of c.args.self.now.settle.graph.now.design.now in
    subst AreInOrder (sym c.outputs.invariant.changes) (nets-in_order design (take c.outputs.at (map object_number c.args.outputs.now)) c.args.self.now.values.items c.outputs.self.values.items)

pub outputs-preserved : goal.outputs-preserved
outputs-preserved c =
    let design = design_of c.args.self.now.settle.graph.now.design.now in
    let low : c.outputs.at < length c.args.outputs.now = search rules in
    let within : c.outputs.at < length (map object_number c.args.outputs.now) = omega (arith, low, length-map c.args.outputs.now object_number) in
    let is_o : get_or (map object_number c.args.outputs.now) c.outputs.at 0 ≡ object_number (get_or c.args.outputs.now c.outputs.at (record { 0 = 0 })) =
    get_or-map object_number c.args.outputs.now c.outputs.at (record { 0 = 0 }) 0 low in
    let read : c.index-values-at.result ≡ get_or c.args.values.now c.outputs.at [] =
    c.index-values-at.is ∙ get_or_default c.args.values.now c.outputs.at c.index-values-at.result [] (omega (arith, within, c.requires.widths.count)) in
    let there : object_number (get_or c.args.outputs.now c.outputs.at (record { 0 = 0 })) < length c.outputs.self.values.items =
    output-there design c.args.outputs.now (length c.outputs.self.values.items) c.outputs.at (record { 0 = 0 }) c.requires.nets
    (c.outputs.self.are.count ∙ ap (λ (g : Graph). length (design_of g.design.now).objects) c.outputs.invariant.belongs) low in
    let unchanged : value_at c.args.self.now.values.items (object_number (get_or c.args.outputs.now c.outputs.at (record { 0 = 0 }))) ≡ value_at c.outputs.self.values.items
    (object_number (get_or c.args.outputs.now c.outputs.at (record { 0 = 0 }))) =
    sym
    (c.outputs.invariant.others (object_number (get_or c.args.outputs.now c.outputs.at (record { 0 = 0 })))
    (subst (λ o. has (take c.outputs.at (map object_number c.args.outputs.now)) o ≡ false) is_o (distinct-before (map object_number c.args.outputs.now) c.outputs.at c.requires.distinct within))) in
    record {
      belongs = c.put-change.ensures.belongs ∙ c.outputs.invariant.belongs;
      changes =
          c.in_ok-tell.ensures
          ∙ (λ j. with_change (record { object = object_number (c.put-change.ensures.object j); old = c.put-change.ensures.old j; new = c.put-change.ensures.new j }) (c.outputs.invariant.changes j))
          ∙ sym
          (changes-more design (map object_number c.args.outputs.now) c.outputs.at (object_number (get_or c.args.outputs.now c.outputs.at (record { 0 = 0 }))) c.args.self.now.values.items
          c.outputs.self.values.items c.index-values-at.result
          c.requires.distinct c.requires.nets within is_o there unchanged)
          ∙ ap (net_changes design (take (c.outputs.at + 1) (map object_number c.args.outputs.now)) c.args.self.now.values.items) (sym c.put-change.ensures.values);
      others = λ x none.
          ap (λ vs. value_at vs x) c.put-change.ensures.values
          ∙ others-more (map object_number c.args.outputs.now) c.outputs.at (object_number (get_or c.args.outputs.now c.outputs.at (record { 0 = 0 }))) x c.args.self.now.values.items
          c.outputs.self.values.items c.index-values-at.result
          within is_o c.outputs.invariant.others none;
      holds = λ machine state is h.
          subst (λ s. Holds c.put-change.new.self s)
          ((λ j. with_value machine (sym is_o j) (read j) (with_values machine (take c.outputs.at (map object_number c.args.outputs.now)) (take c.outputs.at c.args.values.now) state))
          ∙ sym (with_values-more machine (map object_number c.args.outputs.now) c.args.values.now c.outputs.at state c.requires.widths.count within))
          (c.put-change.ensures.holds machine (with_values machine (take c.outputs.at (map object_number c.args.outputs.now)) (take c.outputs.at c.args.values.now) state)
          (is ∙ ap (λ (g : Graph). design_of g.design.now) (sym c.outputs.invariant.belongs)) (c.outputs.invariant.holds machine state is h));
    }

pub returns-clause-objects : goal.returns-clause-objects
returns-clause-objects c =
    told-objects (design_of c.args.self.now.settle.graph.now.design.now) (take c.outputs.at (map object_number c.args.outputs.now)) c.args.self.now.values.items c.outputs.self.values.items
    c.outputs.changes.items c.outputs.invariant.changes

pub returns-clause-widths : goal.returns-clause-widths
returns-clause-widths c =
    told-widths (design_of c.args.self.now.settle.graph.now.design.now) (take c.outputs.at (map object_number c.args.outputs.now)) c.args.self.now.values.items c.outputs.self.values.items
    c.outputs.changes.items
    c.args.self.now.are (subst (λ (g : Graph). AreValuesOf (design_of g.design.now) c.outputs.self.values.items) c.outputs.invariant.belongs c.outputs.self.are) c.outputs.invariant.changes
