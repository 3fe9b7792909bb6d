use Rattle.std.proofs.Common.{◌≡◌, ◌<◌, [], ◌∷◌, get_or, length, set, refl, sym, ap, subst, ◌∙◌, arith}
use Rattle.std.specs.Prelude.{nat_eq}
use Rattle.std.proofs.lemmas.Bool.{eq-eqb, or_left}
use Rattle.std.proofs.lemmas.List.{get_or_read, get_or_default}
use Rattle.vf_base.specs.Base.{object_number, node_number}
use Rattle.vf_base.specs.Lists.{has}
use Rattle.v_design.specs.declared.plan.Design.{Design}
use Rattle.v_design.specs.Assignments.{value_at}
use Rattle.v_design.specs.Designs.{Machine, width_in}
use Rattle.v_design.specs.Laws.{worked_on}
use Rattle.v_design.specs.Plain.{fault_of, site_of}
use Rattle.v_design.specs.PlainDesigns.{design_of}
use Rattle.v_design.specs.RulesHold.{rules_hold}
use Rattle.v_design.specs.Views.{machine_with}
use Rattle.copy_laws.specs.Touches.{site_is_object, site_is_node}
use Rattle.copy_overlay.specs.Faulty.{faulty_values}
use Rattle.node_eval.specs.ValuesOf.{AreValuesOf}
use Rattle.start_copy.specs.Reached.{ComesToHold}
use Rattle.start_copy.proofs.Sites.{SiteStands, site-stands}
use Rattle.start_copy.proofs.Started.{starts-node, starts-variable, good-values, shown-values, node-below, forced-shown, forced-wide}
use Rattle.start_copy.proofs.reach.hold_site.Goals as goal

pub bounds-good-object : goal.bounds-good-object
bounds-good-object c =
    let d = c.args.view.now.design.now in
    let rules = rules_hold (design_of d) d.rules in
    let stands = subst (SiteStands (design_of d)) (ap site_of c.in-Var.is) (site-stands (design_of d) (fault_of c.args.fault).site rules c.requires.site) in
    omega (arith, stands.0, (good-values (design_of d) c.args.good.now c.nets.ensures.begin rules c.requires.good).count)

pub hold-requires-clause-there : goal.hold-requires-clause-there
hold-requires-clause-there c =
    let d = c.args.view.now.design.now in
    let rules = rules_hold (design_of d) d.rules in
    let stands = subst (SiteStands (design_of d)) (ap site_of c.in-Var.is) (site-stands (design_of d) (fault_of c.args.fault).site rules c.requires.site) in
    omega (arith, stands.0, (good-values (design_of d) c.args.good.now c.nets.ensures.begin rules c.requires.good).count)

pub hold-requires-clause-are : goal.hold-requires-clause-are
hold-requires-clause-are c =
    let d = c.args.view.now.design.now in
    let rules = rules_hold (design_of d) d.rules in
    subst (λ (e : Design). AreValuesOf (design_of e) (faulty_values c.args.good.now c.args.copy.now.values)) (sym c.requires.belongs)
    (shown-values (design_of d) c.args.good.now c.args.copy.now.values c.requires.empty (good-values (design_of d) c.args.good.now c.nets.ensures.begin rules c.requires.good))

pub hold-requires-clause-good : goal.hold-requires-clause-good
hold-requires-clause-good c =
    let d = c.args.view.now.design.now in
    let rules = rules_hold (design_of d) d.rules in
    subst (λ (e : Design). AreValuesOf (design_of e) c.args.good.now) (sym c.requires.belongs) (good-values (design_of d) c.args.good.now c.nets.ensures.begin rules c.requires.good)

pub hold-requires-clause-width : goal.hold-requires-clause-width
hold-requires-clause-width c =
    let d = c.args.view.now.design.now in
    let good = c.args.good.now in
    let object = object_number c.in-Var.object in
    let rules = rules_hold (design_of d) d.rules in
    let values = good-values (design_of d) c.args.good.now c.nets.ensures.begin rules c.requires.good in
    let stands = subst (SiteStands (design_of d)) (ap site_of c.in-Var.is) (site-stands (design_of d) (fault_of c.args.fault).site rules c.requires.site) in
    let low : object_number c.in-Var.object < length c.args.good.now = omega (arith, stands.0, values.count) in
    let read : c.index-good-object.result ≡ value_at c.args.good.now (object_number c.in-Var.object) = get_or_read good object c.index-good-object.result low c.index-good-object.is [] in
    let found : get_or c.args.good.now (object_number c.in-Var.object) c.index-good-object.result ≡ value_at c.args.good.now (object_number c.in-Var.object) =
    get_or_default good object c.index-good-object.result [] low in
    forced-wide c.args.view.now c.forced-own.result _ good object c.forced-own.ensures (cc)
    ∙ values.widths object low
    ∙ ap (λ (e : Design). width_in (design_of e) (object_number c.in-Var.object)) (sym c.requires.belongs)

pub work_on-requires-clause-node : goal.work_on-requires-clause-node
work_on-requires-clause-node c =
    let d = c.args.view.now.design.now in
    subst (SiteStands (design_of d)) (ap site_of c.in-Out.is) (site-stands (design_of d) (fault_of c.args.fault).site (rules_hold (design_of d) d.rules) c.requires.site)

pub work_on-requires-clause-are : goal.work_on-requires-clause-are
work_on-requires-clause-are c =
    let d = c.args.view.now.design.now in
    shown-values (design_of d) c.args.good.now c.args.copy.now.values c.requires.empty
    (good-values (design_of d) c.args.good.now c.nets.ensures.begin (rules_hold (design_of d) d.rules) c.requires.good)

pub work_on-requires-clause-good : goal.work_on-requires-clause-good
work_on-requires-clause-good c =
    let d = c.args.view.now.design.now in
    good-values (design_of d) c.args.good.now c.nets.ensures.begin (rules_hold (design_of d) d.rules) c.requires.good

pub work_on-requires-in-Terminal-clause-node : goal.work_on-requires-in-Terminal-clause-node
work_on-requires-in-Terminal-clause-node c =
    let d = c.args.view.now.design.now in
    subst (SiteStands (design_of d)) (ap site_of c.in-Terminal.is) (site-stands (design_of d) (fault_of c.args.fault).site (rules_hold (design_of d) d.rules) c.requires.site)

pub work_on-requires-in-Terminal-clause-are : goal.work_on-requires-in-Terminal-clause-are
work_on-requires-in-Terminal-clause-are c =
    let d = c.args.view.now.design.now in
    shown-values (design_of d) c.args.good.now c.args.copy.now.values c.requires.empty
    (good-values (design_of d) c.args.good.now c.nets.ensures.begin (rules_hold (design_of d) d.rules) c.requires.good)

pub work_on-requires-in-Terminal-clause-good : goal.work_on-requires-in-Terminal-clause-good
work_on-requires-in-Terminal-clause-good c =
    let d = c.args.view.now.design.now in
    good-values (design_of d) c.args.good.now c.nets.ensures.begin (rules_hold (design_of d) d.rules) c.requires.good

pub returns-in_ok-hold-in-Var-clause-starts : goal.returns-in_ok-hold-in-Var-clause-starts
returns-in_ok-hold-in-Var-clause-starts c =
    let d = c.args.view.now.design.now in
    let good = c.args.good.now in
    let object = object_number c.in-Var.object in
    let rules = rules_hold (design_of d) d.rules in
    let values = good-values (design_of d) c.args.good.now c.nets.ensures.begin rules c.requires.good in
    let stands = subst (SiteStands (design_of d)) (ap site_of c.in-Var.is) (site-stands (design_of d) (fault_of c.args.fault).site rules c.requires.site) in
    let low : object_number c.in-Var.object < length c.args.good.now = omega (arith, stands.0, values.count) in
    let read : c.index-good-object.result ≡ value_at c.args.good.now (object_number c.in-Var.object) = get_or_read good object c.index-good-object.result low c.index-good-object.is [] in
    let found : get_or c.args.good.now (object_number c.in-Var.object) c.index-good-object.result ≡ value_at c.args.good.now (object_number c.in-Var.object) =
    get_or_default good object c.index-good-object.result [] low in
    let held = set (faulty_values good c.args.copy.now.values) object c.forced-own.result in
    let comes = c.in_ok-hold-in-Var.ensures.holds (object ∷ []) (or_left (nat_eq object object) (has [] object) (eq-eqb object object refl)) in
    starts-variable (design_of d) (fault_of c.args.fault) good c.args.copy.now c.hold.new.copy c.args.settle.now.marks.items c.hold.new.settle.marks.items object c.in-Var.field-1 c.forced-own.result
    c.nodes_rest.ensures c.nets.ensures.begin c.free_events.ensures.sites rules (ap site_of c.in-Var.is) stands.0 stands.1 c.requires.good c.requires.empty c.requires.none
    (forced-shown c.args.view.now c.args.fault c.forced-own.result _ good object c.requires.fault c.forced-own.ensures (cc))
    (subst (λ (e : Design). ComesToHold (design_of e) good (object ∷ []) held c.args.copy.now c.hold.new.copy c.args.settle.now.marks.items c.hold.new.settle.marks.items) c.requires.belongs comes)

pub returns-in_ok-work_on-in-Out-clause-starts : goal.returns-in_ok-work_on-in-Out-clause-starts
returns-in_ok-work_on-in-Out-clause-starts c =
    let d = c.args.view.now.design.now in
    let good = c.args.good.now in
    let number = node_number c.in-Out.node in
    let rules = rules_hold (design_of d) d.rules in
    let site = ap site_of c.in-Out.is in
    let found = node-below (design_of d).nodes number (subst (SiteStands (design_of d)) site (site-stands (design_of d) (fault_of c.args.fault).site rules c.requires.site)) in
    let machine = ap (machine_with d) c.requires.fault in
    starts-node (design_of d) (fault_of c.args.fault) good c.args.copy.now c.work_on.new.copy c.args.settle.now.marks.items c.work_on.new.settle.marks.items number found.0 c.nets.ensures.settle
    c.nets.ensures.begin c.free_events.ensures.sites rules found.1 (λ k. ap (λ s. site_is_node s k) site) (λ x. ap (λ s. site_is_object s x) site) c.requires.good c.requires.empty c.requires.none
    (subst (λ (m : Machine). ComesToHold (design_of d) good found.0.outputs (worked_on m number found.0 (faulty_values good c.args.copy.now.values)) c.args.copy.now c.work_on.new.copy
    c.args.settle.now.marks.items c.work_on.new.settle.marks.items) machine (c.in_ok-work_on-in-Out.ensures.holds found.0 found.1))

pub returns-in_ok-work_on-in-Terminal-clause-starts : goal.returns-in_ok-work_on-in-Terminal-clause-starts
returns-in_ok-work_on-in-Terminal-clause-starts c =
    let d = c.args.view.now.design.now in
    let good = c.args.good.now in
    let number = node_number c.in-Terminal.node in
    let rules = rules_hold (design_of d) d.rules in
    let site = ap site_of c.in-Terminal.is in
    let found = node-below (design_of d).nodes number (subst (SiteStands (design_of d)) site (site-stands (design_of d) (fault_of c.args.fault).site rules c.requires.site)) in
    let machine = ap (machine_with d) c.requires.fault in
    starts-node (design_of d) (fault_of c.args.fault) good c.args.copy.now c.work_on-in-Terminal.new.copy c.args.settle.now.marks.items c.work_on-in-Terminal.new.settle.marks.items number found.0
    c.nets.ensures.settle c.nets.ensures.begin c.free_events.ensures.sites rules found.1 (λ k. ap (λ s. site_is_node s k) site) (λ x. ap (λ s. site_is_object s x) site) c.requires.good
    c.requires.empty c.requires.none
    (subst (λ (m : Machine). ComesToHold (design_of d) good found.0.outputs (worked_on m number found.0 (faulty_values good c.args.copy.now.values)) c.args.copy.now c.work_on-in-Terminal.new.copy
    c.args.settle.now.marks.items c.work_on-in-Terminal.new.settle.marks.items) machine (c.in_ok-work_on-in-Terminal.ensures.holds found.0 found.1))
