-- A design that keeps its rules has few objects and few processes.
use Rattle.std.proofs.Common.{length, sym, ap, subst, ◌∙◌, arith}
use Rattle.std.proofs.lemmas.List.{length-map}
use Rattle.v_design.specs.Plain.{object_of, process_of}
use Rattle.v_design.specs.PlainDesigns.{design_of}
use Rattle.v_design.specs.RulesHold.{rules_hold}
use Rattle.v_design.specs.WellFormed.{KeepsRules}
use Rattle.copy_room.proofs.counts.counts_of.Goals as goal

pub overflow_cast-result : goal.overflow_cast-result
overflow_cast-result g c =
    let design = c.design-design.result.now in
    let few = (rules_hold (design_of design) design.rules).few_objects in
    let count = ap length c.as_slice.ensures ∙ sym (length-map design.objects object_of) in
    omega (arith, few, count)

pub overflow_cast-result-2 : goal.overflow_cast-result-2
overflow_cast-result-2 g c =
    let design = c.design-design.result.now in
    let few = (rules_hold (design_of design) design.rules).few_processes in
    let count = ap length c.as_slice-2.ensures ∙ sym (length-map design.processes process_of) in
    omega (arith, few, count)

pub returns-clause-rules : goal.returns-clause-rules
returns-clause-rules g c =
    let design = c.design-design.result.now in
    subst KeepsRules (sym c.design-design.ensures.world) (rules_hold (design_of design) design.rules)
