-- A design has few of each.
use Rattle.std.proofs.Common.{length, sym, ap, ◌∙◌, arith}
use Rattle.std.proofs.lemmas.List.{length-map}
use Rattle.v_design.specs.Designs.{FlatDesign}
use Rattle.v_design.specs.Plain.{object_of, process_of}
use Rattle.v_design.specs.PlainDesigns.{design_of}
use Rattle.v_design.specs.RulesHold.{rules_hold}
use Rattle.lockstep_block.proofs.room.counts_of.Goals as goal

pub overflow_cast-result : goal.overflow_cast-result
overflow_cast-result g c =
    let design = c.design-design.result.now in
    let few = (rules_hold (design_of design) design.rules).few_objects in
    let count = ap length c.as_slice.ensures ∙ sym (length-map design.objects object_of) in
    omega (arith, few, count)

pub overflow_cast-result-2 : goal.overflow_cast-result-2
overflow_cast-result-2 g c =
    let design = c.design-design.result.now in
    let few = (rules_hold (design_of design) design.rules).few_processes in
    let count = ap length c.as_slice-2.ensures ∙ sym (length-map design.processes process_of) in
    omega (arith, few, count)

pub returns : goal.returns
returns g c =
    let design = c.design-design.result.now in
    let same = sym c.design-design.ensures.world in
    record {
      objects = ap length c.as_slice.ensures ∙ sym (length-map design.objects object_of) ∙ ap (λ (d : FlatDesign). length d.objects) same;
      processes = ap length c.as_slice-2.ensures ∙ sym (length-map design.processes process_of) ∙ ap (λ (d : FlatDesign). length d.processes) same;
    }
