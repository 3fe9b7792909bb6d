-- A table with the numbers of objects and of processes of the design.
use Rattle.std.proofs.Common.{◌≡◌, length, sym, ap, subst, ◌∙◌}
use Rattle.std.proofs.lemmas.List.{length-map}
use Rattle.v_design.specs.Designs.{FlatDesign}
use Rattle.v_design.specs.Plain.{object_of, process_of}
use Rattle.next_touches.specs.Touches.{AreUnknown}
use Rattle.next_touches.proofs.Known.{knows-nothing}
use Rattle.next_touches.proofs.table.new_table.Goals as goal

pub returns : goal.returns
returns g c =
    let design = c.design-design.result.now in
    let objects : length c.as_slice.result.now ≡ length g.N.World.design.objects =
    ap length c.as_slice.ensures ∙ sym (length-map design.objects object_of) ∙ sym (ap (λ (d : FlatDesign). length d.objects) c.design-design.ensures.world) in
    let processes : length c.as_slice-2.result.now ≡ length g.N.World.design.processes =
    ap length c.as_slice-2.ensures ∙ sym (length-map design.processes process_of) ∙ sym (ap (λ (d : FlatDesign). length d.processes) c.design-design.ensures.world) in
    knows-nothing g.N.World.design g.N.World.plan _ (subst (λ n. AreUnknown n c.in_ok-objects.objects.items) objects c.in_ok-objects.ensures)
    (subst (λ n. AreUnknown n c.in_ok-processes.processes.items) processes c.in_ok-processes.ensures)
