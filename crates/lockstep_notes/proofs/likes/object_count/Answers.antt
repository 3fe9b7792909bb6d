-- The objects of the design are as many as those of the world.
use Rattle.std.proofs.Common.{length, sym, ap, ◌∙◌}
use Rattle.std.proofs.lemmas.List.{length-map}
use Rattle.v_design.specs.Designs.{FlatDesign}
use Rattle.v_design.specs.Plain.{object_of}
use Rattle.lockstep_notes.proofs.likes.object_count.Goals as goal

pub returns : goal.returns
returns g c =
    let design = c.design-design.result.now in
    ap length c.as_slice.ensures ∙ sym (length-map design.objects object_of) ∙ ap (λ (d : FlatDesign). length d.objects) (sym c.design-design.ensures.world)
