-- One object more is reached.
use Rattle.std.proofs.Common.{◌<◌, [], ◌∷◌, map, take, length, get_or, sym, ap, subst, ◌∙◌, arith}
use Rattle.std.proofs.lemmas.List.{map-append, take_more}
use Rattle.vf_base.specs.Base.{object_number}
use Rattle.v_design.specs.PlainDesigns.{design_of}
use Rattle.phase_reach.specs.Reached.{AreReached}
use Rattle.phase_reach.proofs.Loops.{reached-more}
use Rattle.phase_reach.proofs.reach.reach_all.Goals as goal

pub objects-preserved : goal.objects-preserved
objects-preserved c =
    let objects = c.args.objects.now in
    let place = c.objects.place in
    let object = get_or objects place (record { 0 = 0 }) in
    let design = design_of c.clear.new.self.design in
    let low : place < length objects = omega arith in
    let taken = take_more objects place (record { 0 = 0 }) low in
    record {
      design = c.add.ensures.design_is ∙ c.objects.invariant.design;
      all =
          subst (λ l. AreReached design l c.add.new.self) (sym (ap (map object_number) taken ∙ map-append object_number (take place objects) (object ∷ [])))
          (reached-more design (map object_number (take place objects)) (object_number object) c.objects.reached c.add.new.self (ap design_of c.objects.invariant.design) c.objects.invariant.all
          c.add.ensures);
    }
