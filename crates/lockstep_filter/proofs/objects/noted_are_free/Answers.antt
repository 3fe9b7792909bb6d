-- One object more is free.
use Rattle.std.proofs.Common.{◌≡◌, ◌<◌, [], ◌∷◌, map, take, length, get_or, true, sym, ap, ◌∙◌, arith, rules}
use Rattle.std.proofs.lemmas.List.{map-append, take_more}
use Rattle.vf_base.specs.Base.{object_number}
use Rattle.vf_base.specs.Lists.{has}
use Rattle.lockstep_filter.specs.Free.{IsFreeHere}
use Rattle.phase_reach.specs.Phases.{noted_phase}
use Rattle.phase_reach.proofs.Loops.{has-more}
use Rattle.lockstep_filter.proofs.objects.noted_are_free.Goals as goal

pub objects-preserved : goal.objects-preserved
objects-preserved g c =
    let phase = noted_phase g.N.World.design g.N.World.plan c.args.window.now c.args.notes.now c.args.end in
    let noted = c.noted-noted.result.now in
    let place = c.objects.place in
    let object = get_or noted place (record { 0 = 0 }) in
    let low : place < length noted = omega arith in
    let taken = take_more noted place (record { 0 = 0 }) low in
    let is = ap (map object_number) taken ∙ map-append object_number (take place noted) (object ∷ []) in
    let yes : c.is_object_free.result ≡ true = search rules in
    record {
      design = c.is_object_free.ensures.design ∙ c.objects.invariant.design;
      free = λ other e.
          has-more (IsFreeHere phase) (map object_number (take place noted)) (object_number object) c.objects.invariant.free (c.is_object_free.ensures.free yes) other (sym (ap (λ l. has l other) is) ∙ e);
    }
