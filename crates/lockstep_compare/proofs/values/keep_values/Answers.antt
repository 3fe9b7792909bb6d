-- Each object has a value in both machines, and one more is kept.
use Rattle.std.proofs.Common.{◌≡◌, ℕ, List, length, get_or, map, take, ◌++◌, ◌∷◌, [], ap, sym, subst, ◌∙◌}
use Rattle.vf_base.specs.Base.{object_number}
use Rattle.vf_base.specs.declared.ids.ObjectId.{ObjectId}
use Rattle.four_value.specs.Values.{LogicValue}
use Rattle.v_design.specs.Assignments.{value_at}
use Rattle.copy_between.specs.Differing.{IsDifference, IsKeptAt}
use Rattle.lockstep_copy.specs.declared.own.LockstepCopy.{LockstepCopy}
use Rattle.lockstep_compare.specs.Among.{AreComparable, AreKeptAmong}
use Rattle.lockstep_compare.proofs.Among.{kept-first, kept-more, alone-first, at-place, map-more}
use Rattle.lockstep_compare.proofs.values.keep_values.Goals as goal

abbrev none : ObjectId
none = record { 0 = 0 }

pub value-requires : goal.value-requires
value-requires g c =
    (at-place (AreComparable (g.G.Values.values c.args.good.now) (g.F.Values.values c.args.faulty.now)) object_number c.args.objects.now c.objects.place none c.objects-test.true c.requires).good_within

pub value-requires-in-objects : goal.value-requires-in-objects
value-requires-in-objects g c =
    (at-place (AreComparable (g.G.Values.values c.args.good.now) (g.F.Values.values c.args.faulty.now)) object_number c.args.objects.now c.objects.place none c.objects-test.true c.requires).faulty_within

pub keep_value-requires : goal.keep_value-requires
keep_value-requires g c =
    ap length c.value.ensures
    ∙ (at-place (AreComparable (g.G.Values.values c.args.good.now) (g.F.Values.values c.args.faulty.now)) object_number c.args.objects.now c.objects.place none c.objects-test.true c.requires).width
    ∙ sym (ap length c.value-in-objects.ensures)

pub objects-preserved : goal.objects-preserved
objects-preserved g c =
    let good = g.G.Values.values c.args.good.now in
    let faulty = g.F.Values.values c.args.faulty.now in
    let object = object_number (get_or c.args.objects.now c.objects.place none) in
    let rest = c.in_ok-keep_value.ensures.rest in
    let before = c.objects.invariant.0 in
    let kept : IsKeptAt (IsDifference (value_at good object) (value_at faulty object)) object c.objects.own.copy.values c.keep_value.new.own.copy.values =
    subst (λ (v : LogicValue). IsKeptAt (IsDifference v (value_at faulty object)) object c.objects.own.copy.values c.keep_value.new.own.copy.values) c.value.ensures
    (subst (λ (v : LogicValue). IsKeptAt (IsDifference c.value.result v) object c.objects.own.copy.values c.keep_value.new.own.copy.values) c.value-in-objects.ensures
    c.in_ok-keep_value.ensures.kept) in (
      record {
        fault = ap (λ (k : LockstepCopy). k.copy.fault) rest ∙ before.fault;
        states = ap (λ (k : LockstepCopy). k.copy.states) rest ∙ before.states;
        updates = ap (λ (k : LockstepCopy). k.copy.updates) rest ∙ before.updates;
        lanes = ap (λ (k : LockstepCopy). k.lanes) rest ∙ before.lanes;
      },
      subst
          (λ (l : List ℕ). AreKeptAmong (λ object. IsDifference (value_at good object) (value_at faulty object)) l c.args.own.now.copy.values c.keep_value.new.own.copy.values)
          (sym (map-more object_number c.args.objects.now c.objects.place none c.objects-test.true))
          (kept-more (λ object. IsDifference (value_at good object) (value_at faulty object)) (map object_number (take c.objects.place c.args.objects.now)) object c.args.own.now.copy.values
          c.objects.own.copy.values c.keep_value.new.own.copy.values c.objects.invariant.1 kept),
    )
