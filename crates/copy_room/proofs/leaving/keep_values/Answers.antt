-- One object's value more.
use Rattle.std.proofs.Common.{◌≡◌, ◌+◌, List, length, refl, sym, ap, subst, ◌∙◌, arith}
use Rattle.four_value.specs.Values.{LogicValue}
use Rattle.v_design.specs.Designs.{FlatDesign, width_in}
use Rattle.v_design.specs.Assignments.{value_at}
use Rattle.copy_state.specs.Kept.{CopyKept, with_own_value}
use Rattle.between_slots.specs.Between.{state_through}
use Rattle.copy_between.specs.Differing.{IsDifference, AreKeptBelow}
use Rattle.copy_between.specs.DifferingLaws.{kept-first, kept-more, kept-value}
use Rattle.machine.specs.Standing.{state_kept}
use Rattle.copy_room.proofs.Keeping.{wide-at}
use Rattle.copy_room.proofs.leaving.keep_values.Goals as goal

pub objects-init : goal.objects-init
objects-init g c =
    let good = (state_through g.N.World.design g.N.World.plan (c.args.window.now.before + c.args.slot)).values in
    let own = (state_kept c.args.room.now).values in
    (refl, kept-first (λ object. IsDifference (value_at good object) (value_at own object)) c.args.copy.now.values)

pub value-requires : goal.value-requires
value-requires g c = omega (arith, c.objects-test.true, c.requires.count, c.requires.between.values, ap (λ (d : FlatDesign). length d.objects) c.requires.design)

pub set-requires : goal.set-requires
set-requires g c =
    let x = c.objects.number in
    let good = (state_through g.N.World.design g.N.World.plan (c.args.window.now.before + c.args.slot)).values in
    let count : length (state_kept c.args.room.now).values ≡ length g.N.World.design.objects = c.requires.between.values ∙ ap (λ (d : FlatDesign). length d.objects) c.requires.design in
    ap length (c.value_at-good.ensures ∙ ap (λ (l : List LogicValue). value_at l x) c.first_moment-moment.ensures.values)
    ∙ wide-at g.N.World.design good x c.rests_before.ensures.widths (omega (arith, c.objects-test.true, c.requires.count, c.rests_before.ensures.rests.value_count))
    ∙ ap (λ (d : FlatDesign). width_in d x) (sym c.requires.design)
    ∙ sym (c.requires.between.widths x (omega (arith, c.objects-test.true, c.requires.count, count)))
    ∙ sym (ap length c.value.ensures)

pub objects-preserved : goal.objects-preserved
objects-preserved g c =
    let good = (state_through g.N.World.design g.N.World.plan (c.args.window.now.before + c.args.slot)).values in
    let own = (state_kept c.args.room.now).values in
    let old = c.args.copy.now in
    let now = c.objects.copy in
    let x = c.objects.number in
    let values = with_own_value x (value_at good x) (value_at own x) now.values in
    let whole = c.in_ok-set.ensures.ok
    ∙ ap (λ v. record now { values = with_own_value x v c.value.result now.values }) (c.value_at-good.ensures ∙ ap (λ (l : List LogicValue). value_at l x) c.first_moment-moment.ensures.values)
    ∙ ap (λ v. record now { values = with_own_value x (value_at good x) v now.values }) c.value.ensures in
    subst (λ (k : CopyKept). (k ≡ record old { values = k.values }) × AreKeptBelow (λ object. IsDifference (value_at good object) (value_at own object)) (x + 1) old.values k.values)
    (sym whole) (
      ap (λ (k : CopyKept). record k { values = values }) c.objects.invariant.0,
      kept-more (λ object. IsDifference (value_at good object) (value_at own object)) x old.values now.values values c.objects.invariant.1
          (kept-value x (value_at good x) (value_at own x) now.values),
    )
