-- Strobe by strobe.
use Rattle.std.proofs.Common.{ℕ, ◌<◌, ◌+◌, List, ◌∷◌, drop, get_or, length, sym, subst}
use Rattle.std.proofs.lemmas.List.{drop_more}
use Rattle.v_design.specs.Designs.{FlatDesign, TestPlan}
use Rattle.kept_samples.specs.declared.kept.Sample.{Sample as Kept}
use Rattle.window_strobes.proofs.Seeing.{IsSeeing, seeing-stops, seeing-more}
use Rattle.window_strobes.proofs.samples.samples_to.Goals as goal

-- the strobe that is next
at-strobe : (design : FlatDesign) (plan : TestPlan) (before through until : ℕ) (strobes : List ℕ) (samples : List Kept) (slot i : ℕ) →
    IsSeeing design plan before through until strobes samples slot (drop i strobes) → i < length strobes →
    IsSeeing design plan before through until strobes samples slot (get_or strobes i 0 ∷ drop (i + 1) strobes)
at-strobe design plan before through until strobes samples slot i at low =
    subst (λ left. IsSeeing design plan before through until strobes samples slot left) (drop_more strobes i 0 low) at

pub returns-then-until-strobe : goal.returns-then-until-strobe
returns-then-until-strobe g c =
    seeing-stops g.N.World.design g.N.World.plan c.args.window.now.before c.args.window.now.through c.args.until c.args.strobes.now c.strobes.samples.items c.strobes.slot
    (get_or c.args.strobes.now c.strobes.strobe-index 0) (drop (c.strobes.strobe-index + 1) c.args.strobes.now)
    (at-strobe g.N.World.design g.N.World.plan c.args.window.now.before c.args.window.now.through c.args.until c.args.strobes.now c.strobes.samples.items c.strobes.slot c.strobes.strobe-index
    c.strobes.invariant c.strobes-test.true) c.if-until-strobe.true

pub strobes-preserved : goal.strobes-preserved
strobes-preserved g c =
    subst (λ samples. IsSeeing g.N.World.design g.N.World.plan c.args.window.now.before c.args.window.now.through c.args.until c.args.strobes.now samples c.slots_by-slot.result
    (drop (c.strobes.strobe-index + 1) c.args.strobes.now)) (sym c.in_ok-push.ensures.items)
    (seeing-more g.N.World.design g.N.World.plan c.args.window.now.before c.args.window.now.through c.args.until c.args.strobes.now c.strobes.samples.items c.strobes.slot
    (get_or c.args.strobes.now c.strobes.strobe-index 0) (drop (c.strobes.strobe-index + 1) c.args.strobes.now)
    (at-strobe g.N.World.design g.N.World.plan c.args.window.now.before c.args.window.now.through c.args.until c.args.strobes.now c.strobes.samples.items c.strobes.slot c.strobes.strobe-index
    c.strobes.invariant c.strobes-test.true)
    c.in_ok-sample_at.field-0 c.slots_by-slot.result c.if-until-strobe.false c.slots_by-slot.ensures c.in_ok-sample_at.ensures)
