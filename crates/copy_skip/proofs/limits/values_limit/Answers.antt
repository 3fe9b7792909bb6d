-- Object by object of those of which a value is kept.
use Rattle.std.proofs.Common.{◌≡◌, ◌+◌, ◌<◌, ◌≤◌, length, sym, ap, ◌∙◌, arith}
use Rattle.std.specs.Prelude.{Option, Some, None, option_map}
use Rattle.vf_base.specs.Base.{object_number}
use Rattle.v_design.specs.Designs.{FlatDesign}
use Rattle.v_design.specs.PlainDesigns.{design_of}
use Rattle.v_design.specs.RulesHold.{rules_hold}
use Rattle.trace_window.specs.Moments.{window_events}
use Rattle.copy_state.specs.Entries.{first_from}
use Rattle.copy_skip.specs.Entries.{next-kept}
use Rattle.copy_skip.proofs.Limited.{alone-more, alone-all, left-falls}
use Rattle.copy_skip.proofs.limits.values_limit.Goals as goal

pub object_limit-least-requires-clause-there : goal.object_limit-least-requires-clause-there
object_limit-least-requires-clause-there g c κs within =
    let object = object_number c.in-Some.object in
    let at : first_from c.objects.invariant.from c.args.copy.now.values ≡ Some object = sym c.objects.invariant.next_is ∙ ap (option_map object_number) c.in-Some.is in
    c.requires.there object (next-kept c.objects.invariant.from object c.args.copy.now.values c.ascending.ensures.values at).kept

pub overflow_add-object : goal.overflow_add-object
overflow_add-object g c =
    let object = object_number c.in-Some.object in
    let at : first_from c.objects.invariant.from c.args.copy.now.values ≡ Some object = sym c.objects.invariant.next_is ∙ ap (option_map object_number) c.in-Some.is in
    let low : object < length g.N.World.design.objects =
    c.requires.there object (next-kept c.objects.invariant.from object c.args.copy.now.values c.ascending.ensures.values at).kept in
    let few = (rules_hold (design_of c.design-design.result.now) c.design-design.result.now.rules).few_objects in
    let count = ap (λ (d : FlatDesign). length d.objects) c.design-design.ensures.world in
    omega (arith, low, few, count)

pub objects-smaller : goal.objects-smaller
objects-smaller g c =
    let object = object_number c.in-Some.object in
    let at : first_from c.objects.invariant.from c.args.copy.now.values ≡ Some object = sym c.objects.invariant.next_is ∙ ap (option_map object_number) c.in-Some.is in
    let low : object < length g.N.World.design.objects =
    c.requires.there object (next-kept c.objects.invariant.from object c.args.copy.now.values c.ascending.ensures.values at).kept in
    left-falls (length g.N.World.design.objects) c.objects.next c.in-Some.object c.next_value-next-in-Some.result c.in-Some.is low
    (λ later e.
    let more : first_from (object + 1) c.args.copy.now.values ≡ Some (object_number later) = sym c.next_value-next-in-Some.ensures ∙ ap (option_map object_number) e in
    let since : object + 1 ≤ object_number later = (next-kept (object + 1) (object_number later) c.args.copy.now.values c.ascending.ensures.values more).low in
    omega (arith, since))

pub objects-preserved : goal.objects-preserved
objects-preserved g c =
    let object = object_number c.in-Some.object in
    let own = c.objects.invariant in
    let at : first_from c.objects.invariant.from c.args.copy.now.values ≡ Some object = sym c.objects.invariant.next_is ∙ ap (option_map object_number) c.in-Some.is in
    record {
      low = omega (arith, c.object_limit-least.ensures.low, own.low);
      from = object + 1;
      next_is = c.next_value-next-in-Some.ensures;
      alone = λ one below kept.
          alone-more g.N.World.design (window_events g.N.World.design g.N.World.plan c.args.window.now.before c.args.window.now.through) c.args.copy.now.values own.from object c.args.first
          c.objects.least c.object_limit-least.result c.ascending.ensures.values at c.object_limit-least.ensures.low own.alone c.object_limit-least.ensures.alone one (omega (arith, below)) kept;
    }

pub returns-clause-alone : goal.returns-clause-alone
returns-clause-alone g c =
    let none : first_from c.objects.invariant.from c.args.copy.now.values ≡ None = sym c.objects.invariant.next_is ∙ ap (option_map object_number) c.in_default.is in
    alone-all g.N.World.design (window_events g.N.World.design g.N.World.plan c.args.window.now.before c.args.window.now.through) c.args.copy.now.values c.objects.invariant.from
    (length g.N.World.design.objects) c.args.first c.objects.least none c.objects.invariant.alone
