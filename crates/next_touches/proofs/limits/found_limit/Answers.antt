-- Object by object of those of which a value is kept.
use Rattle.std.proofs.Common.{◌≡◌, ◌+◌, ◌<◌, ◌≤◌, length, sym, ap, ◌∙◌, arith}
use Rattle.std.specs.Prelude.{Some, None, option_map}
use Rattle.vf_base.specs.Base.{object_number}
use Rattle.v_design.specs.Designs.{FlatDesign}
use Rattle.v_design.specs.PlainDesigns.{design_of}
use Rattle.v_design.specs.RulesHold.{rules_hold}
use Rattle.copy_state.specs.Entries.{first_from}
use Rattle.copy_state.specs.declared.entry.HeldValue.{HeldValue}
use Rattle.copy_skip.specs.Entries.{next-kept}
use Rattle.copy_skip.specs.Limits.{IsLeftAlone}
use Rattle.copy_skip.proofs.Limited.{reads-lower}
use Rattle.trace_window.specs.Moments.{window_events}
use Rattle.next_touches.proofs.Kept.{alone-all, alone-more, left-falls}
use Rattle.next_touches.proofs.limits.found_limit.Goals as goal

pub object_until-until-requires-clause-there : goal.object_until-until-requires-clause-there
object_until-until-requires-clause-there g c κs within =
    let object = object_number c.in-Some.held.object in
    let at : first_from c.objects.invariant.from c.args.copy.now.values ≡ Some object =
    sym c.objects.invariant.next_is ∙ ap (option_map (λ (held : HeldValue). object_number held.object)) c.in-Some.is in
    c.requires.there object (next-kept c.objects.invariant.from object c.args.copy.now.values c.ascending.ensures.values at).kept

pub overflow_add-held : goal.overflow_add-held
overflow_add-held g c =
    let object = object_number c.in-Some.held.object in
    let at : first_from c.objects.invariant.from c.args.copy.now.values ≡ Some object =
    sym c.objects.invariant.next_is ∙ ap (option_map (λ (held : HeldValue). object_number held.object)) c.in-Some.is in
    let low : object < length g.N.World.design.objects =
    c.requires.there object (next-kept c.objects.invariant.from object c.args.copy.now.values c.ascending.ensures.values at).kept in
    let few = (rules_hold (design_of c.design-design.result.now) c.design-design.result.now.rules).few_objects in
    let count = ap (λ (d : FlatDesign). length d.objects) c.design-design.ensures.world in
    omega (arith, low, few, count)

pub objects-smaller : goal.objects-smaller
objects-smaller g c =
    let object = object_number c.in-Some.held.object in
    let here : option_map (λ (held : HeldValue). object_number held.object) c.objects.next ≡ Some object = ap (option_map (λ (held : HeldValue). object_number held.object)) c.in-Some.is in
    let at : first_from c.objects.invariant.from c.args.copy.now.values ≡ Some object = sym c.objects.invariant.next_is ∙ here in
    let low : object < length g.N.World.design.objects =
    c.requires.there object (next-kept c.objects.invariant.from object c.args.copy.now.values c.ascending.ensures.values at).kept in
    left-falls (length g.N.World.design.objects) (option_map (λ (held : HeldValue). object_number held.object) c.objects.next) object
    (option_map (λ (held : HeldValue). object_number held.object) c.next_held-next-in-Some.result) here low
    (λ later e.
    let more : first_from (object + 1) c.args.copy.now.values ≡ Some later = sym c.next_held-next-in-Some.ensures.next ∙ e in
    let since : object + 1 ≤ later = (next-kept (object + 1) later c.args.copy.now.values c.ascending.ensures.values more).low in
    omega (arith, since))

pub objects-preserved : goal.objects-preserved
objects-preserved g c =
    let events = window_events g.N.World.design g.N.World.plan c.args.window.now.before c.args.window.now.through in
    let object = object_number c.in-Some.held.object in
    let own = c.objects.invariant in
    let at : first_from own.from c.args.copy.now.values ≡ Some object = sym own.next_is ∙ ap (option_map (λ (held : HeldValue). object_number held.object)) c.in-Some.is in
    let least = c.min-least.result in
    let less : least ≤ c.objects.least = (let is = c.min-least.ensures in omega (arith, is)) in
    let until : least ≤ c.object_until-until.result = (let is = c.min-least.ensures in omega (arith, is)) in
    let low = own.low in
    record {
      low = omega (arith, less, low);
      from = object + 1;
      next_is = c.next_held-next-in-Some.ensures.next;
      alone = λ one below kept.
          alone-more (IsLeftAlone g.N.World.design events) (reads-lower g.N.World.design events) c.args.copy.now.values own.from object c.args.first c.objects.least least
          c.ascending.ensures.values at less own.alone
          (reads-lower g.N.World.design events object c.args.first c.object_until-until.result least until c.object_until-until.ensures.alone) one (omega (arith, below)) kept;
      known = c.object_until-until.ensures.known;
    }

pub returns-clause-alone : goal.returns-clause-alone
returns-clause-alone g c =
    let events = window_events g.N.World.design g.N.World.plan c.args.window.now.before c.args.window.now.through in
    let none : first_from c.objects.invariant.from c.args.copy.now.values ≡ None =
    sym c.objects.invariant.next_is ∙ ap (option_map (λ (held : HeldValue). object_number held.object)) c.in_default.is in
    alone-all (IsLeftAlone g.N.World.design events) (reads-lower g.N.World.design events) c.args.copy.now.values c.objects.invariant.from (length g.N.World.design.objects) c.args.first
    c.objects.least none c.objects.invariant.alone
