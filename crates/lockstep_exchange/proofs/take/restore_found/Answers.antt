-- Object by object of those of which a value is kept.
use Rattle.std.proofs.Common.{◌≡◌, ◌+◌, length, refl, sym, ap, ◌∙◌, arith}
use Rattle.std.specs.Prelude.{Some, None, option_map}
use Rattle.four_value.specs.Values.{LogicValue}
use Rattle.v_design.specs.Assignments.{value_at}
use Rattle.v_design.specs.Designs.{Machine, width_in}
use Rattle.copy_state.specs.Entries.{first_from}
use Rattle.block_events.specs.Runners.{state_of}
use Rattle.lockstep_exchange.specs.Putting.{values_restored}
use Rattle.lockstep_exchange.proofs.Puts.{below, below-within, below-kept, below-past, below-all, value-more, values-none, values-same}
use Rattle.lockstep_exchange.proofs.Entries.{few-objects, held_number, next-falls, next-here}
use Rattle.lockstep_exchange.proofs.take.restore_found.Goals as goal

pub objects-init : goal.objects-init
objects-init g c = record {
  from = 0;
  next_is = c.next_held-next.ensures.next;
  machine = refl;
  put = λ of.
      values-none (below 0 (values_restored c.args.own.now.copy.values of.good)) (state_of c.args.runner.now)
      (λ object. below-past (values_restored c.args.own.now.copy.values of.good) 0 object (omega arith));
  whole = c.requires.whole;
}

pub value-requires : goal.value-requires
value-requires g c =
    let inv = c.objects.invariant in
    let next = next-here held_number inv.from c.objects.next c.in-Some.held c.args.own.now.copy.values c.ascending.ensures.values inv.next_is c.in-Some.is in
    let fits = c.requires.fits in
    record { state = fits.good; shown = fits.shown; there = omega (arith, (fits.each _ next.value next.kept).there, fits.value_count) }

pub put_value-requires-clause-there : goal.put_value-requires-clause-there
put_value-requires-clause-there g c =
    let inv = c.objects.invariant in
    let next = next-here held_number inv.from c.objects.next c.in-Some.held c.args.own.now.copy.values c.ascending.ensures.values inv.next_is c.in-Some.is in
    omega (arith, (c.requires.fits.each _ next.value next.kept).there, (inv.put c.requires.fits).count)

pub put_value-requires-clause-width : goal.put_value-requires-clause-width
put_value-requires-clause-width g c =
    let inv = c.objects.invariant in
    let next = next-here held_number inv.from c.objects.next c.in-Some.held c.args.own.now.copy.values c.ascending.ensures.values inv.next_is c.in-Some.is in
    let fits = c.requires.fits in
    ap (λ (v : LogicValue). length v) (c.value.ensures fits.good fits.shown) ∙ (fits.each _ next.value next.kept).width
    ∙ ap (λ (m : Machine). width_in m.design (held_number c.in-Some.held)) (sym inv.machine)

pub overflow_add-held : goal.overflow_add-held
overflow_add-held g c =
    let inv = c.objects.invariant in
    let next = next-here held_number inv.from c.objects.next c.in-Some.held c.args.own.now.copy.values c.ascending.ensures.values inv.next_is c.in-Some.is in
    let few = few-objects c.args.runner.now (held_number c.in-Some.held) (c.requires.fits.each _ next.value next.kept).there in omega (arith, few)

pub objects-smaller : goal.objects-smaller
objects-smaller g c =
    let inv = c.objects.invariant in
    let next = next-here held_number inv.from c.objects.next c.in-Some.held c.args.own.now.copy.values c.ascending.ensures.values inv.next_is c.in-Some.is in
    next-falls held_number (length (state_of c.args.runner.now).values) c.objects.next c.next_held-next-in-Some.result c.in-Some.held c.args.own.now.copy.values c.ascending.ensures.values c.in-Some.is
    (c.requires.fits.each _ next.value next.kept).there c.next_held-next-in-Some.ensures.next

pub objects-preserved : goal.objects-preserved
objects-preserved g c =
    let own = c.args.own.now in
    let values = own.copy.values in
    let inv = c.objects.invariant in
    let object = held_number c.in-Some.held in
    let next = next-here held_number inv.from c.objects.next c.in-Some.held values c.ascending.ensures.values inv.next_is c.in-Some.is in
    record {
      from = object + 1;
      next_is = c.next_held-next-in-Some.ensures.next;
      machine = c.put_value.ensures.machine ∙ inv.machine;
      put = λ of.
          let found = values_restored values of.good in
          value-more (below inv.from found) (below (object + 1) found) (state_of c.args.runner.now) (state_of c.objects.runner) (state_of c.put_value.new.self) object c.value.result (inv.put of)
          (omega (arith, (of.each object next.value next.kept).there, (inv.put of).count)) c.put_value.ensures.state
          (below-within found (object + 1) object (omega arith) ∙ ap (option_map (λ (v : LogicValue). value_at of.good.values object)) next.kept
          ∙ ap Some (sym (c.value.ensures of.good of.shown)))
          (λ other differ.
          below-kept found values inv.from object other c.ascending.ensures.values next.at (λ number none. ap (option_map (λ (v : LogicValue). value_at of.good.values number)) none) differ);
      whole = c.put_value.ensures.whole;
    }

pub returns-clause-machine : goal.returns-clause-machine
returns-clause-machine g c = c.objects.invariant.machine

pub returns-clause-state : goal.returns-clause-state
returns-clause-state g c = λ of.
    let own = c.args.own.now in
    let values = own.copy.values in
    let inv = c.objects.invariant in
    let found = values_restored values of.good in
    let none : first_from inv.from values ≡ None = sym inv.next_is ∙ ap (option_map held_number) c.in_default.is in
    values-same (below inv.from found) found (state_of c.args.runner.now) (state_of c.objects.runner)
    (λ object. below-all found values inv.from object none (λ number e. ap (option_map (λ (v : LogicValue). value_at of.good.values number)) e)) (inv.put of)

pub returns-clause-whole : goal.returns-clause-whole
returns-clause-whole g c = c.objects.invariant.whole
