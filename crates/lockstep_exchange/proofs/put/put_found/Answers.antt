-- Object by object of those of which a value is kept.
use Rattle.std.proofs.Common.{◌≡◌, ◌+◌, length, refl, sym, ap, subst, ◌∙◌, arith}
use Rattle.std.specs.Prelude.{IfSome, Some, None, option_map}
use Rattle.v_design.specs.Designs.{Machine, width_in}
use Rattle.copy_laws.specs.Differences.{own_of}
use Rattle.copy_state.specs.Entries.{first_from}
use Rattle.block_events.specs.Runners.{state_of}
use Rattle.lockstep_exchange.proofs.Puts.{below, below-within, below-kept, below-past, below-all, value-more, values-none, values-same}
use Rattle.lockstep_exchange.proofs.Entries.{few-objects, held_number, next-falls, next-here}
use Rattle.lockstep_exchange.proofs.put.put_found.Goals as goal

pub objects-init : goal.objects-init
objects-init c = record {
  from = 0;
  next_is = c.next_held-next.ensures.next;
  value_is = c.next_held-next.ensures.value;
  machine = refl;
  put = values-none (below 0 (own_of c.args.own.now.copy.values)) (state_of c.args.runner.now) (λ object. below-past (own_of c.args.own.now.copy.values) 0 object (omega arith));
  whole = c.requires.whole;
}

pub put_value-requires-clause-there : goal.put_value-requires-clause-there
put_value-requires-clause-there c =
    let inv = c.objects.invariant in
    let next = next-here held_number inv.from c.objects.next c.in-Some.held c.args.own.now.copy.values c.ascending.ensures.values inv.next_is c.in-Some.is in
    omega (arith, (c.requires.fits.values _ next.value next.kept).there, inv.put.count)

pub put_value-requires-clause-width : goal.put_value-requires-clause-width
put_value-requires-clause-width c =
    let inv = c.objects.invariant in
    let next = next-here held_number inv.from c.objects.next c.in-Some.held c.args.own.now.copy.values c.ascending.ensures.values inv.next_is c.in-Some.is in
    let held = subst (λ o. IfSome o (λ x. own_of c.args.own.now.copy.values (held_number x) ≡ Some x.value)) c.in-Some.is inv.value_is in
    (c.requires.fits.values _ c.in-Some.held.value held).width
    ∙ ap (λ (m : Machine). width_in m.design (held_number c.in-Some.held)) (sym inv.machine)

pub overflow_add-held : goal.overflow_add-held
overflow_add-held c =
    let inv = c.objects.invariant in
    let next = next-here held_number inv.from c.objects.next c.in-Some.held c.args.own.now.copy.values c.ascending.ensures.values inv.next_is c.in-Some.is in
    let few = few-objects c.args.runner.now (held_number c.in-Some.held) (c.requires.fits.values _ next.value next.kept).there in omega (arith, few)

pub objects-smaller : goal.objects-smaller
objects-smaller c =
    let inv = c.objects.invariant in
    let next = next-here held_number inv.from c.objects.next c.in-Some.held c.args.own.now.copy.values c.ascending.ensures.values inv.next_is c.in-Some.is in
    next-falls held_number (length (state_of c.args.runner.now).values) c.objects.next c.next_held-next-in-Some.result c.in-Some.held c.args.own.now.copy.values c.ascending.ensures.values c.in-Some.is
    (c.requires.fits.values _ next.value next.kept).there c.next_held-next-in-Some.ensures.next

pub objects-preserved : goal.objects-preserved
objects-preserved c =
    let values = c.args.own.now.copy.values in
    let inv = c.objects.invariant in
    let object = held_number c.in-Some.held in
    let next = next-here held_number inv.from c.objects.next c.in-Some.held values c.ascending.ensures.values inv.next_is c.in-Some.is in
    let low = (c.requires.fits.values _ next.value next.kept).there in
    record {
      from = object + 1;
      next_is = c.next_held-next-in-Some.ensures.next;
      value_is = c.next_held-next-in-Some.ensures.value;
      machine = c.put_value.ensures.machine ∙ inv.machine;
      put =
          value-more (below inv.from (own_of values)) (below (object + 1) (own_of values)) (state_of c.args.runner.now) (state_of c.objects.runner) (state_of c.put_value.new.self) object
          c.in-Some.held.value inv.put (omega (arith, low, inv.put.count)) c.put_value.ensures.state
          (below-within (own_of values) (object + 1) object (omega arith)
          ∙ subst (λ o. IfSome o (λ x. own_of values (held_number x) ≡ Some x.value)) c.in-Some.is inv.value_is)
          (λ other differ. below-kept (own_of values) values inv.from object other c.ascending.ensures.values next.at (λ number none. none) differ);
      whole = c.put_value.ensures.whole;
    }

pub returns-clause-machine : goal.returns-clause-machine
returns-clause-machine c = c.objects.invariant.machine

pub returns-clause-state : goal.returns-clause-state
returns-clause-state c =
    let values = c.args.own.now.copy.values in
    let inv = c.objects.invariant in
    let none : first_from inv.from values ≡ None = sym inv.next_is ∙ ap (option_map held_number) c.in_default.is in
    values-same (below inv.from (own_of values)) (own_of values) (state_of c.args.runner.now) (state_of c.objects.runner)
    (λ object. below-all (own_of values) values inv.from object none (λ number e. e)) inv.put

pub returns-clause-whole : goal.returns-clause-whole
returns-clause-whole c = c.objects.invariant.whole
