-- Object by object.
use Rattle.std.proofs.Common.{◌≡◌, ℕ, ◌+◌, length, refl, sym, ap, subst, ◌∙◌, arith}
use Rattle.std.specs.Prelude.{Some}
use Rattle.four_value.specs.Values.{LogicValue}
use Rattle.v_design.specs.Assignments.{value_at}
use Rattle.v_design.specs.Designs.{Machine, width_in}
use Rattle.lockstep_exchange.specs.block_events.Runners.{state_of}
use Rattle.lockstep_exchange.specs.Putting.{ValuesArePut}
use Rattle.lockstep_room.specs.Rooms.{values_below}
use Rattle.lockstep_exchange.proofs.Puts.{below-within, below-past, below-next, value-more, values-none}
use Rattle.lockstep_room.proofs.anew.stand_objects.Goals as goal

pub objects-init : goal.objects-init
objects-init g c = record {
  machine = refl;
  put = λ of.
      values-none (values_below 0 of.good) (state_of c.args.runner.now) (λ object. below-past (λ (o : ℕ). Some (value_at of.good.values o)) 0 object (omega arith));
  whole = c.requires.whole;
}

pub value-requires : goal.value-requires
value-requires g c =
    let stands = c.requires.stands in record { state = stands.good; shown = stands.shown; there = omega (arith, c.objects-test.true, c.requires.count, stands.value_count) }

pub put_value-requires-clause-there : goal.put_value-requires-clause-there
put_value-requires-clause-there g c = omega (arith, c.objects-test.true, c.requires.count, (c.objects.invariant.put c.requires.stands).count)

pub put_value-requires-clause-width : goal.put_value-requires-clause-width
put_value-requires-clause-width g c =
    let stands = c.requires.stands in
    let object = c.objects.number in
    ap (λ (v : LogicValue). length v) (c.value.ensures stands.good stands.shown)
    ∙ stands.wide object (omega (arith, c.objects-test.true, c.requires.count, stands.value_count)) ∙ ap (λ (m : Machine). width_in m.design object) (sym c.objects.invariant.machine)

pub objects-preserved : goal.objects-preserved
objects-preserved g c =
    let inv = c.objects.invariant in
    let object = c.objects.number in
    record {
      machine = c.put_value.ensures.machine ∙ inv.machine;
      put = λ of.
          let found = λ (o : ℕ). Some (value_at of.good.values o) in
          value-more (values_below object of.good) (values_below (object + 1) of.good) (state_of c.args.runner.now) (state_of c.objects.runner) (state_of c.put_value.new.self) object
          c.value.result (inv.put of) (omega (arith, c.objects-test.true, c.requires.count, (inv.put of).count)) c.put_value.ensures.state
          (below-within found (object + 1) object (omega arith) ∙ ap Some (sym (c.value.ensures of.good of.shown))) (λ other differ. below-next found object other differ);
      whole = c.put_value.ensures.whole;
    }

pub returns-clause-state : goal.returns-clause-state
returns-clause-state g c = λ of.
    let all : c.objects.number ≡ c.args.count = omega (arith, c.objects-test.false, c.objects.auto.number-end) in
    subst (λ (n : ℕ). ValuesArePut (values_below n of.good) (state_of c.args.runner.now) (state_of c.objects.runner)) all (c.objects.invariant.put of)
