-- Object by object of those that are listed.
use Rattle.std.proofs.Common.{◌+◌, List, [], length, map, refl, sym, ap, subst, ◌∙◌, take, arith}
use Rattle.std.specs.Prelude.{Some, option_map}
use Rattle.std.proofs.lemmas.List.{take_all}
use Rattle.four_value.specs.Values.{LogicValue}
use Rattle.four_value.specs.declared.value.Vec4.{Vec4}
use Rattle.v_design.specs.Assignments.{value_at}
use Rattle.v_design.specs.Designs.{Machine, width_in}
use Rattle.copy_state.specs.Listed.{entry_of}
use Rattle.copy_state.specs.ListedLaws.{listed-here, listed-other, listed-own}
use Rattle.copy_state.specs.declared.entry.Entry.{Entry}
use Rattle.block_events.specs.Runners.{state_of}
use Rattle.lockstep_exchange.specs.Putting.{ValuesArePut, values_restored}
use Rattle.lockstep_exchange.proofs.Puts.{value-more, values-none}
use Rattle.lockstep_exchange.proofs.take.restore_listed.Goals as goal

pub objects-init : goal.objects-init
objects-init g c = record {
  machine = refl;
  put = λ of. values-none (values_restored [] of.good) (state_of c.args.runner.now) (λ object. refl);
  whole = c.requires.whole;
}

pub value-requires : goal.value-requires
value-requires g c =
    let own = c.own-item.result in
    let kept = listed-own c.args.listed.now c.objects.own-index own c.requires.ascend c.objects-test.true c.own-item.is in
    let fits = c.requires.fits in
    record { state = fits.good; shown = fits.shown; there = omega (arith, (fits.each own.number own.kept kept).there, fits.value_count) }

pub put_value-requires-clause-there : goal.put_value-requires-clause-there
put_value-requires-clause-there g c =
    let own = c.own-item.result in
    let kept = listed-own c.args.listed.now c.objects.own-index own c.requires.ascend c.objects-test.true c.own-item.is in
    omega (arith, (c.requires.fits.each own.number own.kept kept).there, (c.objects.invariant.put c.requires.fits).count)

pub put_value-requires-clause-width : goal.put_value-requires-clause-width
put_value-requires-clause-width g c =
    let own = c.own-item.result in
    let kept = listed-own c.args.listed.now c.objects.own-index own c.requires.ascend c.objects-test.true c.own-item.is in
    let fits = c.requires.fits in
    ap (λ (v : LogicValue). length v) (c.value.ensures fits.good fits.shown) ∙ (fits.each own.number own.kept kept).width
    ∙ ap (λ (m : Machine). width_in m.design own.number) (sym c.objects.invariant.machine)

pub objects-preserved : goal.objects-preserved
objects-preserved g c =
    let listed = c.args.listed.now in
    let place = c.objects.own-index in
    let own = c.own-item.result in
    let inv = c.objects.invariant in
    let low = c.objects-test.true in
    let kept = listed-own listed place own c.requires.ascend low c.own-item.is in
    record {
      machine = c.put_value.ensures.machine ∙ inv.machine;
      put = λ of.
          value-more (values_restored (map entry_of (take place listed)) of.good) (values_restored (map entry_of (take (place + 1) listed)) of.good) (state_of c.args.runner.now)
          (state_of c.objects.runner) (state_of c.put_value.new.self) own.number c.value.result (inv.put of)
          (omega (arith, (of.each own.number own.kept kept).there, (inv.put of).count)) c.put_value.ensures.state
          (ap (option_map (λ (v : LogicValue). value_at of.good.values own.number)) (listed-here listed place own c.requires.ascend low c.own-item.is)
          ∙ ap Some (sym (c.value.ensures of.good of.shown)))
          (λ other differ. ap (option_map (λ (v : LogicValue). value_at of.good.values other)) (listed-other listed place own other low c.own-item.is differ));
      whole = c.put_value.ensures.whole;
    }

pub returns-clause-machine : goal.returns-clause-machine
returns-clause-machine g c = c.objects.invariant.machine

pub returns-clause-state : goal.returns-clause-state
returns-clause-state g c = λ of.
    subst (λ (l : List (Entry Vec4)). ValuesArePut (values_restored (map entry_of l) of.good) (state_of c.args.runner.now) (state_of c.objects.runner))
    (take_all c.objects.own-index c.args.listed.now c.objects-test.false) (c.objects.invariant.put of)

pub returns-clause-whole : goal.returns-clause-whole
returns-clause-whole g c = c.objects.invariant.whole
