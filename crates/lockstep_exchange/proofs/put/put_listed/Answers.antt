-- Object by object of those that are listed.
use Rattle.std.proofs.Common.{◌+◌, List, [], map, refl, sym, ap, subst, ◌∙◌, take, arith}
use Rattle.std.proofs.lemmas.List.{take_all}
use Rattle.four_value.specs.declared.value.Vec4.{Vec4}
use Rattle.v_design.specs.Designs.{Machine, width_in}
use Rattle.copy_laws.specs.Differences.{own_of}
use Rattle.copy_state.specs.Listed.{entry_of}
use Rattle.copy_state.specs.ListedLaws.{listed-here, listed-other, listed-own}
use Rattle.copy_state.specs.declared.entry.Entry.{Entry}
use Rattle.block_events.specs.Runners.{state_of}
use Rattle.lockstep_exchange.specs.Putting.{ValuesArePut}
use Rattle.lockstep_exchange.proofs.Puts.{value-more, values-none}
use Rattle.lockstep_exchange.proofs.put.put_listed.Goals as goal

pub objects-init : goal.objects-init
objects-init c = record { machine = refl; put = values-none (own_of []) (state_of c.args.runner.now) (λ object. refl); whole = c.requires.whole }

pub put_value-requires-clause-there : goal.put_value-requires-clause-there
put_value-requires-clause-there c =
    let own = c.own-item.result in
    let kept = listed-own c.args.listed.now c.objects.own-index own c.requires.ascend c.objects-test.true c.own-item.is in
    omega (arith, (c.requires.fits own.number own.kept kept).there, c.objects.invariant.put.count)

pub put_value-requires-clause-width : goal.put_value-requires-clause-width
put_value-requires-clause-width c =
    let own = c.own-item.result in
    let kept = listed-own c.args.listed.now c.objects.own-index own c.requires.ascend c.objects-test.true c.own-item.is in
    (c.requires.fits own.number own.kept kept).width ∙ ap (λ (m : Machine). width_in m.design own.number) (sym c.objects.invariant.machine)

pub objects-preserved : goal.objects-preserved
objects-preserved c =
    let listed = c.args.listed.now in
    let place = c.objects.own-index in
    let own = c.own-item.result in
    let inv = c.objects.invariant in
    let low = c.objects-test.true in
    let kept = listed-own listed place own c.requires.ascend low c.own-item.is in
    record {
      machine = c.put_value.ensures.machine ∙ inv.machine;
      put =
          value-more (own_of (map entry_of (take place listed))) (own_of (map entry_of (take (place + 1) listed))) (state_of c.args.runner.now) (state_of c.objects.runner)
          (state_of c.put_value.new.self) own.number own.kept inv.put (omega (arith, (c.requires.fits own.number own.kept kept).there, inv.put.count)) c.put_value.ensures.state
          (listed-here listed place own c.requires.ascend low c.own-item.is) (λ other differ. listed-other listed place own other low c.own-item.is differ);
      whole = c.put_value.ensures.whole;
    }

pub returns-clause-machine : goal.returns-clause-machine
returns-clause-machine c = c.objects.invariant.machine

pub returns-clause-state : goal.returns-clause-state
returns-clause-state c =
    subst (λ (l : List (Entry Vec4)). ValuesArePut (own_of (map entry_of l)) (state_of c.args.runner.now) (state_of c.objects.runner))
    (take_all c.objects.own-index c.args.listed.now c.objects-test.false) c.objects.invariant.put

pub returns-clause-whole : goal.returns-clause-whole
returns-clause-whole c = c.objects.invariant.whole
