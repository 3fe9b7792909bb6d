-- The steps that the slot's events leave are to spare.
use Rattle.std.proofs.Common.{◌≡◌, ◌+◌, suc, length, sym, ap, subst, ◌∙◌, arith}
use Rattle.v_design.specs.Plain.{fault_of}
use Rattle.copy_state.specs.Copied.{KeepsSame}
use Rattle.copy_state.specs.Kept.{CopyKept}
use Rattle.lockstep_phase.specs.lockstep_block.declared.room.FaultInSlot.{FaultInSlot}
use Rattle.trace_window.specs.Moments.{window_events}
use Rattle.lockstep_slot.specs.Beside.{BeginsSlot}
use Rattle.lockstep_slot.proofs.Begun.{enters, none-same, some-one}
use Rattle.lockstep_slot.proofs.enter.enter_slot.Goals as goal

pub overflow_add-next : goal.overflow_add-next
overflow_add-next g c = omega (arith, c.ends-through.ensures.slots, c.requires.slot)

pub overflow_sub-events : goal.overflow_sub-events
overflow_sub-events g c =
    let window = c.args.view.now.window.now in
    let of = c.requires.copy in
    let more = c.slots_are_counted.ensures.events g.N.World.design g.N.World.plan window.before (window.before + c.args.slot) of.slot (omega arith) of.stands in
    let same : window.before + (c.args.slot + 1) ≡ suc (window.before + c.args.slot) = omega arith in
    let first = c.first_moment-first.ensures.moment in
    let behind = c.first_moment-behind.ensures.moment in
    let all = ap (λ n. length (window_events g.N.World.design g.N.World.plan window.before n)) same in
    omega (arith, more, first, behind, all)

pub returns-in_default-clause-begins : goal.returns-in_default-clause-begins
returns-in_default-clause-begins g c = λ one is. (let no : ⊥ = cc in absurd no)

pub returns-in_default-clause-rest : goal.returns-in_default-clause-rest
returns-in_default-clause-rest g c = λ one is. (let no : ⊥ = cc in absurd no)

pub returns-clause-begins : goal.returns-clause-begins
returns-clause-begins g c = λ one is.
    let window = c.args.view.now.window.now in
    let it : FaultInSlot = record { own = c.begin_slot-own.result; notes = c.clear.new.self; spare = c.in-Some.spare; tried = c.in_ok-tried.tried; apart = c.new-apart.result } in
    subst (BeginsSlot g.N.World.design g.N.World.plan (fault_of c.args.fault) window.before window.through c.args.slot) (some-one it one is)
    (enters c.slots_are_counted.ensures g.N.World.design g.N.World.plan (fault_of c.args.fault) window.before window.through c.args.slot c.first_moment-first.result c.first_moment-behind.result
    c.args.copy.now it c.requires.slot c.requires.copy c.first_moment-first.ensures.moment c.first_moment-behind.ensures.moment
    (subst (KeepsSame c.args.copy.now) (sym c.begin_slot-own.ensures.copy) c.in_ok-kept.ensures) c.begin_slot-own.ensures.lanes c.clear.ensures
    (let some = c.in-Some.ensures.0 in let is = c.in-Some.ensures.1 in omega (arith, some, is)) c.in_ok-tried.ensures.items c.new-apart.ensures.items)

pub returns-clause-rest : goal.returns-clause-rest
returns-clause-rest g c = λ one is.
    let it : FaultInSlot = record { own = c.begin_slot-own.result; notes = c.clear.new.self; spare = c.in-Some.spare; tried = c.in_ok-tried.tried; apart = c.new-apart.result } in
    let same = some-one it one is in
    let copy = c.begin_slot-own.ensures.copy in (
      ap (λ (o : FaultInSlot). o.own.copy.fault) (sym same) ∙ ap (λ (k : CopyKept). k.fault) copy ∙ c.in_ok-kept.ensures.fault,
      ap (λ (o : FaultInSlot). o.own.copy.states) (sym same) ∙ ap (λ (k : CopyKept). k.states) copy
          ∙ none-same c.args.copy.now.states c.in_ok-kept.kept.states c.requires.copy.none c.in_ok-kept.ensures.states,
    )
