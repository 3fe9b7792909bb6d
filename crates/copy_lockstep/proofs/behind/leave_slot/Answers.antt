-- Behind the slot.
use Rattle.std.proofs.Common.{◌≡◌, ℕ, ◌+◌, true, false, ap, subst, ◌∙◌, arith}
use Rattle.std.specs.Prelude.{is_some, slice_get}
use Rattle.v_design.specs.Plain.{fault_of}
use Rattle.lockstep_due.specs.copy_window.ShardFaults.{IsShardFault}
use Rattle.lockstep_due.specs.copy_window.declared.fault.ShardFault.{ShardFault}
use Rattle.lockstep_due.proofs.window_strobes.Knowing.{design-rules}
use Rattle.copy_lockstep.specs.Faults.{StandsAtSlot}
use Rattle.lockstep_due.specs.slot_strobes.Strobes.{ComeBefore}
use Rattle.copy_lockstep.proofs.Slots.{begins-at, copy-behind, copy-there, time-behind}
use Rattle.copy_lockstep.proofs.Stops.{last-ends, no-stop, none-next}
use Rattle.copy_lockstep.proofs.behind.leave_slot.Goals as goal

pub take_up-requires-clause-begins : goal.take_up-requires-clause-begins
take_up-requires-clause-begins g c κs within = c.slot_time-begins.ensures

-- the last slot
pub end_grading-requires-clause-last : goal.end_grading-requires-clause-last
end_grading-requires-clause-last g c κs within =
    last-ends g.N.World.design g.N.World.plan (c.args.window.now.before + c.args.slot + 1)
    (λ more.
    (let all = c.end_of_passing-last.ensures.all in
    let some = c.requires.slot in
    let through : c.args.window.now.through ≡ c.args.window.now.before + c.args.slot + 1 = omega (arith, c.end_of_passing-last.ensures.most, c.if-slot-last.true, some) in
    let same = all (omega (arith, more, through)) in
    omega (arith, same, through, c.if-slot-last.true))) c.requires.fine

pub end_grading-requires-clause-copy : goal.end_grading-requires-clause-copy
end_grading-requires-clause-copy g c κs within =
    let design = g.N.World.design in
    let plan = g.N.World.plan in
    let gone = c.args.window.now.before + c.args.slot in
    let rules = design-rules design c.design-design.result.now c.design-design.ensures.world in
    let one = no-stop c.good_run_goes_on.ensures design plan rules gone (none-next design plan gone c.requires.fine) in
    copy-there c.shards_go_in_lockstep.ensures c.good_run_goes_on.ensures design plan rules (fault_of c.args.fault) gone one c.slot_time-begins.result (c.slot_time-begins.ensures one.slot one.there)
    c.args.before c.args.passed c.args.possible c.args.own.now c.requires.entered c.args.one.own.copy c.requires.states c.requires.through

pub end_grading-requires-clause-listed : goal.end_grading-requires-clause-listed
end_grading-requires-clause-listed g c κs within = ap (slice_get g.N.World.plan.faults) c.requires.place ∙ c.requires.entered.may.behind.listed

pub end_grading-requires-clause-passed : goal.end_grading-requires-clause-passed
end_grading-requires-clause-passed g c κs within = λ one there. subst (ComeBefore g.N.World.plan.strobes c.in_ok-count.count) (c.slot_time-begins.ensures one there) c.in_ok-count.ensures.passed

pub returns-then-slot-last-clause-fault : goal.returns-then-slot-last-clause-fault
returns-then-slot-last-clause-fault g c =
    let same : c.args.window.now.before + c.args.slot + 1 ≡ c.args.window.now.before + (c.args.slot + 1) = omega arith in
    record {
      stands = subst (λ (n : ℕ). IsShardFault g.N.World.design g.N.World.plan n c.in_ok-shown.shown c.end_grading.new.own) same c.in_ok-shown.ensures.fault;
      has_passed = λ none. absurd (let some : is_some c.end_grading.new.own.end ≡ true = c.in_ok-shown.ensures.ended in let no : is_some c.end_grading.new.own.end ≡ false = ap is_some none in cc);
    }

pub returns-then-slot-last-clause-place : goal.returns-then-slot-last-clause-place
returns-then-slot-last-clause-place g c = record {
  number = c.in_ok-shown.ensures.place.number ∙ c.requires.place;
  kind = c.in_ok-shown.ensures.place.kind ∙ c.in_ok-count.ensures.kind;
}

-- another one comes
pub see_behind-requires-clause-next : goal.see_behind-requires-clause-next
see_behind-requires-clause-next g c κs within = omega (arith, c.if-slot-last.false, c.end_of_passing-last.ensures.more)

pub see_behind-requires-clause-begins : goal.see_behind-requires-clause-begins
see_behind-requires-clause-begins g c κs within =
    begins-at c.good_run_goes_on.ensures g.N.World.design g.N.World.plan (design-rules g.N.World.design c.design-design.result.now c.design-design.ensures.world)
    (c.args.window.now.before + c.args.slot) (omega (arith, c.if-slot-last.false, c.end_of_passing-last.ensures.more)) c.slot_time-begins.result c.slot_time-begins.ensures

pub see_behind-requires-clause-copy : goal.see_behind-requires-clause-copy
see_behind-requires-clause-copy g c κs within =
    let design = g.N.World.design in
    let plan = g.N.World.plan in
    let gone = c.args.window.now.before + c.args.slot in
    let rules = design-rules design c.design-design.result.now c.design-design.ensures.world in
    let one = no-stop c.good_run_goes_on.ensures design plan rules gone (none-next design plan gone c.requires.fine) in
    copy-behind c.shards_go_in_lockstep.ensures c.good_run_goes_on.ensures design plan rules (fault_of c.args.fault) gone one c.slot_time-begins.result
    (c.slot_time-begins.ensures one.slot one.there) c.args.before c.args.passed c.args.possible c.args.own.now c.requires.entered c.args.one.own.copy c.requires.states c.requires.through

pub see_behind-requires-clause-time : goal.see_behind-requires-clause-time
see_behind-requires-clause-time g c κs within =
    let design = g.N.World.design in
    let plan = g.N.World.plan in
    let gone = c.args.window.now.before + c.args.slot in
    let rules = design-rules design c.design-design.result.now c.design-design.ensures.world in
    let one = no-stop c.good_run_goes_on.ensures design plan rules gone (none-next design plan gone c.requires.fine) in
    time-behind c.shards_go_in_lockstep.ensures c.good_run_goes_on.ensures design plan rules (fault_of c.args.fault) gone one c.slot_time-begins.result
    (c.slot_time-begins.ensures one.slot one.there) c.args.before c.args.passed c.args.possible c.args.own.now c.requires.entered c.args.one.own.copy c.requires.states c.requires.through

pub see_behind-requires-clause-listed : goal.see_behind-requires-clause-listed
see_behind-requires-clause-listed g c κs within = ap (slice_get g.N.World.plan.faults) c.requires.place ∙ c.requires.entered.may.behind.listed

pub see_behind-requires-clause-none : goal.see_behind-requires-clause-none
see_behind-requires-clause-none g c κs within = ap (λ (own : ShardFault). own.end) c.in_ok-count.ensures.stays ∙ c.requires.entered.may.behind.none

pub returns-clause-fault : goal.returns-clause-fault
returns-clause-fault g c =
    let same : c.args.window.now.before + c.args.slot + 1 ≡ c.args.window.now.before + (c.args.slot + 1) = omega arith in
    subst (λ (n : ℕ). StandsAtSlot g.N.World.design g.N.World.plan n c.in_ok-behind.behind c.see_behind.new.own) same c.in_ok-behind.ensures.fault

pub returns-clause-place : goal.returns-clause-place
returns-clause-place g c = record {
  number = c.in_ok-behind.ensures.place.number ∙ c.requires.place;
  kind = c.in_ok-behind.ensures.place.kind ∙ c.in_ok-count.ensures.kind;
}
