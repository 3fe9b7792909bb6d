-- One whose grading ended stays as it is.
use Rattle.std.proofs.Common.{◌≡◌, ◌+◌, true, false, length, sym, ap, subst, ◌∙◌, arith}
use Rattle.std.specs.Prelude.{is_some}
use Rattle.copy_lockstep.proofs.window_strobes.Knowing.{design-rules}
use Rattle.copy_lockstep.proofs.window_faults.Steps.{stays-open, stays-same}
use Rattle.copy_lockstep.proofs.window_faults.Within.{none-end}
use Rattle.shard_slots.proofs.Ended.{same-end, same-fault, still-within}
use Rattle.shard_slots.specs.Slots.{WentIf, tried_if}
use Rattle.shard_slots.proofs.Leaving.{rests-if, within-if}
use Rattle.shard_slots.proofs.Numbers.{same-steps}
use Rattle.shard_slots.proofs.leave.leave_one.Goals as goal

-- a fault whose grading ended
pub returns-then-is_some-clause-within : goal.returns-then-is_some-clause-within
returns-then-is_some-clause-within g c = within-if g.N.World.design g.N.World.plan c.args.window.now.before c.args.window.now.through c.args.slot c.args.own.now c.args.at.now c.args.found c.requires.went

pub returns-then-is_some-clause-come : goal.returns-then-is_some-clause-come
returns-then-is_some-clause-come g c none =
    let some : is_some c.args.own.now.end ≡ true = sym c.is_some.ensures ∙ c.if-is_some.true in
    let no : is_some c.args.own.now.end ≡ false = ap is_some none in
    cc

pub returns-then-is_some-clause-stays : goal.returns-then-is_some-clause-stays
returns-then-is_some-clause-stays g c = stays-same c.args.own.now

pub returns-then-is_some-clause-ticks : goal.returns-then-is_some-clause-ticks
returns-then-is_some-clause-ticks g c tally =
    let window = c.args.window.now in
    let some : is_some c.args.own.now.end ≡ true = sym c.is_some.ensures ∙ c.if-is_some.true in
    rests-if c.own_steps_rise.ensures g.N.World.design g.N.World.plan (design-rules g.N.World.design c.design-design.result.now c.design-design.ensures.world) window.before window.through
    c.args.slot c.args.own.now c.args.at.now c.args.found c.requires.went tally c.args.steps.now some

-- one whose grading hadn't, and which didn't enter the slot
pub leave_rest-requires-clause-none : goal.leave_rest-requires-clause-none
leave_rest-requires-clause-none g c κs within = none-end c.args.own.now.end (sym c.is_some.ensures ∙ c.if-is_some.false)

pub leave_rest-requires-clause-rests : goal.leave_rest-requires-clause-rests
leave_rest-requires-clause-rests g c κs within =
    let window = c.args.window.now in
    subst (WentIf g.N.World.design g.N.World.plan window.before window.through c.args.slot c.args.own.now c.args.at.now) c.in_default.is c.requires.went

pub returns-in_default-clause-within : goal.returns-in_default-clause-within
returns-in_default-clause-within g c =
    still-within c.leave_rest.new.own c.let_go_ended.new.own c.let_go_ended.ensures g.N.World.design g.N.World.plan c.args.window.now.before c.args.window.now.through c.leave_rest.new.at
    c.in_ok-leave_rest.ensures.within

pub returns-in_default-clause-come : goal.returns-in_default-clause-come
returns-in_default-clause-come g c none = c.in_ok-leave_rest.ensures.come (sym (same-end c.leave_rest.new.own c.let_go_ended.new.own c.let_go_ended.ensures) ∙ none)

pub returns-in_default-clause-stays : goal.returns-in_default-clause-stays
returns-in_default-clause-stays g c =
    stays-open c.args.own.now c.let_go_ended.new.own
    (same-fault c.leave_rest.new.own c.let_go_ended.new.own c.let_go_ended.ensures c.args.own.now c.in_ok-leave_rest.ensures.stays.place)
    (none-end c.args.own.now.end (sym c.is_some.ensures ∙ c.if-is_some.false))

pub returns-in_default-clause-ticks : goal.returns-in_default-clause-ticks
returns-in_default-clause-ticks g c tally =
    let until = c.args.window.now.before + (c.args.slot + 1) in
    let same = same-steps tally until c.leave_rest.new.own c.let_go_ended.new.own
    (same-fault c.leave_rest.new.own c.let_go_ended.new.own c.let_go_ended.ensures c.leave_rest.new.own (stays-same c.leave_rest.new.own).place) in
    let rises = c.in_ok-leave_rest.ensures.ticks tally in
    let none : tried_if c.args.found ≡ 0 = ap tried_if c.in_default.is in
    omega (arith, same, rises, none)

-- one that did
pub leave_open-requires-clause-went : goal.leave_open-requires-clause-went
leave_open-requires-clause-went g c κs within =
    let window = c.args.window.now in
    subst (WentIf g.N.World.design g.N.World.plan window.before window.through c.args.slot c.args.own.now c.args.at.now) c.in-Some.is c.requires.went

pub leave_open-requires-clause-none : goal.leave_open-requires-clause-none
leave_open-requires-clause-none g c κs within = none-end c.args.own.now.end (sym c.is_some.ensures ∙ c.if-is_some.false)

pub returns-clause-within : goal.returns-clause-within
returns-clause-within g c =
    still-within c.leave_open.new.own c.let_go_ended-2.new.own c.let_go_ended-2.ensures g.N.World.design g.N.World.plan c.args.window.now.before c.args.window.now.through c.leave_open.new.at
    c.in_ok-leave_open.ensures.within

pub returns-clause-come : goal.returns-clause-come
returns-clause-come g c none = c.in_ok-leave_open.ensures.come (sym (same-end c.leave_open.new.own c.let_go_ended-2.new.own c.let_go_ended-2.ensures) ∙ none)

pub returns-clause-stays : goal.returns-clause-stays
returns-clause-stays g c =
    stays-open c.args.own.now c.let_go_ended-2.new.own
    (same-fault c.leave_open.new.own c.let_go_ended-2.new.own c.let_go_ended-2.ensures c.args.own.now c.in_ok-leave_open.ensures.stays.place)
    (none-end c.args.own.now.end (sym c.is_some.ensures ∙ c.if-is_some.false))

pub returns-clause-ticks : goal.returns-clause-ticks
returns-clause-ticks g c tally =
    let until = c.args.window.now.before + (c.args.slot + 1) in
    let same = same-steps tally until c.leave_open.new.own c.let_go_ended-2.new.own
    (same-fault c.leave_open.new.own c.let_go_ended-2.new.own c.let_go_ended-2.ensures c.leave_open.new.own (stays-same c.leave_open.new.own).place) in
    let rises = c.in_ok-leave_open.ensures.ticks tally in
    let some : tried_if c.args.found ≡ length c.in-Some.beside.one.tried.items = ap tried_if c.in-Some.is in
    omega (arith, same, rises, some)
