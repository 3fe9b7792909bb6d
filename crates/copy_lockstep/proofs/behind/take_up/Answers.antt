-- What judged it before, or the strobes before the slot with the copy that it had.
use Rattle.std.proofs.Common.{◌+◌, sym, subst, arith}
use Rattle.v_design.specs.Plain.{fault_of}
use Rattle.lockstep_due.proofs.window_strobes.Knowing.{design-rules}
use Rattle.lockstep_due.specs.slot_strobes.Strobes.{ComeBefore}
use Rattle.copy_lockstep.proofs.Slots.{come-before, earlier, grades-from, stands-before, starts-later}
use Rattle.copy_lockstep.proofs.Stops.{no-stop, none-next}
use Rattle.copy_lockstep.proofs.behind.take_up.Goals as goal

pub overflow_sub-time : goal.overflow_sub-time
overflow_sub-time g c =
    let gone = c.args.window.now.before + c.args.slot in
    let rules = design-rules g.N.World.design c.design-design.result.now c.design-design.ensures.world in
    let one = no-stop c.good_run_goes_on.ensures g.N.World.design g.N.World.plan rules gone (none-next g.N.World.design g.N.World.plan gone c.requires.fine) in
    let same = c.requires.begins one.slot one.there in
    let later =
    starts-later c.shards_go_in_lockstep.ensures c.good_run_goes_on.ensures g.N.World.design g.N.World.plan rules (fault_of c.args.fault) gone one c.args.begins same c.args.before c.args.own.now
    c.requires.entered.may in
    omega (arith, later)

pub see_to-requires-clause-from : goal.see_to-requires-clause-from
see_to-requires-clause-from g c κs within = c.requires.entered.may.behind.has_passed.within

pub see_to-requires-clause-stands : goal.see_to-requires-clause-stands
see_to-requires-clause-stands g c κs within =
    let gone = c.args.window.now.before + c.args.slot in
    let rules = design-rules g.N.World.design c.design-design.result.now c.design-design.ensures.world in
    let one = no-stop c.good_run_goes_on.ensures g.N.World.design g.N.World.plan rules gone (none-next g.N.World.design g.N.World.plan gone c.requires.fine) in
    let same = c.requires.begins one.slot one.there in
    stands-before c.shards_go_in_lockstep.ensures c.good_run_goes_on.ensures g.N.World.design g.N.World.plan rules (fault_of c.args.fault) gone one c.args.begins same c.args.before c.args.own.now
    c.requires.entered.may

pub see_to-requires-clause-grading : goal.see_to-requires-clause-grading
see_to-requires-clause-grading g c κs within =
    let gone = c.args.window.now.before + c.args.slot in
    let rules = design-rules g.N.World.design c.design-design.result.now c.design-design.ensures.world in
    let one = no-stop c.good_run_goes_on.ensures g.N.World.design g.N.World.plan rules gone (none-next g.N.World.design g.N.World.plan gone c.requires.fine) in
    let same = c.requires.begins one.slot one.there in
    grades-from c.shards_go_in_lockstep.ensures c.good_run_goes_on.ensures g.N.World.design g.N.World.plan rules (fault_of c.args.fault) gone one c.args.begins same c.args.before c.args.own.now
    c.requires.entered.may

pub returns-clause-passed : goal.returns-clause-passed
returns-clause-passed g c =
    let gone = c.args.window.now.before + c.args.slot in
    let rules = design-rules g.N.World.design c.design-design.result.now c.design-design.ensures.world in
    let one = no-stop c.good_run_goes_on.ensures g.N.World.design g.N.World.plan rules gone (none-next g.N.World.design g.N.World.plan gone c.requires.fine) in
    let same = c.requires.begins one.slot one.there in
    let later =
    starts-later c.shards_go_in_lockstep.ensures c.good_run_goes_on.ensures g.N.World.design g.N.World.plan rules (fault_of c.args.fault) gone one c.args.begins same c.args.before c.args.own.now
    c.requires.entered.may in
    come-before g.N.World.plan.strobes c.args.before c.in_ok-seen.seen.passed c.args.begins (omega (arith, later))
    (earlier c.shards_go_in_lockstep.ensures c.good_run_goes_on.ensures g.N.World.design g.N.World.plan rules (fault_of c.args.fault) gone one c.args.begins same c.args.before c.args.own.now
    c.requires.entered.may) c.in_ok-seen.ensures.counts

-- where they judge it
pub returns-then-not-keeps-clause-passed : goal.returns-then-not-keeps-clause-passed
returns-then-not-keeps-clause-passed g c =
    let gone = c.args.window.now.before + c.args.slot in
    let rules = design-rules g.N.World.design c.design-design.result.now c.design-design.ensures.world in
    let one = no-stop c.good_run_goes_on.ensures g.N.World.design g.N.World.plan rules gone (none-next g.N.World.design g.N.World.plan gone c.requires.fine) in
    subst (ComeBefore g.N.World.plan.strobes c.args.passed) (sym (c.requires.begins one.slot one.there)) (c.requires.entered.come one.slot one.there)
