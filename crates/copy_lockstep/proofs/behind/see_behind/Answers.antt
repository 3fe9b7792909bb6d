-- The strobes at the slot's time.
use Rattle.std.proofs.Common.{◌≡◌, ℕ, suc, ◌+◌, ◌<◌, length, subst, arith}
use Rattle.std.specs.Prelude.{Some}
use Rattle.vf_base.specs.declared.finding.End.TheVariants.{Detected}
use Rattle.v_design.specs.Plain.{fault_of}
use Rattle.copy_laws.specs.Windows.{good_slots}
use Rattle.fault_strobes.specs.Shown.{said_of}
use Rattle.lockstep_due.specs.copy_window.Copies.{differences_in}
use Rattle.lockstep_due.proofs.window_strobes.Knowing.{design-rules}
use Rattle.copy_lockstep.specs.Faults.{StandsAtSlot}
use Rattle.lockstep_due.specs.slot_strobes.Strobes.{IsSeenTo, StandsBeforeSlot}
use Rattle.copy_lockstep.proofs.Slots.{at-next, found-behind, goes-on-behind, stands-behind}
use Rattle.copy_lockstep.proofs.behind.see_behind.Goals as goal

pub see_to-requires-clause-from : goal.see_to-requires-clause-from
see_to-requires-clause-from g c κs within = c.requires.passed.within

pub see_to-requires-clause-stands : goal.see_to-requires-clause-stands
see_to-requires-clause-stands g c κs within = λ place strobe low here by.
    let gone = c.args.window.now.before + c.args.slot in
    let rules = design-rules g.N.World.design c.design-design.result.now c.design-design.ensures.world in
    let more : suc gone < length (good_slots g.N.World.design g.N.World.plan) = omega (arith, c.requires.next) in
    let is = at-next g.N.World.design g.N.World.plan gone c.args.begins c.requires.begins in
    let same : suc gone ≡ c.args.window.now.before + (c.args.slot + 1) = omega arith in
    subst (λ n. StandsBeforeSlot g.N.World.design g.N.World.plan (fault_of c.args.fault) (differences_in g.N.World.design c.args.own.now.copy) n strobe) same
    (stands-behind c.shards_go_in_lockstep.ensures c.good_run_goes_on.ensures g.N.World.design g.N.World.plan rules (fault_of c.args.fault) gone more c.args.begins is c.args.passed c.args.own.now
    c.requires.copy c.requires.passed place strobe low here by)

pub returns-in-Some-clause-fault : goal.returns-in-Some-clause-fault
returns-in-Some-clause-fault g c =
    let gone = c.args.window.now.before + c.args.slot in
    let rules = design-rules g.N.World.design c.design-design.result.now c.design-design.ensures.world in
    let more : suc gone < length (good_slots g.N.World.design g.N.World.plan) = omega (arith, c.requires.next) in
    let is = at-next g.N.World.design g.N.World.plan gone c.args.begins c.requires.begins in
    let same : suc gone ≡ gone + 1 = omega arith in
    subst (λ (n : ℕ). StandsAtSlot g.N.World.design g.N.World.plan n c.in_ok-seen.seen.passed (record c.args.own.now { time = c.args.begins; strobed = c.see_to.new.strobed; end = Some (Detected c.in-Some.time) })) same
    (found-behind c.shards_go_in_lockstep.ensures c.good_run_goes_on.ensures g.N.World.design g.N.World.plan rules (fault_of c.args.fault) gone more c.args.begins is c.args.passed (record c.args.own.now { strobed = c.see_to.new.strobed })
    c.requires.copy c.requires.passed c.requires.listed c.in_ok-seen.seen.passed c.in_ok-seen.ensures.counts c.in-Some.time
    (subst (IsSeenTo g.N.World.design g.N.World.plan (fault_of c.args.fault) c.args.passed c.in_ok-seen.seen.passed (said_of c.see_to.new.strobed)) c.in-Some.is c.in_ok-seen.ensures.seen))

pub returns-in_default-clause-fault : goal.returns-in_default-clause-fault
returns-in_default-clause-fault g c =
    let gone = c.args.window.now.before + c.args.slot in
    let rules = design-rules g.N.World.design c.design-design.result.now c.design-design.ensures.world in
    let more : suc gone < length (good_slots g.N.World.design g.N.World.plan) = omega (arith, c.requires.next) in
    let is = at-next g.N.World.design g.N.World.plan gone c.args.begins c.requires.begins in
    let same : suc gone ≡ gone + 1 = omega arith in
    subst (λ (n : ℕ). StandsAtSlot g.N.World.design g.N.World.plan n c.in_ok-seen.seen.passed
    (record c.args.own.now { time = c.args.begins; strobed = c.see_to.new.strobed })) same
    (goes-on-behind c.shards_go_in_lockstep.ensures c.good_run_goes_on.ensures g.N.World.design g.N.World.plan rules (fault_of c.args.fault) gone more c.args.begins is c.args.passed (record c.args.own.now { strobed = c.see_to.new.strobed })
    c.requires.copy c.requires.passed c.requires.listed c.in_ok-seen.seen.passed c.in_ok-seen.ensures.counts c.requires.none c.requires.time
    (subst (IsSeenTo g.N.World.design g.N.World.plan (fault_of c.args.fault) c.args.passed c.in_ok-seen.seen.passed (said_of c.see_to.new.strobed)) c.in_default.is c.in_ok-seen.ensures.seen))
