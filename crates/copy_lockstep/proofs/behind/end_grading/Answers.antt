-- The strobes to the plan's end.
use Rattle.std.proofs.Common.{◌≡◌, suc, ◌+◌, refl, sym, ap, subst, ◌∙◌, arith, inr}
use Rattle.std.specs.Prelude.{Some}
use Rattle.v_design.specs.Designs.{TestPlan}
use Rattle.v_design.specs.Grades.{FaultGrade, Judged}
use Rattle.v_design.specs.Plain.{fault_of}
use Rattle.vf_base.specs.declared.finding.End.TheVariants.{Detected}
use Rattle.fault_strobes.specs.Shown.{said_of}
use Rattle.fault_strobes.specs.Strobes.{EndsWith}
use Rattle.lockstep_due.specs.copy_window.Copies.{differences_in}
use Rattle.lockstep_due.proofs.window_strobes.Knowing.{design-rules, plan-rules}
use Rattle.lockstep_due.specs.slot_strobes.Counts.{CountsBy}
use Rattle.lockstep_due.specs.slot_strobes.Strobes.{IsSeenTo, StandsBeforeSlot}
use Rattle.copy_lockstep.specs.Stops.{EndsWithoutStop}
use Rattle.copy_lockstep.proofs.Stops.{ends-through, no-stop, stands-on, verdict-ends}
use Rattle.copy_lockstep.proofs.behind.end_grading.Goals as goal

pub see_to-requires-clause-from : goal.see_to-requires-clause-from
see_to-requires-clause-from g c κs within =
    let gone = c.args.window.now.before + c.args.slot in
    let rules = design-rules g.N.World.design c.design-design.result.now c.design-design.ensures.world in
    let next : gone + 1 ≡ suc gone = omega arith in
    let over = subst (EndsWithoutStop g.N.World.design g.N.World.plan) next c.requires.last in
    let one = no-stop c.good_run_goes_on.ensures g.N.World.design g.N.World.plan rules gone (inr over) in
    (c.requires.passed one.slot one.there).within

pub see_to-requires-clause-stands : goal.see_to-requires-clause-stands
see_to-requires-clause-stands g c κs within = λ place strobe low here by.
    let gone = c.args.window.now.before + c.args.slot in
    let rules = design-rules g.N.World.design c.design-design.result.now c.design-design.ensures.world in
    let next : gone + 1 ≡ suc gone = omega arith in
    let over = subst (EndsWithoutStop g.N.World.design g.N.World.plan) next c.requires.last in
    let one = no-stop c.good_run_goes_on.ensures g.N.World.design g.N.World.plan rules gone (inr over) in
    let same : suc gone ≡ c.args.window.now.before + (c.args.slot + 1) = omega arith in
    subst (λ n. StandsBeforeSlot g.N.World.design g.N.World.plan (fault_of c.args.fault) (differences_in g.N.World.design c.args.own.now.copy) n strobe) same
    (stands-on g.N.World.design g.N.World.plan (fault_of c.args.fault) gone over one c.args.passed c.args.own.now (c.requires.copy one.slot one.there) (c.requires.passed one.slot one.there)
    c.shards_go_in_lockstep.ensures c.good_run_goes_on.ensures place strobe low here)

pub returns-in-Some-clause-fault : goal.returns-in-Some-clause-fault
returns-in-Some-clause-fault g c =
    let design = g.N.World.design in
    let plan = g.N.World.plan in
    let gone = c.args.window.now.before + c.args.slot in
    let rules = design-rules design c.design-design.result.now c.design-design.ensures.world in
    let of_plan = plan-rules plan c.plan-plan.result.now c.plan-plan.ensures.world in
    let next : gone + 1 ≡ suc gone = omega arith in
    let over = subst (EndsWithoutStop design plan) next c.requires.last in
    let one = no-stop c.good_run_goes_on.ensures design plan rules gone (inr over) in
    let found =
    subst (IsSeenTo design plan (fault_of c.args.fault) c.args.passed c.in_ok-seen.seen.passed (said_of c.see_to.new.strobed)) c.in-Some.is c.in_ok-seen.ensures.seen in
    ends-through c.strobed_faults_go_on.ensures design plan (fault_of c.args.fault) (gone + 1) c.in_ok-seen.seen.passed c.in-Some.time (Detected c.in-Some.time)
    (record c.args.own.now { strobed = c.see_to.new.strobed; end = Some (Detected c.in-Some.time) }) rules of_plan c.requires.last.all found.ends c.requires.listed refl
    (c.shards_go_in_lockstep.ensures.keeps design plan (fault_of c.args.fault) gone one.slot.begins.time c.args.own.now.copy (c.requires.copy one.slot one.there))

pub returns-clause-fault : goal.returns-clause-fault
returns-clause-fault g c =
    let design = g.N.World.design in
    let plan = g.N.World.plan in
    let fault = fault_of c.args.fault in
    let own = c.args.own.now in
    let said = said_of c.see_to.new.strobed in
    let count = c.in_ok-seen.seen.passed in
    let gone = c.args.window.now.before + c.args.slot in
    let rules = design-rules design c.design-design.result.now c.design-design.ensures.world in
    let of_plan = plan-rules plan c.plan-plan.result.now c.plan-plan.ensures.world in
    let next : gone + 1 ≡ suc gone = omega arith in
    let over = subst (EndsWithoutStop design plan) next c.requires.last in
    let one = no-stop c.good_run_goes_on.ensures design plan rules gone (inr over) in
    let copy = c.requires.copy one.slot one.there in
    let counts = subst (CountsBy plan.strobes c.args.passed count) (sym (ap (λ (p : TestPlan). p.end) c.plan-plan.ensures.world)) c.in_ok-seen.ensures.counts in
    let grading = subst (IsSeenTo design plan fault c.args.passed count said) c.in_default.is c.in_ok-seen.ensures.seen in
    let ends =
    verdict-ends design plan fault gone over one c.args.passed own copy (c.requires.passed one.slot one.there) c.copies_go_in_lockstep.ensures c.strobed_gradings_end.ensures of_plan count counts
    said grading in
    ends-through c.strobed_faults_go_on.ensures design plan fault (gone + 1) count plan.end c.end_by.result (record own { strobed = c.see_to.new.strobed; end = Some c.end_by.result }) rules
    of_plan c.requires.last.all (subst (λ (found : FaultGrade). EndsWith design plan fault plan.end found said) (sym (c.end_by.ensures ∙ ap Judged c.verdict.ensures)) ends) c.requires.listed
    refl (c.shards_go_in_lockstep.ensures.keeps design plan fault gone one.slot.begins.time own.copy copy)
