-- The faulty machine makes the good machine's slots.
use Rattle.std.proofs.Common.{◌≡◌, ℕ, ◌+◌, ◌-◌, ◌<◌, ◌≤◌, List, map, sym, ap, subst, ◌∙◌, arith}
use Rattle.std.specs.Prelude.{None, Some, slice_get}
use Rattle.vf_base.specs.Base.{WatchedBit, watched_bit}
use Rattle.vf_base.specs.Lists.{AllHold}
use Rattle.vf_base.specs.declared.ids.WatchBit.{WatchBit}
use Rattle.v_design.specs.Designs.{TestPlan}
use Rattle.v_design.specs.Plain.{fault_of}
use Rattle.copy_laws.specs.Differences.{own_of}
use Rattle.copy_laws.specs.Windows.{good_slots}
use Rattle.good_trace.specs.Slots.{end_of}
use Rattle.copy_window.specs.window_strobes.Leading.{EndsSo}
use Rattle.copy_window.specs.window_strobes.Neighbours.{between}
use Rattle.copy_pass.proofs.Left.{fewer-alone, site-there, values-there}
use Rattle.copy_pass.proofs.Passed.{PassLaws, copy-now, goes-on, passes, passes-slots}
use Rattle.copy_pass.proofs.Rules.{design-rules, plan-rules}
use Rattle.copy_pass.proofs.Slots.{fine-few, fine-next, more-slots}
use Rattle.copy_pass.proofs.pass.pass_over.Goals as goal

pub slots_alone-alone-requires-clause-objects : goal.slots_alone-alone-requires-clause-objects
slots_alone-alone-requires-clause-objects g c κs within =
    let laws : PassLaws = record {
      grading = c.strobed_gradings_go_on.ensures;
      faults = c.strobed_faults_go_on.ensures;
      stay = c.faults_go_on.ensures;
      good = c.good_run_goes_on.ensures;
      over = c.copies_pass_over.ensures;
      see = c.strobes_see.ensures;
      stand = c.states_stand.ensures;
      times = c.updates_pend.ensures.time;
      ends = c.strobed_gradings_end.ensures;
      runs = c.runs_stand.ensures;
    } in
    let design = g.N.World.design in
    let plan = g.N.World.plan in
    let rules = design-rules design c.design-design.result.now c.design-design.ensures.world in
    let of_plan = plan-rules plan c.plan-plan.result.now c.plan-plan.ensures.world in
    let window = c.args.window.now in
    let more = more-slots design plan window.before window.through window.ending c.begins-first.ensures.window in
    values-there c.searches_begin.ensures design plan (fault_of c.args.fault) c.args.now c.args.own.now.copy
    (copy-now laws design plan rules of_plan (fault_of c.args.fault) window.before window.through c.args.strobes.now c.args.own.now c.requires.fault more c.args.now (c.requires.now more))
    (goes-on laws design plan rules of_plan (fault_of c.args.fault) window.before window.through c.args.strobes.now c.args.own.now c.requires.fault more c.args.now (c.requires.now more)).between

pub slots_alone-alone-requires-clause-site : goal.slots_alone-alone-requires-clause-site
slots_alone-alone-requires-clause-site g c κs within =
    site-there c.searches_begin.ensures g.N.World.design g.N.World.plan c.args.own.now.copy.fault (fault_of c.args.fault) c.plan-plan.ensures.fits c.requires.fault.listed

pub returns-then-alone-fine_slots-clause-part : goal.returns-then-alone-fine_slots-clause-part
returns-then-alone-fine_slots-clause-part g c = λ some further passed low has.
    let laws : PassLaws = record {
      grading = c.strobed_gradings_go_on.ensures;
      faults = c.strobed_faults_go_on.ensures;
      stay = c.faults_go_on.ensures;
      good = c.good_run_goes_on.ensures;
      over = c.copies_pass_over.ensures;
      see = c.strobes_see.ensures;
      stand = c.states_stand.ensures;
      times = c.updates_pend.ensures.time;
      ends = c.strobed_gradings_end.ensures;
      runs = c.runs_stand.ensures;
    } in
    let design = g.N.World.design in
    let plan = g.N.World.plan in
    let rules = design-rules design c.design-design.result.now c.design-design.ensures.world in
    let of_plan = plan-rules plan c.plan-plan.result.now c.plan-plan.ensures.world in
    let window = c.args.window.now in
    let more = more-slots design plan window.before window.through window.ending c.begins-first.ensures.window in
    let b = between design plan window.before window.through c.slots_alone-alone.result window.ending c.begins-first.ensures.window some further in
    passes-slots laws design plan rules of_plan (fault_of c.args.fault) window.before window.through c.args.strobes.now c.args.own.now c.requires.fault more c.args.now (c.requires.now more)
    c.slots_alone-alone.result some b (c.slots_alone-alone.ensures.alone some)
    (subst (λ (p : TestPlan). AllHold (λ (w : WatchedBit). own_of c.args.own.now.copy.values w.object ≡ None) p.watched) (sym c.plan-plan.ensures.world)
    (subst (λ (watched : List WatchBit). AllHold (λ (w : WatchedBit). own_of c.args.own.now.copy.values w.object ≡ None) (map watched_bit watched)) c.as_slice-watched.ensures
    (c.is_unseen.ensures c.if-not-is_unseen.false)))
    c.if-own-now.false c.slot_time-own.result
    (let same : window.before + (c.slots_alone-alone.result - 1) ≡ b.number = omega (arith, some, b.at_is) in c.slot_time-own.ensures b.last (ap (slice_get (good_slots design plan)) same ∙ b.here))
    passed low has

pub returns-then-alone-fine_slots-clause-all : goal.returns-then-alone-fine_slots-clause-all
returns-then-alone-fine_slots-clause-all g c = λ all.
    let few = fine-few (end_of c.args.strobes.now.ending) c.slots.result in
    absurd (omega (arith, few, all, c.slots.ensures, c.fine_slots.ensures, c.if-alone-fine_slots.true))

pub returns-clause-all : goal.returns-clause-all
returns-clause-all g c = λ all.
    let laws : PassLaws = record {
      grading = c.strobed_gradings_go_on.ensures;
      faults = c.strobed_faults_go_on.ensures;
      stay = c.faults_go_on.ensures;
      good = c.good_run_goes_on.ensures;
      over = c.copies_pass_over.ensures;
      see = c.strobes_see.ensures;
      stand = c.states_stand.ensures;
      times = c.updates_pend.ensures.time;
      ends = c.strobed_gradings_end.ensures;
      runs = c.runs_stand.ensures;
    } in
    let design = g.N.World.design in
    let plan = g.N.World.plan in
    let rules = design-rules design c.design-design.result.now c.design-design.ensures.world in
    let of_plan = plan-rules plan c.plan-plan.result.now c.plan-plan.ensures.world in
    let window = c.args.window.now in
    let more = more-slots design plan window.before window.through window.ending c.begins-first.ensures.window in
    let some : window.before < window.through = c.begins-first.ensures.window.some in
    passes laws design plan rules of_plan (fault_of c.args.fault) window.before window.through c.args.strobes.now c.args.own.now c.requires.fault more c.args.now (c.requires.now more)
    c.in-Some.until c.in-Some.is (window.before + c.fine_slots.result)
    (λ next here. fine-next c.good_run_goes_on.ensures design plan rules window.through c.in-Some.until (end_of c.args.strobes.now.ending)
    (subst (EndsSo design plan window.through (end_of c.args.strobes.now.ending)) c.in-Some.is c.requires.fault.are.leads.ends) window.before c.slots.result c.slots.ensures
    (omega (arith, some, c.slots.ensures)) next (subst (λ n. slice_get (good_slots design plan) (window.before + n) ≡ Some next) c.fine_slots.ensures here))
    (fewer-alone design plan (fault_of c.args.fault) window.before c.fine_slots.result c.slots_alone-alone.result c.args.own.now.copy c.if-alone-fine_slots.false
    (c.slots_alone-alone.ensures.alone (omega (arith, c.if-alone-eq0.false))))
    (subst (λ (p : TestPlan). AllHold (λ (w : WatchedBit). own_of c.args.own.now.copy.values w.object ≡ None) p.watched) (sym c.plan-plan.ensures.world)
    (subst (λ (watched : List WatchBit). AllHold (λ (w : WatchedBit). own_of c.args.own.now.copy.values w.object ≡ None) (map watched_bit watched)) c.as_slice-watched.ensures
    (c.is_unseen.ensures c.if-not-is_unseen.false)))
    c.if-own-now.false (end_of c.args.strobes.now.ending) c.end_behind-own.result
    (subst (EndsSo design plan window.through (end_of c.args.strobes.now.ending)) c.in-Some.is c.requires.fault.are.leads.ends)
    c.end_behind-own.ensures
