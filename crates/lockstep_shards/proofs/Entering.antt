-- A fault of a shard of which nothing was found is in lockstep (strobes by the plan; slots by IEEE 1364-2001, clause 5).
use Rattle.std.proofs.Common.{◌≡◌, ℕ, suc, List, [], take, drop, refl, sym, ap, subst, ◌∙◌, arith}
use Rattle.std.specs.Prelude.{Option, Some, None, option_map}
use Rattle.std.proofs.lemmas.List.{take-append-drop}
use Rattle.vf_base.specs.declared.finding.End.{End}
use Rattle.v_design.specs.Designs.{FlatDesign, StuckAt, TestPlan, faulty_machine}
use Rattle.v_design.specs.Plain.{grade_of}
use Rattle.v_design.specs.Runs.{FirstSlot}
use Rattle.v_design.specs.States.{State, process_at}
use Rattle.v_design.specs.WellFormed.{KeepsRules}
use Rattle.copy_laws.specs.Differences.{own_of}
use Rattle.copy_laws.specs.Windows.{IsBesideAt, state_at}
use Rattle.copy_state.specs.Entries.{each_by}
use Rattle.process_code.specs.declared.state.ProcState.{ProcState}
use Rattle.lockstep_laws.specs.Lockstep.{due_times}
use Rattle.lockstep_copies.specs.Copies.{IsCopyInLockstep}
use Rattle.fault_strobes.specs.Said.{plan_by}
use Rattle.fault_strobes.specs.Strobes.{StrobesGoOn}
use Rattle.fault_strobes.proofs.Faults.{copy-back, time-same}
use Rattle.copy_pass.specs.copy_window.Copies.{differences_in, done_in}
use Rattle.copy_pass.specs.copy_window.ShardFaults.{GoesOnAt, beside_by, kept_by, said_by}
use Rattle.copy_pass.specs.copy_window.declared.fault.ShardFault.{ShardFault}
use Rattle.lockstep_shards.specs.Shards.{AreDueAlike, IsOpenBehind}
use Rattle.lockstep_shards.proofs.Laws.{ShardLaws, fine-there, last, last-there, next-later, some-is, time-is}

-- it goes on as its copy says, and its faulty machine's last slot was at its time
module _ (design : FlatDesign) (plan : TestPlan) (fault : StuckAt) (number time passed : ℕ) (own : ShardFault) (open_now : IsOpenBehind design plan fault number time passed own) where
  fault_is : open_now.stands.fault ≡ fault
  fault_is = some-is open_now.stands.fault fault (sym open_now.stands.listed ∙ open_now.listed)

  pub goes-on : GoesOnAt design plan (suc number) passed fault time own
  goes-on =
      subst (λ (f : StuckAt). GoesOnAt design plan (suc number) passed f time own) fault_is (open_now.stands.goes_on time open_now.time_is open_now.more open_now.none)

  pub own-time : (state_at (faulty_machine design fault) plan.end time).time ≡ own.time
  own-time = goes-on.time_is

module _ (laws : ShardLaws) (design : FlatDesign) (plan : TestPlan) (fault : StuckAt) (number time passed : ℕ) (own : ShardFault) (rules : KeepsRules design)
    (open_now : IsOpenBehind design plan fault number time passed own) where
  beside : IsBesideAt design (plan_by (kept_by own) plan) (suc number) (beside_by design fault own)
  beside = subst (λ (f : StuckAt). IsBesideAt design (plan_by (kept_by own) plan) (suc number) (beside_by design f own)) (fault_is design plan fault number time passed own open_now) open_now.stands.beside

  none-found : option_map grade_of own.end ≡ None
  none-found = ap (λ (end : Option End). option_map grade_of end) open_now.none

  pub grading : StrobesGoOn design plan fault (Some time) (take passed plan.strobes) (drop passed plan.strobes) (said_by own)
  grading =
      laws.grading.again design plan fault time (take passed plan.strobes) (drop passed plan.strobes) (said_by own)
      (laws.stay.is_open design (plan_by (kept_by own) plan) (suc number) time (beside_by design fault own) beside none-found
      (time-same design plan (kept_by own) (suc number) ∙ open_now.time_is)) (sym (take-append-drop passed plan.strobes))
      (open_now.has_passed.early time open_now.time_is open_now.more) (open_now.has_passed.later time open_now.time_is open_now.more) (goes-on design plan fault number time passed own open_now).so_far

  slot : FirstSlot
  slot = last laws.good design plan rules number open_now.more

  pub enters : own.copy.states ≡ [] → AreDueAlike design plan (suc number) own.copy.updates → IsCopyInLockstep design plan fault number time (differences_in design own.copy)
  unfolding slot
  enters none due = record {
    rules = rules;
    last = slot;
    stands = last-there laws.good design plan rules number open_now.more;
    fine = fine-there laws.good design plan rules number open_now.more;
    since = omega (arith, same);
    before = λ next there. (let later = next-later laws.good design plan rules number open_now.more next there in omega (arith, later, same));
    own_on = grading.faulty;
    copy =
        copy-back design plan fault (kept_by own) time (differences_in design own.copy)
        (beside.copy time (time-same design plan (kept_by own) (suc number) ∙ open_now.time_is) none-found);
    may = record {
      activities = λ process. ap (λ (states : List (ℕ × ProcState)). own_of (each_by (done_in design) states) process) none;
      updates = λ process updates found.
          due process updates found ∙ ap (λ (s : State). due_times (process_at s process).later) (sym (goes-on design plan fault number time passed own open_now).runs_on.state_is);
    };
  }
    where
      same : time ≡ (last laws.good design plan rules number open_now.more).begins.time
      same = time-is laws.good design plan rules number open_now.more time open_now.time_is
