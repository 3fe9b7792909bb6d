-- A fault whose faulty machine is at its start, or was put into its state, may be graded through a window (slots by IEEE 1364-2001, clause 5).
use Rattle.std.proofs.Common.{◌≡◌, ℕ, ◌+◌, ◌<◌, ◌≤◌, Bool, List, [], ◌∷◌, length, sym, ap, subst, ◌∙◌}
use Rattle.std.specs.Prelude.{Option, Some, None, slice_get}
use Rattle.v_design.specs.Designs.{FlatDesign, Machine, StuckAt, TestPlan, faulty_machine}
use Rattle.v_design.specs.States.{State, start}
use Rattle.v_design.specs.WellFormed.{KeepsRules}
use Rattle.copy_laws.specs.Windows.{RiseAtMostOwn, good_slots, state_at, time_at, window_slots}
use Rattle.causal_monitor.specs.declared.slot.Turn.TheVariants.{Start}
use Rattle.copy_room.specs.machine.Standing.{IsStanding, machine_kept, begins_next, first_turn}
use Rattle.copy_room.specs.machine.declared.parts.Machine.{Machine as Simulated}
use Rattle.copy_room.specs.Rooms.{HasEntered, IsRoom}
use Rattle.good_trace.specs.BesideSlots.{TellsSlots}
use Rattle.good_trace.specs.Slots.{end_of}
use Rattle.fault_strobes.specs.Said.{SaysNothing, plan_by}
use Rattle.fault_strobes.specs.Strobes.{StrobedGradingsGoOn}
use Rattle.fault_strobes.proofs.Faults.{time-same}
use Rattle.beside_laws.specs.Shards.{FaultsGoOn}
use Rattle.window_grade.specs.Beside.{IsKnownBeside, WereTaken, tried_in}
use Rattle.window_grade.specs.Running.{StaysOn}
use Rattle.window_grade.specs.Standing.{MachinesStand}
use Rattle.window_grade.specs.declared.beside.RunBeside.{RunBeside}
use Rattle.window_beside.specs.Known.{SlotsAreKnown}
use Rattle.window_beside.specs.Tried.{IsTriedAt, MayTry}
use Rattle.window_strobes.specs.Leading.{LeadsTo}
use Rattle.window_strobes.specs.Strobes.{AreStrobesOf}
use Rattle.window_strobes.specs.declared.strobes.WindowStrobes.{WindowStrobes}
use Rattle.fault_strobes.specs.declared.strobed.Strobed.{Strobed}
use Rattle.copy_window.specs.Passing.{CanBegin, CanResume, CanSettle}
use Rattle.copy_window.specs.ShardFaults.{kept_by, said_by}
use Rattle.copy_window.specs.declared.fault.ShardFault.{ShardFault}
use Rattle.copy_window.proofs.Starting.{HasRules, begins, resumes, time}

-- What is known of the slots beside those of its faulty machine

pub is-known : SlotsAreKnown → (design : FlatDesign) (plan : TestPlan) (fault : StuckAt) (kept : Bool) (beside : RunBeside) (first ends before through : ℕ) (strobes : WindowStrobes) →
    AreStrobesOf design plan before through strobes → HasRules design plan → TellsSlots design (window_slots design plan first ends) beside.slots → first ≤ before → through ≤ ends →
    WereTaken design (plan_by kept plan) fault beside → (until : ℕ) → strobes.until ≡ Some until →
    IsKnownBeside design (plan_by kept plan) fault (time_at design plan before) until beside
is-known law design plan fault kept beside first ends before through strobes are rules tells low high taken until e =
    law.known design plan fault kept beside first ends before through until (end_of strobes.ending) rules.design_rules tells low high
    (subst (LeadsTo design plan before through (end_of strobes.ending)) e are.leads) taken

-- all that was tried in the first of some slots was tried there
tried-all : SlotsAreKnown → (design : FlatDesign) (plan : TestPlan) (fault : StuckAt) (kept : Bool) (beside : RunBeside) (before through : ℕ) → KeepsRules design →
    MayTry design (plan_by kept plan) before fault beside.tried.now → IsTriedAt design plan before beside.time → before < through →
    tried_in beside (time_at design plan before) (time_at design plan through) ≡ length beside.tried.now
tried-all known design plan fault kept beside before through rules may at some =
    (λ i. tried_in beside (sym (time-same design plan kept before) i) (sym (time-same design plan kept through) i)) ∙ known.all design (plan_by kept plan) fault beside before through rules may at some

-- from the start of its faulty machine
pub starts : MachinesStand → StrobedGradingsGoOn → SlotsAreKnown → (design : FlatDesign) (plan : TestPlan) (before through first ends : ℕ) (strobes : WindowStrobes) (beside : RunBeside) (fault : StuckAt)
    (own : ShardFault) (m : Simulated) → TellsSlots design (window_slots design plan first ends) beside.slots → first ≤ before → through ≤ ends → before < through →
    MayTry design (plan_by (kept_by own) plan) before fault beside.tried.now → IsTriedAt design plan before beside.time →
    CanBegin design plan before through strobes fault own → HasRules design plan → machine_kept m ≡ faulty_machine design fault → IsStanding m →
    first_turn m.stage ≡ Start → begins_next m ≡ Some (start (faulty_machine design fault)) → SaysNothing (said_by own) → CanSettle design plan before through strobes beside m own
starts stand law known design plan before through first ends strobes beside fault own m tells low high some may at of rules same standing turn next nothing =
    let P : TestPlan = plan_by (kept_by own) plan in
    let taken : WereTaken design P fault beside = known.taken design P fault beside before rules.design_rules may at in
    record {
      fault = fault;
      listed = of.listed;
      none = of.none;
      within = of.within;
      are = of.are;
      at = begins design plan fault before through strobes of.are law m (said_by own) rules of.at_start (stand.begins design plan fault m rules.design_rules same standing turn next) nothing;
      known = is-known known design plan fault (kept_by own) beside first ends before through strobes of.are rules tells low high taken;
      taken = taken;
      all = tried-all known design plan fault (kept_by own) beside before through rules.design_rules may at some;
    }

-- what its strobes said may be forgotten
pub begins-anew : (design : FlatDesign) (plan : TestPlan) (before through : ℕ) (strobes : WindowStrobes) (fault : StuckAt) (own : ShardFault) (strobed : Strobed) →
    CanBegin design plan before through strobes fault own → CanBegin design plan before through strobes fault (record own { strobed = strobed })
begins-anew design plan before through strobes fault own strobed of =
    record { at_start = of.at_start; listed = of.listed; none = of.none; within = of.within; are = of.are }

-- from its copy on
pub goes-again : MachinesStand → StrobedGradingsGoOn → FaultsGoOn → SlotsAreKnown → (design : FlatDesign) (plan : TestPlan) (before through first ends : ℕ) (strobes : WindowStrobes)
    (beside : RunBeside) (fault : StuckAt) (own : ShardFault) (m : Simulated) → TellsSlots design (window_slots design plan first ends) beside.slots → first ≤ before → through ≤ ends →
    before < through → MayTry design (plan_by (kept_by own) plan) before fault beside.tried.now → IsTriedAt design plan before beside.time →
    (of : CanResume design plan before through strobes fault own) (more : before < length (good_slots design plan)) → HasRules design plan →
    HasEntered design fault (state_at (faulty_machine design fault) plan.end (time design plan fault before through strobes own of more)) m →
    CanSettle design plan before through strobes beside m own
goes-again stand law faults known design plan before through first ends strobes beside fault own m tells low high some may at of more rules entered =
    let P : TestPlan = plan_by (kept_by own) plan in
    let taken : WereTaken design P fault beside = known.taken design P fault beside before rules.design_rules may at in
    record {
      fault = fault;
      listed = of.listed;
      none = of.none;
      within = of.stands.within;
      are = of.are;
      at = resumes design plan fault before through strobes own of more rules m entered stand law faults;
      known = is-known known design plan fault (kept_by own) beside first ends before through strobes of.are rules tells low high taken;
      taken = taken;
      all = tried-all known design plan fault (kept_by own) beside before through rules.design_rules may at some;
    }

-- a room that was run on behind that is a room again
pub is-room : (design : FlatDesign) (fault : StuckAt) (faulty : State) (old new : Simulated) → HasEntered design fault faulty old → StaysOn old new → IsRoom design new
is-room design fault faulty old new entered stays = record {
  standing = stays.standing;
  design_is = ap (λ (m : Machine). m.design) (stays.same_machine ∙ entered.machine_is);
  no_notes = stays.notes ∙ entered.no_notes;
}

-- the counter of a fault that was graded through a window
pub settled-ticks : (design : FlatDesign) (plan : TestPlan) (before through : ℕ) (strobes : WindowStrobes) (beside : RunBeside) (m : Simulated) (own : ShardFault) (fault : StuckAt) (kept : Bool)
    (old new : ℕ) →
    ((at : ℕ) (of : CanSettle design plan at through strobes beside m own) → RiseAtMostOwn design (plan_by (kept_by own) plan) at through (of.fault ∷ []) old new) →
    CanSettle design plan before through strobes beside m own → slice_get plan.faults own.copy.fault ≡ Some fault → kept_by own ≡ kept →
    RiseAtMostOwn design (plan_by kept plan) before through (fault ∷ []) old new
settled-ticks design plan before through strobes beside m own fault kept old new ticks of listed kind =
    subst (λ (f : StuckAt). RiseAtMostOwn design (plan_by kept plan) before through (f ∷ []) old new) (some-is of.fault fault (sym of.listed ∙ listed))
    (subst (λ (k : Bool). RiseAtMostOwn design (plan_by k plan) before through (of.fault ∷ []) old new) kind (ticks before of))
  where
    some-is : (one other : StuckAt) → Some one ≡ Some other → one ≡ other
    some-is one other e = cc
