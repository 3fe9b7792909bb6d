-- A slot of the good machine in which nothing touches what differs is a fine slot of the faulty machine.
use Rattle.std.proofs.Common.{◌≡◌, ℕ, ◌+◌, ◌≤◌, List, [], ◌∷◌, Bool, true, false, refl, sym, ap, subst, ◌∙◌, arith}
use Rattle.std.specs.Prelude.{Option, Some, None}
use Rattle.vf_base.specs.Base.{ReportedPair}
use Rattle.vf_base.specs.Lists.{AllHold}
use Rattle.v_design.specs.Designs.{FlatDesign, Machine, StuckAt, good_machine, faulty_machine}
use Rattle.v_design.specs.States.{State}
use Rattle.v_design.specs.Logs.{PhaseAccess}
use Rattle.v_design.specs.PhaseLogs.{phase_race}
use Rattle.v_design.specs.Runs.{FirstSlot, counted_steps, most_steps, most_moves, first_moves, slot_end, is_hyper}
use Rattle.v_design.specs.Grades.{Phase, SlotOutcome, Fine, Hyper, phases, race_of, first_race, race_or_fine, slot_outcome}
use Rattle.v_design.specs.Laws.{BeginsPhase}
use Rattle.v_design.specs.WellFormed.{KeepsRules}
use Rattle.machine_laws.specs.SlotLoop.{slot_from, first_moment, phases_so_far}
use Rattle.copy_laws.specs.Beside.{Keeps}
use Rattle.copy_laws.specs.Moves.{IsWithin, MayJump}
use Rattle.copy_laws.specs.Differences.{Differences, apart_of}
use Rattle.copy_laws.specs.Rest.{within_of}
use Rattle.trace_window.specs.Moments.{slot_seen}
use Rattle.quiet_slots.specs.FirstSlots.{RestsAfterSlot}
use Rattle.quiet_slots.specs.Quiet.{IsFreeBeside}
use Rattle.quiet_slots.specs.SlotMoves.{slot-seen}
use Rattle.quiet_slots.proofs.FirstSlots.{few-steps}
use Rattle.quiet_slots.proofs.Lockstep.{WalkLaws, Kept, held-same}
use Rattle.quiet_slots.proofs.Walked.{EndsBeside, walks}
use Rattle.quiet_slots.proofs.Wide.{begins-wide}

-- Races

-- what the first race of some phases is, by that of the first of them
abbrev raced_by : Machine → ℕ → Phase → List Phase → Option (PhaseAccess × PhaseAccess) → Option ReportedPair
raced_by machine number phase rest found = elim found as (λ _. Option ReportedPair) [
  | None ↦ first_race machine (number + 1) rest
  | Some pair ↦ Some (race_of phase.begins.time number pair)
]

none-raced : (machine : Machine) (number : ℕ) (parts : List Phase) → first_race machine number parts ≡ None →
    AllHold (λ (phase : Phase). phase_race machine phase.begins phase.events ≡ None) parts
none-raced machine number [] e = tt
none-raced machine number (phase ∷ parts) e = go (phase_race machine phase.begins phase.events) refl e (λ f. none-raced machine (number + 1) parts f)
  where
    go : (found : Option (PhaseAccess × PhaseAccess)) → phase_race machine phase.begins phase.events ≡ found → raced_by machine number phase parts found ≡ None →
        (first_race machine (number + 1) parts ≡ None → AllHold (λ (p : Phase). phase_race machine p.begins p.events ≡ None) parts) →
        AllHold (λ (p : Phase). phase_race machine p.begins p.events ≡ None) (phase ∷ parts)
    go None is f rest = (is, rest f)
    go (Some pair) is f rest = cc

all-clean : (machine : Machine) (number : ℕ) (parts : List Phase) → AllHold (λ (phase : Phase). phase_race machine phase.begins phase.events ≡ None) parts → first_race machine number parts ≡ None
all-clean machine number [] h = refl
all-clean machine number (phase ∷ parts) h = ap (raced_by machine number phase parts) h.0 ∙ all-clean machine (number + 1) parts h.1

-- a fine slot takes no more steps than it may, and none of its phases has a race
pub record IsClean (machine : Machine) (slot : FirstSlot) : Type 0 where
  pub few : is_hyper slot ≡ false
  pub clean : AllHold (λ (phase : Phase). phase_race machine phase.begins phase.events ≡ None) (phases machine slot)

pub fine-clean : (machine : Machine) (slot : FirstSlot) → slot_outcome machine slot ≡ Fine → IsClean machine slot
fine-clean machine slot fine = go (is_hyper slot) refl fine
  where
    none : (race : Option ReportedPair) → race_or_fine race ≡ Fine → race ≡ None
    none None e = refl
    none (Some pair) e = cc

    go : (hyper : Bool) → is_hyper slot ≡ hyper → elim hyper as (λ _. SlotOutcome) [ true ↦ Hyper | false ↦ race_or_fine (first_race machine 1 (phases machine slot)) ] ≡ Fine → IsClean machine slot
    go true h e = cc
    go false h e = record { few = h; clean = none-raced machine 1 (phases machine slot) (none (first_race machine 1 (phases machine slot)) e) }

-- The slot

-- the slot that a state of the faulty machine begins is fine, and ends beside a good state
pub record PassesSlot (design : FlatDesign) (fault : StuckAt) (d : Differences) (good0 good own : State) : Type 0 where
  pub fine : slot_outcome (faulty_machine design fault) (slot_from (faulty_machine design fault) own) ≡ Fine
  pub within : IsWithin (within_of d good0) (slot_end (good_machine design) (slot_from (good_machine design) good)) (slot_end (faulty_machine design fault) (slot_from (faulty_machine design fault) own))
  pub keeps : Keeps (apart_of d) (slot_end (good_machine design) (slot_from (good_machine design) good)) good0

ended : (design : FlatDesign) (fault : StuckAt) (d : Differences) (good0 good own : State) →
    EndsBeside design fault d good0 own (slot_end (good_machine design) (slot_from (good_machine design) good)) → PassesSlot design fault d good0 good own
ended design fault d good0 good own e = record {
  fine =
      ap (λ s. slot_outcome (faulty_machine design fault) (slot_from (faulty_machine design fault) s)) (sym e.same_slot)
      ∙ e.ends.outcome_is ∙ ap race_or_fine (all-clean (faulty_machine design fault) 1 (phases_so_far e.at) e.clean);
  within = subst (IsWithin (within_of d good0) (slot_end (good_machine design) (slot_from (good_machine design) good)))
      (sym e.ends.end_is ∙ ap (λ s. slot_end (faulty_machine design fault) (slot_from (faulty_machine design fault) s)) e.same_slot) e.within;
  keeps = e.keeps;
}

pub slot-passes : WalkLaws → (design : FlatDesign) (fault : StuckAt) → KeepsRules design → (d : Differences) (until : ℕ) (good0 faulty0 : State) → Kept design d until good0 faulty0 →
    (good own : State) → BeginsPhase (good_machine design) good → BeginsPhase (faulty_machine design fault) own → IsWithin (within_of d good0) good own → MayJump (within_of d good0) good own →
    Keeps (apart_of d) good good0 → own.time ≤ until → slot_outcome (good_machine design) (slot_from (good_machine design) good) ≡ Fine →
    RestsAfterSlot (good_machine design) (slot_end (good_machine design) (slot_from (good_machine design) good)) →
    AllHold (IsFreeBeside design fault d faulty0) (slot_seen (good_machine design) (slot_from (good_machine design) good)) → PassesSlot design fault d good0 good own
slot-passes laws design fault rules d until good0 faulty0 kept good own good_begins own_begins within jump keeps low fine rests free =
    let clean = fine-clean (good_machine design) (slot_from (good_machine design) good) fine in
    let few : counted_steps (first_moves (good_machine design) good) ≤ most_steps = few-steps (slot_from (good_machine design) good) clean.few in
    ended design fault d good0 good own
    (walks laws design fault rules d until good0 faulty0 kept (most_moves (good_machine design)) (most_steps + 1) None good good (first_moment own)
    (record {
      within = within;
      jump = jump;
      keeps = keeps;
      comes = laws.begin (faulty_machine design fault) own own_begins;
      good_wide = begins-wide (good_machine design) good good_begins;
      own_wide = begins-wide (faulty_machine design fault) own own_begins;
      happened_so_far = refl;
      alike = tt;
      held = held-same design fault d until good0 faulty0 kept good own within keeps;
      clean = tt;
    })
    low
    (record {
      few = omega (arith, few);
      free = subst (AllHold (IsFreeBeside design fault d faulty0)) (slot-seen (good_machine design) (slot_from (good_machine design) good)) free;
      clean = clean.clean;
      quiescent = rests.quiescent;
      no_turn = rests.no_turn;
    }))
