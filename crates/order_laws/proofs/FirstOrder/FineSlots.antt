-- Every legal run of a fine slot of the first run ends where that slot does.
use Rattle.std.proofs.Common.{◌≡◌, ℕ, zero, suc, ◌+◌, ◌<◌, ◌≤◌, List, [], ◌∷◌, Bool, true, false, refl, sym, subst, arith}
use Rattle.std.specs.Prelude.{Option, Some, None, IsTrue, slice_get}
use Rattle.vf_base.specs.Base.{ReportedPair}
use Rattle.v_design.specs.Designs.{Machine}
use Rattle.v_design.specs.States.{State, start}
use Rattle.v_design.specs.Runs.{Move, ends_by, Leads, first_moves, FirstSlot, slot_end, is_hyper, next_slot, first_slots}
use Rattle.v_design.specs.Logs.{PhaseAccess}
use Rattle.v_design.specs.PhaseLogs.{phase_race}
use Rattle.v_design.specs.Grades.{Phase, phases, race_of, first_race, SlotOutcome, Fine, Hyper, race_or_fine, slot_outcome}
use Rattle.v_design.specs.WellFormed.{KeepsRules}
use Rattle.v_design.specs.Laws.{FineSlotsEndAlike}
use Rattle.order_laws.proofs.StartSettles.{start_begins}
use Rattle.order_laws.proofs.RunsEndAlike.{some_eq, NoConflicts, runs_end_alike}
use Rattle.order_laws.proofs.FirstOrder.Awake.{later_starts}
use Rattle.order_laws.proofs.FirstOrder.SlotChain.{Begins, slot_from, end_from, closes, next_begins, slot_moves_may, ends_own}

-- The slots of the first run

-- the slots after one
abbrev pub slots_on : ℕ → Machine → ℕ → Option State → List FirstSlot
slots_on count machine time found = elim found [ None ↦ [] | Some next ↦ first_slots count machine time next ]

-- the slot that a state begins, as the laws ask, no earlier than a time
pub record SlotBegins (machine : Machine) (time : ℕ) (slot : FirstSlot) : Type 0 where
  pub state : State
  pub from : slot ≡ slot_from machine state
  pub begins : Begins machine state
  pub since : time ≤ state.time

pub slot_begins : (machine : Machine) (time : ℕ) → KeepsRules machine.design → (count : ℕ) (state : State) → Begins machine state → (number : ℕ) (slot : FirstSlot) →
    slice_get (first_slots count machine time state) number ≡ Some slot → SlotBegins machine state.time slot
slot_begins machine time rules zero state b number slot e = cc
slot_begins machine time rules (suc count) state b zero slot e = record { state = state; from = sym (some_eq (slot_from machine state) slot e); begins = b; since = omega arith }
slot_begins machine time rules (suc count) state b (suc number) slot e = go (next_slot machine time (slot_from machine state)) refl e
    (λ next c f. slot_begins machine time rules count next c number slot f)
  where
    go : (found : Option State) → next_slot machine time (slot_from machine state) ≡ found → slice_get (slots_on count machine time found) number ≡ Some slot →
        ((next : State) → Begins machine next → slice_get (first_slots count machine time next) number ≡ Some slot → SlotBegins machine next.time slot) → SlotBegins machine state.time slot
    go None h f rest = cc
    go (Some next) h f rest =
        let n = next_begins machine time state next rules b h in
        let r = rest next n.begins f in
        record {
          state = r.state;
          from = r.from;
          begins = r.begins;
          since = (let x : state.time < next.time = n.rises in let y : next.time ≤ r.state.time = r.since in omega (arith, x, y));
        }

pub first_begins : (machine : Machine) → KeepsRules machine.design → Begins machine (start machine)
first_begins machine rules = record { phase = start_begins machine rules; awake = later_starts machine }

-- What a fine slot says

-- the race of a phase, else of the rest
abbrev pub race_on : Machine → ℕ → Phase → List Phase → Option (PhaseAccess × PhaseAccess) → Option ReportedPair
race_on machine number phase rest found = elim found [ None ↦ first_race machine (number + 1) rest | Some pair ↦ Some (race_of phase.begins.time number pair) ]

race-none : (machine : Machine) (number : ℕ) (phases : List Phase) → first_race machine number phases ≡ None → NoConflicts machine phases
race-none machine number [] e = tt
race-none machine number (phase ∷ rest) e = go (phase_race machine phase.begins phase.events) refl e (race-none machine (number + 1) rest)
  where
    go : (found : Option (PhaseAccess × PhaseAccess)) → phase_race machine phase.begins phase.events ≡ found → race_on machine number phase rest found ≡ None →
        (first_race machine (number + 1) rest ≡ None → NoConflicts machine rest) →
        NoConflicts machine (phase ∷ rest)
    go None h f next = (h, next f)
    go (Some pair) h f next = cc

fine-race : (found : Option ReportedPair) → race_or_fine found ≡ Fine → found ≡ None
fine-race None e = refl
fine-race (Some pair) e = cc

-- the outcome of a slot that is hyperactive or not
abbrev pub outcome_by : Machine → FirstSlot → Bool → SlotOutcome
outcome_by machine slot hyper = elim hyper [ true ↦ Hyper | false ↦ race_or_fine (first_race machine 1 (phases machine slot)) ]

pub fine_calm : (machine : Machine) (slot : FirstSlot) → slot_outcome machine slot ≡ Fine → (is_hyper slot ≡ false) × NoConflicts machine (phases machine slot)
fine_calm machine slot e = go (is_hyper slot) refl e
  where
    go : (hyper : Bool) → is_hyper slot ≡ hyper → outcome_by machine slot hyper ≡ Fine → (is_hyper slot ≡ false) × NoConflicts machine (phases machine slot)
    go true h f = cc
    go false h f = (h, race-none machine 1 (phases machine slot) (fine-race (first_race machine 1 (phases machine slot)) f))

-- The law

fine-alike : (machine : Machine) (state : State) → KeepsRules machine.design → Begins machine state → slot_outcome machine (slot_from machine state) ≡ Fine → (moves : List Move) (final : State) →
    Leads machine state.time state moves final →
    ends_by state.time final ≡ true → final ≡ end_from machine state
fine-alike machine state rules b fine moves final leads ends =
    let f = fine_calm machine (slot_from machine state) fine in
    runs_end_alike machine state.time state (first_moves machine state) moves (end_from machine state) final rules b.phase (slot_moves_may machine state.time state).leads
    (ends_own machine state (closes machine state rules b f.0)) f.1 leads ends

pub fine_slots_end_alike : FineSlotsEndAlike
fine_slots_end_alike machine time number slot rules at fine =
    let s = slot_begins machine time rules (time + 1) (start machine) (first_begins machine rules) number slot at in
    subst (λ (sl : FirstSlot). slot_outcome machine sl ≡ Fine → (moves : List Move) (final : State) → Leads machine sl.begins.time sl.begins moves final → IsTrue (ends_by sl.begins.time final) →
    final ≡ slot_end machine sl) (sym s.from)
    (fine-alike machine s.state rules s.begins) fine
