-- The slots that are ahead of the good machine, and the one that comes next.
use Rattle.std.proofs.Common.{◌≡◌, ◌≢◌, ℕ, ◌+◌, ◌≤◌, Bool, true, false, List, [], ◌∷◌, ◌++◌, length, refl, sym, ap, subst, ◌∙◌, arith, append_assoc, append-nil}
use Rattle.std.specs.Prelude.{Option, Some, None, nat_eq, nat_le, slice_get}
use Rattle.std.specs.Option.{option_map}
use Rattle.std.proofs.lemmas.Bool.{le-leb, ne_eqb}
use Rattle.std.proofs.lemmas.List.{length_push}
use Rattle.std.proofs.lemmas.Option.{slice_get_past}
use Rattle.vf_base.specs.Base.{ReportedPair}
use Rattle.v_design.specs.Designs.{FlatDesign, TestPlan, Machine, good_machine}
use Rattle.v_design.specs.States.{State, start}
use Rattle.v_design.specs.Runs.{FirstSlot, only_if, first_run, next_slot}
use Rattle.v_design.specs.Grades.{SlotOutcome, Fine, Race, Hyper, slot_outcome, Stop, first_stop}
use Rattle.v_design.specs.OwnSteps.{slots_through_stop}
use Rattle.v_design.specs.WellFormed.{KeepsRules}
use Rattle.order_laws.specs.FirstRuns.{Follow, FirstRunsGoOn}
use Rattle.machine_laws.specs.SlotLoop.{slot_from}
use Rattle.causal_monitor.specs.declared.slot.Turn.{Turn}
use Rattle.causal_monitor.specs.declared.slot.Turn.TheVariants.{Start, Time}
use Rattle.copy_laws.specs.Windows.{good_slots}
use Rattle.grade_laws.specs.Grading.{good_stop}
use Rattle.machine.specs.Standing.{IsStanding, machine_kept, begins_next, begun_within, following, next-is-following, notes_runs, first_turn as turn_next}
use Rattle.machine.specs.declared.parts.Machine.{Machine as Simulated}
use Rattle.good_trace.specs.Slots.{first_turn}
use Rattle.good_windows.specs.Next.{AllStand, LoopsBehind}
use Rattle.good_windows.specs.Stages.{StandsAfter, IsAtStart, next_by}

-- Lists

place-at : (behind rest : List FirstSlot) (slot : FirstSlot) → slice_get (behind ++ slot ∷ rest) (length behind) ≡ Some slot
place-at [] rest slot = refl
place-at (other ∷ behind) rest slot = place-at behind rest slot

some-is : {A : Type 0} (one other : A) → Some one ≡ Some other → one ≡ other
some-is one other e = cc

-- The time of the next slot

-- a slot comes next, at a time up to an end
pub record Known (end : ℕ) (m : Simulated) (time : ℕ) : Type 0 where
  pub begins : State
  pub next_is : begins_next m ≡ Some begins
  pub within_is : begun_within end (begins_next m) ≡ Some begins
  pub time_is : begins.time ≡ time

pub known : (end : ℕ) (m : Simulated) (time : ℕ) → next_by end m ≡ Some time → Known end m time
known end m time e = go (begins_next m) refl e
  where
    within : (begins : State) (b : Bool) → begins_next m ≡ Some begins → nat_le begins.time end ≡ b → option_map (λ (s : State). s.time) (only_if b begins) ≡ Some time → Known end m time
    within begins false n h f = cc
    within begins true n h f = record {
      begins = begins;
      next_is = n;
      within_is = ap (begun_within end) n ∙ ap (λ b. only_if b begins) h;
      time_is = some-is begins.time time f;
    }

    go : (next : Option State) → begins_next m ≡ next → option_map (λ (s : State). s.time) (begun_within end next) ≡ Some time → Known end m time
    go None n f = cc
    go (Some begins) n f = within begins (nat_le begins.time end) n refl f

none-is : (found : Option State) → option_map (λ (s : State). s.time) found ≡ None → found ≡ None
none-is None e = refl
none-is (Some state) e = cc

pub none-within : (end : ℕ) (m : Simulated) → next_by end m ≡ None → begun_within end (begins_next m) ≡ None
none-within end m e = none-is (begun_within end (begins_next m)) e

-- The start

within-some : (end : ℕ) (begins : State) → begins.time ≤ end → begun_within end (Some begins) ≡ Some begins
within-some end begins h = ap (λ b. only_if b begins) (le-leb begins.time end h)

-- the machine at its start
pub stands-start : FirstRunsGoOn → (design : FlatDesign) (plan : TestPlan) (m : Simulated) → KeepsRules design → IsAtStart design m → StandsAfter design plan 0 m
stands-start law design plan m rules at = record {
  machine_is = at.machine_is;
  standing = at.standing;
  notes = at.notes;
  turn_is = at.turn_is;
  behind = [];
  count = refl;
  ahead = first_run (good_machine design) plan.end;
  follow =
      subst (λ (found : Option State). Follow (good_machine design) plan.end found (first_run (good_machine design) plan.end))
      (sym (ap (begun_within plan.end) at.begins ∙ within-some plan.end (start (good_machine design)) (omega arith))) (law.follow (good_machine design) plan.end rules);
  slots_are = refl;
  stop_is = refl;
}

-- The end

nothing-ahead : (machine : Machine) (end : ℕ) (ahead : List FirstSlot) → Follow machine end None ahead → ahead ≡ []
nothing-ahead machine end [] f = refl
nothing-ahead machine end (slot ∷ ahead) f = absurd f

never : (stop : Option Stop) (time : ℕ) → stop ≡ None → stop ≢ Some (record { time = time; outcome = Hyper })
never stop time e f = cc

-- no slot comes up to the plan's end
pub all-stand : (design : FlatDesign) (plan : TestPlan) (number : ℕ) (m : Simulated) → StandsAfter design plan number m → begun_within plan.end (begins_next m) ≡ None → AllStand design plan number
all-stand design plan number m stands none =
    record {
      all = ap length stands.slots_are ∙ ap (λ ahead. length (stands.behind ++ slots_through_stop (good_machine design) ahead)) nothing ∙ ap length (append-nil stands.behind) ∙ stands.count;
      no_loop = λ time. never (good_stop design plan) time (stands.stop_is ∙ ap (first_stop (good_machine design)) nothing);
    }
  where
    nothing : stands.ahead ≡ []
    nothing = nothing-ahead (good_machine design) plan.end stands.ahead (subst (λ (found : Option State). Follow (good_machine design) plan.end found stands.ahead) none stands.follow)

-- so there is none at its place
pub none-at : (design : FlatDesign) (plan : TestPlan) (number : ℕ) → AllStand design plan number → slice_get (good_slots design plan) number ≡ None
none-at design plan number stand = let all : length (good_slots design plan) ≡ number = stand.all in slice_get_past (good_slots design plan) number (omega (arith, all))

-- A slot

-- the slots through the first that isn't fine, and how the run stops, by the outcome of the first of them
abbrev through_by : Machine → List FirstSlot → SlotOutcome → List FirstSlot
through_by machine slots outcome = elim outcome as (λ _. List FirstSlot) [ Fine ↦ slots_through_stop machine slots | Race pair ↦ [] | Hyper ↦ [] ]

abbrev stop_by : Machine → FirstSlot → List FirstSlot → SlotOutcome → Option Stop
stop_by machine slot slots outcome = elim outcome as (λ _. Option Stop) [
  | Fine ↦ first_stop machine slots
  | Race pair ↦ Some (record { time = slot.begins.time; outcome = Race pair })
  | Hyper ↦ Some (record { time = slot.begins.time; outcome = Hyper })
]

-- the slot that a state begins, and those after it
record Ahead (machine : Machine) (end : ℕ) (begins : State) (ahead : List FirstSlot) : Type 0 where
  rest : List FirstSlot
  ahead_is : ahead ≡ slot_from machine begins ∷ rest
  follow : Follow machine end (next_slot machine end (slot_from machine begins)) rest

one-ahead : (machine : Machine) (end : ℕ) (begins : State) (ahead : List FirstSlot) → Follow machine end (Some begins) ahead → Ahead machine end begins ahead
one-ahead machine end begins [] f = absurd f
one-ahead machine end begins (slot ∷ rest) f = record {
  rest = rest;
  ahead_is = ap (λ (s : FirstSlot). s ∷ rest) f.0;
  follow = subst (λ (s : FirstSlot). Follow machine end (next_slot machine end s) rest) f.0 f.1;
}

raced-not-hyper : (pair : ReportedPair) (raced hyper : Stop) → raced.outcome ≡ Race pair → hyper.outcome ≡ Hyper → Some raced ≡ Some hyper → ⊥
raced-not-hyper pair raced hyper race is e =
    let same : Race pair ≡ Hyper = sym race ∙ ap (λ (stop : Stop). stop.outcome) (some-is raced hyper e) ∙ is in cc

later-turn : (number : ℕ) → Time ≡ first_turn (number + 1)
later-turn number =
    let later : nat_eq (number + 1) 0 ≡ false = ne_eqb (number + 1) 0 (λ e. omega (arith, e)) in
    sym (ap (λ start. elim start as (λ _. Turn) [ true ↦ Start | false ↦ Time ]) later)

module _ (design : FlatDesign) (plan : TestPlan) (number : ℕ) (m : Simulated) (stands : StandsAfter design plan number m) (begins : State)
    (within : begun_within plan.end (begins_next m) ≡ Some begins) where
  next : Ahead (good_machine design) plan.end begins stands.ahead
  next = one-ahead (good_machine design) plan.end begins stands.ahead (subst (λ (found : Option State). Follow (good_machine design) plan.end found stands.ahead) within stands.follow)

  slots-here : good_slots design plan ≡ stands.behind ++ slot_from (good_machine design) begins ∷
      through_by (good_machine design) next.rest (slot_outcome (good_machine design) (slot_from (good_machine design) begins))
  slots-here = stands.slots_are ∙ ap (λ ahead. stands.behind ++ slots_through_stop (good_machine design) ahead) next.ahead_is

  stop-here : good_stop design plan ≡
      stop_by (good_machine design) (slot_from (good_machine design) begins) next.rest (slot_outcome (good_machine design) (slot_from (good_machine design) begins))
  stop-here = stands.stop_is ∙ ap (first_stop (good_machine design)) next.ahead_is

  -- it stands at its place
  pub stands-here : slice_get (good_slots design plan) number ≡ Some (slot_from (good_machine design) begins)
  stands-here =
      (λ i. slice_get (slots-here i) (sym stands.count i))
      ∙ place-at stands.behind (through_by (good_machine design) next.rest (slot_outcome (good_machine design) (slot_from (good_machine design) begins))) (slot_from (good_machine design) begins)

  -- where it is fine, the machine stands after it
  pub fine-after : (new : Simulated) → slot_outcome (good_machine design) (slot_from (good_machine design) begins) ≡ Fine → machine_kept new ≡ good_machine design → IsStanding new →
      notes_runs new ≡ true → turn_next new.stage ≡ Time →
      begins_next new ≡ following (good_machine design) (slot_from (good_machine design) begins) → StandsAfter design plan (number + 1) new
  fine-after new fine same standing notes turn is = record {
    machine_is = same;
    standing = standing;
    notes = notes;
    turn_is = turn ∙ later-turn number;
    behind = stands.behind ++ slot_from (good_machine design) begins ∷ [];
    count = length_push stands.behind (slot_from (good_machine design) begins) ∙ ap (λ n. n + 1) stands.count;
    ahead = next.rest;
    follow =
        subst (λ (found : Option State). Follow (good_machine design) plan.end found next.rest)
        (next-is-following (good_machine design) plan.end (slot_from (good_machine design) begins) ∙ ap (begun_within plan.end) (sym is)) next.follow;
    slots_are =
        slots-here ∙ ap (λ outcome. stands.behind ++ slot_from (good_machine design) begins ∷ through_by (good_machine design) next.rest outcome) fine
        ∙ sym (append_assoc stands.behind (slot_from (good_machine design) begins ∷ []) (slots_through_stop (good_machine design) next.rest));
    stop_is = stop-here ∙ ap (stop_by (good_machine design) (slot_from (good_machine design) begins) next.rest) fine;
  }

  last-of : (outcome : SlotOutcome) → slot_outcome (good_machine design) (slot_from (good_machine design) begins) ≡ outcome → through_by (good_machine design) next.rest outcome ≡ [] →
      length (good_slots design plan) ≡ number + 1
  last-of outcome is none =
      ap length (slots-here ∙ ap (λ o. stands.behind ++ slot_from (good_machine design) begins ∷ through_by (good_machine design) next.rest o) is
      ∙ ap (λ l. stands.behind ++ slot_from (good_machine design) begins ∷ l) none)
      ∙ length_push stands.behind (slot_from (good_machine design) begins) ∙ ap (λ n. n + 1) stands.count

  -- where it has a race, it is the last one
  pub raced-here : (pair : ReportedPair) → slot_outcome (good_machine design) (slot_from (good_machine design) begins) ≡ Race pair → AllStand design plan (number + 1)
  raced-here pair race = record {
    all = last-of (Race pair) race refl;
    no_loop = λ time e.
        raced-not-hyper pair (record { time = begins.time; outcome = Race pair }) (record { time = time; outcome = Hyper }) refl refl
        (sym (stop-here ∙ ap (stop_by (good_machine design) (slot_from (good_machine design) begins) next.rest) race) ∙ e);
  }

  -- where it is hyperactive, the run stops there
  pub loops-here : (time : ℕ) → slot_outcome (good_machine design) (slot_from (good_machine design) begins) ≡ Hyper → begins.time ≡ time → LoopsBehind design plan number time
  loops-here time hyper at = record {
    all_before = last-of Hyper hyper refl;
    stops = stop-here ∙ ap (stop_by (good_machine design) (slot_from (good_machine design) begins) next.rest) hyper ∙ ap (λ t. Some (record { time = t; outcome = Hyper })) at;
  }
