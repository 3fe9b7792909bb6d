-- The time of a grade is at most the plan's end.
use Rattle.std.proofs.Common.{◌≡◌, ℕ, zero, suc, ◌+◌, ◌≤◌, ◌&&◌, Bool, true, false, cond, List, [], ◌∷◌, Option, Some, None, refl, subst, arith}
use Rattle.std.specs.Prelude.{nat_le, find}
use Rattle.std.proofs.lemmas.Bool.{leb-true}
use Rattle.vf_base.specs.Base.{ReportedPair}
use Rattle.vf_base.specs.declared.finding.End.{End}
use Rattle.vf_base.specs.declared.finding.End.TheVariants as ending
use Rattle.vf_base.specs.declared.finding.Side.TheVariants.{Good, Faulty}
use Rattle.vf_base.specs.Lists.{AllHold}
use Rattle.v_design.specs.Designs.{FlatDesign, Machine, TestPlan, StuckAt, good_machine, faulty_machine}
use Rattle.v_design.specs.States.{State, start, TurnKind, PostponedTurn, UpdatesTurn, TimeTurn, turn_of, time_turn}
use Rattle.v_design.specs.Runs.{FirstSlot, first_moves, first_slots, first_run, next_slot, next_slot_at, only_if, is_hyper, slot_end}
use Rattle.four_value.specs.declared.logic.Bit.{Bit}
use Rattle.v_design.specs.Grades.{Samples, SlotOutcome, Fine, Race, Hyper, slot_outcome, Stop, first_stop, Verdict, verdict_by, FaultGrade, Judged, Raced, Looped}
use Rattle.v_design.specs.Grades.{by_then, stop_time, good_ending, faulty_ending, good_or, faulty_or, graded, graded_faulty, grade, is_hard, is_possible, some_sample, first_samples, first_strobe}
use Rattle.v_design.specs.Plain.{grade_of}
use Rattle.v_design.specs.WellFormed.{KeepsRules, IsPlan}
use Rattle.order_laws.specs.FirstRuns.{FirstRunsGoOn}
use Rattle.verdict_words.specs.Codes.{grade_of_end, time_of_grade, time_of_verdict}

-- Slots

-- a turn of a first run leads to no slot after its end
next-at-within : (time : ℕ) (state next : State) (turn : Option TurnKind) → next_slot_at time state turn ≡ Some next → next.time ≤ time
next-at-within time state next None e = cc
next-at-within time state next (Some PostponedTurn) e = cc
next-at-within time state next (Some UpdatesTurn) e = cc
next-at-within time state next (Some (TimeTurn later)) e = go (nat_le later time) refl e
  where
    go : (b : Bool) → nat_le later time ≡ b → only_if b (time_turn later state) ≡ Some next → next.time ≤ time
    go true t f =
        let same : later ≡ next.time = some-time (time_turn later state) next f in
        subst (λ n. n ≤ time) same (leb-true later time t)
      where
        some-time : (one other : State) → Some one ≡ Some other → one.time ≡ other.time
        some-time one other g = cc
    go false t f = cc

next-within : (machine : Machine) (time : ℕ) (slot : FirstSlot) (next : State) → next_slot machine time slot ≡ Some next → next.time ≤ time
next-within machine time slot next e = go (is_hyper slot) e
  where
    go : (b : Bool) → elim b [ true ↦ None | false ↦ (let state = slot_end machine slot in next_slot_at time state (turn_of state)) ] ≡ Some next → next.time ≤ time
    go true f = cc
    go false f = next-at-within time (slot_end machine slot) next (turn_of (slot_end machine slot)) f

-- all slots of a first run begin by its end
slots-within : (count : ℕ) (machine : Machine) (time : ℕ) (state : State) → state.time ≤ time → AllHold (λ (slot : FirstSlot). slot.begins.time ≤ time) (first_slots count machine time state)
slots-within zero machine time state h = tt
slots-within (suc count) machine time state h = (h, go (next_slot machine time here) refl (λ next within. slots-within count machine time next within))
  where
    here : FirstSlot
    here = record { begins = state; moves = first_moves machine state }

    go : (next : Option State) → next_slot machine time here ≡ next → ((later : State) → later.time ≤ time →
        AllHold (λ (slot : FirstSlot). slot.begins.time ≤ time) (first_slots count machine time later)) →
        AllHold (λ (slot : FirstSlot). slot.begins.time ≤ time) (elim next [ None ↦ [] | Some later ↦ first_slots count machine time later ])
    go None e rest = tt
    go (Some next) e rest = rest next (next-within machine time here next e)

-- so a stop is at its end or before it
stop-by : (machine : Machine) (time : ℕ) (slots : List FirstSlot) (stop : Stop) → AllHold (λ (slot : FirstSlot). slot.begins.time ≤ time) slots → first_stop machine slots ≡ Some stop →
    stop.time ≤ time
stop-by machine time [] stop h e = cc
stop-by machine time (slot ∷ slots) stop h e = go (slot_outcome machine slot) e (λ f. stop-by machine time slots stop h.1 f)
  where
    stop-at : (one other : Stop) → Some one ≡ Some other → one.time ≡ other.time
    stop-at one other g = cc

    go : (outcome : SlotOutcome) →
        elim outcome [
          | Fine ↦ first_stop machine slots
          | Race pair ↦ Some (record { time = slot.begins.time; outcome = Race pair })
          | Hyper ↦ Some (record { time = slot.begins.time; outcome = Hyper })
        ] ≡ Some stop → (first_stop machine slots ≡ Some stop → stop.time ≤ time) → stop.time ≤ time
    go Fine f rest = rest f
    go (Race pair) f rest = subst (λ n. n ≤ time) (stop-at _ stop f) h.0
    go Hyper f rest = subst (λ n. n ≤ time) (stop-at _ stop f) h.0

stop-within : (machine : Machine) (time : ℕ) (stop : Stop) → first_stop machine (first_run machine time) ≡ Some stop → stop.time ≤ time
stop-within machine time stop e = stop-by machine time (first_run machine time) stop (slots-within (time + 1) machine time (start machine) (omega arith)) e

-- Grades

-- a stop that may be there is at an end or before it, and so is its race
abbrev IsWithin : ℕ → Option Stop → Type 0
IsWithin end found = (stop : Stop) → found ≡ Some stop → (stop.time ≤ end) × ((pair : ReportedPair) → stop.outcome ≡ Race pair → pair.time ≡ stop.time)

some-grade : (one other : FaultGrade) → Some one ≡ Some other → one ≡ other
some-grade one other e = cc

good-within : (end : ℕ) (stop : Stop) (g : FaultGrade) (outcome : SlotOutcome) → IsWithin end (Some stop) → stop.outcome ≡ outcome → good_ending outcome ≡ Some g → time_of_grade g ≤ end
good-within end stop g Fine w o e = cc
good-within end stop g (Race pair) w o e =
    let is = w stop refl in
    let at : pair.time ≤ end = (let r : pair.time ≡ stop.time = is.1 pair o in let l : stop.time ≤ end = is.0 in omega (arith, r, l)) in
    subst (λ (h : FaultGrade). time_of_grade h ≤ end) (some-grade (Raced Good pair) g e) at
good-within end stop g Hyper w o e = cc

faulty-within : (end : ℕ) (stop : Stop) (g : FaultGrade) (outcome : SlotOutcome) → IsWithin end (Some stop) → stop.outcome ≡ outcome → faulty_ending stop.time outcome ≡ Some g → time_of_grade g ≤ end
faulty-within end stop g Fine w o e = cc
faulty-within end stop g (Race pair) w o e =
    let is = w stop refl in
    let at : pair.time ≤ end = (let r : pair.time ≡ stop.time = is.1 pair o in let l : stop.time ≤ end = is.0 in omega (arith, r, l)) in
    subst (λ (h : FaultGrade). time_of_grade h ≤ end) (some-grade (Raced Faulty pair) g e) at
faulty-within end stop g Hyper w o e = subst (λ (h : FaultGrade). time_of_grade h ≤ end) (some-grade (Looped stop.time) g e) (w stop refl).0

judged-within : (end : ℕ) (given : Verdict) (g : FaultGrade) → time_of_verdict given ≤ end → Some (Judged given) ≡ Some g → time_of_grade g ≤ end
judged-within end given g w e = subst (λ (h : FaultGrade). time_of_grade h ≤ end) (some-grade (Judged given) g e) w

faulty-graded : (end : ℕ) (faulty : Option Stop) (hard : Option ℕ) (given : Verdict) (g : FaultGrade) → IsWithin end faulty → time_of_verdict given ≤ end → graded_faulty faulty hard given ≡ Some g →
    time_of_grade g ≤ end
faulty-graded end None hard given g w v e = judged-within end given g v e
faulty-graded end (Some stop) hard given g w v e = go (by_then stop.time hard) e
  where
    go : (b : Bool) → faulty_or b stop (Some (Judged given)) ≡ Some g → time_of_grade g ≤ end
    go true f = faulty-within end stop g stop.outcome w refl f
    go false f = judged-within end given g v f

graded-within : (end : ℕ) (good faulty : Option Stop) (hard : Option ℕ) (given : Verdict) (g : FaultGrade) → IsWithin end good → IsWithin end faulty → time_of_verdict given ≤ end →
    graded good faulty hard given ≡ Some g → time_of_grade g ≤ end
graded-within end None faulty hard given g w w' v e = faulty-graded end faulty hard given g w' v e
graded-within end (Some stop) faulty hard given g w w' v e = go (by_then stop.time (stop_time faulty) && by_then stop.time hard) e
  where
    go : (b : Bool) → good_or b stop (graded_faulty faulty hard given) ≡ Some g → time_of_grade g ≤ end
    go true f = good-within end stop g stop.outcome w refl f
    go false f = faulty-graded end faulty hard given g w' v f

-- Strobes

find-holds : (P : ℕ → Type 0) (test : ℕ → Bool) (xs : List ℕ) (t : ℕ) → AllHold P xs → find test xs ≡ Some t → P t
find-holds P test [] t h e = cc
find-holds P test (x ∷ xs) t h e = go (test x) e (λ f. find-holds P test xs t h.1 f)
  where
    some-is : (one other : ℕ) → Some one ≡ Some other → one ≡ other
    some-is one other g = cc

    go : (b : Bool) → cond b (Some x) (find test xs) ≡ Some t → (find test xs ≡ Some t → P t) → P t
    go true f rest = subst P (some-is x t f) h.0
    go false f rest = rest f

verdict-within : (end : ℕ) (hard possible : Option ℕ) → ((t : ℕ) → hard ≡ Some t → t ≤ end) → ((t : ℕ) → possible ≡ Some t → t ≤ end) → time_of_verdict (verdict_by hard possible) ≤ end
verdict-within end None None h p = omega arith
verdict-within end None (Some time) h p = p time refl
verdict-within end (Some time) possible h p = h time refl

-- The whole

-- the time of a fault's grade
pub grade-within : (design : FlatDesign) (plan : TestPlan) (fault : StuckAt) (g : FaultGrade) → FirstRunsGoOn → KeepsRules design → IsPlan plan → grade design plan fault ≡ Some g →
    time_of_grade g ≤ plan.end
grade-within design plan fault g law rules p e =
    graded-within plan.end (stops good) (stops faulty) (first_strobe is_hard (shown good) (shown faulty) plan.strobes)
    (verdict_by (first_strobe is_hard (shown good) (shown faulty) plan.strobes) (first_strobe is_possible (shown good) (shown faulty) plan.strobes)) g (within good rules) (within faulty rules)
    (verdict-within plan.end _ _ (strobe is_hard) (strobe is_possible)) e
  where
    good : Machine
    good = good_machine design

    faulty : Machine
    faulty = faulty_machine design fault

    stops : Machine → Option Stop
    stops machine = first_stop machine (first_run machine plan.end)

    shown : Machine → Samples
    shown machine = first_samples machine plan.watched (first_run machine plan.end)

    within : (machine : Machine) → KeepsRules machine.design → IsWithin plan.end (stops machine)
    within machine kept stop f = (stop-within machine plan.end stop f, λ pair o. law.race_time machine plan.end stop pair kept f o)

    strobe : (test : Bit → Bit → Bool) (t : ℕ) → first_strobe test (shown good) (shown faulty) plan.strobes ≡ Some t → t ≤ plan.end
    strobe test t f = find-holds (λ s. s ≤ plan.end) (λ s. some_sample test (shown good s) (shown faulty s)) plan.strobes t p.in_time f

-- the grade of an end is one, by whichever name
pub grade-of-end : (end : End) → grade_of_end end ≡ grade_of end
grade-of-end (ending.Detected time) = refl
grade-of-end (ending.Possible time) = refl
grade-of-end ending.Undetected = refl
grade-of-end (ending.Race side pair) = refl
grade-of-end (ending.Hyper time) = refl
