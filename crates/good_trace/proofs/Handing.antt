-- What a window tells of its phases and slots to a machine that runs beside them (slots and phases by IEEE 1364-2001, clause 5).
use Rattle.std.proofs.Common.{◌≡◌, ℕ, zero, suc, ◌+◌, ◌-◌, ◌<◌, ◌≤◌, ◌^◌, Bool, true, false, cond, List, [], ◌∷◌, ◌++◌, map, length, get_or, take, drop, refl, sym, ap, subst, ◌∙◌, inl, inr, arith, length-append, length-drop, length-take-le, eq-eqb, ne_eqb}
use Rattle.std.specs.Prelude.{All, Option, Some, None, find, nat_eq, slice_get}
use Rattle.std.proofs.lemmas.Bool.{cases_lt, eqb-true}
use Rattle.std.proofs.lemmas.List.Elements.{All-filter, filter_passes}
use Rattle.std.proofs.lemmas.Option.{get_or_from_slice_get, slice_get-get_or, slice_get_cases, slice_get_within}
use Rattle.vf_base.specs.Base.{process_number}
use Rattle.vf_base.specs.Lists.{AllHold}
use Rattle.v_design.specs.Designs.{FlatDesign, Machine, TestPlan, good_machine}
use Rattle.v_design.specs.Grades.{Phase, phases}
use Rattle.v_design.specs.OwnSteps.{phases_if, process_runs}
use Rattle.v_design.specs.Runs.{FirstSlot, first_run, first_slots, most_moves, most_steps, next_slot}
use Rattle.v_design.specs.States.{State, start}
use Rattle.order_laws.proofs.FirstOrder.SlotMoves.{slot_may}
use Rattle.machine_laws.specs.SlotLoop.{slot_from}
use Rattle.copy_laws.specs.Windows.{WindowEnd, good_slots, window_slots}
use Rattle.between_slots.specs.Between.{window_phases}
use Rattle.between_slots.specs.WindowLaws.{window_phases-more, window_phases-part}
use Rattle.process_code.specs.OneCode.{CodesReadAlike}
use Rattle.process_code.specs.RunEnds.{StandsIn, StepsStandIn, told_by}
use Rattle.process_code.specs.StatesOf.{IsStateOf}
use Rattle.process_code.specs.declared.code.Code.{Code}
use Rattle.process_code.specs.declared.state.ProcState.{ProcState}
use Rattle.process_code.specs.declared.state.RunEnd.{RunEnd}
use Rattle.process_code.specs.declared.state.StepTaken.{StepTaken}
use Rattle.run_ends.specs.RunEnds.{IsCodeAt, IsEndWithin, ends_of, is_end_of, told_of}
use Rattle.trace_window.specs.declared.change.Change.{Change}
use Rattle.window_runs.specs.OfPhase.{TellsRuns}
use Rattle.window_runs.specs.OfSlot.{HaveTime, TellsSlot, phase_of}
use Rattle.window_runs.specs.RunsByProcess.{IsRunIndexOf}
use Rattle.window_runs.specs.declared.index.RunIndex.{RunIndex}
use Rattle.window_runs.specs.declared.phase.PhaseRuns.{PhaseRuns}
use Rattle.good_trace.specs.Beginnings.{AreTimes, IsTimeAt, AreBeginnings, IsBeginning}
use Rattle.good_trace.specs.BesideSlots.{TellsSlots, slot_runs}
use Rattle.good_trace.specs.RunsKept.{HasRuns}
use Rattle.good_trace.specs.Traces.{WindowKept}
use Rattle.good_trace.specs.declared.beside.WindowSlots.{WindowSlots}
use Rattle.good_trace.specs.declared.pushed.SlotBeginning.{SlotBeginning}
use Rattle.v_design.specs.Accesses.{ObjectAccess}
use Rattle.good_trace.proofs.FewPhases.{at-place, through-stop}
use Rattle.good_trace.proofs.Standing.{HasCode, both, has-code, reads-alike}
use Rattle.good_trace.proofs.Boundaries.{time-at}

-- Times of phases

-- what holds of each slot of the first order holds of those of a first run
each-slot : (P : FirstSlot → Type 0) (machine : Machine) (time : ℕ) → ((state : State) → P (slot_from machine state)) → (count : ℕ) (state : State) →
    AllHold P (first_slots count machine time state)
each-slot P machine time each zero state = tt
each-slot P machine time each (suc count) state = (each state, go (next_slot machine time (slot_from machine state)) (each-slot P machine time each count))
  where
    go : (next : Option State) → ((later : State) → AllHold P (first_slots count machine time later)) → AllHold P (elim next [ None ↦ [] | Some later ↦ first_slots count machine time later ])
    go None rest = tt
    go (Some later) rest = rest later

-- the phases of a slot begin at its time
slot-time : (machine : Machine) (state : State) → HaveTime state.time (phases machine (slot_from machine state))
slot-time machine state = (slot_may machine state.time (most_moves machine) (most_steps + 1) state).phases None state [] refl

slots-time : (design : FlatDesign) (plan : TestPlan) (number : ℕ) (slot : FirstSlot) → slice_get (good_slots design plan) number ≡ Some slot →
    HaveTime slot.begins.time (phases (good_machine design) slot)
slots-time design plan number slot here =
    let machine = good_machine design in
    let P : FirstSlot → Type 0 = λ (s : FirstSlot). HaveTime s.begins.time (phases machine s) in
    at-place P (good_slots design plan)
    (through-stop P machine (first_run machine plan.end) (each-slot P machine plan.end (slot-time machine) (plan.end + 1) (start machine))) number slot here

-- Runs of a phase

-- the ends of a phase tell of its runs
pub runs-told : CodesReadAlike → (design : FlatDesign) (plan : TestPlan) (before through count : ℕ) (states : List ProcState) (runs : List RunEnd) (index : RunIndex) (place : ℕ) (one : Phase) →
    HasRuns design plan before through count states runs index → slice_get (window_phases design plan before through) place ≡ Some one → (kept : PhaseRuns) → kept.index.now ≡ index →
    kept.runs.now ≡ runs → kept.phase ≡ place + 1 → TellsRuns design one.begins.time (λ process. process_runs (good_machine design) process one) kept
runs-told alike design plan before through count states runs index place one had stands kept same_index same_runs at = record {
  index_is =
      subst (λ (r : List RunEnd). IsRunIndexOf (length design.processes) r kept.index.now) (sym same_runs)
      (subst (IsRunIndexOf (length design.processes) runs) (sym same_index) had.index_is);
  told = λ process code own.
      let low : process < length design.processes = slice_get_within design.processes process _ own.process_is in
      let mine = has-code design had.codes process had.kept.codes_are low in
      let reads = reads-alike alike design process mine.code code mine.is own in
      (λ i. map (told_by code) (ends_of (at i) process (same_runs i))) ∙ sym (λ i. map (λ (run : RunEnd). reads.told run i) (ends_of (place + 1) process runs))
      ∙ had.kept.runs_are.told place process one mine.code stands mine.here;
  stand = λ process code own.
      let low : process < length design.processes = slice_get_within design.processes process _ own.process_is in
      let mine = has-code design had.codes process had.kept.codes_are low in
      subst (λ (r : List RunEnd). All (StandsIn code) (ends_of kept.phase process r)) (sym same_runs)
      (stands-here process mine.code code mine.here (reads-alike alike design process mine.code code mine.is own).states);
}
  where
    stands-here : (process : ℕ) (mine code : Code) → slice_get had.codes process ≡ Some mine → ((state : ProcState) → IsStateOf mine state → IsStateOf code state) →
        All (StandsIn code) (ends_of kept.phase process runs)
    stands-here process mine code here states k d within =
        let run = get_or (ends_of kept.phase process runs) k d in
        let ends : IsEndWithin had.codes (length (window_phases design plan before through)) run =
        All-filter (is_end_of kept.phase process) (IsEndWithin had.codes (length (window_phases design plan before through))) runs had.kept.runs_are.within k d within in
        let passes : is_end_of kept.phase process run ≡ true = filter_passes (is_end_of kept.phase process) runs k d within in
        let own : slice_get had.codes (process_number run.process) ≡ Some mine =
        ap (λ n. slice_get had.codes n) (eqb-true (process_number run.process) process (both (nat_eq run.phase kept.phase) (nat_eq (process_number run.process) process) passes)) ∙ here in
        (states run.state (ends.state mine own), λ j e low. states (get_or run.steps j e).state (ends.steps mine own j e low))

-- Slots

some-slot : (one other : FirstSlot) → Some one ≡ Some other → one ≡ other
some-slot one other e = cc

some-beginning : (one other : SlotBeginning) → Some one ≡ Some other → one ≡ other
some-beginning one other e = cc

-- the slot of a number of a window is one of the run
window-slot : (slots : List FirstSlot) (before through number : ℕ) (slot : FirstSlot) → slice_get (drop before (take through slots)) number ≡ Some slot →
    (before + number < through) × (slice_get slots (before + number) ≡ Some slot)
window-slot [] zero zero number slot e = cc
window-slot [] zero (suc through) number slot e = cc
window-slot [] (suc before) zero number slot e = cc
window-slot [] (suc before) (suc through) number slot e = cc
window-slot (x ∷ slots) zero zero number slot e = cc
window-slot (x ∷ slots) zero (suc through) zero slot e = (omega arith, e)
window-slot (x ∷ slots) zero (suc through) (suc number) slot e =
    let more = window-slot slots zero through number slot e in
    let same : 0 + suc number ≡ suc (0 + number) = omega arith in
    (let low = more.0 in omega (arith, low), ap (slice_get (x ∷ slots)) same ∙ more.1)
window-slot (x ∷ slots) (suc before) zero number slot e = cc
window-slot (x ∷ slots) (suc before) (suc through) number slot e =
    let more = window-slot slots before through number slot e in
    let same : suc before + number ≡ suc (before + number) = omega arith in
    (let low = more.0 in omega (arith, low), ap (slice_get (x ∷ slots)) same ∙ more.1)

-- how many slots a window of the run has
window-count : (slots : List FirstSlot) (before count : ℕ) → before + count ≤ length slots → length (drop before (take (before + count) slots)) ≡ count
window-count slots before count fits =
    let cut = length-drop before (take (before + count) slots) in
    let took = length-take-le (before + count) slots fits in
    omega (arith, cut, took)

module _ (alike : CodesReadAlike) (design : FlatDesign) (plan : TestPlan) (before through count : ℕ) (states : List ProcState) (runs : List RunEnd) (index : RunIndex) (times : List ℕ)
    (accesses : List (List ObjectAccess)) (beginnings : List SlotBeginning) (had : HasRuns design plan before through count states runs index)
    (timed : AreTimes design plan before through times) (begun : AreBeginnings design plan before through accesses beginnings) (fits : count < 2 ^ 32)
    (within : through ≤ length (good_slots design plan)) (told : WindowSlots) (same_times : told.times.now ≡ times) (same_beginnings : told.beginnings.now ≡ beginnings)
    (same_index : told.index.now ≡ index) (same_runs : told.runs.now ≡ runs) where
  abbrev slots : List FirstSlot
  slots = window_slots design plan before through

  slots-count : length slots ≡ length times
  slots-count =
      let held = timed.held in
      ap (λ n. length (drop before (take n (good_slots design plan)))) (sym held) ∙ window-count (good_slots design plan) before (length times) (omega (arith, held, within))

  -- the slot before which so many stand, and where it begins
  one-begins : (number : ℕ) (one : SlotBeginning) → slice_get told.beginnings.now number ≡ Some one → IsBeginning design plan before (before + number) accesses one
  one-begins number one here = begun.each number one (ap (λ (l : List SlotBeginning). slice_get l number) (sym same_beginnings) ∙ here)

  phases-behind : (number : ℕ) (slot : FirstSlot) → slice_get slots number ≡ Some slot →
      window_phases design plan before (before + (number + 1)) ≡ window_phases design plan before (before + number) ++ phases (good_machine design) slot
  phases-behind number slot here =
      let there = window-slot (good_slots design plan) before through number slot here in
      let next : before + (number + 1) ≡ suc (before + number) = omega arith in
      ap (λ n. window_phases design plan before n) next ∙ window_phases-more design plan before (before + number) slot (omega arith) there.1

  -- the phase of a number of the slot is one of the window
  phase-there : (number place : ℕ) (slot : FirstSlot) (phase : Phase) → slice_get slots number ≡ Some slot → slice_get (phases (good_machine design) slot) place ≡ Some phase →
      slice_get (window_phases design plan before through) (length (window_phases design plan before (before + number)) + place) ≡ Some phase
  phase-there number place slot phase here stands =
      let there = window-slot (good_slots design plan) before through number slot here in
      let low = there.0 in
      let first = window_phases design plan before (before + number) in
      let rest = window_phases design plan (before + (number + 1)) through in
      ap (λ l. slice_get l (length first + place))
      (window_phases-part design plan before (before + (number + 1)) through (omega arith) (omega (arith, low)) ∙ ap (λ l. l ++ rest) (phases-behind number slot here))
      ∙ get-second first (phases (good_machine design) slot) rest place phase stands
    where
      get-first : (xs ys : List Phase) (k : ℕ) (x : Phase) → slice_get xs k ≡ Some x → slice_get (xs ++ ys) k ≡ Some x
      get-first [] ys k x e = cc
      get-first (y ∷ xs) ys zero x e = e
      get-first (y ∷ xs) ys (suc k) x e = get-first xs ys k x e

      get-second : (xs ys zs : List Phase) (k : ℕ) (x : Phase) → slice_get ys k ≡ Some x → slice_get ((xs ++ ys) ++ zs) (length xs + k) ≡ Some x
      get-second [] ys zs k x e = (let same : 0 + k ≡ k = omega arith in ap (slice_get (ys ++ zs)) same ∙ get-first ys zs k x e)
      get-second (y ∷ xs) ys zs k x e =
          let same : length (y ∷ xs) + k ≡ suc (length xs + k) = omega arith in ap (slice_get (((y ∷ xs) ++ ys) ++ zs)) same ∙ get-second xs ys zs k x e

  -- what is told of one of them
  slot-tells : (number : ℕ) (slot : FirstSlot) (one next : SlotBeginning) → slice_get slots number ≡ Some slot → slice_get told.beginnings.now number ≡ Some one →
      slice_get told.beginnings.now (number + 1) ≡ Some next → TellsSlot design slot.begins.time (phases (good_machine design) slot) (slot_runs told one next)
  slot-tells number slot one next here first second =
      let there = window-slot (good_slots design plan) before through number slot here in
      let low = there.0 in
      let here_first = (one-begins number one first).phases in
      let here_next = (one-begins (number + 1) next second).phases in
      let joined = ap (λ (l : List Phase). length l) (phases-behind number slot here) in
      let long = length-append (window_phases design plan before (before + number)) (phases (good_machine design) slot) in
      let parts = ap (λ (l : List Phase). length l) (window_phases-part design plan before (before + (number + 1)) through (omega arith) (omega (arith, low))) in
      let all = length-append (window_phases design plan before (before + (number + 1))) (window_phases design plan (before + (number + 1)) through) in
      let counted = had.kept.phase_count in
      record {
        count = omega (arith, here_first, here_next, joined, long);
        fits = omega (arith, here_first, here_next, joined, long, parts, all, counted, fits);
        at_time = slots-time design plan (before + number) slot there.1;
        told = λ place phase stands.
            let machine = good_machine design in
            let time : phase.begins.time ≡ slot.begins.time = phase-time slot.begins.time (phases machine slot) (slots-time design plan (before + number) slot there.1) place phase stands in
            subst (λ t. TellsRuns design t (λ process. process_runs machine process phase) (phase_of (slot_runs told one next) place)) time
            (runs-told alike design plan before through count states runs index (length (window_phases design plan before (before + number)) + place) phase had
            (phase-there number place slot phase here stands) (phase_of (slot_runs told one next) place) same_index same_runs (omega (arith, here_first)));
      }
    where
      same-phase : (x y : Phase) → Some x ≡ Some y → x ≡ y
      same-phase x y e = cc

      phase-time : (time : ℕ) (list : List Phase) → HaveTime time list → (place : ℕ) (phase : Phase) → slice_get list place ≡ Some phase → phase.begins.time ≡ time
      phase-time time [] all place phase stands = cc
      phase-time time (x ∷ list) all zero phase stands = ap (λ (p : Phase). p.begins.time) (sym (same-phase x phase stands)) ∙ all.0
      phase-time time (x ∷ list) all (suc place) phase stands = phase-time time list all.1 place phase stands

  pub slots-tell : TellsSlots design slots told
  slots-tell = record {
    count = ap length same_times ∙ sym slots-count;
    held = (let held = timed.held in let counted = begun.count in let all = slots-count in ap length same_beginnings ∙ (omega (arith, held, counted, all)));
    times = λ number slot here.
        let there = window-slot (good_slots design plan) before through number slot here in
        let low = there.0 in
        let held = timed.held in
        ap (λ (l : List ℕ). slice_get l number) same_times ∙ (elim (slice_get_cases times number).1 [
          | inl found ↦ found.2 ∙ ap Some (time-at design plan (before + number) found.0 slot (timed.each number found.0 found.2) there.1)
          | inr past ↦ absurd (omega (arith, past.0, low, held))
        ]);
    rise = λ number one next first second.
        let here_first = (one-begins number one first).phases in
        let here_next = (one-begins (number + 1) next second).phases in
        let parts = ap (λ (l : List Phase). length l) (window_phases-part design plan before (before + number) (before + (number + 1)) (omega arith) (omega arith)) in
        let all = length-append (window_phases design plan before (before + number)) (window_phases design plan (before + number) (before + (number + 1))) in
        omega (arith, here_first, here_next, parts, all);
    each = slot-tells;
  }

  -- the same of the window as it is seen
  pub seen-tell : (seen : WindowKept) (ending : WindowEnd) → record { before = before; through = through; ending = ending } ≡ seen →
      TellsSlots design (window_slots design plan seen.before seen.through) told
  seen-tell seen ending same = subst (λ (k : WindowKept). TellsSlots design (window_slots design plan k.before k.through) told) same slots-tell

-- Finding a slot by its time

abbrev pub IsAtTime : ℕ → FirstSlot → Bool
IsAtTime time other = nat_eq other.begins.time time

-- the first one that is at a time is found
pub find-at : (time : ℕ) (slots : List FirstSlot) (place : ℕ) (slot : FirstSlot) → slice_get slots place ≡ Some slot → slot.begins.time ≡ time →
    ((k : ℕ) (other : FirstSlot) → k < place → slice_get slots k ≡ Some other → other.begins.time ≡ time → ⊥) → find (IsAtTime time) slots ≡ Some slot
find-at time [] place slot here at before = cc
find-at time (x ∷ slots) zero slot here at before =
    ap (λ b. cond b (Some x) (find (IsAtTime time) slots)) (eq-eqb x.begins.time time (ap (λ (s : FirstSlot). s.begins.time) (some-slot x slot here) ∙ at)) ∙ here
find-at time (x ∷ slots) (suc place) slot here at before =
    ap (λ b. cond b (Some x) (find (IsAtTime time) slots)) (not-at time x (before 0 x (omega arith) refl))
    ∙ find-at time slots place slot here at (λ k other low. before (suc k) other (omega (arith, low)))
  where
    not-at : (time : ℕ) (x : FirstSlot) → (x.begins.time ≡ time → ⊥) → IsAtTime time x ≡ false
    not-at time x other = ne_eqb x.begins.time time other

pub find-none : (time : ℕ) (slots : List FirstSlot) → ((k : ℕ) (other : FirstSlot) → slice_get slots k ≡ Some other → other.begins.time ≡ time → ⊥) → find (IsAtTime time) slots ≡ None
find-none time [] none = refl
find-none time (x ∷ slots) none =
    ap (λ b. cond b (Some x) (find (IsAtTime time) slots)) (ne_eqb x.begins.time time (none 0 x refl)) ∙ find-none time slots (λ k other. none (suc k) other)

-- The slot of a time

module _ (design : FlatDesign) (slots : List FirstSlot) (told : WindowSlots) (tells : TellsSlots design slots told) (time : ℕ) where
  -- the first one at that time is told
  pub slot-found : (place : ℕ) (blank : SlotBeginning) → place < length told.times.now → get_or told.times.now place 0 ≡ time →
      ((k other : ℕ) → k < place → slice_get told.times.now k ≡ Some other → other ≡ time → ⊥) →
      TellsSlot design time (phases_if (good_machine design) (find (IsAtTime time) slots))
      (slot_runs told (get_or told.beginnings.now place blank) (get_or told.beginnings.now (place + 1) blank))
  slot-found place blank low at before = elim (slice_get_cases slots place).1 [
    | inl found ↦
        let here = found.2 in
        let time_is : found.0.begins.time ≡ time = sym (get_or_from_slice_get told.times.now place found.0.begins.time 0 (tells.times place found.0 here)) ∙ at in
        let is : find (IsAtTime time) slots ≡ Some found.0 =
        find-at time slots place found.0 here time_is (λ k other less there same. before k other.begins.time less (tells.times k other there) same) in
        let held = tells.held in
        let counted = tells.count in
        let first : slice_get told.beginnings.now place ≡ Some (get_or told.beginnings.now place blank) =
        slice_get-get_or told.beginnings.now place blank (omega (arith, low, held, counted)) in
        let second : slice_get told.beginnings.now (place + 1) ≡ Some (get_or told.beginnings.now (place + 1) blank) =
        slice_get-get_or told.beginnings.now (place + 1) blank (omega (arith, low, held, counted)) in
        subst (λ (o : Option FirstSlot). TellsSlot design time (phases_if (good_machine design) o) (slot_runs told (get_or told.beginnings.now place blank) (get_or told.beginnings.now (place + 1) blank)))
        (sym is)
        (subst (λ t. TellsSlot design t (phases (good_machine design) found.0) (slot_runs told (get_or told.beginnings.now place blank) (get_or told.beginnings.now (place + 1) blank))) time_is
        (tells.each place found.0 (get_or told.beginnings.now place blank) (get_or told.beginnings.now (place + 1) blank) here first second))
    | inr past ↦ absurd (let counted = tells.count in omega (arith, past.0, low, counted))
  ]

  -- none is at that time
  pub slot-none : (count : ℕ) → length told.times.now ≤ count → ((k other : ℕ) → k < count → slice_get told.times.now k ≡ Some other → other ≡ time → ⊥) →
      TellsSlot design time (phases_if (good_machine design) (find (IsAtTime time) slots)) (record { index = told.index; runs = told.runs; before = 0; phases = 0 })
  slot-none count all before =
      let none : find (IsAtTime time) slots ≡ None =
      find-none time slots (λ k other here same.
      let there = tells.times k other here in
      before k other.begins.time (let low = slice_get_within told.times.now k other.begins.time there in omega (arith, low, all)) there same) in
      subst (λ (o : Option FirstSlot). TellsSlot design time (phases_if (good_machine design) o) (record { index = told.index; runs = told.runs; before = 0; phases = 0 })) (sym none)
      (record { count = refl; fits = omega arith; at_time = tt; told = λ number phase stands. cc })

-- so it is one place further
pub before-more : (times : List ℕ) (time place : ℕ) → ((k other : ℕ) → k < place → slice_get times k ≡ Some other → other ≡ time → ⊥) → (get_or times place 0 ≡ time → ⊥) →
    (k other : ℕ) → k < place + 1 → slice_get times k ≡ Some other → other ≡ time → ⊥
before-more times time place before here k other low there same = elim (cases_lt k place) [
  | inl less ↦ before k other less there same
  | inr by ↦
      let at : k ≡ place = omega (arith, low, by) in
      here (ap (λ n. get_or times n 0) (sym at) ∙ get_or_from_slice_get times k other 0 there ∙ same)
]
