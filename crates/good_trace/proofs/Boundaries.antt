-- What stands before a slot of a window.
use Rattle.std.proofs.Common.{◌≡◌, ℕ, zero, suc, ◌+◌, ◌-◌, ◌<◌, ◌≤◌, List, [], ◌∷◌, ◌++◌, map, length, get_or, take, drop, refl, sym, ap, subst, ◌∙◌, inl, inr, arith, length-append}
use Rattle.std.specs.Prelude.{Option, Some, None, slice_get}
use Rattle.std.specs.List.{between}
use Rattle.std.proofs.lemmas.List.{get_or_read, length-take-le, take-append-drop, take-take, take_all, take_at, drop_at, take-map, drop-map}
use Rattle.std.proofs.lemmas.Option.{slice_get_cases, slice_get_read, slice_get_within}
use Rattle.std.proofs.lemmas.Slice.{between_is}
use Rattle.four_value.specs.Values.{LogicValue}
use Rattle.v_design.specs.Accesses.{ObjectAccess}
use Rattle.v_design.specs.Designs.{FlatDesign, FlatProcess, Machine, TestPlan, good_machine}
use Rattle.v_design.specs.Plain.{due_of}
use Rattle.v_design.specs.Processes.{Ready, opened}
use Rattle.v_design.specs.States.{State, LaterUpdate, found_or, idle_process, start}
use Rattle.v_design.specs.Runs.{FirstSlot, slot_end}
use Rattle.v_design.specs.WellFormed.{KeepsRules}
use Rattle.v_design.specs.Grades.{Phase}
use Rattle.v_design.specs.declared.plan.Due.{Due}
use Rattle.process_code.specs.OneCode.{CodesReadAlike}
use Rattle.process_code.specs.declared.code.Code.{Code}
use Rattle.process_code.specs.declared.state.ProcState.{ProcState}
use Rattle.process_code.specs.declared.state.RunEnd.{RunEnd}
use Rattle.copy_laws.specs.Windows.{good_slots}
use Rattle.run_ends.specs.RunEnds.{ender_told, AreCodesOf, AreRunEnds}
use Rattle.between_slots.specs.Between.{state_through, activity_through, activity_after_runs, runs_in, window_phases, RunsLead}
use Rattle.between_slots.specs.Updates.{due_after, appended_in, updates_through, LastIsFew, UpdatesArePending}
use Rattle.between_slots.specs.FewLaws.{few-before}
use Rattle.between_slots.specs.WindowLaws.{window_phases-part}
use Rattle.trace_window.specs.declared.change.Change.{Change}
use Rattle.trace_window.specs.GatherLaws.{writes_from-append}
use Rattle.trace_window.specs.Listed.{AreAccessesOf, AreListed}
use Rattle.trace_window.specs.Moments.{Seen, window_events, window_values, values_through, values_before}
use Rattle.trace_window.specs.TouchLaws.{listed-length}
use Rattle.trace_window.specs.ValueLaws.{ValuesFollow, window-follow}
use Rattle.trace_window.specs.Writes.{Written, written_of, writes_from}
use Rattle.window_runs.specs.declared.index.RunIndex.{RunIndex}
use Rattle.window_runs.specs.RunLaws.{EndsStand, EndsLead, EndsPart, EndsAppend, EndsBetween}
use Rattle.window_runs.specs.Standing.{standing_after, last_run}
use Rattle.window_runs.specs.Through.{runs_through, appended_through, pending_through, AreUpdatesAfter}
use Rattle.good_trace.specs.declared.pushed.SlotBeginning.{SlotBeginning}
use Rattle.good_trace.specs.Beginnings.{IsTimeAt, AreTimes, IsBeginning, AreBeginnings}
use Rattle.good_trace.specs.RunsKept.{Stands, AreUpdatesAt, AreRunsKept, HasRuns}
use Rattle.good_trace.specs.SlotsTold.{AreWritesOf, slot_run_ends}
use Rattle.good_trace.proofs.RunsKeeping.{few-from}
use Rattle.good_trace.proofs.Standing.{HasCode, has-code, reads-alike}
use Rattle.good_trace.proofs.Windows.{events-part, events-within, zip-front, zip-behind}

-- Moments

before-behind : (xs ys : List Seen) (last : List LogicValue) → values_before (xs ++ ys) last (length xs) ≡ values_before ys last 0
before-behind [] ys last = refl
before-behind (x ∷ xs) ys last = before-behind xs ys last

first-before : (machine : Machine) (values : List LogicValue) (seen : List Seen) (last : List LogicValue) → ValuesFollow machine values seen last → values_before seen last 0 ≡ values
first-before machine values [] last follow = sym follow
first-before machine values (s ∷ seen) last follow = follow.0

pub values-of : (design : FlatDesign) (plan : TestPlan) (number : ℕ) → number ≤ length (good_slots design plan) → values_through design plan number ≡ (state_through design plan number).values
values-of design plan zero low = refl
values-of design plan (suc last) low = elim (slice_get_cases (good_slots design plan) last).1 [
  | inl found ↦
      ap (λ (o : Option FirstSlot). elim o as (λ _. List LogicValue) [ None ↦ [] | Some slot ↦ (slot_end (good_machine design) slot).values ]) found.2
      ∙ sym (ap (λ (o : Option FirstSlot). (elim o as (λ _. State) [ None ↦ start (good_machine design) | Some slot ↦ slot_end (good_machine design) slot ]).values) found.2)
  | inr past ↦ absurd (omega (arith, past.0, low))
]

-- what the objects hold before a slot's first event is what they hold in the state before the slot
pub values-at : (design : FlatDesign) (plan : TestPlan) (before number through : ℕ) → before ≤ number → number ≤ through → through ≤ length (good_slots design plan) →
    window_values design plan before through (length (window_events design plan before number)) ≡ (state_through design plan number).values
values-at design plan before number through low high fits =
    ap (λ l. values_before l (values_through design plan through) (length (window_events design plan before number))) (events-part design plan before number through low high)
    ∙ before-behind (window_events design plan before number) (window_events design plan number through) (values_through design plan through)
    ∙ first-before (good_machine design) (values_through design plan number) (window_events design plan number through) (values_through design plan through)
    (window-follow design plan number through high fits)
    ∙ values-of design plan number (omega (arith, high, fits))

-- Runs

-- the ends of the runs of a window's first slots
first-ends : EndsPart → (codes : List Code) (design : FlatDesign) (plan : TestPlan) (before number through : ℕ) (runs : List RunEnd) → before ≤ number → number ≤ through →
    AreRunEnds codes (good_machine design) (window_phases design plan before through) runs →
    AreRunEnds codes (good_machine design) (window_phases design plan before number) (runs_through (length (window_phases design plan before number)) runs)
first-ends part codes design plan before number through runs low high are =
    part codes (good_machine design) (window_phases design plan before number) (window_phases design plan number through) runs
    (subst (λ l. AreRunEnds codes (good_machine design) l runs) (window_phases-part design plan before number through low high) are)

-- where a process stands
pub Stands-before : CodesReadAlike → RunsLead → EndsPart → EndsStand → EndsLead → (design : FlatDesign) (plan : TestPlan) (before number through count phase : ℕ) (times : List ℕ)
    (states : List ProcState) (runs : List RunEnd) (index : RunIndex) (process : ℕ) (first state : ProcState) → KeepsRules design → AreTimes design plan before through times →
    HasRuns design plan before through count states runs index → before ≤ number → number ≤ through → through ≤ length (good_slots design plan) → process < length design.processes →
    slice_get states process ≡ Some first → phase ≡ length (window_phases design plan before number) → state ≡ standing_after first (last_run process (runs_through phase runs)) →
    Stands design process (activity_through design plan number process) state
Stands-before alike lead part stand does design plan before number through count phase times states runs index process first state rules are had low high fits within here phase_is is =
    subst (Stands design process (activity_through design plan number process)) (sym (is ∙ ap (λ n. standing_after first (last_run process (runs_through n runs))) phase_is)) (record {
      state_of = λ code own.
          (reads-alike alike design process kept.code code kept.is own).states there
          (stand had.codes (good_machine design) own_phases own_runs process kept.code first ends kept.here (had.kept.states_are.state_of process first kept.code here kept.here));
      does = λ code own.
          sym ((reads-alike alike design process kept.code code kept.is own).activity there)
          ∙ does had.codes (good_machine design) own_phases own_runs process kept.code first ends kept.here
          ∙ ap (λ a. activity_after_runs a (runs_in (good_machine design) process own_phases)) (had.kept.states_are.does process first kept.code here kept.here)
          ∙ sym (lead design plan before number process rules low (omega (arith, high, fits)) (few-from design plan before number through times are high));
    })
  where
    kept : HasCode design had.codes process
    kept = has-code design had.codes process had.kept.codes_are within

    own_phases : List Phase
    own_phases = window_phases design plan before number

    own_runs : List RunEnd
    own_runs = runs_through (length (window_phases design plan before number)) runs

    there : ProcState
    there = standing_after first (last_run process (runs_through (length (window_phases design plan before number)) runs))

    ends : AreRunEnds had.codes (good_machine design) (window_phases design plan before number) (runs_through (length (window_phases design plan before number)) runs)
    ends = first-ends part had.codes design plan before number through runs low high had.kept.runs_are

-- Updates

-- what a process has pending behind a slot
pub pending-behind : UpdatesArePending → EndsPart → EndsAppend → (codes : List Code) (design : FlatDesign) (plan : TestPlan) (before last through phase time process : ℕ) (times : List ℕ)
    (runs : List RunEnd) (first : List LaterUpdate) (slot : FirstSlot) → KeepsRules design → AreCodesOf design codes → AreTimes design plan before through times →
    AreRunEnds codes (good_machine design) (window_phases design plan before through) runs → before ≤ last → last < through →
    process < length design.processes → slice_get (good_slots design plan) last ≡ Some slot → time ≡ slot.begins.time →
    phase ≡ length (window_phases design plan before (suc last)) → first ≡ updates_through design plan before process →
    pending_through process phase time first runs ≡ updates_through design plan (suc last) process
pending-behind pends part append codes design plan before last through phase time process times runs first slot rules are_codes are ends low high within here time_is phase_is first_is =
    (λ i. due_after (time_is i) (first_is i ++ appended_through process (phase_is i) runs))
    ∙ ap (λ l. due_after slot.begins.time (updates_through design plan before process ++ l)) appended
    ∙ sym (pends design plan before last process slot rules low here (few-from design plan before (suc last) through times are (omega (arith, high))) within)
  where
    appended : appended_through process (length (window_phases design plan before (suc last))) runs ≡ appended_in (good_machine design) process (window_phases design plan before (suc last))
    appended =
        let kept = has-code design codes process are_codes within in
        append codes (good_machine design) (window_phases design plan before (suc last)) (runs_through (length (window_phases design plan before (suc last))) runs) process kept.code
        (first-ends part codes design plan before (suc last) through runs (omega (arith, low)) (omega (arith, high)) ends) kept.here

-- the time of a slot
pub time-at : (design : FlatDesign) (plan : TestPlan) (number time : ℕ) (slot : FirstSlot) → IsTimeAt design plan number time → slice_get (good_slots design plan) number ≡ Some slot →
    time ≡ slot.begins.time
time-at design plan number time slot at here =
    let same : Some at.slot ≡ Some slot = sym at.stands ∙ here in
    let one : at.slot ≡ slot = cc in
    at.is ∙ ap (λ (s : FirstSlot). s.begins.time) one

-- none at the start
start-later : (processes : List FlatProcess) (p : ℕ) →
    (found_or idle_process (slice_get (map (λ (process : FlatProcess). record { activity = Ready (opened process.body []) []; later = []; lane = [] }) processes) p)).later ≡ []
start-later [] p = refl
start-later (process ∷ processes) zero = refl
start-later (process ∷ processes) (suc p) = start-later processes p

pub AreUpdatesAt-start : (design : FlatDesign) (plan : TestPlan) (updates : List (List Due)) → length updates ≡ length design.processes → ((process : ℕ) → get_or updates process [] ≡ []) →
    AreUpdatesAt design plan 0 updates
AreUpdatesAt-start design plan updates count none = record {
  count = count;
  each = λ process low. ap (map due_of) (none process) ∙ sym (start-later design.processes process);
}

-- and those behind a window
pub AreUpdatesAt-closed : UpdatesArePending → EndsPart → EndsAppend → (codes : List Code) (design : FlatDesign) (plan : TestPlan) (pushed before phases time : ℕ) (times : List ℕ)
    (states : List ProcState) (updates later : List (List Due)) (runs : List RunEnd) → KeepsRules design → AreTimes design plan before pushed times →
    AreRunsKept codes design plan pushed before phases states runs → AreUpdatesAt design plan before updates → before < pushed →
    slice_get times (length times - 1) ≡ Some time → AreUpdatesAfter phases time updates runs later → AreUpdatesAt design plan pushed later
AreUpdatesAt-closed pends part append codes design plan pushed before phases time times states updates later runs rules timed kept updates_had some here after = record {
  count = after.count ∙ updates_had.count;
  each = λ process low.
      after.each process (omega (arith, low, updates_had.count))
      ∙ pending-behind pends part append codes design plan before (pushed - 1) pushed phases time process times runs (map due_of (get_or updates process [])) own.slot rules kept.codes_are
      timed kept.runs_are (omega (arith, some)) (omega (arith, some)) low stands own.is
      (kept.phase_count ∙ (let e : pushed ≡ suc (pushed - 1) = omega (arith, some) in ap (λ n. length (window_phases design plan before n)) e))
      (updates_had.each process low)
      ∙ (let e : suc (pushed - 1) ≡ pushed = omega (arith, some) in ap (λ n. updates_through design plan n process) e);
}
  where
    own : IsTimeAt design plan (before + (length times - 1)) time
    own = timed.each (length times - 1) time here

    stands : slice_get (good_slots design plan) (pushed - 1) ≡ Some own.slot
    stands = (let e : pushed - 1 ≡ before + (length times - 1) = omega (arith, timed.held, some) in ap (λ n. slice_get (good_slots design plan) n) e) ∙ own.stands

-- What a slot does

-- the writes of the accesses from one place to before another stand between those before the one and those before the other
cut-writes : (first end one two : ℕ) (all : List Change) (accesses : List (List ObjectAccess)) → one ≤ two → two ≤ length accesses → map written_of all ≡ writes_from 0 accesses →
    first ≡ length (writes_from 0 (take one accesses)) → end ≡ length (writes_from 0 (take two accesses)) →
    map written_of (between first end all) ≡ writes_from one (drop one (take two accesses))
cut-writes first end one two all accesses order fits writes first_is end_is =
    ap (map written_of) (between_is all first end) ∙ sym (drop-map written_of first (take end all)) ∙ ap (drop first) (sym (take-map written_of end all) ∙ ap (take end) (writes ∙ whole))
    ∙ ap (drop first) (take_at (writes_from 0 (take two accesses)) (writes_from (0 + length (take two accesses)) (drop two accesses)) end (sym end_is) ∙ own)
    ∙ drop_at (writes_from 0 (take one accesses)) (writes_from (0 + length (take one accesses)) (drop one (take two accesses))) first (sym first_is)
    ∙ (let long : length (take one accesses) ≡ one = length-take-le one accesses (omega (arith, order, fits)) in
    let e : 0 + length (take one accesses) ≡ one = omega (arith, long) in ap (λ n. writes_from n (drop one (take two accesses))) e)
  where
    whole : writes_from 0 accesses ≡ writes_from 0 (take two accesses) ++ writes_from (0 + length (take two accesses)) (drop two accesses)
    whole = ap (λ l. writes_from 0 l) (sym (take-append-drop two accesses)) ∙ writes_from-append 0 (take two accesses) (drop two accesses)

    own : writes_from 0 (take two accesses) ≡ writes_from 0 (take one accesses) ++ writes_from (0 + length (take one accesses)) (drop one (take two accesses))
    own =
        ap (λ l. writes_from 0 l)
        (sym (take-append-drop one (take two accesses)) ∙ ap (λ l. l ++ drop one (take two accesses)) (take-take one two accesses order))
        ∙ writes_from-append 0 (take one accesses) (drop one (take two accesses))

-- as many changes come before an event as before a later one, or fewer
cut-rises : (one two : ℕ) (accesses : List (List ObjectAccess)) → one ≤ two → length (writes_from 0 (take one accesses)) ≤ length (writes_from 0 (take two accesses))
cut-rises one two accesses order =
    let parts = ap (λ (l : List Written). length l)
    (ap (λ l. writes_from 0 l) (sym (take-append-drop one (take two accesses)) ∙ ap (λ l. l ++ drop one (take two accesses)) (take-take one two accesses order))
    ∙ writes_from-append 0 (take one accesses) (drop one (take two accesses))) in
    let long = length-append (writes_from 0 (take one accesses)) (writes_from (0 + length (take one accesses)) (drop one (take two accesses))) in
    omega (arith, parts, long)

-- its changes
pub writes-in : (design : FlatDesign) (plan : TestPlan) (before number through first end moment : ℕ) (all : List Change) (accesses : List (List ObjectAccess)) → before ≤ number → number + 1 ≤ through →
    AreListed (good_machine design) (window_events design plan before through) accesses → map written_of all ≡ writes_from 0 accesses →
    first ≡ length (writes_from 0 (take (length (window_events design plan before number)) accesses)) →
    end ≡ length (writes_from 0 (take (length (window_events design plan before (number + 1))) accesses)) → moment ≡ length (window_events design plan before number) →
    AreWritesOf (good_machine design) (window_events design plan number (number + 1)) moment (map written_of (between first end all))
writes-in design plan before number through first end moment all accesses low high listed writes first_is end_is moment_is = record {
  accesses = drop (length (window_events design plan before number)) (take (length (window_events design plan before (number + 1))) accesses);
  listed =
      zip-behind (AreAccessesOf (good_machine design)) (window_events design plan before number) (window_events design plan number (number + 1))
      (take (length (window_events design plan before (number + 1))) accesses)
      (subst (λ (seen : List Seen). AreListed (good_machine design) seen (take (length (window_events design plan before (number + 1))) accesses))
      (events-part design plan before number (number + 1) low (omega arith))
      (zip-front (AreAccessesOf (good_machine design)) (window_events design plan before (number + 1)) (window_events design plan (number + 1) through) accesses
      (subst (λ (seen : List Seen). AreListed (good_machine design) seen accesses) (events-part design plan before (number + 1) through (omega (arith, low)) high) listed)));
  are =
      cut-writes first end (length (window_events design plan before number)) (length (window_events design plan before (number + 1))) all accesses
      (events-within design plan before number (number + 1) low (omega arith))
      (let within = events-within design plan before (number + 1) through (omega (arith, low)) high in
      let long = listed-length (good_machine design) (window_events design plan before through) accesses listed in omega (arith, within, long)) writes first_is end_is
      ∙ ap (λ n. writes_from n (drop (length (window_events design plan before number)) (take (length (window_events design plan before (number + 1))) accesses))) (sym moment_is);
}

-- its runs
pub run-ends-in : EndsBetween → (codes : List Code) (design : FlatDesign) (plan : TestPlan) (before number through after until : ℕ) (runs own : List RunEnd) → before ≤ number → number < through →
    AreRunEnds codes (good_machine design) (window_phases design plan before through) runs → after ≡ length (window_phases design plan before number) →
    until ≡ length (window_phases design plan before (number + 1)) → runs_through after runs ++ own ≡ runs_through until runs →
    map ender_told own ≡ slot_run_ends design plan before number
run-ends-in ends codes design plan before number through after until runs own low high are after_is until_is is =
    ends codes (good_machine design) front slot (window_phases design plan (number + 1) through) runs own
    (subst (λ l. AreRunEnds codes (good_machine design) l runs) parts are)
    (ap (λ n. runs_through n runs ++ own) (sym after_is) ∙ is ∙ ap (λ n. runs_through n runs) (until_is ∙ ap length two ∙ length-append front slot))
  where
    front : List Phase
    front = window_phases design plan before number

    slot : List Phase
    slot = window_phases design plan number (number + 1)

    two : window_phases design plan before (number + 1) ≡ window_phases design plan before number ++ window_phases design plan number (number + 1)
    two = window_phases-part design plan before number (number + 1) low (omega arith)

    parts : window_phases design plan before through
        ≡ (window_phases design plan before number ++ window_phases design plan number (number + 1)) ++ window_phases design plan (number + 1) through
    parts = window_phases-part design plan before (number + 1) through (omega (arith, low)) (omega (arith, high)) ∙ ap (λ l. l ++ window_phases design plan (number + 1) through) two

-- Beginnings

pub begins-there : (design : FlatDesign) (plan : TestPlan) (before through count : ℕ) (accesses : List (List ObjectAccess)) (beginnings : List SlotBeginning) (beginning : SlotBeginning) →
    AreBeginnings design plan before through accesses beginnings → before + count ≤ through → beginning ≡ get_or beginnings count beginning →
    IsBeginning design plan before (before + count) accesses beginning
begins-there design plan before through count accesses beginnings beginning had low read =
    had.each count beginning (slice_get_read beginnings (length beginnings) count beginning refl (omega (arith, low, had.count)) read)

-- The state before a slot

-- the last slot before it isn't hyperactive
pub last-few : (design : FlatDesign) (plan : TestPlan) (before number through : ℕ) (times : List ℕ) → AreTimes design plan before through times → before < through → before ≤ number →
    number ≤ through → LastIsFew design plan number
last-few design plan before number through times are some low high = elim (slice_get_cases (good_slots design plan) number).1 [
  | inl found ↦ few-before design plan number found.0 found.2
  | inr past ↦ behind number low high past.0
]
  where
    from : (last : ℕ) → before ≤ suc last → length (good_slots design plan) ≤ suc last → before ≤ last
    from last low past = elim (slice_get_cases times 0).1 [
      | inl found ↦
          let own = are.each 0 found.0 found.2 in
          let within : before + 0 < length (good_slots design plan) = slice_get_within (good_slots design plan) (before + 0) own.slot own.stands in
          omega (arith, within, past)
      | inr none ↦ absurd (omega (arith, none.0, some, are.held))
    ]

    behind : (number : ℕ) → before ≤ number → number ≤ through → length (good_slots design plan) ≤ number → LastIsFew design plan number
    behind zero low high past = tt
    behind (suc last) low high past = λ slot here. few-from design plan before through through times are (omega arith) last slot (from last low past) (omega (arith, high)) here

-- what a process has pending before a slot that isn't the first
pub pending-before : UpdatesArePending → EndsPart → EndsAppend → (codes : List Code) (design : FlatDesign) (plan : TestPlan) (before last through phase time process : ℕ) (times : List ℕ)
    (runs : List RunEnd) (first : List LaterUpdate) → KeepsRules design → AreCodesOf design codes → AreTimes design plan before through times →
    AreRunEnds codes (good_machine design) (window_phases design plan before through) runs → before ≤ last → last < through → through ≤ length (good_slots design plan) → process < length design.processes →
    ((slot : FirstSlot) → slice_get (good_slots design plan) last ≡ Some slot → time ≡ slot.begins.time) →
    phase ≡ length (window_phases design plan before (suc last)) → first ≡ updates_through design plan before process →
    pending_through process phase time first runs ≡ updates_through design plan (suc last) process
pending-before pends part append codes design plan before last through phase time process times runs first rules are_codes are ends low high fits within time_is phase_is first_is =
    elim (slice_get_cases (good_slots design plan) last).1 [
      | inl found ↦
          pending-behind pends part append codes design plan before last through phase time process times runs first found.0 rules are_codes are ends low high within found.2
          (time_is found.0 found.2) phase_is first_is
      | inr past ↦ absurd (omega (arith, past.0, high, fits))
    ]

-- a slot has no fewer phases behind it than before it
pub phases-rise : (design : FlatDesign) (plan : TestPlan) (before number : ℕ) → before ≤ number →
    length (window_phases design plan before number) ≤ length (window_phases design plan before (number + 1))
phases-rise design plan before number low =
    let parts = ap (λ (l : List Phase). length l) (window_phases-part design plan before number (number + 1) low (omega arith)) in
    let long = length-append (window_phases design plan before number) (window_phases design plan number (number + 1)) in omega (arith, parts, long)

-- what a process has pending before a window
pub first-updates : (design : FlatDesign) (plan : TestPlan) (before process : ℕ) (updates : List (List Due)) (first read : List Due) → AreUpdatesAt design plan before updates →
    process < length design.processes → first ≡ read → read ≡ get_or updates process read → map due_of first ≡ updates_through design plan before process
first-updates design plan before process updates first read had low is at =
    ap (map due_of) (is ∙ get_or_read updates process read (omega (arith, low, had.count)) at []) ∙ had.each process low

-- the changes of a slot, by where it and the next one begin, are among all
pub changes-bounds : (design : FlatDesign) (plan : TestPlan) (before count through : ℕ) (all : List Written) (accesses : List (List ObjectAccess)) (beginnings : List SlotBeginning)
    (one two : SlotBeginning) → AreBeginnings design plan before through accesses beginnings → before + count < through → one ≡ get_or beginnings count one →
    two ≡ get_or beginnings (count + 1) two → all ≡ writes_from 0 accesses → (one.changes ≤ two.changes) × (two.changes ≤ length all)
changes-bounds design plan before count through all accesses beginnings one two had low first second are =
    let here = begins-there design plan before through count accesses beginnings one had (omega (arith, low)) first in
    let there = begins-there design plan before through (count + 1) accesses beginnings two had (omega (arith, low)) second in
    let rise = cut-rises (length (window_events design plan before (before + count))) (length (window_events design plan before (before + (count + 1)))) accesses
    (events-within design plan before (before + count) (before + (count + 1)) (omega arith) (omega arith)) in
    let last = cut-rises (length (window_events design plan before (before + (count + 1)))) (length (window_events design plan before (before + (count + 1))) + length accesses) accesses (omega arith) in
    let whole = ap (λ (l : List (List ObjectAccess)). length (writes_from 0 l))
    (take_all (length (window_events design plan before (before + (count + 1))) + length accesses) accesses (omega arith)) in
    let same = ap (λ (l : List Written). length l) are in
    (omega (arith, here.changes, there.changes, rise), omega (arith, there.changes, last, whole, same))

-- and they are its writes
pub changes-told : (design : FlatDesign) (plan : TestPlan) (before count through : ℕ) (all : List Change) (accesses : List (List ObjectAccess)) (beginnings : List SlotBeginning)
    (one two : SlotBeginning) → AreBeginnings design plan before through accesses beginnings → before + count < through →
    AreListed (good_machine design) (window_events design plan before through) accesses → one ≡ get_or beginnings count one → two ≡ get_or beginnings (count + 1) two →
    map written_of all ≡ writes_from 0 accesses →
    AreWritesOf (good_machine design) (window_events design plan (before + count) (before + count + 1)) (length (window_events design plan before (before + count)))
    (map written_of (between one.changes two.changes all))
changes-told design plan before count through all accesses beginnings one two had low listed first second writes =
    writes-in design plan before (before + count) through one.changes two.changes (length (window_events design plan before (before + count))) all accesses (omega arith) (omega (arith, low)) listed
    writes (begins-there design plan before through count accesses beginnings one had (omega (arith, low)) first).changes
    ((begins-there design plan before through (count + 1) accesses beginnings two had (omega (arith, low)) second).changes
    ∙ (let e : before + (count + 1) ≡ before + count + 1 = omega arith in
    ap (λ n. length (writes_from 0 (take (length (window_events design plan before n)) accesses))) e)) refl
