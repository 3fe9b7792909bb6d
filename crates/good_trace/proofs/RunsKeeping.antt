-- The runs that a trace keeps as slots are pushed and windows are closed.
use Rattle.std.proofs.Common.{◌≡◌, ℕ, suc, ◌+◌, ◌-◌, ◌<◌, ◌≤◌, ◌^◌, List, [], ◌∷◌, ◌++◌, map, length, refl, sym, ap, subst, ◌∙◌, inl, inr, arith, length-append}
use Rattle.std.specs.Prelude.{All, Some, false, option_map, slice_get}
use Rattle.std.proofs.lemmas.Option.{slice_get_cases, slice_get_within, slice_get-map}
use Rattle.v_design.specs.Designs.{FlatDesign, FlatProcess, Machine, TestPlan, good_machine}
use Rattle.v_design.specs.Plain.{process_of}
use Rattle.v_design.specs.Processes.{Ready, opened}
use Rattle.v_design.specs.States.{ProcessState, found_or, idle_process}
use Rattle.v_design.specs.Runs.{is_hyper}
use Rattle.v_design.specs.WellFormed.{KeepsRules}
use Rattle.v_design.specs.Grades.{Phase, phases}
use Rattle.causal_monitor.specs.declared.slot.SlotLog.{SlotLog}
use Rattle.process_code.specs.Codes.{rests_in_code}
use Rattle.process_code.specs.Points.{activity_at}
use Rattle.process_code.specs.declared.code.Code.{Code}
use Rattle.process_code.specs.declared.state.ProcState.{ProcState}
use Rattle.process_code.specs.declared.state.RunEnd.{RunEnd}
use Rattle.slot_record.specs.SlotLogs.{logged_phases}
use Rattle.copy_laws.specs.Windows.{good_slots}
use Rattle.run_ends.specs.RunEnds.{AreCodesOf, AreRunEnds}
use Rattle.between_slots.specs.Between.{activity_through, activity_after_runs, runs_in, window_phases, RunsLead}
use Rattle.between_slots.specs.Updates.{AreFew}
use Rattle.between_slots.specs.WindowLaws.{window_phases-none, window_phases-more}
use Rattle.window_runs.specs.RunLaws.{EndsJoin, EndsStand, EndsLead}
use Rattle.window_runs.specs.RunsByProcess.{run_phase, numbered_from}
use Rattle.window_runs.specs.Standing.{AreStatesAfter}
use Rattle.good_trace.specs.Beginnings.{IsTimeAt, AreTimes}
use Rattle.good_trace.specs.RunsKept.{AreStatesAt, AreRunsKept}
use Rattle.good_trace.specs.Slots.{IsSlotAt}
use Rattle.good_trace.specs.Starting.{AreFirstStates}

-- The start

-- where the processes stand before the first slot
pub AreStatesAt-start : (codes : List Code) (design : FlatDesign) (plan : TestPlan) (states : List ProcState) → AreCodesOf design codes → AreFirstStates codes states →
    AreStatesAt codes design plan 0 states
AreStatesAt-start codes design plan states are first = record {
  count = first.count ∙ are.count;
  state_of = λ process state code here is. (first.each process code state is here).state_of;
  does = λ process state code here is. (first.each process code state is here).does ∙ sym (at process code is);
}
  where
    begun : FlatProcess → ProcessState
    begun process = record { activity = Ready (opened process.body []) []; later = []; lane = [] }

    at : (process : ℕ) (code : Code) → slice_get codes process ≡ Some code → activity_through design plan 0 process ≡ Ready (opened (process_of code.process.now).body []) []
    at process code is =
        ap (λ o. (found_or idle_process o).activity)
        (slice_get-map (λ (p : FlatProcess). record { activity = Ready (opened p.body []) []; later = []; lane = [] }) design.processes process
        ∙ ap (option_map (λ (p : FlatProcess). record { activity = Ready (opened p.body []) []; later = []; lane = [] })) (are.each process code is).process_is)

-- of no phases
no-ends : (codes : List Code) (machine : Machine) → AreRunEnds codes machine [] []
no-ends codes machine = record { within = λ k d low. absurd (omega arith); order = refl; told = λ number process phase code here is. cc }

pub AreRunsKept-none : (codes : List Code) (design : FlatDesign) (plan : TestPlan) (number : ℕ) (states : List ProcState) → AreCodesOf design codes → AreStatesAt codes design plan number states →
    AreRunsKept codes design plan number number 0 states []
AreRunsKept-none codes design plan number states are stand = record {
  codes_are = are;
  phase_count = sym (ap (λ (l : List Phase). length l) (window_phases-none design plan number));
  states_are = stand;
  runs_are = subst (λ l. AreRunEnds codes (good_machine design) l []) (sym (window_phases-none design plan number)) (no-ends codes (good_machine design));
}

-- A slot more

logged-count : (machine : Machine) (number : ℕ) (list : List Phase) → length (logged_phases machine number list) ≡ length list
logged-count machine number [] = refl
logged-count machine number (phase ∷ list) = let e : length (logged_phases machine (number + 1) list) ≡ length list = logged-count machine (number + 1) list in omega arith

-- a log has as many phases as its slot
pub log-count : (codes : List Code) (design : FlatDesign) (plan : TestPlan) (pushed : ℕ) (log : SlotLog) (runs : List RunEnd) → (is : IsSlotAt codes design plan pushed log runs) →
    length log.phases ≡ length (phases (good_machine design) is.slot)
log-count codes design plan pushed log runs is = ap length is.logged.phases_are ∙ logged-count (good_machine design) 1 (phases (good_machine design) is.slot)

-- its phases can be numbered on
pub numbers-fit : (codes : List Code) (design : FlatDesign) (plan : TestPlan) (pushed before count : ℕ) (log : SlotLog) (runs : List RunEnd) → IsSlotAt codes design plan pushed log runs →
    count ≡ before + length log.phases → count < 2 ^ 32 → All (λ (run : RunEnd). run_phase run + before < 2 ^ 32) runs
numbers-fit codes design plan pushed before count log runs is more fits k d low =
    let last = (is.runs_are.within k d low).last in
    let long = log-count codes design plan pushed log runs is in
    omega (arith, last, long, more, fits)

pub AreRunsKept-more : EndsJoin → (codes : List Code) (design : FlatDesign) (plan : TestPlan) (pushed closed before count : ℕ) (states : List ProcState) (runs more items : List RunEnd)
    (log : SlotLog) →
    AreRunsKept codes design plan pushed closed before states runs → IsSlotAt codes design plan pushed log more → closed ≤ pushed → count ≡ before + length log.phases →
    items ≡ runs ++ map (numbered_from before) more → AreRunsKept codes design plan (pushed + 1) closed count states items
AreRunsKept-more join codes design plan pushed closed before count states runs more items log had is low counted grown = record {
  codes_are = had.codes_are;
  phase_count =
      let long = length-append (window_phases design plan closed pushed) (phases (good_machine design) is.slot) in
      let all : length (window_phases design plan closed (pushed + 1)) ≡ length (window_phases design plan closed pushed ++ phases (good_machine design) is.slot) =
      ap (λ (l : List Phase). length l) wider in
      let own = log-count codes design plan pushed log more is in
      omega (arith, had.phase_count, counted, long, all, own);
  states_are = had.states_are;
  runs_are =
      subst (AreRunEnds codes (good_machine design) (window_phases design plan closed (pushed + 1))) (sym grown)
      (subst (λ l. AreRunEnds codes (good_machine design) l (runs ++ map (numbered_from before) more)) (sym wider)
      (subst (λ n. AreRunEnds codes (good_machine design) (window_phases design plan closed pushed ++ phases (good_machine design) is.slot) (runs ++ map (numbered_from n) more)) (sym had.phase_count)
      (join codes (good_machine design) (window_phases design plan closed pushed) (phases (good_machine design) is.slot) runs more had.runs_are is.runs_are)));
}
  where
    wider : window_phases design plan closed (pushed + 1) ≡ window_phases design plan closed pushed ++ phases (good_machine design) is.slot
    wider = (let e : pushed + 1 ≡ suc pushed = omega arith in ap (λ n. window_phases design plan closed n) e) ∙ window_phases-more design plan closed pushed is.slot low is.stands

-- A window more

-- none of some slots of a window is hyperactive
pub few-from : (design : FlatDesign) (plan : TestPlan) (before ends through : ℕ) (times : List ℕ) → AreTimes design plan before through times → ends ≤ through → AreFew design plan before ends
few-from design plan before ends through times are fits number slot low high here =
    elim (slice_get_cases times (number - before)).1 [
      | inl found ↦ at found.0 (are.each (number - before) found.0 found.2)
      | inr past ↦ absurd (omega (arith, past.0, fits, low, high, are.held))
    ]
  where
    at : (time : ℕ) → IsTimeAt design plan (before + (number - before)) time → is_hyper slot ≡ false
    at time own =
        let there : slice_get (good_slots design plan) number ≡ Some own.slot = (let e : number ≡ before + (number - before) = omega (arith, low) in ap (λ n. slice_get (good_slots design plan) n) e)
        ∙ own.stands in
        let same : Some slot ≡ Some own.slot = sym here ∙ there in
        let one : slot ≡ own.slot = cc in
        ap is_hyper one ∙ own.few_steps

-- where the processes stand after it
pub AreStatesAt-closed : RunsLead → EndsStand → EndsLead → (codes : List Code) (design : FlatDesign) (plan : TestPlan) (pushed closed before : ℕ) (times : List ℕ) (states later : List ProcState)
    (runs : List RunEnd) → KeepsRules design → AreTimes design plan closed pushed times → AreRunsKept codes design plan pushed closed before states runs → closed ≤ pushed →
    pushed ≤ length (good_slots design plan) → AreStatesAfter states runs later → AreStatesAt codes design plan pushed later
AreStatesAt-closed lead stand does codes design plan pushed closed before times states later runs rules timed kept low fits after = record {
  count = after.count ∙ kept.states_are.count;
  state_of = λ process own code here is. elim (slice_get_cases states process).1 [
    | inl found ↦
        (after.each process found.0 own found.2 here).state_of code
        (stand codes (good_machine design) (window_phases design plan closed pushed) runs process code found.0 kept.runs_are is (kept.states_are.state_of process found.0 code found.2 is))
    | inr past ↦ let within = slice_get_within later process own here in absurd (omega (arith, past.0, after.count))
  ];
  does = λ process own code here is. elim (slice_get_cases states process).1 [
    | inl found ↦
        ap (activity_at (rests_in_code code)) (after.each process found.0 own found.2 here).point
        ∙ does codes (good_machine design) (window_phases design plan closed pushed) runs process code found.0 kept.runs_are is
        ∙ ap (λ a. activity_after_runs a (runs_in (good_machine design) process (window_phases design plan closed pushed))) (kept.states_are.does process found.0 code found.2 is)
        ∙ sym (lead design plan closed pushed process rules low fits (few-from design plan closed pushed pushed times timed (omega arith)))
    | inr past ↦ let within = slice_get_within later process own here in absurd (omega (arith, past.0, after.count))
  ];
}
