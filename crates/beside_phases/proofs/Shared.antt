-- In a stretch that touches no own value each process takes the same steps in both machines.
use Rattle.std.proofs.Common.{◌≡◌, ℕ, Bool, true, false, List, [], ◌∷◌, ◌++◌, nat_eq, refl, sym, ap, subst, ◌∙◌}
use Rattle.std.specs.Prelude.{Option, Some, None, is_some}
use Rattle.std.specs.Option.{option_map}
use Rattle.std.proofs.lemmas.Bool.{eqb-true}
use Rattle.four_value.specs.Values.{LogicValue}
use Rattle.vf_base.specs.Lists.{AllHold}
use Rattle.v_design.specs.Assignments.{value_at}
use Rattle.v_design.specs.Designs.{FlatDesign, Machine, StuckAt, good_machine, faulty_machine}
use Rattle.v_design.specs.OwnSteps.{StepSeen, seen_if, seen_step, steps_in, value_read}
use Rattle.v_design.specs.PhaseLogs.{is_step_of}
use Rattle.v_design.specs.Processes.{Activity, Action, ReadsObject, WritesObject, AppendsUpdate, TouchesNothing, ProcessStep}
use Rattle.v_design.specs.States.{State, ProcessState, Event, Step, LaneStep, Evaluation, NetUpdate, after, found_or, process_at, step_of}
use Rattle.v_design.specs.WellFormed.{KeepsRules}
use Rattle.copy_laws.specs.Beside.{AreFirst}
use Rattle.copy_laws.specs.Touches.{ActionIsFree}
use Rattle.copy_laws.proofs.UntouchedEvents.{step_of-alike}
use Rattle.lockstep_index.specs.Alone.{apart_values}
use Rattle.lockstep_index.specs.Writes.{ActsElsewhere, OwnWrites, WritesPass, with_writes, within_writes}
use Rattle.lockstep_laws.specs.Lockstep.{AreInLockstep}
use Rattle.lockstep_laws.specs.Passing.{AreFree}
use Rattle.lockstep_laws.specs.Phases.{IsInPhase}
use Rattle.order_laws.proofs.ToFront.{happened-append}

-- an object without an own value
same-value : (found : Option LogicValue) (good faulty : LogicValue) → is_some found ≡ false → faulty ≡ found_or good found → good ≡ faulty
same-value None good faulty none is = sym is
same-value (Some own) good faulty none is = (let no : ⊥ = cc in absurd no)

-- a process without own updates
same-process : (found : Option OwnWrites) (good faulty : ProcessState) → found ≡ None → faulty ≡ found_or good (option_map (λ (own : OwnWrites). with_writes (Some own) good) found) → good ≡ faulty
same-process None good faulty none is = sym is
same-process (Some own) good faulty none is = (let no : ⊥ = cc in absurd no)

module _ (design : FlatDesign) (fault : StuckAt) (values : ℕ → Option LogicValue) (writes : ℕ → Option OwnWrites) where
  abbrev good_of : Machine
  good_of = good_machine design

  abbrev faulty_of : Machine
  faulty_of = faulty_machine design fault

  read-same : (good faulty : State) (action : Action) → AreInLockstep (within_writes values writes good) good faulty →
      ActionIsFree design fault (apart_values values) good good action → value_read good action ≡ value_read faulty action
  read-same good faulty (ReadsObject object) lockstep free =
      ap Some (same-value (values object) (value_at good.values object) (value_at faulty.values object) free (lockstep.within.values object))
  read-same good faulty (WritesObject update) lockstep free = refl
  read-same good faulty (AppendsUpdate delay update) lockstep free = refl
  read-same good faulty TouchesNothing lockstep free = refl

  -- what is seen of a step
  seen-same : (good faulty : State) (p : ℕ) → AreInLockstep (within_writes values writes good) good faulty →
      ActionIsFree design fault (apart_values values) good good (step_of good_of good p).action → writes p ≡ None →
      ◌≡◌ {A = Activity × StepSeen} ((process_at good p).activity, seen_step good_of good p) ((process_at faulty p).activity, seen_step faulty_of faulty p)
  seen-same good faulty p lockstep free none =
      let process : process_at good p ≡ process_at faulty p = same-process (writes p) (process_at good p) (process_at faulty p) none (lockstep.within.processes p) in
      let step : step_of good_of good p ≡ step_of faulty_of faulty p = step_of-alike design fault good faulty p lockstep.time (ap (λ (s : ProcessState). s.activity) process) in
      let read : value_read good (step_of good_of good p).action ≡ value_read faulty (step_of faulty_of faulty p).action =
      read-same good faulty (step_of good_of good p).action lockstep free ∙ ap (λ (s : ProcessStep). value_read faulty s.action) step in
      λ i. ((process i).activity, record { step = step i; read = read i })

  one-same : (good faulty : State) (event : Event) (p : ℕ) (rest : List (Activity × StepSeen)) → AreInLockstep (within_writes values writes good) good faulty →
      AreFree design fault (apart_values values) good (event ∷ []) → ActsElsewhere writes event →
      seen_if (is_step_of p event) ((process_at good p).activity, seen_step good_of good p) rest
      ≡ seen_if (is_step_of p event) ((process_at faulty p).activity, seen_step faulty_of faulty p) rest
  one-same good faulty (Step q) p rest lockstep free none = go (nat_eq p q) refl
    where
      go : (c : Bool) → nat_eq p q ≡ c →
          seen_if c ((process_at good p).activity, seen_step good_of good p) rest ≡ seen_if c ((process_at faulty p).activity, seen_step faulty_of faulty p) rest
      go false e = refl
      go true e =
          let same : q ≡ p = sym (eqb-true p q e) in
          ap (λ (seen : Activity × StepSeen). seen ∷ rest)
          (seen-same good faulty p lockstep (subst (λ x. ActionIsFree design fault (apart_values values) good good (step_of good_of good x).action) same free.0.1)
          (subst (λ x. writes x ≡ None) same none))
  one-same good faulty (LaneStep q) p rest lockstep free none = refl
  one-same good faulty (Evaluation number) p rest lockstep free none = refl
  one-same good faulty (NetUpdate number) p rest lockstep free none = refl

  -- an event more in a phase
  in-phase-on : (machine : Machine) (state : State) (event : Event) → IsInPhase machine state → IsInPhase machine (after machine state event)
  in-phase-on machine state event here = record {
    begins = here.begins;
    events = here.events ++ event ∷ [];
    asked = here.asked;
    is = ap (λ (s : State). after machine s event) here.is ∙ sym (happened-append machine here.begins here.events (event ∷ []));
  }

  pub steps-same : WritesPass → KeepsRules design → (good faulty : State) (events : List Event) → AreInLockstep (within_writes values writes good) good faulty → IsInPhase good_of good →
      IsInPhase faulty_of faulty → AreFirst good_of good events → AreFree design fault (apart_values values) good events → AllHold (ActsElsewhere writes) events → (p : ℕ) →
      steps_in good_of p good events ≡ steps_in faulty_of p faulty events
  steps-same pass rules good faulty [] lockstep good_in own_in first free acts p = refl
  steps-same pass rules good faulty (event ∷ events) lockstep good_in own_in first free acts p =
      let on = pass design fault values writes good faulty (event ∷ []) rules lockstep good_in own_in (first.0, tt) (free.0, tt) (acts.0, tt) in
      one-same good faulty event p (steps_in good_of p (after good_of good event) events) lockstep (free.0, tt) acts.0
      ∙ ap (seen_if (is_step_of p event) ((process_at faulty p).activity, seen_step faulty_of faulty p))
      (steps-same pass rules (after good_of good event) (after faulty_of faulty event) events on.lockstep (in-phase-on good_of good event good_in) (in-phase-on faulty_of faulty event
      own_in) first.1 free.1
      acts.1 p)
