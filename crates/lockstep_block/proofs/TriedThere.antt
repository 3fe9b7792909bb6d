-- The own steps of a block are own steps of its slot, also where it is given up.
use Rattle.std.proofs.Common.{◌≡◌, ℕ, zero, suc, ◌+◌, ◌<◌, ◌≤◌, List, [], ◌∷◌, ◌++◌, length, refl, sym, ap, subst, ◌∙◌, ◌⊎◌, inl, inr, append_assoc, append-nil, arith}
use Rattle.std.specs.Prelude.{Some, slice_get, sum_by}
use Rattle.std.proofs.lemmas.Bool.{cases_lt}
use Rattle.std.proofs.lemmas.List.Sums.{sum_by-cons}
use Rattle.vf_base.specs.Base.{process_number}
use Rattle.v_design.specs.Designs.{Machine}
use Rattle.v_design.specs.Grades.{Phase}
use Rattle.v_design.specs.OwnSteps.{ProcessRun, good_runs}
use Rattle.v_design.specs.Runs.{most_steps}
use Rattle.v_design.specs.States.{State, Event, Step}
use Rattle.v_design.specs.WellFormed.{KeepsRules}
use Rattle.machine_laws.specs.SlotLoop.{Moment, ComesTo, EventsGoOn, after_event, after_events, steps_of}
use Rattle.copy_laws.specs.Beside.{AreFirst}
use Rattle.good_runs.specs.Kept.{Keeps}
use Rattle.good_runs.specs.declared.tried.TriedStep.{TriedStep}
use Rattle.own_slots.specs.Slots.{OwnSoFar, TriedStepsGoOn, WereTried}

-- where no step is left none is kept
none-kept : (goods : ℕ → List ProcessRun) (numbers : ℕ → ℕ) (machine : Machine) (phase : ℕ) (begins : State) (before events : List Event) (tried : List TriedStep) → sum_by steps_of events ≡ 0 →
    Keeps goods numbers machine phase begins before events tried → tried ≡ []
none-kept goods numbers machine phase begins before [] [] none keeps = refl
none-kept goods numbers machine phase begins before [] (step ∷ tried) none keeps = absurd keeps
none-kept goods numbers machine phase begins before (event ∷ events) [] none keeps = refl
none-kept goods numbers machine phase begins before (event ∷ events) (step ∷ tried) none (inl keeps) =
    let sum = sum_by-cons steps_of event events in
    none-kept goods numbers machine phase begins (before ++ event ∷ []) events (step ∷ tried) (omega (arith, none, sum)) keeps
none-kept goods numbers machine phase begins before (event ∷ events) (step ∷ tried) none (inr keeps) =
    let sum = sum_by-cons steps_of event events in
    let one : steps_of event ≡ 1 = ap steps_of keeps.0 in
    absurd (omega (arith, none, sum, one))

module _ (good machine : Machine) (others : List Phase) (rules : KeepsRules machine.design) (go : EventsGoOn) (law : TriedStepsGoOn) where
  -- the good runs of the phase that a moment is in
  abbrev pub goods_at : Moment → ℕ → List ProcessRun
  goods_at at process = good_runs good process at.turn (slice_get others (length at.ended))

  -- events of the first order, of which one step at most comes beyond those that a slot may have
  pub kept-to : (at : Moment) (events : List Event) (tried more : List TriedStep) → ComesTo machine at → AreFirst machine at.state events → at.steps + sum_by steps_of events ≤ most_steps + 1 →
      OwnSoFar good machine others at tried → Keeps (goods_at at) (λ process. 0) machine (length at.ended) at.phase_begins at.events events more → WereTried good machine others at.begins (tried ++ more)
  kept-to at [] tried [] comes first few so_far keeps =
      record { to = at; comes = comes; begins_is = refl; own = subst (OwnSoFar good machine others at) (sym (append-nil tried)) so_far }
  kept-to at [] tried (step ∷ more) comes first few so_far keeps = absurd keeps
  kept-to at (event ∷ events) tried more comes first few so_far keeps =
      by (cases_lt at.steps (most_steps + 1)) more keeps
      (λ low front rest kept left. kept-to (after_event machine event at) events front rest (go machine at event rules comes (omega (arith, low)) first.0) first.1 (omega (arith, few, sum)) kept left)
    where
      sum : sum_by steps_of (event ∷ events) ≡ steps_of event + sum_by steps_of events
      sum = sum_by-cons steps_of event events

      by : (at.steps < most_steps + 1) ⊎ (most_steps + 1 ≤ at.steps) → (more : List TriedStep) →
          Keeps (goods_at at) (λ process. 0) machine (length at.ended) at.phase_begins at.events (event ∷ events) more →
          (at.steps < most_steps + 1 → (front rest : List TriedStep) → OwnSoFar good machine others (after_event machine event at) front →
          Keeps (goods_at at) (λ process. 0) machine (length at.ended) at.phase_begins (at.events ++ event ∷ []) events rest → WereTried good machine others at.begins (front ++ rest)) →
          WereTried good machine others at.begins (tried ++ more)
      by (inl low) [] keeps again = again low tried [] (law.passes good machine others at (event ∷ []) tried so_far) keeps
      by (inl low) (step ∷ more) (inl keeps) again = again low tried (step ∷ more) (law.passes good machine others at (event ∷ []) tried so_far) keeps
      by (inl low) (step ∷ more) (inr keeps) again =
          subst (WereTried good machine others at.begins) (append_assoc tried (step ∷ []) more)
          (again low (tried ++ step ∷ []) more (law.goes good machine others at (event ∷ []) tried (step ∷ []) so_far (inr (keeps.0, keeps.1, tt))) keeps.2)
      by (inr past) more keeps again =
          let none : more ≡ [] = none-kept (goods_at at) (λ process. 0) machine (length at.ended) at.phase_begins at.events (event ∷ events) more (omega (arith, few, past)) keeps in
          record {
            to = at;
            comes = comes;
            begins_is = refl;
            own = subst (λ (l : List TriedStep). OwnSoFar good machine others at (tried ++ l)) (sym none) (subst (OwnSoFar good machine others at) (sym (append-nil tried)) so_far);
          }
