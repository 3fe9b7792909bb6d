-- A machine that is put into a state of its first run stands there (slots by IEEE 1364-2001, clause 5).
use Rattle.std.proofs.Common.{◌≡◌, ℕ, ◌≤◌, refl, sym, ap, subst, ◌∙◌, arith}
use Rattle.std.specs.Prelude.{Option, Some, None}
use Rattle.std.specs.Option.{option_map}
use Rattle.std.proofs.lemmas.Bool.{le-leb}
use Rattle.v_design.specs.Designs.{FlatDesign, StuckAt, TestPlan, faulty_machine}
use Rattle.v_design.specs.States.{State, TurnKind, PostponedTurn, UpdatesTurn, TimeTurn, start, turn_of}
use Rattle.v_design.specs.Runs.{only_if, next_slot_at}
use Rattle.v_design.specs.WellFormed.{KeepsRules}
use Rattle.copy_laws.specs.Windows.{state_at}
use Rattle.grade_laws.specs.Ahead.{StopsAfter}
use Rattle.grade_laws.specs.Grading.{faulty_stop}
use Rattle.causal_monitor.specs.declared.slot.Turn.TheVariants.{Start}
use Rattle.machine.specs.Standing.{IsStanding, machine_kept, state_kept, begins_at, begins_next, begun_within, first_turn, slot_after}
use Rattle.machine.specs.declared.parts.Stage.{Stage}
use Rattle.machine.specs.declared.parts.Stage.TheVariants as at
use Rattle.machine.specs.declared.parts.Machine.{Machine as Simulated}
use Rattle.beside_laws.specs.Stands.{HasRun, RunsGoOn, RunsStand}
use Rattle.graded_steps.specs.Ahead.{SlotsAhead, RunsTakeSteps}
use Rattle.window_grade.specs.Running.{IsRunningAt}
use Rattle.window_grade.specs.Standing.{MachinesStand}

-- the slot to which a turn leads by an end
after-within : (end : ℕ) (state : State) (turn : Option TurnKind) → next_slot_at end state turn ≡ begun_within end (slot_after state turn)
after-within end state None = refl
after-within end state (Some PostponedTurn) = refl
after-within end state (Some UpdatesTurn) = refl
after-within end state (Some (TimeTurn time)) = refl

-- a machine at its start is in the state in which its first slot begins
at-start : (stage : Stage) (state begins : State) → first_turn stage ≡ Start → begins_at stage state ≡ Some begins → state ≡ begins
at-start at.Start state begins turn next = some-is state begins next
  where
    some-is : (one other : State) → Some one ≡ Some other → one ≡ other
    some-is one other e = cc
at-start at.Between state begins turn next = cc
at-start at.Over state begins turn next = cc

machine-begins : RunsGoOn → RunsTakeSteps → (design : FlatDesign) (plan : TestPlan) (fault : StuckAt) (m : Simulated) → KeepsRules design → machine_kept m ≡ faulty_machine design fault → IsStanding m →
    first_turn m.stage ≡ Start → begins_next m ≡ Some (start (faulty_machine design fault)) → IsRunningAt design plan fault None m
machine-begins law take design plan fault m rules same standing turn next =
    let machine = faulty_machine design fault in
    let state = at-start m.stage (state_kept m) (start machine) turn next in
    let within : begun_within plan.end (begins_next m) ≡ Some (start machine) = ap (begun_within plan.end) next ∙ ap (λ b. only_if b (start machine)) (le-leb 0 plan.end (omega arith)) in
    record {
      rules = rules;
      same_machine = same;
      standing = standing;
      stage = ap (option_map (λ (s : State). s.time)) next;
      ahead = subst (λ (n : Option State). SlotsAhead machine plan.end None n) (sym within) (take.begins machine plan.end rules);
      run =
          subst (λ (n : Option State). HasRun machine plan.end None n (state_kept m)) (sym within)
          (subst (λ (s : State). HasRun machine plan.end None (Some (start machine)) s) (sym state) (law.begins machine plan.end rules));
    }

machine-again : RunsStand → RunsTakeSteps → (design : FlatDesign) (plan : TestPlan) (fault : StuckAt) (time : ℕ) (m : Simulated) → KeepsRules design → time ≤ plan.end → StopsAfter time (faulty_stop design plan fault) →
    machine_kept m ≡ faulty_machine design fault → IsStanding m → state_kept m ≡ state_at (faulty_machine design fault) plan.end time → m.stage ≡ at.Between →
    begins_next m ≡ slot_after (state_kept m) (turn_of (state_kept m)) → IsRunningAt design plan fault (Some time) m
machine-again law take design plan fault time m rules low stops same standing state stage next =
    let machine = faulty_machine design fault in
    let here : HasRun machine plan.end (Some time) (next_slot_at plan.end (state_kept m) (turn_of (state_kept m))) (state_kept m) =
    subst (λ (s : State). HasRun machine plan.end (Some time) (next_slot_at plan.end s (turn_of s)) s) (sym state) (law.again machine plan.end time rules stops) in
    let left : SlotsAhead machine plan.end (Some time) (next_slot_at plan.end (state_kept m) (turn_of (state_kept m))) =
    subst (λ (s : State). SlotsAhead machine plan.end (Some time) (next_slot_at plan.end s (turn_of s))) (sym state) (take.again machine plan.end time rules low stops) in
    record {
      rules = rules;
      same_machine = same;
      standing = standing;
      stage = stage;
      ahead =
          subst (λ (n : Option State). SlotsAhead machine plan.end (Some time) n)
          (after-within plan.end (state_kept m) (turn_of (state_kept m)) ∙ ap (begun_within plan.end) (sym next)) left;
      run =
          subst (λ (n : Option State). HasRun machine plan.end (Some time) n (state_kept m))
          (after-within plan.end (state_kept m) (turn_of (state_kept m)) ∙ ap (begun_within plan.end) (sym next)) here;
    }

-- The laws

pub machines_stand : RunsGoOn → RunsStand → RunsTakeSteps → MachinesStand
machines_stand runs stand take = record { begins = machine-begins runs take; again = machine-again stand take }
