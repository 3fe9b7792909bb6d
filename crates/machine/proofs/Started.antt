-- A machine at the start of its run (IEEE 1364-2001, clause 5).
use Rattle.std.proofs.Common.{◌≡◌, [], true, false, sym, ap, subst, ◌∙◌}
use Rattle.std.specs.Prelude.{Some}
use Rattle.v_design.specs.PlainDesigns.{design_of}
use Rattle.v_design.specs.Designs.{Machine}
use Rattle.v_design.specs.States.{start}
use Rattle.v_design.specs.Laws.{BeginsPhase, PhasesBegin}
use Rattle.event_causes.specs.Causes.{AreCausesOf}
use Rattle.process_table.specs.Arranged.{IsKept}
use Rattle.machine.specs.declared.parts.Stage.TheVariants.{Start, Between}
use Rattle.machine.specs.declared.parts.Machine.{Machine as Simulated}
use Rattle.machine.specs.Standing.{machine_kept, state_kept, begins_at, begins_next, notes_runs, BeginsInFirstRun, IsStanding}
use Rattle.machine_events.specs.Parts.{AreBothOf}
use Rattle.machine.proofs.Moved.{state-of, rules-of}
use Rattle.order_laws.specs.FirstRuns.{FirstRunsGoOn}
use Rattle.machine.proofs.Beginnings.{some-state}
use Rattle.machine.proofs.InRun.{start-in-run}

-- the first slot begins with the start
pub start-next : (machine : Machine) (m : Simulated) → AreBothOf machine (start machine) m.nets m.table → m.stage ≡ Start → begins_next m ≡ Some (start machine)
start-next machine m both stage = ap (λ g. begins_at g (state_kept m)) stage ∙ ap Some (state-of machine (start machine) m both)

start-begins : PhasesBegin → (machine : Machine) (m : Simulated) → AreBothOf machine (start machine) m.nets m.table → BeginsPhase (machine_kept m) (state_kept m)
start-begins law machine m both =
    subst (λ s. BeginsPhase (machine_kept m) s) (sym (state-of machine (start machine) m both))
    (subst (λ k. BeginsPhase (machine_kept m) (start k)) both.machine_is (law.first (machine_kept m) (rules-of m)))

-- the machine stands before its first slot
pub start-stands : PhasesBegin → FirstRunsGoOn → (machine : Machine) (m : Simulated) → AreBothOf machine (start machine) m.nets m.table → m.stage ≡ Start → IsKept m.table →
    design_of m.graph.now.design.now ≡ machine.design →
    AreCausesOf (machine_kept m) [] m.record.phase.causes → notes_runs m ≡ false → IsStanding m
start-stands law follows machine m both stage kept graph causes off = record {
  table = kept;
  design = both.table_is.design ∙ sym (ap (λ (k : Machine). k.design) both.machine_is);
  graph = graph ∙ sym (ap (λ (k : Machine). k.design) both.machine_is);
  values = m.nets.objects.are.count;
  earlier = [];
  causes = causes;
  quiet = λ between. absurd (let no : Start ≡ Between = sym stage ∙ between in cc);
  nodes = λ between. absurd (let no : Start ≡ Between = sym stage ∙ between in cc);
  no_turn = λ between. absurd (let no : Start ≡ Between = sym stage ∙ between in cc);
  begins = λ begins next.
      subst (BeginsPhase (machine_kept m)) (some-state (state_kept m) begins (sym (ap (λ g. begins_at g (state_kept m)) stage) ∙ next)) (start-begins law machine m both);
  reached = λ begins next.
      subst (BeginsInFirstRun (machine_kept m)) (some-state (start (machine_kept m)) begins
      (sym (start-next (machine_kept m) m (subst (λ k. AreBothOf k (start k) m.nets m.table) (sym both.machine_is) both) stage) ∙ next))
      (start-in-run follows (machine_kept m) (rules-of m));
  rests = λ begins next on. absurd (let no : true ≡ false = sym on ∙ off in cc);
}
