-- The work on the least node leads to the next moment (IEEE 1364-2001, clause 5).
use Rattle.std.proofs.Common.{◌≡◌, ℕ, ◌+◌, ◌<◌, List, [], ◌∷◌, Bool, true, false, length, refl, subst, ◌∙◌, arith}
use Rattle.std.specs.Prelude.{Some, slice_get, is_some}
use Rattle.v_design.specs.PlainDesigns.{design_of}
use Rattle.v_design.specs.Designs.{Machine}
use Rattle.v_design.specs.States.{NodeState, Evaluation, NetUpdate}
use Rattle.v_design.specs.Runs.{work_of, least_work}
use Rattle.machine_laws.specs.SlotLoop.{present_phase, NodesGoOn, after_node}
use Rattle.slot_record.specs.SlotRecords.{one_more, node_more}
use Rattle.run_record.specs.RunRecords.{EventsNoteNothing}
use Rattle.net_state.specs.States.{nodes_in}
use Rattle.machine_events.specs.Parts.{Leads}
use Rattle.machine_events.specs.PartLaws.{node-there}
use Rattle.machine.specs.declared.parts.Machine.{Machine as Simulated}
use Rattle.machine.specs.Standing.{notes_runs}
use Rattle.machine.specs.Moments.{GoesOn}
use Rattle.machine.proofs.Moved.{amid-at, moved-amid, graph-of}
use Rattle.machine.proofs.Events.{node-comes, same-runs}

-- the least node with work is there
pub work-low : (start : ℕ) (xs : List NodeState) (n : ℕ) → work_of start xs ≡ Some (Evaluation n) → n < start + length xs
work-low start [] n e = cc
work-low start (x ∷ xs) n e = go x.marked (is_some x.pending) e (λ f. work-low (start + 1) xs n f)
  where
    go : (a b : Bool) → least_work start a b (work_of (start + 1) xs) ≡ Some (Evaluation n) → (work_of (start + 1) xs ≡ Some (Evaluation n) → n < start + 1 + length xs) → n < start + length (x ∷ xs)
    go true b f rest = let z : start ≡ n = cc in omega (arith, z)
    go false true f rest = cc
    go false false f rest = omega (arith, rest f)

-- the work leads to the next moment
pub node-goes : NodesGoOn → EventsNoteNothing → (old new : Simulated) (node : ℕ) → work_of 0 (nodes_in old.nets) ≡ Some (Evaluation node) →
    Leads (node_more node) old.nets new.nets old.table new.table old.record new.record → design_of new.graph.now.design.now ≡ design_of old.graph.now.design.now →
    new.runs ≡ old.runs → notes_runs new ≡ notes_runs old → GoesOn (λ machine at. after_node machine node at) old new
node-goes law quiet old new node work goes graph runs notes = record {
  notes_are = notes;
  leads = λ machine first at log is few.
      let there = node-there old.nets node (omega (arith, work-low 0 (nodes_in old.nets) node work)) in
      moved-amid machine first (after_node machine node at) new log
      (node-comes law machine first at old log node there.0 is few (subst (λ (k : Machine). slice_get k.design.nodes node ≡ Some there.0) is.machine_is there.1) work)
      (goes machine first at.ended (present_phase at) log (amid-at machine first at old log is)) (graph ∙ graph-of machine first at old log is) is.in_time is.writes
      (same-runs quiet machine at.ended (one_more (Evaluation node) (present_phase at)) (NetUpdate node) old.runs new.runs old.noting new.noting refl runs notes
      (same-runs quiet machine at.ended (present_phase at) (Evaluation node) old.runs old.runs old.noting old.noting refl refl refl is.runs));
}
