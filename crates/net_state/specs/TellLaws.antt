-- What the work on a node tells is all that it does besides (IEEE 1364-2001, clause 5).
use Rattle.std.proofs.Common.{◌≡◌, ℕ, zero, suc, ◌<◌, List, [], ◌∷◌, ◌++◌, map, length, not, refl, sym, ap, subst, ◌∙◌, arith}
use Rattle.std.specs.Prelude.{Some, slice_get}
use Rattle.std.proofs.lemmas.List.{length-map}
use Rattle.four_value.specs.Values.{same_value}
use Rattle.vf_base.specs.Lists.{has, joined, map_numbered}
use Rattle.v_design.specs.Designs.{FlatNode, Machine}
use Rattle.v_design.specs.Assignments.{value_at}
use Rattle.v_design.specs.States.{State, Evaluation, NetUpdate, after}
use Rattle.v_design.specs.Accesses.{accesses_of}
use Rattle.v_design.specs.PlainDesigns.{design_of}
use Rattle.v_design.specs.RulesHold.{rules_hold}
use Rattle.v_design.specs.WellFormed.{KeepsRules}
use Rattle.node_eval.specs.ValuesOf.{AreValuesOf}
use Rattle.value_change.specs.Changes.{ObjectChange, woken_by, ended_by_changes}
use Rattle.value_change.specs.ChangeLaws.{write_of_change, net_changes}
use Rattle.net_state.specs.declared.state.NetState.{NetState}
use Rattle.net_state.specs.Held.{node_marked}
use Rattle.net_state.specs.EventLaws.{worked-time, worked-processes, worked-accesses, worked-changes}
use Rattle.net_state.specs.States.{machine_in, values_in, nodes_in, AreNetsOf}

-- some changes are those of a node's work: by them alone processes are made ready, they give the accesses of the update, and nothing else changes
pub record WorkTells (machine : Machine) (state : State) (number : ℕ) (changes : List ObjectChange) : Type 0 where
  pub time : (after machine (after machine state (Evaluation number)) (NetUpdate number)).time ≡ state.time
  pub processes : (after machine (after machine state (Evaluation number)) (NetUpdate number)).processes ≡ map (woken_by changes) state.processes
  pub accesses : (process line : ℕ) → accesses_of machine process line (after machine state (Evaluation number)) (NetUpdate number)
      ≡ map (write_of_change process line) changes ++ joined (map_numbered (ended_by_changes changes) 0 state.processes)
  pub objects : (o : ℕ) → has (map (λ (change : ObjectChange). change.object) changes) o
      ≡ not (same_value (value_at state.values o) (value_at (after machine (after machine state (Evaluation number)) (NetUpdate number)).values o))

found-below : (nodes : List FlatNode) (k : ℕ) → k < length nodes → (node : FlatNode) × (slice_get nodes k ≡ Some node)
found-below [] k low = absurd (omega (arith, low))
found-below (node ∷ nodes) zero low = (node, refl)
found-below (node ∷ nodes) (suc k) low = found-below nodes k (omega (arith, low))

-- what `work` tells is that
pub work-tells : (nets new : NetState) (state : State) (number : ℕ) (changes : List ObjectChange) → AreNetsOf nets state → number < length (nodes_in nets) →
    AreNetsOf new (after (machine_in nets) (after (machine_in nets) state (Evaluation number)) (NetUpdate number)) →
    ((flat : FlatNode) → slice_get (machine_in nets).design.nodes number ≡ Some flat → changes ≡ net_changes (machine_in nets).design flat.outputs (values_in nets) (values_in new)) →
    WorkTells (machine_in nets) state number changes
work-tells nets new state number changes h low g tells =
    let found : (node : FlatNode) × (slice_get (machine_in nets).design.nodes number ≡ Some node) =
    found-below (machine_in nets).design.nodes number (omega (arith, low, length-map nets.objects.settle.marks.items node_marked, nets.objects.settle.sized)) in
    from-node nets new state number changes found.0 h (subst (λ ns. number < length ns) h.nodes low) g found.1 (tells found.0 found.1)
  where
    from-node : (nets new : NetState) (state : State) (number : ℕ) (changes : List ObjectChange) (node : FlatNode) → AreNetsOf nets state → number < length state.nodes →
        AreNetsOf new (after (machine_in nets) (after (machine_in nets) state (Evaluation number)) (NetUpdate number)) → slice_get (machine_in nets).design.nodes number ≡ Some node →
        changes ≡ net_changes (machine_in nets).design node.outputs (values_in nets) (values_in new) → WorkTells (machine_in nets) state number changes
    from-node nets new state number changes node h low g at is =
        let rules : KeepsRules (machine_in nets).design = rules_hold (design_of nets.objects.settle.graph.now.design.now) nets.objects.settle.graph.now.design.now.rules in
        let same : changes ≡ net_changes (machine_in nets).design node.outputs state.values (after (machine_in nets) (after (machine_in nets) state (Evaluation number)) (NetUpdate number)).values =
        is ∙ (λ j. net_changes (machine_in nets).design node.outputs (h.values j) (g.values j)) in
        record {
          time = worked-time (machine_in nets) number node state at low;
          processes = worked-processes (machine_in nets) number node state rules at low (subst (AreValuesOf (machine_in nets).design) h.values nets.objects.are)
              ∙ ap (λ cs. map (woken_by cs) state.processes) (sym same);
          accesses = λ process line.
              worked-accesses (machine_in nets) process line number node state rules at
              ∙ ap (λ cs. map (write_of_change process line) cs ++ joined (map_numbered (ended_by_changes cs) 0 state.processes)) (sym same);
          objects = λ o. ap (λ cs. has (map (λ (change : ObjectChange). change.object) cs) o) same ∙ worked-changes (machine_in nets) number node state o rules at low;
        }
