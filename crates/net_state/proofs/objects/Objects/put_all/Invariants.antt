use Rattle.std.proofs.Common.{◌≡◌, ℕ, false, map, take}
use Rattle.vf_base.specs.Base.{object_number}
use Rattle.vf_base.specs.Lists.{has}
use Rattle.v_design.specs.Designs.{Machine}
use Rattle.v_design.specs.Assignments.{value_at}
use Rattle.v_design.specs.States.{State, with_values}
use Rattle.v_design.specs.PlainDesigns.{design_of}
use Rattle.value_change.specs.Changes.{change_seen}
use Rattle.value_change.specs.ChangeLaws.{net_changes}
use Rattle.net_state.specs.Held.{Holds}
use Rattle.net_state.proofs.objects.Objects.put_all.Given as goal

abbrev pub invariant-outputs : goal.invariant-outputs
invariant-outputs l = record {
  belongs : l.self.settle.graph.now ≡ l.initial.self.settle.graph.now;
  changes : map change_seen l.changes.items ≡ net_changes (design_of l.initial.self.settle.graph.now.design.now)
      (take l.at (map object_number l.outputs)) l.initial.self.values.items l.self.values.items;
  others : (x : ℕ) → has (take l.at (map object_number l.outputs)) x ≡ false → value_at l.self.values.items x ≡ value_at l.initial.self.values.items x;
  holds : (machine : Machine) (state : State) → machine.design ≡ design_of l.initial.self.settle.graph.now.design.now → Holds l.initial.self state →
      Holds l.self (with_values machine (take l.at (map object_number l.outputs)) (take l.at l.values) state);
}
