use Rattle.std.proofs.Common.{◌≡◌, ◌<◌, ℕ, false}
use Rattle.net_settle.specs.Marked.{marked_at}
use Rattle.net_state.proofs.objects.Objects.unmark_all.Given as goal

abbrev pub invariant-nodes : goal.invariant-nodes
invariant-nodes l = record {
  belongs : l.self.settle.graph.now ≡ l.initial.self.settle.graph.now;
  values : l.self.values.items ≡ l.initial.self.values.items;
  none : (k : ℕ) → k < l.number → marked_at l.self.settle.marks.items k ≡ false;
}
