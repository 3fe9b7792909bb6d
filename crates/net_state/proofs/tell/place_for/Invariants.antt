use Rattle.std.proofs.Common.{ℕ, ◌+◌, ◌<◌, ◌≤◌, get_or}
use Rattle.vf_base.specs.Base.{object_number}
use Rattle.value_change.specs.declared.change.Change.{Change}
use Rattle.net_state.proofs.tell.place_for.Given as goal

abbrev pub invariant-back : goal.invariant-back
invariant-back l = (k : ℕ) (d : Change) → l.count ≤ k + l.back → k < l.count → object_number l.object < object_number (get_or l.changes k d).object
