use Rattle.std.proofs.Common.{◌≡◌, ◌++◌, ℕ, List, map, take, vec_len}
use Rattle.v_design.specs.Logs.{changes_of}
use Rattle.v_design.specs.PlainDesigns.{design_of}
use Rattle.causal_monitor.specs.Notes.{noted_access}
use Rattle.causal_monitor.specs.Changes.{CountChanges}
use Rattle.causal_monitor.proofs.changes.count_event.Given as goal

abbrev pub invariant-accesses : goal.invariant-accesses
invariant-accesses l = record {
  same : vec_len l.counts ≡ vec_len l.initial.counts;
  counted : (changes : List ℕ) → CountChanges changes l.initial.counts.items → CountChanges
      (changes ++ changes_of (design_of l.design) (take l.noted-index (map noted_access l.accesses))) l.counts.items;
}
