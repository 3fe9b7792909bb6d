use Rattle.std.proofs.Common.{map, ℕ}
use Rattle.std.proofs.lemmas.List.Sorted.{IsNonDecreasingBy-from_sort}
use Rattle.value_change.specs.Changes.{change_seen}
use Rattle.process_table.proofs.Candidates.{waiters-permuted, climbs-sorted}
use Rattle.process_table.proofs.wakes.list_candidates.Goals as goal

pub returns-clause-waiters : goal.returns-clause-waiters
returns-clause-waiters c =
    waiters-permuted c.args.index.now (map change_seen c.args.changes.now) c.list_waiters.new.candidates.items c.sort_unstable.new.self.items c.sort_unstable.ensures.permutation
    c.in_ok-list_waiters.ensures

pub returns-clause-climbs : goal.returns-clause-climbs
returns-clause-climbs c = climbs-sorted c.sort_unstable.new.self.items (IsNonDecreasingBy-from_sort (λ (x : ℕ). x) c.sort_unstable.new.self.items c.sort_unstable.ensures.sorted)
