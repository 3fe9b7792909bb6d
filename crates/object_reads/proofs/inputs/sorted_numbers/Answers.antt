use Rattle.std.proofs.Common.{ℕ, ◌∙◌, ap}
use Rattle.std.proofs.lemmas.List.Sorted.{IsNonDecreasingBy-from_sort}
use Rattle.vf_base.specs.Lists.{has}
use Rattle.object_reads.proofs.Ascents.{has-either-order}
use Rattle.object_reads.proofs.inputs.sorted_numbers.Goals as goal

pub returns-clause-same : goal.returns-clause-same
returns-clause-same c n =
    has-either-order c.in_ok-numbers.numbers.items c.sort_unstable.new.self.items n c.sort_unstable.ensures.permutation ∙ ap (λ l. has l n) c.in_ok-numbers.ensures

pub returns-clause-climbs : goal.returns-clause-climbs
returns-clause-climbs c = IsNonDecreasingBy-from_sort (λ (x : ℕ). x) c.sort_unstable.new.self.items c.sort_unstable.ensures.sorted
