-- So far nothing is known of the first ones.
use Rattle.next_touches.proofs.Known.{AreForgotten}
use Rattle.next_touches.proofs.table.forget.Given as goal

abbrev pub invariant-stretches : goal.invariant-stretches
invariant-stretches l = AreForgotten l.place l.initial.stretches.items l.stretches.items
