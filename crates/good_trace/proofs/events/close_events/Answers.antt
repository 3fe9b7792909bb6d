use Rattle.std.proofs.Common.{◌≡◌, ℕ, ◌<◌, List, length, sym, ap, subst, ◌∙◌}
use Rattle.std.specs.Prelude.{All}
use Rattle.std.specs.List.Sorted.{IsNonDecreasingBy}
use Rattle.window_index.specs.declared.occurrence.Occurrence.{Occurrence}
use Rattle.window_index.specs.Moments.{moment_of, IsIndexOf}
use Rattle.trace_window.specs.Acted.{evaluations_from, steps_from}
use Rattle.trace_window.specs.BelowLaws.{below-low, below-ascend, index-below}
use Rattle.trace_window.specs.Occurring.{below}
use Rattle.trace_window.specs.Rising.{changes-ascend, all-touches-ascend, all-evaluations-ascend, all-steps-ascend}
use Rattle.trace_window.specs.Tables.{ChangesKept}
use Rattle.trace_window.specs.Touched.{touches_from}
use Rattle.good_trace.proofs.events.close_events.Goals as goal

-- what is below a count is so, ascends, and is as good as all
low-in : (count size : ℕ) (read list all : List Occurrence) → size ≡ count → read ≡ list → list ≡ below count all → All (λ (o : Occurrence). o.number < size) read
low-in count size read list all same reads is =
    subst (λ n. All (λ (o : Occurrence). o.number < n) read) (sym same) (subst (λ (l : List Occurrence). All (λ (o : Occurrence). o.number < count) l) (sym (reads ∙ is)) (below-low count all))

up-in : (count : ℕ) (read list all : List Occurrence) → read ≡ list → list ≡ below count all → IsNonDecreasingBy moment_of all → IsNonDecreasingBy moment_of read
up-in count read list all reads is up = subst (λ (l : List Occurrence). IsNonDecreasingBy moment_of l) (sym (reads ∙ is)) (below-ascend count all up)

index-in : (count size : ℕ) (read list all : List Occurrence) (index : List (List ℕ)) → size ≡ count → read ≡ list → list ≡ below count all → IsIndexOf size read index →
    IsIndexOf count all index
index-in count size read list all index same reads is had =
    index-below count all index (subst (λ (l : List Occurrence). IsIndexOf count l index) (reads ∙ is) (subst (λ n. IsIndexOf n read index) same had))

pub refill-requires-clause-numbers : goal.refill-requires-clause-numbers
refill-requires-clause-numbers c =
    low-in c.args.sizes.objects (length c.args.used.touches) c.deref.result.now c.args.list.now.touches.items (touches_from 0 c.requires.gathered.accesses) c.requires.sizes.touches
    c.deref.ensures.value c.requires.gathered.gathered.touches

pub refill-requires-clause-ascending : goal.refill-requires-clause-ascending
refill-requires-clause-ascending c =
    up-in c.args.sizes.objects c.deref.result.now c.args.list.now.touches.items (touches_from 0 c.requires.gathered.accesses) c.deref.ensures.value c.requires.gathered.gathered.touches
    (all-touches-ascend c.requires.gathered.accesses)

pub refill-requires-2-clause-numbers : goal.refill-requires-2-clause-numbers
refill-requires-2-clause-numbers c =
    low-in c.args.sizes.nodes (length c.args.used.evaluations) c.deref-2.result.now c.args.list.now.evaluations.items (evaluations_from 0 c.requires.gathered.acted) c.requires.sizes.evaluations
    c.deref-2.ensures.value c.requires.gathered.gathered.evaluations

pub refill-requires-2-clause-ascending : goal.refill-requires-2-clause-ascending
refill-requires-2-clause-ascending c =
    up-in c.args.sizes.nodes c.deref-2.result.now c.args.list.now.evaluations.items (evaluations_from 0 c.requires.gathered.acted) c.deref-2.ensures.value
    c.requires.gathered.gathered.evaluations (all-evaluations-ascend c.requires.gathered.acted)

pub refill-requires-3-clause-numbers : goal.refill-requires-3-clause-numbers
refill-requires-3-clause-numbers c =
    low-in c.args.sizes.processes (length c.args.used.steps) c.deref-3.result.now c.args.list.now.steps.items (steps_from 0 c.requires.gathered.acted) c.requires.sizes.steps c.deref-3.ensures.value
    c.requires.gathered.gathered.steps

pub refill-requires-3-clause-ascending : goal.refill-requires-3-clause-ascending
refill-requires-3-clause-ascending c =
    up-in c.args.sizes.processes c.deref-3.result.now c.args.list.now.steps.items (steps_from 0 c.requires.gathered.acted) c.deref-3.ensures.value c.requires.gathered.gathered.steps
    (all-steps-ascend c.requires.gathered.acted)

pub refill-requires-4 : goal.refill-requires-4
refill-requires-4 c = changes-ascend c.args.list.now.changes.items c.requires.gathered.accesses c.requires.gathered.gathered.changes

pub returns-clause-events : goal.returns-clause-events
returns-clause-events c = λ accesses acted had. record {
  count = had.moment;
  objects_are = ap (λ (k : ChangesKept). k.count) c.in_ok-changes.ensures.changes ∙ c.requires.sizes.changes;
  changes_are = ap (λ (k : ChangesKept). k.writes) c.in_ok-changes.ensures.changes ∙ had.changes;
  touches_are =
      index-in c.args.sizes.objects (length c.args.used.touches) c.deref.result.now c.args.list.now.touches.items (touches_from 0 accesses) c.refill.new.self c.requires.sizes.touches
      c.deref.ensures.value had.touches c.in_ok-refill.ensures.ok;
  evaluations_are =
      index-in c.args.sizes.nodes (length c.args.used.evaluations) c.deref-2.result.now c.args.list.now.evaluations.items (evaluations_from 0 acted) c.refill-2.new.self c.requires.sizes.evaluations
      c.deref-2.ensures.value had.evaluations c.in_ok-refill-2.ensures.ok;
  steps_are =
      index-in c.args.sizes.processes (length c.args.used.steps) c.deref-3.result.now c.args.list.now.steps.items (steps_from 0 acted) c.refill-3.new.self c.requires.sizes.steps
      c.deref-3.ensures.value had.steps c.in_ok-refill-3.ensures.ok;
}
