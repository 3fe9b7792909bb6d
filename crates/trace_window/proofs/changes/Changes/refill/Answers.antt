-- Both indexes are made of the changes below the count.
use Rattle.std.proofs.Common.{◌≡◌, ℕ, ◌<◌, List, map, length, sym, ap, subst, ◌∙◌, Vec, Global}
use Rattle.std.specs.Prelude.{All}
use Rattle.std.specs.List.Sorted.{IsNonDecreasingBy}
use Rattle.window_index.specs.declared.occurrence.Occurrence.{Occurrence}
use Rattle.window_index.specs.Moments.{moment_of, IsIndexOf}
use Rattle.trace_window.specs.declared.change.Change.{Change}
use Rattle.trace_window.specs.BelowLaws.{below-low, below-ascend, index-below}
use Rattle.trace_window.specs.Occurring.{below}
use Rattle.trace_window.specs.Tables.{change_moment, at_moment, at_places}
use Rattle.trace_window.proofs.Finding.{moments-ascend, places-ascend}
use Rattle.trace_window.proofs.changes.Changes.refill.Goals as goal

low-in : (objects count : ℕ) (list all : List Occurrence) → count ≡ objects → list ≡ below objects all → All (λ (o : Occurrence). o.number < count) list
low-in objects count list all numbers is =
    subst (λ n. All (λ (o : Occurrence). o.number < n) list) (sym numbers) (subst (λ (l : List Occurrence). All (λ (o : Occurrence). o.number < objects) l) (sym is) (below-low objects all))

up-in : (objects : ℕ) (list all : List Occurrence) → list ≡ below objects all → IsNonDecreasingBy moment_of all → IsNonDecreasingBy moment_of list
up-in objects list all is up = subst (λ (l : List Occurrence). IsNonDecreasingBy moment_of l) (sym is) (below-ascend objects all up)

index-in : (objects count : ℕ) (list all : List Occurrence) (index : List (List ℕ)) → count ≡ objects → list ≡ below objects all → IsIndexOf count list index → IsIndexOf objects all index
index-in objects count list all index numbers is had =
    index-below objects all index (subst (λ (l : List Occurrence). IsIndexOf objects l index) is (subst (λ n. IsIndexOf n list index) numbers had))

pub refill-requires-clause-numbers : goal.refill-requires-clause-numbers
refill-requires-clause-numbers c =
    low-in c.self.inside.objects (length c.self.inside.moments) c.deref-2.result.now (map at_moment c.deref.result.now) c.self.invariant.moments_are.numbers
    (c.deref-2.ensures.value ∙ c.in_ok-list_changes.ensures.moments)

pub refill-requires-clause-ascending : goal.refill-requires-clause-ascending
refill-requires-clause-ascending c =
    up-in c.self.inside.objects c.deref-2.result.now (map at_moment c.deref.result.now) (c.deref-2.ensures.value ∙ c.in_ok-list_changes.ensures.moments)
    (moments-ascend c.deref.result.now (subst (λ (l : List Change). IsNonDecreasingBy change_moment l) (sym c.deref.ensures.value) c.requires))

pub refill-requires-2-clause-numbers : goal.refill-requires-2-clause-numbers
refill-requires-2-clause-numbers c =
    low-in c.self.inside.objects (length c.self.inside.places) c.deref-3.result.now (at_places 0 c.deref.result.now) c.self.invariant.places_are.numbers
    (c.deref-3.ensures.value ∙ c.in_ok-list_changes.ensures.places)

pub refill-requires-2-clause-ascending : goal.refill-requires-2-clause-ascending
refill-requires-2-clause-ascending c =
    up-in c.self.inside.objects c.deref-3.result.now (at_places 0 c.deref.result.now) (c.deref-3.ensures.value ∙ c.in_ok-list_changes.ensures.places) (places-ascend c.deref.result.now)

pub invariant_of-result : goal.invariant_of-result
invariant_of-result c =
    let own : c.swap.new.y.items ≡ c.args.changes.now.items = ap (λ (v : Vec Change Global). v.items) c.swap.ensures.y_after in
    record {
      moments_are =
          subst (λ (l : List Change). IsIndexOf c.self.inside.objects (map at_moment l) c.refill.new.self) (c.deref.ensures.value ∙ sym own)
          (index-in c.self.inside.objects (length c.self.inside.moments) c.deref-2.result.now (map at_moment c.deref.result.now) c.refill.new.self c.self.invariant.moments_are.numbers
          (c.deref-2.ensures.value ∙ c.in_ok-list_changes.ensures.moments) c.in_ok-refill.ensures.ok);
      places_are =
          subst (λ (l : List Change). IsIndexOf c.self.inside.objects (at_places 0 l) c.refill-2.new.self) (c.deref.ensures.value ∙ sym own)
          (index-in c.self.inside.objects (length c.self.inside.places) c.deref-3.result.now (at_places 0 c.deref.result.now) c.refill-2.new.self c.self.invariant.places_are.numbers
          (c.deref-3.ensures.value ∙ c.in_ok-list_changes.ensures.places) c.in_ok-refill-2.ensures.ok);
    }
