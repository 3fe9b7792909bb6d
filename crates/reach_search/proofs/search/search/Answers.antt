use Rattle.std.proofs.Common.{arith, ℕ, ◌+◌, ◌≤◌, ◌<◌, ◌∙◌, length, refl, ap, sym, subst}
use Rattle.std.proofs.Math.Logic.{∥∥₁_elim}
use Rattle.std.specs.Coded.{le_prop}
use Rattle.vf_base.specs.Base.{object_number}
use Rattle.v_design.specs.PlainDesigns.{design_of}
use Rattle.object_set.specs.Ordered.{OrderedObjects, with_object}
use Rattle.reach_search.proofs.Searched.{IsSearched, IsSearched-start, IsSearched-more, IsSearched-closed, IsSearched-all}
use Rattle.reach_search.proofs.search.search.Goals as goal

pub objects-init : goal.objects-init
objects-init c = record {
  same = ap (λ (k : OrderedObjects). k.bound) c.insert.ensures;
  searched =
      subst (λ (found : OrderedObjects). IsSearched (design_of c.args.graph.now.design.now) (object_number c.args.object) c.args.found.now.objects c.len-at.result found.objects)
      (sym c.insert.ensures)
      (subst (λ (at : ℕ). IsSearched (design_of c.args.graph.now.design.now) (object_number c.args.object) c.args.found.now.objects at
      (with_object c.args.found.now.objects (object_number c.args.object))) (sym c.len-at.ensures)
      (IsSearched-start (design_of c.args.graph.now.design.now) (object_number c.args.object) c.args.found.now.objects c.requires.closed));
}

pub insert_successors-requires-clause-is_object : goal.insert_successors-requires-clause-is_object
insert_successors-requires-clause-is_object c = omega (arith, c.in-Some.ensures.below, c.objects.invariant.same, c.requires.sized)

pub insert_successors-requires-clause-sized : goal.insert_successors-requires-clause-sized
insert_successors-requires-clause-sized c = c.objects.invariant.same ∙ c.requires.sized

pub overflow_add-at : goal.overflow_add-at
overflow_add-at c =
    let few : length (design_of c.args.graph.now.design.now).objects ≤ 65536 = ∥∥₁_elim c.args.graph.now.design.now.rules le_prop (λ kept. kept.few_objects) in
    let low : c.objects.at < c.objects.found.bound = c.in-Some.ensures.within refl in
    omega (arith, c.objects.invariant.same, c.requires.sized)

pub objects-preserved : goal.objects-preserved
objects-preserved c = record {
  same = ap (λ (k : OrderedObjects). k.bound) c.insert_successors.ensures ∙ c.objects.invariant.same;
  searched =
      subst (λ (found : OrderedObjects). IsSearched (design_of c.args.graph.now.design.now) (object_number c.args.object) c.args.found.now.objects (c.objects.at + 1) found.objects)
      (sym c.insert_successors.ensures)
      (IsSearched-more (design_of c.args.graph.now.design.now) c.args.graph.now.design.now.rules (object_number c.args.object) c.args.found.now.objects c.objects.at c.objects.found.objects
      (object_number c.in-Some.next) c.requires.closed (sym c.in-Some.ensures.member) c.objects.invariant.searched);
}

pub objects-smaller : goal.objects-smaller
objects-smaller c =
    let low : c.objects.at < c.objects.found.bound = c.in-Some.ensures.within refl in
    omega (arith, ap (λ (k : OrderedObjects). k.bound) c.insert_successors.ensures)

pub returns-clause-same : goal.returns-clause-same
returns-clause-same c = c.objects.invariant.same

pub returns-clause-closed : goal.returns-clause-closed
returns-clause-closed c =
    IsSearched-closed (design_of c.args.graph.now.design.now) (object_number c.args.object) c.args.found.now.objects c.objects.at c.objects.found.objects c.in_default.ensures.member
    c.objects.invariant.searched

pub returns-clause-reached : goal.returns-clause-reached
returns-clause-reached c =
    IsSearched-all (design_of c.args.graph.now.design.now) c.args.graph.now.design.now.rules (object_number c.args.object) c.args.found.now.objects c.objects.at c.objects.found.objects
    c.in_default.ensures.member c.objects.invariant.searched
