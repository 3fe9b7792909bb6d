use Rattle.std.proofs.Common.{◌≡◌, ◌-◌}
use Rattle.vf_base.specs.Base.{object_number}
use Rattle.v_design.specs.PlainDesigns.{design_of}
use Rattle.reach_search.proofs.Searched.{IsSearched}
use Rattle.reach_search.proofs.search.search.Given as goal

abbrev pub invariant-objects : goal.invariant-objects
invariant-objects l = record {
  same : l.found.bound ≡ l.fn.found.bound;
  searched : IsSearched (design_of l.graph.design.now) (object_number l.fn.object) l.fn.found.objects l.at l.found.objects;
}

abbrev pub decreases-objects : goal.decreases-objects
decreases-objects l = l.found.bound - l.at
