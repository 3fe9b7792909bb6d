use Rattle.std.proofs.Common.{Option, IfSome, sym, subst}
use Rattle.std.proofs.lemmas.Option.{slice_get_within}
use Rattle.v_names.specs.Names as plain
use Rattle.module_scope.specs.declared.declaration.GroupBounds.{GroupBounds}
use Rattle.module_scope.specs.Groups.{IsGroup}
use Rattle.module_scope.specs.Ranges.{IsRangeIn}
use Rattle.module_scope.proofs.RangesKept.{bounds-of, no-bounds}
use Rattle.module_scope.proofs.ranges.range_of_declared.Goals as goal

pub returns-in_ok-unranged-in-None-clause-range : goal.returns-in_ok-unranged-in-None-clause-range
returns-in_ok-unranged-in-None-clause-range c =
    subst (λ (b : plain.Bounds). IsRangeIn c.args.scope.now b c.in_ok-unranged-in-None.unranged) (no-bounds c.args.declared c.in-None.ensures) c.in_ok-unranged-in-None.ensures

pub range_of_group-requires-clause-group : goal.range_of_group-requires-clause-group
range_of_group-requires-clause-group c =
    slice_get_within c.args.groups.now c.in-Some.bounds.group c.in-Some.bounds.bounds
    (subst (λ (b : Option GroupBounds). IfSome b (IsGroup c.args.groups.now)) (sym c.in-Some.ensures) c.requires.grouped)

pub returns-in_ok-range-in-Some-clause-range : goal.returns-in_ok-range-in-Some-clause-range
returns-in_ok-range-in-Some-clause-range c =
    subst (λ (b : plain.Bounds). IsRangeIn c.args.scope.now b c.in_ok-range-in-Some.range) (bounds-of c.args.declared c.in-Some.bounds c.in-Some.ensures)
    (c.in_ok-range-in-Some.ensures.range c.in-Some.bounds.bounds (subst (λ (b : Option GroupBounds). IfSome b (IsGroup c.args.groups.now)) (sym c.in-Some.ensures) c.requires.grouped))
