use Rattle.std.proofs.Common.{length, refl, sym, subst, ◌∙◌}
use Rattle.std.proofs.lemmas.Option.{get_or_from_slice_get, slice_get_read}
use Rattle.name_checks.specs.BoundViews.{bounds_seen}
use Rattle.name_checks.specs.declared.bounds.Bounds.{Bounds}
use Rattle.module_scope.specs.Ranges.{kept_range, IsRangeIn}
use Rattle.module_scope.proofs.RangesKept.{one-more}
use Rattle.module_scope.proofs.ranges.range_of_group.Goals as goal

pub returns-in-Some-clause-range : goal.returns-in-Some-clause-range
returns-in-Some-clause-range c = λ bounds at. c.requires.ranges.right c.args.group bounds c.in-Some.range at (sym c.in-Some.ensures)

pub returns-in_ok-range-in-None-clause-range : goal.returns-in_ok-range-in-None-clause-range
returns-in_ok-range-in-None-clause-range c = λ bounds at.
    subst (λ (b : Bounds). IsRangeIn c.args.scope.now (bounds_seen b) c.in_ok-range-in-None.range)
    (c.index-groups-group.is ∙ get_or_from_slice_get c.args.groups.now c.args.group bounds c.index-groups-group.result at) c.in_ok-range-in-None.ensures

pub returns-in_ok-range-in-None-clause-ranges : goal.returns-in_ok-range-in-None-clause-ranges
returns-in_ok-range-in-None-clause-ranges c =
    one-more c.args.scope.now c.args.groups.now (kept_range c.args.ranges.now) (kept_range c.keep.new.self) c.args.group c.in_ok-range-in-None.range c.index-groups-group.result c.requires.ranges
    c.keep.ensures (slice_get_read c.args.groups.now (length c.args.groups.now) c.args.group c.index-groups-group.result refl c.requires.group c.index-groups-group.is) c.in_ok-range-in-None.ensures
