use Rattle.std.proofs.Common.{false, length, refl, sym, ◌∙◌}
use Rattle.std.proofs.lemmas.Option.{slice_get_read}
use Rattle.module_scope.specs.declared.ranges.GroupRange.{GroupRange}
use Rattle.module_scope.specs.declared.settled_ranges.SettledRanges.{SettledRanges}
use Rattle.module_scope.proofs.RangesKept.{settled-more}
use Rattle.module_scope.proofs.settled_ranges.look_at.Goals as goal

pub returns-clause-ranges : goal.returns-clause-ranges
returns-clause-ranges c =
    let new : SettledRanges = record { known = c.keep.new.self; waiting = c.args.ranges.now.waiting } in
    let range : GroupRange = record { waits = false; range = c.in_ok-range.range } in
    settled-more c.args.scope.now c.args.groups.now c.args.ranges.now new c.args.group range c.index-groups-group.result c.requires.ranges c.keep.ensures refl
    (slice_get_read c.args.groups.now (length c.args.groups.now) c.args.group c.index-groups-group.result refl c.requires.group c.index-groups-group.is) refl
    (record { waits = sym c.if-bounds_wait.false ∙ c.bounds_wait.ensures; range = c.in_ok-range.ensures })
