use Rattle.std.proofs.Common.{ℕ, List, [], option_map, refl, ap}
use Rattle.v_names.specs.Names.{twice_faults}
use Rattle.name_checks.specs.Noted.{noted}
use Rattle.module_scope.specs.Kept.{kept}
use Rattle.module_scope.specs.Declarations.{declaration_seen, declarations_seen}
use Rattle.module_scope.specs.Earlier.{earlier_seen}
use Rattle.module_scope.proofs.TwiceDeclared.{twice-step}
use Rattle.module_scope.proofs.Grouping.{none-earlier, grouped-at}
use Rattle.module_scope.proofs.RangesKept.{no-ranges}
use Rattle.module_scope.specs.Ranges.{kept_range}
use Rattle.module_scope.specs.declared.twice.Earlier.{Earlier}
use Rattle.module_scope.proofs.twice.note_all_twice.Goals as goal

pub all-preserved : goal.all-preserved
all-preserved c = record {
  noted =
      twice-step declaration_seen c.args.all.now c.all.declaration-index c.declaration-item.result (λ (name : List ℕ). option_map earlier_seen (kept c.all.earlier name))
      (λ (name : List ℕ). option_map earlier_seen (kept c.note_twice.new.earlier name))
      c.args.scope.now c.all.first c.note_twice.new.first (noted c.args.first.now (twice_faults c.args.scope.now [] (declarations_seen c.args.all.now))) c.all-test.true c.declaration-item.is
      c.all.invariant.noted
      c.in_ok-note_twice.ensures.noted c.in_ok-note_twice.ensures.earlier;
  earlier = c.in_ok-note_twice.ensures.grouped;
  ranges = c.in_ok-note_twice.ensures.ranges;
}

pub note_twice-requires-clause-grouped : goal.note_twice-requires-clause-grouped
note_twice-requires-clause-grouped c = grouped-at c.args.groups.now c.args.all.now c.all.declaration-index c.declaration-item.result c.requires c.all-test.true c.declaration-item.is

pub all-init : goal.all-init
all-init c = record {
  noted = record {
    earlier = [];
    are_known = λ name. ap (λ (m : List (List ℕ × Earlier)). option_map earlier_seen (kept m name)) c.new-earlier.ensures;
    are_noted = refl;
  };
  earlier = none-earlier c.args.groups.now c.new-earlier.result c.new-earlier.ensures;
  ranges = no-ranges c.args.scope.now c.args.groups.now (kept_range c.in_ok-ranges.ranges) c.in_ok-ranges.ensures;
}
