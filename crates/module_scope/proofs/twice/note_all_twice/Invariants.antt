use Rattle.std.proofs.Common.{[], drop, option_map}
use Rattle.v_names.specs.Names.{twice_faults}
use Rattle.name_checks.specs.Noted.{noted}
use Rattle.module_scope.specs.Declarations.{declarations_seen}
use Rattle.module_scope.specs.Earlier.{EarlierGrouped, earlier_seen}
use Rattle.module_scope.specs.Kept.{kept}
use Rattle.module_scope.proofs.TwiceDeclared.{AreNoted}
use Rattle.module_scope.specs.Ranges.{kept_range, AreRanges}
use Rattle.module_scope.proofs.twice.note_all_twice.Given as goal

abbrev pub invariant-all : goal.invariant-all
invariant-all l = record {
  noted : AreNoted (λ name. option_map earlier_seen (kept l.earlier name)) l.scope l.first (noted l.initial.first (twice_faults l.scope [] (declarations_seen l.all)))
      (declarations_seen (drop l.declaration-index l.all));
  earlier : EarlierGrouped l.groups (kept l.earlier);
  ranges : AreRanges l.scope l.groups (kept_range l.ranges);
}
