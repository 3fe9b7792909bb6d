use Rattle.std.proofs.Common.{[], drop, map}
use Rattle.v_tree.specs.Views.{name_of}
use Rattle.v_names.specs.Names.{head_faults}
use Rattle.name_checks.specs.Noted.{noted}
use Rattle.module_scope.specs.Kept.{kept}
use Rattle.module_scope.proofs.TwiceDeclared.{HeadsNoted}
use Rattle.module_scope.proofs.twice.note_heads.Given as goal

abbrev pub invariant-heads : goal.invariant-heads
invariant-heads l = HeadsNoted (kept l.earlier) l.scope l.first (noted l.initial.first (head_faults l.scope [] (map name_of l.heads))) (map name_of (drop l.head-index l.heads))
