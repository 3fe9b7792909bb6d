use Rattle.std.proofs.Common.{[], map}
use Rattle.v_tree.specs.Views.{name_of}
use Rattle.v_names.specs.Names.{head_faults}
use Rattle.name_checks.specs.Noted.{noted}
use Rattle.module_scope.specs.Kept.{kept}
use Rattle.module_scope.proofs.TwiceDeclared.{head-step}
use Rattle.module_scope.proofs.twice.note_heads.Goals as goal

pub heads-preserved : goal.heads-preserved
heads-preserved c =
    head-step name_of c.args.heads.now c.heads.head-index c.head-item.result (kept c.heads.earlier) (kept c.note_head.new.earlier) c.args.scope.now c.heads.first c.note_head.new.first
    (noted c.args.first.now (head_faults c.args.scope.now [] (map name_of c.args.heads.now))) c.heads-test.true c.head-item.is c.heads.invariant c.in_ok-note_head.ensures.noted
    c.in_ok-note_head.ensures.earlier
