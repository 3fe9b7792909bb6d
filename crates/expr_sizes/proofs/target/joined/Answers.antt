use Rattle.std.proofs.Common.{[], ◌∷◌}
use Rattle.vf_base.specs.Base.{source_place}
use Rattle.v_names.specs.Faults.{BadWidth, fault_at}
use Rattle.expr_sizes.proofs.TargetLaws.{joined-none, joined-fits, joined-wide}
use Rattle.std.proofs.Common.{refl}
use Rattle.expr_sizes.proofs.target.joined.Goals as goal

pub returns-in-None : goal.returns-in-None
returns-in-None c reading h = joined-none (source_place c.args.place) reading c.args.selects h c.in-None.is

pub returns-then-width-le128 : goal.returns-then-width-le128
returns-then-width-le128 c reading h = joined-fits (source_place c.args.place) reading c.args.selects c.in-Some.width h c.in-Some.is c.if-width-le128.true

pub returns-else-width-le128 : goal.returns-else-width-le128
returns-else-width-le128 c reading h =
    joined-wide (source_place c.args.place) reading c.args.selects _ c.in-Some.width h c.in-Some.is c.if-width-le128.false refl
    (c.together.ensures (fault_at (source_place c.args.place) BadWidth ∷ []) [] reading.here reading.inside c.bad_width.ensures h.faults_are)
