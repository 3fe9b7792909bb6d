use Rattle.std.proofs.Common.{sym, subst}
use Rattle.vf_base.specs.Base.{object_number}
use Rattle.copy_state.specs.Kept.{CopyKept}
use Rattle.copy_between.specs.Differing.{IsDifference, IsKeptAt}
use Rattle.copy_between.specs.DifferingLaws.{kept-value}
use Rattle.lockstep_copy.proofs.keep.keep_value.Goals as goal

pub returns-clause-kept : goal.returns-clause-kept
returns-clause-kept c =
    subst (λ (k : CopyKept). IsKeptAt (IsDifference c.args.good c.args.value) (object_number c.args.object) c.args.own.now.copy.values k.values) (sym c.in_ok-set.ensures.ok)
    (kept-value (object_number c.args.object) c.args.good c.args.value c.args.own.now.copy.values)
