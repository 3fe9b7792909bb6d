use Rattle.std.proofs.Common.{List, [], ◌∷◌, ◌++◌, Option, refl, ap, subst, append_assoc}
use Rattle.std.proofs.lemmas.Result.{err_from_is_err_and}
use Rattle.v_elab.specs.Parts as plain
use Rattle.v_elab.specs.Parts.{InstancePart}
use Rattle.v_elab.specs.Refusals.{Refusal, unless_refused}
use Rattle.elab_walk.specs.CountViews.{AreCounts}
use Rattle.elab_walk.proofs.walked.Walked.count_instance.Goals as goal

pub returns-in_err-few : goal.returns-in_err-few
returns-in_err-few c before assigned counted nodes =
    let p = err_from_is_err_and c.from_residual.result c.from_residual.ensures.1 in
    let both : AreCounts (before ++ InstancePart ∷ assigned) c.add_nodes.new.self =
    subst (λ (all : List plain.Part). AreCounts all c.add_nodes.new.self) (append_assoc before (InstancePart ∷ []) assigned)
    (c.add_nodes.ensures (before ++ InstancePart ∷ []) assigned (c.add.ensures before counted) nodes) in
    rw (p.1, p.2) (c.in_err-few.ensures (before ++ InstancePart ∷ assigned) both)

pub returns : goal.returns
returns c before assigned counted nodes =
    let both : AreCounts (before ++ InstancePart ∷ assigned) c.add_nodes.new.self =
    subst (λ (all : List plain.Part). AreCounts all c.add_nodes.new.self) (append_assoc before (InstancePart ∷ []) assigned)
    (c.add_nodes.ensures (before ++ InstancePart ∷ []) assigned (c.add.ensures before counted) nodes) in
    record {
      few = ap (λ (r : Option Refusal). unless_refused r (before ++ InstancePart ∷ assigned)) (c.in_ok-few.ensures (before ++ InstancePart ∷ assigned) both);
      kept = refl;
      counted = both;
    }
