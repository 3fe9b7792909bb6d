use Rattle.std.proofs.Common.{◌≡◌, List, [], ◌∷◌, map, ap, sym, subst, ◌∙◌}
use Rattle.vf_base.specs.Lists.{AllHold}
use Rattle.v_design.specs.Sized.{IsSizedTarget}
use Rattle.v_tree.specs.Views.{select_of, target_of}
use Rattle.v_tree.specs.declared.expression.Target.{Target}
use Rattle.v_tree.specs.declared.expression.Select.{Select}
use Rattle.v_elab.specs.Statements.{Meaning, targets_over}
use Rattle.object_expr.specs.Meanings.{select_over}
use Rattle.v_names.specs.Scopes.{Scope}
use Rattle.object_expr.specs.Narrow.{IsNarrowSelect, IsNarrowTarget}
use Rattle.object_expr.proofs.target.targets_over.Goals as goal

pub returns-in_ok-flats-in-Joined : goal.returns-in_ok-flats-in-Joined
returns-in_ok-flats-in-Joined c meaning h =
    c.in_ok-flats-in-Joined.ensures meaning h ∙ ap (λ selects. map (select_over meaning) (map select_of selects)) c.as_slice.ensures
    ∙ ap (λ (t : Target). targets_over meaning (target_of t)) (sym c.in-Joined.is)

-- the target is known in each case
sized-as : (meaning : Meaning) (one other : Target) → one ≡ other → AllHold IsSizedTarget (targets_over meaning (target_of one)) → AllHold IsSizedTarget (targets_over meaning (target_of other))
sized-as meaning one other same h = subst (λ (t : Target). AllHold IsSizedTarget (targets_over meaning (target_of t))) same h

pub select_over-requires-clause-sized : goal.select_over-requires-clause-sized
select_over-requires-clause-sized c =
    let r = c.requires.sized in
    let sized : AllHold IsSizedTarget (select_over r.0 (select_of c.in-One.select) ∷ []) = sized-as r.0 _ _ c.in-One.is r.2 in
    (r.0, r.1, sized.0)

pub selects_over-requires-clause-sized : goal.selects_over-requires-clause-sized
selects_over-requires-clause-sized c =
    let r = c.requires.sized in
    (r.0, r.1, subst (λ (ss : List Select). AllHold IsSizedTarget (map (select_over r.0) (map select_of ss))) (sym c.as_slice.ensures) (sized-as r.0 _ _ c.in-Joined.is r.2))

-- so are its bounds and counts
narrow-as : (scope : Scope) (one other : Target) → one ≡ other → IsNarrowTarget scope (target_of one) → IsNarrowTarget scope (target_of other)
narrow-as scope one other same h = subst (λ (t : Target). IsNarrowTarget scope (target_of t)) same h

pub select_over-requires-clause-narrow : goal.select_over-requires-clause-narrow
select_over-requires-clause-narrow c =
    let scope = c.args.scope.now in
    let narrow : AllHold (IsNarrowSelect scope) (select_of c.in-One.select ∷ []) = narrow-as scope _ _ c.in-One.is c.requires.narrow in
    narrow.0

pub selects_over-requires-clause-narrow : goal.selects_over-requires-clause-narrow
selects_over-requires-clause-narrow c =
    let scope = c.args.scope.now in
    subst (λ (ss : List Select). AllHold (IsNarrowSelect scope) (map select_of ss)) (sym c.as_slice.ensures) (narrow-as scope _ _ c.in-Joined.is c.requires.narrow)
