use Rattle.std.proofs.Common.{◌≡◌, ℕ, zero, suc, ◌<◌, List, [], ◌∷◌, map, length, get_or, sym, subst, arith}
use Rattle.vf_base.specs.Lists.{AllHold}
use Rattle.v_tree.specs.Views.{select_of}
use Rattle.v_tree.specs.declared.expression.Select.{Select}
use Rattle.v_design.specs.Sized.{IsSizedTarget}
use Rattle.v_elab.specs.Statements.{Meaning}
use Rattle.object_expr.specs.Meanings.{select_over}
use Rattle.object_expr.specs.Narrow.{IsNarrowSelect}
use Rattle.object_expr.proofs.target.selects_over.Goals as goal

holds-at : {A B : Type 0} (P : B → Type 0) (view : A → B) (xs : List A) (i : ℕ) (x : A) → AllHold P (map view xs) → i < length xs → x ≡ get_or xs i x → P (view x)
holds-at P view [] i x h low at = absurd (omega arith)
holds-at P view (first ∷ xs) zero x h low at = subst (λ y. P (view y)) (sym at) h.0
holds-at P view (first ∷ xs) (suc i) x h low at = holds-at P view xs i x h.1 (omega arith) at

sized-at : (meaning : Meaning) (selects : List Select) (i : ℕ) (x : Select) → AllHold IsSizedTarget (map (select_over meaning) (map select_of selects)) → i < length selects → x ≡ get_or selects i x →
    IsSizedTarget (select_over meaning (select_of x))
sized-at meaning [] i x h low at = absurd (omega arith)
sized-at meaning (select ∷ selects) zero x h low at = subst (λ s. IsSizedTarget (select_over meaning (select_of s))) (sym at) h.0
sized-at meaning (select ∷ selects) (suc i) x h low at = sized-at meaning selects i x h.1 (omega arith) at

pub select_over-requires-clause-sized : goal.select_over-requires-clause-sized
select_over-requires-clause-sized c =
    let r = c.requires.sized in
    (r.0, r.1, sized-at r.0 c.args.selects.now c.selects.select-index c.select-item.result r.2 c.selects-test.true c.select-item.is)

pub select_over-requires-clause-narrow : goal.select_over-requires-clause-narrow
select_over-requires-clause-narrow c =
    holds-at (IsNarrowSelect c.args.scope.now) select_of c.args.selects.now c.selects.select-index c.select-item.result c.requires.narrow c.selects-test.true c.select-item.is
