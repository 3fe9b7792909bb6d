use Rattle.std.proofs.Common.{◌≡◌, subst}
use Rattle.v_tree.specs.Views.{expression_of, index_of}
use Rattle.v_tree.specs.declared.expression.Index.{Index}
use Rattle.v_names.specs.Scopes.{Scope, looked_up, is_memory}
use Rattle.v_design.specs.Sized.{IsSizedTarget, IsSizedVariable}
use Rattle.v_elab.specs.Statements.{Meaning, variable_of, indexed_target, target_by_index}
use Rattle.object_expr.specs.Narrow.{IsNarrow, IsNarrowBound, IsNarrowIndex}
use Rattle.object_expr.proofs.target.select_over.Goals as goal

-- the index is known in each case
sized-as : (meaning : Meaning) (name : _) (one other : Index) → one ≡ other → IsSizedTarget (target_by_index meaning name (index_of one)) → IsSizedTarget (target_by_index meaning name (index_of other))
sized-as meaning name one other same h = subst (λ (i : Index). IsSizedTarget (target_by_index meaning name (index_of i))) same h

pub variable_named-requires : goal.variable_named-requires
variable_named-requires c =
    let r = c.requires.sized in
    let sized : IsSizedVariable (variable_of (r.0.holders.vector c.args.select.now.name)) = sized-as r.0 c.args.select.now.name _ _ c.in-Whole.is r.2 in
    (r.0.holders, r.1.names_are, sized.1)

pub indexed_target-requires-clause-sized : goal.indexed_target-requires-clause-sized
indexed_target-requires-clause-sized c =
    let r = c.requires.sized in
    let name = c.args.select.now.name in
    let sized : IsSizedTarget (indexed_target (is_memory (looked_up r.0.scope name)) r.0 name (expression_of c.in-Bit.index)) = sized-as r.0 name _ _ c.in-Bit.is r.2 in
    (r.0, r.1, subst (λ (s : Scope). IsSizedTarget (indexed_target (is_memory (looked_up s name)) r.0 name (expression_of c.in-Bit.index))) r.1.scope_is sized)

pub variable_named-requires-in-Part : goal.variable_named-requires-in-Part
variable_named-requires-in-Part c =
    let r = c.requires.sized in
    let sized : IsSizedVariable (variable_of (r.0.holders.vector c.args.select.now.name)) = sized-as r.0 c.args.select.now.name _ _ c.in-Part.is r.2 in
    (r.0.holders, r.1.names_are, sized.1)

-- so are its bounds and counts
narrow-as : (scope : Scope) (one other : Index) → one ≡ other → IsNarrowIndex scope (index_of one) → IsNarrowIndex scope (index_of other)
narrow-as scope one other same h = subst (λ (i : Index). IsNarrowIndex scope (index_of i)) same h

pub indexed_target-requires-clause-narrow : goal.indexed_target-requires-clause-narrow
indexed_target-requires-clause-narrow c = narrow-as c.args.scope.now _ _ c.in-Bit.is c.requires.narrow

pub bound_or_zero-requires : goal.bound_or_zero-requires
bound_or_zero-requires c =
    let scope = c.args.scope.now in
    let narrow : IsNarrowBound scope (expression_of c.in-Part.from) × IsNarrowBound scope (expression_of c.in-Part.to) = narrow-as scope _ _ c.in-Part.is c.requires.narrow in
    narrow.0

pub bound_or_zero-requires-in-Part : goal.bound_or_zero-requires-in-Part
bound_or_zero-requires-in-Part c =
    let scope = c.args.scope.now in
    let narrow : IsNarrowBound scope (expression_of c.in-Part.from) × IsNarrowBound scope (expression_of c.in-Part.to) = narrow-as scope _ _ c.in-Part.is c.requires.narrow in
    narrow.1
