use Rattle.std.proofs.Common.{◌≡◌, false, sym, subst, ◌∙◌}
use Rattle.v_tree.specs.Views.{expression_of}
use Rattle.v_names.specs.Scopes.{looked_up, is_memory}
use Rattle.v_design.specs.Sized.{IsSizedTarget, IsSizedVariable, IsSizedAlone}
use Rattle.v_elab.specs.Statements.{alone_expression, variable_of, indexed_target}
use Rattle.object_expr.proofs.target.indexed_target.Goals as goal

pub variable_named-requires : goal.variable_named-requires
variable_named-requires c =
    let r = c.requires.sized in
    let name = c.args.name.now in
    let index = expression_of c.args.index.now in
    let none : is_memory (looked_up c.args.scope.now name) ≡ false = sym c.is_memory.ensures ∙ c.if-is_memory.false in
    let sized : IsSizedVariable (variable_of (r.0.holders.vector name)) × IsSizedAlone (alone_expression r.0 index) = subst (λ b. IsSizedTarget (indexed_target b r.0 name index)) none r.2 in
    (r.0.holders, r.1.names_are, sized.0.1)
