-- The assignment of an output's actual (IEEE 1364-2001, clause 12.3.9).
use Rattle.std.proofs.Common.{◌≡◌, ℕ, false, List, Option, Some, None, option_map, is_some, refl, ap, ap₂, subst, ◌∙◌}
use Rattle.std.specs.Borrow.{Bor}
use Rattle.vf_base.specs.Base.{SourcePlace}
use Rattle.v_tree.specs.declared.item.Direction.{Direction}
use Rattle.v_tree.specs.declared.item.Direction.TheVariants.{Output}
use Rattle.v_tree.specs.Trees.{Identifier, SourceExpression, Selected, NoIndex, SourceTarget, place_of_expression}
use Rattle.v_names.specs.Scopes.{Scope}
use Rattle.v_names.specs.Readings.{reading_of, tree_in}
use Rattle.v_width.specs.Targets.{ByNode, target_width_in, target_of}
use Rattle.v_elab.specs.Connections.{Child, Paths, drives_of, output_part}
use Rattle.v_elab.specs.Parts.{Drive, ValueIn, AssignPart}
use Rattle.instance_checks.specs.Offered.{name_seen}
use Rattle.elab_connections.specs.OutputRuns.{OutputTakesRuns, ActualTakesRuns}

pub output-is : (child : Child) (p : Paths) (port : Identifier) (e : SourceExpression) (target : SourceTarget) (drives : List Drive) (value : ValueIn) (width : ℕ) (alone : SourceExpression)
    (inner outer : Identifier) (inside outside : Scope) (place : SourcePlace) →
    inner ≡ p.inner → outer ≡ p.outer → inside ≡ child.inner_scope → outside ≡ child.outer_scope → place ≡ place_of_expression e → alone ≡ Selected place port NoIndex →
    width ≡ target_width_in ByNode outside target → drives ≡ drives_of outer outside target → value ≡ record { path = inner; value = tree_in width (reading_of inside alone) } →
    AssignPart drives value ≡ output_part child p port e target
output-is child p port e target drives value width alone inner outer inside outside place i o s t at a w d v =
    let assigned : Identifier → ℕ → Scope → SourceExpression → ValueIn = λ path n seen x. record { path = path; value = tree_in n (reading_of seen x) } in
    let wide : ℕ = target_width_in ByNode child.outer_scope target in
    ap₂ (λ (ds : List Drive) (x : ValueIn). AssignPart ds x)
    (d ∙ ap₂ (λ (path : Identifier) (seen : Scope). drives_of path seen target) o t)
    (v ∙ ap (λ path. assigned path width inside alone) i ∙ ap (λ n. assigned p.inner n inside alone) (w ∙ ap (λ seen. target_width_in ByNode seen target) t)
    ∙ ap (λ seen. assigned p.inner wide seen alone) s ∙ ap (assigned p.inner wide child.inner_scope) (a ∙ ap (λ there. Selected there port NoIndex) at))

-- where none is there, there is no name
pub none-named : (joined : Option (Bor Identifier)) → is_some joined ≡ false → option_map name_seen joined ≡ None
none-named None e = refl
none-named (Some joined) e = absurd (cc)

-- an output that is joined with no name
pub actual-output : (scope : Scope) (e : SourceExpression) (joined : Option Identifier) (direction : Option Direction) → joined ≡ None → direction ≡ Some Output →
    ActualTakesRuns scope e joined direction → OutputTakesRuns scope (target_of e)
actual-output scope e joined direction none output takes =
    subst (λ (d : Option Direction). ActualTakesRuns scope e None d) output (subst (λ (n : Option Identifier). ActualTakesRuns scope e n direction) none takes)
