use Rattle.std.proofs.Common.{◌≡◌, ℕ, ◌≤◌, List, [], ◌∷◌, ◌++◌, sym, ap, ap₂, ◌∙◌, arith}
use Rattle.std.proofs.lemmas.Bool.{ltb-false}
use Rattle.vf_base.specs.Base.{SourcePlace}
use Rattle.v_design.specs.Sized.{most_bits}
use Rattle.v_tree.specs.Trees.{Identifier, SourceExpression, place_of_expression}
use Rattle.v_tree.specs.Views.{expression_of}
use Rattle.v_names.specs.Readings.{reading_of, tree_in}
use Rattle.v_names.specs.Scopes.{Scope}
use Rattle.v_width.specs.Targets.{whole_places}
use Rattle.v_elab.specs.Connections as plain
use Rattle.v_elab.specs.Connections.{input_part, port_width}
use Rattle.v_elab.specs.Parts.{Drive, ValueIn, AssignPart}
use Rattle.elab_connections.proofs.part.input_part.Goals as goal

-- an assignment of a width is that of the port
input-is : (child : plain.Child) (p : plain.Paths) (port : Identifier) (e : SourceExpression) (drives : List Drive) (value : ValueIn) (width : ℕ) (inner outer : Identifier) (scope : Scope)
    (place : SourcePlace) →
    width ≡ port_width child port → p.inner ≡ inner → p.outer ≡ outer → scope ≡ child.outer_scope → place ≡ place_of_expression e →
    drives ≡ record { signal = inner ++ port; places = whole_places width; place = place } ∷ [] →
    value ≡ record { path = outer; value = tree_in width (reading_of scope e) } → AssignPart drives value ≡ input_part child p port e
input-is child p port e drives value width inner outer scope place w i o s at d v =
    let drive : ℕ → Identifier → SourcePlace → List Drive = λ n path there. record { signal = path ++ port; places = whole_places n; place = there } ∷ [] in
    let assigned : ℕ → Identifier → Scope → ValueIn = λ n path seen. record { path = path; value = tree_in n (reading_of seen e) } in
    ap₂ (λ (ds : List Drive) (x : ValueIn). AssignPart ds x)
    (d ∙ ap (λ n. drive n inner place) w ∙ ap (λ path. drive (port_width child port) path place) (sym i) ∙ ap (λ there. drive (port_width child port) p.inner there) at)
    (v ∙ ap (λ n. assigned n outer scope) w ∙ ap (λ path. assigned (port_width child port) path scope) (sym o) ∙ ap (λ seen. assigned (port_width child port) p.outer seen) s)

pub returns : goal.returns
returns c child are narrow p paths =
    let few : port_width child c.args.port.now ≤ most_bits = ltb-false most_bits (port_width child c.args.port.now) narrow in
    let own = c.port_width.ensures child are in
    let width : c.sizing_width-width.result ≡ port_width child c.args.port.now = c.sizing_width-width.ensures (omega (arith, few, own)) ∙ own in
    input-is child p c.args.port.now (expression_of c.args.expr.now) _ _ c.sizing_width-width.result _ _ _ _ width (sym paths.0 ∙ sym c.deref.ensures) (sym paths.1) are.outer_is
    c.place_of_expr.ensures c.in_ok-drives.ensures c.in_ok-value.ensures
