use Rattle.std.proofs.Common.{◌≡◌, ℕ, ◌+◌, List, [], ◌∷◌, ◌++◌, map, drop, refl, ap, sym, ◌∙◌, append_assoc, arith}
use Rattle.four_value.specs.declared.operator.GateKind.{GateKind}
use Rattle.v_tree.specs.Trees.{SourceGate}
use Rattle.v_tree.specs.Views.{gate_of}
use Rattle.v_tree.specs.declared.item.Gate.{Gate}
use Rattle.v_elab.specs.Parts.{Part}
use Rattle.v_elab.specs.Walk.{Here, gate_parts}
use Rattle.name_checks.specs.Rows.{drop-step}
use Rattle.elab_parts.specs.PartViews.{parts_of}
use Rattle.elab_items.specs.Gates.{gate_part}
use Rattle.select_bits.specs.Runs.{TargetTakesRuns}
use Rattle.elab_items.proofs.Rows.{list-done, holds-of}
use Rattle.elab_items.proofs.gates.push_gates.Goals as goal

gates-more : (h : Here) (kind : GateKind) (number next : ℕ) (gate : SourceGate) (rest : List SourceGate) (old new whole : List Part) → next ≡ number + 1 →
    new ≡ old ++ gate_part h kind number gate ∷ []
    → old ++ gate_parts h kind number (gate ∷ rest) ≡ whole → new ++ gate_parts h kind next rest ≡ whole
gates-more h kind number next gate rest old new whole n e k =
    ap (λ (m : ℕ). new ++ gate_parts h kind m rest) n ∙ ap (λ (ps : List Part). ps ++ gate_parts h kind (number + 1) rest) e
    ∙ append_assoc old (gate_part h kind number gate ∷ []) (gate_parts h kind (number + 1) rest) ∙ k

pub gates-init : goal.gates-init
gates-init c h i =
    let first : (c.args.before + 1) + 0 ≡ c.args.before + 1 = omega arith in
    ap (λ (n : ℕ). parts_of c.args.parts.now.items ++ gate_parts h c.args.kind n (map gate_of c.args.gates.now)) first

pub gates-preserved : goal.gates-preserved
gates-preserved c h i =
    let number : ℕ = (c.args.before + 1) + c.gates.place in
    let next : (c.args.before + 1) + (c.gates.place + 1) ≡ number + 1 = omega arith in
    gates-more h c.args.kind number ((c.args.before + 1) + (c.gates.place + 1)) (gate_of c.index-gates-place.result) (map gate_of (drop (c.gates.place + 1) c.args.gates.now))
    (parts_of c.gates.parts.items) (parts_of c.push_part.new.parts.items) _ next
    (c.in_ok-push_part.ensures ∙ ap (λ (p : Part). parts_of c.gates.parts.items ++ p ∷ []) (c.in_ok-part.ensures h i))
    (ap (λ (gs : List Gate). parts_of c.gates.parts.items ++ gate_parts h c.args.kind number (map gate_of gs))
    (sym (drop-step c.args.gates.now c.gates.place c.index-gates-place.result c.gates-test.true c.index-gates-place.is)) ∙ c.gates.invariant h i)

pub returns : goal.returns
returns c h i = list-done (λ (gs : List Gate). gate_parts h c.args.kind ((c.args.before + 1) + c.gates.place) (map gate_of gs)) c.args.gates.now c.gates.place
    (parts_of c.gates.parts.items) _ refl c.gates-test.false (c.gates.invariant h i)

pub gate_part-requires : goal.gate_part-requires
gate_part-requires c =
    holds-of (λ (g : SourceGate). TargetTakesRuns c.args.here.now.scope.value g.output) gate_of c.args.gates.now c.gates.place c.index-gates-place.result c.requires.runs c.gates-test.true
    c.index-gates-place.is
