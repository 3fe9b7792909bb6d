use Rattle.std.proofs.Common.{◌≡◌, true, false, List, [], ◌∷◌, map, refl, rules}
use Rattle.v_tree.specs.Views.{gate_of}
use Rattle.v_tree.specs.declared.item.Gate.{Gate}
use Rattle.v_elab.specs.ReadCounts.{gate_reads}
use Rattle.input_counts.proofs.OverLaws.{one-over, over-next, over-stop, over-done}
use Rattle.input_counts.proofs.items.gates_read_over.Goals as goal

pub returns-then-over : goal.returns-then-over
returns-then-over c =
    let holds : c.in_ok-over.over ≡ true = search rules in
    over-stop c.args.scope.now (λ (g : Gate). gate_reads (gate_of g) ∷ []) (λ i (gs : List Gate). map gate_reads (map gate_of gs)) c.args.gates.now c.gates.gate-index c.gate-item.result _
    c.in_ok-over.over (λ y ys. refl) c.gates-test.true c.gate-item.is
    (one-over c.args.scope.now (gate_reads (gate_of c.gate-item.result)) c.in_ok-over.over c.in_ok-over.ensures) holds c.gates.invariant

pub gates-preserved : goal.gates-preserved
gates-preserved c =
    let fails : c.in_ok-over.over ≡ false = search rules in
    over-next c.args.scope.now (λ (g : Gate). gate_reads (gate_of g) ∷ []) (λ i (gs : List Gate). map gate_reads (map gate_of gs)) c.args.gates.now c.gates.gate-index c.gate-item.result _
    c.in_ok-over.over (λ y ys. refl) c.gates-test.true c.gate-item.is
    (one-over c.args.scope.now (gate_reads (gate_of c.gate-item.result)) c.in_ok-over.over c.in_ok-over.ensures) fails c.gates.invariant

pub returns : goal.returns
returns c = over-done c.args.scope.now (λ i (gs : List Gate). map gate_reads (map gate_of gs)) c.args.gates.now c.gates.gate-index _ refl c.gates-test.false c.gates.invariant
