use Rattle.std.proofs.Common.{◌≡◌, true, false, List, map, flat_map, refl, rules}
use Rattle.v_tree.specs.Views.{wire_of}
use Rattle.v_tree.specs.declared.item.Wire.{Wire}
use Rattle.v_elab.specs.ReadCounts.{wire_reads}
use Rattle.input_counts.proofs.OverLaws.{over-next, over-stop, over-done}
use Rattle.input_counts.proofs.items.wires_read_over.Goals as goal

pub returns-then-over : goal.returns-then-over
returns-then-over c =
    let holds : c.in_ok-over.over ≡ true = search rules in
    over-stop c.args.scope.now (λ (w : Wire). wire_reads (wire_of w)) (λ i (ws : List Wire). flat_map wire_reads (map wire_of ws)) c.args.wires.now c.wires.wire-index c.wire-item.result _
    c.in_ok-over.over (λ y ys. refl) c.wires-test.true c.wire-item.is
    c.in_ok-over.ensures holds c.wires.invariant

pub wires-preserved : goal.wires-preserved
wires-preserved c =
    let fails : c.in_ok-over.over ≡ false = search rules in
    over-next c.args.scope.now (λ (w : Wire). wire_reads (wire_of w)) (λ i (ws : List Wire). flat_map wire_reads (map wire_of ws)) c.args.wires.now c.wires.wire-index c.wire-item.result _
    c.in_ok-over.over (λ y ys. refl) c.wires-test.true c.wire-item.is
    c.in_ok-over.ensures fails c.wires.invariant

pub returns : goal.returns
returns c = over-done c.args.scope.now (λ i (ws : List Wire). flat_map wire_reads (map wire_of ws)) c.args.wires.now c.wires.wire-index _ refl c.wires-test.false c.wires.invariant
