use Rattle.std.proofs.Common.{◌≡◌, true, false, rules}
use Rattle.elab_parts.specs.PartViews.{process_of, parts_of}
use Rattle.elab_wires.proofs.BlockLaws.{not-own, all-own}
use Rattle.elab_wires.proofs.blocks.is_block_node.Goals as goal

pub returns-then-not-own : goal.returns-then-not-own
returns-then-not-own c =
    let fails : c.in_ok-own.own ≡ false = search rules in
    not-own (parts_of c.args.wiring.now.parts.now) c.args.number (process_of c.args.process.now) c.args.targets.now c.in_ok-whole.whole.items c.in_ok-own.own (search rules) (search rules) fails

pub returns : goal.returns
returns c =
    let holds : c.in_ok-own.own ≡ true = search rules in
    all-own c.args.wiring.now c.args.number (process_of c.args.process.now) c.args.targets.now c.in_ok-whole.whole.items c.in_ok-own.own c.in_ok-other.other c.requires (search rules)
    (search rules) holds (search rules)
