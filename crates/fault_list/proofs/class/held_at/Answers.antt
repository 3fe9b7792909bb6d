use Rattle.fault_list.proofs.Held.{held-yes, held-no}
use Rattle.vf_base.specs.Base.{node_number}
use Rattle.std.proofs.Common.{rules, ◌≡◌, false, true, ◌&&◌}
use Rattle.std.specs.Prelude.{nat_le}
use Rattle.fault_list.proofs.class.held_at.Goals as goal

pub returns : goal.returns
returns c =
    let there : (nat_le 1 c.args.terminal && nat_le c.args.terminal c.len.result) ≡ true = search rules in
    held-yes (node_number c.args.number) c.args.terminal c.args.input c.in-Some-output_of.output c.args.node.now.outputs c.as_slice.result.now c.in-Some.object.now c.args.node.now.kind
    c.in-Gate.kind c.in-Gate.terminals c.len.result
    c.as_slice.ensures c.in-Some.ensures.value c.in-Gate.is c.in-Some-output_of.ensures (search rules) there

pub returns-then-not-is_terminal : goal.returns-then-not-is_terminal
returns-then-not-is_terminal c =
    let there : (nat_le 1 c.args.terminal && nat_le c.args.terminal c.len.result) ≡ false = search rules in
    held-no (node_number c.args.number) c.args.terminal c.args.input c.args.node.now.outputs c.args.node.now.kind c.in-Gate.kind c.in-Gate.terminals c.len.result
    c.in-Gate.is (search rules) there
