use Rattle.std.proofs.Common.{ap, ◌∙◌, ◌≡◌, length, rules, sym}
use Rattle.v_design.specs.Plain.{node_kind_of}
use Rattle.v_design.specs.Sites.{terminal_count}
use Rattle.fault_list.proofs.Growing.{count_of_expressions}
use Rattle.fault_list.proofs.list.add_terminals_of.Goals as goal

pub returns-in-Gate : goal.returns-in-Gate
returns-in-Gate c =
    let counted : c.len.result ≡ length c.in-Gate.terminals.items = search rules in
    let same : terminal_count (node_kind_of c.args.kind.now) ≡ c.len.result = ap (λ k. terminal_count (node_kind_of k)) c.in-Gate.is ∙ (count_of_expressions c.in-Gate.terminals.items ∙ sym counted) in
    rw same c.add_terminals_up_to.ensures
