use Rattle.std.proofs.Common.{◌≡◌, ◌∙◌, sym, ap, length, rules}
use Rattle.v_design.specs.Plain.{node_kind_of}
use Rattle.v_design.specs.Sites.{terminal_count}
use Rattle.fault_list.proofs.Growing.{count_of_expressions}
use Rattle.fault_list.proofs.spelled.terminals_len.Goals as goal

pub returns-in-Gate : goal.returns-in-Gate
returns-in-Gate c =
    let counted : c.len.result ≡ length c.in-Gate.terminals.items = search rules in
    counted ∙ (sym (count_of_expressions c.in-Gate.terminals.items) ∙ ap (λ k. terminal_count (node_kind_of k)) (sym c.in-Gate.is))
