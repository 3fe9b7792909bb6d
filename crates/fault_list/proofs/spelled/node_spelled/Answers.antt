use Rattle.std.proofs.Common.{◌≡◌, ◌∙◌, ◌++◌, ◌∷◌, ◌+◌, sym, ap, false}
use Rattle.std.specs.Fmt.{decimal}
use Rattle.std.specs.Str.{bytes_eq}
use Rattle.fault_list.proofs.Finding.{find-next_one}
use Rattle.fault_list.proofs.spelled.node_spelled.Goals as goal

pub terminals-preserved : goal.terminals-preserved
terminals-preserved c =
    let fails : bytes_eq (c.args.node.now.name ++ 46 ∷ decimal (c.terminals.place + 1)) c.args.word.now ≡ false =
    ap (λ n. bytes_eq (n ++ 46 ∷ decimal (c.terminals.place + 1)) c.args.word.now) (sym c.as_bytes-name.ensures) ∙ (sym c.is_terminal_name.ensures ∙ c.if-is_terminal_name.false) in
    c.terminals.invariant ∙ find-next_one (λ terminal. bytes_eq (c.args.node.now.name ++ 46 ∷ decimal terminal) c.args.word.now) c.terminals.place c.numbered_terminals-place-end.result
    c.terminals-test.true fails
