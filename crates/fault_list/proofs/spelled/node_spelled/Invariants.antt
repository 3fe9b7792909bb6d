use Rattle.std.proofs.Common.{◌≡◌, ◌-◌, ◌+◌, ◌++◌, ◌∷◌, find}
use Rattle.std.specs.Fmt.{decimal}
use Rattle.std.specs.Str.{bytes_eq}
use Rattle.v_design.specs.Expressions.{up_from}
use Rattle.fault_list.proofs.spelled.node_spelled.Given as goal

abbrev pub invariant-terminals : goal.invariant-terminals
invariant-terminals l =
    find (λ terminal. bytes_eq (l.node.name ++ 46 ∷ decimal terminal) l.word) (up_from 1 l.place-end)
    ≡ find (λ terminal. bytes_eq (l.node.name ++ 46 ∷ decimal terminal) l.word) (up_from (l.place + 1) (l.place-end - l.place))
