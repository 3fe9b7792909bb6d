use Rattle.std.proofs.Common.{◌≡◌, ◌-◌, ◌++◌, find}
use Rattle.std.specs.Str.{bytes_eq}
use Rattle.v_design.specs.Expressions.{up_from}
use Rattle.v_design.specs.Sites.{index_of_bit, index_text}
use Rattle.fault_list.proofs.spelled.place_spelled.Given as goal

abbrev pub invariant-places : goal.invariant-places
invariant-places l =
    find (λ place. bytes_eq (l.name ++ index_text l.ranged (index_of_bit l.high l.low place)) l.word) (up_from 0 l.count)
    ≡ find (λ place. bytes_eq (l.name ++ index_text l.ranged (index_of_bit l.high l.low place)) l.word) (up_from l.place (l.count - l.place))
