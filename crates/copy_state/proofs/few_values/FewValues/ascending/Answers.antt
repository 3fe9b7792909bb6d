use Rattle.std.proofs.Common.{map, subst}
use Rattle.copy_laws.specs.Differences.{Ascend}
use Rattle.copy_state.specs.Entries.{Rise}
use Rattle.copy_state.specs.EntryLaws.{ascend-rise}
use Rattle.copy_state.specs.Listed.{entry_of}
use Rattle.copy_state.proofs.ListLaws.{numbers_are}
use Rattle.copy_state.proofs.few_values.FewValues.ascending.Goals as goal

pub returns : goal.returns
returns c =
    subst Ascend c.self.view_is
    (ascend-rise (map entry_of c.self.inside.values.items) (subst Rise (numbers_are c.self.inside.values.items) c.self.invariant))
