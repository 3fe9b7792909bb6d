use Rattle.std.proofs.Common.{subst}
use Rattle.copy_laws.specs.Differences.{Ascend}
use Rattle.copy_state.proofs.TableLaws.{ascend-table}
use Rattle.copy_state.proofs.value_table.ValueTable.ascending.Goals as goal

pub returns : goal.returns
returns c = subst Ascend c.self.view_is (ascend-table 0 c.self.inside.values.items)
