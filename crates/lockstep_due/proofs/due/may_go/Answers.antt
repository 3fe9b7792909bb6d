-- No state is kept of any process.
use Rattle.std.proofs.Common.{sym, ◌∙◌}
use Rattle.lockstep_due.proofs.Entries.{none-first, none-kept}
use Rattle.lockstep_due.proofs.due.may_go.Goals as goal

pub returns-clause-states : goal.returns-clause-states
returns-clause-states g c = λ yes. none-kept c.args.copy.now.states (none-first c.next_state.result _ (sym c.is_some.ensures ∙ c.if-is_some.false) c.next_state.ensures)
