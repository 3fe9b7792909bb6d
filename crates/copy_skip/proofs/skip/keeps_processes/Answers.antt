-- A list without a first entry is empty.
use Rattle.std.proofs.Common.{sym, ◌∙◌}
use Rattle.vf_base.specs.Base.{process_number}
use Rattle.copy_skip.proofs.Limited.{empty-by}
use Rattle.copy_skip.proofs.skip.keeps_processes.Goals as goal

pub returns-else-is_some : goal.returns-else-is_some
returns-else-is_some c = record {
  none = λ e. (
    empty-by process_number c.next_state.result c.args.copy.now.states c.next_state.ensures (sym c.if-is_some.ensures),
    empty-by process_number c.next_updates.result c.args.copy.now.updates c.next_updates.ensures (sym c.is_some-else-is_some.ensures ∙ e),
  );
}
