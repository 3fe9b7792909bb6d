-- The law is proved in `Passed`.
use Rattle.quiet_index.proofs.Passed.{copies_pass_over}
use Rattle.quiet_index.proofs.copies_pass_over.Goals as goal

pub returns : goal.returns
returns c = copies_pass_over c.first_run_goes_on.ensures c.quiet_slots_pass.ensures c.index_tells_quiet.ensures
