-- What is kept of a fault whose grading ended (nothing of the language).
use Rattle.std.specs.Prelude.{◌≡◌, true, None, is_some}
use Rattle.copy_state.specs.Kept.{nothing_kept}
use Rattle.copy_lockstep.specs.copy_window.declared.fault.ShardFault.{ShardFault}

-- one whose grading ended keeps nothing of its faulty machine's state; any other stays as it is
pub record LetsGo (old new : ShardFault) : Type 0 where
  pub goes_on : old.end ≡ None → new ≡ old
  pub ended : is_some old.end ≡ true → new ≡ record old { copy = nothing_kept old.copy.fault }
