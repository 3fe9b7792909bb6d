-- What decides orders of events fast (nothing of the language).
use Rattle.std.specs.Prelude.{◌≡◌, ℕ, ◌<◌, true, List, length, get_or}
use Rattle.v_design.specs.Logs.{LoggedPhase, orders}
use Rattle.causal_monitor.specs.Phases.{CausesComeBefore}

-- for each event an earlier one, or itself, that orders it
abbrev pub AreJumps : LoggedPhase → List ℕ → Type 0
AreJumps log jumps = (event : ℕ) → event < length jumps → orders log (get_or jumps event 0) event ≡ true

-- the jumps of a log's events
pub record HasJumps (log : LoggedPhase) (list : List ℕ) : Type 0 where
  pub earlier : CausesComeBefore log
  pub count : length list ≡ length log.events
  pub jumps : AreJumps log list
