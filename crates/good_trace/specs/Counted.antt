-- The process and lane steps of a slot by its log (IEEE 1364-2001, clause 5).
use Rattle.std.specs.Prelude.{ℕ, Bool, true, false, List, count_by, sum_by}
use Rattle.causal_monitor.specs.declared.slot.Actor.{Actor}
use Rattle.causal_monitor.specs.declared.slot.Actor.TheVariants.{Step, Lane, Eval, Move}
use Rattle.causal_monitor.specs.declared.slot.SlotLog.{SlotLog}

-- whether an event is a step of a process or of its lane
abbrev pub is_step : Actor → Bool
is_step (Step process) = true
is_step (Lane process) = true
is_step (Eval node) = false
is_step (Move node) = false

-- the process and lane steps of all phases of a slot
abbrev pub steps_logged : SlotLog → ℕ
steps_logged log = sum_by (λ (actors : List Actor). count_by is_step actors) log.actors
