-- Moments of a window before which no event touches a copy that keeps values and updates (events by IEEE 1364-2001, clause 5; nonblocking updates by clause 9.2.2).
use Rattle.std.specs.Prelude.{◌≡◌, ℕ, ◌<◌, true, List, is_some, length}
use Rattle.v_design.specs.Designs.{FlatDesign, FaultSite}
use Rattle.v_design.specs.States.{LaterUpdate}
use Rattle.copy_laws.specs.Differences.{own_of}
use Rattle.trace_window.specs.Acted.{stepped_at}
use Rattle.trace_window.specs.Moments.{Seen}
use Rattle.copy_state.specs.Kept.{CopyKept}
use Rattle.copy_skip.specs.Limits.{NoneBetween, AreLeftAlone, SiteLeftAlone}

-- no process below one of which updates are kept takes a step, itself or its lane, from one moment to before another
abbrev pub StepsLeftAlone : List Seen → List (ℕ × List LaterUpdate) → ℕ → ℕ → ℕ → Type 0
StepsLeftAlone events updates below first limit =
    (process : ℕ) → process < below → is_some (own_of updates process) ≡ true → NoneBetween (stepped_at events process) first limit

-- updates are kept of processes that are there alone
abbrev pub AreProcesses : FlatDesign → List (ℕ × List LaterUpdate) → Type 0
AreProcesses design updates = (process : ℕ) → is_some (own_of updates process) ≡ true → process < length design.processes

-- all events from one moment to before another leave a copy of a fault alone: they read and write no object that differs, nor the fault's variable; evaluate neither the fault's node nor one that reads
-- such an object; and are no steps of processes of which updates are kept, nor of their lanes
pub record LeftAlone (design : FlatDesign) (site : FaultSite) (copy : CopyKept) (events : List Seen) (first limit : ℕ) : Type 0 where
  pub values : AreLeftAlone design events copy.values (length design.objects) first limit
  pub site_alone : SiteLeftAlone design events site first limit
  pub steps : StepsLeftAlone events copy.updates (length design.processes) first limit
