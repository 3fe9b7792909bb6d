-- What leaves a copy alone leaves what is kept in lockstep alone.
use Rattle.std.proofs.Common.{◌≡◌, ℕ, ◌<◌, ◌≤◌, List, length, Bool, true, false, refl, sym, ap, subst, ◌∙◌}
use Rattle.std.specs.Prelude.{is_some}
use Rattle.std.proofs.lemmas.Bool.{eqb-true}
use Rattle.v_design.specs.Designs.{FlatDesign, FaultSite, VariableBit, OutputBit, GateTerminal, StuckAt, good_machine}
use Rattle.copy_laws.specs.Differences.{own_of}
use Rattle.copy_laws.specs.Touches.{site_is_object, site_is_node}
use Rattle.copy_state.specs.Kept.{CopyKept}
use Rattle.copy_skip.specs.Limits.{AreThere, SiteLeftAlone, NoneTouches, NoneEvaluates}
use Rattle.trace_window.specs.Moments.{Seen}
use Rattle.trace_window.specs.Touched.{touched_at}
use Rattle.trace_window.specs.Acted.{evaluated_at}
use Rattle.block_skip.specs.Blocks.{AreProcesses, LeftAlone}
use Rattle.lockstep_slots.specs.Kept.{LockstepKept}
use Rattle.window_places.specs.Windows.{TablesLeave}
use Rattle.lockstep_places.specs.Limits.{IsKeptAs, LimitsTell}

site-object : (design : FlatDesign) (site : FaultSite) (events : List Seen) (first limit object moment : ℕ) → SiteLeftAlone design events site first limit → site_is_object site object ≡ true →
    first ≤ moment → moment < limit → touched_at (good_machine design) events object moment ≡ false
site-object design (VariableBit at bit) events first limit object moment alone is low high =
    let same : at ≡ object = eqb-true at object is in subst (λ o. touched_at (good_machine design) events o moment ≡ false) same (alone moment low high)
site-object design (OutputBit node at bit) events first limit object moment alone is low high = cc
site-object design (GateTerminal node terminal) events first limit object moment alone is low high = cc

site-node : (design : FlatDesign) (site : FaultSite) (events : List Seen) (first limit number moment : ℕ) → SiteLeftAlone design events site first limit → site_is_node site number ≡ true →
    first ≤ moment → moment < limit → evaluated_at events number moment ≡ false
site-node design (VariableBit at bit) events first limit number moment alone is low high = cc
site-node design (OutputBit node at bit) events first limit number moment alone is low high =
    let same : node ≡ number = eqb-true node number is in subst (λ n. evaluated_at events n moment ≡ false) same (alone moment low high)
site-node design (GateTerminal node terminal) events first limit number moment alone is low high =
    let same : node ≡ number = eqb-true node number is in subst (λ n. evaluated_at events n moment ≡ false) same (alone moment low high)

pub limits_tell : LimitsTell
limits_tell design fault copy kept events first limit same there processes alone = record {
  touches = λ object moment own low high.
      let is : is_some (own_of copy.values object) ≡ true = ap is_some (sym (same.values object)) ∙ own in (alone.values object (there object is) is).touches moment low high;
  site_object = λ object moment is low high. site-object design fault.site events first limit object moment alone.site_alone is low high;
  site_node = λ number moment is low high. site-node design fault.site events first limit number moment alone.site_alone is low high;
  inputs = λ object number moment node own here reads low high.
      let is : is_some (own_of copy.values object) ≡ true = ap is_some (sym (same.values object)) ∙ own in (alone.values object (there object is) is).reads number node here reads moment low high;
  steps = λ process moment own low high.
      let is : is_some (own_of copy.updates process) ≡ true = sym (same.writes process) ∙ own in alone.steps process (processes process is) is moment low high;
}
