-- What is left alone object by object, process by process, and at the fault's site.
use Rattle.std.proofs.Common.{◌≡◌, ℕ, ◌<◌, ◌≤◌, List, true, false, sym, subst, ◌∙◌}
use Rattle.std.proofs.lemmas.Bool.{eqb-true}
use Rattle.v_design.specs.Designs.{FlatDesign, FaultSite, VariableBit, OutputBit, GateTerminal, good_machine}
use Rattle.copy_laws.specs.Touches.{site_is_object, site_is_node}
use Rattle.trace_window.specs.Moments.{Seen}
use Rattle.trace_window.specs.Touched.{touched_at}
use Rattle.trace_window.specs.Acted.{evaluated_at}
use Rattle.copy_skip.specs.Limits.{SiteLeftAlone}
use Rattle.block_tables.specs.Tables.{SearchesTellTables}

site-object : (design : FlatDesign) (events : List Seen) (site : FaultSite) (object moment first limit : ℕ) → site_is_object site object ≡ true → SiteLeftAlone design events site first limit →
    first ≤ moment → moment < limit → touched_at (good_machine design) events object moment ≡ false
site-object design events (VariableBit at bit) object moment first limit is alone since before =
    subst (λ o. touched_at (good_machine design) events o moment ≡ false) (eqb-true at object is) (alone moment since before)
site-object design events (OutputBit node at bit) object moment first limit is alone since before = cc
site-object design events (GateTerminal node terminal) object moment first limit is alone since before = cc

site-node : (design : FlatDesign) (events : List Seen) (site : FaultSite) (number moment first limit : ℕ) → site_is_node site number ≡ true → SiteLeftAlone design events site first limit →
    first ≤ moment → moment < limit → evaluated_at events number moment ≡ false
site-node design events (VariableBit at bit) number moment first limit is alone since before = cc
site-node design events (OutputBit node at bit) number moment first limit is alone since before =
    subst (λ n. evaluated_at events n moment ≡ false) (eqb-true node number is) (alone moment since before)
site-node design events (GateTerminal node terminal) number moment first limit is alone since before =
    subst (λ n. evaluated_at events n moment ≡ false) (eqb-true node number is) (alone moment since before)

pub searches_tell_tables : SearchesTellTables
searches_tell_tables design fault copy kept events first limit there processes same alone = record {
  touches = λ object moment own since before. let k = sym (same.values object) ∙ own in (alone.values object (there object k) k).touches moment since before;
  site_object = λ object moment is since before. site-object design events fault.site object moment first limit is alone.site_alone since before;
  site_node = λ number moment is since before. site-node design events fault.site number moment first limit is alone.site_alone since before;
  inputs = λ object number moment node own here reads since before.
      let k = sym (same.values object) ∙ own in (alone.values object (there object k) k).reads number node here reads moment since before;
  steps = λ process moment own since before. let k = sym (same.writes process) ∙ own in alone.steps process (processes process k) k moment since before;
}
