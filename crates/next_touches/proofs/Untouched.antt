-- Events that leave alone what is kept of a fault, from a later moment on and up to an earlier one.
use Rattle.std.proofs.Common.{ℕ, ◌≤◌, List, arith}
use Rattle.v_design.specs.Designs.{FlatDesign, FaultSite, VariableBit, OutputBit, GateTerminal}
use Rattle.copy_state.specs.Kept.{CopyKept}
use Rattle.copy_skip.specs.Limits.{SiteLeftAlone}
use Rattle.block_skip.specs.Blocks.{LeftAlone}
use Rattle.trace_window.specs.Moments.{Seen}

-- the site
pub site-within : (design : FlatDesign) (events : List Seen) (site : FaultSite) (first limit later lower : ℕ) → first ≤ later → lower ≤ limit → SiteLeftAlone design events site first limit →
    SiteLeftAlone design events site later lower
site-within design events (VariableBit object bit) first limit later lower high low h = λ number since before. h number (omega (arith, since, high)) (omega (arith, before, low))
site-within design events (OutputBit node object bit) first limit later lower high low h = λ number since before. h number (omega (arith, since, high)) (omega (arith, before, low))
site-within design events (GateTerminal node terminal) first limit later lower high low h = λ number since before. h number (omega (arith, since, high)) (omega (arith, before, low))

-- all of a copy
pub left-within : (design : FlatDesign) (site : FaultSite) (copy : CopyKept) (events : List Seen) (first limit later lower : ℕ) → first ≤ later → lower ≤ limit →
    LeftAlone design site copy events first limit → LeftAlone design site copy events later lower
left-within design site copy events first limit later lower high low h = record {
  values = λ object there some.
      let is = h.values object there some in
      record {
        touches = λ number since before. is.touches number (omega (arith, since, high)) (omega (arith, before, low));
        reads = λ node found at has number since before. is.reads node found at has number (omega (arith, since, high)) (omega (arith, before, low));
      };
  site_alone = site-within design events site first limit later lower high low h.site_alone;
  steps = λ process there some number since before. h.steps process there some number (omega (arith, since, high)) (omega (arith, before, low));
}

-- there is no event from a moment to before itself
site-none : (design : FlatDesign) (events : List Seen) (site : FaultSite) (first : ℕ) → SiteLeftAlone design events site first first
site-none design events (VariableBit object bit) first = λ number since before. absurd (omega (arith, since, before))
site-none design events (OutputBit node object bit) first = λ number since before. absurd (omega (arith, since, before))
site-none design events (GateTerminal node terminal) first = λ number since before. absurd (omega (arith, since, before))

pub left-none : (design : FlatDesign) (site : FaultSite) (copy : CopyKept) (events : List Seen) (first : ℕ) → LeftAlone design site copy events first first
left-none design site copy events first = record {
  values = λ object there some. record {
    touches = λ number since before. absurd (omega (arith, since, before));
    reads = λ node found at has number since before. absurd (omega (arith, since, before));
  };
  site_alone = site-none design events site first;
  steps = λ process there some number since before. absurd (omega (arith, since, before));
}
