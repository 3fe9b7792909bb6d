-- A window of the good first run with its blocks and its wakes, and these as they are pushed (slots by IEEE 1364-2001, clause 5).
use Rattle.std.specs.Prelude.{◌≡◌}
use Rattle.good_trace.specs.Traces.{WindowKept}
use Rattle.run_trace.specs.declared.trace.RunTrace.{RunTrace}
use Rattle.window_blocks.specs.Kept.{BlocksKept}
use Rattle.window_wakes.specs.Wakes.{WakesKept}

-- a window of the good machine's trace, its blocks and its wakes are of the same slots
pub record AreOfOneWindow (window : WindowKept) (blocks : BlocksKept) (wakes : WakesKept) : Type 0 where
  pub blocks_begin : blocks.before ≡ window.before
  pub blocks_end : blocks.through ≡ window.through
  pub wakes_begin : wakes.before ≡ window.before
  pub wakes_end : wakes.through ≡ window.through

module _ {N : Type 0} where
  -- of the slots that were pushed since the last close the blocks and the wakes stand beside the trace
  pub record AreBeside (run : RunTrace N) : Type 0 where
    pub begins_is : run.begins ≡ run.trace.closed
    pub blocks_begin : run.blocks.before ≡ run.trace.closed
    pub blocks_end : run.blocks.through ≡ run.trace.pushed
    pub wakes_begin : run.wakes.before ≡ run.trace.closed
    pub wakes_end : run.wakes.through ≡ run.trace.pushed
