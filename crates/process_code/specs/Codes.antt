-- The code of a process (IEEE 1364-2001, clause 9).
use Rattle.std.specs.Prelude.{◌≡◌, ℕ, ◌≤◌, List, [], map, length, slice_get, Option, Some, Vec}
use Rattle.std.specs.declared.alloc.Global.{Global}
use Rattle.v_design.specs.Plain.{statement_of}
use Rattle.v_design.specs.declared.tree.WaitEntry.{WaitEntry}
use Rattle.v_design.specs.Sized.{IsSizedStatement}
use Rattle.v_design.specs.declared.plan.Process.{Process}
use Rattle.process_code.specs.Rests.{Part, opened_parts}
use Rattle.process_code.specs.Positions.{rests_of, StandsAt}
use Rattle.process_code.specs.Marks.{marks_at, marks_of}
use Rattle.process_code.specs.Layouts.{Layout, layout_of_body}
use Rattle.process_code.specs.Compiling.{Leads}
use Rattle.process_code.specs.Waits.{AreWaits}
use Rattle.process_code.specs.declared.code.Spot.{Spot}
use Rattle.process_code.specs.declared.code.Ways.{Ways}
use Rattle.process_code.specs.declared.code.Code.{Code}

-- the rest that belongs to each position of code
abbrev pub rests_in_code : Code → List (List Part)
rests_in_code code = rests_of code.spots.items

-- what stands at the positions of code
abbrev pub layout_in_code : Code → Layout
layout_in_code code = record { rests = rests_in_code code; repeats = code.repeats }

-- code stands for a process: it begins with the opened body, and the ways of each spot lead where its steps go;
-- each spot stands before an earlier position, the process is sized, the entries of each wait are those of its statement, and the
-- spots have the marks of the body; what stands at each position, and the numbers of the repeats, are those of the body and of nothing else
pub record IsCodeOf (process : Process) (code : Code) : Type 0 where
  pub process_is : code.process.now ≡ process
  pub starts : StandsAt (rests_in_code code) code.start (opened_parts (statement_of process.body) [])
  pub in_step : length code.spots.items ≡ length code.ways.items
  pub led : (i : ℕ) (spot : Spot) (ways : Ways) → slice_get code.spots.items i ≡ Some spot → slice_get code.ways.items i ≡ Some ways →
      Leads code.repeats (rests_in_code code) spot ways
  pub falls : (i : ℕ) (spot : Spot) → slice_get code.spots.items i ≡ Some spot → spot.next ≤ i
  pub sized : IsSizedStatement (statement_of process.body)
  pub waits : AreWaits code.spots.items (map (λ (entries : Vec WaitEntry Global). entries.items) code.waits.items)
  pub marks : marks_at code.spots.items ≡ marks_of (statement_of process.body)
  pub layout : layout_in_code code ≡ layout_of_body (statement_of process.body)
