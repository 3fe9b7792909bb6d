-- By the laws of blocks.
use Rattle.shown_blocks.proofs.Passed.{BlockLaws}
use Rattle.passed_blocks.proofs.Assembled.{passed-behind}
use Rattle.passed_blocks.proofs.Possible.{can-take}
use Rattle.passed_blocks.proofs.blocks_are_passed.Goals as goal

pub returns-clause-take : goal.returns-clause-take
returns-clause-take c =
    let laws : BlockLaws = record {
      told = c.places_are_told.ensures;
      windows = c.places_in_windows.ensures;
      begin = c.blocks_are_told.ensures.begin;
      runs = c.blocks_are_told.ensures.runs;
      leave = c.blocks_leave.ensures;
      ends = c.ends_of_blocks.ensures;
      boundary = c.processes_between_runs.ensures.boundary;
      later = c.pending_is_told.ensures.later;
      lanes = c.pending_is_told.ensures.lanes;
      changes = c.events_are_told.ensures.parts;
      time = c.own_runs.ensures.time;
    } in
    can-take laws c.phases_follow.ensures.phases c.blocks_are_told.ensures.end

pub returns-clause-pass : goal.returns-clause-pass
returns-clause-pass c =
    let laws : BlockLaws = record {
      told = c.places_are_told.ensures;
      windows = c.places_in_windows.ensures;
      begin = c.blocks_are_told.ensures.begin;
      runs = c.blocks_are_told.ensures.runs;
      leave = c.blocks_leave.ensures;
      ends = c.ends_of_blocks.ensures;
      boundary = c.processes_between_runs.ensures.boundary;
      later = c.pending_is_told.ensures.later;
      lanes = c.pending_is_told.ensures.lanes;
      changes = c.events_are_told.ensures.parts;
      time = c.own_runs.ensures.time;
    } in
    passed-behind laws
