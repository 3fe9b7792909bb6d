use Rattle.std.proofs.Common.{◌≡◌, length, take, vec_len}
use Rattle.v_design.specs.PlainDesigns.{design_of}
use Rattle.wait_index.specs.Index.{process_lists}
use Rattle.wait_index.specs.Tables.{TablesBuilt}
use Rattle.wait_index.proofs.index.WaitIndex.new.Given as goal

abbrev pub invariant-processes : goal.invariant-processes
invariant-processes l = record {
  built : TablesBuilt (take l.number (design_of l.design).processes) l.seen.items (process_lists l.waiters.items);
  waiters_length : vec_len l.waiters ≡ length l.design.objects;
}
