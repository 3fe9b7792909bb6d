use Rattle.std.proofs.Common.{◌≡◌, ◌<◌, ◌≤◌, ℕ, List, [], map, take, vec_len}
use Rattle.vf_base.specs.Base.{object_number, process_number}
use Rattle.wait_index.specs.Index.{process_lists}
use Rattle.wait_index.specs.Tables.{WaitersAdded}
use Rattle.wait_index.proofs.index.add_waiters.Given as goal

abbrev pub invariant-objects : goal.invariant-objects
invariant-objects l = record {
  added : (before : List (List ℕ)) → WaitersAdded (process_number l.process) [] before l.initial.seen.items (process_lists l.initial.waiters.items) →
      WaitersAdded (process_number l.process) (map object_number (take l.object-index l.objects)) before l.seen.items (process_lists l.waiters.items);
  alike : vec_len l.seen ≡ vec_len l.waiters;
}
