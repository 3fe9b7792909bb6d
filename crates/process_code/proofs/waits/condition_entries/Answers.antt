use Rattle.std.proofs.Common.{◌+◌, get_or, drop}
use Rattle.std.specs.Prelude.{nat_eq}
use Rattle.std.specs.HashSet.{contains}
use Rattle.std.proofs.lemmas.List.{drop_more}
use Rattle.process_code.proofs.WaitEntries.{enters-more}
use Rattle.process_code.proofs.waits.condition_entries.Goals as goal

pub pieces-preserved : goal.pieces-preserved
pieces-preserved c =
    let items = c.deref-piece-items.result.now in
    let i = c.pieces.piece-index in
    enters-more items (get_or items i (record { object = record { 0 = 0 }; width = 0 })) (drop (i + 1) items) (drop i items) (contains nat_eq c.pieces.seen) (contains nat_eq c.push_once.new.seen)
    c.pieces.entries.items c.push_once.new.entries.items (drop_more items i (record { object = record { 0 = 0 }; width = 0 }) c.pieces-test.true) c.in_ok-push_once.ensures.seen
    c.in_ok-push_once.ensures.entries c.pieces.invariant
