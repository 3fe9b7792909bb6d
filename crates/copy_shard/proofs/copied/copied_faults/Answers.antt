-- One fault more.
use Rattle.std.proofs.Common.{◌≡◌, ◌+◌, false, List, sym, subst, take}
use Rattle.std.proofs.lemmas.List.{take_all}
use Rattle.std.specs.List.{AllZip}
use Rattle.shard_windows.specs.copy_window.ShardFaults.{kept_by}
use Rattle.shard_windows.specs.copy_window.declared.fault.ShardFault.{ShardFault}
use Rattle.copy_shard.specs.Copied.{IsCopied}
use Rattle.copy_shard.proofs.Copies.{copied-more, held-at}
use Rattle.copy_shard.proofs.copied.copied_faults.Goals as goal

pub copied_fault-requires : goal.copied_fault-requires
copied_fault-requires c =
    held-at (λ (own : ShardFault). kept_by own ≡ false) c.args.faults.now c.faults.own-index c.own-item.result c.requires c.faults-test.true c.own-item.is

pub faults-preserved : goal.faults-preserved
faults-preserved c =
    subst (AllZip IsCopied (take (c.faults.own-index + 1) c.args.faults.now)) (sym c.in_ok-push.ensures.items)
    (copied-more c.args.faults.now c.faults.copies.items c.faults.own-index c.own-item.result c.in_ok-copy.copy c.faults-test.true c.own-item.is c.faults.invariant c.in_ok-copy.ensures)

pub returns : goal.returns
returns c =
    subst (λ (l : List ShardFault). AllZip IsCopied l c.faults.copies.items) (take_all c.faults.own-index c.args.faults.now c.faults-test.false) c.faults.invariant
