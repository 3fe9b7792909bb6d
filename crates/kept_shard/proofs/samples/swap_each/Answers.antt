-- One fault more.
use Rattle.std.proofs.Common.{◌<◌, length, arith}
use Rattle.shard_windows.proofs.window_faults.Lists.{at-read}
use Rattle.kept_shard.proofs.Swapping.{swapped-all, swapped-more, swapped-none}
use Rattle.kept_shard.proofs.samples.swap_each.Goals as goal

pub faults-init : goal.faults-init
faults-init c = swapped-none c.args.faults.now.items c.args.kept.now.items

pub index_mut-own-requires : goal.index_mut-own-requires
index_mut-own-requires c = (let a = c.faults.invariant.count in omega (arith, c.faults-test.true, c.len-place-end.ensures, a))

pub index_mut-one-requires : goal.index_mut-one-requires
index_mut-one-requires c = (let a = c.faults.invariant.kept_count in omega (arith, c.faults-test.true, c.len-place-end.ensures, a, c.requires))

pub faults-preserved : goal.faults-preserved
faults-preserved c =
    let a = c.faults.invariant.count in
    let b = c.faults.invariant.kept_count in
    let low : c.faults.place < length c.args.faults.now.items = omega (arith, c.faults-test.true, c.len-place-end.ensures) in
    swapped-more c.faults.place c.args.faults.now.items c.args.kept.now.items c.faults.faults.items c.faults.kept.items c.index_mut-own.result.now c.swap_samples.new.own
    c.index_mut-one.result.now c.swap_samples.new.kept c.faults.invariant low c.requires
    (at-read c.faults.faults.items c.faults.place c.index_mut-own.result.now (omega (arith, low, a)) c.index_mut-own.ensures.value)
    (at-read c.faults.kept.items c.faults.place c.index_mut-one.result.now (omega (arith, low, b, c.requires)) c.index_mut-one.ensures.value) c.swap_samples.ensures

pub returns : goal.returns
returns c =
    swapped-all c.faults.place c.args.faults.now.items c.args.kept.now.items c.faults.faults.items c.faults.kept.items c.faults.invariant
    (omega (arith, c.faults-test.false, c.len-place-end.ensures))
