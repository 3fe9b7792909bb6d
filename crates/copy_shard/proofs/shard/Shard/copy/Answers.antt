-- The copy stands as the shard does.
use Rattle.std.proofs.Common.{◌≡◌, false, List, map, sym, subst, ◌∙◌}
use Rattle.std.specs.List.{AllZip}
use Rattle.vf_base.specs.Lists.{AllHold}
use Rattle.shard_windows.specs.copy_window.ShardFaults.{kept_by}
use Rattle.shard_windows.specs.copy_window.declared.fault.ShardFault.{ShardFault}
use Rattle.copy_shard.specs.Copied.{IsCopied}
use Rattle.copy_shard.specs.Kept.{fault_kept}
use Rattle.copy_shard.proofs.Copies.{differences-same_each, found-same, is-shard_same, places-same, shard-same, steps-same}
use Rattle.copy_shard.proofs.Standing.{all-stand}
use Rattle.copy_shard.proofs.shard.Shard.copy.Goals as goal

pub copied_faults-requires : goal.copied_faults-requires
copied_faults-requires g c = subst (AllHold (λ (own : ShardFault). kept_by own ≡ false)) (sym c.deref-2.ensures.value) c.self.invariant.judged

pub invariant_of-result : goal.invariant_of-result
invariant_of-result g c =
    let s = c.self.inside in
    is-shard_same g.N.World.design g.N.World.plan s.gone s.reached s.numbers.items c.in_ok-numbers.numbers.items s.faults.items c.in_ok-faults.faults.items c.self.invariant
    (c.in_ok-numbers.ensures.items ∙ c.deref.ensures.value)
    (subst (λ (l : List ShardFault). AllZip IsCopied l c.in_ok-faults.faults.items) c.deref-2.ensures.value c.in_ok-faults.ensures)

pub returns-clause-same : goal.returns-clause-same
returns-clause-same g c =
    let s = c.self.inside in
    shard-same s.gone s.faults.items c.deref-2.result.now c.in_ok-faults.faults.items c.args.self.now c.self.view_is c.deref-2.ensures.value c.in_ok-faults.ensures

pub returns-clause-places : goal.returns-clause-places
returns-clause-places g c =
    let s = c.self.inside in
    let same = shard-same s.gone s.faults.items c.deref-2.result.now c.in_ok-faults.faults.items c.args.self.now c.self.view_is c.deref-2.ensures.value c.in_ok-faults.ensures in
    places-same c.args.self.now.faults (map fault_kept c.in_ok-faults.faults.items) same.faults

pub returns-clause-found : goal.returns-clause-found
returns-clause-found g c =
    let s = c.self.inside in
    let same = shard-same s.gone s.faults.items c.deref-2.result.now c.in_ok-faults.faults.items c.args.self.now c.self.view_is c.deref-2.ensures.value c.in_ok-faults.ensures in
    found-same c.args.self.now.faults (map fault_kept c.in_ok-faults.faults.items) same.faults

pub returns-clause-differences : goal.returns-clause-differences
returns-clause-differences g c =
    let s = c.self.inside in
    let same = shard-same s.gone s.faults.items c.deref-2.result.now c.in_ok-faults.faults.items c.args.self.now c.self.view_is c.deref-2.ensures.value c.in_ok-faults.ensures in
    differences-same_each g.N.World.design c.args.self.now.faults (map fault_kept c.in_ok-faults.faults.items) same.faults

pub returns-clause-stands : goal.returns-clause-stands
returns-clause-stands g c =
    let s = c.self.inside in
    let is = is-shard_same g.N.World.design g.N.World.plan s.gone s.reached s.numbers.items c.in_ok-numbers.numbers.items s.faults.items c.in_ok-faults.faults.items c.self.invariant
    (c.in_ok-numbers.ensures.items ∙ c.deref.ensures.value)
    (subst (λ (l : List ShardFault). AllZip IsCopied l c.in_ok-faults.faults.items) c.deref-2.ensures.value c.in_ok-faults.ensures) in
    all-stand g.N.World.design g.N.World.plan s.gone s.reached.passed c.in_ok-faults.faults.items is.judged is.each

pub returns-clause-steps : goal.returns-clause-steps
returns-clause-steps g c tally =
    let s = c.self.inside in
    let same = shard-same s.gone s.faults.items c.deref-2.result.now c.in_ok-faults.faults.items c.args.self.now c.self.view_is c.deref-2.ensures.value c.in_ok-faults.ensures in
    steps-same g.N.World.design g.N.World.plan tally c.args.self.now (record { gone = s.gone; faults = map fault_kept c.in_ok-faults.faults.items }) same
