use Rattle.std.proofs.Common.{sym, subst, ◌∙◌}
use Rattle.module_scope.specs.Givens.{given_seen}
use Rattle.module_scope.specs.Declarations.{declarations_seen}
use Rattle.module_scope.proofs.Settling.{settled-start}
use Rattle.module_scope.proofs.Complete.{settled-scope}
use Rattle.module_scope.specs.declared.ranges.GroupRanges.{GroupRanges}
use Rattle.module_scope.specs.Ranges.{kept_range, AreRanges}
use Rattle.module_scope.proofs.settle.scope_of.Goals as goal

pub settle_all-requires-clause-settled : goal.settle_all-requires-clause-settled
settle_all-requires-clause-settled c = settled-start (given_seen c.args.given.now) (declarations_seen c.args.declared.now) c.in_ok-settled.settled c.requires.apart c.in_ok-settled.ensures

pub settle_all-requires-clause-ranges : goal.settle_all-requires-clause-ranges
settle_all-requires-clause-ranges c = c.in_ok-settled_ranges.ensures c.in_ok-settled.settled c.args.groups.now

pub meanings-requires-clause-ranges : goal.meanings-requires-clause-ranges
meanings-requires-clause-ranges c =
    subst (λ (k : GroupRanges). AreRanges c.settle_all.new.scope c.args.groups.now (kept_range k)) (sym c.into_known-ranges.ensures) c.in_ok-settle_all.ensures.ranges.are_ranges

pub returns : goal.returns
returns c =
    c.in_ok-scope.ensures
    ∙ settled-scope (given_seen c.args.given.now) (declarations_seen c.args.declared.now) c.settle_all.new.scope c.in_ok-settle_all.ensures.settled c.in_ok-settle_all.ensures.still
