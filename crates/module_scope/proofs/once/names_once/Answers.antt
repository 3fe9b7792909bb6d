use Rattle.std.proofs.Common.{option_map}
use Rattle.module_scope.specs.Kept.{kept}
use Rattle.module_scope.specs.Declarations.{declaration_seen, declarations_seen}
use Rattle.module_scope.proofs.NamesOnce.{pushed-step}
use Rattle.module_scope.proofs.Grouping.{grouped-at}
use Rattle.module_scope.proofs.once.names_once.Goals as goal

pub all-preserved : goal.all-preserved
all-preserved c = record {
  once =
      pushed-step declaration_seen c.args.all.now c.all.declaration-index c.declaration-item.result (kept c.all.seen) (kept c.push_once.new.seen) (declarations_seen c.all.list.items)
      (declarations_seen c.push_once.new.list.items)
      (declarations_seen c.args.all.now) (option_map declaration_seen (kept c.in_ok-plains.plains c.declaration-item.result.name.now)) c.all-test.true c.declaration-item.is c.all.invariant.once
      c.in_ok-push_once.ensures.seen (c.in_ok-plains.ensures c.declaration-item.result.name.now) c.in_ok-push_once.ensures.pushed;
  grouped = λ groups h. c.in_ok-push_once.ensures.grouped.adds groups (grouped-at groups c.args.all.now c.all.declaration-index c.declaration-item.result h c.all-test.true c.declaration-item.is)
      (c.all.invariant.grouped groups h);
}
