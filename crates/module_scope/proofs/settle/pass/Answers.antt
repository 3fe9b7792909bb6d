use Rattle.std.proofs.Common.{Option, option_map, ap, ◌∙◌, subst}
use Rattle.v_names.specs.Scopes.{SignedValue}
use Rattle.v_names.specs.SizeViews.{signed_value}
use Rattle.module_scope.specs.Kept.{kept}
use Rattle.module_scope.specs.Givens.{given_seen}
use Rattle.module_scope.specs.Settled.{IsTurn}
use Rattle.module_scope.specs.Declarations.{declaration_seen, declarations_seen}
use Rattle.module_scope.proofs.Passes.{parameter-seen, way-start, way-step, way-last}
use Rattle.module_scope.proofs.Grouping.{grouped-at}
use Rattle.module_scope.proofs.settle.pass.Goals as goal

pub declared-init : goal.declared-init
declared-init c = record {
  way = way-start (given_seen c.args.given.now) (declarations_seen c.args.declared.now) c.args.scope.now c.requires.settled;
  ranges = c.requires.ranges;
}

pub declared-preserved : goal.declared-preserved
declared-preserved c = record {
  way =
      let P : Option SignedValue → Type 0 = λ g. IsTurn g (declaration_seen c.declaration-item.result) c.declared.scope c.settle.new.scope c.in_ok-now.now in
      way-step declaration_seen c.args.declared.now c.declared.declaration-index c.declaration-item.result c.args.given.now c.args.scope.now c.declared.scope c.settle.new.scope c.declared.changed
      c.in_ok-now.now c.either-changed.result
      c.requires.apart c.declared-test.true c.declaration-item.is c.declared.invariant.way
      (subst P (ap (option_map signed_value) (c.get.ensures ∙ ap (kept c.args.given.now) c.as_bytes.ensures)) c.in_ok-now.ensures.turn) c.either-changed.ensures;
  ranges = c.in_ok-now.ensures.ranges;
}

pub returns-clause-passed : goal.returns-clause-passed
returns-clause-passed c =
    way-last declaration_seen c.args.declared.now c.declared.declaration-index (given_seen c.args.given.now) c.args.scope.now c.declared.scope c.declared.changed c.declared-test.false
    c.declared.invariant.way

pub settle-requires-clause-grouped : goal.settle-requires-clause-grouped
settle-requires-clause-grouped c =
    grouped-at c.args.groups.now c.args.declared.now c.declared.declaration-index c.declaration-item.result c.requires.grouped c.declared-test.true c.declaration-item.is

pub settle-requires-clause-parameter : goal.settle-requires-clause-parameter
settle-requires-clause-parameter c =
    parameter-seen declaration_seen c.args.declared.now c.declared.declaration-index c.declaration-item.result (given_seen c.args.given.now) c.declared.scope c.requires.apart
    c.declared.invariant.way.settled c.declared-test.true c.declaration-item.is
