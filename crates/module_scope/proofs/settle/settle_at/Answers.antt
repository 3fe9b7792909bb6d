use Rattle.std.proofs.Common.{ap, ◌∙◌, arith}
use Rattle.module_scope.specs.Kept.{kept}
use Rattle.module_scope.specs.Declarations.{declaration_seen}
use Rattle.module_scope.specs.Givens.{given_seen}
use Rattle.module_scope.proofs.Passes.{parameter-seen, turn-seen}
use Rattle.module_scope.proofs.Grouping.{grouped-at}
use Rattle.module_scope.proofs.settle.settle_at.Goals as goal

pub returns-clause-settled : goal.returns-clause-settled
returns-clause-settled c =
    (turn-seen declaration_seen c.args.declared.now c.args.place c.index-declared-place.result c.args.given.now c.get-value.result c.args.scope.now c.settle.new.scope c.in_ok-settle.field-0
    c.requires.apart (omega arith) c.index-declared-place.is
    c.requires.settled (c.get-value.ensures ∙ ap (kept c.args.given.now) c.as_bytes.ensures) c.in_ok-settle.ensures.turn).0

pub returns-clause-fewer : goal.returns-clause-fewer
returns-clause-fewer c =
    (turn-seen declaration_seen c.args.declared.now c.args.place c.index-declared-place.result c.args.given.now c.get-value.result c.args.scope.now c.settle.new.scope c.in_ok-settle.field-0
    c.requires.apart (omega arith) c.index-declared-place.is
    c.requires.settled (c.get-value.ensures ∙ ap (kept c.args.given.now) c.as_bytes.ensures) c.in_ok-settle.ensures.turn).1

pub settle-requires-clause-grouped : goal.settle-requires-clause-grouped
settle-requires-clause-grouped c = grouped-at c.args.groups.now c.args.declared.now c.args.place c.index-declared-place.result c.requires.grouped (omega arith) c.index-declared-place.is

pub settle-requires-clause-parameter : goal.settle-requires-clause-parameter
settle-requires-clause-parameter c =
    parameter-seen declaration_seen c.args.declared.now c.args.place c.index-declared-place.result (given_seen c.args.given.now) c.args.scope.now c.requires.apart c.requires.settled (omega arith)
    c.index-declared-place.is
