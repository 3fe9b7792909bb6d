use Rattle.std.proofs.Common.{ℕ, List, map, drop, ◌+◌, ap, sym, ◌∙◌}
use Rattle.v_names.specs.Names.{given_of}
use Rattle.module_scope.specs.declared.given.Given.{Given}
use Rattle.module_scope.specs.Givens.{given_parameter, given_seen, value_or}
use Rattle.name_checks.specs.Rows.{drop-step}
use Rattle.module_scope.proofs.Passes.{given-turn}
use Rattle.module_scope.proofs.given.given_values.Goals as goal

pub given-preserved : goal.given-preserved
given-preserved c = λ (name : List ℕ).
    given-turn (given_parameter c.one-item.result) (map given_parameter (drop (c.given.one-index + 1) c.args.given.now)) name (given_of (given_seen c.given.values) name)
    (given_of (given_seen c.keep_given.new.values) name)
    (given_of (map given_parameter c.args.given.now) name) (c.in_ok-keep_given.ensures name)
    (ap (λ (gs : List Given). value_or (given_of (given_seen c.given.values) name) (given_of (map given_parameter gs) name))
    (sym (drop-step c.args.given.now c.given.one-index c.one-item.result c.given-test.true c.one-item.is)) ∙ c.given.invariant name)
