use Rattle.std.proofs.Common.{◌≡◌, sym, ap, ◌∙◌, arith}
use Rattle.v_tree.specs.Views.{expression_of}
use Rattle.v_names.specs.Scopes.{Scope}
use Rattle.v_names.specs.Readings.{number_or, constant_of}
use Rattle.v_elab.specs.Statements.{unsigned_number, delay_number}
use Rattle.object_statements.proofs.delays.delay_over.Goals as goal

pub overflow_cast-units : goal.overflow_cast-units
overflow_cast-units c =
    let r = c.requires in
    let is : c.unsigned_or_zero-units.result ≡ delay_number r.0 (expression_of c.args.delay.now) =
    c.unsigned_or_zero-units.ensures ∙ ap (λ o. number_or 0 (unsigned_number o)) (c.in_ok-constant.ensures ∙ ap (λ (s : Scope). constant_of s 0 (expression_of c.args.delay.now)) (sym r.1.scope_is)) in
    let small = r.2 in
    omega (arith, is, small)
