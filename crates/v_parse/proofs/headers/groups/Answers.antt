use Rattle.std.proofs.Common.{◌≡◌, true, ◌++◌, ◌∷◌, [], map, Ok, ap, sym, ◌∙◌, arith}
use Rattle.std.proofs.lemmas.List.{map_push}
use Rattle.std.proofs.lemmas.Result.{err_from_is_err_and}
use Rattle.v_tree.specs.Views.{parameters_of}
use Rattle.v_readers.specs.declared.class.Class.TheVariants as classes
use Rattle.v_readers.specs.Reading.{next_class, is_class}
use Rattle.v_parse.proofs.Turns.{groups-next, groups-fail, groups-end}
use Rattle.v_parse.proofs.headers.groups.Goals as goal

pub returns-in_err-row-clause-reads : goal.returns-in_err-row-clause-reads
returns-in_err-row-clause-reads c =
    let p = err_from_is_err_and c.from_residual-in_err-row.result c.from_residual-in_err-row.ensures.1 in
    let comma : is_class classes.Comma (next_class c.groups.rest.now) ≡ true = sym c.is_next.ensures ∙ c.groups-test.true in
    rw (p.1, p.2, c.groups.invariant.same)
    (groups-fail c.args.levels (map parameters_of c.groups.row.before.items ++ parameters_of c.groups.row.last ∷ []) c.groups.rest.now c.in_ok-after.after.now _ c.in_err-row.field-0.0 comma
    c.in_ok-after.ensures.reads c.in_err-row.ensures.reads)

pub groups-preserved : goal.groups-preserved
groups-preserved c =
    let comma : is_class classes.Comma (next_class c.groups.rest.now) ≡ true = sym c.is_next.ensures ∙ c.groups-test.true in
    record {
      same = c.groups.invariant.same
          ∙ groups-next c.args.levels (map parameters_of c.groups.row.before.items ++ parameters_of c.groups.row.last ∷ []) _ c.groups.rest.now c.in_ok-after.after.now _ _ comma
          c.in_ok-after.ensures.reads c.in_ok-row.ensures.reads (omega (arith, c.in_ok-after.ensures.shorter, c.in_ok-row.ensures.shorter));
      shorter = omega (arith, c.in_ok-after.ensures.shorter, c.in_ok-row.ensures.shorter, c.groups.invariant.shorter);
    }

pub returns-clause-reads : goal.returns-clause-reads
returns-clause-reads c =
    let before = c.groups.row.before.items in
    c.groups.invariant.same
    ∙ groups-end c.args.levels (map parameters_of before ++ parameters_of c.groups.row.last ∷ []) c.groups.rest.now (sym c.is_next.ensures ∙ c.groups-test.false)
    ∙ ap (λ w. Ok (w, c.groups.rest.now)) (sym (ap (map parameters_of) c.in_ok-push.ensures.items ∙ map_push parameters_of before c.groups.row.last))
    ∙ ap (λ w. Ok (map parameters_of w, c.groups.rest.now)) (sym c.from_vec.ensures)
