use Rattle.std.proofs.Common.{◌≡◌, true, ◌++◌, ◌∷◌, [], map, Ok, ap, sym, ◌∙◌, arith}
use Rattle.std.proofs.lemmas.List.{map_push}
use Rattle.std.proofs.lemmas.Result.{err_from_is_err_and}
use Rattle.v_readers.specs.declared.class.Class.TheVariants as classes
use Rattle.v_readers.specs.Reading.{next_class, is_class}
use Rattle.v_readers.specs.Reads.{element-next, element-fail, element-end}
use Rattle.v_expr.proofs.readers.separated.Goals as goal

pub returns-in_err-next-clause-reads : goal.returns-in_err-next-clause-reads
returns-in_err-next-clause-reads g c =
    let p = err_from_is_err_and c.from_residual-in_err-next.result c.from_residual-in_err-next.ensures.1 in
    let comma : is_class classes.Comma (next_class c.row.rest.now) ≡ true = sym c.is_next.ensures ∙ c.row-test.true in
    rw (p.1, p.2, c.row.invariant.same)
    (element-fail classes.Comma (g.R.PartReader.reader c.args.parts.now) (map g.R.PartReader.tree_of c.row.row.items) c.row.rest.now _ c.in_ok-after.after.now c.in_err-next.field-0.0 comma
    c.in_ok-after.ensures.reads c.in_err-next.ensures.reads)

pub row-preserved : goal.row-preserved
row-preserved g c =
    let comma : is_class classes.Comma (next_class c.row.rest.now) ≡ true = sym c.is_next.ensures ∙ c.row-test.true in
    let pushed : map g.R.PartReader.tree_of c.push-in-row.new.self.items ≡ map g.R.PartReader.tree_of c.row.row.items ++ g.R.PartReader.tree_of c.in_ok-next.next ∷ [] =
    ap (map g.R.PartReader.tree_of) c.in_ok-push-2.ensures.items ∙ map_push g.R.PartReader.tree_of c.row.row.items c.in_ok-next.next in
    rw pushed (record {
      same = c.row.invariant.same
          ∙ element-next classes.Comma (g.R.PartReader.reader c.args.parts.now) (map g.R.PartReader.tree_of c.row.row.items) c.row.rest.now _ c.in_ok-after.after.now c.in_ok-next.after.now
          (g.R.PartReader.tree_of c.in_ok-next.next) comma
          c.in_ok-after.ensures.reads c.in_ok-next.ensures.reads (omega (arith, c.in_ok-after.ensures.shorter, c.in_ok-next.ensures.shorter));
      shorter = omega (arith, c.in_ok-after.ensures.shorter, c.in_ok-next.ensures.shorter, c.row.invariant.shorter);
    })

pub returns-clause-reads : goal.returns-clause-reads
returns-clause-reads g c =
    c.row.invariant.same
    ∙ element-end classes.Comma (g.R.PartReader.reader c.args.parts.now) (map g.R.PartReader.tree_of c.row.row.items) c.row.rest.now (sym c.is_next.ensures ∙ c.row-test.false)
    ∙ ap (λ w. Ok (map g.R.PartReader.tree_of w, c.row.rest.now)) (sym c.from_vec.ensures)
