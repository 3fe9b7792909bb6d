use Rattle.std.proofs.Common.{◌≡◌, ◌++◌, ◌∷◌, [], map, true, false, ap, sym, ◌∙◌, arith, rules}
use Rattle.std.proofs.lemmas.List.{map_push}
use Rattle.std.proofs.lemmas.Result.{err_from_is_err_and}
use Rattle.v_tree.specs.Views.{statement_of}
use Rattle.v_tree.specs.CaseParts.{case_part_of}
use Rattle.v_readers.specs.declared.class.Class.TheVariants as classes
use Rattle.v_readers.specs.Reading.{next_class, is_class}
use Rattle.v_stmt.specs.Statements.{begins, below_of}
use Rattle.v_stmt.proofs.Below.{body-next, body-fail, body-deep, body-end, items-next, items-fail, items-end}
use Rattle.v_stmt.proofs.statements.+statement.Goals as goal

pub block_body-returns-in_err-ready-clause-reads : goal.block_body-returns-in_err-ready-clause-reads
block_body-returns-in_err-ready-clause-reads t c =
    let p = err_from_is_err_and c.from_residual-in_err-ready.result c.from_residual-in_err-ready.ensures.1 in
    let more : begins (next_class c.body.rest.now) ≡ true = sym c.begins.ensures ∙ c.body-test.true in
    rw (p.1, p.2, c.body.invariant.same)
    (body-deep c.args.levels (map statement_of c.body.statements.items) c.body.rest.now c.in_err-ready.field-0.0 more c.in_err-ready.ensures.reads)

pub block_body-returns-in_err-next-clause-reads : goal.block_body-returns-in_err-next-clause-reads
block_body-returns-in_err-next-clause-reads t c =
    let p = err_from_is_err_and c.from_residual-in_err-next.result c.from_residual-in_err-next.ensures.1 in
    let more : begins (next_class c.body.rest.now) ≡ true = sym c.begins.ensures ∙ c.body-test.true in
    rw (p.1, p.2, c.body.invariant.same)
    (body-fail c.args.levels (map statement_of c.body.statements.items) c.body.rest.now c.in_err-next.field-0.0 c.in_ok-ready.ensures.low more c.in_err-next.ensures.reads)

pub block_body-body-preserved : goal.block_body-body-preserved
block_body-body-preserved t c =
    let more : begins (next_class c.body.rest.now) ≡ true = sym c.begins.ensures ∙ c.body-test.true in
    let pushed : map statement_of c.push.new.self.items ≡ map statement_of c.body.statements.items ++ statement_of c.in_ok-next.next.stmt ∷ [] =
    ap (map statement_of) c.in_ok-push.ensures.items ∙ map_push statement_of c.body.statements.items c.in_ok-next.next.stmt in
    rw pushed (record {
      same = c.body.invariant.same
          ∙ body-next c.args.levels (map statement_of c.body.statements.items) c.body.rest.now
          (statement_of c.in_ok-next.next.stmt) c.in_ok-next.after.now c.in_ok-ready.ensures.low more c.in_ok-next.ensures.reads c.in_ok-next.ensures.shorter;
      shorter = omega (arith, c.in_ok-next.ensures.shorter, c.body.invariant.shorter);
    })

pub block_body-returns-clause-reads : goal.block_body-returns-clause-reads
block_body-returns-clause-reads t c =
    c.body.invariant.same ∙ body-end c.args.levels (map statement_of c.body.statements.items) c.body.rest.now (sym c.begins.ensures ∙ c.body-test.false)

pub items-returns-in_err-rest-2-clause-reads : goal.items-returns-in_err-rest-2-clause-reads
items-returns-in_err-rest-2-clause-reads t c =
    let p = err_from_is_err_and c.from_residual-in_err-rest-2.result c.from_residual-in_err-rest-2.ensures.1 in
    let no : c.is_next.result ≡ false = search (rules, c.items-test.true) in
    let other : is_class classes.EndCase (next_class c.items.rest.now) ≡ false = sym c.is_next.ensures ∙ no in
    rw (p.1, p.2, c.items.invariant.same)
    (items-fail c.args.levels (below_of c.args.levels) (map case_part_of c.items.items.items) c.items.rest.now c.in_err-rest-2.field-0.0 other c.in_err-rest-2.ensures.reads)

pub items-items-preserved : goal.items-items-preserved
items-items-preserved t c =
    let no : c.is_next.result ≡ false = search (rules, c.items-test.true) in
    let other : is_class classes.EndCase (next_class c.items.rest.now) ≡ false = sym c.is_next.ensures ∙ no in
    record {
      same = c.items.invariant.same ∙ items-next c.args.levels (below_of c.args.levels) (map case_part_of c.items.items.items) c.items.rest.now _ _ other c.in_ok-rest-2.ensures.reads
          c.in_ok-rest-2.ensures.shorter;
      shorter = omega (arith, c.in_ok-rest-2.ensures.shorter, c.items.invariant.shorter);
    }

pub items-returns-clause-reads : goal.items-returns-clause-reads
items-returns-clause-reads t c =
    let yes : c.is_next.result ≡ true = search (rules, c.items-test.false) in
    c.items.invariant.same ∙ items-end c.args.levels (below_of c.args.levels) (map case_part_of c.items.items.items) c.items.rest.now (sym c.is_next.ensures ∙ yes)
