use Rattle.std.proofs.Common.{◌≡◌, ◌++◌, ◌∷◌, [], map, true, Ok, ap, sym, ◌∙◌, arith}
use Rattle.std.proofs.lemmas.List.{map_push}
use Rattle.std.proofs.lemmas.Result.{err_from_is_err_and}
use Rattle.v_tree.specs.Views.{entry_of}
use Rattle.v_readers.specs.Reading.{next_class}
use Rattle.v_stmt.specs.Statements.{separates}
use Rattle.v_stmt.proofs.Loops.{entries-next, entries-fail, entries-end}
use Rattle.v_stmt.proofs.parts.entry_row.Goals as goal

pub returns-in_err-next-clause-reads : goal.returns-in_err-next-clause-reads
returns-in_err-next-clause-reads c =
    let p = err_from_is_err_and c.from_residual-in_err-next.result c.from_residual-in_err-next.ensures.1 in
    let more : separates (next_class c.entries.rest.now) ≡ true = sym c.separates.ensures ∙ c.entries-test.true in
    rw (p.1, p.2, c.entries.invariant.same)
    (entries-fail c.args.levels (map entry_of c.entries.entries.items) c.entries.rest.now _ c.in_ok-after.after.now c.in_err-next.field-0.0 more c.in_ok-after.ensures.reads
    c.in_err-next.ensures.reads)

pub entries-preserved : goal.entries-preserved
entries-preserved c =
    let more : separates (next_class c.entries.rest.now) ≡ true = sym c.separates.ensures ∙ c.entries-test.true in
    let pushed : map entry_of c.push-in-entries.new.self.items ≡ map entry_of c.entries.entries.items ++ entry_of c.in_ok-next.next ∷ [] =
    ap (map entry_of) c.in_ok-push-2.ensures.items ∙ map_push entry_of c.entries.entries.items c.in_ok-next.next in
    rw pushed (record {
      same = c.entries.invariant.same ∙ entries-next c.args.levels (map entry_of c.entries.entries.items) c.entries.rest.now _ c.in_ok-after.after.now c.in_ok-next.after.now
          (entry_of c.in_ok-next.next) more c.in_ok-after.ensures.reads c.in_ok-next.ensures.reads
          (omega (arith, c.in_ok-after.ensures.shorter, c.in_ok-next.ensures.shorter));
      shorter = omega (arith, c.in_ok-after.ensures.shorter, c.in_ok-next.ensures.shorter, c.entries.invariant.shorter);
    })

pub returns-clause-reads : goal.returns-clause-reads
returns-clause-reads c =
    c.entries.invariant.same
    ∙ entries-end c.args.levels (map entry_of c.entries.entries.items) c.entries.rest.now (sym c.separates.ensures ∙ c.entries-test.false)
    ∙ ap (λ l. Ok (map entry_of l, c.entries.rest.now)) (sym c.from_vec.ensures)
