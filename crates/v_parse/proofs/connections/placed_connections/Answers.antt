use Rattle.std.proofs.Common.{◌≡◌, true, List, ◌++◌, ◌∷◌, [], map, Ok, ap, sym, ◌∙◌, subst, arith}
use Rattle.std.proofs.lemmas.List.{map_push}
use Rattle.std.proofs.lemmas.Result.{err_from_is_err_and}
use Rattle.vf_base.specs.Base.{source_place}
use Rattle.v_tree.specs.Views.{expression_in, connection_of}
use Rattle.v_readers.specs.declared.class.Class.TheVariants as classes
use Rattle.v_readers.specs.Reading.{followed, give, next_class, is_class, expect, repeat}
use Rattle.v_readers.specs.Reads.{Fails-followed}
use Rattle.v_readers.specs.Given.{Fails}
use Rattle.v_tree.specs.declared.item.Connection.{Connection}
use Rattle.v_parse.specs.Items.{placed, placed_turn}
use Rattle.v_parse.proofs.Turns.{to_closing, first-ended, position-ended, placed-next, placed-fail, placed-end, placed-begin, placed-begin_fail}
use Rattle.v_parse.proofs.connections.placed_connections.Goals as goal

pub returns-in_err-first-clause-reads : goal.returns-in_err-first-clause-reads
returns-in_err-first-clause-reads c =
    let p = err_from_is_err_and c.from_residual.result c.from_residual.ensures.1 in
    rw (p.1, p.2) (placed-begin_fail c.args.levels c.args.tokens.now c.in_err-first.field-0.0 c.in_err-first.ensures.reads)

pub positions-init : goal.positions-init
positions-init c = record {
  same = placed-begin c.args.levels c.args.tokens.now c.in_ok-first.rest.now (expression_in c.in_ok-first.first) c.in_ok-first.ensures.reads
      ∙ ap (λ (xs : List Connection). followed (repeat (placed_turn c.args.levels) (record { ended = map connection_of xs; last = expression_in c.in_ok-first.first }) c.in_ok-first.rest.now)
      to_closing)
      (sym c.new-ended.ensures.items);
  ended = first-ended c.args.levels c.args.tokens.now c.in_ok-first.rest.now (expression_in c.in_ok-first.first) c.in_ok-first.ensures.reads;
  shorter = c.in_ok-first.ensures.shorter;
}

pub returns-in_err-last-clause-reads : goal.returns-in_err-last-clause-reads
returns-in_err-last-clause-reads c =
    let p = err_from_is_err_and c.from_residual-in_err-last.result c.from_residual-in_err-last.ensures.1 in
    let comma : is_class classes.Comma (next_class c.positions.rest.now) ≡ true = sym c.is_next.ensures ∙ c.positions-test.true in
    rw (p.1, p.2, c.positions.invariant.same)
    (placed-fail c.args.levels (map connection_of c.positions.ended.items) (expression_in c.positions.last) c.positions.rest.now c.in_ok-comma.after.now _ c.in_err-last.field-0.0 comma
    c.in_ok-comma.ensures.reads (omega (arith, c.in_ok-comma.ensures.shorter)) c.in_err-last.ensures.reads)

pub positions-preserved : goal.positions-preserved
positions-preserved c =
    let comma : is_class classes.Comma (next_class c.positions.rest.now) ≡ true = sym c.is_next.ensures ∙ c.positions-test.true in
    let pushed : map connection_of c.push.new.self.items ≡ map connection_of c.positions.ended.items ++ placed (source_place c.in_ok-comma.comma) (expression_in c.positions.last) ∷ [] =
    ap (map connection_of) c.in_ok-push.ensures.items ∙ map_push connection_of c.positions.ended.items c.placed.result
    ∙ ap (λ p. map connection_of c.positions.ended.items ++ p ∷ []) c.placed.ensures in
    rw pushed (record {
      same = c.positions.invariant.same
          ∙ ap (λ w. followed w to_closing)
          (placed-next c.args.levels (map connection_of c.positions.ended.items) (expression_in c.positions.last) c.positions.rest.now c.in_ok-comma.after.now c.in_ok-last.field-0-1.now
          (source_place c.in_ok-comma.comma) (expression_in c.in_ok-last.field-0-0) comma c.in_ok-comma.ensures.reads (omega (arith, c.in_ok-comma.ensures.shorter)) c.in_ok-last.ensures.reads);
      ended = position-ended c.args.levels c.in_ok-comma.after.now c.in_ok-last.field-0-1.now (expression_in c.in_ok-last.field-0-0) c.in_ok-last.ensures.reads;
      shorter = omega (arith, c.in_ok-comma.ensures.shorter, c.in_ok-last.ensures.shorter, c.positions.invariant.shorter);
    })

pub returns-in_err-closing-clause-reads : goal.returns-in_err-closing-clause-reads
returns-in_err-closing-clause-reads c =
    let p = err_from_is_err_and c.from_residual-in_err-closing.result c.from_residual-in_err-closing.ensures.1 in
    let ended = map connection_of c.positions.ended.items in
    let last = expression_in c.positions.last in
    rw (p.1, p.2, c.positions.invariant.same)
    (subst (λ w. Fails c.in_err-closing.field-0.0 (followed w to_closing)) (sym (placed-end c.args.levels ended last c.positions.rest.now
    (sym c.is_next.ensures ∙ c.positions-test.false) c.positions.invariant.ended))
    (Fails-followed c.in_err-closing.field-0.0 (expect classes.RightParen c.positions.rest.now) (λ closing. give (ended ++ placed closing last ∷ [])) c.in_err-closing.ensures.reads))

pub returns-clause-reads : goal.returns-clause-reads
returns-clause-reads c =
    let ended = map connection_of c.positions.ended.items in
    let last = expression_in c.positions.last in
    c.positions.invariant.same
    ∙ ap (λ w. followed w to_closing) (placed-end c.args.levels ended last c.positions.rest.now (sym c.is_next.ensures ∙ c.positions-test.false) c.positions.invariant.ended)
    ∙ ap (λ w. followed w (λ closing. give (ended ++ placed closing last ∷ []))) c.in_ok-closing.ensures.reads
    ∙ ap (λ p. Ok (ended ++ p ∷ [], c.in_ok-closing.rest.now)) (sym c.placed-2.ensures)
    ∙ ap (λ w. Ok (w, c.in_ok-closing.rest.now)) (sym (ap (map connection_of) c.in_ok-push-2.ensures.items ∙ map_push connection_of c.positions.ended.items c.placed-2.result))
    ∙ ap (λ w. Ok (map connection_of w, c.in_ok-closing.rest.now)) (sym c.from_vec.ensures)
