use Rattle.std.proofs.Common.{◌≡◌, false, List, ◌++◌, ◌∷◌, [], map, length, Ok, ap, sym, ◌∙◌, arith}
use Rattle.std.proofs.lemmas.List.{map_push}
use Rattle.std.proofs.lemmas.Result.{err_from_is_err_and}
use Rattle.v_tree.specs.declared.item.Item.{Item}
use Rattle.v_tree.specs.Views.{item_of}
use Rattle.v_readers.specs.declared.class.Class.TheVariants as classes
use Rattle.v_readers.specs.Reading.{next_class, is_class, repeat}
use Rattle.v_parse.specs.Items.{items_turn}
use Rattle.v_parse.proofs.Turns.{items-next, items-fail, items-end}
use Rattle.v_parse.proofs.modules.items.Goals as goal

pub items-init : goal.items-init
items-init c =
    let rest = c.begun-items.ensures.rest in
    record {
      same = ap (repeat (items_turn c.args.levels) []) (sym rest)
          ∙ ap (λ (xs : List Item). repeat (items_turn c.args.levels) (map item_of xs) c.begun-items.result.1.now) (sym c.begun-items.ensures.nothing);
      shorter = omega (arith, ap length rest);
    }

pub returns-in_err-next-clause-reads : goal.returns-in_err-next-clause-reads
returns-in_err-next-clause-reads c =
    let p = err_from_is_err_and c.from_residual.result c.from_residual.ensures.1 in
    let more : is_class classes.EndModule (next_class c.items.rest.now) ≡ false = sym c.is_next.ensures ∙ c.items-test.true in
    rw (p.1, p.2, c.items.invariant.same)
    (items-fail c.args.levels (map item_of c.items.items.items) c.items.rest.now c.in_err-next.field-0.0 more c.in_err-next.ensures.reads)

pub items-preserved : goal.items-preserved
items-preserved c =
    let more : is_class classes.EndModule (next_class c.items.rest.now) ≡ false = sym c.is_next.ensures ∙ c.items-test.true in
    let pushed : map item_of c.push.new.self.items ≡ map item_of c.items.items.items ++ item_of c.in_ok-next.next ∷ [] =
    ap (map item_of) c.in_ok-push.ensures.items ∙ map_push item_of c.items.items.items c.in_ok-next.next in
    rw pushed (record {
      same = c.items.invariant.same
          ∙ items-next c.args.levels (map item_of c.items.items.items) c.items.rest.now (item_of c.in_ok-next.next) c.in_ok-next.after.now more c.in_ok-next.ensures.reads c.in_ok-next.ensures.shorter;
      shorter = omega (arith, c.in_ok-next.ensures.shorter, c.items.invariant.shorter);
    })

pub returns-clause-reads : goal.returns-clause-reads
returns-clause-reads c =
    c.items.invariant.same
    ∙ items-end c.args.levels (map item_of c.items.items.items) c.items.rest.now (sym c.is_next.ensures ∙ c.items-test.false)
    ∙ ap (λ w. Ok (map item_of w, c.items.rest.now)) (sym c.from_vec.ensures)
