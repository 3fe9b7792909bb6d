use Rattle.std.proofs.Common.{◌≡◌, ◌<◌, List, ◌++◌, ◌∷◌, [], map, length, Ok, ap, sym, ◌∙◌, subst}
use Rattle.std.proofs.lemmas.List.{map_push}
use Rattle.std.proofs.lemmas.Result.{err_from_is_err_and}
use Rattle.v_tree.specs.declared.item.Module.{Module}
use Rattle.v_tree.specs.Views.{module_of}
use Rattle.v_readers.specs.Reading.{repeat}
use Rattle.v_readers.specs.Given.{Fails}
use Rattle.v_parse.specs.Items.{modules_turn}
use Rattle.v_parse.proofs.Turns.{modules-next, modules-fail, modules-end, unit-is, unit-fail, some-left, none-left}
use Rattle.v_parse.proofs.modules.unit.Goals as goal

pub modules-init : goal.modules-init
modules-init c =
    ap (repeat (modules_turn c.args.levels) []) (sym c.begun-modules.ensures.rest)
    ∙ ap (λ (ms : List Module). repeat (modules_turn c.args.levels) (map module_of ms) c.begun-modules.result.1.now) (sym c.begun-modules.ensures.nothing)

pub returns-in_err-next : goal.returns-in_err-next
returns-in_err-next c =
    let p = err_from_is_err_and c.from_residual.result c.from_residual.ensures.1 in
    let some : 0 < length c.modules.rest.now = some-left c.modules.rest.now (sym c.is_empty.ensures ∙ c.modules-test.true) in
    rw (p.1, p.2)
    (record {
      reads = unit-fail c.args.levels c.args.tokens.now c.in_err-next.field-0.0
          (subst (Fails c.in_err-next.field-0.0) (sym c.modules.invariant)
          (modules-fail c.args.levels (map module_of c.modules.modules.items) c.modules.rest.now c.in_err-next.field-0.0 some c.in_err-next.ensures.reads));
    })

pub modules-preserved : goal.modules-preserved
modules-preserved c =
    let pushed : map module_of c.push.new.self.items ≡ map module_of c.modules.modules.items ++ module_of c.in_ok-next.next ∷ [] =
    ap (map module_of) c.in_ok-push.ensures.items ∙ map_push module_of c.modules.modules.items c.in_ok-next.next in
    c.modules.invariant
    ∙ modules-next c.args.levels (map module_of c.modules.modules.items) c.modules.rest.now (module_of c.in_ok-next.next) c.in_ok-next.after.now c.in_ok-next.ensures.reads c.in_ok-next.ensures.shorter
    ∙ ap (λ ms. repeat (modules_turn c.args.levels) ms c.in_ok-next.after.now) (sym pushed)

pub returns : goal.returns
returns c =
    let left : length c.modules.rest.now ≡ 0 = none-left c.modules.rest.now (sym c.is_empty.ensures ∙ c.modules-test.false) in
    record {
      reads = unit-is c.args.levels c.args.tokens.now c.modules.rest.now (map module_of c.modules.modules.items)
          (c.modules.invariant ∙ modules-end c.args.levels (map module_of c.modules.modules.items) c.modules.rest.now left) left
          ∙ ap (λ ms. Ok (record { modules = map module_of ms }, c.modules.rest.now)) (sym c.from_vec.ensures);
    }
