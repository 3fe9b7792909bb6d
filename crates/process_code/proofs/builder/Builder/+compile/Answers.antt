-- Each statement by the lemma on its form.
use Rattle.std.proofs.Common.{suc, ◌≡◌, ◌≤◌, ◌<◌, ◌+◌, ◌-◌, ◌*◌, length, List, [], ◌∷◌, ◌++◌, drop, take, get_or, refl, sym, ap, ◌∙◌, subst, arith, append-nil}
use Rattle.std.specs.Prelude.{map}
use Rattle.std.proofs.Math.Seq.{take-suc}
use Rattle.std.proofs.Math.ListN.{drop_of_length-le}
use Rattle.std.proofs.lemmas.List.{drop_more}
use Rattle.std.proofs.lemmas.Grind.{common_steps}
use Rattle.v_design.specs.Expressions.{sign_of, width_of}
use Rattle.v_design.specs.Plain.{expression_of, statement_of, target_of, entry_of}
use Rattle.v_design.specs.Trees as plain
use Rattle.v_design.specs.Sized.{IsSizedStatement, levels_of_statement, levels_of_statements, levels_of_items}
use Rattle.vf_base.specs.Base.{source_place}
use Rattle.v_design.specs.PlainLemmas.{statements_of, items_of, statement_of-Block, statement_of-Case}
use Rattle.process_code.specs.Rests.{Part, Runs, opened_parts, opened_all_parts}
use Rattle.process_code.specs.Positions.{StandsAt, ItemsLead, loop_part, advance_part, turns_part}
use Rattle.process_code.specs.Marks.{marks_of, marks_of_all, marks_of_items}
use Rattle.process_code.specs.Layouts.{laid_out, laid_out_all, laid_out_items}
use Rattle.process_code.specs.Compiling.{rests_in, marks_in, layout_in, IsInStep, Grows, MayCompile, Places, Turned, Compiles, CompilesItems}
use Rattle.process_code.proofs.Growing.{grows-refl, grows-trans, grows-keeps, items_lead-more}
use Rattle.process_code.proofs.Compiled.{may-placed, may-own, may-runs, may-grown, may-entry, may-turns, compiled-own, compiled-body, compiled-loop, compiled-branches, compiled-case}
use Rattle.process_code.proofs.Compiled.{compiled-repeat, compiled-for, counts-more, compiled-leaf, compiled-null, items_lead-push, marks-both, marks-push, layout-push, levels-statement}
use Rattle.process_code.proofs.Compiled.{levels-item, sized-statement, sized-item, placed-length, grows-longer}
use Rattle.process_code.specs.declared.code.Head.TheVariants.{Statement, Test, Advance, Turns}
use Rattle.process_code.specs.declared.builder.Builder.{Builder}
use Rattle.process_code.proofs.builder.Builder.+compile.Goals as goal

pub block-statements-init : goal.block-statements-init
block-statements-init t c =
    let none : drop (length c.args.statements.now) c.args.statements.now ≡ [] = drop_of_length-le c.args.statements.now (omega arith) in
    record {
      in_step = c.requires.may.in_step;
      grows = grows-refl c.args.self.now;
      there = c.requires.may.there;
      in_range = omega arith;
      opens = λ rest h. let P : List _ → Type 0 = λ xs. StandsAt (rests_in c.args.self.now) c.args.next (opened_all_parts (statements_of xs) rest) in subst P (sym none) h;
      marks =
          let P : List _ → Type 0 = λ xs. marks_in c.args.self.now ≡ marks_in c.args.self.now ++ marks_of_all (statements_of xs) in
          subst P (sym none) (sym (append-nil (marks_in c.args.self.now)));
      layout = λ rest h. let P : List _ → Type 0 = λ xs. layout_in c.args.self.now ≡ laid_out_all (statements_of xs) rest (layout_in c.args.self.now) in subst P (sym none) refl;
    }

pub block-statement-requires : goal.block-statement-requires
block-statement-requires t c =
    let inv = c.statements.invariant in
    let low = levels-statement c.args.statements.now (c.statements.left - 1) c.index-statements-left.result (omega (arith, c.statements-test.true, inv.in_range)) c.index-statements-left.is in (
      omega (arith, low, c.decreases),
      (
        sized-statement c.args.statements.now (c.statements.left - 1) c.index-statements-left.result (omega (arith, c.statements-test.true, inv.in_range)) c.index-statements-left.is c.requires.sized,
        may-entry c.args.self.now c.statements.self (plain.Block (statements_of (drop c.statements.left c.args.statements.now))) c.args.next c.statements.entry c.requires.may
            (record { in_step = inv.in_step; grows = inv.grows; there = inv.there; opens = inv.opens; marks = inv.marks; layout = inv.layout }),
      ),
    )

pub block-statements-preserved : goal.block-statements-preserved
block-statements-preserved t c =
    let inv = c.statements.invariant in
    let k = c.in_ok-entry.ensures in
    let x = c.index-statements-left.result in
    let items = c.args.statements.now in
    let left = c.statements.left in
    let next_left : left - 1 + 1 ≡ left = omega (arith, c.statements-test.true) in
    let here : drop (left - 1) items ≡ x ∷ drop left items =
    drop_more items (left - 1) x (omega (arith, c.statements-test.true, inv.in_range)) ∙ ap (λ y. y ∷ drop (left - 1 + 1) items) (sym c.index-statements-left.is)
    ∙ ap (λ n. x ∷ drop n items) next_left in
    record {
      in_step = k.in_step;
      grows = grows-trans c.args.self.now c.statements.self c.statement.new.self c.requires.may.in_step.ways inv.grows k.grows;
      there = k.there;
      in_range = omega (arith, inv.in_range);
      opens = λ rest h.
          let P : List _ → Type 0 = λ xs. StandsAt (rests_in c.statement.new.self) c.in_ok-entry.entry (opened_all_parts (statements_of xs) rest) in
          subst P (sym here) (k.opens (opened_all_parts (statements_of (drop left items)) rest) (inv.opens rest h));
      marks =
          let P : List _ → Type 0 = λ xs. marks_in c.statement.new.self ≡ marks_in c.args.self.now ++ marks_of_all (statements_of xs) in
          subst P (sym here) (marks-both c.args.self.now c.statements.self c.statement.new.self (marks_of_all (statements_of (drop left items))) (marks_of (statement_of x)) inv.marks k.marks);
      layout = λ rest h.
          let P : List _ → Type 0 = λ xs. layout_in c.statement.new.self ≡ laid_out_all (statements_of xs) rest (layout_in c.args.self.now) in
          let after = opened_all_parts (statements_of (drop left items)) rest in
          subst P (sym here) (k.layout after (inv.opens rest h) ∙ ap (laid_out (statement_of x) after) (inv.layout rest h));
    }

pub items-loop-item-init : goal.items-loop-item-init
items-loop-item-init t c =
    let L : List _ → Type 0 = λ positions. (rest : List Part) → StandsAt (rests_in c.args.self.now) c.args.next rest →
    ItemsLead (rests_in c.args.self.now) positions (items_of (take 0 c.args.items.now)) rest in
    record {
      in_step = c.requires.may.in_step;
      grows = grows-refl c.args.self.now;
      lead = subst L (sym c.new-positions.ensures.items) (λ rest h. tt);
      marks = sym (append-nil (marks_in c.args.self.now));
      layout = λ rest h. refl;
    }

pub items-statement-requires : goal.items-statement-requires
items-statement-requires t c =
    let inv = c.loop-item.invariant in
    let low = levels-item c.args.items.now c.loop-item.item-index c.item-item.result (omega arith) c.item-item.is in (
      omega (arith, low, c.decreases),
      (
        sized-item c.args.items.now c.loop-item.item-index c.item-item.result c.requires.sized.0 c.requires.sized.1 (omega arith) c.item-item.is c.requires.sized.2,
        may-grown c.args.self.now c.loop-item.self c.args.next c.requires.may inv.grows inv.in_step,
      ),
    )

pub items-loop-item-preserved : goal.items-loop-item-preserved
items-loop-item-preserved t c =
    let inv = c.loop-item.invariant in
    let k = c.in_ok-entry.ensures in
    let i = c.loop-item.item-index in
    let x = c.item-item.result in
    let items = c.args.items.now in
    let next_i : i + 1 ≡ suc i = omega arith in
    let more : take (i + 1) items ≡ take i items ++ (x ∷ []) = ap (λ n. take n items) next_i ∙ take-suc items i x (omega arith) ∙ ap (λ y. take i items ++ (y ∷ [])) (sym c.item-item.is) in
    let pushed = c.in_ok-push.ensures.items in
    record {
      in_step = k.in_step;
      grows = grows-trans c.args.self.now c.loop-item.self c.statement.new.self c.requires.may.in_step.ways inv.grows k.grows;
      lead = λ rest h.
          let P : List _ → Type 0 = λ xs. ItemsLead (rests_in c.statement.new.self) c.push.new.self.items (items_of xs) rest in
          let Q : List _ → Type 0 = λ positions. ItemsLead (rests_in c.statement.new.self) positions (items_of (take i items ++ (x ∷ []))) rest in
          let kept = items_lead-more (rests_in c.loop-item.self) (rests_in c.statement.new.self) _ (items_of (take i items)) rest (grows-keeps c.loop-item.self c.statement.new.self k.grows)
          (inv.lead rest h) in
          let here = grows-keeps c.args.self.now c.loop-item.self inv.grows c.args.next rest h in
          subst P (sym more) (subst Q (sym pushed) (items_lead-push (rests_in c.statement.new.self) _ c.in_ok-entry.entry (take i items) x rest kept (k.opens rest here)));
      marks =
          let P : List _ → Type 0 = λ xs. marks_in c.statement.new.self ≡ marks_in c.args.self.now ++ marks_of_items (items_of xs) in
          subst P (sym more)
          (marks-both c.args.self.now c.loop-item.self c.statement.new.self (marks_of_items (items_of (take i items))) (marks_of (statement_of x.statement)) inv.marks k.marks
          ∙ ap (λ ms. marks_in c.args.self.now ++ ms) (sym (marks-push (take i items) x)));
      layout = λ rest h.
          let P : List _ → Type 0 = λ xs. layout_in c.statement.new.self ≡ laid_out_items (items_of xs) rest (layout_in c.args.self.now) in
          let here = grows-keeps c.args.self.now c.loop-item.self inv.grows c.args.next rest h in
          subst P (sym more) (k.layout rest here ∙ ap (laid_out (statement_of x.statement) rest) (inv.layout rest h) ∙ sym (layout-push (take i items) x rest (layout_in c.args.self.now)));
    }

pub statement-statement-requires : goal.statement-statement-requires
statement-statement-requires t c =
    let s : statement_of c.args.statement.now ≡ plain.If (source_place c.in-If.place) (expression_of c.in-If.condition) (statement_of c.deref-in-If.result.now) (statement_of c.in-If.second.value) =
    ap statement_of c.in-If.is ∙ ap (λ x. plain.If (source_place c.in-If.place) (expression_of c.in-If.condition) (statement_of x) (statement_of c.in-If.second.value))
    (sym c.deref-in-If.ensures) in
    let n = ap levels_of_statement s in
    let whole = subst IsSizedStatement s c.requires.sized in
    (omega (arith, n, c.decreases), (whole.1, may-placed c.args.self.now c.place.new.self (Statement c.args.statement) c.args.next c.in_ok-own-in-If.own c.requires.may c.in_ok-own-in-If.ensures))

pub statement-statement-requires-in-If : goal.statement-statement-requires-in-If
statement-statement-requires-in-If t c =
    let s : statement_of c.args.statement.now ≡ plain.If (source_place c.in-If.place) (expression_of c.in-If.condition) (statement_of c.deref-in-If.result.now)
    (statement_of c.deref-in-If-2.result.now) = ap statement_of c.in-If.is ∙ ap (λ x.
    plain.If (source_place c.in-If.place) (expression_of c.in-If.condition) (statement_of x) (statement_of c.in-If.second.value)) (sym c.deref-in-If.ensures)
    ∙ ap (λ x. plain.If (source_place c.in-If.place) (expression_of c.in-If.condition) (statement_of c.deref-in-If.result.now) (statement_of x)) (sym c.deref-in-If-2.ensures) in
    let n = ap levels_of_statement s in
    let whole = subst IsSizedStatement s c.requires.sized in (
      omega (arith, n, c.decreases),
      (
        whole.2,
        may-grown c.place.new.self c.statement.new.self c.args.next
            (may-placed c.args.self.now c.place.new.self (Statement c.args.statement) c.args.next c.in_ok-own-in-If.own c.requires.may c.in_ok-own-in-If.ensures) c.in_ok-inner-in-If.ensures.grows
            c.in_ok-inner-in-If.ensures.in_step,
      ),
    )

pub statement-items-requires : goal.statement-items-requires
statement-items-requires t c =
    let s : statement_of c.args.statement.now ≡ plain.Case (source_place c.in-Case.place) c.in-Case.kind (expression_of c.in-Case.value) (items_of c.deref-in-Case.result.now)
    (statement_of c.in-Case.default.value) = ap statement_of c.in-Case.is ∙ statement_of-Case c.in-Case.place c.in-Case.kind c.in-Case.value c.in-Case.items c.in-Case.default
    ∙ ap (λ xs. plain.Case (source_place c.in-Case.place) c.in-Case.kind (expression_of c.in-Case.value) (items_of xs) (statement_of c.in-Case.default.value))
    (sym c.deref-in-Case.ensures.value) in
    let n = ap levels_of_statement s in
    let whole = subst IsSizedStatement s c.requires.sized in (
      omega (arith, n, c.decreases),
      (
        (width_of (expression_of c.in-Case.value), sign_of (expression_of c.in-Case.value), whole.2),
        may-placed c.args.self.now c.place-in-Case.new.self (Statement c.args.statement) c.args.next c.in_ok-own-in-Case.own c.requires.may c.in_ok-own-in-Case.ensures,
      ),
    )

pub statement-statement-requires-in-Case : goal.statement-statement-requires-in-Case
statement-statement-requires-in-Case t c =
    let s : statement_of c.args.statement.now ≡ plain.Case (source_place c.in-Case.place) c.in-Case.kind (expression_of c.in-Case.value) (items_of c.deref-in-Case.result.now)
    (statement_of c.deref-in-Case-2.result.now) = ap statement_of c.in-Case.is ∙ statement_of-Case c.in-Case.place c.in-Case.kind c.in-Case.value c.in-Case.items c.in-Case.default
    ∙ ap (λ xs. plain.Case (source_place c.in-Case.place) c.in-Case.kind (expression_of c.in-Case.value) (items_of xs) (statement_of c.in-Case.default.value)) (sym c.deref-in-Case.ensures.value)
    ∙ ap (λ x. plain.Case (source_place c.in-Case.place) c.in-Case.kind (expression_of c.in-Case.value) (items_of c.deref-in-Case.result.now) (statement_of x)) (sym c.deref-in-Case-2.ensures) in
    let n = ap levels_of_statement s in
    let whole = subst IsSizedStatement s c.requires.sized in (
      omega (arith, n, c.decreases),
      (
        whole.3,
        may-grown c.place-in-Case.new.self c.items.new.self c.args.next
            (may-placed c.args.self.now c.place-in-Case.new.self (Statement c.args.statement) c.args.next c.in_ok-own-in-Case.own c.requires.may c.in_ok-own-in-Case.ensures)
            c.in_ok-items-in-Case.ensures.grows c.in_ok-items-in-Case.ensures.in_step,
      ),
    )

pub statement-statement-requires-in-For : goal.statement-statement-requires-in-For
statement-statement-requires-in-For t c =
    let s : statement_of c.args.statement.now ≡ plain.For (source_place c.in-For.place) (map target_of c.in-For.first_targets.items) (expression_of c.in-For.first) (expression_of c.in-For.condition)
    (map target_of c.in-For.next_targets.items) (expression_of c.in-For.next) (statement_of c.deref-in-For.result.now) = ap statement_of c.in-For.is
    ∙ ap (λ x. plain.For (source_place c.in-For.place) (map target_of c.in-For.first_targets.items) (expression_of c.in-For.first) (expression_of c.in-For.condition)
    (map target_of c.in-For.next_targets.items) (expression_of c.in-For.next) (statement_of x)) (sym c.deref-in-For.ensures) in
    let n = ap levels_of_statement s in
    let whole = subst IsSizedStatement s c.requires.sized in (
      omega (arith, n, c.decreases),
      (
        whole.3,
        may-runs c.place-in-For-2.new.self c.place-in-For-3.new.self (Advance c.args.statement) _ c.in_ok-test-in-For.test c.in_ok-advance-in-For.advance
            (may-runs c.place-in-For.new.self c.place-in-For-2.new.self (Test c.args.statement) _ c.args.next c.in_ok-test-in-For.test
            (may-placed c.args.self.now c.place-in-For.new.self (Statement c.args.statement) c.args.next c.in_ok-own-in-For.own c.requires.may c.in_ok-own-in-For.ensures) c.in_ok-test-in-For.ensures
            (ap loop_part s)) c.in_ok-advance-in-For.ensures (ap advance_part s),
      ),
    )

pub statement-lead-requires-in-For-2 : goal.statement-lead-requires-in-For-2
statement-lead-requires-in-For-2 t c =
    let one = placed-length c.args.self.now c.place-in-For.new.self _ _ _ c.in_ok-own-in-For.ensures.0 in
    let two = placed-length c.place-in-For.new.self c.place-in-For-2.new.self _ _ _ c.in_ok-test-in-For.ensures.0 in
    let three = placed-length c.place-in-For-2.new.self c.place-in-For-3.new.self _ _ _ c.in_ok-advance-in-For.ensures.0 in
    let four = grows-longer c.place-in-For-3.new.self c.statement-in-For.new.self c.in_ok-inner-in-For.ensures.grows in
    let own = c.in_ok-own-in-For.ensures.0.own_is in
    let lengths = c.lead-in-For.ensures.lengths in
    let ways = c.in_ok-inner-in-For.ensures.in_step.ways in
    record { there = (omega (arith, own), omega (arith, own, one, two, three, four, lengths, ways)) }

pub statement-statement-requires-in-While : goal.statement-statement-requires-in-While
statement-statement-requires-in-While t c =
    let s : statement_of c.args.statement.now ≡ plain.While (source_place c.in-While.place) (expression_of c.in-While.condition) (statement_of c.deref-in-While.result.now) =
    ap statement_of c.in-While.is ∙ ap (λ x. plain.While (source_place c.in-While.place) (expression_of c.in-While.condition) (statement_of x)) (sym c.deref-in-While.ensures) in
    let n = ap levels_of_statement s in
    let whole = subst IsSizedStatement s c.requires.sized in (
      omega (arith, n, c.decreases),
      (
        whole.1,
        may-runs c.args.self.now c.place-in-While.new.self
            (Statement c.args.statement) _ c.args.next c.in_ok-own-in-While.own c.requires.may c.in_ok-own-in-While.ensures (ap Runs s),
      ),
    )

pub statement-statement-requires-in-Forever : goal.statement-statement-requires-in-Forever
statement-statement-requires-in-Forever t c =
    let s : statement_of c.args.statement.now ≡ plain.Forever (source_place c.in-Forever.place) (statement_of c.deref-in-Forever.result.now) = ap statement_of c.in-Forever.is
    ∙ ap (λ x. plain.Forever (source_place c.in-Forever.place) (statement_of x)) (sym c.deref-in-Forever.ensures) in
    let n = ap levels_of_statement s in
    let whole = subst IsSizedStatement s c.requires.sized in (
      omega (arith, n, c.decreases),
      (
        whole,
        may-runs c.args.self.now c.place-in-Forever.new.self
            (Statement c.args.statement) _ c.args.next c.in_ok-own-in-Forever.own c.requires.may c.in_ok-own-in-Forever.ensures (ap Runs s),
      ),
    )

pub statement-statement-requires-in-Delay : goal.statement-statement-requires-in-Delay
statement-statement-requires-in-Delay t c =
    let s : statement_of c.args.statement.now ≡ plain.Delay (source_place c.in-Delay.place) c.in-Delay.delay (statement_of c.deref-in-Delay.result.now) = ap statement_of c.in-Delay.is
    ∙ ap (λ x. plain.Delay (source_place c.in-Delay.place) c.in-Delay.delay (statement_of x)) (sym c.deref-in-Delay.ensures) in
    let n = ap levels_of_statement s in
    let whole = subst IsSizedStatement s c.requires.sized in (
      omega (arith, n, c.decreases),
      (
        whole.1,
        may-placed c.args.self.now c.place-in-Delay.new.self
            (Statement c.args.statement) c.args.next c.in_ok-own-in-Delay.own c.requires.may c.in_ok-own-in-Delay.ensures,
      ),
    )

pub statement-statement-requires-in-EventControl : goal.statement-statement-requires-in-EventControl
statement-statement-requires-in-EventControl t c =
    let s : statement_of c.args.statement.now ≡ plain.EventControl (source_place c.in-EventControl.place) (map entry_of c.in-EventControl.entries) (statement_of c.deref-in-EventControl.result.now) =
    ap statement_of c.in-EventControl.is ∙ ap (λ x. plain.EventControl (source_place c.in-EventControl.place) (map entry_of c.in-EventControl.entries) (statement_of x))
    (sym c.deref-in-EventControl.ensures) in
    let n = ap levels_of_statement s in
    let whole = subst IsSizedStatement s c.requires.sized in (
      omega (arith, n, c.decreases),
      (
        whole.1,
        may-placed c.args.self.now c.place-in-EventControl.new.self
            (Statement c.args.statement) c.args.next c.in_ok-own-in-EventControl.own c.requires.may c.in_ok-own-in-EventControl.ensures,
      ),
    )

pub statement-statement-requires-in-Wait : goal.statement-statement-requires-in-Wait
statement-statement-requires-in-Wait t c =
    let s : statement_of c.args.statement.now ≡ plain.Wait (source_place c.in-Wait.place) (expression_of c.in-Wait.condition) (statement_of c.deref-in-Wait.result.now) = ap statement_of c.in-Wait.is
    ∙ ap (λ x. plain.Wait (source_place c.in-Wait.place) (expression_of c.in-Wait.condition) (statement_of x)) (sym c.deref-in-Wait.ensures) in
    let n = ap levels_of_statement s in
    let whole = subst IsSizedStatement s c.requires.sized in (
      omega (arith, n, c.decreases),
      (
        whole.1,
        may-placed c.args.self.now c.place-in-Wait.new.self
            (Statement c.args.statement) c.args.next c.in_ok-own-in-Wait.own c.requires.may c.in_ok-own-in-Wait.ensures,
      ),
    )

pub statement-statement-requires-in-Repeat : goal.statement-statement-requires-in-Repeat
statement-statement-requires-in-Repeat t c =
    let s : statement_of c.args.statement.now ≡ plain.Repeat (source_place c.in-Repeat.place) (expression_of c.in-Repeat.count) (statement_of c.deref-in-Repeat.result.now) =
    ap statement_of c.in-Repeat.is ∙ ap (λ x. plain.Repeat (source_place c.in-Repeat.place) (expression_of c.in-Repeat.count) (statement_of x)) (sym c.deref-in-Repeat.ensures) in
    let n = ap levels_of_statement s in
    let counted : Builder = record { spots = c.place-in-Repeat.new.self.spots; ways = c.place-in-Repeat.new.self.ways; repeats = c.place-in-Repeat.new.self.repeats + 1 } in
    let p = c.in_ok-own-in-Repeat.ensures in
    let more : c.args.self.now.repeats < counted.repeats = omega (arith, p.0.repeats) in
    let gc : Grows c.place-in-Repeat.new.self counted = counts-more c.place-in-Repeat.new.self counted refl refl (omega arith) p.1.ways in
    let longer = placed-length c.args.self.now c.place-in-Repeat.new.self _ _ _ p.0 in
    let counted_in : IsInStep counted = record { sized = p.1.sized; ways = p.1.ways; repeats = omega (arith, longer, p.0.repeats, c.requires.may.in_step.repeats) } in
    let whole = subst IsSizedStatement s c.requires.sized in (
      omega (arith, n, c.decreases),
      (
        whole.1,
        may-turns c.args.self.now c.place-in-Repeat.new.self counted c.place-in-Repeat-2.new.self (Statement c.args.statement)
            (Turns c.args.statement c.args.self.now.repeats) _ _ c.args.next c.in_ok-own-in-Repeat.own c.in_ok-turns-in-Repeat.turns c.requires.may p gc counted_in more c.in_ok-turns-in-Repeat.ensures
            (ap (turns_part c.args.self.now.repeats) s),
      ),
    )

pub statement-lead-requires-in-Repeat-2 : goal.statement-lead-requires-in-Repeat-2
statement-lead-requires-in-Repeat-2 t c =
    let one = placed-length c.args.self.now c.place-in-Repeat.new.self _ _ _ c.in_ok-own-in-Repeat.ensures.0 in
    let two = placed-length (record { spots = c.place-in-Repeat.new.self.spots; ways = c.place-in-Repeat.new.self.ways; repeats = c.place-in-Repeat.new.self.repeats + 1 })
    c.place-in-Repeat-2.new.self _ _ _ c.in_ok-turns-in-Repeat.ensures.0 in
    let four = grows-longer c.place-in-Repeat-2.new.self c.statement-in-Repeat.new.self c.in_ok-inner-in-Repeat.ensures.grows in
    let own = c.in_ok-own-in-Repeat.ensures.0.own_is in
    let lengths = c.lead-in-Repeat.ensures.lengths in
    let ways = c.in_ok-inner-in-Repeat.ensures.in_step.ways in
    record { there = (omega (arith, own), omega (arith, own, one, two, four, lengths, ways)) }

pub statement-block-requires : goal.statement-block-requires
statement-block-requires t c =
    let s : statement_of c.args.statement.now ≡ plain.Block (statements_of c.deref.result.now) =
    ap statement_of c.in-Block.is ∙ statement_of-Block c.in-Block.place c.in-Block.statements ∙ ap (λ xs. plain.Block (statements_of xs)) (sym c.deref.ensures.value) in
    let n = ap levels_of_statement s in
    let whole = subst IsSizedStatement s c.requires.sized in
    (omega (arith, n, c.decreases), (whole, c.requires.may))

pub statement-returns-in-Null : goal.statement-returns-in-Null
statement-returns-in-Null t c =
    let P : plain.Statement → Type 0 = λ s. Compiles c.args.self.now c.args.self.now s c.args.next c.args.next in
    subst P (sym (ap statement_of c.in-Null.is)) (compiled-null c.args.self.now c.args.next plain.Null c.requires.may (λ rest. refl) refl (λ rest layout. refl))

pub statement-returns-in_ok-entry-in-Block : goal.statement-returns-in_ok-entry-in-Block
statement-returns-in_ok-entry-in-Block t c =
    let s : statement_of c.args.statement.now ≡ plain.Block (statements_of c.deref.result.now) =
    ap statement_of c.in-Block.is ∙ statement_of-Block c.in-Block.place c.in-Block.statements ∙ ap (λ xs. plain.Block (statements_of xs)) (sym c.deref.ensures.value) in
    let P : plain.Statement → Type 0 = λ x. Compiles c.args.self.now c.block.new.self x c.args.next c.in_ok-entry-in-Block.entry in
    subst P (sym s) c.in_ok-entry-in-Block.ensures

pub statement-returns-in_ok-own-in-Blocking : goal.statement-returns-in_ok-own-in-Blocking
statement-returns-in_ok-own-in-Blocking t c =
    let s : statement_of c.args.statement.now ≡ plain.Blocking (source_place c.in-Blocking.place) (map target_of c.in-Blocking.targets.items) c.in-Blocking.delay
    (expression_of c.in-Blocking.value) = ap statement_of c.in-Blocking.is in
    let P : plain.Statement → Type 0 = λ x. Compiles c.args.self.now c.place-in-Blocking.new.self x c.args.next c.in_ok-own-in-Blocking.own in
    subst P (sym s) (compiled-leaf c.args.self.now c.place-in-Blocking.new.self (Statement c.args.statement) _ _ _ c.requires.may c.in_ok-own-in-Blocking.ensures (ap Runs s) (λ rest. refl) refl
    (λ rest layout. refl) (λ ways rest. tt))

pub statement-returns-in_ok-own-in-Nonblocking : goal.statement-returns-in_ok-own-in-Nonblocking
statement-returns-in_ok-own-in-Nonblocking t c =
    let s : statement_of c.args.statement.now ≡ plain.Nonblocking (source_place c.in-Nonblocking.place) (map target_of c.in-Nonblocking.targets.items) c.in-Nonblocking.delay
    (expression_of c.in-Nonblocking.value) = ap statement_of c.in-Nonblocking.is in
    let P : plain.Statement → Type 0 = λ x. Compiles c.args.self.now c.place-in-Nonblocking.new.self x c.args.next c.in_ok-own-in-Nonblocking.own in
    subst P (sym s) (compiled-leaf c.args.self.now c.place-in-Nonblocking.new.self (Statement c.args.statement) _ _ _ c.requires.may c.in_ok-own-in-Nonblocking.ensures (ap Runs s)
    (λ rest. refl) refl (λ rest layout. refl) (λ ways rest. tt))

pub statement-returns-in_ok-own-in-Finish : goal.statement-returns-in_ok-own-in-Finish
statement-returns-in_ok-own-in-Finish t c =
    let s : statement_of c.args.statement.now ≡ plain.Finish (source_place c.in-Finish.place) = ap statement_of c.in-Finish.is in
    let P : plain.Statement → Type 0 = λ x. Compiles c.args.self.now c.place-in-Finish.new.self x c.args.next c.in_ok-own-in-Finish.own in
    subst P (sym s) (compiled-leaf c.args.self.now c.place-in-Finish.new.self (Statement c.args.statement) _ _ _ c.requires.may c.in_ok-own-in-Finish.ensures (ap Runs s) (λ rest. refl) refl
    (λ rest layout. refl) (λ ways rest. tt))

pub statement-returns-in_ok-other-in-If : goal.statement-returns-in_ok-other-in-If
statement-returns-in_ok-other-in-If t c =
    let s : statement_of c.args.statement.now ≡ plain.If (source_place c.in-If.place) (expression_of c.in-If.condition) (statement_of c.deref-in-If.result.now)
    (statement_of c.deref-in-If-2.result.now) = ap statement_of c.in-If.is ∙ ap (λ x.
    plain.If (source_place c.in-If.place) (expression_of c.in-If.condition) (statement_of x) (statement_of c.in-If.second.value)) (sym c.deref-in-If.ensures)
    ∙ ap (λ x. plain.If (source_place c.in-If.place) (expression_of c.in-If.condition) (statement_of c.deref-in-If.result.now) (statement_of x)) (sym c.deref-in-If-2.ensures) in
    let P : plain.Statement → Type 0 = λ x. Compiles c.args.self.now c.lead.new.self x c.args.next c.in_ok-own-in-If.own in
    subst P (sym s) (compiled-branches c.args.self.now c.place.new.self c.statement.new.self c.statement-in-If.new.self c.lead.new.self
    (Statement c.args.statement) _ _ _ _ _ _ _ c.new.result c.requires.may
    c.in_ok-own-in-If.ensures c.in_ok-inner-in-If.ensures c.in_ok-other-in-If.ensures c.lead.ensures (ap Runs s) (λ rest. refl) refl (λ rest layout. refl) c.new.ensures.inner c.new.ensures.other
    (λ rest h k. (h, k)))

pub statement-returns-in_ok-inner-in-While : goal.statement-returns-in_ok-inner-in-While
statement-returns-in_ok-inner-in-While t c =
    let s : statement_of c.args.statement.now ≡ plain.While (source_place c.in-While.place) (expression_of c.in-While.condition) (statement_of c.deref-in-While.result.now) =
    ap statement_of c.in-While.is ∙ ap (λ x. plain.While (source_place c.in-While.place) (expression_of c.in-While.condition) (statement_of x)) (sym c.deref-in-While.ensures) in
    let P : plain.Statement → Type 0 = λ x. Compiles c.args.self.now c.lead-in-While.new.self x c.args.next c.in_ok-own-in-While.own in
    subst P (sym s) (compiled-loop c.args.self.now c.place-in-While.new.self c.statement-in-While.new.self c.lead-in-While.new.self
    (Statement c.args.statement) _ _ _ _ _ c.new-in-While.result c.requires.may
    c.in_ok-own-in-While.ensures c.in_ok-inner-in-While.ensures c.lead-in-While.ensures (ap Runs s) (λ rest. refl) refl (λ rest layout. refl) c.new-in-While.ensures.inner (λ rest h. h))

pub statement-returns-in_ok-inner-in-Forever : goal.statement-returns-in_ok-inner-in-Forever
statement-returns-in_ok-inner-in-Forever t c =
    let s : statement_of c.args.statement.now ≡ plain.Forever (source_place c.in-Forever.place) (statement_of c.deref-in-Forever.result.now) = ap statement_of c.in-Forever.is
    ∙ ap (λ x. plain.Forever (source_place c.in-Forever.place) (statement_of x)) (sym c.deref-in-Forever.ensures) in
    let P : plain.Statement → Type 0 = λ x. Compiles c.args.self.now c.lead-in-Forever.new.self x c.args.next c.in_ok-own-in-Forever.own in
    subst P (sym s) (compiled-loop c.args.self.now c.place-in-Forever.new.self c.statement-in-Forever.new.self c.lead-in-Forever.new.self
    (Statement c.args.statement) _ _ _ _ _ c.new-in-Forever.result c.requires.may
    c.in_ok-own-in-Forever.ensures c.in_ok-inner-in-Forever.ensures c.lead-in-Forever.ensures (ap Runs s) (λ rest. refl) refl (λ rest layout. refl) c.new-in-Forever.ensures.inner (λ rest h. h))

pub statement-returns-in_ok-inner-in-Delay : goal.statement-returns-in_ok-inner-in-Delay
statement-returns-in_ok-inner-in-Delay t c =
    let s : statement_of c.args.statement.now ≡ plain.Delay (source_place c.in-Delay.place) c.in-Delay.delay (statement_of c.deref-in-Delay.result.now) = ap statement_of c.in-Delay.is
    ∙ ap (λ x. plain.Delay (source_place c.in-Delay.place) c.in-Delay.delay (statement_of x)) (sym c.deref-in-Delay.ensures) in
    let P : plain.Statement → Type 0 = λ x. Compiles c.args.self.now c.lead-in-Delay.new.self x c.args.next c.in_ok-own-in-Delay.own in
    subst P (sym s) (compiled-body c.args.self.now c.place-in-Delay.new.self c.statement-in-Delay.new.self c.lead-in-Delay.new.self
    (Statement c.args.statement) _ _ _ _ _ c.new-in-Delay.result c.requires.may
    c.in_ok-own-in-Delay.ensures c.in_ok-inner-in-Delay.ensures c.lead-in-Delay.ensures (ap Runs s) (λ rest. refl) refl (λ rest layout. refl) c.new-in-Delay.ensures.inner (λ rest h. h))

pub statement-returns-in_ok-inner-in-EventControl : goal.statement-returns-in_ok-inner-in-EventControl
statement-returns-in_ok-inner-in-EventControl t c =
    let s : statement_of c.args.statement.now ≡ plain.EventControl (source_place c.in-EventControl.place) (map entry_of c.in-EventControl.entries) (statement_of c.deref-in-EventControl.result.now) =
    ap statement_of c.in-EventControl.is ∙ ap (λ x. plain.EventControl (source_place c.in-EventControl.place) (map entry_of c.in-EventControl.entries) (statement_of x))
    (sym c.deref-in-EventControl.ensures) in
    let P : plain.Statement → Type 0 = λ x. Compiles c.args.self.now c.lead-in-EventControl.new.self x c.args.next c.in_ok-own-in-EventControl.own in
    subst P (sym s) (compiled-body c.args.self.now c.place-in-EventControl.new.self c.statement-in-EventControl.new.self c.lead-in-EventControl.new.self
    (Statement c.args.statement) _ _ _ _ _ c.new-in-EventControl.result c.requires.may
    c.in_ok-own-in-EventControl.ensures c.in_ok-inner-in-EventControl.ensures c.lead-in-EventControl.ensures (ap Runs s) (λ rest. refl) refl (λ rest layout. refl) c.new-in-EventControl.ensures.inner
    (λ rest h. h))

pub statement-returns-in_ok-inner-in-Wait : goal.statement-returns-in_ok-inner-in-Wait
statement-returns-in_ok-inner-in-Wait t c =
    let s : statement_of c.args.statement.now ≡ plain.Wait (source_place c.in-Wait.place) (expression_of c.in-Wait.condition) (statement_of c.deref-in-Wait.result.now) = ap statement_of c.in-Wait.is
    ∙ ap (λ x. plain.Wait (source_place c.in-Wait.place) (expression_of c.in-Wait.condition) (statement_of x)) (sym c.deref-in-Wait.ensures) in
    let P : plain.Statement → Type 0 = λ x. Compiles c.args.self.now c.lead-in-Wait.new.self x c.args.next c.in_ok-own-in-Wait.own in
    subst P (sym s) (compiled-body c.args.self.now c.place-in-Wait.new.self c.statement-in-Wait.new.self c.lead-in-Wait.new.self
    (Statement c.args.statement) _ _ _ _ _ c.new-in-Wait.result c.requires.may
    c.in_ok-own-in-Wait.ensures c.in_ok-inner-in-Wait.ensures c.lead-in-Wait.ensures (ap Runs s) (λ rest. refl) refl (λ rest layout. refl) c.new-in-Wait.ensures.inner (λ rest h. h))

pub statement-returns-in_ok-other-in-Case : goal.statement-returns-in_ok-other-in-Case
statement-returns-in_ok-other-in-Case t c =
    let s : statement_of c.args.statement.now ≡ plain.Case (source_place c.in-Case.place) c.in-Case.kind (expression_of c.in-Case.value) (items_of c.deref-in-Case.result.now)
    (statement_of c.deref-in-Case-2.result.now) = ap statement_of c.in-Case.is ∙ statement_of-Case c.in-Case.place c.in-Case.kind c.in-Case.value c.in-Case.items c.in-Case.default
    ∙ ap (λ xs. plain.Case (source_place c.in-Case.place) c.in-Case.kind (expression_of c.in-Case.value) (items_of xs) (statement_of c.in-Case.default.value)) (sym c.deref-in-Case.ensures.value)
    ∙ ap (λ x. plain.Case (source_place c.in-Case.place) c.in-Case.kind (expression_of c.in-Case.value) (items_of c.deref-in-Case.result.now) (statement_of x)) (sym c.deref-in-Case-2.ensures) in
    let P : plain.Statement → Type 0 = λ x. Compiles c.args.self.now c.lead-in-Case.new.self x c.args.next c.in_ok-own-in-Case.own in
    subst P (sym s) (compiled-case c.args.self.now c.place-in-Case.new.self c.items.new.self c.statement-in-Case.new.self c.lead-in-Case.new.self
    (Statement c.args.statement) _ _ _ _ _ c.args.next c.in_ok-own-in-Case.own c.in_ok-other-in-Case.other
    c.in_ok-items-in-Case.items.items (record { inner = 0; other = c.in_ok-other-in-Case.other; items = c.in_ok-items-in-Case.items }) c.requires.may
    c.in_ok-own-in-Case.ensures c.in_ok-items-in-Case.ensures c.in_ok-other-in-Case.ensures c.lead-in-Case.ensures (ap Runs s) refl refl)

pub statement-returns-in_ok-inner-in-For : goal.statement-returns-in_ok-inner-in-For
statement-returns-in_ok-inner-in-For t c =
    let s : statement_of c.args.statement.now ≡ plain.For (source_place c.in-For.place) (map target_of c.in-For.first_targets.items) (expression_of c.in-For.first) (expression_of c.in-For.condition)
    (map target_of c.in-For.next_targets.items) (expression_of c.in-For.next) (statement_of c.deref-in-For.result.now) = ap statement_of c.in-For.is
    ∙ ap (λ x. plain.For (source_place c.in-For.place) (map target_of c.in-For.first_targets.items) (expression_of c.in-For.first) (expression_of c.in-For.condition)
    (map target_of c.in-For.next_targets.items) (expression_of c.in-For.next) (statement_of x)) (sym c.deref-in-For.ensures) in
    let P : plain.Statement → Type 0 = λ x. Compiles c.args.self.now c.lead-in-For-2.new.self x c.args.next c.in_ok-own-in-For.own in
    subst P (sym s) (compiled-for c.args.self.now c.place-in-For.new.self c.place-in-For-2.new.self c.place-in-For-3.new.self c.statement-in-For.new.self c.lead-in-For.new.self
    c.lead-in-For-2.new.self
    (Statement c.args.statement) (Test c.args.statement) (Advance c.args.statement) _ _ _ _ _ _ _ c.args.next c.in_ok-own-in-For.own c.in_ok-test-in-For.test c.in_ok-advance-in-For.advance
    c.in_ok-inner-in-For.inner
    c.new-in-For.result c.new-in-For-2.result c.requires.may c.in_ok-own-in-For.ensures c.in_ok-test-in-For.ensures c.in_ok-advance-in-For.ensures c.in_ok-inner-in-For.ensures c.lead-in-For.ensures
    c.lead-in-For-2.ensures
    (ap Runs s) (ap loop_part s) (ap advance_part s) c.new-in-For.ensures.inner c.new-in-For-2.ensures.inner)

pub statement-returns-in_ok-inner-in-Repeat : goal.statement-returns-in_ok-inner-in-Repeat
statement-returns-in_ok-inner-in-Repeat t c =
    let s : statement_of c.args.statement.now ≡ plain.Repeat (source_place c.in-Repeat.place) (expression_of c.in-Repeat.count) (statement_of c.deref-in-Repeat.result.now) =
    ap statement_of c.in-Repeat.is ∙ ap (λ x. plain.Repeat (source_place c.in-Repeat.place) (expression_of c.in-Repeat.count) (statement_of x)) (sym c.deref-in-Repeat.ensures) in
    let counted : Builder = record { spots = c.place-in-Repeat.new.self.spots; ways = c.place-in-Repeat.new.self.ways; repeats = c.place-in-Repeat.new.self.repeats + 1 } in
    let p = c.in_ok-own-in-Repeat.ensures in
    let more : counted.repeats ≡ c.args.self.now.repeats + 1 = omega (arith, p.0.repeats) in
    let gc : Grows c.place-in-Repeat.new.self counted = counts-more c.place-in-Repeat.new.self counted refl refl (omega arith) p.1.ways in
    let longer = placed-length c.args.self.now c.place-in-Repeat.new.self _ _ _ p.0 in
    let counted_in : IsInStep counted = record { sized = p.1.sized; ways = p.1.ways; repeats = omega (arith, longer, p.0.repeats, c.requires.may.in_step.repeats) } in
    let P : plain.Statement → Type 0 = λ x. Compiles c.args.self.now c.lead-in-Repeat-2.new.self x c.args.next c.in_ok-own-in-Repeat.own in
    subst P (sym s) (compiled-repeat c.args.self.now c.place-in-Repeat.new.self counted c.place-in-Repeat-2.new.self c.statement-in-Repeat.new.self c.lead-in-Repeat.new.self
    c.lead-in-Repeat-2.new.self
    (Statement c.args.statement) (Turns c.args.statement c.args.self.now.repeats) _ _ _ c.args.next c.in_ok-own-in-Repeat.own c.in_ok-turns-in-Repeat.turns c.in_ok-inner-in-Repeat.inner
    c.new-in-Repeat.result c.new-in-Repeat-2.result c.requires.may p gc refl counted_in more c.in_ok-turns-in-Repeat.ensures c.in_ok-inner-in-Repeat.ensures c.lead-in-Repeat.ensures
    c.lead-in-Repeat-2.ensures
    (ap Runs s) (ap (turns_part c.args.self.now.repeats) s) c.new-in-Repeat.ensures.inner c.new-in-Repeat-2.ensures.inner c.new-in-Repeat-2.ensures.other)
