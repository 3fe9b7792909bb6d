use Rattle.std.proofs.Common.{arith, ap, sym, ◌∙◌, ◌≡◌, length, set, subst}
use Rattle.std.specs.Prelude.{Some}
use Rattle.std.proofs.lemmas.List.{length-set}
use Rattle.copy_state.specs.Entries.{with_entry}
use Rattle.copy_state.specs.Tables.{entries_from, IsTable}
use Rattle.copy_state.specs.declared.value_table.ValueTable.TheInside.{Inside}
use Rattle.copy_state.proofs.TableLaws.{with-table, put-new, put-old, count-most}
use Rattle.copy_state.proofs.value_table.ValueTable.put.Goals.{then-is_none, else-is_none}
use Rattle.copy_state.proofs.value_table.ValueTable.put.Goals as goal

pub overflow_add-self : goal.overflow_add-self
overflow_add-self c =
    let few = count-most 0 c.self.inside.values.items in let is = c.self.invariant.count_is in omega arith

pub invariant_of-self-2 : goal.invariant_of-self-2
invariant_of-self-2 c =
    let P = λ (inside : Inside). IsTable (set inside.values.items c.args.object (Some c.args.value)) inside.count in
    let was : length (entries_from 0 c.reach.new.values.items) ≡ length (entries_from 0 c.self.inside.values.items) = ap length c.in_ok-reach.ensures.same in
    let is : c.self.inside.count ≡ length (entries_from 0 c.self.inside.values.items) = c.self.invariant.count_is in
    let few = c.in_ok-reach.ensures.few (omega (arith, c.self.invariant.few)) in
    let long = length-set c.reach.new.values.items c.args.object (Some c.args.value) in
    elim c.if-is_none.branch [
      | then-is_none w ↦
          let more = put-new c.args.object c.args.value c.reach.new.values.items c.index.result.now (omega (arith, c.in_ok-reach.ensures.there)) c.index.ensures w.if-is_none.ensures in
          subst P (sym w.self-inside-is) (record { count_is = omega arith; few = omega arith })
      | else-is_none w ↦
          let more = put-old c.args.object c.args.value c.reach.new.values.items c.index.result.now (omega (arith, c.in_ok-reach.ensures.there)) c.index.ensures w.if-is_none.ensures in
          subst P (sym w.self-inside-is) (record { count_is = omega arith; few = omega arith })
    ]

pub returns-clause-ok : goal.returns-clause-ok
returns-clause-ok c =
    let P = λ (inside : Inside). entries_from 0 (set inside.values.items c.args.object (Some c.args.value)) ≡ with_entry c.args.object c.args.value c.args.self.now in
    let put = with-table 0 c.args.object c.args.object c.args.value c.reach.new.values.items (omega arith) (omega (arith, c.in_ok-reach.ensures.there))
    ∙ ap (with_entry c.args.object c.args.value) (c.in_ok-reach.ensures.same ∙ c.self.view_is) in
    elim c.if-is_none.branch [ then-is_none w ↦ subst P (sym w.self-inside-is) put | else-is_none w ↦ subst P (sym w.self-inside-is) put ]
