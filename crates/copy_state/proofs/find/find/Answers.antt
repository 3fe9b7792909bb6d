use Rattle.std.proofs.Common.{arith, sym, ◌∙◌}
use Rattle.copy_state.proofs.ListLaws.{is_at-found, goes_to-missed, number_at}
use Rattle.copy_state.proofs.find.find.Goals.{else-place-entries-via-then-place-entries+else-entries-place, else-place-entries-via-else-place-entries}
use Rattle.copy_state.proofs.find.find.Goals as goal

pub returns-then-entries-place : goal.returns-then-entries-place
returns-then-entries-place g c =
    is_at-found c.args.entries.now c.count_before-place.result c.args.number c.index-entries-place.result c.requires c.if-place-entries.true c.if-entries-place.true c.count_before-place.ensures.before

pub returns : goal.returns
returns g c =
    goes_to-missed c.args.entries.now c.count_before-place.result c.args.number c.requires c.count_before-place.ensures.within c.count_before-place.ensures.before c.count_before-place.ensures.after
    (λ within same. elim c.else-place-entries.branch [
      | else-place-entries-via-then-place-entries+else-entries-place w ↦
          w.if-entries-place.false (sym (number_at c.args.entries.now c.count_before-place.result w.index-entries-place.result within) ∙ same)
      | else-place-entries-via-else-place-entries w ↦ omega arith
    ])
