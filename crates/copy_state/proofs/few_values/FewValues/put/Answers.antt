use Rattle.std.proofs.Common.{ap, ◌∙◌, subst, map, set, get_or, length}
use Rattle.std.specs.List.{refill}
use Rattle.copy_state.specs.Entries.{IsAt, GoesTo, with_entry}
use Rattle.copy_state.specs.Listed.{entry_of, numbers_of}
use Rattle.copy_state.proofs.ListLaws.{put-over, put-new, rise-put}
use Rattle.copy_state.proofs.few_values.FewValues.put.Goals as goal

pub invariant_of-self : goal.invariant_of-self
invariant_of-self c =
    rise-put c.self.inside.values.items
    (refill (length c.self.inside.values.items) c.self.inside.values.items (set c.as_mut_slice.result.now c.in-Ok.place
    (record { number = (get_or c.as_mut_slice.result.now c.in-Ok.place c.index-as_mut_slice-place.result).number; kept = c.args.value })))
    c.args.object c.args.value c.self.invariant
    (put-over c.self.inside.values.items c.as_mut_slice.result.now c.in-Ok.place c.args.object c.index-as_mut_slice-place.result c.args.value c.as_mut_slice.ensures.value
    (subst (λ l. IsAt (numbers_of l) c.in-Ok.place c.args.object) c.as_slice.ensures c.in-Ok.ensures))

pub invariant_of-self-in-Continue-1 : goal.invariant_of-self-in-Continue-1
invariant_of-self-in-Continue-1 c =
    rise-put c.self.inside.values.items c.insert.new.self.items c.args.object c.args.value c.self.invariant
    (ap (map entry_of) c.in_ok-insert-in-Err.ensures.ok
    ∙ put-new c.self.inside.values.items c.in-Err.place (record { number = c.args.object; kept = c.args.value })
    (subst (λ l. GoesTo (numbers_of l) c.in-Err.place c.args.object) c.as_slice.ensures c.in-Err.ensures))

pub returns-in-Ok-clause-ok : goal.returns-in-Ok-clause-ok
returns-in-Ok-clause-ok c =
    put-over c.self.inside.values.items c.as_mut_slice.result.now c.in-Ok.place c.args.object c.index-as_mut_slice-place.result c.args.value c.as_mut_slice.ensures.value
    (subst (λ l. IsAt (numbers_of l) c.in-Ok.place c.args.object) c.as_slice.ensures c.in-Ok.ensures)
    ∙ ap (with_entry c.args.object c.args.value) c.self.view_is

pub returns-in_ok-insert-in-Err-clause-ok : goal.returns-in_ok-insert-in-Err-clause-ok
returns-in_ok-insert-in-Err-clause-ok c =
    ap (map entry_of) c.in_ok-insert-in-Err.ensures.ok
    ∙ put-new c.self.inside.values.items c.in-Err.place (record { number = c.args.object; kept = c.args.value })
    (subst (λ l. GoesTo (numbers_of l) c.in-Err.place c.args.object) c.as_slice.ensures c.in-Err.ensures)
    ∙ ap (with_entry c.args.object c.args.value) c.self.view_is
