use Rattle.std.proofs.Common.{ap, sym, ◌∙◌, subst, get_or}
use Rattle.v_design.specs.States.{found_or}
use Rattle.copy_laws.specs.Differences.{own_of}
use Rattle.copy_state.specs.Entries.{IsAt, GoesTo}
use Rattle.copy_state.specs.Listed.{numbers_of}
use Rattle.copy_state.proofs.ListLaws.{kept-at, kept-none}
use Rattle.copy_state.proofs.few_values.FewValues.value_or.Goals as goal

pub returns-in-Ok : goal.returns-in-Ok
returns-in-Ok c =
    ap (λ l. (get_or l c.in-Ok.place c.index-values-place.result).kept) c.as_slice-values.ensures
    ∙ ap (found_or c.args.other) (sym (kept-at c.self.inside.values.items c.in-Ok.place c.args.object c.index-values-place.result
    (subst (λ l. IsAt (numbers_of l) c.in-Ok.place c.args.object) c.as_slice-values.ensures c.in-Ok.ensures)))
    ∙ ap (λ k. found_or c.args.other (own_of k c.args.object)) c.self.view_is

pub returns-in-Err : goal.returns-in-Err
returns-in-Err c =
    ap (found_or c.args.other) (sym (kept-none c.self.inside.values.items c.in-Err.field-0 c.args.object
    (subst (λ l. GoesTo (numbers_of l) c.in-Err.field-0 c.args.object) c.as_slice-values.ensures c.in-Err.ensures)))
    ∙ ap (λ k. found_or c.args.other (own_of k c.args.object)) c.self.view_is
