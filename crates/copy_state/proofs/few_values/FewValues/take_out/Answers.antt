use Rattle.std.proofs.Common.{ap, sym, ◌∙◌, subst, map}
use Rattle.copy_state.specs.Entries.{IsAt, GoesTo, without_entry}
use Rattle.copy_state.specs.Listed.{entry_of, numbers_of}
use Rattle.copy_state.proofs.ListLaws.{taken-at, taken-none, rise-taken}
use Rattle.copy_state.proofs.few_values.FewValues.take_out.Goals as goal

pub invariant_of-self : goal.invariant_of-self
invariant_of-self c =
    rise-taken c.self.inside.values.items c.remove.new.self.items c.args.object c.self.invariant
    (ap (map entry_of) c.remove.ensures.items
    ∙ taken-at c.self.inside.values.items c.in-Ok.place c.args.object (subst (λ l. IsAt (numbers_of l) c.in-Ok.place c.args.object) c.as_slice.ensures c.in-Ok.ensures))

pub returns-in-Ok : goal.returns-in-Ok
returns-in-Ok c =
    ap (map entry_of) c.remove.ensures.items
    ∙ taken-at c.self.inside.values.items c.in-Ok.place c.args.object (subst (λ l. IsAt (numbers_of l) c.in-Ok.place c.args.object) c.as_slice.ensures c.in-Ok.ensures)
    ∙ ap (without_entry c.args.object) c.self.view_is

pub returns-in_default : goal.returns-in_default
returns-in_default c =
    sym c.self.view_is ∙ taken-none c.self.inside.values.items c.in_default.field-0 c.args.object
    (subst (λ l. GoesTo (numbers_of l) c.in_default.field-0 c.args.object) c.as_slice.ensures c.in_default.ensures)
    ∙ ap (without_entry c.args.object) c.self.view_is
