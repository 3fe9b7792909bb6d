use Rattle.std.proofs.Common.{ap, sym, ◌∙◌, subst, map}
use Rattle.vf_base.specs.Base.{process_number}
use Rattle.copy_state.specs.Entries.{IsAt, GoesTo, without_entry}
use Rattle.copy_state.specs.Listed.{entry_of, numbers_of}
use Rattle.copy_state.proofs.ListLaws.{taken-at, taken-none, rise-taken}
use Rattle.copy_state.proofs.by_process.ByProcess.take_out.Goals as goal

pub invariant_of-self : goal.invariant_of-self
invariant_of-self g c =
    rise-taken c.self.inside.entries.items c.remove.new.self.items (process_number c.args.process) c.self.invariant
    (ap (map entry_of) c.remove.ensures.items
    ∙ taken-at c.self.inside.entries.items c.in-Ok.place (process_number c.args.process) (subst
    (λ l. IsAt (numbers_of l) c.in-Ok.place (process_number c.args.process)) c.deref.ensures.value c.in-Ok.ensures))

pub returns-in-Ok : goal.returns-in-Ok
returns-in-Ok g c =
    ap (map entry_of) c.remove.ensures.items
    ∙ taken-at c.self.inside.entries.items c.in-Ok.place (process_number c.args.process) (subst
    (λ l. IsAt (numbers_of l) c.in-Ok.place (process_number c.args.process)) c.deref.ensures.value c.in-Ok.ensures)
    ∙ ap (without_entry (process_number c.args.process)) c.self.view_is

pub returns-in_default : goal.returns-in_default
returns-in_default g c =
    sym c.self.view_is
    ∙ taken-none c.self.inside.entries.items c.in_default.field-0 (process_number c.args.process)
    (subst (λ l. GoesTo (numbers_of l) c.in_default.field-0 (process_number c.args.process)) c.deref.ensures.value c.in_default.ensures)
    ∙ ap (without_entry (process_number c.args.process)) c.self.view_is
