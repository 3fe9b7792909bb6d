use Rattle.std.proofs.Common.{ap, sym, ◌∙◌, subst, Some}
use Rattle.copy_laws.specs.Differences.{own_of}
use Rattle.copy_state.specs.declared.entry.Entry.{Entry}
use Rattle.vf_base.specs.Base.{process_number}
use Rattle.copy_state.specs.Entries.{IsAt, GoesTo}
use Rattle.copy_state.specs.Listed.{numbers_of}
use Rattle.copy_state.proofs.ListLaws.{kept-at, kept-none}
use Rattle.copy_state.proofs.by_process.ByProcess.get.Goals as goal

pub returns-in-Ok : goal.returns-in-Ok
returns-in-Ok g c =
    ap (λ (e : Entry g.row.T.Denot). Some e.kept) c.index.ensures
    ∙ sym (kept-at c.self.inside.entries.items c.in-Ok.place (process_number c.args.process) c.index.result.now
    (subst (λ l. IsAt (numbers_of l) c.in-Ok.place (process_number c.args.process)) c.deref.ensures.value c.in-Ok.ensures))
    ∙ ap (λ k. own_of k (process_number c.args.process)) c.self.view_is

pub returns-in-Err : goal.returns-in-Err
returns-in-Err g c =
    sym (kept-none c.self.inside.entries.items c.in-Err.field-0 (process_number c.args.process)
    (subst (λ l. GoesTo (numbers_of l) c.in-Err.field-0 (process_number c.args.process)) c.deref.ensures.value c.in-Err.ensures))
    ∙ ap (λ k. own_of k (process_number c.args.process)) c.self.view_is
