use Rattle.std.proofs.Common.{ap, ◌∙◌, subst, map, set}
use Rattle.vf_base.specs.Base.{process_number}
use Rattle.copy_state.specs.Entries.{IsAt, GoesTo, with_entry}
use Rattle.copy_state.specs.Listed.{entry_of, numbers_of}
use Rattle.copy_state.proofs.ListLaws.{put-read, put-new, rise-put}
use Rattle.copy_state.proofs.by_process.ByProcess.put.Goals as goal

pub invariant_of-self : goal.invariant_of-self
invariant_of-self g c =
    rise-put c.self.inside.entries.items (set c.self.inside.entries.items c.in-Ok.place (record { number = c.index_mut.result.now.number; kept = c.args.kept }))
    (process_number c.args.process) c.args.kept
    c.self.invariant
    (put-read c.self.inside.entries.items c.in-Ok.place (process_number c.args.process) c.index_mut.result.now c.args.kept c.index_mut.ensures.value
    (subst (λ l. IsAt (numbers_of l) c.in-Ok.place (process_number c.args.process)) c.deref.ensures.value c.in-Ok.ensures))

pub invariant_of-self-in-Continue-1 : goal.invariant_of-self-in-Continue-1
invariant_of-self-in-Continue-1 g c =
    rise-put c.self.inside.entries.items c.insert.new.self.items (process_number c.args.process) c.args.kept c.self.invariant
    (ap (map entry_of) c.in_ok-insert-in-Err.ensures.items
    ∙ put-new c.self.inside.entries.items c.in-Err.place (record { number = process_number c.args.process; kept = c.args.kept })
    (subst (λ l. GoesTo (numbers_of l) c.in-Err.place (process_number c.args.process)) c.deref.ensures.value c.in-Err.ensures))

pub returns-in-Ok-clause-ok : goal.returns-in-Ok-clause-ok
returns-in-Ok-clause-ok g c =
    put-read c.self.inside.entries.items c.in-Ok.place (process_number c.args.process) c.index_mut.result.now c.args.kept c.index_mut.ensures.value
    (subst (λ l. IsAt (numbers_of l) c.in-Ok.place (process_number c.args.process)) c.deref.ensures.value c.in-Ok.ensures)
    ∙ ap (with_entry (process_number c.args.process) c.args.kept) c.self.view_is

pub returns-in_ok-insert-in-Err-clause-ok : goal.returns-in_ok-insert-in-Err-clause-ok
returns-in_ok-insert-in-Err-clause-ok g c =
    ap (map entry_of) c.in_ok-insert-in-Err.ensures.items
    ∙ put-new c.self.inside.entries.items c.in-Err.place (record { number = process_number c.args.process; kept = c.args.kept })
    (subst (λ l. GoesTo (numbers_of l) c.in-Err.place (process_number c.args.process)) c.deref.ensures.value c.in-Err.ensures)
    ∙ ap (with_entry (process_number c.args.process) c.args.kept) c.self.view_is
