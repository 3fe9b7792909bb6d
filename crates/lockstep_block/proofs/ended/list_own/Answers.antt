-- One run more is listed.
use Rattle.std.proofs.Common.{List, [], get_or, map, take, sym, subst}
use Rattle.vf_base.specs.Base.{process_number}
use Rattle.vf_base.specs.declared.ids.ProcId.{ProcId}
use Rattle.lockstep_block.specs.Runs.{NotesEnded}
use Rattle.lockstep_block.proofs.Noted.{all-taken, next-taken, own-noted}
use Rattle.lockstep_block.proofs.ended.list_own.Goals as goal

pub runs-preserved : goal.runs-preserved
runs-preserved c =
    let none : ProcId = record { 0 = 0 } in
    let own = c.args.own.now in
    let place = c.runs.process-index in
    subst (λ l. NotesEnded c.args.apart.now.items c.list_run.new.apart.items l []) (sym (next-taken process_number own place none c.runs-test.true))
    (own-noted c.args.apart.now.items c.runs.apart.items c.list_run.new.apart.items (get_or own place none) (map process_number (take place own)) [] c.runs.invariant c.in_ok-list_run.ensures)

pub returns : goal.returns
returns c =
    subst (λ l. NotesEnded c.args.apart.now.items c.runs.apart.items l []) (all-taken process_number c.args.own.now c.runs.process-index c.runs-test.false) c.runs.invariant
