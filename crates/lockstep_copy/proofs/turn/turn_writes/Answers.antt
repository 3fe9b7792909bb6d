use Rattle.std.proofs.Common.{◌≡◌, ◌++◌, List, [], map, not, refl, ap, sym, subst, ◌∙◌}
use Rattle.std.specs.Prelude.{Some, filter}
use Rattle.vf_base.specs.Base.{process_number}
use Rattle.v_design.specs.Plain.{due_of, update_of}
use Rattle.v_design.specs.States.{LaterUpdate, found_or, is_due}
use Rattle.v_design.specs.declared.plan.Due.{Due}
use Rattle.v_design.specs.declared.plan.Update.{Update}
use Rattle.copy_laws.specs.Differences.{own_of}
use Rattle.copy_state.specs.Entries.{with_entry}
use Rattle.lockstep_copy.specs.Kept.{TurnsWrites, with_writes_kept}
use Rattle.lockstep_copy.specs.declared.own.LockstepCopy.{LockstepCopy}
use Rattle.lockstep_copy.proofs.Writes.{turned-some}
use Rattle.lockstep_copy.proofs.turn.turn_writes.Goals as goal

pub returns : goal.returns
returns c =
    let process = process_number c.args.process in
    let own = c.args.own.now in
    let later = map due_of c.in-Some.later.now in
    let kept : own_of own.copy.updates process ≡ Some later = sym c.in-Some.ensures in
    let parted = c.in_ok-part_due.ensures in
    let whole : record { copy = c.hold_updates.new.self; lanes = c.put.new.self } ≡ with_writes_kept process (map due_of c.part_due.new.rest.items) c.part_due.new.lane.items own =
    λ i. record {
      copy = c.in_ok-hold_updates.ensures.ok i;
      lanes = (c.in_ok-put.ensures.ok ∙ ap (λ (l : List Update). with_entry process l own.lanes) c.from_vec.ensures) i;
    } in
    subst (λ (k : LockstepCopy). TurnsWrites c.args.now process own k) (sym whole)
    (turned-some c.args.now process later (map due_of c.part_due.new.rest.items) c.part_due.new.lane.items own kept
    (parted.rest ∙ ap (λ (l : List Due). map due_of l ++ filter (λ (l : LaterUpdate). not (is_due c.args.now l)) later) c.new-rest.ensures.items)
    (parted.lane ∙ ap (λ (l : List Update). map update_of l ++ map (λ (l : LaterUpdate). l.update) (filter (is_due c.args.now) later)) c.in_ok-lane.ensures))
