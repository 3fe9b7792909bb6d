use Rattle.std.proofs.Common.{◌≡◌, ◌≢◌, map, length, true, false, refl, ap, sym, subst, ◌∙◌, arith}
use Rattle.std.proofs.lemmas.List.{length-map}
use Rattle.vf_base.specs.Base.{process_number}
use Rattle.v_design.specs.Plain.{due_of, update_of}
use Rattle.lockstep_laws.specs.Lockstep.{due_times}
use Rattle.lockstep_copy.specs.Kept.{WritesAreKept, writes_told, with_writes_kept}
use Rattle.lockstep_copy.specs.declared.own.LockstepCopy.{LockstepCopy}
use Rattle.lockstep_copy.proofs.Lists.{times-map}
use Rattle.lockstep_copy.proofs.Writes.{kept-own, kept-none}
use Rattle.lockstep_copy.proofs.keep.keep_writes.Goals as goal

pub returns-then-same_writes-clause-kept : goal.returns-then-same_writes-clause-kept
returns-then-same_writes-clause-kept c = λ _.
    let good = writes_told c.args.good_later.now c.args.good_lane.now in
    let own = writes_told c.args.later.now c.args.lane.now in
    subst (λ (k : LockstepCopy). WritesAreKept (process_number c.args.process) good own c.args.own.now k) (sym c.drop_writes.ensures)
    (kept-none (process_number c.args.process) good own c.args.own.now (sym (c.if-same_writes.ensures.0 refl)))

pub returns-clause-kept : goal.returns-clause-kept
returns-clause-kept c = λ _.
    let good = writes_told c.args.good_later.now c.args.good_lane.now in
    let own = writes_told c.args.later.now c.args.lane.now in
    let differ : own ≢ good = λ same. let wrong : false ≡ true = c.if-same_writes.ensures.1 (sym same) in cc in
    let due : due_times own.later ≡ due_times good.later = times-map c.args.later.now ∙ sym (c.if-not-same_times.ensures.0 refl) ∙ sym (times-map c.args.good_later.now) in
    let long : length own.lane ≡ length good.lane =
    length-map c.args.lane.now update_of ∙ sym c.if-good_lane-lane.false ∙ sym (length-map c.args.good_lane.now update_of) in
    let whole : c.hold_writes.new.own ≡ with_writes_kept (process_number c.args.process) own.later c.args.lane.now c.args.own.now =
    c.in_ok-hold_writes.ensures
    ∙ (λ i. with_writes_kept (process_number c.args.process) (map due_of (c.in_ok-kept_later.ensures i)) (c.in_ok-kept_lane.ensures i) c.args.own.now) in
    subst (λ (k : LockstepCopy). WritesAreKept (process_number c.args.process) good own c.args.own.now k) (sym whole)
    (kept-own (process_number c.args.process) good own c.args.lane.now c.args.own.now refl differ due long)
