-- By the good machine's lane.
use Rattle.std.proofs.Common.{rules, ◌≡◌, ℕ, List, [], ◌∷◌, get_or, length, map, refl, ap, ◌∙◌, arith}
use Rattle.std.proofs.lemmas.Result.{on_ok_weaker}
use Rattle.vf_base.specs.Base.{process_number}
use Rattle.v_design.specs.Assignments.{ValueUpdate}
use Rattle.v_design.specs.Plain.{update_of}
use Rattle.v_design.specs.declared.plan.Update.{Update}
use Rattle.phase_faults.specs.lockstep_copy.Kept.{TurnsWrites, kept_by}
use Rattle.phase_faults.specs.lockstep_copy.declared.own.LockstepCopy.{LockstepCopy}
use Rattle.phase_faults.specs.slot_laws.Slots.{TurnsOne, turned_beside}
use Rattle.lockstep_turn.proofs.turn.turn_one.Goals as goal

-- a lane without updates
stays-one : (now process : ℕ) (updates : List Update) (lane : List ValueUpdate) (own : LockstepCopy) → map update_of updates ≡ lane → length updates ≡ 0 → TurnsOne now process lane own own
stays-one now process [] lane own are none = record {
  rest = record { fault = refl; values = refl; states = refl; others = λ other differs. refl };
  here = ap (λ (l : List ValueUpdate). turned_beside now l ((kept_by own).writes process)) are;
}
stays-one now process (update ∷ updates) lane own are none = absurd (omega (arith, none))

-- one with some
turns-one : (now process : ℕ) (updates : List Update) (lane : List ValueUpdate) (old new : LockstepCopy) → map update_of updates ≡ lane → (length updates ≡ 0 → ⊥) → TurnsWrites now process old new →
    TurnsOne now process lane old new
turns-one now process [] lane old new are some turns = absurd (some (omega arith))
turns-one now process (update ∷ updates) lane old new are some turns = record {
  rest = turns.rest;
  here = turns.here ∙ ap (λ (l : List ValueUpdate). turned_beside now l ((kept_by old).writes process)) are;
}

pub returns-then-is_empty : goal.returns-then-is_empty
returns-then-is_empty g c =
    let none : length c.lane.result.now ≡ 0 = search rules in
    stays-one c.args.now (process_number c.args.process) c.lane.result.now (get_or c.args.good.now.lanes (process_number c.args.process) []) c.args.own.now c.lane.ensures none

pub returns : goal.returns
returns g c =
    let some : length c.lane.result.now ≡ 0 → ⊥ = λ e. search rules in
    on_ok_weaker c.turn_writes.result
    (turns-one c.args.now (process_number c.args.process) c.lane.result.now (get_or c.args.good.now.lanes (process_number c.args.process) []) c.args.own.now c.turn_writes.new.own c.lane.ensures some)
    c.turn_writes.ensures
