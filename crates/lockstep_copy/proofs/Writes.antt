-- The updates that are kept of one process.
use Rattle.std.proofs.Common.{◌≡◌, ◌≢◌, ℕ, List, [], ◌∷◌, ◌++◌, map, length, Bool, true, false, cond, not, refl, sym, ap, subst, ◌∙◌}
use Rattle.std.specs.Prelude.{Option, Some, None, filter}
use Rattle.std.specs.Option.{option_map}
use Rattle.v_design.specs.Assignments.{ValueUpdate}
use Rattle.v_design.specs.Plain.{due_of, update_of}
use Rattle.v_design.specs.States.{LaterUpdate, UpdatesTurn, found_or, is_due}
use Rattle.v_design.specs.declared.plan.Update.{Update}
use Rattle.v_design.specs.declared.plan.Due.{Due}
use Rattle.copy_laws.specs.Differences.{own_of}
use Rattle.copy_state.specs.EntryLaws.{own-with_same, own-with_other, own-without_same, own-without_other}
use Rattle.copy_between.specs.Differing.{IsDifference}
use Rattle.lockstep_laws.specs.Lockstep.{due_times}
use Rattle.lockstep_index.specs.Writes.{OwnWrites}
use Rattle.lockstep_slots.specs.Kept.{turned_writes}
use Rattle.lockstep_copy.specs.Kept.{writes_told, kept_by, with_writes_kept, without_writes_kept, TellsWrites, StaysElsewhere, WritesAreKept, TurnsWrites, ArePartedBy}
use Rattle.lockstep_copy.specs.declared.own.LockstepCopy.{LockstepCopy}

-- what is kept, by the two lists
abbrev pub writes-by : Option (List LaterUpdate) → Option (List Update) → Option OwnWrites
writes-by later lane = option_map (λ (l : List LaterUpdate). record { later = l; lane = map update_of (found_or [] lane) }) later

-- Updates are kept

pub with-elsewhere : (process : ℕ) (later : List LaterUpdate) (lane : List Update) (old : LockstepCopy) → StaysElsewhere process old (with_writes_kept process later lane old)
with-elsewhere process later lane old = record {
  fault = refl;
  values = refl;
  states = refl;
  others = λ other differ. λ i. writes-by (own-with_other process other later old.copy.updates differ i) (own-with_other process other lane old.lanes differ i);
}

pub with-here : (process : ℕ) (later : List LaterUpdate) (lane : List Update) (old : LockstepCopy) →
    (kept_by (with_writes_kept process later lane old)).writes process ≡ Some (record { later = later; lane = map update_of lane })
with-here process later lane old = λ i. writes-by (own-with_same process later old.copy.updates i) (own-with_same process lane old.lanes i)

-- Or none

pub without-elsewhere : (process : ℕ) (old : LockstepCopy) → StaysElsewhere process old (without_writes_kept process old)
without-elsewhere process old = record {
  fault = refl;
  values = refl;
  states = refl;
  others = λ other differ. λ i. writes-by (own-without_other process other old.copy.updates differ i) (own-without_other process other old.lanes differ i);
}

pub without-here : (process : ℕ) (old : LockstepCopy) → (kept_by (without_writes_kept process old)).writes process ≡ None
without-here process old = ap (λ found. writes-by found (own_of (without_writes_kept process old).lanes process)) (own-without_same process old.copy.updates)

-- Compared with the good ones

pub kept-own : (process : ℕ) (good own : OwnWrites) (lane : List Update) (old : LockstepCopy) → own.lane ≡ map update_of lane → own ≢ good → due_times own.later ≡ due_times good.later →
    length own.lane ≡ length good.lane → WritesAreKept process good own old (with_writes_kept process own.later lane old)
kept-own process good own lane old lane_is differ due long = record {
  rest = with-elsewhere process own.later lane old;
  here = subst (TellsWrites good own) (sym found) (record {
    difference = record { tells = refl; differs = λ kept is same. differ (let e : own ≡ kept = cc in e ∙ same) };
    due = λ kept is. let e : own ≡ kept = cc in ap (λ (w : OwnWrites). due_times w.later) (sym e) ∙ due;
    lane = λ kept is. let e : own ≡ kept = cc in ap (λ (w : OwnWrites). length w.lane) (sym e) ∙ long;
  });
}
  where
    found : (kept_by (with_writes_kept process own.later lane old)).writes process ≡ Some own
    found = with-here process own.later lane old ∙ ap (λ (l : List ValueUpdate). Some (record { later = own.later; lane = l })) (sym lane_is)

pub kept-none : (process : ℕ) (good own : OwnWrites) (old : LockstepCopy) → own ≡ good → WritesAreKept process good own old (without_writes_kept process old)
kept-none process good own old same = record {
  rest = without-elsewhere process old;
  here = subst (TellsWrites good own) (sym (without-here process old)) (record {
    difference = record { tells = same; differs = λ kept is. cc };
    due = λ kept is. cc;
    lane = λ kept is. cc;
  });
}

-- A turn

-- nothing is kept, and nothing changes
pub turned-none : (now process : ℕ) (old : LockstepCopy) → own_of old.copy.updates process ≡ None → TurnsWrites now process old old
turned-none now process old none = record {
  rest = record { fault = refl; values = refl; states = refl; others = λ other differ. refl };
  here = here ∙ sym (ap (option_map (turned_writes now UpdatesTurn)) here);
}
  where
    here : (kept_by old).writes process ≡ None
    here = ap (λ found. writes-by found (own_of old.lanes process)) none

pub turned-some : (now process : ℕ) (later rest : List LaterUpdate) (lane : List Update) (old : LockstepCopy) → own_of old.copy.updates process ≡ Some later →
    rest ≡ filter (λ (l : LaterUpdate). not (is_due now l)) later →
    map update_of lane ≡ map update_of (found_or [] (own_of old.lanes process)) ++ map (λ (l : LaterUpdate). l.update) (filter (is_due now) later) →
    TurnsWrites now process old (with_writes_kept process rest lane old)
turned-some now process later rest lane old is rest_is lane_is = record {
  rest = with-elsewhere process rest lane old;
  here =
      with-here process rest lane old ∙ (λ i. Some (record { later = rest_is i; lane = lane_is i }))
      ∙ sym (ap (λ found. option_map (turned_writes now UpdatesTurn) (writes-by found (own_of old.lanes process))) is);
}
