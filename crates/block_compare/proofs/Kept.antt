-- What is kept behind two blocks that were compared part by part.
use Rattle.std.proofs.Common.{◌≡◌, ℕ, List, map, get_or, [], Bool, true, false, ◌||◌, refl, sym, ap, subst, ◌∙◌}
use Rattle.std.specs.Prelude.{Option}
use Rattle.std.specs.Option.{option_map}
use Rattle.four_value.specs.Values.{LogicValue}
use Rattle.vf_base.specs.Base.{object_number, process_number}
use Rattle.vf_base.specs.Lists.{has}
use Rattle.vf_base.specs.declared.ids.ObjectId.{ObjectId}
use Rattle.v_design.specs.Assignments.{value_at}
use Rattle.v_design.specs.Designs.{FlatDesign}
use Rattle.v_design.specs.Plain.{update_of}
use Rattle.v_design.specs.States.{State, LaterUpdate, found_or, process_at}
use Rattle.v_design.specs.declared.plan.Update.{Update}
use Rattle.copy_laws.specs.Differences.{own_of}
use Rattle.copy_between.specs.Differing.{IsDifference}
use Rattle.moment_shown.specs.moment_parts.Lanes.{lanes_left, later_lists}
use Rattle.block_told.specs.declared.told.BlockTold.{BlockTold}
use Rattle.moment_shown.specs.lockstep_compare.Among.{AreKeptAmong, AreWritesKeptAmong, KeepsValuesAlone}
use Rattle.moment_shown.specs.lockstep_compare.Compared.{IsKeptBehind, writes_in}
use Rattle.moment_shown.specs.lockstep_copy.Kept.{TellsWrites, kept_by}
use Rattle.moment_shown.specs.lockstep_copy.declared.own.LockstepCopy.{LockstepCopy}
use Rattle.lockstep_index.specs.Writes.{OwnWrites}
use Rattle.moment_shown.specs.lockstep_exchange.Putting.{lane_numbers}
use Rattle.moment_shown.specs.declared.shown.ShownBlock.{ShownBlock}
use Rattle.moment_shown.specs.declared.shown.ShownMoment.{ShownMoment}
use Rattle.moment_shown.specs.Shown.{Shows}
use Rattle.runner_writes.specs.Each.{writes_at, writes-at}
use Rattle.block_compare.specs.Comparing.{Compares, GoAlike, parts_both}
use Rattle.block_compare.proofs.Same.{on-bool}

-- Two lists of numbers

first-true : (b c : Bool) → (b || c) ≡ true → c ≡ false → b ≡ true
first-true true c e f = refl
first-true false true e f = cc
first-true false false e f = cc

none-false : (b c : Bool) → (b || c) ≡ false → (b ≡ false) × (c ≡ false)
none-false true c e = cc
none-false false true e = cc
none-false false false e = (refl, refl)

-- among the first or the second ones
pub among-two : {A : Type 0} (R : ℕ → Option A → Type 0) (one other : List ℕ) (old middle new : List (ℕ × A)) → AreKeptAmong R one old middle → AreKeptAmong R other middle new →
    (number : ℕ) → (has one number || has other number) ≡ true → R number (own_of new number)
among-two R one other old middle new first second number among =
    on-bool (has other number) (λ yes. second.each number yes)
    (λ no. subst (R number) (sym (second.others number no)) (first.each number (first-true (has one number) (has other number) among no)))

pub among-none : {A : Type 0} (R : ℕ → Option A → Type 0) (one other : List ℕ) (old middle new : List (ℕ × A)) → AreKeptAmong R one old middle → AreKeptAmong R other middle new →
    (number : ℕ) → (has one number || has other number) ≡ false → own_of new number ≡ own_of old number
among-none R one other old middle new first second number none =
    let both = none-false (has one number) (has other number) none in second.others number both.1 ∙ first.others number both.0

-- What is kept of a process

writes-of : List (ℕ × List LaterUpdate) → List (ℕ × List Update) → ℕ → Option OwnWrites
writes-of updates lanes process =
    option_map (λ (later : List LaterUpdate). record { later = later; lane = map update_of (found_or [] (own_of lanes process)) }) (own_of updates process)

writes-stay : (old new : LockstepCopy) → KeepsValuesAlone old new → (process : ℕ) → (kept_by new).writes process ≡ (kept_by old).writes process
unfolding writes-of
writes-stay old new alone process = λ i. writes-of (alone.updates i) (alone.lanes i) process

-- where no process is named all stays
pub none-kept : (goods faults : ℕ → OwnWrites) (own : LockstepCopy) → AreWritesKeptAmong goods faults [] own own
none-kept goods faults own = record { fault = refl; values = refl; states = refl; each = λ process e. cc; others = λ process e. refl }

-- All of it

module _ (block : ShownBlock) (told : BlockTold) (good faulty : State) (goods faults : ℕ → OwnWrites) (old first second third new : LockstepCopy)
    (goods_are : (process : ℕ) → goods process ≡ writes_in (process_at good process)) (faults_are : (process : ℕ) → faults process ≡ writes_in (process_at faulty process))
    (acted : AreWritesKeptAmong goods faults (map process_number block.acted.now) old first) (stepped : AreWritesKeptAmong goods faults (lane_numbers block.lane) first second)
    (alone : KeepsValuesAlone second third) (alone_too : KeepsValuesAlone third new)
    (changed : AreKeptAmong (λ object. IsDifference (value_at good.values object) (value_at faulty.values object)) (map object_number block.changed.now) second.copy.values third.copy.values)
    (changed_too : AreKeptAmong (λ object. IsDifference (value_at good.values object) (value_at faulty.values object)) (map object_number told.changed.items) third.copy.values new.copy.values)
    (same : (process : ℕ) → (parts_both block told).processes process ≡ true → (process_at faulty process).activity ≡ (process_at good process).activity) where
  values-old : second.copy.values ≡ old.copy.values
  values-old = stepped.values ∙ acted.values

  writes-new : (process : ℕ) → (kept_by new).writes process ≡ (kept_by second).writes process
  writes-new process = writes-stay third new alone_too process ∙ writes-stay second third alone process

  tells : (process : ℕ) (found : Option OwnWrites) → TellsWrites (goods process) (faults process) found → TellsWrites (writes_in (process_at good process)) (writes_in (process_at faulty process)) found
  tells process found t = subst (λ own. TellsWrites (writes_in (process_at good process)) own found) (faults_are process) (subst (λ own. TellsWrites own (faults process) found) (goods_are process) t)

  writes-here : (process : ℕ) → (parts_both block told).processes process ≡ true →
      TellsWrites (writes_in (process_at good process)) (writes_in (process_at faulty process)) ((kept_by new).writes process)
  writes-here process among =
      subst (λ found. TellsWrites (writes_in (process_at good process)) (writes_in (process_at faulty process)) found) (sym (writes-new process))
      (tells process ((kept_by second).writes process)
      (on-bool (has (lane_numbers block.lane) process) (λ yes. stepped.each process yes)
      (λ no.
      subst (λ found. TellsWrites (goods process) (faults process) found) (sym (stepped.others process no))
      (acted.each process (first-true (has (map process_number block.acted.now) process) (has (lane_numbers block.lane) process) among no)))))

  writes-elsewhere : (process : ℕ) → (parts_both block told).processes process ≡ false → (kept_by new).writes process ≡ (kept_by old).writes process
  writes-elsewhere process none =
      let both = none-false (has (map process_number block.acted.now) process) (has (lane_numbers block.lane) process) none in
      writes-new process ∙ stepped.others process both.1 ∙ acted.others process both.0

  pub is-kept : IsKeptBehind (parts_both block told) good faulty (kept_by old) (kept_by new)
  is-kept = record {
    values = λ object among.
        among-two (λ (o : ℕ). IsDifference (value_at good.values o) (value_at faulty.values o)) (map object_number block.changed.now) (map object_number told.changed.items) second.copy.values
        third.copy.values new.copy.values changed changed_too object among;
    values_stay = λ object none.
        among-none (λ (o : ℕ). IsDifference (value_at good.values o) (value_at faulty.values o)) (map object_number block.changed.now) (map object_number told.changed.items) second.copy.values
        third.copy.values new.copy.values changed changed_too object none
        ∙ ap (λ values. own_of values object) values-old;
    activities = same;
    writes = writes-here;
    writes_stay = writes-elsewhere;
  }

-- What is compared in code

-- what a process has yet to write in a state that is shown
abbrev pub shown_writes : ShownMoment → ℕ → OwnWrites
shown_writes good process = record {
  later = get_or (later_lists good.standing.now.later.items) process [];
  lane = get_or (lanes_left good.standing.now.lanes.items) process [];
}

pub compared : (design : FlatDesign) (good : ShownMoment) (block : ShownBlock) (told : BlockTold) (state faulty : State) (owns : List ObjectId) (writes : List OwnWrites)
    (old first second third new : LockstepCopy) → Shows good state → owns ≡ told.changed.items → writes ≡ map writes_in faulty.processes →
    AreWritesKeptAmong (shown_writes good) (writes_at writes) (map process_number block.acted.now) old first →
    AreWritesKeptAmong (shown_writes good) (writes_at writes) (lane_numbers block.lane) first second → KeepsValuesAlone second third → KeepsValuesAlone third new →
    AreKeptAmong (λ object. IsDifference (value_at good.values.now object) (value_at faulty.values object)) (map object_number block.changed.now) second.copy.values third.copy.values →
    AreKeptAmong (λ object. IsDifference (value_at good.values.now object) (value_at faulty.values object)) (map object_number owns) third.copy.values new.copy.values →
    GoAlike design state faulty block told → Compares state faulty block told old new
compared design good block told state faulty owns writes old first second third new shown owns_is writes_are all stepped alone alone_too goods owned alike =
    let R : List LogicValue → ℕ → Option LogicValue → Type 0 = λ values object. IsDifference (value_at values object) (value_at faulty.values object) in
    record {
      acts = alike.acts;
      kept =
          is-kept block told state faulty (shown_writes good) (writes_at writes) old first second third new (λ process. λ i. record { later = shown.later_are process i; lane = shown.lanes_are process i })
          (λ process. ap (λ all. writes_at all process) writes_are ∙ writes-at faulty process) all stepped alone alone_too
          (subst (λ values. AreKeptAmong (R values) (map object_number block.changed.now) second.copy.values third.copy.values) shown.values_are goods)
          (subst (λ (l : List ObjectId). AreKeptAmong (R state.values) (map object_number l) third.copy.values new.copy.values) owns_is
          (subst (λ values. AreKeptAmong (R values) (map object_number owns) third.copy.values new.copy.values) shown.values_are owned)) alike.same;
    }
