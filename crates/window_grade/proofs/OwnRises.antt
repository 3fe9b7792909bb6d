-- Counters of own steps from one time of a faulty machine's run to another (steps by IEEE 1364-2001, clause 9; slots by clause 5).
use Rattle.std.proofs.Common.{◌≡◌, ℕ, ◌+◌, ◌-◌, ◌<◌, ◌≤◌, Bool, true, false, ◌&&◌, List, [], ◌∷◌, length, map, refl, sym, ap, subst, ◌∙◌, inl, inr, arith}
use Rattle.std.specs.Prelude.{Option, Some, None, nat_eq, nat_le, nat_lt, sum, if◌then◌else◌}
use Rattle.std.specs.List.{AllZip}
use Rattle.std.proofs.lemmas.Bool.{cases_lt, eq-eqb, le-leb, le-ltb, leb-false, leb-true, lt-leb, lt-ltb}
use Rattle.vf_base.specs.Lists.{joined}
use Rattle.v_design.specs.Designs.{FlatDesign, StuckAt, TestPlan, good_machine, faulty_machine}
use Rattle.v_design.specs.OwnSteps.{CountsOwn, ProcessRun, slot_beside}
use Rattle.v_design.specs.Runs.{FirstSlot, first_run}
use Rattle.v_design.specs.States.{State}
use Rattle.machine_laws.specs.SlotLoop.{slot_from}
use Rattle.copy_laws.specs.Windows.{comes_after, comes_by, runs_between, slots_between}
use Rattle.good_runs.specs.declared.tried.TriedStep.{TriedStep}
use Rattle.own_counts.specs.Counts.{AtMostOwn}
use Rattle.own_counts.specs.Joins.{IsByToo, OwnStepsJoin, fault_end}
use Rattle.graded_steps.specs.Ahead.{SlotsAhead}
use Rattle.graded_steps.specs.Between.{SlotsLieBetween}
use Rattle.window_grade.specs.Beside.{RoseByOwn, TicksTo, WereTaken, tried_at, tried_in}
use Rattle.window_grade.specs.Rises.{OwnStepsRise}
use Rattle.window_grade.specs.declared.beside.RunBeside.{RunBeside}

-- Times

-- what doesn't come by a time comes after it
after-not-by : (now : Option ℕ) (time : ℕ) → comes_by now time ≡ false → comes_after now time ≡ true
after-not-by None time e = refl
after-not-by (Some now) time e = lt-ltb now time (leb-false time now e)

not-after-by : (now : Option ℕ) (time : ℕ) → comes_by now time ≡ true → comes_after now time ≡ false
not-after-by None time e = cc
not-after-by (Some now) time e = le-ltb now time (leb-true time now e)

-- How many steps were taken before

parts-of : (n : ℕ) (a b after c : Bool) → (b ≡ false → after ≡ true) → (if a && c then n else 0) ≤ (if a && b then n else 0) + (if after && c then n else 0)
parts-of n false b after c h = omega arith
parts-of n true b after false h = omega arith
parts-of n true true after true h = omega arith
parts-of n true false after true h = subst (λ x. n ≤ 0 + (if x && true then n else 0)) (sym (h refl)) (omega arith)

tried-parts : (beside : RunBeside) (from between until : Option ℕ) → tried_in beside from until ≤ tried_in beside from between + tried_in beside between until
tried-parts beside from between until =
    parts-of (length beside.tried.now) (comes_after from beside.time) (comes_by between beside.time) (comes_after between beside.time) (comes_by until beside.time)
    (after-not-by between beside.time)

none-of : (n : ℕ) (a b : Bool) → (b ≡ true → a ≡ false) → (if a && b then n else 0) ≡ 0
none-of n false b h = refl
none-of n true true h = (let no : true ≡ false = h refl in cc)
none-of n true false h = refl

tried-none : (beside : RunBeside) (now : Option ℕ) → tried_in beside now now ≡ 0
tried-none beside now = none-of (length beside.tried.now) (comes_after now beside.time) (comes_by now beside.time) (not-after-by now beside.time)

most-of : (n : ℕ) (a : Bool) → (if a then n else 0) ≤ n
most-of n true = omega arith
most-of n false = omega arith

tried-most : (beside : RunBeside) (from until : Option ℕ) → tried_in beside from until ≤ length beside.tried.now
tried-most beside from until = most-of (length beside.tried.now) (comes_after from beside.time && comes_by until beside.time)

-- Stretches

stays-rise : (design : FlatDesign) (plan : TestPlan) (fault : StuckAt) (beside : RunBeside) (now : Option ℕ) (counter : ℕ) → TicksTo design plan fault beside now now counter counter
stays-rise design plan fault beside now counter = λ counts zip. (let none = tried-none beside now in omega (arith, none))

taken-rise : (design : FlatDesign) (plan : TestPlan) (fault : StuckAt) (beside : RunBeside) (from until : Option ℕ) (counter : ℕ) → WereTaken design plan fault beside →
    TicksTo design plan fault beside from until counter counter
taken-rise design plan fault beside from until counter taken = λ counts zip. (let most = taken.own from until counts zip in omega (arith, most))

joins-rise : OwnStepsJoin → (design : FlatDesign) (plan : TestPlan) (fault : StuckAt) (beside : RunBeside) (from between until : Option ℕ) (before mid after : ℕ) → IsByToo from between →
    IsByToo between until → TicksTo design plan fault beside from between before mid → TicksTo design plan fault beside between until mid after →
    TicksTo design plan fault beside from until before after
joins-rise join design plan fault beside from between until before mid after low high one other = λ counts zip.
    let first : AtMostOwn (runs_between design plan from between fault) (mid + tried_in beside from between - before) =
    λ own own_zip. (let h : mid + tried_in beside from between ≤ before + sum own = one own own_zip in omega (arith, h)) in
    let rest : AtMostOwn (runs_between design plan between until fault) (after + tried_in beside between until - mid) =
    λ own own_zip. (let h : after + tried_in beside between until ≤ mid + sum own = other own own_zip in omega (arith, h)) in
    let all : (mid + tried_in beside from between - before) + (after + tried_in beside between until - mid) ≤ sum counts =
    join.joins design plan fault from between until (mid + tried_in beside from between - before) (after + tried_in beside between until - mid) low high first rest counts zip in
    let parts = tried-parts beside from between until in
    omega (arith, all, parts)

-- The slot that is next

some-state : (one other : State) → Some one ≡ Some other → one ≡ other
some-state one other e = cc

-- where no slot comes up to a time, none was taken
tried-before : SlotsLieBetween → (design : FlatDesign) (plan : TestPlan) (fault : StuckAt) (beside : RunBeside) (now : Option ℕ) (begins : State) →
    SlotsAhead (faulty_machine design fault) plan.end now (Some begins) → WereTaken design plan fault beside → beside.time < begins.time → tried_in beside now (Some beside.time) ≡ 0
tried-before lie design plan fault beside now begins ahead taken low =
    let none : slots_between design plan fault now (Some beside.time) ≡ [] =
    lie.none design plan fault now (Some begins) beside.time ahead (λ other e. subst (λ (s : State). beside.time < s.time) (some-state begins other e) low) in
    let runs : runs_between design plan now (Some beside.time) fault ≡ [] =
    ap (λ (l : List FirstSlot). joined (map (slot_beside (good_machine design) (faulty_machine design fault) (first_run (good_machine design) plan.end)) l)) none in
    let few : AtMostOwn [] (tried_in beside now (Some beside.time)) =
    subst (λ (l : List (Option ProcessRun × ProcessRun)). AtMostOwn l (tried_in beside now (Some beside.time))) runs (taken.own now (Some beside.time)) in
    let zero : tried_in beside now (Some beside.time) ≤ 0 = few [] tt in
    omega (arith, zero)

-- those that were taken up to its time are those of the slot
tried-slot : SlotsLieBetween → (design : FlatDesign) (plan : TestPlan) (fault : StuckAt) (beside : RunBeside) (now : Option ℕ) (begins : State) →
    SlotsAhead (faulty_machine design fault) plan.end now (Some begins) → WereTaken design plan fault beside →
    tried_in beside now (Some begins.time) ≤ length (tried_at beside begins.time)
tried-slot lie design plan fault beside now begins ahead taken = go (nat_eq begins.time beside.time) refl
  where
    other : (begins.time ≡ beside.time → ⊥) → tried_in beside now (Some begins.time) ≤ 0
    other differ = elim (cases_lt begins.time beside.time) [
      | inl late ↦
          let past : nat_le beside.time begins.time ≡ false = lt-leb beside.time begins.time late in
          let none : tried_in beside now (Some begins.time) ≡ 0 =
          none-of (length beside.tried.now) (comes_after now beside.time) (nat_le beside.time begins.time) (λ by. cc) in
          omega (arith, none)
      | inr by ↦
          let low : beside.time < begins.time = omega (arith, by, differ) in
          let same : tried_in beside now (Some begins.time) ≡ tried_in beside now (Some beside.time) =
          ap (λ b. if comes_after now beside.time && b then length beside.tried.now else 0)
          (le-leb beside.time begins.time by ∙ sym (le-leb beside.time beside.time (omega arith))) in
          let none = tried-before lie design plan fault beside now begins ahead taken low in
          omega (arith, same, none)
    ]

    go : (b : Bool) → nat_eq begins.time beside.time ≡ b → tried_in beside now (Some begins.time) ≤ length (if b then beside.tried.now else [])
    go true e = tried-most beside now (Some begins.time)
    go false e = other (λ same. no-eq begins.time beside.time e same)
      where
        no-eq : (x y : ℕ) → nat_eq x y ≡ false → x ≡ y → ⊥
        no-eq x y e same = (let yes : nat_eq x y ≡ true = eq-eqb x y same in cc)

slot-rise : OwnStepsJoin → SlotsLieBetween → (design : FlatDesign) (plan : TestPlan) (fault : StuckAt) (beside : RunBeside) (now : Option ℕ) (begins : State) (before ticked after : ℕ) →
    SlotsAhead (faulty_machine design fault) plan.end now (Some begins) → begins.time ≤ fault_end design plan fault → WereTaken design plan fault beside →
    AtMostOwn (slot_beside (good_machine design) (faulty_machine design fault) (first_run (good_machine design) plan.end) (slot_from (faulty_machine design fault) begins))
    (ticked + length (tried_at beside begins.time)) →
    after ≤ before + ticked → TicksTo design plan fault beside now (Some begins.time) before after
slot-rise join lie design plan fault beside now begins before ticked after ahead low taken bound rose = λ counts zip.
    let all : ticked + length (tried_at beside begins.time) ≤ sum counts =
    join.slot design plan fault now (Some begins.time) (slot_from (faulty_machine design fault) begins) (ticked + length (tried_at beside begins.time))
    (lie.next design plan fault now begins ahead low) bound counts zip in
    let most = tried-slot lie design plan fault beside now begins ahead taken in
    omega (arith, all, most, rose)

-- The laws

pub own_steps_rise : OwnStepsJoin → SlotsLieBetween → OwnStepsRise
own_steps_rise join lie = record { stays = stays-rise; taken = taken-rise; joins = joins-rise join; slot = slot-rise join lie }
