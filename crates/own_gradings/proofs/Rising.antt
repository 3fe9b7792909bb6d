-- The numbers from slot to slot.
use Rattle.std.proofs.Common.{◌≡◌, ℕ, zero, suc, ◌+◌, ◌<◌, ◌≤◌, Bool, true, false, not, ◌&&◌, List, [], ◌∷◌, ◌++◌, length, map, refl, sym, ap, subst, ◌∙◌, inl, inr, arith}
use Rattle.std.specs.Prelude.{Option, Some, None, filter, nat_le, nat_lt, slice_get, sum_by}
use Rattle.std.specs.List.{AllZip, Contains, sum}
use Rattle.std.proofs.lemmas.Bool.{cases_lt, le-leb, le-ltb, leb-true, lt-leb, lt-ltb, ltb-true, true≢false}
use Rattle.std.proofs.lemmas.List.{append-nil}
use Rattle.std.proofs.lemmas.List.Sums.{sum_by-cons}
use Rattle.vf_base.specs.Lists.{joined}
use Rattle.v_design.specs.Designs.{FlatDesign, StuckAt, TestPlan, good_machine, faulty_machine}
use Rattle.v_design.specs.Runs.{FirstSlot, first_run}
use Rattle.v_design.specs.OwnSteps.{CountsOwn, TakesOwnSteps, grading_end, runs_beside, slot_beside}
use Rattle.v_design.specs.WellFormed.{KeepsRules}
use Rattle.copy_laws.specs.Windows.{HasEnded, RiseAtMostOwn, comes_after, comes_by, good_slots, runs_between, time_at}
use Rattle.beside_laws.specs.GoodRuns.{GoodRunGoesOn}
use Rattle.fault_strobes.specs.Said.{plan_by}
use Rattle.own_gradings.specs.Laws.{AreAtLeast, GoOn, OwnStepsRise}
use Rattle.own_gradings.specs.Numbers.{AreOwnSteps, OwnStepsOf, TakesOwn, runs_to}
use Rattle.own_gradings.proofs.Choices.{bound-holds, exist, time-of}
use Rattle.own_gradings.proofs.Counts.{Pairs, Part, Parted, filtered, none-in, one-in, parts, same-steps}

-- Times

lt-not : (one other : ℕ) → nat_lt one other ≡ not (nat_le other one)
lt-not one other = elim (cases_lt one other) [
  | inl less ↦ lt-ltb one other less ∙ sym (ap not (lt-leb other one less))
  | inr more ↦ le-ltb one other more ∙ sym (ap not (le-leb other one more))
]

after-not : (from : Option ℕ) (time : ℕ) → comes_after from time ≡ not (comes_by from time)
after-not None time = refl
after-not (Some other) time = lt-not other time

-- what comes by one time comes by another
abbrev IsByToo : Option ℕ → Option ℕ → Type 0
IsByToo one other = (time : ℕ) → comes_by one time ≡ true → comes_by other time ≡ true

by-less : (one other time : ℕ) → one ≤ other → nat_le time one ≡ true → nat_le time other ≡ true
by-less one other time low by = le-leb time other (let within : time ≤ one = leb-true time one by in omega (arith, within, low))

by-too : GoodRunGoesOn → (design : FlatDesign) (plan : TestPlan) (from until : ℕ) → KeepsRules design → from ≤ until → IsByToo (time_at design plan from) (time_at design plan until)
by-too good design plan from until rules low = go (time_at design plan from) (time_at design plan until) refl refl
  where
    some-time : (next last : Option FirstSlot) → time-of plan next last ≡ None → ⊥
    some-time None last none = cc
    some-time (Some later) None none = cc
    some-time (Some later) (Some slot) none = cc

    none-past : (gone : ℕ) → time_at design plan gone ≡ None → gone ≡ 0
    none-past zero none = refl
    none-past (suc count) none = absurd (some-time (slice_get (good_slots design plan) (suc count)) (slice_get (good_slots design plan) count) none)

    go : (one other : Option ℕ) → time_at design plan from ≡ one → time_at design plan until ≡ other → IsByToo one other
    go None other a b time by = absurd (true≢false (sym by))
    go (Some one) None a b time by =
        let last : until ≡ 0 = none-past until b in
        let first : from ≡ 0 = omega (arith, last, low) in
        let same : None ≡ Some one = sym (ap (time_at design plan) first) ∙ a in
        cc
    go (Some one) (Some other) a b time by = by-less one other time (good.times design plan from until one other rules low a b) by

-- a slot up to a time is one up to an earlier time or one in between
part-of : (x w z e : Bool) → w ≡ not x → (x ≡ true → z ≡ true) → Part (z && e) (x && e) ((w && z) && e)
part-of true true z e is too = absurd (true≢false is)
part-of true false false e is too = absurd (true≢false (sym (too refl)))
part-of true false true true is too = tt
part-of true false true false is too = tt
part-of false false z e is too = absurd (true≢false (sym is))
part-of false true true true is too = tt
part-of false true true false is too = tt
part-of false true false e is too = tt

-- and one that comes by a time or not
part-by : (x e : Bool) → Part e (x && e) (not x && e)
part-by true true = tt
part-by true false = tt
part-by false true = tt
part-by false false = tt

-- Stretches

module _ (design : FlatDesign) (plan : TestPlan) (fault : StuckAt) where
  abbrev end : ℕ
  end = grading_end (good_machine design) (faulty_machine design fault) plan (first_run (good_machine design) plan.end) (first_run (faulty_machine design fault) plan.end)

  abbrev beside-of : FirstSlot → Pairs
  beside-of = slot_beside (good_machine design) (faulty_machine design fault) (first_run (good_machine design) plan.end)

  abbrev slots : List FirstSlot
  slots = first_run (faulty_machine design fault) plan.end

  abbrev is-in : Option ℕ → Option ℕ → FirstSlot → Bool
  is-in from until slot = (comes_after from slot.begins.time && comes_by until slot.begins.time) && nat_le slot.begins.time end

  pub cut : (from until : Option ℕ) (steps : ℕ) → IsByToo from until → AreOwnSteps (runs_between design plan None until fault) steps →
      Parted (runs_between design plan None from fault) (runs_between design plan from until fault) steps
  cut from until steps too own =
      filtered beside-of (is-in None until) (is-in None from) (is-in from until)
      (λ slot. part-of (comes_by from slot.begins.time) (comes_after from slot.begins.time) (comes_by until slot.begins.time) (nat_le slot.begins.time end) (after-not from slot.begins.time)
      (too slot.begins.time)) slots steps own

  pub none-before : (steps : ℕ) → AreOwnSteps (runs_between design plan None None fault) steps → steps ≡ 0
  none-before steps own = none-in beside-of (is-in None None) (λ slot. refl) slots steps own

  -- no slot comes after the end
  both-no : (a b c : Bool) → (a ≡ true → c ≡ false) → ((a && b) && c) ≡ false
  both-no false b c late = refl
  both-no true false c late = refl
  both-no true true c late = late refl

  pub none-behind : (time : ℕ) (until : Option ℕ) (steps : ℕ) → end ≤ time → AreOwnSteps (runs_between design plan (Some time) until fault) steps → steps ≡ 0
  none-behind time until steps ended own =
      none-in beside-of (is-in (Some time) until)
      (λ slot. both-no (comes_after (Some time) slot.begins.time) (comes_by until slot.begins.time) (nat_le slot.begins.time end) (late slot.begins.time)) slots steps own
    where
      late : (at : ℕ) → nat_lt time at ≡ true → nat_le at end ≡ false
      late at after = lt-leb at end (let past : time < at = ltb-true time at after in omega (arith, past, ended))

  pub to-end : (until : Option ℕ) (all : ℕ) → AreOwnSteps (runs_beside design plan fault) all →
      Parted (runs_between design plan None until fault) (joined (map beside-of (filter (λ (slot : FirstSlot). not (comes_by until slot.begins.time) && nat_le slot.begins.time end) slots))) all
  to-end until all own =
      filtered beside-of (λ (slot : FirstSlot). nat_le slot.begins.time end) (is-in None until) (λ (slot : FirstSlot). not (comes_by until slot.begins.time) && nat_le slot.begins.time end)
      (λ slot. part-by (comes_by until slot.begins.time) (nat_le slot.begins.time end)) slots all own

  all-hold : (a b c : Bool) → a ≡ true → b ≡ true → c ≡ true → ((a && b) && c) ≡ true
  all-hold true true true x y z = refl
  all-hold true true false x y z = z
  all-hold true false c x y z = y
  all-hold false b c x y z = x

  -- a slot of the stretch
  pub one-slot : (from until : Option ℕ) (behind ahead : List FirstSlot) (slot : FirstSlot) (low steps : ℕ) → slots ≡ behind ++ slot ∷ ahead → comes_after from slot.begins.time ≡ true →
      comes_by until slot.begins.time ≡ true → slot.begins.time ≤ end → AreAtLeast (beside-of slot) low → AreOwnSteps (runs_between design plan from until fault) steps → low ≤ steps
  one-slot from until behind ahead slot low steps is after by early least own =
      one-in beside-of (is-in from until) behind ahead slot steps low
      (all-hold (comes_after from slot.begins.time) (comes_by until slot.begins.time) (nat_le slot.begins.time end) after by (le-leb slot.begins.time end early))
      (subst (λ (l : List FirstSlot). AreOwnSteps (joined (map beside-of (filter (is-in from until) l))) steps) is own)
      (λ n one. (let most : low ≤ sum one.counts = least one.counts one.each in let total = one.total in omega (arith, most, total)))

-- The laws

module _ (good : GoodRunGoesOn) (design : FlatDesign) (plan : TestPlan) (own : OwnStepsOf design plan) (number : ℕ) (fault : StuckAt) (kept : Bool)
    (is : slice_get plan.faults number ≡ Some fault) where
  -- the numbers of two places, and those of the stretch
  pub stretch-of : (from until : ℕ) → KeepsRules design → from ≤ until →
      (more : ℕ) × AreOwnSteps (runs_between design (plan_by kept plan) (time_at design plan from) (time_at design plan until) fault) more
      × (own.steps number kept until ≡ own.steps number kept from + more)
  stretch-of from until rules low =
      let whole : AreOwnSteps (runs_to design plan kept until fault) (own.steps number kept until) = own.are number fault kept until is in
      let part : Parted (runs_to design plan kept from fault) (runs_between design (plan_by kept plan) (time_at design plan from) (time_at design plan until) fault) (own.steps number kept until) =
      cut design (plan_by kept plan) fault (time_at design plan from) (time_at design plan until) (own.steps number kept until) (by-too good design plan from until rules low) whole in
      let same : part.left ≡ own.steps number kept from = same-steps (runs_to design plan kept from fault) part.left (own.steps number kept from) part.first (own.are number fault kept from is) in
      (part.right, part.rest, part.total ∙ ap (λ n. n + part.right) same)

  pub begins : own.steps number kept 0 ≡ 0
  begins = none-before design (plan_by kept plan) fault (own.steps number kept 0) (own.are number fault kept 0 is)

  pub rises : (from until : ℕ) → KeepsRules design → from ≤ until → own.steps number kept from ≤ own.steps number kept until
  rises from until rules low = (let found = stretch-of from until rules low in let total = found.2 in omega (arith, total))

  pub stretch : (from until before after : ℕ) → KeepsRules design → from ≤ until → RiseAtMostOwn design (plan_by kept plan) from until (fault ∷ []) before after →
      after + own.steps number kept from ≤ before + own.steps number kept until
  stretch from until before after rules low rise =
      let found = stretch-of from until rules low in
      let total = found.2 in
      let sums = found.1.total in
      let most : after ≤ before + sum found.1.counts =
      rise found.1.counts
      (subst (λ (l : Pairs). AllZip CountsOwn l found.1.counts)
      (sym (append-nil (runs_between design (plan_by kept plan) (time_at design plan from) (time_at design plan until) fault))) found.1.each) in
      omega (arith, total, sums, most)

  pub between : (from until : ℕ) (counts : List ℕ) → KeepsRules design → from ≤ until →
      AllZip CountsOwn (runs_between design (plan_by kept plan) (time_at design plan from) (time_at design plan until) fault) counts →
      own.steps number kept until ≡ own.steps number kept from + sum counts
  between from until counts rules low each =
      let found = stretch-of from until rules low in
      let same : found.0 ≡ sum counts =
      same-steps (runs_between design (plan_by kept plan) (time_at design plan from) (time_at design plan until) fault) found.0 (sum counts) found.1
      (record { counts = counts; each = each; total = refl }) in
      found.2 ∙ ap (λ n. own.steps number kept from + n) same

  pub over : (from until time : ℕ) → KeepsRules design → from ≤ until → time_at design plan from ≡ Some time → HasEnded design (plan_by kept plan) fault time →
      own.steps number kept until ≡ own.steps number kept from
  over from until time rules low at ended =
      let found = stretch-of from until rules low in
      let none : found.0 ≡ 0 =
      none-behind design (plan_by kept plan) fault time (time_at design plan until) found.0 ended
      (subst (λ (t : Option ℕ). AreOwnSteps (runs_between design (plan_by kept plan) t (time_at design plan until) fault) found.0) at found.1) in
      let total = found.2 in
      omega (arith, none, total)

  pub within : (gone : ℕ) → own.steps number kept gone ≤ own.all number kept
  within gone =
      let part = to-end design (plan_by kept plan) fault (time_at design plan gone) (own.all number kept) (own.in_all number fault kept is) in
      let same : part.left ≡ own.steps number kept gone =
      same-steps (runs_to design plan kept gone fault) part.left (own.steps number kept gone) part.first (own.are number fault kept gone is) in
      let total = part.total in
      omega (arith, same, total)

  pub all-steps : (steps : ℕ) → TakesOwnSteps design (plan_by kept plan) fault steps → own.all number kept ≡ steps
  all-steps steps takes =
      same-steps (runs_beside design (plan_by kept plan) fault) (own.all number kept) steps (own.in_all number fault kept is)
      (record { counts = takes.counts; each = takes.each; total = takes.total })

-- several faults that go on or not
go-on : GoodRunGoesOn → (design : FlatDesign) (plan : TestPlan) (own : OwnStepsOf design plan) (kept : Bool) (from until : ℕ) (numbers : List ℕ) (faults : List StuckAt) (counts : List ℕ) →
    KeepsRules design → from ≤ until → GoOn design plan own kept from until numbers faults →
    AllZip CountsOwn (joined (map (runs_between design (plan_by kept plan) (time_at design plan from) (time_at design plan until)) faults)) counts →
    sum_by (λ (number : ℕ). own.steps number kept until) numbers ≤ sum_by (λ (number : ℕ). own.steps number kept from) numbers + sum counts
go-on good design plan own kept from until [] faults counts rules low on each = omega arith
go-on good design plan own kept from until (number ∷ numbers) faults counts rules low (inl over) each =
    let rest = go-on good design plan own kept from until numbers faults counts rules low over.1 each in
    let a = sum_by-cons (λ (n : ℕ). own.steps n kept until) number numbers in
    let b = sum_by-cons (λ (n : ℕ). own.steps n kept from) number numbers in
    let same = over.0 in
    omega (arith, rest, a, b, same)
go-on good design plan own kept from until (number ∷ numbers) faults counts rules low (inr goes) each =
    let runs : StuckAt → Pairs = runs_between design (plan_by kept plan) (time_at design plan from) (time_at design plan until) in
    let here : AllZip CountsOwn (runs goes.0 ++ joined (map runs goes.1)) counts = subst (λ (l : List StuckAt). AllZip CountsOwn (joined (map runs l)) counts) goes.2 each in
    let cut : Parted (runs goes.0) (joined (map runs goes.1)) (sum counts) = parts (runs goes.0) (joined (map runs goes.1)) (sum counts) (record { counts = counts; each = here; total = refl }) in
    let one : own.steps number kept until ≡ own.steps number kept from + sum cut.first.counts =
    between good design plan own number goes.0 kept goes.3 from until cut.first.counts rules low cut.first.each in
    let rest = go-on good design plan own kept from until numbers goes.1 cut.rest.counts rules low goes.4 cut.rest.each in
    let a = sum_by-cons (λ (n : ℕ). own.steps n kept until) number numbers in
    let b = sum_by-cons (λ (n : ℕ). own.steps n kept from) number numbers in
    let total = cut.total in
    let left = cut.first.total in
    let right = cut.rest.total in
    omega (arith, one, rest, a, b, total, left, right)

-- several faults
sums-of : GoodRunGoesOn → (design : FlatDesign) (plan : TestPlan) (own : OwnStepsOf design plan) (kept : Bool) (numbers steps : List ℕ) →
    ((number : ℕ) → Contains numbers number → (fault : StuckAt) × (slice_get plan.faults number ≡ Some fault)) → AllZip (TakesOwn design plan kept) numbers steps →
    sum_by (λ (number : ℕ). own.all number kept) numbers ≡ sum steps
sums-of good design plan own kept [] [] listed each = refl
sums-of good design plan own kept [] (count ∷ steps) listed each = absurd each
sums-of good design plan own kept (number ∷ numbers) [] listed each = absurd each
sums-of good design plan own kept (number ∷ numbers) (count ∷ steps) listed each =
    let here = listed number (0, omega arith, refl) in
    let one : own.all number kept ≡ count = all-steps good design plan own number here.0 kept here.1 count (each.0 here.0 here.1) in
    let rest = sums-of good design plan own kept numbers steps (λ other found. listed other (suc found.0, (let low : found.0 < length numbers = found.1 in omega (arith, low)), found.2)) each.1 in
    let a = sum_by-cons (λ (n : ℕ). own.all n kept) number numbers in
    let b = sum_by-cons (λ (n : ℕ). n) count steps in
    omega (arith, one, rest, a, b)

slot-of : (design : FlatDesign) (plan : TestPlan) (fault : StuckAt) (from until : Option ℕ) (behind ahead : List FirstSlot) (slot : FirstSlot) (steps : ℕ) →
    first_run (faulty_machine design fault) plan.end ≡ behind ++ slot ∷ ahead → comes_after from slot.begins.time ≡ true → comes_by until slot.begins.time ≡ true →
    ((ended : ℕ) → HasEnded design plan fault ended → slot.begins.time ≤ ended) →
    AreAtLeast (slot_beside (good_machine design) (faulty_machine design fault) (first_run (good_machine design) plan.end) slot) steps → AreAtLeast (runs_between design plan from until fault) steps
slot-of design plan fault from until behind ahead slot steps is after by early least counts each =
    one-slot design plan fault from until behind ahead slot steps (sum counts) is after by (early (end design plan fault) (omega arith)) least
    (record { counts = counts; each = each; total = refl })

pub own_steps_rise : GoodRunGoesOn → OwnStepsRise
own_steps_rise good = record {
  begins = λ design plan own number fault kept is. begins good design plan own number fault kept is;
  rises = λ design plan own number fault kept from until is rules low. rises good design plan own number fault kept is from until rules low;
  stretch = λ design plan own number fault kept from until before after is rules low rise. stretch good design plan own number fault kept is from until before after rules low rise;
  between = λ design plan own number fault kept from until counts is rules low each. between good design plan own number fault kept is from until counts rules low each;
  over = λ design plan own number fault kept from until time is rules low at ended. over good design plan own number fault kept is from until time rules low at ended;
  within = λ design plan own number fault kept gone is. within good design plan own number fault kept is gone;
  total = λ design plan own number fault kept steps is takes. all-steps good design plan own number fault kept is steps takes;
  go_on = go-on good;
  sums = sums-of good;
  exist = λ design plan low high bound. bound-holds low high (λ fails. exist design plan (λ own. fails (bound own)));
  slot = slot-of;
}
