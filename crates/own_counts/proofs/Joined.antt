-- Bounds of phases, slots and stretches one behind the other.
use Rattle.std.proofs.Common.{◌≡◌, ℕ, ◌+◌, ◌≤◌, Bool, true, false, cond, not, ◌&&◌, List, [], ◌∷◌, ◌++◌, length, map, refl, sym, ap, subst, ◌∙◌, inl, inr, arith}
use Rattle.std.specs.Prelude.{Option, Some, None, filter, nat_le, nat_lt, slice_get}
use Rattle.std.specs.List.{AllZip, sum}
use Rattle.std.proofs.lemmas.Bool.{and_left, and_right, cases_lt, le-leb, le-ltb, lt-leb, lt-ltb, true≢false}
use Rattle.std.proofs.lemmas.List.{append_assoc, append-nil, map-append}
use Rattle.vf_base.specs.Lists.{joined}
use Rattle.v_design.specs.Designs.{FlatDesign, Machine, StuckAt, TestPlan, good_machine, faulty_machine}
use Rattle.v_design.specs.Grades.{Phase}
use Rattle.v_design.specs.OwnSteps.{CountsOwn, ProcessRun, beside, phase_beside, slot_beside}
use Rattle.v_design.specs.Runs.{FirstSlot, first_run}
use Rattle.copy_laws.specs.Windows.{comes_after, comes_by, runs_between, slots_between}
use Rattle.own_counts.specs.Counts.{AtMostOwn}
use Rattle.own_counts.specs.Joins.{IsByToo, OwnStepsJoin, fault_end, phases_beside}
use Rattle.own_counts.proofs.Runs.{joins as joins-two, none as none-runs, parted, sum-append}

-- Lists

joined-push : {A : Type 0} (lists : List (List A)) (last : List A) → joined (lists ++ last ∷ []) ≡ joined lists ++ last
joined-push [] last = append-nil last
joined-push (list ∷ lists) last = ap (λ l. list ++ l) (joined-push lists last) ∙ sym (append_assoc list (joined lists) last)

beside-push : {A : Type 0} (others before : List A) (last : A) → beside others (before ++ last ∷ []) ≡ beside others before ++ (slice_get others (length before), last) ∷ []
beside-push [] [] last = refl
beside-push (other ∷ others) [] last = refl
beside-push [] (one ∷ before) last = ap (λ l. (None, one) ∷ l) (beside-push [] before last)
beside-push (other ∷ others) (one ∷ before) last = ap (λ l. (Some other, one) ∷ l) (beside-push others before last)

-- Phases

phases-more : (good faulty : Machine) (others before : List Phase) (phase : Phase) (ticked more : ℕ) → AtMostOwn (phases_beside good faulty others before) ticked →
    AtMostOwn (phase_beside good faulty (slice_get others (length before)) phase) more → AtMostOwn (phases_beside good faulty others (before ++ phase ∷ [])) (ticked + more)
phases-more good faulty others before phase ticked more low high =
    let f = λ (pair : Option Phase × Phase). phase_beside good faulty pair.0 pair.1 in
    let last = phase_beside good faulty (slice_get others (length before)) phase in
    let same : phases_beside good faulty others (before ++ phase ∷ []) ≡ phases_beside good faulty others before ++ last =
    ap (λ (l : List (Option Phase × Phase)). joined (map f l)) (beside-push others before phase)
    ∙ ap joined (map-append f (beside others before) ((slice_get others (length before), phase) ∷ [])) ∙ joined-push (map f (beside others before)) last in
    subst (λ (l : List (Option ProcessRun × ProcessRun)). AtMostOwn l (ticked + more)) (sym same) (joins-two (phases_beside good faulty others before) last ticked more low high)

-- Slots that pass one of two tests

-- one of two tests is passed where a third one is, and none where it isn't
abbrev Part : Bool → Bool → Bool → Type 0
Part true true true = ⊥
Part true true false = Unit {0}
Part true false true = Unit {0}
Part true false false = ⊥
Part false true other = ⊥
Part false false true = ⊥
Part false false false = Unit {0}

-- counts of runs, parted
pub record Split (one other : List (Option ProcessRun × ProcessRun)) (counts : List ℕ) : Type 0 where
  pub left : List ℕ
  pub right : List ℕ
  pub first : AllZip CountsOwn one left
  pub rest : AllZip CountsOwn other right
  pub total : sum counts ≡ sum left + sum right

pub joined-zip : (xs ys : List (Option ProcessRun × ProcessRun)) (left right : List ℕ) → AllZip CountsOwn xs left → AllZip CountsOwn ys right → AllZip CountsOwn (xs ++ ys) (left ++ right)
joined-zip [] ys [] right first rest = rest
joined-zip [] ys (count ∷ left) right first rest = absurd first
joined-zip (x ∷ xs) ys [] right first rest = absurd first
joined-zip (x ∷ xs) ys (count ∷ left) right first rest = (first.0, joined-zip xs ys left right first.1 rest)

abbrev runs_in : (FirstSlot → List (Option ProcessRun × ProcessRun)) → List FirstSlot → List (Option ProcessRun × ProcessRun)
runs_in f slots = joined (map f slots)

module _ (f : FirstSlot → List (Option ProcessRun × ProcessRun)) where
  split-one : (a b c : Bool) → Part a b c → (slot : FirstSlot) (all one other : List FirstSlot) → ((counts : List ℕ) → AllZip CountsOwn (runs_in f all) counts →
      Split (runs_in f one) (runs_in f other) counts) →
      (counts : List ℕ) → AllZip CountsOwn (runs_in f (cond a (slot ∷ all) all)) counts → Split (runs_in f (cond b (slot ∷ one) one)) (runs_in f (cond c (slot ∷ other) other)) counts
  split-one true true true part slot all one other rest counts zip = absurd part
  split-one true true false part slot all one other rest counts zip =
      let cut = parted CountsOwn (f slot) (runs_in f all) counts zip in
      let more = rest cut.other cut.rest in
      let whole : sum counts ≡ sum cut.one + sum cut.other = ap sum cut.same ∙ sum-append cut.one cut.other in
      let left = sum-append cut.one more.left in
      let total = more.total in
      record {
        left = cut.one ++ more.left;
        right = more.right;
        first = joined-zip (f slot) (runs_in f one) cut.one more.left cut.first more.first;
        rest = more.rest;
        total = omega (arith, whole, left, total);
      }
  split-one true false true part slot all one other rest counts zip =
      let cut = parted CountsOwn (f slot) (runs_in f all) counts zip in
      let more = rest cut.other cut.rest in
      let whole : sum counts ≡ sum cut.one + sum cut.other = ap sum cut.same ∙ sum-append cut.one cut.other in
      let right = sum-append cut.one more.right in
      let total = more.total in
      record {
        left = more.left;
        right = cut.one ++ more.right;
        first = more.first;
        rest = joined-zip (f slot) (runs_in f other) cut.one more.right cut.first more.rest;
        total = omega (arith, whole, right, total);
      }
  split-one true false false part slot all one other rest counts zip = absurd part
  split-one false true c part slot all one other rest counts zip = absurd part
  split-one false false true part slot all one other rest counts zip = absurd part
  split-one false false false part slot all one other rest counts zip = rest counts zip

  split-slots : (all one other : FirstSlot → Bool) → ((slot : FirstSlot) → Part (all slot) (one slot) (other slot)) → (slots : List FirstSlot) (counts : List ℕ) →
      AllZip CountsOwn (runs_in f (filter all slots)) counts → Split (runs_in f (filter one slots)) (runs_in f (filter other slots)) counts
  split-slots all one other law [] [] zip = record { left = []; right = []; first = tt; rest = tt; total = refl }
  split-slots all one other law [] (count ∷ counts) zip = absurd zip
  split-slots all one other law (slot ∷ slots) counts zip =
      split-one (all slot) (one slot) (other slot) (law slot) slot (filter all slots) (filter one slots) (filter other slots) (split-slots all one other law slots) counts zip

-- Times

lt-not : (one other : ℕ) → nat_lt one other ≡ not (nat_le other one)
lt-not one other = elim (cases_lt one other) [
  | inl less ↦ lt-ltb one other less ∙ sym (ap not (lt-leb other one less))
  | inr more ↦ le-ltb one other more ∙ sym (ap not (le-leb other one more))
]

after-not : (from : Option ℕ) (time : ℕ) → comes_after from time ≡ not (comes_by from time)
after-not None time = refl
after-not (Some other) time = lt-not other time

-- a slot of a stretch is one of its first part or of the rest
part-of : (x y z e : Bool) → (x ≡ true → y ≡ true) → (y ≡ true → z ≡ true) → Part ((not x && z) && e) ((not x && y) && e) ((not y && z) && e)
part-of true false z e one other = absurd (true≢false (sym (one refl)))
part-of true true false e one other = absurd (true≢false (sym (other refl)))
part-of true true true e one other = tt
part-of false true false e one other = absurd (true≢false (sym (other refl)))
part-of false true true true one other = tt
part-of false true true false one other = tt
part-of false false true true one other = tt
part-of false false true false one other = tt
part-of false false false e one other = tt

-- so counts of the runs of a stretch are parted
pub stretch-splits : (design : FlatDesign) (plan : TestPlan) (fault : StuckAt) (from between until : Option ℕ) → IsByToo from between → IsByToo between until → (counts : List ℕ) →
    AllZip CountsOwn (runs_between design plan from until fault) counts → Split (runs_between design plan from between fault) (runs_between design plan between until fault) counts
stretch-splits design plan fault from between until one other =
    split-slots (slot_beside (good_machine design) (faulty_machine design fault) (first_run (good_machine design) plan.end))
    (λ (slot : FirstSlot). (comes_after from slot.begins.time && comes_by until slot.begins.time) && nat_le slot.begins.time (fault_end design plan fault))
    (λ (slot : FirstSlot). (comes_after from slot.begins.time && comes_by between slot.begins.time) && nat_le slot.begins.time (fault_end design plan fault))
    (λ (slot : FirstSlot). (comes_after between slot.begins.time && comes_by until slot.begins.time) && nat_le slot.begins.time (fault_end design plan fault))
    (λ slot.
    let time = slot.begins.time in
    let e = nat_le time (fault_end design plan fault) in
    let start : not (comes_by from time) ≡ comes_after from time = sym (after-not from time) in
    let middle : not (comes_by between time) ≡ comes_after between time = sym (after-not between time) in
    subst (λ (u : Bool). Part ((u && comes_by until time) && e) ((u && comes_by between time) && e) ((comes_after between time && comes_by until time) && e)) start
    (subst (λ (v : Bool). Part ((not (comes_by from time) && comes_by until time) && e) ((not (comes_by from time) && comes_by between time) && e) ((v && comes_by until time) && e)) middle
    (part-of (comes_by from time) (comes_by between time) (comes_by until time) e (one time) (other time))))
    (first_run (faulty_machine design fault) plan.end)

joins-slots : (design : FlatDesign) (plan : TestPlan) (fault : StuckAt) (from between until : Option ℕ) (ticked more : ℕ) → IsByToo from between → IsByToo between until →
    AtMostOwn (runs_between design plan from between fault) ticked → AtMostOwn (runs_between design plan between until fault) more →
    AtMostOwn (runs_between design plan from until fault) (ticked + more)
joins-slots design plan fault from between until ticked more one other low high counts zip =
    let both = stretch-splits design plan fault from between until one other counts zip in
    let first = low both.left both.first in
    let rest = high both.right both.rest in
    let total = both.total in
    omega (arith, first, rest, total)

-- One slot, or none

none-slots : (design : FlatDesign) (plan : TestPlan) (fault : StuckAt) (from until : Option ℕ) → slots_between design plan fault from until ≡ [] →
    AtMostOwn (runs_between design plan from until fault) 0
none-slots design plan fault from until is =
    subst (λ (slots : List FirstSlot). AtMostOwn (runs_in (slot_beside (good_machine design) (faulty_machine design fault) (first_run (good_machine design) plan.end)) slots) 0) (sym is) none-runs

one-slot : (design : FlatDesign) (plan : TestPlan) (fault : StuckAt) (from until : Option ℕ) (slot : FirstSlot) (ticked : ℕ) → slots_between design plan fault from until ≡ slot ∷ [] →
    AtMostOwn (slot_beside (good_machine design) (faulty_machine design fault) (first_run (good_machine design) plan.end) slot) ticked → AtMostOwn (runs_between design plan from until fault) ticked
one-slot design plan fault from until slot ticked is bound =
    let f = slot_beside (good_machine design) (faulty_machine design fault) (first_run (good_machine design) plan.end) in
    subst (λ (slots : List FirstSlot). AtMostOwn (runs_in f slots) ticked) (sym is) (subst (λ (l : List (Option ProcessRun × ProcessRun)). AtMostOwn l ticked) (sym (append-nil (f slot))) bound)

none-pass : {A : Type 0} (test : A → Bool) (xs : List A) → ((x : A) → test x ≡ false) → filter test xs ≡ []
none-pass test [] fails = refl
none-pass test (x ∷ xs) fails = ap (λ (b : Bool). cond b (x ∷ filter test xs) (filter test xs)) (fails x) ∙ none-pass test xs fails

over-end : (design : FlatDesign) (plan : TestPlan) (fault : StuckAt) (time : ℕ) (until : Option ℕ) → fault_end design plan fault ≤ time → AtMostOwn (runs_between design plan (Some time) until fault) 0
over-end design plan fault time until past =
    none-slots design plan fault (Some time) until
    (none-pass
    (λ (slot : FirstSlot). (comes_after (Some time) slot.begins.time && comes_by until slot.begins.time) && nat_le slot.begins.time (fault_end design plan fault))
    (first_run (faulty_machine design fault) plan.end)
    (λ slot. elim (cases_lt time slot.begins.time) [
      | inl less ↦
          and_right (comes_after (Some time) slot.begins.time && comes_by until slot.begins.time) (nat_le slot.begins.time (fault_end design plan fault))
          (lt-leb slot.begins.time (fault_end design plan fault) (omega (arith, past, less)))
      | inr more ↦
          and_left (comes_after (Some time) slot.begins.time && comes_by until slot.begins.time) (nat_le slot.begins.time (fault_end design plan fault))
          (and_left (comes_after (Some time) slot.begins.time) (comes_by until slot.begins.time) (le-ltb time slot.begins.time more))
    ]))

pub own_steps_join : OwnStepsJoin
own_steps_join = record { phases = phases-more; none = none-slots; slot = one-slot; joins = joins-slots; over = over-end }
