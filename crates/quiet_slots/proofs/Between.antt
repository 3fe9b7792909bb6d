-- Both machines between two slots: their next slots, and the copy there.
use Rattle.std.proofs.Common.{◌≡◌, ◌≢◌, ℕ, suc, ◌≤◌, List, [], ◌∷◌, length, Bool, true, false, ◌||◌, refl, sym, ap, subst, ◌∙◌, arith}
use Rattle.std.specs.Prelude.{Option, Some, None, is_some, nat_eq, slice_get}
use Rattle.std.proofs.lemmas.Bool.{eq-eqb}
use Rattle.four_value.specs.Values.{LogicValue}
use Rattle.vf_base.specs.Lists.{AllHold}
use Rattle.v_design.specs.Assignments.{value_at}
use Rattle.v_design.specs.Designs.{FlatDesign}
use Rattle.v_design.specs.Processes.{Activity}
use Rattle.v_design.specs.States.{State, NodeState, ProcessState, LaterUpdate, TimeTurn, process_at, found_or, idle_node, is_ready, is_any, next_time_of}
use Rattle.v_design.specs.States.{turn_of, time_turn}
use Rattle.copy_laws.specs.Beside.{Keeps}
use Rattle.copy_laws.specs.Differences.{Differences, own_of, apart_of, StandsFor, KeepsNothingEqual}
use Rattle.copy_laws.specs.Moves.{IsWithin, MayJump}
use Rattle.copy_laws.specs.Rest.{with_own, within_of, WithinAreDifferences}
use Rattle.copy_laws.specs.Turns.{ComesAfter, SleepsOn, SleepsPast, TurnsPass}
use Rattle.quiet_slots.proofs.Lockstep.{Kept, kept-own, kept-none, own-is, same-is, sleeps-on, kept-sleep, turned-keeps, keeps-then}
use Rattle.quiet_slots.proofs.Rests.{NoneTurns, turn-next, none-earlier, next-after, each-after}

-- At any time

-- the same state at time 0, which no update that is due later tells apart
abbrev at_zero : State → State
at_zero state = record state { time = 0 }

zero-turns : (state : State) → NoneTurns state.time state → NoneTurns 0 (at_zero state)
zero-turns state n = record { not_postponed = n.not_postponed; none_due = λ p. none-earlier 0 state.time (process_at state p).later (omega arith) (n.none_due p) }

pub next-turn : (state : State) → NoneTurns state.time state → turn_of (at_zero state) ≡ turn_of state
next-turn state n = turn-next (at_zero state) (zero-turns state n) ∙ sym (turn-next state n)

-- The next slot

jump-at : (design : FlatDesign) (d : Differences) (until : ℕ) (good0 faulty0 : State) → Kept design d until good0 faulty0 → (good faulty : State) → good.time ≡ faulty.time →
    IsWithin (within_of d good0) good faulty → Keeps (apart_of d) good good0 → MayJump (within_of d good0) good faulty
jump-at design d until good0 faulty0 kept good faulty times w keeps = record {
  times = times;
  nodes = λ number. refl;
  ready = λ p own e. flag (λ (s : ProcessState). is_ready s.activity) p own e (λ h. ((kept.good_sleeps p h).not_ready, (kept.own_sleeps p h).not_ready));
  lanes = λ p own e. flag (λ (s : ProcessState). is_any s.lane) p own e (λ h. ((kept.good_sleeps p h).no_lane, (kept.own_sleeps p h).no_lane));
}
  where
    some-is : (one other : ProcessState) → Some one ≡ Some other → one ≡ other
    some-is one other e = cc

    flag : (test : ProcessState → Bool) (p : ℕ) (own : ProcessState) → (within_of d good0).processes p ≡ Some own →
        ((apart_of d).processes p ≡ true → (test (process_at good0 p) ≡ false) × (test (process_at faulty0 p) ≡ false)) → test (process_at good p) ≡ test own
    flag test p own e both = go ((apart_of d).processes p) refl
      where
        go : (b : Bool) → (apart_of d).processes p ≡ b → test (process_at good p) ≡ test own
        go true h =
            ap test (keeps.processes p h) ∙ (both h).0 ∙ sym (both h).1
            ∙ ap test (own-is d good0 good0 faulty0 kept.within p h ∙ some-is (with_own d good0 p) own (sym (kept-own d good0 p h) ∙ e))
        go false h = absurd (let no : None ≡ Some own = sym (kept-none d good0 p h) ∙ e in cc)

-- both machines go on to a time
pub record GoOnTo (design : FlatDesign) (d : Differences) (good0 good faulty : State) (time : ℕ) : Type 0 where
  pub turn : turn_of faulty ≡ Some (TimeTurn time)
  pub within : IsWithin (within_of d good0) (time_turn time good) (time_turn time faulty)
  pub keeps : Keeps (apart_of d) (time_turn time good) good0

pub goes-on-to : TurnsPass → (design : FlatDesign) (d : Differences) (until : ℕ) (good0 faulty0 : State) → Kept design d until good0 faulty0 → (good faulty : State) →
    NoneTurns good.time good → NoneTurns faulty.time faulty → IsWithin (within_of d good0) good faulty → Keeps (apart_of d) good good0 →
    (time : ℕ) → turn_of good ≡ Some (TimeTurn time) → time ≤ until → GoOnTo design d good0 good faulty time
goes-on-to law design d until good0 faulty0 kept good faulty good_turns own_turns w keeps time e low = record {
  turn = sym (next-turn faulty own_turns) ∙ gone.0;
  within = gone.1;
  keeps = keeps-then (apart_of d) (time_turn time good) (at_zero good) good0
      (turned-keeps law (apart_of d) (at_zero good) (TimeTurn time) (next-turn good good_turns ∙ e)
      (λ p h. subst (SleepsOn 0 (TimeTurn time)) (sym (keeps.processes p h)) (sleeps-on until 0 (TimeTurn time) (process_at good0 p) (omega arith) low (kept.good_sleeps p h))))
      keeps-zero;
}
  where
    within-zero : IsWithin (within_of d good0) (at_zero good) (at_zero faulty)
    within-zero = record { value_count = w.value_count; node_count = w.node_count; process_count = w.process_count; values = w.values; nodes = w.nodes; processes = w.processes }

    keeps-zero : Keeps (apart_of d) (at_zero good) good0
    keeps-zero = record { values = keeps.values; processes = keeps.processes }

    gone : (turn_of (at_zero faulty) ≡ Some (TimeTurn time)) × IsWithin (within_of d good0) (time_turn time good) (time_turn time faulty)
        × MayJump (within_of d good0) (time_turn time good) (time_turn time faulty)
    gone = law (within_of d good0) (at_zero good) (at_zero faulty) (TimeTurn time) within-zero
        (jump-at design d until good0 faulty0 kept (at_zero good) (at_zero faulty) refl within-zero keeps-zero) (next-turn good good_turns ∙ e)
        (kept-sleep design d until good0 faulty0 kept (at_zero good) (TimeTurn time) keeps-zero (omega arith) low)

pub jump-there : (design : FlatDesign) (d : Differences) (until : ℕ) (good0 faulty0 : State) → Kept design d until good0 faulty0 → (good faulty : State) (time : ℕ) →
    IsWithin (within_of d good0) (time_turn time good) (time_turn time faulty) → Keeps (apart_of d) (time_turn time good) good0 →
    MayJump (within_of d good0) (time_turn time good) (time_turn time faulty)
jump-there design d until good0 faulty0 kept good faulty time w keeps = jump-at design d until good0 faulty0 kept (time_turn time good) (time_turn time faulty) refl w keeps

-- where the good machine's next time comes after another, so does the faulty one's
pub next-late : (design : FlatDesign) (d : Differences) (until : ℕ) (good0 faulty0 : State) → Kept design d until good0 faulty0 → (good faulty : State) → IsWithin (within_of d good0) good faulty →
    ComesAfter until (next_time_of good.processes) → ComesAfter until (next_time_of faulty.processes)
next-late design d until good0 faulty0 kept good faulty w late = next-after until faulty.processes (λ p. at p ((apart_of d).processes p) refl)
  where
    at : (p : ℕ) (b : Bool) → (apart_of d).processes p ≡ b → SleepsPast (TimeTurn until) (process_at faulty p)
    at p true h =
        subst (SleepsPast (TimeTurn until)) (own-is d good0 good0 faulty0 kept.within p h ∙ sym (own-is d good0 good faulty w p h)) (kept.own_sleeps p h).past
    at p false h = subst (SleepsPast (TimeTurn until)) (sym (same-is d good0 good faulty w p h)) (each-after until good.processes late p)

-- The copy

same-nodes : (one other : List NodeState) → length one ≡ length other → ((n : ℕ) → found_or idle_node (slice_get one n) ≡ found_or idle_node (slice_get other n)) → one ≡ other
same-nodes [] [] e h = refl
same-nodes [] (y ∷ other) e h = absurd (omega (arith, e))
same-nodes (x ∷ one) [] e h = absurd (omega (arith, e))
same-nodes (x ∷ one) (y ∷ other) e h = λ i. h 0 i ∷ same-nodes one other (omega (arith, e)) (λ n. h (suc n)) i

or-none : (b c : Bool) → (b || c) ≡ false → (b ≡ false) × (c ≡ false)
or-none true c e = cc
or-none false c e = (refl, e)

none-kept : {A : Type 0} (own : Option A) (good : A) → is_some own ≡ false → good ≡ found_or good own
none-kept None good e = refl
none-kept (Some x) good e = cc

pub stands-so : WithinAreDifferences → (d : Differences) (good0 good faulty : State) → IsWithin (within_of d good0) good faulty → Keeps (apart_of d) good good0 → StandsFor d good faulty
stands-so law d good0 good faulty w keeps =
    law d (within_of d good0) good faulty w (same-nodes faulty.nodes good.nodes w.node_count w.nodes) (λ object. refl)
    (λ p. activity p ((apart_of d).processes p) refl) (λ p. later p ((apart_of d).processes p) refl)
  where
    activity : (p : ℕ) (b : Bool) → (apart_of d).processes p ≡ b →
        (found_or (process_at good p) ((within_of d good0).processes p)).activity ≡ found_or (process_at good p).activity (own_of d.activities p)
    activity p true h =
        ap (λ (o : Option ProcessState). (found_or (process_at good p) o).activity) (kept-own d good0 p h)
        ∙ ap (λ (s : ProcessState). found_or s.activity (own_of d.activities p)) (sym (keeps.processes p h))
    activity p false h =
        ap (λ (o : Option ProcessState). (found_or (process_at good p) o).activity) (kept-none d good0 p h)
        ∙ none-kept (own_of d.activities p) (process_at good p).activity (or-none (is_some (own_of d.activities p)) (is_some (own_of d.updates p)) h).0

    later : (p : ℕ) (b : Bool) → (apart_of d).processes p ≡ b →
        (found_or (process_at good p) ((within_of d good0).processes p)).later ≡ found_or (process_at good p).later (own_of d.updates p)
    later p true h =
        ap (λ (o : Option ProcessState). (found_or (process_at good p) o).later) (kept-own d good0 p h)
        ∙ ap (λ (s : ProcessState). found_or s.later (own_of d.updates p)) (sym (keeps.processes p h))
    later p false h =
        ap (λ (o : Option ProcessState). (found_or (process_at good p) o).later) (kept-none d good0 p h)
        ∙ none-kept (own_of d.updates p) (process_at good p).later (or-none (is_some (own_of d.activities p)) (is_some (own_of d.updates p)) h).1

-- Nothing that is kept becomes equal

or-first : (b c : Bool) → b ≡ true → (b || c) ≡ true
or-first true c e = refl
or-first false c e = cc

or-second : (b c : Bool) → c ≡ true → (b || c) ≡ true
or-second true c e = refl
or-second false c e = e

all-map : {A : Type 0} (P R : A → Type 0) (xs : List A) → AllHold P xs → ((x : A) → P x → R x) → AllHold R xs
all-map P R [] p h = tt
all-map P R (x ∷ xs) p h = (h x p.0, all-map P R xs p.1 h)

all-zip : {A : Type 0} (P Q R : A → Type 0) (xs : List A) → AllHold P xs → AllHold Q xs → ((x : A) → P x → Q x → R x) → AllHold R xs
all-zip P Q R [] p q h = tt
all-zip P Q R (x ∷ xs) p q h = (h x p.0 q.0, all-zip P Q R xs p.1 q.1 h)

-- what is kept is found under its number
found-all : {A : Type 0} (entries : List (ℕ × A)) → AllHold (λ (entry : ℕ × A). is_some (own_of entries entry.0) ≡ true) entries
found-all [] = tt
found-all {A = A} (first ∷ rest) = (
  ap (λ (b : Bool). is_some (elim b as (λ _. Option A) [ true ↦ Some first.1 | false ↦ own_of rest first.0 ])) (eq-eqb first.0 first.0 refl),
  all-map (λ (entry : ℕ × A). is_some (own_of rest entry.0) ≡ true) (λ (entry : ℕ × A). is_some (own_of (first ∷ rest) entry.0) ≡ true) rest (found-all rest)
      (λ entry e. at (nat_eq first.0 entry.0) entry.0 e),
)
  where
    at : (b : Bool) (number : ℕ) → is_some (own_of rest number) ≡ true → is_some (elim b as (λ _. Option A) [ true ↦ Some first.1 | false ↦ own_of rest number ]) ≡ true
    at true number e = refl
    at false number e = e

pub nothing-equal : (d : Differences) (good0 good : State) → Keeps (apart_of d) good good0 → KeepsNothingEqual d good0 → KeepsNothingEqual d good
nothing-equal d good0 good keeps n = record {
  values = all-zip (λ (entry : ℕ × LogicValue). entry.1 ≢ value_at good0.values entry.0) (λ (entry : ℕ × LogicValue). is_some (own_of d.values entry.0) ≡ true)
      (λ (entry : ℕ × LogicValue). entry.1 ≢ value_at good.values entry.0) d.values n.values (found-all d.values)
      (λ entry apart found e. apart (e ∙ keeps.values entry.0 found));
  activities = all-zip (λ (entry : ℕ × Activity). entry.1 ≢ (process_at good0 entry.0).activity) (λ (entry : ℕ × Activity). is_some (own_of d.activities entry.0) ≡ true)
      (λ (entry : ℕ × Activity). entry.1 ≢ (process_at good entry.0).activity) d.activities n.activities (found-all d.activities)
      (λ entry apart found e.
      apart
      (e
      ∙ ap (λ (s : ProcessState). s.activity) (keeps.processes entry.0 (or-first (is_some (own_of d.activities entry.0)) (is_some (own_of d.updates entry.0)) found))));
  updates = all-zip (λ (entry : ℕ × List LaterUpdate). entry.1 ≢ (process_at good0 entry.0).later) (λ (entry : ℕ × List LaterUpdate). is_some (own_of d.updates entry.0) ≡ true)
      (λ (entry : ℕ × List LaterUpdate). entry.1 ≢ (process_at good entry.0).later) d.updates n.updates (found-all d.updates)
      (λ entry apart found e.
      apart
      (e
      ∙ ap (λ (s : ProcessState). s.later) (keeps.processes entry.0 (or-second (is_some (own_of d.activities entry.0)) (is_some (own_of d.updates entry.0)) found))));
  values_ascend = n.values_ascend;
  activities_ascend = n.activities_ascend;
  updates_ascend = n.updates_ascend;
}
