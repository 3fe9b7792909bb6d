-- Where nothing that is kept is the good machine's, nothing becomes so.
use Rattle.std.proofs.Common.{◌≡◌, ℕ, zero, suc, ◌<◌, List, [], ◌∷◌, map, length, Bool, true, false, not, ◌||◌, refl, sym, ap, subst, ◌∙◌, arith}
use Rattle.std.specs.Prelude.{◌≢◌, Option, Some, None, is_some, filter, cond, nat_eq, nat_le, slice_get}
use Rattle.std.specs.Option.{option_map}
use Rattle.std.proofs.lemmas.Bool.{eqb-true, eq-eqb, ne_eqb}
use Rattle.four_value.specs.Values.{LogicValue}
use Rattle.vf_base.specs.Lists.{AllHold, first_place, earlier_place}
use Rattle.v_design.specs.Assignments.{ValueUpdate, value_at}
use Rattle.v_design.specs.Processes.{Activity}
use Rattle.v_design.specs.States.{State, ProcessState, LaterUpdate, TurnKind, PostponedTurn, UpdatesTurn, TimeTurn, process_at, found_or, idle_process, is_any, is_due, turned, time_turn}
use Rattle.machine_laws.specs.SlotLoop.{IsIdle}
use Rattle.copy_laws.specs.Beside.{Keeps}
use Rattle.copy_laws.specs.Differences.{Differences, own_of, apart_of, Ascend, KeepsNothingEqual}
use Rattle.copy_laws.specs.Moves.{Within, apart_within}
use Rattle.copy_laws.specs.Rest.{with_own, within_of}
use Rattle.lockstep_laws.specs.Lockstep.{due_times, DiffersInWrites, AreInLockstep}
use Rattle.lockstep_laws.specs.Turning.{turned_process, turned_within}
use Rattle.lockstep_laws.specs.Slots.{MayGoInLockstep, AreListed, KeepsNothingSame, AreJustListed, NothingBecomesSame}
use Rattle.lockstep_laws.proofs.Lists.{some-is, all-map, all-zip, cons-parts, append-parts}
use Rattle.lockstep_laws.proofs.Turned.{process-turned}

-- Entries by number

-- what holds of all entries holds of the one that is found
found-holds : {A : Type 0} (P : ℕ × A → Type 0) (entries : List (ℕ × A)) (number : ℕ) (own : A) → AllHold P entries → own_of entries number ≡ Some own → P (number, own)
found-holds P [] number own all e = cc
found-holds {A} P (entry ∷ entries) number own all e = go (nat_eq entry.0 number) refl e (λ f. found-holds P entries number own all.1 f)
  where
    go : (b : Bool) → nat_eq entry.0 number ≡ b → elim b as (λ _. Option A) [ true ↦ Some entry.1 | false ↦ own_of entries number ] ≡ Some own →
        (own_of entries number ≡ Some own → P (number, own)) → P (number, own)
    go true h f rest =
        let here : entry.0 ≡ number = eqb-true entry.0 number h in
        let is : entry.1 ≡ own = some-is entry.1 own f in
        subst P (λ i. (here i, is i)) all.0
    go false h f rest = rest f

-- where the numbers ascend each entry is found
each-found : {A : Type 0} (entries : List (ℕ × A)) → Ascend entries → AllHold (λ (entry : ℕ × A). own_of entries entry.0 ≡ Some entry.1) entries
each-found [] ascend = tt
each-found {A} (first ∷ entries) ascend = (
  ap (λ (b : Bool). elim b as (λ _. Option A) [ true ↦ Some first.1 | false ↦ own_of entries first.0 ]) (eq-eqb first.0 first.0 refl),
  all-zip (λ (later : ℕ × A). first.0 < later.0) (λ (entry : ℕ × A). own_of entries entry.0 ≡ Some entry.1) (λ (entry : ℕ × A). own_of (first ∷ entries) entry.0 ≡ Some entry.1) entries
      (λ entry low e. passed entry low ∙ e) ascend.0 (each-found entries ascend.1),
)
  where
    passed : (entry : ℕ × A) → first.0 < entry.0 → own_of (first ∷ entries) entry.0 ≡ own_of entries entry.0
    passed entry low =
        ap (λ (b : Bool). elim b as (λ _. Option A) [ true ↦ Some first.1 | false ↦ own_of entries entry.0 ]) (ne_eqb first.0 entry.0 (λ same. absurd (omega (arith, low, same))))

-- Where a slot begins

begins : (d : Differences) (good : State) (time : ℕ) → MayGoInLockstep d good → KeepsNothingEqual d good → KeepsNothingSame (within_of d (time_turn time good)) (time_turn time good)
begins d good time may none = record {
  values = λ object own e. found-holds (λ (entry : ℕ × LogicValue). entry.1 ≢ value_at good.values entry.0) d.values object own none.values e;
  processes = λ p own e same. process p own ((apart_of d).processes p) refl e same (own_of d.updates p) refl;
}
  where
    later-stays : (p : ℕ) → (process_at (time_turn time good) p).later ≡ (process_at good p).later
    later-stays p = ap (λ (s : ProcessState). s.later) (process-turned (TimeTurn time) good p)

    process : (p : ℕ) (own : ProcessState) (b : Bool) → (apart_of d).processes p ≡ b →
        elim b as (λ _. Option ProcessState) [ true ↦ Some (with_own d (time_turn time good) p) | false ↦ None ] ≡ Some own → own ≡ process_at (time_turn time good) p →
        (updates : Option (List LaterUpdate)) → own_of d.updates p ≡ updates → ⊥
    process p own false h e same updates is = let no : None ≡ Some own = e in cc
    process p own true h e same None is = let no : false ≡ true = sym (λ i. is_some (may.activities p i) || is_some (is i)) ∙ h in cc
    process p own true h e same (Some updates) is =
        found-holds (λ (entry : ℕ × List LaterUpdate). entry.1 ≢ (process_at good entry.0).later) d.updates p updates none.updates is
        (ap (found_or (process_at (time_turn time good) p).later) (sym is)
        ∙ ap (λ (s : ProcessState). s.later) (some-is (with_own d (time_turn time good) p) own e ∙ same) ∙ later-stays p)

-- Over events that pass

passes : (d : Within) (before later : State) → Keeps (apart_within d) later before → KeepsNothingSame d before → KeepsNothingSame d later
passes d before later keeps none = record {
  values = λ object own e same. none.values object own e (same ∙ keeps.values object (ap is_some e));
  processes = λ p own e same. none.processes p own e (same ∙ keeps.processes p (ap is_some e));
}

-- Over a turn

-- updates that are due at the same times, and of which those that are due write the same and the others are the same
abbrev update_of : LaterUpdate → ValueUpdate
update_of later = later.update

one-more : (x y : LaterUpdate) (xs ys due other : List LaterUpdate) (b c : Bool) → b ≡ c → x.time ≡ y.time → cond (not b) (x ∷ xs) xs ≡ cond (not c) (y ∷ ys) ys →
    map update_of (cond b (x ∷ due) due) ≡ map update_of (cond c (y ∷ other) other) → (x ≡ y) × (xs ≡ ys) × (map update_of due ≡ map update_of other)
one-more x y xs ys due other true true e time h k =
    let parts = cons-parts x.update y.update (map update_of due) (map update_of other) k in ((λ i. record { time = time i; update = parts.0 i }), h, parts.1)
one-more x y xs ys due other true false e time h k = cc
one-more x y xs ys due other false true e time h k = cc
one-more x y xs ys due other false false e time h k = let parts = cons-parts x y xs ys h in (parts.0, parts.1, k)

merged : (now : ℕ) (own good : List LaterUpdate) → due_times own ≡ due_times good → filter (λ later. not (is_due now later)) own ≡ filter (λ later. not (is_due now later)) good →
    map update_of (filter (is_due now) own) ≡ map update_of (filter (is_due now) good) → own ≡ good
merged now [] [] e h k = refl
merged now [] (g ∷ good) e h k = cc
merged now (o ∷ own) [] e h k = cc
merged now (o ∷ own) (g ∷ good) e h k =
    let times = cons-parts o.time g.time (due_times own) (due_times good) e in
    let parts = one-more o g (filter (λ later. not (is_due now later)) own) (filter (λ later. not (is_due now later)) good) (filter (is_due now) own) (filter (is_due now) good)
    (nat_le o.time now) (nat_le g.time now) (ap (λ time. nat_le time now) times.0) times.0 h k in
    let rest = merged now own good times.1 parts.1 parts.2 in
    λ i. parts.0 i ∷ rest i

-- a turn tells such processes apart as before
turned-same : (now : ℕ) (turn : TurnKind) (good own : ProcessState) → DiffersInWrites good own → turned_process now turn own ≡ turned_process now turn good → own ≡ good
turned-same now PostponedTurn good own h e =
    λ i. record { activity = h.activity i; later = ap (λ (s : ProcessState). s.later) e i; lane = ap (λ (s : ProcessState). s.lane) e i }
turned-same now UpdatesTurn good own h e =
    let parts = append-parts own.lane good.lane (map update_of (filter (is_due now) own.later)) (map update_of (filter (is_due now) good.later)) h.lane
    (ap (λ (s : ProcessState). s.lane) e) in
    let later = merged now own.later good.later h.due (ap (λ (s : ProcessState). s.later) e) parts.1 in
    λ i. record { activity = h.activity i; later = later i; lane = parts.0 i }
turned-same now (TimeTurn time) good own h e =
    λ i. record { activity = h.activity i; later = ap (λ (s : ProcessState). s.later) e i; lane = ap (λ (s : ProcessState). s.lane) e i }

values-turned : (turn : TurnKind) (state : State) → (turned turn state).values ≡ state.values
values-turned PostponedTurn state = refl
values-turned UpdatesTurn state = refl
values-turned (TimeTurn time) state = refl

turns : (d : Within) (good faulty : State) (turn : TurnKind) → AreInLockstep d good faulty → KeepsNothingSame d good → KeepsNothingSame (turned_within good.time turn d) (turned turn good)
turns d good faulty turn l none = record {
  values = λ object own e same. none.values object own e (same ∙ ap (λ (vs : List LogicValue). value_at vs object) (values-turned turn good));
  processes = λ p own e same. process p own (d.processes p) refl e same;
}
  where
    process : (p : ℕ) (own : ProcessState) (was : Option ProcessState) → d.processes p ≡ was → option_map (turned_process good.time turn) was ≡ Some own → own ≡ process_at (turned turn good) p → ⊥
    process p own None is e same = let no : None ≡ Some own = e in cc
    process p own (Some before) is e same =
        none.processes p before is
        (turned-same good.time turn (process_at good p) before (l.processes p before is)
        (some-is (turned_process good.time turn before) own e ∙ same ∙ process-turned turn good p))

-- Where a slot ends

none-placed : (test : ProcessState → Bool) (xs : List ProcessState) (n : ℕ) → test idle_process ≡ false → first_place test xs ≡ None → test (found_or idle_process (slice_get xs n)) ≡ false
none-placed test [] n idle e = idle
none-placed test (x ∷ xs) zero idle e = go (test x) (first_place test xs) e
  where
    go : (b : Bool) (o : Option ℕ) → earlier_place b o ≡ None → b ≡ false
    go true o f = cc
    go false o f = refl
none-placed test (x ∷ xs) (suc n) idle e = none-placed test xs n idle (go (test x) (first_place test xs) e)
  where
    go : (b : Bool) (o : Option ℕ) → earlier_place b o ≡ None → o ≡ None
    go true o f = cc
    go false None f = refl
    go false (Some m) f = cc

empty-same : (own good : List ValueUpdate) → length own ≡ length good → is_any good ≡ false → own ≡ good
empty-same [] [] e h = refl
empty-same [] (g ∷ good) e h = cc
empty-same (o ∷ own) [] e h = absurd (omega (arith, e))
empty-same (o ∷ own) (g ∷ good) e h = cc

ends : (w : Within) (d : Differences) (good faulty : State) → AreInLockstep w good faulty → IsIdle good → KeepsNothingSame w good → AreJustListed w d → AreListed w d good × KeepsNothingEqual d good
ends w d good faulty l idle none listed = (
  record {
    values = listed.values;
    activities = listed.activities;
    updates = λ p. ap (found_or (process_at good p).later) (listed.updates p) ∙ through (process_at good p) (w.processes p);
  },
  record {
    values = all-map (λ (entry : ℕ × LogicValue). own_of d.values entry.0 ≡ Some entry.1) (λ (entry : ℕ × LogicValue). entry.1 ≢ value_at good.values entry.0) d.values
        (λ entry found same. none.values entry.0 entry.1 (sym (listed.values entry.0) ∙ found) same) (each-found d.values listed.values_ascend);
    activities = all-map (λ (entry : ℕ × Activity). own_of d.activities entry.0 ≡ Some entry.1) (λ (entry : ℕ × Activity). entry.1 ≢ (process_at good entry.0).activity) d.activities
        (λ entry found same. let no : None ≡ Some entry.1 = sym (listed.activities entry.0) ∙ found in cc) (each-found d.activities listed.activities_ascend);
    updates = all-map (λ (entry : ℕ × List LaterUpdate). own_of d.updates entry.0 ≡ Some entry.1) (λ (entry : ℕ × List LaterUpdate). entry.1 ≢ (process_at good entry.0).later) d.updates
        (λ entry found same. update entry.0 entry.1 same (w.processes entry.0) refl (sym (listed.updates entry.0) ∙ found)) (each-found d.updates listed.updates_ascend);
    values_ascend = listed.values_ascend;
    activities_ascend = listed.activities_ascend;
    updates_ascend = listed.updates_ascend;
  },
)
  where
    through : (process : ProcessState) (own : Option ProcessState) → found_or process.later (option_map (λ (s : ProcessState). s.later) own) ≡ (found_or process own).later
    through process None = refl
    through process (Some own) = refl

    lane : (p : ℕ) → is_any (process_at good p).lane ≡ false
    lane p = none-placed (λ (s : ProcessState). is_any s.lane) good.processes p refl idle.1

    update : (p : ℕ) (later : List LaterUpdate) → later ≡ (process_at good p).later → (own : Option ProcessState) → w.processes p ≡ own →
        option_map (λ (s : ProcessState). s.later) own ≡ Some later → ⊥
    update p later same None is e = let no : None ≡ Some later = e in cc
    update p later same (Some own) is e =
        let h = l.processes p own is in
        none.processes p own is
        (λ i. record {
          activity = h.activity i;
          later = (some-is own.later later e ∙ same) i;
          lane = empty-same own.lane (process_at good p).lane h.lane (lane p) i;
        })

pub nothing_becomes_same : NothingBecomesSame
nothing_becomes_same = record { begins = begins; passes = passes; turns = turns; ends = ends }
