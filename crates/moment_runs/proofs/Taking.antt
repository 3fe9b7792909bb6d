-- Runs of a phase that are taken one after another (processes by IEEE 1364-2001, clause 9; nonblocking updates by clause 9.2.2).
use Rattle.std.proofs.Common.{◌≡◌, ℕ, zero, suc, ◌+◌, ◌-◌, ◌<◌, ◌≤◌, Bool, true, false, cond, ◌||◌, List, [], ◌∷◌, ◌++◌, map, length, get_or, set, take, drop, Vec, Global, refl, sym, ap, subst, ◌∙◌, inl, inr, arith, append-nil, append_assoc}
use Rattle.std.specs.Prelude.{Option, Some, None, nat_eq, slice_get}
use Rattle.std.specs.Option.{option_map}
use Rattle.std.proofs.Math.Seq.{take-add}
use Rattle.std.proofs.lemmas.Bool.{cases_eq, eq-eqb, eqb-true, ne_eqb}
use Rattle.std.proofs.lemmas.List.{length-set, get_or-set_same, get_or-set_other, map-append, take_more}
use Rattle.std.proofs.lemmas.List.Sums.{sum_by-append, sum_by-take-drop}
use Rattle.std.proofs.lemmas.Option.{slice_get_within, slice_get-get_or, get_or_from_slice_get, slice_get-map}
use Rattle.vf_base.specs.Base.{process_number}
use Rattle.vf_base.specs.declared.ids.ProcId.{ProcId}
use Rattle.vf_base.specs.Lists.{has, joined}
use Rattle.v_design.specs.Designs.{FlatDesign, good_machine}
use Rattle.v_design.specs.Plain.{due_of}
use Rattle.v_design.specs.States.{LaterUpdate}
use Rattle.v_design.specs.Grades.{Phase}
use Rattle.v_design.specs.OwnSteps.{ProcessRun, process_runs}
use Rattle.copy_laws.specs.SharedRuns.{appended_by}
use Rattle.process_code.specs.Codes.{rests_in_code}
use Rattle.process_code.specs.Points.{point_of, activity_at}
use Rattle.process_code.specs.RunEnds.{RunTold, told_by}
use Rattle.process_code.specs.StatesOf.{IsStateOf}
use Rattle.process_code.specs.declared.code.Code.{Code}
use Rattle.process_code.specs.declared.state.ProcState.{ProcState}
use Rattle.process_code.specs.declared.state.RunEnd.{RunEnd}
use Rattle.run_ends.specs.RunEnds.{IsCodeAt, AreCodesOf, told_of}
use Rattle.window_runs.specs.RunsByProcess.{run_process}
use Rattle.good_trace.specs.RunsKept.{TellsRun}
use Rattle.moment_parts.specs.declared.lane.Lane.{Lane}
use Rattle.moment_parts.specs.StatesKept.{AreStatesOf}
use Rattle.moment_runs.specs.Taken.{ProcessesKept, StandEach, appended_behind, count_of, StandsBehind, AreRunsTaken, HaveRuns}

-- A run that is told

pub code-there : (design : FlatDesign) (codes : List Code) (p : ℕ) → AreCodesOf design codes → p < length design.processes → (code : Code) × IsCodeAt design p code
code-there design codes p are low = go (slice_get codes p) refl
  where
    go : (found : Option Code) → slice_get codes p ≡ found → (code : Code) × IsCodeAt design p code
    go None none =
        let inside : p < length codes = (let e : length codes ≡ length design.processes = are.count in omega (arith, e, low)) in
        absurd (past codes p inside none)
      where
        past : (xs : List Code) (n : ℕ) → n < length xs → slice_get xs n ≡ None → ⊥
        past [] n less e = omega (arith, less)
        past (x ∷ xs) zero less e = cc
        past (x ∷ xs) (suc n) less e = past xs n (omega (arith, less)) e
    go (Some code) there = (code, are.each p code there)

run-inside : (runs : List ProcessRun) (number : ℕ) → number < length runs → (run : ProcessRun) × (slice_get runs number ≡ Some run)
run-inside [] number low = absurd (omega (arith, low))
run-inside (run ∷ runs) zero low = (run, refl)
run-inside (run ∷ runs) (suc number) low = run-inside runs number (omega (arith, low))

-- what was found is a run's end, where the phase has so many runs
pub run-there : (design : FlatDesign) (codes : List Code) (p number : ℕ) (phase : Phase) (found : Option RunEnd) → AreCodesOf design codes → p < length design.processes →
    TellsRun design p phase number found → number < length (process_runs (good_machine design) p phase) → (run : RunEnd) × (found ≡ Some run)
run-there design codes p number phase None are low tells inside =
    let code = code-there design codes p are low in
    let run = run-inside (process_runs (good_machine design) p phase) number inside in
    let told : Option RunTold = Some (told_of phase.begins.time run.0) in
    let none : ◌≡◌ {A = Option RunTold} None told =
    tells.told code.0 code.1 ∙ slice_get-map (told_of phase.begins.time) (process_runs (good_machine design) p phase) number ∙ ap (option_map (told_of phase.begins.time)) run.1 in
    absurd (differ (told_of phase.begins.time run.0) none)
  where
    differ : (told : RunTold) → ◌≡◌ {A = Option RunTold} None (Some told) → ⊥
    differ told e = cc
run-there design codes p number phase (Some run) are low tells inside = (run, refl)

same-told : (a b : RunTold) → Some a ≡ Some b → a ≡ b
same-told a b e = cc

-- and tells that run
tells-it : (design : FlatDesign) (p number : ℕ) (phase : Phase) (run : RunEnd) (own : ProcessRun) (code : Code) → TellsRun design p phase number (Some run) → IsCodeAt design p code →
    slice_get (process_runs (good_machine design) p phase) number ≡ Some own → told_by code run ≡ told_of phase.begins.time own
tells-it design p number phase run own code tells at here =
    same-told (told_by code run) (told_of phase.begins.time own)
    (tells.told code at ∙ slice_get-map (told_of phase.begins.time) (process_runs (good_machine design) p phase) number ∙ ap (option_map (told_of phase.begins.time)) here)

-- a state that stands where its end does
pub stands-behind : (design : FlatDesign) (p number : ℕ) (phase : Phase) (run : RunEnd) (old new : ProcState) → TellsRun design p phase number (Some run) →
    number < length (process_runs (good_machine design) p phase) → ((code : Code) → IsCodeAt design p code → IsStateOf code old) → point_of new ≡ point_of run.state →
    ((code : Code) → IsStateOf code old → IsStateOf code run.state → IsStateOf code new) → StandsBehind design phase p number new
stands-behind design p number phase run old new tells inside was point state_of = record {
  run = own.0;
  is = own.1;
  stands = record {
    state_of = λ code at. state_of code (was code at) (tells.state_of code run at refl);
    does = λ code at.
        ap (activity_at (rests_in_code code)) point ∙ ap (λ (t : RunTold). t.activity) (tells-it design p number phase run own.0 code tells at own.1);
  };
}
  where
    own : (one : ProcessRun) × (slice_get (process_runs (good_machine design) p phase) number ≡ Some one)
    own = run-inside (process_runs (good_machine design) p phase) number inside

-- Counts

pub count-append : (p : ℕ) (xs ys : List ℕ) → count_of p (xs ++ ys) ≡ count_of p xs + count_of p ys
count-append p xs ys = sum_by-append (λ own. cond (nat_eq own p) 1 0) xs ys

pub count-own : (p : ℕ) → count_of p (p ∷ []) ≡ 1
count-own p = ap (λ b. 0 + cond b 1 0) (eq-eqb p p refl)

count-other : (p q : ℕ) → (q ≡ p → ⊥) → count_of p (q ∷ []) ≡ 0
count-other p q apart = ap (λ b. 0 + cond b 1 0) (ne_eqb q p apart)

pub count-take : (p : ℕ) (xs : List ℕ) (n : ℕ) → count_of p (take n xs) ≤ count_of p xs
count-take p xs n = let e : count_of p (take n xs) + count_of p (drop n xs) ≡ count_of p xs = sum_by-take-drop (λ own. cond (nat_eq own p) 1 0) xs n in omega (arith, e)

count-none : (p : ℕ) (xs : List ℕ) → has xs p ≡ false → count_of p xs ≡ 0
count-none p [] e = refl
count-none p (x ∷ xs) e = go (nat_eq x p) refl e (count-none p xs)
  where
    go : (b : Bool) → nat_eq x p ≡ b → (b || has xs p) ≡ false → (has xs p ≡ false → count_of p xs ≡ 0) → count_of p (x ∷ xs) ≡ 0
    go true f h rest = cc
    go false f h rest =
        let one : count_of p (x ∷ []) ≡ 0 = ap (λ b. 0 + cond b 1 0) f in
        let z : count_of p xs ≡ 0 = rest h in
        count-append p (x ∷ []) xs ∙ omega (arith, one, z)

joined-append : {A B : Type 0} (f : A → List B) (xs ys : List A) → joined (map f (xs ++ ys)) ≡ joined (map f xs) ++ joined (map f ys)
joined-append f [] ys = refl
joined-append f (x ∷ xs) ys = ap (λ l. f x ++ l) (joined-append f xs ys) ∙ sym (append_assoc (f x) (joined (map f xs)) (joined (map f ys)))

drop-more : {A : Type 0} (n m : ℕ) (xs : List A) → drop m (drop n xs) ≡ drop (n + m) xs
drop-more zero m xs = let e : m ≡ 0 + m = omega arith in ap (λ k. drop k xs) e
drop-more (suc n) m [] = nothing m ∙ sym (nothing (suc n + m))
  where
    nothing : {A : Type 0} (k : ℕ) → drop {A = A} k [] ≡ []
    nothing zero = refl
    nothing (suc k) = refl
drop-more (suc n) m (x ∷ xs) = drop-more n m xs ∙ (let e : suc (n + m) ≡ suc n + m = omega arith in ap (λ k. drop k (x ∷ xs)) e)

run-appends : Phase → ProcessRun → List LaterUpdate
run-appends phase run = appended_by phase.begins.time run.steps

-- what more runs append
appended-more : (design : FlatDesign) (phase : Phase) (p earlier one two : ℕ) →
    appended_behind design phase p earlier (one + two) ≡ appended_behind design phase p earlier one ++ appended_behind design phase p (earlier + one) two
appended-more design phase p earlier one two =
    ap (λ l. joined (map f l)) (take-add one two (drop earlier runs))
    ∙ joined-append f (take one (drop earlier runs)) (take two (drop one (drop earlier runs)))
    ∙ ap (λ l. joined (map f (take one (drop earlier runs))) ++ joined (map f (take two l))) (drop-more earlier one runs)
  where
    runs : List ProcessRun
    runs = process_runs (good_machine design) p phase

    f : ProcessRun → List LaterUpdate
    f = λ (run : ProcessRun). appended_by phase.begins.time run.steps

appended-nothing : (design : FlatDesign) (phase : Phase) (p earlier : ℕ) → appended_behind design phase p earlier 0 ≡ []
appended-nothing design phase p earlier = refl

at-first : {A : Type 0} (xs : List A) (n : ℕ) (x : A) → slice_get xs n ≡ Some x → take 1 (drop n xs) ≡ x ∷ []
at-first [] n x e = cc
at-first (y ∷ xs) zero x e = let same : y ≡ x = cc in ap (λ z. z ∷ []) same
at-first (y ∷ xs) (suc n) x e = at-first xs n x e

-- One run

-- nothing is taken yet
pub taken-none : (design : FlatDesign) (phase : Phase) (standing : ProcessesKept) → StandEach design standing → AreStatesOf design standing.states → AreRunsTaken design phase [] standing standing
taken-none design phase standing each states = record {
  each = each;
  ran = λ p low. omega arith;
  later = λ p low. sym (append-nil (get_or standing.later p []));
  still = λ p own none here. here;
  stands = λ p own some here. cc;
  states_of = states;
}

put-same : (states : List ProcState) (place : ℕ) (x own : ProcState) → place < length states → slice_get (set states place x) place ≡ Some own → own ≡ x
put-same states place x own low here = sym (get_or_from_slice_get (set states place x) place own x here) ∙ get_or-set_same states place x x low

put-other : (states : List ProcState) (place q : ℕ) (x own : ProcState) → (q ≡ place → ⊥) → slice_get (set states place x) q ≡ Some own → slice_get states q ≡ Some own
put-other states place q x own apart here =
    let low : q < length states = (let l = slice_get_within (set states place x) q own here in let e : length (set states place x) ≡ length states = length-set states place x in omega (arith, l, e)) in
    slice_get-get_or states q own low ∙ ap Some (sym (get_or-set_other states place q x own apart) ∙ get_or_from_slice_get (set states place x) q own own here)

-- the next run of a process is taken
pub taken-one : (design : FlatDesign) (phase : Phase) (p : ℕ) (run : RunEnd) (old new : ProcessesKept) (state made : ProcState) (codes : List Code) → AreCodesOf design codes →
    p < length design.processes → StandEach design old → AreStatesOf design old.states → TellsRun design p phase (get_or old.ran p 0) (Some run) →
    get_or old.ran p 0 < length (process_runs (good_machine design) p phase) →
    state ≡ get_or old.states p state → point_of made ≡ point_of run.state →
    ((code : Code) → IsStateOf code state → IsStateOf code run.state → IsStateOf code made) → new.states ≡ set old.states p made →
    new.later ≡ set old.later p (get_or old.later p [] ++ map due_of run.later) → new.ran ≡ set old.ran p (get_or old.ran p 0 + 1) →
    AreRunsTaken design phase (p ∷ []) old new
taken-one design phase p run old new state made codes are low each states tells inside is point state_of states_put later_put ran_put = record {
  each = record {
    states = ap length states_put ∙ length-set old.states p made ∙ each.states;
    later = ap length later_put ∙ length-set old.later p joined_own ∙ each.later;
    ran = ap length ran_put ∙ length-set old.ran p (number + 1) ∙ each.ran;
  };
  ran = λ q less. elim (cases_eq q p) [
    | inl same ↦ subst (λ n. get_or new.ran n 0 ≡ get_or old.ran n 0 + count_of n (p ∷ [])) (sym same)
        (own-ran ∙ (let e : count_of p (p ∷ []) ≡ 1 = count-own p in omega (arith, e)))
    | inr apart ↦
        ap (λ l. get_or l q 0) ran_put ∙ get_or-set_other old.ran p q (number + 1) 0 apart
        ∙ (let e : count_of q (p ∷ []) ≡ 0 = count-other q p (λ same. apart (sym same)) in omega (arith, e))
  ];
  later = λ q less. elim (cases_eq q p) [
    | inl same ↦ subst (λ n. get_or new.later n [] ≡ get_or old.later n [] ++ appended_behind design phase n (get_or old.ran n 0) (count_of n (p ∷ []))) (sym same)
        (own-later ∙ ap (λ k. get_or old.later p [] ++ appended_behind design phase p number k) (sym (count-own p)))
    | inr apart ↦
        ap (λ l. get_or l q []) later_put ∙ get_or-set_other old.later p q joined_own [] apart
        ∙ sym (append-nil (get_or old.later q []))
        ∙ ap (λ k. get_or old.later q [] ++ appended_behind design phase q (get_or old.ran q 0) k) (sym (count-other q p (λ same. apart (sym same))))
  ];
  still = λ q own none here. put-other old.states p q made own (λ same. no-own q same none) (subst (λ l. slice_get l q ≡ Some own) states_put here);
  stands = λ q own some here.
      let same : q ≡ p = only q some in
      let at : own ≡ made = put-same old.states p made own inside-states (subst (λ n. slice_get (set old.states p made) n ≡ Some own) same (subst (λ l. slice_get l q ≡ Some own) states_put here)) in
      let last : get_or new.ran q 0 - 1 ≡ number =
      (let e : get_or new.ran p 0 ≡ number + 1 = own-ran in let f : get_or new.ran q 0 ≡ get_or new.ran p 0 = ap (λ n. get_or new.ran n 0) same in omega (arith, e, f)) in
      subst (λ n. StandsBehind design phase n (get_or new.ran q 0 - 1) own) (sym same)
      (subst (λ n. StandsBehind design phase p n own) (sym last) (subst (λ s. StandsBehind design phase p number s) (sym at) behind));
  states_of = λ q own code here at. elim (cases_eq q p) [
    | inl same ↦
        let there : own ≡ made = put-same old.states p made own inside-states (subst (λ n. slice_get (set old.states p made) n ≡ Some own) same (subst (λ l. slice_get l q ≡ Some own) states_put here)) in
        subst (λ s. IsStateOf code s) (sym there) (behind.stands.state_of code (subst (λ n. IsCodeAt design n code) same at))
    | inr apart ↦ states q own code (put-other old.states p q made own apart (subst (λ l. slice_get l q ≡ Some own) states_put here)) at
  ];
}
  where
    number : ℕ
    number = get_or old.ran p 0

    inside-states : p < length old.states
    inside-states = let e : length old.states ≡ length design.processes = each.states in omega (arith, e, low)

    was : (code : Code) → IsCodeAt design p code → IsStateOf code state
    was code at = states p state code (slice_get-get_or old.states p state inside-states ∙ ap Some (sym is)) at

    behind : StandsBehind design phase p number made
    behind = stands-behind design p number phase run state made tells inside was point state_of

    own-ran : get_or new.ran p 0 ≡ number + 1
    own-ran = ap (λ l. get_or l p 0) ran_put ∙ get_or-set_same old.ran p (number + 1) 0 (let e : length old.ran ≡ length design.processes = each.ran in omega (arith, e, low))

    joined_own : List LaterUpdate
    joined_own = get_or old.later p [] ++ map due_of run.later

    appends : map due_of run.later ≡ appended_behind design phase p number 1
    appends =
        let code = code-there design codes p are low in
        ap (λ (t : RunTold). t.later) (tells-it design p number phase run behind.run code.0 tells code.1 behind.is)
        ∙ sym (append-nil (appended_by phase.begins.time behind.run.steps))
        ∙ ap (λ l. joined (map (λ (r : ProcessRun). appended_by phase.begins.time r.steps) l)) (sym (at-first (process_runs (good_machine design) p phase) number behind.run behind.is))

    own-later : get_or new.later p [] ≡ get_or old.later p [] ++ appended_behind design phase p number 1
    own-later =
        ap (λ l. get_or l p []) later_put
        ∙ get_or-set_same old.later p joined_own [] (let e : length old.later ≡ length design.processes = each.later in omega (arith, e, low))
        ∙ ap (λ l. get_or old.later p [] ++ l) appends

    no-own : (q : ℕ) → q ≡ p → has (p ∷ []) q ≡ false → ⊥
    no-own q same none = let yes-it : (true || false) ≡ false = ap (λ b. b || false) (sym (eq-eqb p q (sym same))) ∙ none in cc

    only : (q : ℕ) → has (p ∷ []) q ≡ true → q ≡ p
    only q some = sym (eqb-true p q (sym (right (nat_eq p q)) ∙ some))
      where
        right : (b : Bool) → (b || false) ≡ b
        right true = refl
        right false = refl

-- One run behind others

has-push : (xs : List ℕ) (p q : ℕ) → has (xs ++ p ∷ []) q ≡ (has xs q || has (p ∷ []) q)
has-push [] p q = refl
has-push (x ∷ xs) p q = ap (λ b. nat_eq x q || b) (has-push xs p q) ∙ assoc (nat_eq x q) (has xs q) (has (p ∷ []) q)
  where
    assoc : (a b c : Bool) → (a || (b || c)) ≡ ((a || b) || c)
    assoc true b c = refl
    assoc false b c = refl

neither : (a b : Bool) → (a || b) ≡ false → (a ≡ false) × (b ≡ false)
neither true b e = cc
neither false b e = (refl, e)

pub taken-more : (design : FlatDesign) (phase : Phase) (processes : List ℕ) (p : ℕ) (old between new : ProcessesKept) → AreRunsTaken design phase processes old between →
    AreRunsTaken design phase (p ∷ []) between new → AreRunsTaken design phase (processes ++ p ∷ []) old new
taken-more design phase processes p old between new first last = record {
  each = last.each;
  ran = λ q low.
      last.ran q low ∙ ap (λ n. n + count_of q (p ∷ [])) (first.ran q low)
      ∙ (let e : count_of q (processes ++ p ∷ []) ≡ count_of q processes + count_of q (p ∷ []) = count-append q processes (p ∷ []) in omega (arith, e));
  later = λ q low.
      last.later q low ∙ ap (λ l. l ++ appended_behind design phase q (get_or between.ran q 0) (count_of q (p ∷ []))) (first.later q low)
      ∙ append_assoc (get_or old.later q []) (appended_behind design phase q (get_or old.ran q 0) (count_of q processes))
      (appended_behind design phase q (get_or between.ran q 0) (count_of q (p ∷ [])))
      ∙ ap (λ n. get_or old.later q [] ++ (appended_behind design phase q (get_or old.ran q 0) (count_of q processes) ++ appended_behind design phase q n (count_of q (p ∷ []))))
      (first.ran q low)
      ∙ ap (λ l. get_or old.later q [] ++ l) (sym (appended-more design phase q (get_or old.ran q 0) (count_of q processes) (count_of q (p ∷ []))))
      ∙ ap (λ n. get_or old.later q [] ++ appended_behind design phase q (get_or old.ran q 0) n) (sym (count-append q processes (p ∷ [])));
  still = λ q own none here.
      let apart = neither (has processes q) (has (p ∷ []) q) (sym (has-push processes p q) ∙ none) in first.still q own apart.0 (last.still q own apart.1 here);
  stands = λ q own some here. go q own (has (p ∷ []) q) refl some here;
  states_of = last.states_of;
}
  where
    go : (q : ℕ) (own : ProcState) (b : Bool) → has (p ∷ []) q ≡ b → has (processes ++ p ∷ []) q ≡ true → slice_get new.states q ≡ Some own →
        StandsBehind design phase q (get_or new.ran q 0 - 1) own
    go q own true e some here = last.stands q own e here
    go q own false e some here =
        let other : has processes q ≡ true = sym (left (has processes q)) ∙ ap (λ b. has processes q || b) (sym e) ∙ sym (has-push processes p q) ∙ some in
        let was : slice_get between.states q ≡ Some own = last.still q own e here in
        let low : q < length design.processes = (let l = slice_get_within new.states q own here in let f : length new.states ≡ length design.processes = last.each.states in omega (arith, l, f)) in
        let same : get_or new.ran q 0 - 1 ≡ get_or between.ran q 0 - 1 =
        (let f : get_or new.ran q 0 ≡ get_or between.ran q 0 + count_of q (p ∷ []) = last.ran q low in let z : count_of q (p ∷ []) ≡ 0 = count-none q (p ∷ []) e in omega (arith, f, z)) in
        subst (λ n. StandsBehind design phase q n own) (sym same) (first.stands q own other was)
      where
        left : (b : Bool) → (b || false) ≡ b
        left true = refl
        left false = refl

-- Several runs

-- so many of some runs are taken
pub record AreTakenSoFar (design : FlatDesign) (phases : List Phase) (phase count : ℕ) (runs : List RunEnd) (old new : ProcessesKept) (lanes lanes_now : Vec Lane Global) (acted more : List ProcId) :
    Type 0 where
  pub each : StandEach design new
  pub states : AreStatesOf design new.states
  pub taken : (before : ℕ) (one : Phase) → phase ≡ before + 1 → slice_get phases before ≡ Some one → AreRunsTaken design one (map run_process (take count runs)) old new
  pub lanes_stay : lanes_now ≡ lanes
  pub listed : map process_number more ≡ map process_number acted ++ map run_process (take count runs)

pub so-far-none : (design : FlatDesign) (phases : List Phase) (phase : ℕ) (runs : List RunEnd) (kept : ProcessesKept) (lanes : Vec Lane Global) (acted : List ProcId) → StandEach design kept →
    AreStatesOf design kept.states → AreTakenSoFar design phases phase 0 runs kept kept lanes lanes acted acted
so-far-none design phases phase runs kept lanes acted each states = record {
  each = each;
  states = states;
  taken = λ before one is here. taken-none design one kept each states;
  lanes_stay = refl;
  listed = sym (append-nil (map process_number acted));
}

take-next : (runs : List RunEnd) (count : ℕ) (run : RunEnd) → count < length runs → run ≡ get_or runs count run → map run_process (take (count + 1) runs) ≡ map run_process (take count runs) ++ run_process run ∷ []
take-next runs count run low is =
    ap (map run_process) (take_more runs count run low ∙ ap (λ r. take count runs ++ r ∷ []) (sym is)) ∙ map-append run_process (take count runs) (run ∷ [])

pub so-far-more : (design : FlatDesign) (phases : List Phase) (phase count : ℕ) (runs : List RunEnd) (run : RunEnd) (old between new : ProcessesKept) (lanes lanes_now lanes_then : Vec Lane Global)
    (acted more now : List ProcId) → count < length runs → run ≡ get_or runs count run → (some : (before : ℕ) × (one : Phase) × (phase ≡ before + 1) × (slice_get phases before ≡ Some one)) →
    ((before : ℕ) (one : Phase) → phase ≡ before + 1 → slice_get phases before ≡ Some one → AreRunsTaken design one (run_process run ∷ []) between new) → lanes_then ≡ lanes_now →
    now ≡ more ++ run.process ∷ [] → AreTakenSoFar design phases phase count runs old between lanes lanes_now acted more →
    AreTakenSoFar design phases phase (count + 1) runs old new lanes lanes_then acted now
so-far-more design phases phase count runs run old between new lanes lanes_now lanes_then acted more now low is some taken stay pushed so_far =
    let last : AreRunsTaken design some.1 (run_process run ∷ []) between new = taken some.0 some.1 some.2 some.3 in
    record {
      each = last.each;
      states = last.states_of;
      taken = λ before one at here.
          subst (λ l. AreRunsTaken design one l old new) (sym (take-next runs count run low is))
          (taken-more design one (map run_process (take count runs)) (run_process run) old between new (so_far.taken before one at here) (taken before one at here));
      lanes_stay = stay ∙ so_far.lanes_stay;
      listed =
          ap (map process_number) pushed ∙ map-append process_number more (run.process ∷ []) ∙ ap (λ l. l ++ run_process run ∷ []) so_far.listed
          ∙ append_assoc (map process_number acted) (map run_process (take count runs)) (run_process run ∷ [])
          ∙ ap (λ l. map process_number acted ++ l) (sym (take-next runs count run low is));
    }

-- a phase of a number from 1 on is there
pub some-phase : (phases : List Phase) (phase : ℕ) → 1 ≤ phase → phase ≤ length phases → (before : ℕ) × (one : Phase) × (phase ≡ before + 1) × (slice_get phases before ≡ Some one)
some-phase phases zero low high = absurd (omega (arith, low))
some-phase phases (suc before) low high = let there = inside-phase phases before (omega (arith, high)) in (before, there.0, (let e : suc before ≡ before + 1 = omega arith in e), there.1)
  where
    inside-phase : (all : List Phase) (n : ℕ) → n < length all → (one : Phase) × (slice_get all n ≡ Some one)
    inside-phase [] n less = absurd (omega (arith, less))
    inside-phase (x ∷ all) zero less = (x, refl)
    inside-phase (x ∷ all) (suc n) less = inside-phase all n (omega (arith, less))

-- where all of some runs are there, so is the next one
pub have-next : (design : FlatDesign) (phase : Phase) (runs : List RunEnd) (count : ℕ) (run : RunEnd) (old between : ProcessesKept) → count < length runs → run ≡ get_or runs count run →
    HaveRuns design phase (map run_process runs) old → AreRunsTaken design phase (map run_process (take count runs)) old between → HaveRuns design phase (run_process run ∷ []) between
have-next design phase runs count run old between low is have taken p less =
    let all : get_or old.ran p 0 + count_of p (map run_process runs) ≤ length (process_runs (good_machine design) p phase) = have p less in
    let now : get_or between.ran p 0 ≡ get_or old.ran p 0 + count_of p (map run_process (take count runs)) = taken.ran p less in
    let one : count_of p (map run_process (take count runs) ++ run_process run ∷ []) ≡ count_of p (map run_process (take count runs)) + count_of p (run_process run ∷ []) =
    count-append p (map run_process (take count runs)) (run_process run ∷ []) in
    let some : count_of p (map run_process (take count runs) ++ run_process run ∷ []) ≤ count_of p (map run_process runs) =
    subst (λ l. count_of p l ≤ count_of p (map run_process runs)) (map-take (count + 1) runs ∙ take-next runs count run low is) (count-take p (map run_process runs) (count + 1)) in
    omega (arith, all, now, one, some)
  where
    map-take : (n : ℕ) (rs : List RunEnd) → take n (map run_process rs) ≡ map run_process (take n rs)
    map-take zero rs = refl
    map-take (suc n) [] = refl
    map-take (suc n) (r ∷ rs) = ap (λ l. run_process r ∷ l) (map-take n rs)
