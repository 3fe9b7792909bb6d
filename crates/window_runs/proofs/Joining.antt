-- The ends of the runs of some phases and of others behind them.
use Rattle.std.proofs.Common.{◌≡◌, ℕ, zero, suc, ◌+◌, ◌<◌, Bool, true, false, ◌&&◌, cond, List, [], ◌∷◌, ◌++◌, map, length, refl, sym, ap, subst, ◌∙◌, ◌⊎◌, inl, inr, arith, append_assoc, append-nil}
use Rattle.std.proofs.Common.{length-append}
use Rattle.std.specs.Prelude.{◌≢◌, All, Some, nat_eq, slice_get}
use Rattle.std.proofs.lemmas.Bool.{eqb-true, eq-eqb}
use Rattle.std.proofs.lemmas.List.{map-append}
use Rattle.std.proofs.lemmas.List.Elements.{All-append, All-map, filter-append}
use Rattle.vf_base.specs.Base.{process_number}
use Rattle.vf_base.specs.Lists.{joined, map_numbered, AllHold}
use Rattle.v_design.specs.Designs.{Machine}
use Rattle.v_design.specs.Grades.{Phase}
use Rattle.v_design.specs.OwnSteps.{process_runs}
use Rattle.process_code.specs.RunEnds.{told_by}
use Rattle.process_code.specs.declared.code.Code.{Code}
use Rattle.process_code.specs.declared.state.RunEnd.{RunEnd}
use Rattle.run_ends.specs.RunEnds.{told_of, is_end_of, ends_of, Ender, ender_told, enders_in, phase_enders, IsEndWithin, AreRunEnds}
use Rattle.trace_window.specs.Rising.{RisesBy, rises-by, rises-weaken}
use Rattle.window_runs.specs.RunsByProcess.{run_phase, numbered_from}
use Rattle.window_runs.specs.RunLaws.{EndsJoin, EndsAscend}
use Rattle.window_runs.proofs.Parting.{AreParted, parted, part-none}

-- Ascending phases

pub numbered : (n : ℕ) (processes : List ℕ) → AllHold (λ (e : Ender). e.phase ≡ n) (map (λ (p : ℕ). record { phase = n; process = p }) processes)
numbered n [] = tt
numbered n (p ∷ processes) = (refl, numbered n processes)

-- the ends of some phases stand phase by phase
pub ends-parted : (codes : List Code) (machine : Machine) (phases : List Phase) (runs : List RunEnd) → AreRunEnds codes machine phases runs → AreParted run_phase 1 (length phases) runs
ends-parted codes machine phases runs r =
    parted ender_told (λ (e : Ender). e.phase) (phase_enders machine) (λ n phase. numbered n (enders_in machine phase.begins phase.events)) 1 phases runs r.order

front-rises : {A : Type 0} (key : A → ℕ) (first : ℕ) (front rest : List A) → AllHold (λ x. key x ≡ first) front → RisesBy key (first + 1) rest → RisesBy key first (front ++ rest)
front-rises key first [] rest h k = rises-weaken key first (first + 1) rest (omega arith) k
front-rises key first (x ∷ front) rest h k = (omega (arith, h.0), subst (λ n. RisesBy key n (front ++ rest)) (sym h.0) (front-rises key first front rest h.1 k))

parted-rises : {A : Type 0} (key : A → ℕ) (first count : ℕ) (xs : List A) → AreParted key first count xs → RisesBy key first xs
parted-rises key first zero xs h = subst (λ l. RisesBy key first l) (sym h) tt
parted-rises key first (suc count) xs h = subst (λ l. RisesBy key first l) (sym h.1.1.0) (front-rises key first h.0 h.1.0 h.1.1.1 (parted-rises key (first + 1) count h.1.0 h.1.1.2))

pub ends_ascend : EndsAscend
ends_ascend codes machine phases runs r =
    (rises-by run_phase 1 runs (parted-rises run_phase 1 (length phases) runs (ends-parted codes machine phases runs r)), λ k d low. (r.within k d low).process)

-- The order of those that are numbered on

pub numbered-append : {A B : Type 0} (f : ℕ → A → B) (n : ℕ) (xs ys : List A) → map_numbered f n (xs ++ ys) ≡ map_numbered f n xs ++ map_numbered f (n + length xs) ys
numbered-append f n [] ys = let e : n ≡ n + 0 = omega arith in ap (λ k. map_numbered f k ys) e
numbered-append f n (x ∷ xs) ys =
    ap (λ l. f n x ∷ l) (numbered-append f (n + 1) xs ys ∙ (let e : n + 1 + length xs ≡ n + suc (length xs) = omega arith in ap (λ k. map_numbered f (n + 1) xs ++ map_numbered f k ys) e))

pub joined-append : {A : Type 0} (xs ys : List (List A)) → joined (xs ++ ys) ≡ joined xs ++ joined ys
joined-append [] ys = refl
joined-append (x ∷ xs) ys = ap (λ l. x ++ l) (joined-append xs ys) ∙ sym (append_assoc x (joined xs) (joined ys))

abbrev later_ender : ℕ → Ender → Ender
later_ender count e = record e { phase = e.phase + count }

enders-later : (count n : ℕ) (processes : List ℕ) → map (later_ender count) (map (λ (p : ℕ). record { phase = n; process = p }) processes) ≡ map
    (λ (p : ℕ). record { phase = n + count; process = p }) processes
enders-later count n [] = refl
enders-later count n (p ∷ processes) = ap (λ l. record { phase = n + count; process = p } ∷ l) (enders-later count n processes)

order-later : (machine : Machine) (count n : ℕ) (phases : List Phase) →
    map (later_ender count) (joined (map_numbered (phase_enders machine) n phases)) ≡ joined (map_numbered (phase_enders machine) (n + count) phases)
order-later machine count n [] = refl
order-later machine count n (phase ∷ phases) =
    map-append (later_ender count) (phase_enders machine n phase) (joined (map_numbered (phase_enders machine) (n + 1) phases))
    ∙ (λ i. enders-later count n (enders_in machine phase.begins phase.events) i ++ order-later machine count (n + 1) phases i)
    ∙ (let e : n + 1 + count ≡ n + count + 1 = omega arith in ap (λ k. phase_enders machine (n + count) phase ++ joined (map_numbered (phase_enders machine) k phases)) e)

told-later : (count : ℕ) (runs : List RunEnd) → map ender_told (map (numbered_from count) runs) ≡ map (later_ender count) (map ender_told runs)
told-later count [] = refl
told-later count (run ∷ runs) = ap (λ l. later_ender count (ender_told run) ∷ l) (told-later count runs)

-- What is told of each phase

all-hold : {A : Type 0} (P : A → Type 0) (xs : List A) → All P xs → AllHold P xs
all-hold P [] h = tt
all-hold P (x ∷ xs) h = (h 0 x (omega arith), all-hold P xs (λ k d low. h (suc k) d (omega arith)))

no-ends : (number process : ℕ) (runs : List RunEnd) → AllHold (λ (run : RunEnd). run.phase ≢ number) runs → ends_of number process runs ≡ []
no-ends number process runs h = part-none run_phase number (λ (run : RunEnd). nat_eq (process_number run.process) process) runs h

same-test : (a b c : ℕ) → nat_eq (a + c) (b + c) ≡ nat_eq a b
same-test a b c = go (nat_eq a b) refl
  where
    go : (t : Bool) → nat_eq a b ≡ t → nat_eq (a + c) (b + c) ≡ t
    go true e = eq-eqb (a + c) (b + c) (ap (λ n. n + c) (eqb-true a b e))
    go false e = other (nat_eq (a + c) (b + c)) refl
      where
        other : (u : Bool) → nat_eq (a + c) (b + c) ≡ u → u ≡ false
        other false f = refl
        other true f =
            let sums : a + c ≡ b + c = eqb-true (a + c) (b + c) f in
            let same : a ≡ b = omega arith in
            let clash : true ≡ false = sym (eq-eqb a b same) ∙ e in cc

ends-later : (count number process : ℕ) (runs : List RunEnd) → ends_of (number + count) process (map (numbered_from count) runs) ≡ map (numbered_from count) (ends_of number process runs)
ends-later count number process [] = refl
ends-later count number process (run ∷ runs) = ap (λ t. one (t && nat_eq (process_number run.process) process)) (same-test run.phase number count)
    ∙ go (nat_eq run.phase number && nat_eq (process_number run.process) process) (ends-later count number process runs)
  where
    one : Bool → List RunEnd
    one t = cond t (numbered_from count run ∷ ends_of (number + count) process (map (numbered_from count) runs)) (ends_of (number + count) process (map (numbered_from count) runs))

    go : (t : Bool) → ends_of (number + count) process (map (numbered_from count) runs) ≡ map (numbered_from count) (ends_of number process runs) →
        one t ≡ map (numbered_from count) (cond t (run ∷ ends_of number process runs) (ends_of number process runs))
    go true rest = ap (λ l. numbered_from count run ∷ l) rest
    go false rest = rest

code-tells : (count : ℕ) (code : Code) (runs : List RunEnd) → map (told_by code) (map (numbered_from count) runs) ≡ map (told_by code) runs
code-tells count code [] = refl
code-tells count code (run ∷ runs) = ap (λ l. told_by code run ∷ l) (code-tells count code runs)

-- an element of two lists in a row
get-cases : (xs ys : List Phase) (number : ℕ) (phase : Phase) → slice_get (xs ++ ys) number ≡ Some phase →
    (number < length xs → slice_get xs number ≡ Some phase) × ((k : ℕ) → number ≡ k + length xs → slice_get ys k ≡ Some phase)
get-cases [] ys number phase here = (λ low. absurd (omega arith), λ k is. (let e : k ≡ number = omega (arith, is) in ap (λ n. slice_get ys n) e) ∙ here)
get-cases (x ∷ xs) ys zero phase here = (λ low. here, λ k is. absurd (omega (arith, is)))
get-cases (x ∷ xs) ys (suc number) phase here =
    let rest = get-cases xs ys number phase here in
    (λ low. rest.0 (omega arith), λ k is. rest.1 k (omega (arith, is)))

below-or : (a b : ℕ) → (a < b) ⊎ ((k : ℕ) × (a ≡ k + b))
below-or a zero = inr (a, omega arith)
below-or zero (suc b) = inl (omega arith)
below-or (suc a) (suc b) = elim (below-or a b) [ inl low ↦ inl (omega (arith, low)) | inr past ↦ inr (past.0, (let h : a ≡ past.0 + b = past.1 in omega arith)) ]

pub ends_join : EndsJoin
ends_join codes machine phases more runs others r s = record {
  within =
      All-append (IsEndWithin codes (length (phases ++ more))) runs (map (numbered_from count) others)
      (λ k d low. let w = r.within k d low in record { first = w.first; last = omega (arith, long, w.last); process = w.process; state = w.state; steps = w.steps })
      (All-map (IsEndWithin codes (length (phases ++ more))) (numbered_from count) others
      (λ k d low. let w = s.within k d low in record { first = omega (arith, w.first); last = omega (arith, long, w.last); process = w.process; state = w.state; steps = w.steps }));
  order =
      map-append ender_told runs (map (numbered_from count) others)
      ∙ (λ i. r.order i ++ (told-later count others ∙ ap (map (later_ender count)) s.order ∙ order-later machine count 1 more) i)
      ∙ sym (joined-append (map_numbered (phase_enders machine) 1 phases) (map_numbered (phase_enders machine) (1 + count) more))
      ∙ ap joined (sym (numbered-append (phase_enders machine) 1 phases more));
  told = λ number process phase code here is. elim (below-or number count) [
    | inl low ↦ front number process phase code ((get-cases phases more number phase here).0 low) is low
    | inr past ↦ behind number past.0 past.1 process phase code ((get-cases phases more number phase here).1 past.0 past.1) is
  ];
}
  where
    count : ℕ
    count = length phases

    long : length (phases ++ more) ≡ length phases + length more
    long = length-append phases more

    front : (number process : ℕ) (phase : Phase) (code : Code) → slice_get phases number ≡ Some phase → slice_get codes process ≡ Some code → number < length phases →
        map (told_by code) (ends_of (number + 1) process (runs ++ map (numbered_from (length phases)) others)) ≡ map (told_of phase.begins.time) (process_runs machine process phase)
    front number process phase code here is low =
        ap (map (told_by code))
        (filter-append (is_end_of (number + 1) process) runs (map (numbered_from (length phases)) others)
        ∙ ap (λ l. ends_of (number + 1) process runs ++ l)
        (no-ends (number + 1) process (map (numbered_from (length phases)) others)
        (all-hold (λ (run : RunEnd). run.phase ≢ number + 1) (map (numbered_from (length phases)) others)
        (All-map (λ (run : RunEnd). run.phase ≢ number + 1) (numbered_from (length phases)) others (λ k d below same. let w = (s.within k d below).first in absurd (omega (arith, w, same, low))))))
        ∙ append-nil (ends_of (number + 1) process runs))
        ∙ r.told number process phase code here is

    behind : (number k : ℕ) → number ≡ k + length phases → (process : ℕ) (phase : Phase) (code : Code) → slice_get more k ≡ Some phase → slice_get codes process ≡ Some code →
        map (told_by code) (ends_of (number + 1) process (runs ++ map (numbered_from (length phases)) others)) ≡ map (told_of phase.begins.time) (process_runs machine process phase)
    behind number k at process phase code here is =
        ap (map (told_by code))
        (filter-append (is_end_of (number + 1) process) runs (map (numbered_from (length phases)) others)
        ∙ ap (λ l. l ++ ends_of (number + 1) process (map (numbered_from (length phases)) others))
        (no-ends (number + 1) process runs (all-hold (λ (run : RunEnd). run.phase ≢ number + 1) runs (λ j d below same. let w = (r.within j d below).last in absurd (omega (arith, w, same, at)))))
        ∙ (let e : number + 1 ≡ k + 1 + length phases = omega (arith, at) in ap (λ n. ends_of n process (map (numbered_from (length phases)) others)) e)
        ∙ ends-later (length phases) (k + 1) process others)
        ∙ code-tells (length phases) code (ends_of (k + 1) process others) ∙ s.told k process phase code here is
