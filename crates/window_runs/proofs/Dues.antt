-- The latest times at which updates of runs are due.
use Rattle.std.proofs.Common.{◌≡◌, ℕ, zero, suc, ◌+◌, ◌-◌, ◌<◌, ◌≤◌, Bool, true, false, not, cond, List, [], ◌∷◌, ◌++◌, map, length, get_or, set, take, below_more, refl, sym, ap, subst, ◌∙◌, inl, inr, arith}
use Rattle.std.specs.Prelude.{Some, filter, nat_eq, replicate, slice_get}
use Rattle.std.proofs.lemmas.Bool.{cases_lt, eqb-true, le-leb}
use Rattle.std.proofs.lemmas.List.{get_or_append_left, get_or_push, length-map, take_all}
use Rattle.std.proofs.lemmas.List.Kept.{IsNonDecreasingBy-filter}
use Rattle.std.proofs.lemmas.Option.{same_Some, slice_get_cases, slice_get_within}
use Rattle.vf_base.specs.Lists.{AllHold}
use Rattle.v_design.specs.Plain.{due_of}
use Rattle.v_design.specs.declared.plan.Due.{Due}
use Rattle.process_code.specs.declared.state.RunEnd.{RunEnd}
use Rattle.between_slots.specs.Updates.{due_after}
use Rattle.between_slots.specs.UpdateLaws.{due-append}
use Rattle.window_index.specs.Moments.{is_of, moment_of, moments_of}
use Rattle.window_runs.specs.Placed.{at_places}
use Rattle.window_runs.specs.RunsByProcess.{IsRunIndexOf, run_phase, run_process, runs_of_process}
use Rattle.window_runs.specs.Through.{appended_of}
use Rattle.window_runs.specs.declared.index.RunIndex.{RunIndex}
use Rattle.window_runs.proofs.Finding.{keys-rise, phases-are, places-rise}
use Rattle.window_runs.proofs.Picking.{own-count, own-places}

-- Times

-- all are due by a time, and so by a later one
abbrev pub DueBy : ℕ → List Due → Type 0
DueBy time = AllHold (λ (due : Due). due.time ≤ time)

pub due-later : (time later : ℕ) (dues : List Due) → time ≤ later → DueBy time dues → DueBy later dues
due-later time later [] order all = tt
due-later time later (due ∷ dues) order all = (let one : due.time ≤ time = all.0 in omega (arith, one, order), due-later time later dues order all.1)

pub due-push : (time : ℕ) (dues : List Due) (due : Due) → due.time ≤ time → DueBy time dues → DueBy time (dues ++ due ∷ [])
due-push time [] due low all = (low, tt)
due-push time (other ∷ dues) due low all = (all.0, due-push time dues due low all.1)

-- Lists of times

get-zeros : (times : List ℕ) (count place : ℕ) → get_or (times ++ replicate count 0) place 0 ≡ get_or times place 0
get-zeros [] zero place = refl
get-zeros [] (suc count) zero = refl
get-zeros [] (suc count) (suc place) = get-zeros [] count place
get-zeros (time ∷ times) count zero = refl
get-zeros (time ∷ times) count (suc place) = get-zeros times count place

-- zeros behind a list change nothing
pub get-longer : (times longer : List ℕ) (size count place : ℕ) → length times ≤ size → longer ≡ take size times ++ replicate count 0 → get_or longer place 0 ≡ get_or times place 0
get-longer times longer size count place all is =
    ap (λ l. get_or l place 0) (is ∙ ap (λ l. l ++ replicate count 0) (take_all size times all)) ∙ get-zeros times count place

-- a greater time at one place
pub set-rises : (times : List ℕ) (at time place : ℕ) → get_or times at 0 ≤ time → get_or times place 0 ≤ get_or (set times at time) place 0
set-rises [] at time place low = omega arith
set-rises (first ∷ times) zero time zero low = low
set-rises (first ∷ times) zero time (suc place) low = omega arith
set-rises (first ∷ times) (suc at) time zero low = omega arith
set-rises (first ∷ times) (suc at) time (suc place) low = set-rises times at time place low

-- One run more

module _ (runs : List RunEnd) (i : ℕ) (run : RunEnd) (low : i < length runs) (here : slice_get runs i ≡ Some run) (highest wider latest more : List ℕ) (time : ℕ)
    (kept : (place : ℕ) (other : RunEnd) → place < i → slice_get runs place ≡ Some other → DueBy (get_or highest (run_process other) 0) other.later)
    (rise : (process : ℕ) → get_or highest process 0 ≤ get_or wider process 0) (time_is : get_or wider (run_process run) 0 ≡ time) (all : DueBy time run.later) where
  run-is : (other : RunEnd) → slice_get runs i ≡ Some other → run ≡ other
  run-is other there = same_Some run other (sym here ∙ there)

  pub kept-more : (place : ℕ) (other : RunEnd) → place < i + 1 → slice_get runs place ≡ Some other → DueBy (get_or wider (run_process other) 0) other.later
  kept-more place other below there =
      below_more (λ (k : ℕ). (one : RunEnd) → slice_get runs k ≡ Some one → DueBy (get_or wider (run_process one) 0) one.later) i
      (λ k less one stands. due-later (get_or highest (run_process one) 0) (get_or wider (run_process one) 0) one.later (rise (run_process one)) (kept k one less stands))
      (λ one stands. subst (λ (r : RunEnd). DueBy (get_or wider (run_process r) 0) r.later) (run-is one stands) (subst (λ n. DueBy n run.later) (sym time_is) all)) place below other there

  abbrev Bounds : ℕ → List ℕ → Type 0
  Bounds k times =
      (earlier : ℕ) (one other : RunEnd) → earlier ≤ k → slice_get runs k ≡ Some one → slice_get runs earlier ≡ Some other → run_process other ≡ run_process one →
      DueBy (get_or times k 0) other.later

  module _ (count : length latest ≡ i) (bounds : (place : ℕ) → place < i → Bounds place latest) (more_is : more ≡ latest ++ time ∷ []) where
    front : (k : ℕ) → k < i → Bounds k more
    front k less earlier one other order stands there same =
        subst (λ n. DueBy n other.later) (sym (ap (λ l. get_or l k 0) more_is ∙ get_or_append_left latest (time ∷ []) 0 k (omega (arith, less, count))))
        (bounds k less earlier one other order stands there same)

    last : Bounds i more
    last earlier one other order stands there same =
        subst (λ n. DueBy n other.later) (sym (ap (λ l. get_or l i 0) more_is ∙ get_or_push latest time 0 i count))
        (elim (cases_lt earlier i) [
          | inl less ↦
              let up : get_or highest (run_process other) 0 ≤ get_or wider (run_process other) 0 = rise (run_process other) in
              let is : get_or wider (run_process other) 0 ≡ time = ap (λ p. get_or wider p 0) (same ∙ ap run_process (sym (run-is one stands))) ∙ time_is in
              due-later (get_or highest (run_process other) 0) time other.later (omega (arith, up, is)) (kept earlier other less there)
          | inr past ↦
              let at : earlier ≡ i = omega (arith, order, past) in
              subst (λ (r : RunEnd). DueBy time r.later) (run-is other (subst (λ n. slice_get runs n ≡ Some other) at there)) all
        ])

    pub bounds-more : (place : ℕ) → place < i + 1 → Bounds place more
    bounds-more = below_more (λ (k : ℕ). Bounds k more) i front last

-- Runs that append nothing late

none-late : (time : ℕ) (dues : List Due) → DueBy time dues → due_after time (map due_of dues) ≡ []
none-late time [] all = refl
none-late time (due ∷ dues) all =
    ap (λ b. cond (not b) (due_of due ∷ due_after time (map due_of dues)) (due_after time (map due_of dues))) (le-leb due.time time all.0) ∙ none-late time dues all.1

pub all-early : (time : ℕ) (runs : List RunEnd) → ((k : ℕ) (run : RunEnd) → slice_get runs k ≡ Some run → DueBy time run.later) → due_after time (appended_of runs) ≡ []
all-early time [] each = refl
all-early time (run ∷ runs) each =
    due-append time (map due_of run.later) (appended_of runs)
    ∙ (λ i. none-late time run.later (each 0 run refl) i ++ all-early time runs (λ k other there. each (suc k) other there) i)

-- what stands in the first part of a list
at-take : {A : Type 0} (xs : List A) (n k : ℕ) (x : A) → slice_get (take n xs) k ≡ Some x → (k < n) × (slice_get xs k ≡ Some x)
at-take xs zero k x there = cc
at-take [] (suc n) k x there = cc
at-take (y ∷ xs) (suc n) zero x there = (omega arith, there)
at-take (y ∷ xs) (suc n) (suc k) x there = let rest = at-take xs n k x there in (omega (arith, rest.0), rest.1)

-- those of a process are of it
own-is : (process : ℕ) (runs : List RunEnd) (k : ℕ) (run : RunEnd) → slice_get (runs_of_process process runs) k ≡ Some run → run_process run ≡ process
own-is process [] k run there = cc
own-is process (first ∷ runs) k run there = go (nat_eq (run_process first) process) refl k there (λ j is. own-is process runs j run is)
  where
    go : (b : Bool) → nat_eq (run_process first) process ≡ b → (j : ℕ) → slice_get (cond b (first ∷ runs_of_process process runs) (runs_of_process process runs)) j ≡ Some run →
        ((j : ℕ) → slice_get (runs_of_process process runs) j ≡ Some run → run_process run ≡ process) → run_process run ≡ process
    go true e zero is rest = ap run_process (sym (same_Some first run is)) ∙ eqb-true (run_process first) process e
    go true e (suc j) is rest = rest j is
    go false e j is rest = rest j is

module _ (runs : List RunEnd) (index : RunIndex) (limit process : ℕ) (had : IsRunIndexOf limit runs index) (low : process < limit) where
  abbrev pub places : List ℕ
  places = get_or index.places process []

  places-are : places ≡ moments_of (at_places run_process 0 runs) process
  places-are = had.places_are.moments process low

  -- the run at a place of those of the process stands among all at its place
  pub stands-there : (k : ℕ) (run : RunEnd) → slice_get (runs_of_process process runs) k ≡ Some run → slice_get runs (get_or places k 0) ≡ Some run
  stands-there k run there =
      let own = own-places run_process process 0 runs k (slice_get_within (runs_of_process process runs) k run there) in
      let at : get_or places k 0 ≡ get_or (moments_of (at_places run_process 0 runs) process) k 0 - 0 =
      ap (λ l. get_or l k 0) places-are ∙ (let e : get_or (moments_of (at_places run_process 0 runs) process) k 0 ≡ get_or (moments_of (at_places run_process 0 runs) process) k 0 - 0 = omega arith in e) in
      ap (slice_get runs) at ∙ own.is ∙ there

  -- a place of it has a time
  pub place-has : (k : ℕ) → k < length places → get_or places k 0 < length index.latest.items
  place-has k less =
      let long : length places ≡ length (runs_of_process process runs) = ap length places-are ∙ own-count run_process process 0 runs in
      elim (slice_get_cases (runs_of_process process runs) k).1 [
        | inl found ↦
            let high = slice_get_within runs (get_or places k 0) found.0 (stands-there k found.0 found.2) in
            let count = had.latest_are.count in
            omega (arith, high, count)
        | inr past ↦ absurd (omega (arith, past.0, long, less))
      ]

  -- it has as many phases as places
  pub same-counts : length (get_or index.phases process []) ≡ length places
  same-counts =
      ap length (phases-are runs index limit process had low) ∙ length-map (runs_of_process process runs) run_phase ∙ sym (own-count run_process process 0 runs) ∙ sym (ap length places-are)

  places-rise-there : (i j : ℕ) → i ≤ j → j < length places → get_or places i 0 ≤ get_or places j 0
  places-rise-there i j order less =
      let occurrences = filter (is_of process) (at_places run_process 0 runs) in
      let up = keys-rise moment_of occurrences (IsNonDecreasingBy-filter moment_of (is_of process) (at_places run_process 0 runs) (places-rise run_process runs)) i j order
      (let long : length places ≡ length occurrences = ap length places-are ∙ length-map occurrences moment_of in omega (arith, long, less)) in
      subst (λ l. get_or l i 0 ≤ get_or l j 0) (sym places-are) up

  -- where the last of so many is known to append nothing late, none of them does
  pub early-none : (time count : ℕ) → count ≤ length places →
      (0 < count → get_or index.latest.items (get_or places (count - 1) 0) 0 ≤ time) → due_after time (appended_of (take count (runs_of_process process runs))) ≡ []
  early-none time zero within early = refl
  early-none time (suc last) within early = all-early time (take (suc last) own) each
    where
      own : List RunEnd
      own = runs_of_process process runs

      long : length places ≡ length own
      long = ap length places-are ∙ own-count run_process process 0 runs

      each : (k : ℕ) (run : RunEnd) → slice_get (take (suc last) own) k ≡ Some run → DueBy time run.later
      each k run there =
          let front = at-take own (suc last) k run there in
          elim (slice_get_cases own last).1 [
            | inl found ↦
                let order : get_or places k 0 ≤ get_or places last 0 = places-rise-there k last (let less = front.0 in omega (arith, less)) (omega (arith, within)) in
                let same : run_process run ≡ run_process found.0 = own-is process runs k run front.1 ∙ sym (own-is process runs last found.0 found.2) in
                let by : get_or index.latest.items (get_or places last 0) 0 ≤ time =
                (let same_place : suc last - 1 ≡ last = omega arith in subst (λ n. get_or index.latest.items (get_or places n 0) 0 ≤ time) same_place (early (omega arith))) in
                due-later (get_or index.latest.items (get_or places last 0) 0) time run.later by
                (had.latest_are.bounds (get_or places last 0) (get_or places k 0) found.0 run order (stands-there last found.0 found.2) (stands-there k run front.1) same)
            | inr past ↦ absurd (omega (arith, past.0, long, within))
          ]
