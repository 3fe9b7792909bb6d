-- The runs in the first phases, by how many they are.
use Rattle.std.proofs.Common.{◌≡◌, ℕ, zero, suc, ◌+◌, ◌-◌, ◌<◌, ◌≤◌, Bool, true, false, List, [], ◌∷◌, ◌++◌, map, length, get_or, take, refl, sym, ap, subst, ◌∙◌, inl, inr, arith, append_assoc}
use Rattle.std.specs.Prelude.{Option, Some, None, nat_eq, nat_le, slice_get}
use Rattle.std.specs.List.{between}
use Rattle.std.specs.Option.{option_to_list}
use Rattle.std.proofs.lemmas.Bool.{leb-true, leb-false}
use Rattle.std.proofs.lemmas.List.{length-map, length-take-le, map-append, take-take, take-append-drop}
use Rattle.std.proofs.lemmas.Option.{slice_get_cases}
use Rattle.std.proofs.lemmas.Slice.{between_is}
use Rattle.vf_base.specs.Lists.{joined}
use Rattle.v_design.specs.Plain.{due_of}
use Rattle.v_design.specs.States.{LaterUpdate}
use Rattle.process_code.specs.declared.state.RunEnd.{RunEnd}
use Rattle.between_slots.specs.Updates.{due_after}
use Rattle.between_slots.specs.UpdateLaws.{due-append}
use Rattle.window_runs.specs.declared.index.RunIndex.{RunIndex}
use Rattle.window_runs.specs.RunsByProcess.{run_process, run_phase, runs_of_process, IsRunIndexOf}
use Rattle.window_runs.specs.Through.{runs_through, appended_of}
use Rattle.window_runs.proofs.Picking.{front-is, filter-swap}
use Rattle.window_runs.proofs.Finding.{phases-are}
use Rattle.window_runs.proofs.Joining.{joined-append}

-- Those of a process

pub own-front : (runs : List RunEnd) (index : RunIndex) (limit process phase count : ℕ) → IsRunIndexOf limit runs index → process < limit → count ≤ length (get_or index.phases process []) →
    ((place : ℕ) → place < count → get_or (get_or index.phases process []) place 0 ≤ phase) →
    ((place : ℕ) → count ≤ place → place < length (get_or index.phases process []) → phase < get_or (get_or index.phases process []) place 0) →
    runs_of_process process (runs_through phase runs) ≡ take count (runs_of_process process runs)
own-front runs index limit process phase count had low within before behind =
    let own = runs_of_process process runs in
    let are = phases-are runs index limit process had low in
    let long : length (get_or index.phases process []) ≡ length own = ap length are ∙ length-map own run_phase in
    filter-swap (λ (run : RunEnd). nat_eq (run_process run) process) (λ (run : RunEnd). nat_le (run_phase run) phase) runs
    ∙ front-is run_phase phase own count (omega (arith, within, long)) (λ k less. subst (λ l. get_or l k 0 ≤ phase) are (before k less))
    (λ k more inside. subst (λ l. phase < get_or l k 0) are (behind k more (omega (arith, inside, long))))

pub own-within : (runs : List RunEnd) (index : RunIndex) (limit process count : ℕ) → IsRunIndexOf limit runs index → process < limit → count ≤ length (get_or index.phases process []) →
    count ≤ length (runs_of_process process runs)
own-within runs index limit process count had low within =
    let own = runs_of_process process runs in
    let long : length (get_or index.phases process []) ≡ length own = ap length (phases-are runs index limit process had low) ∙ length-map own run_phase in
    omega (arith, within, long)

get-take : {A : Type 0} (xs : List A) (n place : ℕ) → place < n → slice_get (take n xs) place ≡ slice_get xs place
get-take xs zero place low = absurd (omega (arith, low))
get-take [] (suc n) place low = refl
get-take (x ∷ xs) (suc n) zero low = refl
get-take (x ∷ xs) (suc n) (suc place) low = get-take xs n place (omega (arith, low))

-- the last of the first so many
pub last-front : {A : Type 0} (own front : List A) (count : ℕ) → front ≡ take count own → 0 < count → count ≤ length own → slice_get own (count - 1) ≡ slice_get front (length front - 1)
last-front own front count is some within =
    let long : length (take count own) ≡ count = length-take-le count own within in
    let low : count - 1 < count = omega (arith, some) in
    sym (get-take own count (count - 1) low) ∙ ap (λ n. slice_get (take count own) (n - 1)) (sym long) ∙ ap (λ l. slice_get l (length l - 1)) (sym is)

pub no-front : {A : Type 0} (own front : List A) (count : ℕ) → front ≡ take count own → count ≡ 0 → ◌≡◌ {A = Option A} None (slice_get front (length front - 1))
no-front own front count is none = sym (ap (λ l. slice_get l (length l - 1)) (is ∙ ap (λ n. take n own) none))

-- Those of all processes

pub front-of : (runs : List RunEnd) (phase count : ℕ) → count ≤ length runs → ((place : ℕ) (run : RunEnd) → place < count → slice_get runs place ≡ Some run → run.phase ≤ phase) →
    ((place : ℕ) (run : RunEnd) → count ≤ place → slice_get runs place ≡ Some run → phase < run.phase) → runs_through phase runs ≡ take count runs
front-of runs phase count within before behind =
    front-is run_phase phase runs count within
    (λ k less. mapped-get run_phase (λ n. n ≤ phase) runs k (omega (arith, less, within)) (λ run here. before k run less here))
    (λ k more inside. mapped-get run_phase (λ n. phase < n) runs k inside (λ run here. behind k run more here))
  where
    mapped-get : {A : Type 0} (key : A → ℕ) (P : ℕ → Type 0) (xs : List A) (k : ℕ) → k < length xs → ((x : A) → slice_get xs k ≡ Some x → P (key x)) → P (get_or (map key xs) k 0)
    mapped-get key P [] k low h = absurd (omega (arith, low))
    mapped-get key P (x ∷ xs) zero low h = h x refl
    mapped-get key P (x ∷ xs) (suc k) low h = mapped-get key P xs k (omega (arith, low)) h

-- as many are in the phases up to a later one, or more
pub counts-rise : (runs : List RunEnd) (after through first end : ℕ) → after ≤ through → first ≤ length runs →
    ((place : ℕ) (run : RunEnd) → place < first → slice_get runs place ≡ Some run → run.phase ≤ after) →
    ((place : ℕ) (run : RunEnd) → end ≤ place → slice_get runs place ≡ Some run → through < run.phase) → first ≤ end
counts-rise runs after through first end order within before behind = elim (slice_get_cases runs end).1 [
  | inl found ↦ go found.0 found.2 (nat_le first end) refl
  | inr past ↦ omega (arith, past.0, within)
]
  where
    go : (run : RunEnd) → slice_get runs end ≡ Some run → (b : Bool) → nat_le first end ≡ b → first ≤ end
    go run here true e = leb-true first end e
    go run here false e =
        let less : end < first = leb-false first end e in
        let early : run.phase ≤ after = before end run less here in
        let late : through < run.phase = behind end run (omega arith) here in
        absurd (omega (arith, early, late, order))

pub between-fronts : (runs first_runs end_runs : List RunEnd) (first end : ℕ) → first ≤ end → first_runs ≡ take first runs → end_runs ≡ take end runs →
    first_runs ++ between first end runs ≡ end_runs
between-fronts runs first_runs end_runs first end order is all =
    ap (λ l. l ++ between first end runs) (is ∙ sym (take-take first end runs order))
    ∙ ap (λ l. take first (take end runs) ++ l) (between_is runs first end) ∙ take-append-drop first (take end runs) ∙ sym all

-- Their updates

pub appended-join : (xs ys : List RunEnd) → appended_of (xs ++ ys) ≡ appended_of xs ++ appended_of ys
appended-join xs ys =
    ap joined (map-append (λ (run : RunEnd). map due_of run.later) xs ys)
    ∙ joined-append (map (λ (run : RunEnd). map due_of run.later) xs) (map (λ (run : RunEnd). map due_of run.later) ys)

take-next : {A : Type 0} (xs : List A) (place : ℕ) → take (suc place) xs ≡ take place xs ++ option_to_list (slice_get xs place)
take-next [] zero = refl
take-next [] (suc place) = refl
take-next (x ∷ xs) zero = refl
take-next (x ∷ xs) (suc place) = ap (λ l. x ∷ l) (take-next xs place)

-- one run more
pub updates-more : (own : List RunEnd) (place time : ℕ) (first updates more : List LaterUpdate) → updates ≡ first ++ due_after time (appended_of (take place own)) →
    more ≡ updates ++ due_after time (appended_of (option_to_list (slice_get own place))) → more ≡ first ++ due_after time (appended_of (take (place + 1) own))
updates-more own place time first updates more had is =
    is ∙ ap (λ l. l ++ due_after time (appended_of (option_to_list (slice_get own place)))) had
    ∙ append_assoc first (due_after time (appended_of (take place own))) (due_after time (appended_of (option_to_list (slice_get own place))))
    ∙ ap (λ l. first ++ l)
    (sym (due-append time (appended_of (take place own)) (appended_of (option_to_list (slice_get own place))))
    ∙ ap (due_after time)
    (sym (appended-join (take place own) (option_to_list (slice_get own place)))
    ∙ ap appended_of (sym (take-next own place) ∙ (let e : suc place ≡ place + 1 = omega arith in ap (λ n. take n own) e))))
