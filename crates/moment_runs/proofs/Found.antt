-- The first run of a process among some, and numbers at their places (nothing of the language).
use Rattle.std.proofs.Common.{◌≡◌, ℕ, zero, suc, ◌+◌, ◌-◌, ◌<◌, ◌≤◌, Bool, true, false, ◌||◌, List, [], ◌∷◌, ◌++◌, map, length, get_or, set, take, drop, Vec, Global, refl, sym, ap, ◌∙◌, subst, arith}
use Rattle.std.specs.Prelude.{All, Some, nat_eq, slice_get}
use Rattle.std.proofs.lemmas.Bool.{eq-eqb}
use Rattle.std.proofs.lemmas.List.{length-map, map-append, map-set, length-drop}
use Rattle.vf_base.specs.Lists.{has}
use Rattle.v_design.specs.Plain.{due_of}
use Rattle.v_design.specs.declared.plan.Due.{Due}
use Rattle.process_code.specs.declared.state.RunEnd.{RunEnd}
use Rattle.window_runs.specs.RunsByProcess.{run_process}
use Rattle.moment_parts.specs.Lanes.{later_lists}

-- the first so many have none of a process
pub record HasNone (runs : List RunEnd) (from count process : ℕ) : Type 0 where
  pub none : has (map run_process (take count (drop from runs))) process ≡ false

take-push : {A : Type 0} (xs : List A) (n : ℕ) (x : A) → slice_get xs n ≡ Some x → take (suc n) xs ≡ take n xs ++ x ∷ []
take-push [] n x e = cc
take-push (y ∷ xs) zero x e = let same : y ≡ x = cc in ap (λ z. z ∷ []) same
take-push (y ∷ xs) (suc n) x e = ap (λ l. y ∷ l) (take-push xs n x e)

has-push : (xs : List ℕ) (p q : ℕ) → has xs q ≡ false → nat_eq p q ≡ false → has (xs ++ p ∷ []) q ≡ false
has-push [] p q e f = ap (λ b. b || false) f
has-push (x ∷ xs) p q e f = go (nat_eq x q) e (has-push xs p q)
  where
    go : (b : Bool) → (b || has xs q) ≡ false → (has xs q ≡ false → nat_eq p q ≡ false → has (xs ++ p ∷ []) q ≡ false) → (b || has (xs ++ p ∷ []) q) ≡ false
    go true h rest = cc
    go false h rest = rest h f

dropped : {A : Type 0} (n : ℕ) (xs : List A) (k : ℕ) → slice_get (drop n xs) k ≡ slice_get xs (n + k)
dropped zero xs k = let e : k ≡ 0 + k = omega arith in ap (λ j. slice_get xs j) e
dropped (suc n) [] k = nothing k (suc n + k)
  where
    nothing : {A : Type 0} (i j : ℕ) → slice_get {X = A} [] i ≡ slice_get {X = A} [] j
    nothing zero zero = refl
    nothing zero (suc j) = refl
    nothing (suc i) zero = refl
    nothing (suc i) (suc j) = refl
dropped (suc n) (x ∷ xs) k = dropped n xs k ∙ (let e : suc (n + k) ≡ suc n + k = omega arith in ap (λ j. slice_get (x ∷ xs) j) e)

pub none-more : (runs : List RunEnd) (from count process : ℕ) (run : RunEnd) → slice_get runs (from + count) ≡ Some run → nat_eq (run_process run) process ≡ false → HasNone runs from count process →
    HasNone runs from (suc count) process
none-more runs from count process run here apart before = record {
  none =
      ap (λ l. has (map run_process l) process) (take-push (drop from runs) count run (dropped from runs count ∙ here))
      ∙ ap (λ l. has l process) (map-append run_process (take count (drop from runs)) (run ∷ [])) ∙ has-push (map run_process (take count (drop from runs))) (run_process run) process before.none apart;
}

-- where the first one stands
find-place : (xs others rest : List ℕ) (n process : ℕ) → xs ≡ others ++ process ∷ rest → has others process ≡ false → has (take n xs) process ≡ false → slice_get xs n ≡ Some process → n ≡ length others
find-place [] [] rest n process e none before here = cc
find-place [] (o ∷ others) rest n process e none before here = cc
find-place (x ∷ xs) [] rest zero process e none before here = refl
find-place (x ∷ xs) [] rest (suc n) process e none before here =
    let same : x ≡ process = cc in absurd (clash (nat_eq x process) (has (take n xs) process) (eq-eqb x process same) before)
  where
    clash : (a b : Bool) → a ≡ true → (a || b) ≡ false → ⊥
    clash true b f g = cc
    clash false b f g = cc
find-place (x ∷ xs) (o ∷ others) rest zero process e none before here =
    let one : x ≡ process = cc in
    let two : x ≡ o = cc in
    absurd (clash (nat_eq o process) (has others process) (eq-eqb o process (sym two ∙ one)) none)
  where
    clash : (a b : Bool) → a ≡ true → (a || b) ≡ false → ⊥
    clash true b f g = cc
    clash false b f g = cc
find-place (x ∷ xs) (o ∷ others) rest (suc n) process e none before here =
    let tails : xs ≡ others ++ process ∷ rest = cc in
    let more : n ≡ length others = find-place xs others rest n process tails (right (nat_eq o process) (has others process) none) (right (nat_eq x process) (has (take n xs) process) before) here in
    let l : length (o ∷ others) ≡ suc (length others) = refl in
    omega (arith, more, l)
  where
    right : (a b : Bool) → (a || b) ≡ false → b ≡ false
    right true b f = cc
    right false b f = f

map-take : (n : ℕ) (runs : List RunEnd) → map run_process (take n runs) ≡ take n (map run_process runs)
map-take zero runs = refl
map-take (suc n) [] = refl
map-take (suc n) (r ∷ runs) = ap (λ l. run_process r ∷ l) (map-take n runs)

map-get : (runs : List RunEnd) (n : ℕ) (run : RunEnd) → slice_get runs n ≡ Some run → slice_get (map run_process runs) n ≡ Some (run_process run)
map-get [] n run e = cc
map-get (r ∷ runs) zero run e = let same : r ≡ run = cc in ap (λ x. Some (run_process x)) same
map-get (r ∷ runs) (suc n) run e = map-get runs n run e

pub first-place : (runs : List RunEnd) (from count process : ℕ) (run : RunEnd) (others rest : List ℕ) → slice_get runs (from + count) ≡ Some run → run_process run ≡ process →
    HasNone runs from count process → map run_process (drop from runs) ≡ others ++ process ∷ rest → has others process ≡ false → count ≡ length others
first-place runs from count process run others rest here own before are none =
    find-place (map run_process (drop from runs)) others rest count process are none (ap (λ l. has l process) (sym (map-take count (drop from runs))) ∙ before.none)
    (map-get (drop from runs) count run (dropped from runs count ∙ here) ∙ ap Some own)

-- there is one
pub none-all : (runs : List RunEnd) (from count process : ℕ) → length runs ≤ from + count → HasNone runs from count process → has (map run_process (drop from runs)) process ≡ true → ⊥
none-all runs from count process all before some =
    clash (ap (λ l. has (map run_process l) process) (whole count (drop from runs) (let e : length (drop from runs) ≡ length runs - from = length-drop from runs in omega (arith, e, all))) ∙ some) before.none
  where
    whole : {A : Type 0} (n : ℕ) (xs : List A) → length xs ≤ n → take n xs ≡ xs
    whole zero [] low = refl
    whole (suc n) [] low = refl
    whole zero (x ∷ xs) low = absurd (omega (arith, low))
    whole (suc n) (x ∷ xs) low = ap (λ l. x ∷ l) (whole n xs (omega (arith, low)))

    clash : {b : Bool} → b ≡ true → b ≡ false → ⊥
    clash e f = cc

-- Numbers and lists at a place

pub number-is : (xs : List ℕ) (i x : ℕ) → i < length xs → x ≡ get_or xs i x → get_or xs i 0 ≡ x
number-is [] i x low e = absurd (omega (arith, low))
number-is (y ∷ xs) zero x low e = sym e
number-is (y ∷ xs) (suc i) x low e = number-is xs i x (omega (arith, low)) e

mapped : (lists : List (Vec Due Global)) (place : ℕ) (own : Vec Due Global) → place < length lists → own ≡ get_or lists place own → map due_of own.items ≡ get_or (later_lists lists) place []
mapped [] place own less e = absurd (omega (arith, less))
mapped (l ∷ lists) zero own less e = ap (λ (v : Vec Due Global). map due_of v.items) e
mapped (l ∷ lists) (suc place) own less e = mapped lists place own (omega (arith, less)) e

pub later-low : (lists : List (Vec Due Global)) (p : ℕ) → p < length (later_lists lists) → p < length lists
later-low lists p low = let e : length (later_lists lists) ≡ length lists = length-map lists (λ (l : Vec Due Global). map due_of l.items) in omega (arith, e, low)

-- some updates more of a process
pub later-put : (lists : List (Vec Due Global)) (p : ℕ) (old more : Vec Due Global) (appended : List Due) → p < length lists → old ≡ get_or lists p old → more.items ≡ old.items ++ appended →
    later_lists (set lists p more) ≡ set (later_lists lists) p (get_or (later_lists lists) p [] ++ map due_of appended)
later-put lists p old more appended low is put =
    map-set (λ (l : Vec Due Global). map due_of l.items) lists p more
    ∙ ap (set (later_lists lists) p) (ap (map due_of) put ∙ map-append due_of old.items appended ∙ ap (λ l. l ++ map due_of appended) (mapped lists p old low is))

-- what all of some runs' processes keep one of them keeps
pub all-own : (P : ℕ → Type 0) (runs : List RunEnd) (n : ℕ) (run : RunEnd) → n < length runs → run ≡ get_or runs n run → All P (map run_process runs) → P (run_process run)
all-own P runs n run low is all =
    subst P (at runs n low is) (all n (run_process run) (let e : length (map run_process runs) ≡ length runs = length-map runs run_process in omega (arith, e, low)))
  where
    at : (rs : List RunEnd) (k : ℕ) → k < length rs → run ≡ get_or rs k run → get_or (map run_process rs) k (run_process run) ≡ run_process run
    at [] k less e = refl
    at (r ∷ rs) zero less e = ap run_process (sym e)
    at (r ∷ rs) (suc k) less e = at rs k (omega (arith, less)) e
