-- Laws on the numbers and the lanes of a list.
use Rattle.std.proofs.Common.{◌≡◌, ℕ, zero, suc, ◌+◌, ◌<◌, ◌≤◌, Bool, true, false, ◌||◌, List, [], ◌∷◌, ◌++◌, length, map, refl, sym, ◌∙◌, ap, arith, append_assoc, length-append}
use Rattle.vf_base.specs.Lists.{AllHold, change_at}
use Rattle.v_design.specs.Assignments.{ValueUpdate}
use Rattle.v_design.specs.States.{some_in, is_any}
use Rattle.event_queue.specs.Queues.{HeldProcess, number_if, numbers_where, lane_if, lanes_from}
use Rattle.event_queue.specs.Arranged.{changed_each, Ascends}

-- a weaker fact of each element
pub AllHold-weaker : {A : Type 0} (P Q : A → Type 0) (xs : List A) → ((x : A) → P x → Q x) → AllHold P xs → AllHold Q xs
AllHold-weaker P Q [] f h = tt
AllHold-weaker P Q (x ∷ xs) f h = (f x h.0, AllHold-weaker P Q xs f h.1)

-- what holds of any
pub AllHold-each : {A : Type 0} (P : A → Type 0) → ((x : A) → P x) → (xs : List A) → AllHold P xs
AllHold-each P f [] = tt
AllHold-each P f (x ∷ xs) = (f x, AllHold-each P f xs)

-- Numbers

-- the numbers begin at n
pub numbers_where-from : {A : Type 0} (test : A → Bool) (n : ℕ) (xs : List A) → AllHold (λ y. n ≤ y) (numbers_where test n xs)
numbers_where-from test n [] = tt
numbers_where-from test n (x ∷ xs) =
    let rest = AllHold-weaker (λ y. n + 1 ≤ y) (λ y. n ≤ y) (numbers_where test (n + 1) xs) (λ y h. omega arith) (numbers_where-from test (n + 1) xs) in
    let self : n ≤ n = omega arith in
    elim (test x) as (λ b. AllHold (λ y. n ≤ y) (number_if b n (numbers_where test (n + 1) xs))) [ true ↦ (self, rest) | false ↦ rest ]

-- they ascend
pub numbers_where-Ascends : {A : Type 0} (test : A → Bool) (n : ℕ) (xs : List A) → Ascends (numbers_where test n xs)
numbers_where-Ascends test n [] = tt
numbers_where-Ascends test n (x ∷ xs) =
    let rest = numbers_where-Ascends test (n + 1) xs in
    let above = AllHold-weaker (λ y. n + 1 ≤ y) (λ y. n < y) (numbers_where test (n + 1) xs) (λ y h. omega arith) (numbers_where-from test (n + 1) xs) in
    elim (test x) as (λ b. Ascends (number_if b n (numbers_where test (n + 1) xs))) [ true ↦ (above, rest) | false ↦ rest ]

-- and end before the length
pub numbers_where-below : {A : Type 0} (test : A → Bool) (n : ℕ) (xs : List A) → AllHold (λ y. y < n + length xs) (numbers_where test n xs)
numbers_where-below test n [] = tt
numbers_where-below test n (x ∷ xs) =
    let rest = AllHold-weaker (λ y. y < (n + 1) + length xs) (λ y. y < n + suc (length xs)) (numbers_where test (n + 1) xs) (λ y h. omega arith) (numbers_where-below test (n + 1) xs) in
    let self : n < n + suc (length xs) = omega arith in
    elim (test x) as (λ b. AllHold (λ y. y < n + suc (length xs)) (number_if b n (numbers_where test (n + 1) xs))) [ true ↦ (self, rest) | false ↦ rest ]

-- tests that agree give the same numbers
pub numbers_where-same : {A : Type 0} (test other : A → Bool) (n : ℕ) (xs : List A) → AllHold (λ x. test x ≡ other x) xs
    → numbers_where test n xs ≡ numbers_where other n xs
numbers_where-same test other n [] h = refl
numbers_where-same test other n (x ∷ xs) h =
    ap (λ b. number_if b n (numbers_where test (n + 1) xs)) h.0 ∙ ap (number_if (other x) n) (numbers_where-same test other (n + 1) xs h.1)

-- no number, where the test passes nothing
pub numbers_where-none : {A : Type 0} (n : ℕ) (xs : List A) → numbers_where (λ (x : A). false) n xs ≡ []
numbers_where-none n [] = refl
numbers_where-none n (x ∷ xs) = numbers_where-none (n + 1) xs

-- the numbers of the images
pub numbers_where-map : {A B : Type 0} (f : A → B) (test : B → Bool) (n : ℕ) (xs : List A) → numbers_where test n (map f xs) ≡ numbers_where (λ x. test (f x)) n xs
numbers_where-map f test n [] = refl
numbers_where-map f test n (x ∷ xs) = ap (number_if (test (f x)) n) (numbers_where-map f test (n + 1) xs)

-- whether there is a number
pub numbers_where-some_in : {A : Type 0} (test : A → Bool) (n : ℕ) (xs : List A) → is_any (numbers_where test n xs) ≡ some_in test xs
numbers_where-some_in test n [] = refl
numbers_where-some_in test n (x ∷ xs) =
    let rest = numbers_where-some_in test (n + 1) xs in
    elim (test x) as (λ b. is_any (number_if b n (numbers_where test (n + 1) xs)) ≡ (b || some_in test xs)) [ true ↦ refl | false ↦ rest ]

-- Lanes

-- the processes of the lanes are those that have updates
pub lanes_from-numbers : {A : Type 0} (lane : A → List ValueUpdate) (n : ℕ) (xs : List A)
    → map (λ (l : ℕ × List ValueUpdate). l.0) (lanes_from lane n xs) ≡ numbers_where (λ x. is_any (lane x)) n xs
lanes_from-numbers lane n [] = refl
lanes_from-numbers lane n (x ∷ xs) =
    let rest = lanes_from-numbers lane (n + 1) xs in
    elim (lane x) as (λ us. map (λ (l : ℕ × List ValueUpdate). l.0) (lane_if n us (lanes_from lane (n + 1) xs)) ≡ number_if (is_any us) n (numbers_where (λ y. is_any (lane y)) (n + 1) xs)) [
      | [] ↦ rest
      | u ∷ us ↦ ap (λ ns. n ∷ ns) rest
    ]

-- updates that agree give the same lanes
pub lanes_from-same : {A : Type 0} (lane other : A → List ValueUpdate) (n : ℕ) (xs : List A) → AllHold (λ x. lane x ≡ other x) xs
    → lanes_from lane n xs ≡ lanes_from other n xs
lanes_from-same lane other n [] h = refl
lanes_from-same lane other n (x ∷ xs) h =
    ap (λ us. lane_if n us (lanes_from lane (n + 1) xs)) h.0 ∙ ap (lane_if n (other x)) (lanes_from-same lane other (n + 1) xs h.1)

-- no lane, where there are no updates
pub lanes_from-none : {A : Type 0} (n : ℕ) (xs : List A) → lanes_from (λ (x : A). []) n xs ≡ []
lanes_from-none n [] = refl
lanes_from-none n (x ∷ xs) = lanes_from-none (n + 1) xs

-- the lanes of the images
pub lanes_from-map : {A B : Type 0} (f : A → B) (lane : B → List ValueUpdate) (n : ℕ) (xs : List A) → lanes_from lane n (map f xs) ≡ lanes_from (λ x. lane (f x)) n xs
lanes_from-map f lane n [] = refl
lanes_from-map f lane n (x ∷ xs) = ap (lane_if n (lane (f x))) (lanes_from-map f lane (n + 1) xs)

-- Changes

-- a change at the end of one list is the first of the next
pub change_at-append : {A : Type 0} (before : List A) (x : A) (xs : List A) (f : A → A) (n : ℕ) → length before ≡ n → change_at (before ++ x ∷ xs) n f ≡ before ++ f x ∷ xs
change_at-append [] x xs f zero e = refl
change_at-append [] x xs f (suc n) e = absurd (omega arith)
change_at-append (b ∷ before) x xs f zero e = absurd (omega arith)
change_at-append (b ∷ before) x xs f (suc n) e = ap (λ ys. b ∷ ys) (change_at-append before x xs f n (omega arith))

-- an element that a test changes
abbrev pub change_if : Bool → (HeldProcess → HeldProcess) → HeldProcess → HeldProcess
change_if true change held = change held
change_if false change held = held

-- the elements with the numbers of those that pass a test are those that pass it
pub changed_each-numbers_where : (change : HeldProcess → HeldProcess) (test : HeldProcess → Bool) (before xs : List HeldProcess) (n : ℕ) → length before ≡ n
    → changed_each change (numbers_where test n xs) (before ++ xs) ≡ before ++ map (λ h. change_if (test h) change h) xs
changed_each-numbers_where change test before [] n e = refl
changed_each-numbers_where change test before (x ∷ xs) n e =
    let Goal : Bool → Type 0 = λ b.
    changed_each change (number_if b n (numbers_where test (n + 1) xs)) (before ++ x ∷ xs) ≡ before ++ change_if b change x ∷ map (λ h. change_if (test h) change h) xs in
    let longer : (y : HeldProcess) → length (before ++ y ∷ []) ≡ n + 1 = λ y. length-append before (y ∷ []) ∙ ap (λ m. m + 1) e in
    let rest : (y : HeldProcess) → changed_each change (numbers_where test (n + 1) xs) (before ++ y ∷ xs) ≡ before ++ y ∷ map (λ h. change_if (test h) change h) xs = λ y.
    ap (changed_each change (numbers_where test (n + 1) xs)) (sym (append_assoc before (y ∷ []) xs))
    ∙ (changed_each-numbers_where change test (before ++ y ∷ []) xs (n + 1) (longer y) ∙ append_assoc before (y ∷ []) (map (λ h. change_if (test h) change h) xs)) in
    elim (test x) as Goal [
      | true ↦ ap (changed_each change (numbers_where test (n + 1) xs)) (change_at-append before x xs change n e) ∙ rest (change x)
      | false ↦ rest x
    ]

-- maps that agree
pub map-same : {A B : Type 0} (f g : A → B) (xs : List A) → AllHold (λ x. f x ≡ g x) xs → map f xs ≡ map g xs
map-same f g [] h = refl
map-same f g (x ∷ xs) h = ap (λ y. y ∷ map f xs) h.0 ∙ ap (λ ys. g x ∷ ys) (map-same f g xs h.1)
