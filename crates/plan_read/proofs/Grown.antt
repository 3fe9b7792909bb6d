-- Bits that a loop adds.
use Rattle.std.proofs.Common.{◌≡◌, ℕ, zero, suc, ◌+◌, ◌<◌, ◌≤◌, List, [], ◌∷◌, ◌++◌, length, get_or, take, map, refl, ap, sym, ◌∙◌, arith, append_assoc, append-nil}
use Rattle.std.proofs.lemmas.List.{take_more, map_push, length-map, length-take-le, get_or_default}
use Rattle.vf_base.specs.Base.{WatchedBit}
use Rattle.vf_base.specs.Lists.{joined, map_numbered}
use Rattle.v_design.specs.Expressions.{up_from}
use Rattle.plan_read.specs.Watched.{bit_of, object_bits}

joined-append : {A : Type 0} (xs ys : List (List A)) → joined (xs ++ ys) ≡ joined xs ++ joined ys
joined-append [] ys = refl
joined-append (x ∷ xs) ys = ap (λ l. x ++ l) (joined-append xs ys) ∙ sym (append_assoc x (joined xs) (joined ys))

map_numbered-append : {A B : Type 0} (f : ℕ → A → B) (n : ℕ) (xs ys : List A) → map_numbered f n (xs ++ ys) ≡ map_numbered f n xs ++ map_numbered f (n + length xs) ys
map_numbered-append f n [] ys = ap (λ k. map_numbered f k ys) (omega arith)
map_numbered-append f n (x ∷ xs) ys =
    let e : n + 1 + length xs ≡ n + suc (length xs) = omega arith in
    ap (λ l. f n x ∷ l) (map_numbered-append f (n + 1) xs ys ∙ ap (λ k. map_numbered f (n + 1) xs ++ map_numbered f k ys) e)

up_from-append : (start count : ℕ) → up_from start (count + 1) ≡ up_from start count ++ (start + count) ∷ []
up_from-append start zero = let e : start ≡ start + 0 = omega arith in ap (λ n. n ∷ []) e
up_from-append start (suc count) =
    let e : start + 1 + count ≡ start + suc count = omega arith in
    let next : suc count + 1 ≡ suc (count + 1) = omega arith in
    ap (up_from start) next ∙ ap (λ l. start ∷ l) (up_from-append (start + 1) count ∙ ap (λ n. up_from (start + 1) count ++ n ∷ []) e)

-- one bit more of an object
pub bits-more : (number count : ℕ) (base had more : List WatchedBit) → had ≡ base ++ object_bits number count → more ≡ had ++ bit_of number count ∷ [] → more ≡ base ++ object_bits number (count + 1)
bits-more number count base had more h added =
    let one : object_bits number (count + 1) ≡ object_bits number count ++ bit_of number count ∷
    [] = ap (map (bit_of number)) (up_from-append 0 count) ∙ map_push (bit_of number) (up_from 0 count) (0 + count)
    ∙ ap (λ n. object_bits number count ++ bit_of number n ∷ []) (let e : 0 + count ≡ count = omega arith in e) in
    added ∙ ap (λ l. l ++ bit_of number count ∷ []) h ∙ append_assoc base (object_bits number count) (bit_of number count ∷ []) ∙ ap (λ l. base ++ l) (sym one)

-- the bits of one more element, which are numbered
pub numbered-more : {A B : Type 0} (view : A → B) (f : ℕ → B → List WatchedBit) (xs : List A) (i : ℕ) (x : A) (base had more : List WatchedBit) → i < length xs → x ≡ get_or xs i x →
    had ≡ base ++ joined (map_numbered f 0 (map view (take i xs))) → more ≡ had ++ f i (view x) → more ≡ base ++ joined (map_numbered f 0 (map view (take (i + 1) xs)))
numbered-more view f xs i x base had more within is h added =
    let taken : map view (take (i + 1) xs) ≡ map view (take i xs) ++ view x ∷ [] = ap (map view) (take_more xs i x within) ∙ map_push view (take i xs) (get_or xs i x)
    ∙ ap (λ y. map view (take i xs) ++ view y ∷ []) (sym is) in
    let count : length (map view (take i xs)) ≡ i = length-map (take i xs) view ∙ length-take-le i xs (omega arith) in
    let place : 0 + length (map view (take i xs)) ≡ i = omega (arith, count) in
    let grown : joined (map_numbered f 0 (map view (take (i + 1) xs))) ≡ joined (map_numbered f 0 (map view (take i xs))) ++ f i (view x) =
    ap (λ l. joined (map_numbered f 0 l)) taken ∙ ap joined (map_numbered-append f 0 (map view (take i xs)) (view x ∷ []))
    ∙ joined-append (map_numbered f 0 (map view (take i xs))) (f (0 + length (map view (take i xs))) (view x) ∷ [])
    ∙ ap (λ l. joined (map_numbered f 0 (map view (take i xs))) ++ l) (append-nil (f (0 + length (map view (take i xs))) (view x)))
    ∙ ap (λ k. joined (map_numbered f 0 (map view (take i xs))) ++ f k (view x)) place in
    added ∙ ap (λ l. l ++ f i (view x)) h ∙ append_assoc base (joined (map_numbered f 0 (map view (take i xs)))) (f i (view x)) ∙ ap (λ l. base ++ l) (sym grown)

-- the bits of one more element
pub listed-more : {A B : Type 0} (view : A → B) (f : B → List WatchedBit) (xs : List A) (i : ℕ) (x : A) (base had more : List WatchedBit) → i < length xs → x ≡ get_or xs i x →
    had ≡ base ++ joined (map f (map view (take i xs))) → more ≡ had ++ f (view x) → more ≡ base ++ joined (map f (map view (take (i + 1) xs)))
listed-more view f xs i x base had more within is h added =
    let taken : map view (take (i + 1) xs) ≡ map view (take i xs) ++ view x ∷ [] = ap (map view) (take_more xs i x within) ∙ map_push view (take i xs) (get_or xs i x)
    ∙ ap (λ y. map view (take i xs) ++ view y ∷ []) (sym is) in
    let grown : joined (map f (map view (take (i + 1) xs))) ≡ joined (map f (map view (take i xs))) ++ f (view x) =
    ap (λ l. joined (map f l)) taken ∙ ap joined (map_push f (map view (take i xs)) (view x)) ∙ joined-append (map f (map view (take i xs))) (f (view x) ∷ [])
    ∙ ap (λ l. joined (map f (map view (take i xs))) ++ l) (append-nil (f (view x))) in
    added ∙ ap (λ l. l ++ f (view x)) h ∙ append_assoc base (joined (map f (map view (take i xs)))) (f (view x)) ∙ ap (λ l. base ++ l) (sym grown)

-- the same, where the element is a copy
pub copied-more : {A B : Type 0} (view : A → B) (f : B → List WatchedBit) (xs : List A) (i : ℕ) (d : A) (base had more : List WatchedBit) → i < length xs →
    had ≡ base ++ joined (map f (map view (take i xs))) → more ≡ had ++ f (view (get_or xs i d)) → more ≡ base ++ joined (map f (map view (take (i + 1) xs)))
copied-more view f xs i d base had more within h added = listed-more view f xs i (get_or xs i d) base had more within (get_or_default xs i d (get_or xs i d) within) h added
