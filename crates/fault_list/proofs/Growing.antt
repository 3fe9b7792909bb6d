-- Lists that grow at their end, as a loop makes them.
use Rattle.std.proofs.Common.{subst, take_all, ◌≡◌, ℕ, zero, suc, ◌+◌, ◌<◌, ◌≤◌, false, true, List, [], ◌∷◌, ◌++◌, length, get_or, take, map, refl, ap, sym, ◌∙◌, arith, append_assoc, append-nil}
use Rattle.std.proofs.lemmas.List.{take_more, map_push, length-map, length-take-le, get_or-map}
use Rattle.vf_base.specs.Lists.{joined, map_numbered}
use Rattle.v_design.specs.Expressions.{up_from}
use Rattle.v_design.specs.Designs.{FaultSite, StuckAt, FlatObject}
use Rattle.v_design.specs.Sites.{expressions_count}
use Rattle.v_design.specs.Plain.{expressions_of, object_of}
use Rattle.v_design.specs.declared.tree.FlatExpr.{FlatExpr}
use Rattle.v_design.specs.declared.plan.Object.{Object}
use Rattle.fault_list.specs.Listed.{both}

pub joined-append : {A : Type 0} (xs ys : List (List A)) → joined (xs ++ ys) ≡ joined xs ++ joined ys
joined-append [] ys = refl
joined-append (x ∷ xs) ys = ap (λ l. x ++ l) (joined-append xs ys) ∙ sym (append_assoc x (joined xs) (joined ys))

pub both-append : (xs ys : List FaultSite) → both (xs ++ ys) ≡ both xs ++ both ys
both-append [] ys = refl
both-append (x ∷ xs) ys = ap (λ l. record { site = x; value = false } ∷ record { site = x; value = true } ∷ l) (both-append xs ys)

pub map_numbered-append : {A B : Type 0} (f : ℕ → A → B) (n : ℕ) (xs ys : List A) → map_numbered f n (xs ++ ys) ≡ map_numbered f n xs ++ map_numbered f (n + length xs) ys
map_numbered-append f n [] ys = ap (λ k. map_numbered f k ys) (omega arith)
map_numbered-append f n (x ∷ xs) ys =
    let e : n + 1 + length xs ≡ n + suc (length xs) = omega arith in
    ap (λ l. f n x ∷ l) (map_numbered-append f (n + 1) xs ys ∙ ap (λ k. map_numbered f (n + 1) xs ++ map_numbered f k ys) e)

pub up_from-append : (start count : ℕ) → up_from start (count + 1) ≡ up_from start count ++ (start + count) ∷ []
up_from-append start zero = let e : start ≡ start + 0 = omega arith in ap (λ n. n ∷ []) e
up_from-append start (suc count) =
    let e : start + 1 + count ≡ start + suc count = omega arith in
    let next : suc count + 1 ≡ suc (count + 1) = omega arith in
    ap (up_from start) next ∙ ap (λ l. start ∷ l) (up_from-append (start + 1) count ∙ ap (λ n. up_from (start + 1) count ++ n ∷ []) e)

-- the numbered lists of the elements so far, and of one more
pub grown : {A B C : Type 0} (view : A → B) (f : ℕ → B → List C) (xs : List A) (i : ℕ) (d : A) → i < length xs →
    joined (map_numbered f 0 (map view (take (i + 1) xs))) ≡ joined (map_numbered f 0 (map view (take i xs))) ++ f i (view (get_or xs i d))
grown view f xs i d within =
    let more : map view (take (i + 1) xs) ≡ map view (take i xs) ++ view (get_or xs i d) ∷ [] = ap (map view) (take_more xs i d within) ∙ map_push view (take i xs) (get_or xs i d) in
    let count : length (map view (take i xs)) ≡ i = length-map (take i xs) view ∙ length-take-le i xs (omega arith) in
    ap (λ l. joined (map_numbered f 0 l)) more
    ∙ ap joined (map_numbered-append f 0 (map view (take i xs)) (view (get_or xs i d) ∷ []))
    ∙ joined-append (map_numbered f 0 (map view (take i xs))) _
    ∙ ap (λ l. joined (map_numbered f 0 (map view (take i xs))) ++ l) (append-nil (f (0 + length (map view (take i xs))) (view (get_or xs i d))))
    ∙ ap (λ k. joined (map_numbered f 0 (map view (take i xs))) ++ f k (view (get_or xs i d))) (let e : 0 + length (map view (take i xs)) ≡ i = omega (arith, count) in e)

-- the faults of one more site in a row of sites
pub more_bits : (site : ℕ → FaultSite) (start count at : ℕ) (base faults more : List StuckAt) → at ≡ start + count →
    faults ≡ base ++ both (map site (up_from start count)) → more ≡ faults ++ both (site at ∷ []) → more ≡ base ++ both (map site (up_from start (count + 1)))
more_bits site start count at base faults more place had added =
    let sites : map site (up_from start (count + 1)) ≡ map site (up_from start count) ++ site at ∷ [] =
    ap (map site) (up_from-append start count) ∙ map_push site (up_from start count) (start + count) ∙ ap (λ n. map site (up_from start count) ++ site n ∷ []) (sym place) in
    added ∙ ap (λ l. l ++ both (site at ∷ [])) had ∙ append_assoc base (both (map site (up_from start count))) (both (site at ∷ []))
    ∙ ap (λ l. base ++ l) (sym (both-append (map site (up_from start count)) (site at ∷ []))) ∙ ap (λ l. base ++ both l) (sym sites)

-- the faults of the sites of one more element
pub more_listed : {A B : Type 0} (view : A → B) (f : ℕ → B → List FaultSite) (xs : List A) (i : ℕ) (x : A) (base faults more : List StuckAt) → i < length xs → x ≡ get_or xs i x →
    faults ≡ base ++ both (joined (map_numbered f 0 (map view (take i xs)))) → more ≡ faults ++ both (f i (view x)) → more ≡ base ++ both (joined (map_numbered f 0 (map view (take (i + 1) xs))))
more_listed view f xs i x base faults more within is had added =
    let sites : joined (map_numbered f 0 (map view (take (i + 1) xs))) ≡ joined (map_numbered f 0 (map view (take i xs))) ++ f i (view x) =
    grown view f xs i x within ∙ ap (λ y. joined (map_numbered f 0 (map view (take i xs))) ++ f i (view y)) (sym is) in
    added ∙ ap (λ l. l ++ both (f i (view x))) had ∙ append_assoc base (both (joined (map_numbered f 0 (map view (take i xs))))) (both (f i (view x)))
    ∙ ap (λ l. base ++ l) (sym (both-append (joined (map_numbered f 0 (map view (take i xs)))) (f i (view x)))) ∙ ap (λ l. base ++ both l) (sym sites)

-- the faults of a row of sites that is done
pub all_bits : (site : ℕ → FaultSite) (start count width : ℕ) (base faults : List StuckAt) → count ≡ width →
    faults ≡ base ++ both (map site (up_from start count)) → faults ≡ base ++ both (map site (up_from start width))
all_bits site start count width base faults same had = had ∙ ap (λ n. base ++ both (map site (up_from start n))) same

-- the faults of one more list
pub more_joined : {A : Type 0} (f : A → List FaultSite) (xs : List A) (i : ℕ) (d : A) (base faults more : List StuckAt) → i < length xs →
    faults ≡ base ++ both (joined (map f (take i xs))) → more ≡ faults ++ both (f (get_or xs i d)) → more ≡ base ++ both (joined (map f (take (i + 1) xs)))
more_joined f xs i d base faults more within had added =
    let sites : joined (map f (take (i + 1) xs)) ≡ joined (map f (take i xs)) ++ f (get_or xs i d) =
    ap (λ l. joined (map f l)) (take_more xs i d within) ∙ ap joined (map_push f (take i xs) (get_or xs i d)) ∙ joined-append (map f (take i xs)) (f (get_or xs i d) ∷ [])
    ∙ ap (λ l. joined (map f (take i xs)) ++ l) (append-nil (f (get_or xs i d))) in
    added ∙ ap (λ l. l ++ both (f (get_or xs i d))) had ∙ append_assoc base (both (joined (map f (take i xs)))) (both (f (get_or xs i d)))
    ∙ ap (λ l. base ++ l) (sym (both-append (joined (map f (take i xs))) (f (get_or xs i d)))) ∙ ap (λ l. base ++ both l) (sym sites)

-- a list that is gone through is taken whole
pub all_taken : {A : Type 0} (P : List A → Type 0) (xs : List A) (i : ℕ) → length xs ≤ i → P (take i xs) → P xs
all_taken P xs i done had = subst P (take_all i xs done) had

-- the number of expressions of a list
pub count_of_expressions : (all : List FlatExpr) → expressions_count (expressions_of all) ≡ length all
count_of_expressions [] = refl
count_of_expressions (e ∷ rest) = let same : expressions_count (expressions_of rest) ≡ length rest = count_of_expressions rest in omega arith

get_or-past : (xs : List ℕ) (i d : ℕ) → length xs ≤ i → get_or xs i d ≡ d
get_or-past [] i d high = refl
get_or-past (x ∷ xs) zero d high = absurd (omega arith)
get_or-past (x ∷ xs) (suc i) d high = get_or-past xs i d (omega arith)

-- the width of an object of the code's list, which is read through a slice
pub width-in : (objects list : List Object) (o : ℕ) (x : Object) → list ≡ objects → o < length list → x ≡ get_or list o x →
    get_or (map (λ (object : FlatObject). object.width) (map object_of objects)) o 0 ≡ x.width
width-in objects list o x same low at =
    subst (λ l. get_or (map (λ (object : FlatObject). object.width) (map object_of l)) o 0 ≡ x.width) same
    (get_or-map (λ (object : FlatObject). object.width) (map object_of list) o (object_of x) 0 (omega (arith, length-map list object_of))
    ∙ ap (λ (object : FlatObject). object.width) (get_or-map object_of list o x (object_of x) low ∙ ap object_of (sym at)))

pub width-outside : (objects list : List Object) (o : ℕ) → list ≡ objects → length list ≤ o → get_or (map (λ (object : FlatObject). object.width) (map object_of objects)) o 0 ≡ 0
width-outside objects list o same high =
    subst (λ l. get_or (map (λ (object : FlatObject). object.width) (map object_of l)) o 0 ≡ 0) same
    (get_or-past (map (λ (object : FlatObject). object.width) (map object_of list)) o 0 (omega
    (arith, length-map (map object_of list) (λ (object : FlatObject). object.width), length-map list object_of)))

-- the faults of three lists of sites, one after the other
pub all_parts : (one two three : List FaultSite) (base first second third : List StuckAt) → base ≡ [] → first ≡ base ++ both one → second ≡ first ++ both two → third ≡ second ++ both three →
    third ≡ both (one ++ (two ++ three))
all_parts one two three base first second third none a b c =
    let a' : first ≡ both one = a ∙ ap (λ l. l ++ both one) none in
    c ∙ ap (λ l. l ++ both three) (b ∙ ap (λ l. l ++ both two) a') ∙ append_assoc (both one) (both two) (both three)
    ∙ ap (λ l. both one ++ l) (sym (both-append two three)) ∙ sym (both-append one (two ++ three))

-- the same, where the list is read through a slice
pub more_listed_in : {A B : Type 0} (view : A → B) (f : ℕ → B → List FaultSite) (xs list : List A) (i : ℕ) (x : A) (base faults more : List StuckAt) → list ≡ xs → i < length list →
    x ≡ get_or list i x →
    faults ≡ base ++ both (joined (map_numbered f 0 (map view (take i xs)))) → more ≡ faults ++ both (f i (view x)) → more ≡ base ++ both (joined (map_numbered f 0 (map view (take (i + 1) xs))))
more_listed_in view f xs list i x base faults more same within is had added =
    let low : i < length xs = subst (λ l. i < length l) same within in
    let at : x ≡ get_or xs i x = subst (λ l. x ≡ get_or l i x) same is in
    more_listed view f xs i x base faults more low at had added
