-- A list that stands in another one in its order, and lists whose elements are in order (nothing of the language).
use Rattle.std.proofs.Common.{◌≡◌, ℕ, zero, suc, ◌<◌, ◌≤◌, List, [], ◌∷◌, ◌++◌, length, map, Some, refl, sym, ap, subst, ◌⊎◌, inl, inr, arith}
use Rattle.std.specs.Prelude.{slice_get}
use Rattle.vf_base.specs.Lists.{AllHold}
use Rattle.flat_laws.specs.Lists.{same_some}
use Rattle.graph_order.specs.ListLaws.{AllHold-slice_get}

-- Within another list

-- the elements stand in the other list in this order, with others between them
abbrev pub StandsIn : {A : Type 0} → List A → List A → Type 0
StandsIn xs [] = xs ≡ []
StandsIn {A} xs (y ∷ ys) = StandsIn xs ys ⊎ ((rest : List A) × (xs ≡ y ∷ rest) × StandsIn rest ys)

pub none-stand : {A : Type 0} (ys : List A) → StandsIn [] ys
none-stand [] = refl
none-stand (y ∷ ys) = inl (none-stand ys)

pub all-stand : {A : Type 0} (ys : List A) → StandsIn ys ys
all-stand [] = refl
all-stand (y ∷ ys) = inr (ys, refl, all-stand ys)

-- one more in front of both
pub first-stands : {A : Type 0} (y : A) (xs ys : List A) → StandsIn xs ys → StandsIn (y ∷ xs) (y ∷ ys)
first-stands y xs ys h = inr (xs, refl, h)

-- lists behind one another
pub append-stands : {A : Type 0} (xs more ys others : List A) → StandsIn xs ys → StandsIn more others → StandsIn (xs ++ more) (ys ++ others)
append-stands xs more [] others h second = subst (λ l. StandsIn (l ++ more) others) (sym h) second
append-stands xs more (y ∷ ys) others (inl h) second = inl (append-stands xs more ys others h second)
append-stands xs more (y ∷ ys) others (inr h) second = inr (h.0 ++ more, ap (λ l. l ++ more) h.1, append-stands h.0 more ys others h.2 second)

pub back-stands : {A : Type 0} (xs ys others : List A) → StandsIn xs others → StandsIn xs (ys ++ others)
back-stands xs ys others h = append-stands [] xs ys others (none-stand ys) h

pub front-stands : {A : Type 0} (xs ys others : List A) → StandsIn xs ys → StandsIn xs (ys ++ others)
front-stands xs [] others h = subst (λ l. StandsIn l others) (sym h) (none-stand others)
front-stands xs (y ∷ ys) others (inl h) = inl (front-stands xs ys others h)
front-stands xs (y ∷ ys) others (inr h) = inr (h.0, h.1, front-stands h.0 ys others h.2)

pub stand-trans : {A : Type 0} (xs ys zs : List A) → StandsIn xs ys → StandsIn ys zs → StandsIn xs zs
stand-trans xs ys [] h d = subst (StandsIn xs) d h
stand-trans xs ys (z ∷ zs) h (inl d) = inl (stand-trans xs ys zs h d)
stand-trans {A} xs ys (z ∷ zs) h (inr d) = among (λ front before. stand-trans front d.0 zs before d.2) (subst (StandsIn xs) d.1 h)
  where
    among : ((front : List A) → StandsIn front d.0 → StandsIn front zs) → StandsIn xs (z ∷ d.0) → StandsIn xs (z ∷ zs)
    among rest (inl later) = inl (rest xs later)
    among rest (inr first) = inr (first.0, first.1, rest first.0 first.2)

-- no list is longer than the one in which it stands
pub stand-long : {A : Type 0} (xs ys : List A) → StandsIn xs ys → length xs ≤ length ys
stand-long xs [] h = omega (arith, ap length h)
stand-long xs (y ∷ ys) (inl h) = omega (arith, stand-long xs ys h)
stand-long xs (y ∷ ys) (inr h) = omega (arith, ap length h.1, stand-long h.0 ys h.2)

-- what a function gives of each
pub map-stands : {A B : Type 0} (f : A → B) (xs ys : List A) → StandsIn xs ys → StandsIn (map f xs) (map f ys)
map-stands f xs [] h = ap (map f) h
map-stands f xs (y ∷ ys) (inl h) = inl (map-stands f xs ys h)
map-stands f xs (y ∷ ys) (inr h) = inr (map f h.0, ap (map f) h.1, map-stands f h.0 ys h.2)

-- a fact of each
pub stand-hold : {A : Type 0} (P : A → Type 0) (xs ys : List A) → StandsIn xs ys → AllHold P ys → AllHold P xs
stand-hold P xs [] h all = subst (AllHold P) (sym h) tt
stand-hold P xs (y ∷ ys) (inl h) all = stand-hold P xs ys h all.1
stand-hold P xs (y ∷ ys) (inr h) all = subst (AllHold P) (sym h.1) (all.0, stand-hold P h.0 ys h.2 all.1)

pub hold-map : {A B : Type 0} (P : B → Type 0) (f : A → B) (xs : List A) → AllHold P (map f xs) → AllHold (λ x. P (f x)) xs
hold-map P f [] all = tt
hold-map P f (x ∷ xs) all = (all.0, hold-map P f xs all.1)

-- In order

-- each element stands so to each later one
abbrev pub IsInOrder : {A : Type 0} → (A → A → Type 0) → List A → Type 0
IsInOrder R [] = Unit {0}
IsInOrder R (x ∷ xs) = AllHold (R x) xs × IsInOrder R xs

pub stand-in-order : {A : Type 0} (R : A → A → Type 0) (xs ys : List A) → StandsIn xs ys → IsInOrder R ys → IsInOrder R xs
stand-in-order R xs [] h order = subst (IsInOrder R) (sym h) tt
stand-in-order R xs (y ∷ ys) (inl h) order = stand-in-order R xs ys h order.1
stand-in-order R xs (y ∷ ys) (inr h) order = subst (IsInOrder R) (sym h.1) (stand-hold (R y) h.0 ys h.2 order.0, stand-in-order R h.0 ys h.2 order.1)

-- of two elements the earlier stands so to the later
pub in-order-at : {A : Type 0} (R : A → A → Type 0) (xs : List A) → IsInOrder R xs → (k l : ℕ) (x y : A) → slice_get xs k ≡ Some x → slice_get xs l ≡ Some y → k < l → R x y
in-order-at R [] order k l x y at_x at_y less = absurd (cc)
in-order-at R (z ∷ xs) order zero zero x y at_x at_y less = absurd (omega arith)
in-order-at R (z ∷ xs) order zero (suc l) x y at_x at_y less =
    subst (λ w. R w y) (same_some z x at_x) (AllHold-slice_get (R z) xs l y order.0 at_y)
in-order-at R (z ∷ xs) order (suc k) zero x y at_x at_y less = absurd (omega arith)
in-order-at R (z ∷ xs) order (suc k) (suc l) x y at_x at_y less = in-order-at R xs order.1 k l x y at_x at_y (omega arith)
