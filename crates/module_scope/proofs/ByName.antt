-- Each declared name with its one declaration.
use Rattle.std.proofs.Common.{◌≡◌, ℕ, ◌+◌, ◌<◌, ◌≤◌, Bool, true, false, cond, List, [], ◌∷◌, ◌++◌, map, drop, get_or, length, Option, Some, None, option_map, refl, sym, ap, subst, ◌∙◌}
use Rattle.std.proofs.Common.{arith, append-nil}
use Rattle.v_tree.specs.Trees.{Identifier, same_name}
use Rattle.v_names.specs.Names.{Declaration, of_name}
use Rattle.name_checks.specs.Rows.{drop-step, drop-past}
use Rattle.module_scope.specs.Declarations.{listed}
use Rattle.module_scope.specs.Settled.{NoneNamed, AreApart}
use Rattle.module_scope.proofs.Maps.{same-equal}

-- a name without a declaration in a list
none-of : (n name : Identifier) (ds : List Declaration) → same_name n name ≡ true → NoneNamed n ds → of_name name ds ≡ []
none-of n name [] s h = refl
none-of n name (d ∷ ds) s h = by (same_name d.name name) refl (none-of n name ds s h.1)
  where
    by : (b : Bool) → same_name d.name name ≡ b → of_name name ds ≡ [] → of_name name (d ∷ ds) ≡ []
    by false e none = rw e none
    by true e none =
        let same : n ≡ d.name = same-equal n name s ∙ sym (same-equal d.name name e) in
        let wrong : true ≡ false = sym e ∙ ap (same_name d.name) (sym (same-equal n name s)) ∙ ap (λ (x : Identifier). same_name x n) (sym same) ∙ ap (same_name n) same ∙ h.0 in
        absurd (let z : ⊥ = cc in z)

-- a name has one declaration at most
pub one-of : (name : Identifier) (ds : List Declaration) → AreApart ds → length (of_name name ds) ≤ 1
one-of name [] h = omega arith
one-of name (d ∷ ds) h = by (same_name d.name name) refl (one-of name ds h.1)
  where
    by : (b : Bool) → same_name d.name name ≡ b → length (of_name name ds) ≤ 1 → length (of_name name (d ∷ ds)) ≤ 1
    by false e one = rw e one
    by true e one = rw e (let none = ap length (none-of d.name name ds e h.0) in omega (arith, none))

-- some names have been found; those that are left are the rest
pub record AreFound (known : Identifier → Option Declaration) (rest all : List Declaration) : Type 0 where
  pub found_are : (name : Identifier) → listed (known name) ++ of_name name rest ≡ of_name name all

pub found-turn : (known new : Identifier → Option Declaration) (d : Declaration) (rest all : List Declaration) → AreApart all →
    ((other : Identifier) → new other ≡ cond (same_name d.name other) (Some d) (known other))
    → AreFound known (d ∷ rest) all → AreFound new rest all
found-turn known new d rest all apart put before = record { found_are = found }
  where
    here : (name : Identifier) (old : Option Declaration) → known name ≡ old → same_name d.name name ≡ true → listed (Some d) ++ of_name name rest ≡ of_name name all
    here name None e s =
        let h : listed (known name) ++ of_name name (d ∷ rest) ≡ of_name name all = before.found_are name in
        rw (e, s) at h
    here name (Some other) e s =
        let h : listed (known name) ++ of_name name (d ∷ rest) ≡ of_name name all = before.found_are name in
        let k = ap length (rw (e, s) at h) in
        let most = one-of name all apart in
        absurd (omega (arith, k, most))

    found : (name : Identifier) → listed (new name) ++ of_name name rest ≡ of_name name all
    found name = by (same_name d.name name) refl
      where
        by : (b : Bool) → same_name d.name name ≡ b → listed (new name) ++ of_name name rest ≡ of_name name all
        by true s = rw (put name, s) (here name (known name) refl s)
        by false s =
            let h : listed (known name) ++ of_name name (d ∷ rest) ≡ of_name name all = before.found_are name in
            rw (put name, s) (rw s at h)

-- a turn of the loop
pub found-step : {A : Type 0} (view : A → Declaration) (xs : List A) (i : ℕ) (x : A) (known new : Identifier → Option A) → AreApart (map view xs) → i < length xs → x ≡ get_or xs i x
    → ((other : Identifier) → new other ≡ cond (same_name (view x).name other) (Some x) (known other)) → AreFound (λ name. option_map view (known name)) (map view (drop i xs)) (map view xs)
    → AreFound (λ name. option_map view (new name)) (map view (drop (i + 1) xs)) (map view xs)
found-step {A} view xs i x known new apart below at put before =
    found-turn (λ name. option_map view (known name)) (λ name. option_map view (new name)) (view x) (map view (drop (i + 1) xs)) (map view xs) apart
    (λ other. ap (option_map view) (put other) ∙ seen (same_name (view x).name other) (known other))
    (subst (λ (ys : List A). AreFound (λ name. option_map view (known name)) (map view ys) (map view xs)) (drop-step xs i x below at) before)
  where
    seen : (b : Bool) (old : Option A) → option_map view (cond b (Some x) old) ≡ cond b (Some (view x)) (option_map view old)
    seen true old = refl
    seen false old = refl

-- all names are found at the end
pub found-end : {A : Type 0} (view : A → Declaration) (xs : List A) (i : ℕ) (known : Identifier → Option A) (name : Identifier) → length xs ≤ i →
    AreFound (λ name. option_map view (known name)) (map view (drop i xs)) (map view xs)
    → of_name name (map view xs) ≡ listed (option_map view (known name))
found-end {A} view xs i known name past before =
    let last = subst (λ (ys : List A). AreFound (λ name. option_map view (known name)) (map view ys) (map view xs)) (drop-past xs i past) before in
    sym (last.found_are name) ∙ append-nil (listed (option_map view (known name)))
