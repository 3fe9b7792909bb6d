-- The first fault of two lists is the earlier one of their first faults.
use Rattle.std.proofs.Common.{◌≡◌, ℕ, zero, suc, ◌<◌, ◌≤◌, Bool, true, false, cond, ◌&&◌, ◌||◌, ◌⊎◌, inl, inr, List, [], ◌∷◌, ◌++◌, Option, Some, None, nat_eq, nat_lt, refl, sym, ap, ◌∙◌, arith}
use Rattle.std.proofs.lemmas.Bool.{cases_order, eq-eqb, ne_eqb, lt-ltb, le-ltb}
use Rattle.v_names.specs.Faults.{Wrong, UnknownName, DeclaredTwice, NoConstant, BadWidth, BadConnection, WrongKind, TooDeep, Fault, rank_of_wrong, comes_before, earlier_of, first_fault}

-- the first of two faults that may be there
abbrev pub first_of : Option Fault → Option Fault → Option Fault
first_of None other = other
first_of (Some fault) other = Some (earlier_of fault other)

-- numbers in order, and where they are equal a further test
abbrev in_order : ℕ → ℕ → Bool → Bool
in_order x y rest = nat_lt x y || (nat_eq x y && rest)

order-less : (x y : ℕ) (rest : Bool) → x < y → in_order x y rest ≡ true
order-less x y rest h = ap (λ b. b || (nat_eq x y && rest)) (lt-ltb x y h)

order-same : (x y : ℕ) (rest : Bool) → x ≡ y → in_order x y rest ≡ rest
order-same x y rest e = let h : y ≤ x = omega arith in ap (λ b. b || (nat_eq x y && rest)) (le-ltb x y h) ∙ ap (λ b. b && rest) (eq-eqb x y e)

order-more : (x y : ℕ) (rest : Bool) → y < x → in_order x y rest ≡ false
order-more x y rest h = let g : y ≤ x = omega arith in ap (λ b. b || (nat_eq x y && rest)) (le-ltb x y g) ∙ ap (λ b. b && rest) (ne_eqb x y (λ e. omega arith))

-- what stands in order before what stands in order before a third stands before that
order-joins : (x y z : ℕ) (a b c : Bool) → (a ≡ true → b ≡ true → c ≡ true) → in_order x y a ≡ true → in_order y z b ≡ true → in_order x z c ≡ true
order-joins x y z a b c f h k = by (cases_order x y) (cases_order y z)
  where
    by : (x ≡ y) ⊎ ((x < y) ⊎ (y < x)) → (y ≡ z) ⊎ ((y < z) ⊎ (z < y)) → in_order x z c ≡ true
    by (inr (inl l)) (inr (inl m)) = order-less x z c (omega arith)
    by (inr (inl l)) (inl m) = order-less x z c (omega arith)
    by (inl l) (inr (inl m)) = order-less x z c (omega arith)
    by (inl l) (inl m) = order-same x z c (l ∙ m) ∙ f (sym (order-same x y a l) ∙ h) (sym (order-same y z b m) ∙ k)
    by (inr (inr l)) other = let e : false ≡ true = sym (order-more x y a l) ∙ h in cc
    by other (inr (inr m)) = let e : false ≡ true = sym (order-more y z b m) ∙ k in cc

-- what doesn't stand before what doesn't stand before a third doesn't stand before that
order-parts : (x y z : ℕ) (a b c : Bool) → (a ≡ false → b ≡ false → c ≡ false) → in_order x y a ≡ false → in_order y z b ≡ false → in_order x z c ≡ false
order-parts x y z a b c f h k = by (cases_order x y) (cases_order y z)
  where
    by : (x ≡ y) ⊎ ((x < y) ⊎ (y < x)) → (y ≡ z) ⊎ ((y < z) ⊎ (z < y)) → in_order x z c ≡ false
    by (inr (inr l)) (inr (inr m)) = order-more x z c (omega arith)
    by (inr (inr l)) (inl m) = order-more x z c (omega arith)
    by (inl l) (inr (inr m)) = order-more x z c (omega arith)
    by (inl l) (inl m) = order-same x z c (l ∙ m) ∙ f (sym (order-same x y a l) ∙ h) (sym (order-same y z b m) ∙ k)
    by (inr (inl l)) other = let e : true ≡ false = sym (order-less x y a l) ∙ h in cc
    by other (inr (inl m)) = let e : true ≡ false = sym (order-less y z b m) ∙ k in cc

-- Faults in their order: by line, by column, by reason

regrouped : (a e c f r : Bool) → ((a || (e && c)) || ((e && f) && r)) ≡ (a || (e && (c || (f && r))))
regrouped true e c f r = refl
regrouped false true c f r = refl
regrouped false false c f r = refl

before-lines : (one other : Fault) → comes_before one other ≡ in_order one.place.line other.place.line
    (in_order one.place.column other.place.column (in_order (rank_of_wrong one.wrong) (rank_of_wrong other.wrong) false))
before-lines one other =
    regrouped (nat_lt one.place.line other.place.line) (nat_eq one.place.line other.place.line) (nat_lt one.place.column other.place.column) (nat_eq one.place.column other.place.column)
    (nat_lt (rank_of_wrong one.wrong) (rank_of_wrong other.wrong))
    ∙ ap (λ r. in_order one.place.line other.place.line (in_order one.place.column other.place.column r))
    (last (nat_lt (rank_of_wrong one.wrong) (rank_of_wrong other.wrong)) (nat_eq (rank_of_wrong one.wrong) (rank_of_wrong other.wrong)))
  where
    last : (r e : Bool) → r ≡ (r || (e && false))
    last true e = refl
    last false true = refl
    last false false = refl

before-joins : (a b c : Fault) → comes_before a b ≡ true → comes_before b c ≡ true → comes_before a c ≡ true
before-joins a b c h k =
    before-lines a c
    ∙ order-joins a.place.line b.place.line c.place.line _ _ _
    (order-joins a.place.column b.place.column c.place.column _ _ _ (order-joins (rank_of_wrong a.wrong) (rank_of_wrong b.wrong) (rank_of_wrong c.wrong) false false false (λ e f. e)))
    (sym (before-lines a b) ∙ h) (sym (before-lines b c) ∙ k)

before-parts : (a b c : Fault) → comes_before a b ≡ false → comes_before b c ≡ false → comes_before a c ≡ false
before-parts a b c h k =
    before-lines a c
    ∙ order-parts a.place.line b.place.line c.place.line _ _ _
    (order-parts a.place.column b.place.column c.place.column _ _ _ (order-parts (rank_of_wrong a.wrong) (rank_of_wrong b.wrong) (rank_of_wrong c.wrong) false false false (λ e f. e)))
    (sym (before-lines a b) ∙ h) (sym (before-lines b c) ∙ k)

-- The earlier of three

earlier-where : (a b : Fault) (t : Bool) → comes_before b a ≡ t → earlier_of a (Some b) ≡ cond t b a
earlier-where a b true h = rw h refl
earlier-where a b false h = rw h refl

earlier-groups : (a b c : Fault) → earlier_of a (Some (earlier_of b (Some c))) ≡ earlier_of (earlier_of a (Some b)) (Some c)
earlier-groups a b c = by (comes_before c b) (comes_before b a) refl refl
  where
    by : (t u : Bool) → comes_before c b ≡ t → comes_before b a ≡ u → earlier_of a (Some (earlier_of b (Some c))) ≡ earlier_of (earlier_of a (Some b)) (Some c)
    by true true h k =
        ap (λ m. earlier_of a (Some m)) (earlier-where b c true h) ∙ earlier-where a c true (before-joins c b a h k) ∙ sym (earlier-where b c true h)
        ∙ ap (λ n. earlier_of n (Some c)) (sym (earlier-where a b true k))
    by true false h k = ap (λ m. earlier_of a (Some m)) (earlier-where b c true h) ∙ ap (λ n. earlier_of n (Some c)) (sym (earlier-where a b false k))
    by false true h k =
        ap (λ m. earlier_of a (Some m)) (earlier-where b c false h) ∙ earlier-where a b true k ∙ sym (earlier-where b c false h) ∙ ap (λ n. earlier_of n (Some c)) (sym (earlier-where a b true k))
    by false false h k =
        ap (λ m. earlier_of a (Some m)) (earlier-where b c false h) ∙ earlier-where a b false k ∙ sym (earlier-where a c false (before-parts c b a h k))
        ∙ ap (λ n. earlier_of n (Some c)) (sym (earlier-where a b false k))

groups : (a : Fault) (b c : Option Fault) → first_of (Some a) (first_of b c) ≡ first_of (first_of (Some a) b) c
groups a None c = refl
groups a (Some b) None = refl
groups a (Some b) (Some c) = ap (λ f. Some f) (earlier-groups a b c)

-- the first fault of two lists
pub first-append : (faults more : List Fault) → first_fault (faults ++ more) ≡ first_of (first_fault faults) (first_fault more)
first-append [] more = refl
first-append (fault ∷ faults) more = ap (first_of (Some fault)) (first-append faults more) ∙ groups fault (first_fault faults) (first_fault more)

-- The order in which faults are listed has no meaning

-- two numbers with what stands behind them are equal where neither comes before the other
order-equal : (x y : ℕ) (a b : Bool) → in_order x y a ≡ false → in_order y x b ≡ false → (x ≡ y) × (a ≡ false) × (b ≡ false)
order-equal x y a b h k = by (cases_order x y)
  where
    by : (x ≡ y) ⊎ ((x < y) ⊎ (y < x)) → (x ≡ y) × (a ≡ false) × (b ≡ false)
    by (inl e) = (e, sym (order-same x y a e) ∙ h, sym (order-same y x b (sym e)) ∙ k)
    by (inr (inl l)) = let e : true ≡ false = sym (order-less x y a l) ∙ h in absurd (let x : ⊥ = cc in x)
    by (inr (inr m)) = let e : true ≡ false = sym (order-less y x b m) ∙ k in absurd (let x : ⊥ = cc in x)

-- and not both come before the other
order-once : (x y : ℕ) (a b : Bool) → (a ≡ true → b ≡ true → ⊥) → in_order x y a ≡ true → in_order y x b ≡ true → ⊥
order-once x y a b f h k = by (cases_order x y)
  where
    by : (x ≡ y) ⊎ ((x < y) ⊎ (y < x)) → ⊥
    by (inl e) = f (sym (order-same x y a e) ∙ h) (sym (order-same y x b (sym e)) ∙ k)
    by (inr (inl l)) = let e : false ≡ true = sym (order-more y x b l) ∙ k in cc
    by (inr (inr m)) = let e : false ≡ true = sym (order-more x y a m) ∙ h in cc

abbrev wrong_ranked : ℕ → Wrong
wrong_ranked zero = UnknownName
wrong_ranked (suc zero) = DeclaredTwice
wrong_ranked (suc (suc zero)) = NoConstant
wrong_ranked (suc (suc (suc zero))) = BadWidth
wrong_ranked (suc (suc (suc (suc zero)))) = BadConnection
wrong_ranked (suc (suc (suc (suc (suc zero))))) = WrongKind
wrong_ranked (suc (suc (suc (suc (suc (suc n)))))) = TooDeep

ranked : (w : Wrong) → wrong_ranked (rank_of_wrong w) ≡ w
ranked UnknownName = refl
ranked DeclaredTwice = refl
ranked NoConstant = refl
ranked BadWidth = refl
ranked BadConnection = refl
ranked WrongKind = refl
ranked TooDeep = refl

one-wrong : (a b : Wrong) → rank_of_wrong a ≡ rank_of_wrong b → a ≡ b
one-wrong a b e = sym (ranked a) ∙ ap wrong_ranked e ∙ ranked b

abbrev fault_with : ℕ → ℕ → Wrong → Fault
fault_with line column wrong = record { place = record { line = line; column = column }; wrong = wrong }

same-faults : (a b : Fault) → comes_before a b ≡ false → comes_before b a ≡ false → a ≡ b
same-faults a b h k =
    let lines = order-equal a.place.line b.place.line _ _ (sym (before-lines a b) ∙ h) (sym (before-lines b a) ∙ k) in
    let columns = order-equal a.place.column b.place.column _ _ lines.1 lines.2 in
    let ranks = order-equal (rank_of_wrong a.wrong) (rank_of_wrong b.wrong) false false columns.1 columns.2 in
    ap (λ n. fault_with n a.place.column a.wrong) lines.0 ∙ ap (λ n. fault_with b.place.line n a.wrong) columns.0
    ∙ ap (fault_with b.place.line b.place.column) (one-wrong a.wrong b.wrong ranks.0)

never-both : (a b : Fault) → comes_before a b ≡ true → comes_before b a ≡ true → ⊥
never-both a b h k =
    order-once a.place.line b.place.line _ _ (order-once a.place.column b.place.column _ _ (order-once (rank_of_wrong a.wrong) (rank_of_wrong b.wrong) false false (λ e f. cc)))
    (sym (before-lines a b) ∙ h)
    (sym (before-lines b a) ∙ k)

earlier-turned : (a b : Fault) → earlier_of a (Some b) ≡ earlier_of b (Some a)
earlier-turned a b = by (comes_before b a) (comes_before a b) refl refl
  where
    by : (t u : Bool) → comes_before b a ≡ t → comes_before a b ≡ u → earlier_of a (Some b) ≡ earlier_of b (Some a)
    by true true h k = absurd (never-both a b k h)
    by true false h k = earlier-where a b true h ∙ sym (earlier-where b a false k)
    by false true h k = earlier-where a b false h ∙ sym (earlier-where b a true k)
    by false false h k = earlier-where a b false h ∙ same-faults a b k h ∙ sym (earlier-where b a false k)

pub first-turned : (a b : Option Fault) → first_of a b ≡ first_of b a
first-turned None None = refl
first-turned None (Some b) = refl
first-turned (Some a) None = refl
first-turned (Some a) (Some b) = ap (λ f. Some f) (earlier-turned a b)
