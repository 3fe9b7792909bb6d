-- In a module of which nothing is wrong a name stands for one thing, at its first declaration (IEEE 1364-2001, clause 12.5; clause 12.3 for ports that are declared once more).
use Rattle.std.proofs.Common.{◌≡◌, ℕ, zero, suc, ◌+◌, ◌<◌, ◌≤◌, Bool, true, false, not, ◌&&◌, List, [], ◌∷◌, ◌++◌, length, Option, Some, None, Ok, refl, sym, ap, ap₂, ◌∙◌, inl, inr, arith}
use Rattle.std.specs.Prelude.{nat_eq, nat_lt, slice_get, filter, sum_by, codes, decimal}
use Rattle.std.proofs.lemmas.Bool.{cases_Bool, eq-eqb, eqb-true, cond-true, cond-false, ltb-true, ltb-false}
use Rattle.std.proofs.lemmas.Fmt.{decimal_injective}
use Rattle.std.proofs.lemmas.Option.{slice_get_within}
use Rattle.vf_base.specs.Base.{SourcePlace}
use Rattle.vf_base.specs.Lists.{AllHold}
use Rattle.v_design.specs.Expressions.{up_from}
use Rattle.v_design.specs.WellFormed.{most_parts}
use Rattle.v_tree.specs.Trees.{Identifier, SourceModule, same_name}
use Rattle.v_names.specs.Faults.{DeclaredTwice, fault_if, same_place}
use Rattle.v_names.specs.Readings.{is_empty}
use Rattle.v_names.specs.Scopes.{Scope}
use Rattle.v_names.specs.SizedLaws.{and-left, and-right}
use Rattle.v_names.specs.Names.{Declaration, declarations_of, is_port, is_plain, of_name, joined_declaration, first_of_name, first_declarations, names_declared, GivenParameter, scope_of, may_follow}
use Rattle.v_names.specs.Names.{declared_bounds, range_of, same_range, twice_faults, module_name_faults, names}
use Rattle.graph_order.specs.ListLaws.{sum_by-none, AllHold-slice_get}
use Rattle.flat_laws.specs.Lists.{same_some, AllHold-from, filter-at}
use Rattle.flat_laws.specs.Sizes.Complete.{append-none}
use Rattle.flat_laws.specs.Hierarchy.Given.{equal-name, name-same, both-true}
use Rattle.flat_laws.specs.Hierarchy.Processes.{unless_faulty-ok}
use Rattle.flat_laws.specs.Names.Spelled.{IsSpelled, dot_or, up_to_dot, one_if, one_if-most, sum-once}

-- the names of a unit that is read from a text are spelled as names are, and each declaration of a module has a place of its own
pub record IsNamedUnit (modules : List SourceModule) : Type 0 where
  pub spelled : (i : ℕ) (m : SourceModule) → slice_get modules i ≡ Some m → AllHold (λ (d : Declaration). IsSpelled d.name) (declarations_of m)
  pub placed : (i : ℕ) (m : SourceModule) → slice_get modules i ≡ Some m → (k l : ℕ) (one other : Declaration) → slice_get (declarations_of m) k ≡ Some one →
      slice_get (declarations_of m) l ≡ Some other → one.place ≡ other.place → k ≡ l

-- a module of such a unit, in which nothing is declared twice
pub record IsOnceIn (m : SourceModule) (scope : Scope) : Type 0 where
  pub spelled : AllHold (λ (d : Declaration). IsSpelled d.name) (declarations_of m)
  pub placed : (k l : ℕ) (one other : Declaration) → slice_get (declarations_of m) k ≡ Some one → slice_get (declarations_of m) l ≡ Some other → one.place ≡ other.place → k ≡ l
  pub once : twice_faults scope [] (declarations_of m) ≡ []

pub once-in : (modules : List SourceModule) → IsNamedUnit modules → (i : ℕ) (m : SourceModule) → slice_get modules i ≡ Some m → (given : List GivenParameter) (scope : Scope) →
    names m given ≡ Ok scope → IsOnceIn m scope
once-in modules unit i m at given scope e =
    let all = scope_of m given in
    let ok = unless_faulty-ok (module_name_faults all m) all scope e in
    let none : module_name_faults scope m ≡ [] = ap (λ s. module_name_faults s m) (sym ok.1) ∙ ok.0 in
    record {
      spelled = unit.spelled i m at;
      placed = unit.placed i m at;
      once = (append-none (twice_faults scope [] (declarations_of m)) _ none).0;
    }

-- Places

place-equal : (one other : SourcePlace) → same_place one other ≡ true → one ≡ other
place-equal one other e =
    let line = eqb-true one.line other.line (and-left (nat_eq one.line other.line) (nat_eq one.column other.column) e) in
    let column = eqb-true one.column other.column (and-right (nat_eq one.line other.line) (nat_eq one.column other.column) e) in
    ap₂ (λ l c. record { line = l; column = c }) line column

place-same : (place : SourcePlace) → same_place place place ≡ true
place-same place = both-true (nat_eq place.line place.line) (nat_eq place.column place.column) (eq-eqb place.line place.line refl) (eq-eqb place.column place.column refl)

-- The first declaration of a name

-- of each name there is one at most, and none that stood before
first-once : (name : Identifier) (all earlier rest : List Declaration) → length (of_name name (first_declarations all earlier rest)) ≤ one_if (is_empty (of_name name earlier))
first-once name all earlier [] = omega arith
first-once name all earlier (d ∷ rest) = by_name (same_name d.name name) refl (is_empty (of_name d.name earlier)) refl (first-once name all (d ∷ earlier) rest)
  where
    by_name : (same : Bool) → same_name d.name name ≡ same → (test : Bool) → is_empty (of_name d.name earlier) ≡ test →
        length (of_name name (first_declarations all (d ∷ earlier) rest)) ≤ one_if (is_empty (of_name name (d ∷ earlier))) →
        length (of_name name (first_of_name test (joined_declaration all d) (first_declarations all (d ∷ earlier) rest))) ≤ one_if (is_empty (of_name name earlier))
    by_name true same test tested more =
        let is = equal-name d.name name same in
        let later = of_name name (first_declarations all (d ∷ earlier) rest) in
        let none : one_if (is_empty (of_name name (d ∷ earlier))) ≡ 0 = ap (λ l. one_if (is_empty l)) (cond-true (same_name d.name name) (d ∷ of_name name earlier) (of_name name earlier) same) in
        let first : is_empty (of_name name earlier) ≡ test = ap (λ n. is_empty (of_name n earlier)) (sym is) ∙ tested in
        by_test test first later refl (omega (arith, more, none))
      where
        by_test : (t : Bool) → is_empty (of_name name earlier) ≡ t → (later : List Declaration) → of_name name (first_declarations all (d ∷ earlier) rest) ≡ later → length later ≤ 0 →
            length (of_name name (first_of_name t (joined_declaration all d) (first_declarations all (d ∷ earlier) rest))) ≤ one_if (is_empty (of_name name earlier))
        by_test true first later e few =
            let kept = cond-true (same_name d.name name) (joined_declaration all d ∷ of_name name (first_declarations all (d ∷ earlier) rest))
            (of_name name (first_declarations all (d ∷ earlier) rest)) same in
            let long : length (of_name name (joined_declaration all d ∷ first_declarations all (d ∷ earlier) rest)) ≡ suc (length later) = ap length kept ∙ ap (λ l. suc (length l)) e in
            omega (arith, long, few, ap one_if first)
        by_test false first later e few = omega (arith, ap length e, few)
    by_name false same test tested more =
        let kept : of_name name (d ∷ earlier) ≡ of_name name earlier = cond-false (same_name d.name name) (d ∷ of_name name earlier) (of_name name earlier) same in
        by_test test (omega (arith, more, ap (λ l. one_if (is_empty l)) kept))
      where
        by_test : (t : Bool) → length (of_name name (first_declarations all (d ∷ earlier) rest)) ≤ one_if (is_empty (of_name name earlier)) →
            length (of_name name (first_of_name t (joined_declaration all d) (first_declarations all (d ∷ earlier) rest))) ≤ one_if (is_empty (of_name name earlier))
        by_test true more =
            let kept = cond-false (same_name d.name name) (joined_declaration all d ∷ of_name name (first_declarations all (d ∷ earlier) rest))
            (of_name name (first_declarations all (d ∷ earlier) rest)) same in
            omega (arith, more, ap length kept)
        by_test false more = more

pub name-once : (m : SourceModule) (name : Identifier) → length (of_name name (names_declared m)) ≤ 1
name-once m name = first-once name (declarations_of m) [] (declarations_of m)

-- what is declared under its name alone is the first of its name
follows-none : (scope : Scope) (before : List Declaration) (d : Declaration) → is_plain d.declared ≡ false → may_follow scope before d ≡ true → is_empty before ≡ true
follows-none scope [] d plain e = refl
follows-none scope (port ∷ []) d plain e =
    let never : is_plain d.declared ≡ true = among (is_port port.declared) (is_plain d.declared)
    (same_range (range_of scope (declared_bounds port.declared)) (range_of scope (declared_bounds d.declared))) e in
    absurd (cc)
  where
    among : (a b c : Bool) → (a && b && c) ≡ true → b ≡ true
    among true true c h = refl
    among true false c h = absurd (cc)
    among false b c h = absurd (cc)
follows-none scope (one ∷ two ∷ rest) d plain e = absurd (cc)

not-fault : (test : Bool) (d : Declaration) → fault_if (not test) d.place DeclaredTwice ≡ [] → test ≡ true
not-fault true d e = refl
not-fault false d e = absurd (cc)

first-own : (scope : Scope) (all earlier rest : List Declaration) (k : ℕ) (d : Declaration) → twice_faults scope earlier rest ≡ [] → slice_get rest k ≡ Some d → is_plain d.declared ≡ false →
    (j : ℕ) × (slice_get (first_declarations all earlier rest) j ≡ Some (joined_declaration all d))
first-own scope all earlier [] k d e at plain = absurd (cc)
first-own scope all earlier (first ∷ rest) zero d e at plain =
    let is = same_some first d at in
    let none = append-none (fault_if (not (may_follow scope (of_name first.name earlier) first)) first.place DeclaredTwice) (twice_faults scope (first ∷ earlier) rest) e in
    let empty = follows-none scope (of_name first.name earlier) first (ap (λ (o : Declaration). is_plain o.declared) is ∙ plain)
    (not-fault (may_follow scope (of_name first.name earlier) first) first none.0) in
    (0, ap (λ t. slice_get (first_of_name t (joined_declaration all first) (first_declarations all (first ∷ earlier) rest)) 0) empty ∙ ap (λ o. Some (joined_declaration all o)) is)
first-own scope all earlier (first ∷ rest) (suc k) d e at plain =
    let none = append-none (fault_if (not (may_follow scope (of_name first.name earlier) first)) first.place DeclaredTwice) (twice_faults scope (first ∷ earlier) rest) e in
    let r = first-own scope all (first ∷ earlier) rest k d none.1 at plain in
    by_test (is_empty (of_name first.name earlier)) r.0 r.1
  where
    by_test : (test : Bool) (j : ℕ) → slice_get (first_declarations all (first ∷ earlier) rest) j ≡ Some (joined_declaration all d) →
        (i : ℕ) × (slice_get (first_of_name test (joined_declaration all first) (first_declarations all (first ∷ earlier) rest)) i ≡ Some (joined_declaration all d))
    by_test true j there = (suc j, there)
    by_test false j there = (j, there)

-- where a name of a module stands first
abbrev pub first_places : SourceModule → Declaration → List Declaration
first_places m d = filter (λ (own : Declaration). same_place own.place d.place) (of_name d.name (names_declared m))

pub first-place : (m : SourceModule) (scope : Scope) → IsOnceIn m scope → (k : ℕ) (d : Declaration) → slice_get (declarations_of m) k ≡ Some d → is_plain d.declared ≡ false →
    1 ≤ length (first_places m d)
first-place m scope is k d at plain =
    let r = first-own scope (declarations_of m) [] (declarations_of m) k d is.once at plain in
    let own = joined_declaration (declarations_of m) d in
    let named = filter-at (λ (o : Declaration). same_name o.name d.name) (names_declared m) r.0 own r.1 (name-same d.name) in
    let placed = filter-at (λ (o : Declaration). same_place o.place d.place) (of_name d.name (names_declared m)) named.0 own named.1 (place-same d.place) in
    let within = slice_get_within (first_places m d) placed.0 own placed.1 in
    omega (arith, within)

-- What a name is bound to

abbrev pub number_if : Bool → ℕ → ℕ
number_if true number = number
number_if false number = 0

-- how often a declaration is the first one of a name
abbrev pub weight : SourceModule → Identifier → Declaration → ℕ
weight m head d = number_if (same_name d.name head) (length (first_places m d))

-- the same of a name behind a path, up to its first `.`
abbrev pub weight_behind : SourceModule → Option Identifier → Declaration → ℕ
weight_behind m None d = 0
weight_behind m (Some rest) d = weight m (up_to_dot rest) d

-- whether a name behind a path is that of the gate without a name that has a number
abbrev pub gate_weight : Option Identifier → ℕ → ℕ
gate_weight None number = 0
gate_weight (Some rest) number = one_if (same_name (codes "$g" ++ decimal number) rest)

-- whether a name stands behind a path
abbrev pub begins : Option Identifier → ℕ
begins None = 0
begins (Some rest) = 1

one-counted : (test : Bool) → 1 ≤ one_if test → test ≡ true
one-counted true some = refl
one-counted false some = absurd (omega (arith, some))

number-counted : (test : Bool) (number : ℕ) → 1 ≤ number_if test number → (test ≡ true) × (1 ≤ number)
number-counted true number some = (refl, some)
number-counted false number some = absurd (omega (arith, some))

number-none : (test : Bool) (number : ℕ) → (test ≡ true → ⊥) → number_if test number ≡ 0
number-none true number never = absurd (never refl)
number-none false number never = refl

one-none : (test : Bool) → (test ≡ true → ⊥) → one_if test ≡ 0
one-none true never = absurd (never refl)
one-none false never = refl

filter-few : {A : Type 0} (test : A → Bool) (xs : List A) → length (filter test xs) ≤ length xs
filter-few test [] = omega arith
filter-few test (x ∷ xs) =
    elim (cases_Bool (test x)) [
      | inl passes ↦ omega (arith, ap length (cond-true (test x) (x ∷ filter test xs) (filter test xs) passes), filter-few test xs)
      | inr fails ↦ omega (arith, ap length (cond-false (test x) (x ∷ filter test xs) (filter test xs) fails), filter-few test xs)
    ]

-- one of a list that has one at most
only-one : {A : Type 0} (xs : List A) → length xs ≤ 1 → (test other : A → Bool) → 1 ≤ length (filter test xs) → 1 ≤ length (filter other xs) → (x : A) × (test x ≡ true) × (other x ≡ true)
only-one [] few test other one two = absurd (omega (arith, one))
only-one (x ∷ []) few test other one two = (x, kept test one, kept other two)
  where
    kept : (t : _) → 1 ≤ length (filter t (x ∷ [])) → t x ≡ true
    kept t some = by_test (t x) refl
      where
        by_test : (b : Bool) → t x ≡ b → t x ≡ true
        by_test true e = e
        by_test false e = absurd (omega (arith, some, ap length (cond-false (t x) (x ∷ []) [] e)))
only-one (x ∷ y ∷ xs) few test other one two = absurd (omega (arith, few))

weight-most : (m : SourceModule) (head : Identifier) (d : Declaration) → weight m head d ≤ 1
weight-most m head d = by_test (same_name d.name head)
  where
    by_test : (test : Bool) → number_if test (length (first_places m d)) ≤ 1
    by_test true = omega (arith, filter-few (λ (own : Declaration). same_place own.place d.place) (of_name d.name (names_declared m)), name-once m d.name)
    by_test false = omega arith

-- one name is declared first at one place
weights-once : (m : SourceModule) (scope : Scope) → IsOnceIn m scope → (head : Identifier) → sum_by (weight m head) (declarations_of m) ≤ 1
weights-once m scope is head =
    sum-once (weight m head) (declarations_of m) (AllHold-from (λ d. weight m head d ≤ 1) (declarations_of m) (λ i d at. weight-most m head d))
    (λ i j one other at_one at_other less some more.
    let first = number-counted (same_name one.name head) (length (first_places m one)) some in
    let second = number-counted (same_name other.name head) (length (first_places m other)) more in
    let names = equal-name one.name head first.0 ∙ sym (equal-name other.name head second.0) in
    let own = only-one (of_name one.name (names_declared m)) (name-once m one.name) (λ (o : Declaration). same_place o.place one.place) (λ (o : Declaration). same_place o.place other.place) first.1
    (let moved : length (first_places m other) ≡ length (filter (λ (o : Declaration). same_place o.place other.place) (of_name one.name (names_declared m))) =
    ap (λ n. length (filter (λ (o : Declaration). same_place o.place other.place) (of_name n (names_declared m)))) (sym names) in
    omega (arith, second.1, moved)) in
    let same = is.placed i j one other at_one at_other (sym (place-equal own.0.place one.place own.1) ∙ place-equal own.0.place other.place own.2) in
    omega (arith, same, less))

-- one number gives one name of a gate
gates-once : (rest : Identifier) (count : ℕ) → count ≤ most_parts → sum_by (gate_weight (Some rest)) (up_from 1 count) ≤ 1
gates-once rest count few =
    sum-once (gate_weight (Some rest)) (up_from 1 count) (AllHold-from (λ n. gate_weight (Some rest) n ≤ 1) (up_from 1 count) (λ i n at. one_if-most (same_name (codes "$g" ++ decimal n) rest)))
    (λ i j one other at_one at_other less some more.
    let first = equal-name (codes "$g" ++ decimal one) rest (one-counted (same_name (codes "$g" ++ decimal one) rest) some) in
    let second = equal-name (codes "$g" ++ decimal other) rest (one-counted (same_name (codes "$g" ++ decimal other) rest) more) in
    let numerals : decimal one ≡ decimal other = behind_mark (decimal one) (decimal other) (first ∙ sym second) in
    let is = at-up_from 1 count i one at_one in
    let other_is = at-up_from 1 count j other at_other in
    let same = decimal_injective one other (omega (arith, is.0, is.1, few)) (omega (arith, other_is.0, other_is.1, few)) numerals in
    omega (arith, is.0, other_is.0, same, less))
  where
    behind_mark : (a b : List ℕ) → codes "$g" ++ a ≡ codes "$g" ++ b → a ≡ b
    behind_mark a b e = cc

    at-up_from : (start count i n : ℕ) → slice_get (up_from start count) i ≡ Some n → (n ≡ start + i) × (i < count)
    at-up_from start zero i n at = absurd (cc)
    at-up_from start (suc count) zero n at = (omega (arith, same_some start n at), omega arith)
    at-up_from start (suc count) (suc i) n at = let r = at-up_from (start + 1) count i n at in (omega (arith, r.0), omega (arith, r.1))

-- a name behind a path is that of one declaration or of one gate without a name
pub bound-once : (m : SourceModule) (scope : Scope) → IsOnceIn m scope → (count : ℕ) → count ≤ most_parts → (rest : Option Identifier) →
    sum_by (weight_behind m rest) (declarations_of m) + sum_by (gate_weight rest) (up_from 1 count) ≤ begins rest
bound-once m scope is count few None =
    omega (arith, sum_by-none (weight_behind m None) (declarations_of m) (λ i d at. refl), sum_by-none (gate_weight None) (up_from 1 count) (λ i n at. refl))
bound-once m scope is count few (Some []) =
    let none = sum_by-none (gate_weight (Some [])) (up_from 1 count) (λ i n at. one-none (same_name (codes "$g" ++ decimal n) []) (λ e. absurd (cc))) in
    omega (arith, none, weights-once m scope is [])
bound-once m scope is count few (Some (byte ∷ rest)) = by_byte (nat_lt 57 byte) refl
  where
    never_spelled : (name : Identifier) → IsSpelled name → byte ≤ 57 → same_name name (up_to_dot (byte ∷ rest)) ≡ true → ⊥
    never_spelled [] h low e = h
    never_spelled (first ∷ name) h low e = by_dot (nat_eq byte 46) (equal-name (first ∷ name) (up_to_dot (byte ∷ rest)) e)
      where
        by_dot : (test : Bool) → first ∷ name ≡ dot_or test byte (up_to_dot rest) → ⊥
        by_dot true d = absurd (cc)
        by_dot false d = let same : first ≡ byte = cc in omega (arith, same, low, h.0)

    by_byte : (test : Bool) → nat_lt 57 byte ≡ test → sum_by (weight_behind m (Some (byte ∷ rest))) (declarations_of m) + sum_by (gate_weight (Some (byte ∷ rest))) (up_from 1 count) ≤ 1
    by_byte true high =
        let none = sum_by-none (gate_weight (Some (byte ∷ rest))) (up_from 1 count)
        (λ i n at. one-none (same_name (codes "$g" ++ decimal n) (byte ∷ rest))
        (λ e. let same = equal-name (codes "$g" ++ decimal n) (byte ∷ rest) e in let mark : 36 ≡ byte = cc in omega (arith, mark, ltb-true 57 byte high))) in
        omega (arith, none, weights-once m scope is (up_to_dot (byte ∷ rest)))
    by_byte false low =
        let none = sum_by-none (weight_behind m (Some (byte ∷ rest))) (declarations_of m)
        (λ i d at. number-none (same_name d.name (up_to_dot (byte ∷ rest))) (length (first_places m d))
        (never_spelled d.name (AllHold-slice_get (λ (o : Declaration). IsSpelled o.name) (declarations_of m) i d is.spelled at) (ltb-false 57 byte low))) in
        omega (arith, none, gates-once (byte ∷ rest) count few)
