-- The processes that a write or an update of nets makes ready, and the waits that it ends, are those that its changes determine (IEEE 1364-2001, clause 9.7).
use Rattle.std.proofs.Common.{◌≡◌, ℕ, zero, suc, List, [], ◌∷◌, ◌++◌, map, length, Bool, true, false, not, ◌&&◌, ◌||◌, refl, sym, ap, subst, ◌∙◌, ◌⊎◌, ◌≤◌, inl, inr, arith}
use Rattle.std.specs.Prelude.{Option, Some, None, filter, nat_eq, cond}
use Rattle.std.proofs.lemmas.Bool.{cases_Bool, cases_eq, eq-eqb, eqb-true, ne_eqb, or_cases, false≢true}
use Rattle.four_value.specs.Values.{LogicValue, same_value, part_of, edge_matches, bit_at}
use Rattle.four_value.specs.ValueLaws.{same_value-refl, from_same_value}
use Rattle.four_value.specs.Bits.{is_posedge, is_negedge}
use Rattle.four_value.specs.declared.logic.Bit.{Bit}
use Rattle.four_value.specs.declared.logic.Bit.TheVariants.{Zero, One, X, Z}
use Rattle.four_value.specs.declared.logic.Edge.{Edge}
use Rattle.four_value.specs.declared.logic.Edge.TheVariants.{Any, Pos, Neg}
use Rattle.vf_base.specs.Lists.{has, joined, map_numbered, change_at, AllHold, without_repeats, fresh_only}
use Rattle.v_design.specs.Trees.{Entry}
use Rattle.v_design.specs.Designs.{FlatNode, FlatDesign, Machine}
use Rattle.v_design.specs.Paths.{net_pieces}
use Rattle.v_design.specs.Assignments.{value_at}
use Rattle.v_design.specs.Processes.{Activity, Ready, Waiting, Asleep, Postponed, Done, Task}
use Rattle.vf_base.specs.Base.{SourcePlace}
use Rattle.v_design.specs.States.{State, ProcessState, is_ready, entry_matches, some_entry, ready_if, woken, woken_process, with_value, with_values}
use Rattle.v_design.specs.Accesses.{ObjectAccess, Writing, is_waiting, waiting_entries, waiting_line, ended_of, ended_by, ended_accesses, net_write, net_accesses, net_ended_by, some_change_matches}
use Rattle.value_change.specs.Changes.{ObjectChange, matches_one, ready_by, woken_by, ended_by_changes, changed_before, changes_between}

-- the write of a change, with the process and the line that it follows
abbrev pub write_of_change : ℕ → ℕ → ObjectChange → ObjectAccess
write_of_change process line change = record { act = Writing change.old change.new; object = change.object; process = process; line = line }

-- the change that a write makes: none where the object had the value
abbrev pub changes_of_write : ℕ → LogicValue → LogicValue → List ObjectChange
changes_of_write object old new = changed_before object old new []

-- Entries

or-nothing : (b : Bool) → (b || false) ≡ b
or-nothing true = refl
or-nothing false = refl

and-nothing : (b : Bool) → (b && false) ≡ false
and-nothing true = refl
and-nothing false = refl

edge-same : (edge : Edge) (v : LogicValue) → edge_matches edge v v ≡ false
edge-same Any v = ap not (same_value-refl v)
edge-same Pos v = rises (bit_at v 0)
  where
    rises : (b : Bit) → is_posedge b b ≡ false
    rises Zero = refl
    rises One = refl
    rises X = refl
    rises Z = refl
edge-same Neg v = falls (bit_at v 0)
  where
    falls : (b : Bit) → is_negedge b b ≡ false
    falls Zero = refl
    falls One = refl
    falls X = refl
    falls Z = refl

-- no entry matches a change from a value to itself
matches-same : (object : ℕ) (old new : LogicValue) (entry : Entry) → old ≡ new → entry_matches object old new entry ≡ false
matches-same object old new entry e =
    ap (λ v. nat_eq entry.object object && edge_matches entry.edge (part_of old entry.low entry.width) (part_of v entry.low entry.width)) (sym e)
    ∙ ap (λ b. nat_eq entry.object object && b) (edge-same entry.edge (part_of old entry.low entry.width))
    ∙ and-nothing (nat_eq entry.object object)

-- an entry matches the change of a write where it matches the write
matches-write : (object : ℕ) (old new : LogicValue) (entry : Entry) → matches_one (changes_of_write object old new) entry ≡ entry_matches object old new entry
matches-write object old new entry =
    elim (cases_Bool (same_value old new)) [
      | inl same ↦
          ap (λ b. matches_one (elim b [ true ↦ [] | false ↦ record { object = object; old = old; new = new } ∷ [] ]) entry) same
          ∙ sym (matches-same object old new entry (from_same_value old new same))
      | inr differ ↦
          ap (λ b. matches_one (elim b [ true ↦ [] | false ↦ record { object = object; old = old; new = new } ∷ [] ]) entry) differ
          ∙ or-nothing (entry_matches object old new entry)
    ]

-- Processes

woken-is : (object : ℕ) (old new : LogicValue) (act : Activity) → woken object old new act ≡ ready_by (entry_matches object old new) act
woken-is object old new (Ready tasks operands) = refl
woken-is object old new (Waiting place entries tasks) = refl
woken-is object old new (Asleep time tasks) = refl
woken-is object old new (Postponed tasks) = refl
woken-is object old new Done = refl

-- one write makes those processes ready that its change does
woken-process : (object : ℕ) (old new : LogicValue) (changes : List ObjectChange) (process : ProcessState) → ((entry : Entry) → matches_one changes entry ≡ entry_matches object old new entry) →
    woken_process object old new process ≡ woken_by changes process
woken-process object old new changes process h =
    let is : woken object old new process.activity ≡ ready_by (matches_one changes) process.activity =
    woken-is object old new process.activity ∙ (λ i. ready_by (λ entry. sym (h entry) i) process.activity) in
    λ i. record { activity = is i; later = process.later; lane = process.lane }

map-alike : {A B : Type 0} (f g : A → B) (xs : List A) → ((x : A) → f x ≡ g x) → map f xs ≡ map g xs
map-alike f g [] h = refl
map-alike f g (x ∷ xs) h = λ i. h x i ∷ map-alike f g xs h i

map-twice : {A B C : Type 0} (f : B → C) (g : A → B) (h : A → C) (xs : List A) → ((x : A) → f (g x) ≡ h x) → map f (map g xs) ≡ map h xs
map-twice f g h [] e = refl
map-twice f g h (x ∷ xs) e = λ i. e x i ∷ map-twice f g h xs e i

-- one write wakes by its change
pub wakes-by-change : (change : ObjectChange) (processes : List ProcessState) → map (woken_process change.object change.old change.new) processes ≡ map (woken_by (change ∷ [])) processes
wakes-by-change change processes =
    map-alike (woken_process change.object change.old change.new) (woken_by (change ∷ [])) processes
    (λ process. woken-process change.object change.old change.new (change ∷ []) process (λ entry. or-nothing (entry_matches change.object change.old change.new entry)))

-- and where nothing changes by none
pub wakes-by-write : (object : ℕ) (old new : LogicValue) (processes : List ProcessState) → map (woken_process object old new) processes ≡ map (woken_by (changes_of_write object old new)) processes
wakes-by-write object old new processes =
    map-alike (woken_process object old new) (woken_by (changes_of_write object old new)) processes
    (λ process. woken-process object old new (changes_of_write object old new) process (matches-write object old new))

-- the waits of a process that a test ends
abbrev pub ended_by_test : (Entry → Bool) → ℕ → ProcessState → List ObjectAccess
ended_by_test test process state = ended_of (some_entry test (waiting_entries state.activity)) test process (waiting_line state.activity) (waiting_entries state.activity)

ended-alike : (one other : Entry → Bool) (processes : List ProcessState) → ((entry : Entry) → one entry ≡ other entry) →
    joined (map_numbered (ended_by_test one) 0 processes) ≡ joined (map_numbered (ended_by_test other) 0 processes)
ended-alike one other processes h = λ i. joined (map_numbered (ended_by_test (λ entry. h entry i)) 0 processes)

-- one write ends the waits that its change ends
pub ends-by-change : (change : ObjectChange) (state : State) → ended_accesses change.object change.old change.new state ≡ joined (map_numbered (ended_by_changes (change ∷ [])) 0 state.processes)
ends-by-change change state =
    ended-alike (entry_matches change.object change.old change.new) (matches_one (change ∷ [])) state.processes (λ entry. sym (or-nothing (entry_matches change.object change.old change.new entry)))

-- and where nothing changes none
pub ends-by-write : (object : ℕ) (old new : LogicValue) (state : State) → ended_accesses object old new state ≡ joined
    (map_numbered (ended_by_changes (changes_of_write object old new)) 0 state.processes)
ends-by-write object old new state = ended-alike (entry_matches object old new) (matches_one (changes_of_write object old new)) state.processes (λ entry. sym (matches-write object old new entry))

-- Updates of nets

-- no number stands twice in the list
abbrev pub AreDistinct : List ℕ → Type 0
AreDistinct [] = Unit {0}
AreDistinct (x ∷ xs) = (has xs x ≡ false) × AreDistinct xs

or-neither : (b c : Bool) → (b || c) ≡ false → (b ≡ false) × (c ≡ false)
or-neither true c e = absurd (false≢true (sym e))
or-neither false c e = (refl, e)

abbrev pub list_rest : List ℕ → List ℕ
list_rest [] = []
list_rest (x ∷ xs) = xs

no-longer : (seen xs : List ℕ) → length (without_repeats seen xs) ≤ length xs
no-longer seen [] = omega arith
no-longer seen (x ∷ xs) = go (has seen x) (no-longer (x ∷ seen) xs)
  where
    go : (b : Bool) → length (without_repeats (x ∷ seen) xs) ≤ length xs → length (fresh_only b x (without_repeats (x ∷ seen) xs)) ≤ suc (length xs)
    go true h = omega (arith, h)
    go false h = omega (arith, h)

distinct-from : (seen xs : List ℕ) → without_repeats seen xs ≡ xs → AreDistinct xs × ((y : ℕ) → has xs y ≡ true → has seen y ≡ false)
distinct-from seen [] e = (tt, λ y h. absurd (false≢true h))
distinct-from seen (x ∷ xs) e = go (has seen x) refl e (distinct-from (x ∷ seen) xs)
  where
    too_long : (n m : ℕ) → n ≤ m → n ≡ suc m → ⊥
    too_long n m a b = omega (arith, a, b)

    new : has seen x ≡ false → (AreDistinct xs × ((y : ℕ) → has xs y ≡ true → has (x ∷ seen) y ≡ false)) → AreDistinct (x ∷ xs) × ((y : ℕ) → has (x ∷ xs) y ≡ true → has seen y ≡ false)
    new h d = (
      (elim (cases_Bool (has xs x)) [ inl i ↦ absurd (false≢true (sym (or-neither (nat_eq x x) (has seen x) (d.1 x i)).0 ∙ eq-eqb x x refl)) | inr i ↦ i ], d.0),
      λ y i. elim (or_cases (nat_eq x y) (has xs y) i) [
        | inl same ↦ subst (λ z. has seen z ≡ false) (eqb-true x y same) h
        | inr there ↦ (or-neither (nat_eq x y) (has seen y) (d.1 y there)).1
      ],
    )

    go : (b : Bool) → has seen x ≡ b → fresh_only b x (without_repeats (x ∷ seen) xs) ≡ x ∷ xs →
        (without_repeats (x ∷ seen) xs ≡ xs → AreDistinct xs × ((y : ℕ) → has xs y ≡ true → has (x ∷ seen) y ≡ false)) →
        AreDistinct (x ∷ xs) × ((y : ℕ) → has (x ∷ xs) y ≡ true → has seen y ≡ false)
    go true s f deeper = absurd (too_long (length (without_repeats (x ∷ seen) xs)) (length xs) (no-longer (x ∷ seen) xs) (ap length f))
    go false s f deeper = new s (deeper (ap list_rest f))

-- numbers that each stand at their first occurrence stand once
pub distinct-once : (xs : List ℕ) → without_repeats [] xs ≡ xs → AreDistinct xs
distinct-once xs e = (distinct-from [] xs e).0

-- values have the widths of what the objects hold
abbrev pub FitValues : List LogicValue → List ℕ → List LogicValue → Type 0
FitValues held [] values = Unit {0}
FitValues held (object ∷ objects) [] = Unit {0}
FitValues held (object ∷ objects) (value ∷ values) = (length value ≡ length (value_at held object)) × FitValues held objects values

-- an entry matches one of the changes between two lists of all values, of some objects, where its object is one of them and its change matches
pub matches-between : (old new : List LogicValue) (objects : List ℕ) (entry : Entry) →
    matches_one (changes_between old new objects) entry ≡ (has objects entry.object && entry_matches entry.object (value_at old entry.object) (value_at new entry.object) entry)
matches-between old new [] entry = refl
matches-between old new (object ∷ objects) entry =
    one (same_value (value_at old object) (value_at new object)) refl
    ∙ ap (λ b. entry_matches object (value_at old object) (value_at new object) entry || b) (matches-between old new objects entry)
    ∙ here (cases_eq object entry.object)
  where
    one : (b : Bool) → same_value (value_at old object) (value_at new object) ≡ b →
        matches_one (elim b [ true ↦ changes_between old new objects | false ↦ record { object = object; old = value_at old object; new = value_at new object } ∷ changes_between old new objects ])
        entry
        ≡ (entry_matches object (value_at old object) (value_at new object) entry || matches_one (changes_between old new objects) entry)
    one true same =
        ap (λ b. b || matches_one (changes_between old new objects) entry)
        (sym (matches-same object (value_at old object) (value_at new object) entry (from_same_value (value_at old object) (value_at new object) same)))
    one false differ = refl

    either : (a b : Bool) → (a || (b && a)) ≡ a
    either true b = refl
    either false b = and-nothing b

    here : (object ≡ entry.object) ⊎ (object ≡ entry.object → ⊥) →
        (entry_matches object (value_at old object) (value_at new object) entry || (has objects entry.object
        && entry_matches entry.object (value_at old entry.object) (value_at new entry.object) entry))
        ≡ ((nat_eq object entry.object || has objects entry.object) && entry_matches entry.object (value_at old entry.object) (value_at new entry.object) entry)
    here (inl same) =
        ap (λ o. entry_matches o (value_at old o) (value_at new o) entry || (has objects entry.object && entry_matches entry.object (value_at old entry.object) (value_at new entry.object) entry)) same
        ∙ either (entry_matches entry.object (value_at old entry.object) (value_at new entry.object) entry) (has objects entry.object)
        ∙ ap (λ b. (b || has objects entry.object) && entry_matches entry.object (value_at old entry.object) (value_at new entry.object) entry) (sym (eq-eqb object entry.object same))
    here (inr other) =
        ap
        (λ b. (b && edge_matches entry.edge (part_of (value_at old object) entry.low entry.width) (part_of (value_at new object) entry.low entry.width))
        || (has objects entry.object && entry_matches entry.object (value_at old entry.object) (value_at new entry.object) entry)) (ne_eqb entry.object object (λ e. other (sym e)))
        ∙ ap (λ b. (b || has objects entry.object) && entry_matches entry.object (value_at old entry.object) (value_at new entry.object) entry) (sym (ne_eqb object entry.object other))

-- Values

value-here : (values : List LogicValue) (object : ℕ) (new : LogicValue) → length new ≡ length (value_at values object) → value_at (change_at values object (λ old. new)) object ≡ new
value-here [] object [] e = refl
value-here [] object (b ∷ new) e = absurd (omega (arith, e))
value-here (v ∷ values) zero new e = refl
value-here (v ∷ values) (suc object) new e = value-here values object new e

value-elsewhere : (values : List LogicValue) (object other : ℕ) (new : LogicValue) → (object ≡ other → ⊥) → value_at (change_at values object (λ old. new)) other ≡ value_at values other
value-elsewhere [] object other new d = refl
value-elsewhere (v ∷ values) zero zero new d = absurd (d refl)
value-elsewhere (v ∷ values) zero (suc other) new d = refl
value-elsewhere (v ∷ values) (suc object) zero new d = refl
value-elsewhere (v ∷ values) (suc object) (suc other) new d = value-elsewhere values object other new (λ e. d (ap suc e))

width-stays : (values : List LogicValue) (object other : ℕ) (new : LogicValue) → length new ≡ length (value_at values object) →
    length (value_at (change_at values object (λ old. new)) other) ≡ length (value_at values other)
width-stays [] object other new e = refl
width-stays (v ∷ values) zero zero new e = e
width-stays (v ∷ values) zero (suc other) new e = refl
width-stays (v ∷ values) (suc object) zero new e = refl
width-stays (v ∷ values) (suc object) (suc other) new e = width-stays values object other new e

still-fit : (held : List LogicValue) (object : ℕ) (new : LogicValue) (objects : List ℕ) (values : List LogicValue) → length new ≡ length (value_at held object) → FitValues held objects values →
    FitValues (change_at held object (λ old. new)) objects values
still-fit held object new [] values e fit = tt
still-fit held object new (x ∷ objects) [] e fit = tt
still-fit held object new (x ∷ objects) (value ∷ values) e fit = (fit.0 ∙ sym (width-stays held object x new e), still-fit held object new objects values e fit.1)

-- what isn't written stays
pub values-elsewhere : (machine : Machine) (objects : List ℕ) (values : List LogicValue) (state : State) (x : ℕ) → has objects x ≡ false →
    value_at (with_values machine objects values state).values x ≡ value_at state.values x
values-elsewhere machine [] values state x none = refl
values-elsewhere machine (object ∷ objects) [] state x none = refl
values-elsewhere machine (object ∷ objects) (value ∷ values) state x none =
    let apart = not-first object x objects (cases_eq object x) none in
    values-elsewhere machine objects values (with_value machine object value state) x apart.1 ∙ value-elsewhere state.values object x value apart.0
  where
    not-first : (object x : ℕ) (objects : List ℕ) → (object ≡ x) ⊎ (object ≡ x → ⊥) → (nat_eq object x || has objects x) ≡ false → (object ≡ x → ⊥) × (has objects x ≡ false)
    not-first object x objects (inl same) h = absurd (false≢true (sym h ∙ ap (λ b. b || has objects x) (eq-eqb object x same)))
    not-first object x objects (inr other) h = (other, sym (ap (λ b. b || has objects x) (ne_eqb object x other)) ∙ h)

-- Tests one after the other

some-or : (t u w : Entry → Bool) (entries : List Entry) → ((entry : Entry) → t entry ≡ (u entry || w entry)) → some_entry t entries ≡ (some_entry u entries || some_entry w entries)
some-or t u w [] h = refl
some-or t u w (entry ∷ entries) h = (λ i. h entry i || some-or t u w entries h i) ∙ swapped (u entry) (w entry) (some_entry u entries) (some_entry w entries)
  where
    swapped : (a b c d : Bool) → ((a || b) || (c || d)) ≡ ((a || c) || (b || d))
    swapped true b c d = refl
    swapped false true true d = refl
    swapped false true false d = refl
    swapped false false c d = refl

ready-twice : (t u w : Entry → Bool) (act : Activity) → ((entry : Entry) → t entry ≡ (u entry || w entry)) → ready_by w (ready_by u act) ≡ ready_by t act
ready-twice t u w (Ready tasks operands) h = refl
ready-twice t u w (Waiting place entries tasks) h = go (some_entry u entries) ∙ ap (λ b. ready_if b (Waiting place entries tasks) tasks) (sym (some-or t u w entries h))
  where
    go : (b : Bool) → ready_by w (ready_if b (Waiting place entries tasks) tasks) ≡ ready_if (b || some_entry w entries) (Waiting place entries tasks) tasks
    go true = refl
    go false = refl
ready-twice t u w (Asleep time tasks) h = refl
ready-twice t u w (Postponed tasks) h = refl
ready-twice t u w Done h = refl

ready-never : (t : Entry → Bool) (act : Activity) → ((entry : Entry) → t entry ≡ false) → ready_by t act ≡ act
ready-never t (Ready tasks operands) h = refl
ready-never t (Waiting place entries tasks) h = ap (λ b. ready_if b (Waiting place entries tasks) tasks) (none entries)
  where
    none : (entries : List Entry) → some_entry t entries ≡ false
    none [] = refl
    none (entry ∷ entries) = λ i. h entry i || none entries i
ready-never t (Asleep time tasks) h = refl
ready-never t (Postponed tasks) h = refl
ready-never t Done h = refl

-- a process that is made ready where one of its entries passes a test
abbrev pub ready_process : (Entry → Bool) → ProcessState → ProcessState
ready_process test process = record process { activity = ready_by test process.activity }

ready-all-never : (t : Entry → Bool) (processes : List ProcessState) → ((entry : Entry) → t entry ≡ false) → map (ready_process t) processes ≡ processes
ready-all-never t [] h = refl
ready-all-never t (process ∷ processes) h = λ i. record { activity = ready-never t process.activity h i; later = process.later; lane = process.lane } ∷ ready-all-never t processes h i

unchanged-matches : (state : State) (objects : List ℕ) (entry : Entry) → some_change_matches state state objects entry ≡ false
unchanged-matches state objects entry =
    ap (λ b. has objects entry.object && b) (matches-same entry.object (value_at state.values entry.object) (value_at state.values entry.object) entry refl) ∙ and-nothing (has objects entry.object)

-- several writes make those ready whose entries match what they change in all
values-wake : (machine : Machine) (objects : List ℕ) (values : List LogicValue) (state : State) → AreDistinct objects → FitValues state.values objects values →
    (with_values machine objects values state).processes ≡ map (ready_process (some_change_matches state (with_values machine objects values state) objects)) state.processes
values-wake machine [] values state distinct fit = sym (ready-all-never (some_change_matches state state []) state.processes (unchanged-matches state []))
values-wake machine (object ∷ objects) [] state distinct fit = sym (ready-all-never (some_change_matches state state (object ∷ objects)) state.processes (unchanged-matches state (object ∷ objects)))
values-wake machine (object ∷ objects) (value ∷ values) state distinct fit =
    values-wake machine objects values middle distinct.1 (still-fit state.values object value objects values fit.0 fit.1)
    ∙ map-twice (ready_process (some_change_matches middle end objects)) (woken_process object (value_at state.values object) value)
    (ready_process (some_change_matches state end (object ∷ objects))) state.processes one
  where
    middle : State
    middle = with_value machine object value state

    end : State
    end = with_values machine objects values (with_value machine object value state)

    both : (entry : Entry) → some_change_matches state (with_values machine objects values (with_value machine object value state)) (object ∷ objects) entry
        ≡ (entry_matches object (value_at state.values object) value entry || some_change_matches (with_value machine object value state)
        (with_values machine objects values (with_value machine object value state)) objects entry)
    both entry = go (cases_eq object entry.object)
      where
        go : (object ≡ entry.object) ⊎ (object ≡ entry.object → ⊥) → some_change_matches state (with_values machine objects values (with_value machine object value state)) (object ∷ objects) entry
            ≡ (entry_matches object (value_at state.values object) value entry || some_change_matches (with_value machine object value state)
            (with_values machine objects values (with_value machine object value state)) objects entry)
        go (inl same) =
            let apart : has objects entry.object ≡ false = ap (has objects) (sym same) ∙ distinct.0 in
            let last : value_at (with_values machine objects values (with_value machine object value state)).values entry.object ≡ value =
            values-elsewhere machine objects values (with_value machine object value state) entry.object apart ∙ ap (value_at (with_value machine object value state).values) (sym same)
            ∙ value-here state.values object value fit.0 in
            ap (λ b. (b || has objects entry.object) && entry_matches entry.object (value_at state.values entry.object)
            (value_at (with_values machine objects values (with_value machine object value state)).values entry.object) entry) (eq-eqb object entry.object same)
            ∙ ap (λ v. entry_matches entry.object (value_at state.values entry.object) v entry) last
            ∙ ap (λ o. entry_matches o (value_at state.values o) value entry) (sym same)
            ∙ sym (or-nothing (entry_matches object (value_at state.values object) value entry))
            ∙ ap
            (λ b. entry_matches object (value_at state.values object) value entry
            || (b && entry_matches entry.object (value_at (with_value machine object value state).values entry.object)
            (value_at (with_values machine objects values (with_value machine object value state)).values entry.object) entry))
            (sym apart)
        go (inr other) =
            let here : value_at (with_value machine object value state).values entry.object ≡ value_at state.values entry.object = value-elsewhere state.values object entry.object value other in
            ap (λ b. (b || has objects entry.object) && entry_matches entry.object (value_at state.values entry.object)
            (value_at (with_values machine objects values (with_value machine object value state)).values entry.object) entry) (ne_eqb object entry.object other)
            ∙ ap (λ v. has objects entry.object && entry_matches entry.object v (value_at (with_values machine objects values (with_value machine object value state)).values entry.object) entry)
            (sym here)
            ∙ ap
            (λ b. (b && edge_matches entry.edge (part_of (value_at state.values object) entry.low entry.width) (part_of value entry.low entry.width))
            || some_change_matches (with_value machine object value state) (with_values machine objects values (with_value machine object value state)) objects entry)
            (sym (ne_eqb entry.object object (λ e. other (sym e))))

    one : (process : ProcessState) →
        ready_process (some_change_matches (with_value machine object value state) (with_values machine objects values (with_value machine object value state)) objects)
        (woken_process object (value_at state.values object) value process)
        ≡ ready_process (some_change_matches state (with_values machine objects values (with_value machine object value state)) (object ∷ objects)) process
    one process =
        let is : ready_by (some_change_matches (with_value machine object value state) (with_values machine objects values (with_value machine object value state)) objects)
        (woken object (value_at state.values object) value process.activity)
        ≡ ready_by (some_change_matches state (with_values machine objects values (with_value machine object value state)) (object ∷ objects)) process.activity =
        ap (ready_by (some_change_matches (with_value machine object value state) (with_values machine objects values (with_value machine object value state)) objects))
        (woken-is object (value_at state.values object) value process.activity)
        ∙ ready-twice (some_change_matches state (with_values machine objects values (with_value machine object value state)) (object ∷ objects))
        (entry_matches object (value_at state.values object) value)
        (some_change_matches (with_value machine object value state) (with_values machine objects values (with_value machine object value state)) objects) process.activity both in
        λ i. record { activity = is i; later = process.later; lane = process.lane }

-- The changes of an update of a node's nets

-- the changes of a node's nets, in the order of the design's net pieces
abbrev pub net_changes : FlatDesign → List ℕ → List LogicValue → List LogicValue → List ObjectChange
net_changes design outputs old new = changes_between old new (filter (has outputs) (net_pieces design))

filtered-one : (b : Bool) (test : ℕ → Bool) (y x : ℕ) (xs : List ℕ) → test y ≡ b → (y ≡ x) ⊎ (y ≡ x → ⊥) → has (filter test xs) x ≡ (has xs x && test x) →
    has (cond b (y ∷ filter test xs) (filter test xs)) x ≡ ((nat_eq y x || has xs x) && test x)
filtered-one true test y x xs t (inl same) rest = ap (λ b. b || has (filter test xs) x) (eq-eqb y x same) ∙ sym (ap (λ b. (b || has xs x) && test x) (eq-eqb y x same) ∙ sym (ap test same) ∙ t)
filtered-one false test y x xs t (inl same) rest =
    rest ∙ ap (λ b. has xs x && b) (sym (ap test same) ∙ t) ∙ and-nothing (has xs x)
    ∙ sym (ap (λ b. (b || has xs x) && test x) (eq-eqb y x same) ∙ sym (ap test same) ∙ t)
filtered-one true test y x xs t (inr other) rest = ap (λ b. b || has (filter test xs) x) (ne_eqb y x other) ∙ rest ∙ sym (ap (λ b. (b || has xs x) && test x) (ne_eqb y x other))
filtered-one false test y x xs t (inr other) rest = rest ∙ sym (ap (λ b. (b || has xs x) && test x) (ne_eqb y x other))

-- a filter has what passes
pub has-filter : (test : ℕ → Bool) (xs : List ℕ) (x : ℕ) → has (filter test xs) x ≡ (has xs x && test x)
has-filter test [] x = refl
has-filter test (y ∷ xs) x = filtered-one (test y) test y x xs refl (cases_eq y x) (has-filter test xs x)

AllHold-has : (P : ℕ → Type 0) (xs : List ℕ) (x : ℕ) → AllHold P xs → has xs x ≡ true → P x
AllHold-has P [] x h e = absurd (false≢true e)
AllHold-has P (y ∷ xs) x h e =
    elim (cases_eq y x) [
      | inl same ↦ subst P same h.0
      | inr other ↦ AllHold-has P xs x h.1 (sym (ap (λ b. b || has xs x) (ne_eqb y x other)) ∙ e)
    ]

-- an entry matches one of the changes of a node's nets as the definition of what an update ends has it
pub matches-nets : (design : FlatDesign) (outputs : List ℕ) (state next : State) (entry : Entry) → AllHold (λ object. has (net_pieces design) object ≡ true) outputs →
    some_change_matches state next outputs entry ≡ matches_one (net_changes design outputs state.values next.values) entry
matches-nets design outputs state next entry nets =
    sym
    (matches-between state.values next.values (filter (has outputs) (net_pieces design)) entry
    ∙ ap (λ b. b && entry_matches entry.object (value_at state.values entry.object) (value_at next.values entry.object) entry)
    (has-filter (has outputs) (net_pieces design) entry.object ∙ within (has outputs entry.object) refl))
  where
    within : (b : Bool) → has outputs entry.object ≡ b → (has (net_pieces design) entry.object && has outputs entry.object) ≡ has outputs entry.object
    within true e = ap (λ b. b && has outputs entry.object) (AllHold-has (λ object. has (net_pieces design) object ≡ true) outputs entry.object nets e)
    within false e = ap (λ b. has (net_pieces design) entry.object && b) e ∙ and-nothing (has (net_pieces design) entry.object) ∙ sym e

-- an update of a node's nets makes those processes ready that its changes do
pub wakes-by-nets : (machine : Machine) (objects : List ℕ) (values : List LogicValue) (state : State) → AreDistinct objects →
    AllHold (λ object. has (net_pieces machine.design) object ≡ true) objects → FitValues state.values objects values →
    (with_values machine objects values state).processes ≡ map (woken_by (net_changes machine.design objects state.values (with_values machine objects values state).values)) state.processes
wakes-by-nets machine objects values state distinct nets fit =
    values-wake machine objects values state distinct fit
    ∙ (λ i. map (ready_process (λ entry. matches-nets machine.design objects state (with_values machine objects values state) entry nets i)) state.processes)

-- the writes of an update of nets are those of its changes
pub writes-of-nets : (process line : ℕ) (state next : State) (objects : List ℕ) → joined (map (net_write process line state next) objects) ≡ map (write_of_change process line)
    (changes_between state.values next.values objects)
writes-of-nets process line state next [] = refl
writes-of-nets process line state next (object ∷ objects) =
    ap (λ rest. net_write process line state next object ++ rest) (writes-of-nets process line state next objects) ∙ one (same_value (value_at state.values object) (value_at next.values object))
  where
    one : (b : Bool) →
        elim b [
          | true ↦ []
          | false ↦ record { act = Writing (value_at state.values object) (value_at next.values object); object = object; process = process; line = line } ∷ []
        ] ++ map (write_of_change process line) (changes_between state.values next.values objects)
        ≡ map (write_of_change process line)
        (elim b [
          | true ↦ changes_between state.values next.values objects
          | false ↦ record { object = object; old = value_at state.values object; new = value_at next.values object } ∷ changes_between state.values next.values objects
        ])
    one true = refl
    one false = refl

-- the accesses of an update of a node's nets: the writes of its changes, and then the waits that they end
pub accesses-of-nets : (design : FlatDesign) (process line : ℕ) (node : FlatNode) (state next : State) → AllHold (λ object. has (net_pieces design) object ≡ true) node.outputs →
    net_accesses design process line (Some node) state next
    ≡ map (write_of_change process line) (net_changes design node.outputs state.values next.values)
    ++ joined (map_numbered (ended_by_changes (net_changes design node.outputs state.values next.values)) 0 state.processes)
accesses-of-nets design process line node state next nets =
    (λ i. writes-of-nets process line state next (filter (has node.outputs) (net_pieces design)) i ++ joined (map_numbered (net_ended_by state next node.outputs) 0 state.processes))
    ∙ ap (λ ended. map (write_of_change process line) (net_changes design node.outputs state.values next.values) ++ ended)
    (ended-alike (some_change_matches state next node.outputs) (matches_one (net_changes design node.outputs state.values next.values)) state.processes
    (λ entry. matches-nets design node.outputs state next entry nets))

-- the wait of a process that some changes end: it waits, and they make it ready
pub woken-waits : (changes : List ObjectChange) (process : ProcessState) → some_entry (matches_one changes) (waiting_entries process.activity) ≡
    (is_waiting process.activity && is_ready (woken_by changes process).activity)
woken-waits changes process = by-activity process.activity
  where
    readied : (b : Bool) (place : SourcePlace) (entries : List Entry) (tasks : List Task) → b ≡ is_ready (ready_if b (Waiting place entries tasks) tasks)
    readied true place entries tasks = refl
    readied false place entries tasks = refl

    by-activity : (activity : Activity) → some_entry (matches_one changes) (waiting_entries activity) ≡ (is_waiting activity && is_ready (ready_by (matches_one changes) activity))
    by-activity (Ready tasks operands) = refl
    by-activity (Waiting place entries tasks) = readied (some_entry (matches_one changes) entries) place entries tasks
    by-activity (Asleep time tasks) = refl
    by-activity (Postponed tasks) = refl
    by-activity Done = refl
