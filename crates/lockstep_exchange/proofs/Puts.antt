-- One value, or one process, more that is put.
use Rattle.std.proofs.Common.{◌≡◌, ℕ, zero, suc, ◌+◌, ◌-◌, ◌<◌, ◌≤◌, Bool, true, false, ◌||◌, nat_eq, List, [], ◌∷◌, ◌++◌, get_or, length, map, take, set, cond, refl, sym, ap, subst, ◌∙◌, inl, inr, arith}
use Rattle.std.specs.Prelude.{Option, Some, None, nat_lt, slice_get, slice_set}
use Rattle.std.proofs.lemmas.Bool.{cases_eq, cases_lt, eq-eqb, ne_eqb, lt-ltb, le-ltb}
use Rattle.std.proofs.lemmas.List.{get_or-set_same, get_or-set_other, length-set, map_push, take_more}
use Rattle.four_value.specs.Values.{LogicValue}
use Rattle.vf_base.specs.Lists.{change_at, has}
use Rattle.v_design.specs.Assignments.{value_at}
use Rattle.v_design.specs.States.{State, ProcessState, process_at, found_or, idle_process}
use Rattle.machine_laws.specs.Waits.{changed-elsewhere}
use Rattle.copy_laws.specs.Differences.{own_of, Ascend}
use Rattle.copy_state.specs.Entries.{first_from}
use Rattle.copy_skip.specs.Entries.{next-kept, none-from}
use Rattle.lockstep_index.specs.Writes.{OwnWrites, with_writes}
use Rattle.lockstep_exchange.specs.Putting.{ValuesArePut, ProcessesArePut, WritesArePut, found_among}
use Rattle.lockstep_exchange.proofs.Kept.{change-none}

-- Numbers below one

-- what is found under a number below one
abbrev pub below : {A : Type 0} → ℕ → (ℕ → Option A) → ℕ → Option A
below from found number = cond (nat_lt number from) (found number) None

pub below-within : {A : Type 0} (found : ℕ → Option A) (from number : ℕ) → number < from → below from found number ≡ found number
below-within found from number low = ap (λ b. cond b (found number) None) (lt-ltb number from low)

pub below-past : {A : Type 0} (found : ℕ → Option A) (from number : ℕ) → from ≤ number → below from found number ≡ None
below-past found from number past = ap (λ b. cond b (found number) None) (le-ltb number from past)

-- one number more
pub below-next : {A : Type 0} (found : ℕ → Option A) (from number : ℕ) → (from ≡ number → ⊥) → below (from + 1) found number ≡ below from found number
below-next found from number other = elim (cases_lt number from) [
  | inl less ↦ below-within found (from + 1) number (omega (arith, less)) ∙ sym (below-within found from number less)
  | inr since ↦ below-past found (from + 1) number (omega (arith, since, other)) ∙ sym (below-past found from number since)
]

-- the next of some entries, where nothing is found but under their numbers
pub below-kept : {A B : Type 0} (found : ℕ → Option B) (entries : List (ℕ × A)) (from next number : ℕ) → Ascend entries → first_from from entries ≡ Some next →
    ((number : ℕ) → own_of entries number ≡ None → found number ≡ None) → (next ≡ number → ⊥) → below (next + 1) found number ≡ below from found number
below-kept found entries from next number up at none other =
    let kept = next-kept from next entries up at in
    let low : from ≤ next = kept.low in
    elim (cases_lt number from) [
      | inl less ↦ below-within found (next + 1) number (omega (arith, less, low)) ∙ sym (below-within found from number less)
      | inr since ↦ elim (cases_lt number next) [
        | inl before ↦ below-within found (next + 1) number (omega (arith, before)) ∙ none number (kept.none number since before) ∙ sym (below-past found from number since)
        | inr behind ↦ below-past found (next + 1) number (omega (arith, behind, other)) ∙ sym (below-past found from number since)
      ]
    ]

-- behind the last one
pub below-all : {A B : Type 0} (found : ℕ → Option B) (entries : List (ℕ × A)) (from number : ℕ) → first_from from entries ≡ None →
    ((number : ℕ) → own_of entries number ≡ None → found number ≡ None) → found number ≡ below from found number
below-all found entries from number at none = elim (cases_lt number from) [
  | inl less ↦ sym (below-within found from number less)
  | inr since ↦ none number (none-from from entries at number since) ∙ sym (below-past found from number since)
]

-- Numbers of a list

or-none : (b : Bool) → (b || false) ≡ b
or-none true = refl
or-none false = refl

has-push : (numbers : List ℕ) (last other : ℕ) → has (numbers ++ last ∷ []) other ≡ (has numbers other || nat_eq last other)
has-push [] last other = or-none (nat_eq last other)
has-push (number ∷ numbers) last other =
    let rest = has-push numbers last other in
    elim (nat_eq number other) as (λ b. (b || has (numbers ++ last ∷ []) other) ≡ ((b || has numbers other) || nat_eq last other)) [ true ↦ refl | false ↦ rest ]

-- of so many, and of one more
pub has-more : {A : Type 0} (f : A → ℕ) (xs : List A) (i : ℕ) (default : A) → i < length xs → (other : ℕ) →
    has (map f (take (i + 1) xs)) other ≡ (has (map f (take i xs)) other || nat_eq (f (get_or xs i default)) other)
has-more f xs i default low other =
    ap (λ l. has (map f l) other) (take_more xs i default low) ∙ ap (λ l. has l other) (map_push f (take i xs) (get_or xs i default))
    ∙ has-push (map f (take i xs)) (f (get_or xs i default)) other

pub has-one : (number other : ℕ) → has (number ∷ []) other ≡ (has [] other || nat_eq number other)
has-one number other = or-none (nat_eq number other)

-- Values

pub values-none : (found : ℕ → Option LogicValue) (old : State) → ((object : ℕ) → found object ≡ None) → ValuesArePut found old old
values-none found old none = record { rest = refl; count = refl; values = λ object. sym (ap (found_or (value_at old.values object)) (none object)) }

pub value-more : (found more : ℕ → Option LogicValue) (old new later : State) (object : ℕ) (value : LogicValue) → ValuesArePut found old new → object < length new.values →
    later ≡ record new { values = slice_set new.values object value } → more object ≡ Some value → ((other : ℕ) → (object ≡ other → ⊥) → more other ≡ found other) → ValuesArePut more old later
value-more found more old new later object value put low changed here others =
    let values : later.values ≡ set new.values object value = ap (λ (s : State). s.values) changed in
    record {
      rest = changed ∙ ap (λ (s : State). record s { values = set new.values object value }) put.rest ∙ (λ i. record old { values = sym values i });
      count = ap length values ∙ length-set new.values object value ∙ put.count;
      values = λ other. ap (λ l. value_at l other) values ∙ elim (cases_eq object other) [
        | inl same ↦
            subst (λ o. value_at (set new.values object value) o ≡ found_or (value_at old.values o) (more o)) same
            (get_or-set_same new.values object value [] low ∙ sym (ap (found_or (value_at old.values object)) here))
        | inr differ ↦
            get_or-set_other new.values object other value [] (λ e. differ (sym e)) ∙ put.values other ∙ sym (ap (found_or (value_at old.values other)) (others other differ))
      ];
    }

pub values-same : (found more : ℕ → Option LogicValue) (old new : State) → ((object : ℕ) → more object ≡ found object) → ValuesArePut found old new → ValuesArePut more old new
values-same found more old new same put = record {
  rest = put.rest;
  count = put.count;
  values = λ object. put.values object ∙ sym (ap (found_or (value_at old.values object)) (same object));
}

-- Processes

change-here : {A : Type 0} (default : A) (xs : List A) (n : ℕ) (f : A → A) → n < length xs → found_or default (slice_get (change_at xs n f) n) ≡ f (found_or default (slice_get xs n))
change-here default [] n f low = absurd (omega (arith, low))
change-here default (x ∷ xs) zero f low = refl
change-here default (x ∷ xs) (suc n) f low = change-here default xs n f (omega (arith, low))

length-change : {A : Type 0} (xs : List A) (n : ℕ) (f : A → A) → length (change_at xs n f) ≡ length xs
length-change [] n f = refl
length-change (x ∷ xs) zero f = refl
length-change (x ∷ xs) (suc n) f = ap suc (length-change xs n f)

pub processes-none : (found : ℕ → Option ProcessState) (old : State) → ((process : ℕ) → found process ≡ None) → ProcessesArePut found old old
processes-none found old none = record { rest = refl; count = refl; processes = λ process. sym (ap (found_or (process_at old process)) (none process)) }

pub process-more : (found more : ℕ → Option ProcessState) (old new later : State) (process : ℕ) (change : ProcessState → ProcessState) (own : ProcessState) → ProcessesArePut found old new →
    process < length new.processes → later ≡ record new { processes = change_at new.processes process change } → change (process_at new process) ≡ own → more process ≡ Some own →
    ((other : ℕ) → (process ≡ other → ⊥) → more other ≡ found other) → ProcessesArePut more old later
process-more found more old new later process change own put low changed is here others =
    let processes : later.processes ≡ change_at new.processes process change = ap (λ (s : State). s.processes) changed in
    let there : (number : ℕ) → process_at later number ≡ found_or idle_process (slice_get (change_at new.processes process change) number) =
    λ number. ap (λ l. found_or idle_process (slice_get l number)) processes in
    record {
      rest = changed ∙ ap (λ (s : State). record s { processes = change_at new.processes process change }) put.rest ∙ (λ i. record old { processes = sym processes i });
      count = ap length processes ∙ length-change new.processes process change ∙ put.count;
      processes = λ other. there other ∙ elim (cases_eq process other) [
        | inl same ↦
            subst (λ n. found_or idle_process (slice_get (change_at new.processes process change) n) ≡ found_or (process_at old n) (more n)) same
            (change-here idle_process new.processes process change low ∙ is ∙ sym (ap (found_or (process_at old process)) here))
        | inr differ ↦
            changed-elsewhere idle_process new.processes process other change differ ∙ put.processes other ∙ sym (ap (found_or (process_at old other)) (others other differ))
      ];
    }

pub processes-same : (found more : ℕ → Option ProcessState) (old new : State) → ((process : ℕ) → more process ≡ found process) → ProcessesArePut found old new → ProcessesArePut more old new
processes-same found more old new same put = record {
  rest = put.rest;
  count = put.count;
  processes = λ process. put.processes process ∙ sym (ap (found_or (process_at old process)) (same process));
}

-- Updates

pub writes-none : (found : ℕ → Option OwnWrites) (old : State) → ((process : ℕ) → found process ≡ None) → WritesArePut found old old
writes-none found old none = record { rest = refl; count = refl; processes = λ process. sym (ap (λ w. with_writes w (process_at old process)) (none process)) }

-- updates take the place of others
with-twice : (first : Option OwnWrites) (own : OwnWrites) (process : ProcessState) → with_writes (Some own) (with_writes first process) ≡ with_writes (Some own) process
with-twice None own process = refl
with-twice (Some other) own process = refl

cond-none : (b : Bool) (found : Option OwnWrites) → found ≡ None → cond b found None ≡ None
cond-none true found none = none
cond-none false found none = refl

among-none : (parts : ℕ → Bool) (writes : ℕ → Option OwnWrites) (process : ℕ) → writes process ≡ None → found_among parts writes process ≡ None
among-none parts writes process none = cond-none (parts process) (writes process) none

-- one process more
pub writes-more : (parts more : ℕ → Bool) (writes : ℕ → Option OwnWrites) (old now later : State) (process : ℕ) → WritesArePut (found_among parts writes) old now →
    ((own : OwnWrites) → writes process ≡ Some own → process < length now.processes) → later ≡ record now { processes = change_at now.processes process (with_writes (writes process)) } →
    ((other : ℕ) → more other ≡ (parts other || nat_eq process other)) → WritesArePut (found_among more writes) old later
writes-more parts more writes old now later process put low changed are =
    let processes : later.processes ≡ change_at now.processes process (with_writes (writes process)) = ap (λ (s : State). s.processes) changed in
    let there : (number : ℕ) → process_at later number ≡ found_or idle_process (slice_get (change_at now.processes process (with_writes (writes process))) number) =
    λ number. ap (λ l. found_or idle_process (slice_get l number)) processes in
    record {
      rest = changed ∙ ap (λ (s : State). record s { processes = change_at now.processes process (with_writes (writes process)) }) put.rest ∙ (λ i. record old { processes = sym processes i });
      count = ap length processes ∙ length-change now.processes process (with_writes (writes process)) ∙ put.count;
      processes = λ other. there other ∙ elim (cases_eq process other) [
        | inl same ↦
            subst
            (λ n. found_or idle_process (slice_get (change_at now.processes process (with_writes (writes process))) n) ≡ with_writes (found_among more writes n) (process_at old n)) same
            (here (writes process) refl)
        | inr differ ↦
            changed-elsewhere idle_process now.processes process other (with_writes (writes process)) differ ∙ put.processes other
            ∙ ap (λ (b : Bool). with_writes (cond b (writes other) None) (process_at old other)) (sym (are other ∙ elsewhere other (parts other) differ))
      ];
    }
  where
    or-true : (b : Bool) → (b || true) ≡ true
    or-true true = refl
    or-true false = refl

    elsewhere : (other : ℕ) (b : Bool) → (process ≡ other → ⊥) → (b || nat_eq process other) ≡ b
    elsewhere other b differ = ap (λ c. b || c) (ne_eqb process other differ) ∙ or-none b

    among : found_among more writes process ≡ writes process
    among = ap (λ (b : Bool). cond b (writes process) None) (are process ∙ ap (λ c. parts process || c) (eq-eqb process process refl) ∙ or-true (parts process))

    here : (found : Option OwnWrites) → writes process ≡ found →
        found_or idle_process (slice_get (change_at now.processes process (with_writes (writes process))) process) ≡ with_writes (found_among more writes process) (process_at old process)
    here None none =
        ap (λ l. found_or idle_process (slice_get l process)) (ap (λ w. change_at now.processes process (with_writes w)) none ∙ change-none now.processes process) ∙ put.processes process
        ∙ ap (λ w. with_writes w (process_at old process)) (among-none parts writes process none ∙ sym (among-none more writes process none))
    here (Some own) some =
        change-here idle_process now.processes process (with_writes (writes process)) (low own some)
        ∙ ap (λ w. with_writes w (process_at now process)) some ∙ ap (with_writes (Some own)) (put.processes process)
        ∙ with-twice (found_among parts writes process) own (process_at old process) ∙ ap (λ w. with_writes w (process_at old process)) (sym (among ∙ some))

pub writes-same : (found more : ℕ → Option OwnWrites) (old new : State) → ((process : ℕ) → more process ≡ found process) → WritesArePut found old new → WritesArePut more old new
writes-same found more old new same put = record {
  rest = put.rest;
  count = put.count;
  processes = λ process. put.processes process ∙ sym (ap (λ w. with_writes w (process_at old process)) (same process));
}

-- Measures

-- how many numbers are left from the next one on, of so many
abbrev pub left_of : ℕ → Option ℕ → ℕ
left_of count None = 0
left_of count (Some next) = suc count - next

-- fewer are left behind the next one
pub left-falls : (count next : ℕ) (old new : Option ℕ) → old ≡ Some next → next < count → ((later : ℕ) → new ≡ Some later → next < later) → left_of count new < left_of count old
left-falls count next old new is low later = subst (λ o. left_of count new < left_of count o) (sym is) (go new later)
  where
    go : (new : Option ℕ) → ((later : ℕ) → new ≡ Some later → next < later) → left_of count new < suc count - next
    go None h = omega (arith, low)
    go (Some more) h = let less : next < more = h more refl in omega (arith, low, less)
