-- The values behind some events, by the writes of these (events and their accesses by IEEE 1364-2001, clause 5).
use Rattle.std.proofs.Common.{◌≡◌, ℕ, suc, ◌+◌, ◌<◌, ◌≤◌, Bool, true, false, cond, ◌&&◌, ◌||◌, List, [], ◌∷◌, ◌++◌, map, filter, length, get_or, set, refl, sym, ap, subst, ◌∙◌, inl, inr, arith}
use Rattle.std.specs.Prelude.{nat_eq, nat_le, nat_lt}
use Rattle.std.proofs.lemmas.Bool.{cases_eq, eq-eqb, ne_eqb, le-leb, lt-leb, lt-ltb, le-ltb}
use Rattle.std.proofs.lemmas.List.{length-set, get_or-set_same, get_or-set_other, ext_get_or}
use Rattle.std.proofs.lemmas.List.Elements.{filter-append}
use Rattle.vf_base.specs.Lists.{AllHold, has}
use Rattle.four_value.specs.Values.{LogicValue}
use Rattle.v_design.specs.Accesses.{AccessAct, Reading, Writing, Awaiting, Ending, Holding, Settling, ObjectAccess}
use Rattle.v_design.specs.Designs.{Machine}
use Rattle.v_design.specs.States.{State, Event}
use Rattle.v_design.specs.Runs.{happened}
use Rattle.v_design.specs.WellFormed.{KeepsRules}
use Rattle.trace_window.specs.GatherLaws.{writes_from-append}
use Rattle.trace_window.specs.Listed.{AreListed}
use Rattle.trace_window.specs.Moments.{Seen, seen_from}
use Rattle.trace_window.specs.TouchLaws.{listed-length}
use Rattle.trace_window.specs.ValueLaws.{seen-follow, follow-count, values_before-end, values-are}
use Rattle.std.specs.List.Sorted.{IsNonDecreasingBy}
use Rattle.trace_window.specs.Rising.{RisesBy, rises-weaken, rises-by}
use Rattle.trace_window.specs.Tables.{change_moment}
use Rattle.trace_window.specs.declared.change.Change.{Change}
use Rattle.trace_window.specs.Writes.{Written, written_of, write_before, writes_in, writes_from, value_or, latest}
use Rattle.moment_slices.specs.Within.{comes_within}
use Rattle.moment_parts.specs.Within.{written_within, put_all}

-- The moments of writes

-- a write's moment is one of so many from a first one on
abbrev IsAmong : ℕ → ℕ → Written → Type 0
IsAmong first count write = (first ≤ write.moment) × (write.moment < first + count)

all-append : {A : Type 0} (P : A → Type 0) (xs ys : List A) → AllHold P xs → AllHold P ys → AllHold P (xs ++ ys)
all-append P [] ys h k = k
all-append P (x ∷ xs) ys h k = (h.0, all-append P xs ys h.1 k)

all-weaken : {A : Type 0} (P Q : A → Type 0) (xs : List A) → ((x : A) → P x → Q x) → AllHold P xs → AllHold Q xs
all-weaken P Q [] f h = tt
all-weaken P Q (x ∷ xs) f h = (f x h.0, all-weaken P Q xs f h.1)

in-among : (moment : ℕ) (accesses : List ObjectAccess) → AllHold (IsAmong moment 1) (writes_in moment accesses)
in-among moment [] = tt
in-among moment (access ∷ accesses) = go access.act (in-among moment accesses)
  where
    go : (act : AccessAct) → AllHold (IsAmong moment 1) (writes_in moment accesses) → AllHold (IsAmong moment 1) (write_before moment access.object act (writes_in moment accesses))
    go Reading rest = rest
    go (Writing old new) rest = ((omega arith, omega arith), rest)
    go (Awaiting entry) rest = rest
    go (Ending entry) rest = rest
    go (Holding entry) rest = rest
    go Settling rest = rest

from-among : (first : ℕ) (lists : List (List ObjectAccess)) → AllHold (IsAmong first (length lists)) (writes_from first lists)
from-among first [] = tt
from-among first (accesses ∷ lists) =
    let l : length (accesses ∷ lists) ≡ suc (length lists) = refl in
    all-append (IsAmong first (length (accesses ∷ lists))) (writes_in first accesses) (writes_from (first + 1) lists)
    (all-weaken (IsAmong first 1) (IsAmong first (length (accesses ∷ lists))) (writes_in first accesses) (λ w h. (h.0, (let e = h.1 in omega (arith, e, l)))) (in-among first accesses))
    (all-weaken (IsAmong (first + 1) (length lists)) (IsAmong first (length (accesses ∷ lists))) (writes_from (first + 1) lists)
    (λ w h. ((let e = h.0 in omega (arith, e)), (let e = h.1 in omega (arith, e, l)))) (from-among (first + 1) lists))

filter-none : (first limit : ℕ) (writes : List Written) → AllHold (λ (w : Written). comes_within first limit w.moment ≡ false) writes → written_within first limit writes ≡ []
filter-none first limit [] h = refl
filter-none first limit (w ∷ writes) h =
    ap (λ b. cond b (w ∷ written_within first limit writes) (written_within first limit writes)) h.0 ∙ filter-none first limit writes h.1

filter-all : (first limit : ℕ) (writes : List Written) → AllHold (λ (w : Written). comes_within first limit w.moment ≡ true) writes → written_within first limit writes ≡ writes
filter-all first limit [] h = refl
filter-all first limit (w ∷ writes) h =
    ap (λ b. cond b (w ∷ written_within first limit writes) (written_within first limit writes)) h.0 ∙ ap (λ l. w ∷ l) (filter-all first limit writes h.1)

comes-before : (first limit n : ℕ) → n < first → comes_within first limit n ≡ false
comes-before first limit n low = ap (λ b. b && nat_lt n limit) (lt-leb first n low)

comes-behind : (first limit n : ℕ) → limit ≤ n → comes_within first limit n ≡ false
comes-behind first limit n high = ap (λ b. nat_le first n && b) (le-ltb n limit high) ∙ none (nat_le first n)
  where
    none : (b : Bool) → (b && false) ≡ false
    none true = refl
    none false = refl

comes-there : (first limit n : ℕ) → first ≤ n → n < limit → comes_within first limit n ≡ true
comes-there first limit n low high = ap (λ b. b && nat_lt n limit) (le-leb first n low) ∙ lt-ltb n limit high

from-append : (number : ℕ) (xs ys : List (List ObjectAccess)) → writes_from number (xs ++ ys) ≡ writes_from number xs ++ writes_from (number + length xs) ys
from-append number xs ys = writes_from-append number xs ys

-- the writes of some events among those of more: the ones from their first moment on and before the moment behind them
pub within-block : (number : ℕ) (before block behind : List (List ObjectAccess)) (first limit : ℕ) → first ≡ number + length before → limit ≡ first + length block →
    written_within first limit (writes_from number (before ++ (block ++ behind))) ≡ writes_from first block
within-block number before block behind first limit first_is limit_is =
    ap (written_within first limit) (from-append number before (block ++ behind) ∙ ap (λ n. writes_from number before ++ writes_from n (block ++ behind)) (sym first_is)
    ∙ ap (λ l. writes_from number before ++ l) (from-append first block behind))
    ∙ filter-append test (writes_from number before) (writes_from first block ++ writes_from (first + length block) behind)
    ∙ (λ i. early i ++ (filter-append test (writes_from first block) (writes_from (first + length block) behind) i))
    ∙ (λ i. own i ++ late i)
    ∙ nothing (writes_from first block)
  where
    test : Written → Bool
    test = λ (write : Written). comes_within first limit write.moment

    nothing : (xs : List Written) → xs ++ [] ≡ xs
    nothing [] = refl
    nothing (x ∷ xs) = ap (λ l. x ∷ l) (nothing xs)

    early : written_within first limit (writes_from number before) ≡ []
    early =
        filter-none first limit (writes_from number before)
        (all-weaken (IsAmong number (length before)) (λ (w : Written). comes_within first limit w.moment ≡ false) (writes_from number before)
        (λ w h. comes-before first limit w.moment (let e = h.1 in omega (arith, e, first_is))) (from-among number before))

    own : written_within first limit (writes_from first block) ≡ writes_from first block
    own =
        filter-all first limit (writes_from first block)
        (all-weaken (IsAmong first (length block)) (λ (w : Written). comes_within first limit w.moment ≡ true) (writes_from first block)
        (λ w h. comes-there first limit w.moment h.0 (let e = h.1 in omega (arith, e, limit_is))) (from-among first block))

    late : written_within first limit (writes_from (first + length block) behind) ≡ []
    late =
        filter-none first limit (writes_from (first + length block) behind)
        (all-weaken (IsAmong (first + length block) (length behind)) (λ (w : Written). comes_within first limit w.moment ≡ false) (writes_from (first + length block) behind)
        (λ w h. comes-behind first limit w.moment (let e = h.0 in omega (arith, e, limit_is))) (from-among (first + length block) behind))

-- What they leave

put-length : (writes : List Written) (values : List LogicValue) → length (put_all writes values) ≡ length values
put-length [] values = refl
put-length (w ∷ writes) values = put-length writes (set values w.object w.value) ∙ length-set values w.object w.value

-- one object
set-value : (values : List LogicValue) (w : Written) (object moment : ℕ) → object < length values → w.moment < moment →
    get_or (set values w.object w.value) object [] ≡ value_or (get_or values object []) object moment w
set-value values w object moment low before = elim (cases_eq w.object object) [
  | inl same ↦
      subst (λ o. get_or (set values w.object w.value) o [] ≡ value_or (get_or values o []) o moment w) same
      (get_or-set_same values w.object w.value [] (let e = same in omega (arith, e, low))
      ∙ sym (ap (λ b. cond (b && nat_lt w.moment moment) w.value (get_or values w.object [])) (eq-eqb w.object w.object refl)
      ∙ ap (λ b. cond b w.value (get_or values w.object [])) (lt-ltb w.moment moment before)))
  | inr apart ↦
      get_or-set_other values w.object object w.value [] (λ same. apart (sym same))
      ∙ sym (ap (λ b. cond (b && nat_lt w.moment moment) w.value (get_or values object [])) (ne_eqb w.object object apart))
]

put-latest : (writes : List Written) (values : List LogicValue) (object moment : ℕ) → object < length values → AllHold (λ (w : Written). w.moment < moment) writes →
    get_or (put_all writes values) object [] ≡ latest (get_or values object []) object moment writes
put-latest [] values object moment low before = refl
put-latest (w ∷ writes) values object moment low before =
    put-latest writes (set values w.object w.value) object moment (let e : length (set values w.object w.value) ≡ length values = length-set values w.object w.value in omega (arith, e, low)) before.1
    ∙ ap (λ v. latest v object moment writes) (set-value values w object moment low before.0)

-- the writes of some events, put into the values before them, give those behind them
pub put-events : (machine : Machine) → KeepsRules machine.design → (state : State) (events : List Event) (accesses : List (List ObjectAccess)) (first : ℕ) →
    AreListed machine (seen_from machine state events) accesses → put_all (writes_from first accesses) state.values ≡ (happened machine state events).values
put-events machine rules state events accesses first listed =
    ext_get_or nothing (put_all (writes_from first accesses) state.values) (happened machine state events).values (put-length (writes_from first accesses) state.values ∙ sym count)
    (λ object low. at object (let e : length (put_all (writes_from first accesses) state.values) ≡ length state.values = put-length (writes_from first accesses) state.values in omega (arith, e, low)))
  where
    nothing : LogicValue
    nothing = []

    seen : List Seen
    seen = seen_from machine state events

    last : List LogicValue
    last = (happened machine state events).values

    count : length last ≡ length state.values
    count = follow-count machine state.values seen last (seen-follow machine state events)

    long : length accesses ≡ length seen
    long = listed-length machine seen accesses listed

    at : (object : ℕ) → object < length state.values → get_or (put_all (writes_from first accesses) state.values) object [] ≡ get_or last object []
    at object low =
        put-latest (writes_from first accesses) state.values object (first + length seen) low
        (all-weaken (IsAmong first (length accesses)) (λ (w : Written). w.moment < first + length seen) (writes_from first accesses) (λ w h. let e = h.1 in omega (arith, e, long)) (from-among first accesses))
        ∙ sym (values-are machine rules seen accesses listed state.values last (seen-follow machine state events) object low first (length seen))
        ∙ ap (λ v. get_or v object []) (values_before-end seen last)

-- an object that isn't written keeps its value
pub put-other : (writes : List Written) (values : List LogicValue) (object : ℕ) → has (map (λ (w : Written). w.object) writes) object ≡ false →
    get_or (put_all writes values) object [] ≡ get_or values object []
put-other [] values object none = refl
put-other (w ∷ writes) values object none = go (nat_eq w.object object) refl none (put-other writes (set values w.object w.value) object)
  where
    go : (b : Bool) → nat_eq w.object object ≡ b → (b || has (map (λ (x : Written). x.object) writes) object) ≡ false →
        (has (map (λ (x : Written). x.object) writes) object ≡ false → get_or (put_all writes (set values w.object w.value)) object [] ≡ get_or (set values w.object w.value) object []) →
        get_or (put_all writes (set values w.object w.value)) object [] ≡ get_or values object []
    go true e h rest = cc
    go false e h rest =
        rest h
        ∙ get_or-set_other values w.object object w.value [] (λ same. let clash : true ≡ false = sym (eq-eqb w.object object (sym same)) ∙ e in cc)

-- The order of changes

abbrev moment-of : Written → ℕ
moment-of write = write.moment

writes-rise : (number : ℕ) (accesses : List ObjectAccess) (rest : List Written) → RisesBy moment-of number rest → RisesBy moment-of number (writes_in number accesses ++ rest)
writes-rise number [] rest h = h
writes-rise number (access ∷ accesses) rest h = go access.act (writes-rise number accesses rest h)
  where
    go : (act : AccessAct) → RisesBy moment-of number (writes_in number accesses ++ rest) → RisesBy moment-of number (write_before number access.object act (writes_in number accesses) ++ rest)
    go Reading more = more
    go (Writing old new) more = (omega arith, more)
    go (Awaiting entry) more = more
    go (Ending entry) more = more
    go (Holding entry) more = more
    go Settling more = more

all-rise : (number : ℕ) (lists : List (List ObjectAccess)) → RisesBy moment-of number (writes_from number lists)
all-rise number [] = tt
all-rise number (accesses ∷ lists) =
    writes-rise number accesses (writes_from (number + 1) lists) (rises-weaken moment-of number (number + 1) (writes_from (number + 1) lists) (omega arith) (all-rise (number + 1) lists))

changes-rise : (least : ℕ) (changes : List Change) → RisesBy moment-of least (map written_of changes) → RisesBy change_moment least changes
changes-rise least [] h = tt
changes-rise least (c ∷ changes) h = (h.0, changes-rise c.moment changes h.1)

-- changes that are the writes of some events come in the order of their moments
pub changes-ascend : (number : ℕ) (changes : List Change) (lists : List (List ObjectAccess)) → map written_of changes ≡ writes_from number lists → IsNonDecreasingBy change_moment changes
changes-ascend number changes lists are = rises-by change_moment number changes (changes-rise number changes (subst (λ l. RisesBy moment-of number l) (sym are) (all-rise number lists)))

-- those that come within bounds are the writes that do
pub filter-written : (first limit : ℕ) (changes : List Change) → map written_of (filter (λ (c : Change). comes_within first limit c.moment) changes) ≡ written_within first limit (map written_of changes)
filter-written first limit [] = refl
filter-written first limit (c ∷ changes) = go (comes_within first limit c.moment) (filter-written first limit changes)
  where
    go : (b : Bool) → map written_of (filter (λ (x : Change). comes_within first limit x.moment) changes) ≡ written_within first limit (map written_of changes) →
        map written_of (cond b (c ∷ filter (λ (x : Change). comes_within first limit x.moment) changes) (filter (λ (x : Change). comes_within first limit x.moment) changes))
        ≡ cond b (written_of c ∷ written_within first limit (map written_of changes)) (written_within first limit (map written_of changes))
    go true rest = ap (λ l. written_of c ∷ l) rest
    go false rest = rest
