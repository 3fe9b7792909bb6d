-- The table of members and the places of the members go together.
use Rattle.std.proofs.Common.{◌≡◌, ℕ, zero, suc, ◌+◌, ◌<◌, ◌≤◌, Bool, true, false, List, [], ◌∷◌, ◌++◌, map, take, length, get_or, set, replicate, refl, ap, ap₂, sym, ◌∙◌, subst, inl, inr, arith}
use Rattle.std.specs.Prelude.{Some, None, slice_get}
use Rattle.std.specs.List.{All}
use Rattle.std.specs.Option.{option_map}
use Rattle.std.proofs.lemmas.Bool.{cases_eq, cases_lt, cases_Bool, both_ways, cond-false}
use Rattle.std.proofs.lemmas.Option.{slice_get-map, slice_get_read, slice_get_past}
use Rattle.std.proofs.lemmas.List.{length-set, length-map, length-replicate, get_or-set_same, get_or-set_other, get_or-replicate, get_or-map, get_or-take, get_or_past, length-take-le, take_more_set, map_push}
use Rattle.vf_base.specs.declared.ids.ObjectId.{ObjectId}
use Rattle.vf_base.specs.Base.{object_number}
use Rattle.vf_base.specs.Lists.{has}
use Rattle.graph_order.specs.ListLaws.{has-get_or, now_has, still_has}
use Rattle.object_set.specs.Ordered.{OrderedObjects, with_object}
use Rattle.object_set.specs.Members.{member_count, IsOrdered, TakesOut}

-- what contracts see of a table and its order
abbrev pub view : List Bool → List ObjectId → ℕ → OrderedObjects
view members order count = record { bound = length members; objects = map object_number (take count order) }

-- one member more
member_count-set : (members : List Bool) (i : ℕ) → i < length members → get_or members i false ≡ false → member_count (set members i true) ≡ member_count members + 1
member_count-set [] i low none = absurd (omega arith)
member_count-set (true ∷ members) zero low none = absurd (cc)
member_count-set (false ∷ members) zero low none = omega arith
member_count-set (true ∷ members) (suc i) low none =
    let rest : member_count (set members i true) ≡ member_count members + 1 = member_count-set members i (omega arith) none in omega arith
member_count-set (false ∷ members) (suc i) low none = member_count-set members i (omega arith) none

pub member_count-le : (members : List Bool) → member_count members ≤ length members
member_count-le [] = omega arith
member_count-le (true ∷ members) = omega (arith, member_count-le members)
member_count-le (false ∷ members) = omega (arith, member_count-le members)

-- where an object is no member, there is room for one more
pub member_count-lt : (members : List Bool) (i : ℕ) → i < length members → get_or members i false ≡ false → member_count members < length members
member_count-lt [] i low none = absurd (omega arith)
member_count-lt (true ∷ members) zero low none = absurd (cc)
member_count-lt (false ∷ members) zero low none = omega (arith, member_count-le members)
member_count-lt (true ∷ members) (suc i) low none =
    let rest : member_count members < length members = member_count-lt members i (omega arith) none in omega arith
member_count-lt (false ∷ members) (suc i) low none =
    let rest : member_count members < length members = member_count-lt members i (omega arith) none in omega arith

member_count-none : (members : List Bool) → ((i : ℕ) → get_or members i false ≡ false) → member_count members ≡ 0
member_count-none [] none = refl
member_count-none (true ∷ members) none = absurd (let e : true ≡ false = none 0 in cc)
member_count-none (false ∷ members) none = member_count-none members (λ i. none (suc i))

-- the members have their places
pub count-within : (members : List Bool) (order : List ObjectId) (count : ℕ) → IsOrdered members order count → count ≤ length order
count-within members order count had = omega (arith, member_count-le members, had.counted, had.long)

-- where an object is no member, there is a place for it
pub count-room : (members : List Bool) (order : List ObjectId) (count number : ℕ) → IsOrdered members order count → number < length members → get_or members number false ≡ false →
    count < length order
count-room members order count number had low none = omega (arith, member_count-lt members number low none, had.counted, had.long)

-- no object is a member
IsOrdered-none : (members : List Bool) (order : List ObjectId) → length order ≡ length members → ((i : ℕ) → get_or members i false ≡ false) → IsOrdered members order 0
IsOrdered-none members order long none = record { long = long; counted = member_count-none members none; listed = λ o. sym (none o) }

-- a table of no members
pub IsOrdered-new : (members : List Bool) (order : List ObjectId) (bound : ℕ) → members ≡ replicate bound false → length order ≡ bound → IsOrdered members order 0
IsOrdered-new members order bound are long =
    IsOrdered-none members order (long ∙ sym (ap length are ∙ length-replicate bound false)) (λ i. ap (λ l. get_or l i false) are ∙ blank i)
  where
    blank : (i : ℕ) → get_or (replicate bound false) i false ≡ false
    blank i =
        elim (cases_lt i bound) [
          | inl low ↦ get_or-replicate bound i false false low
          | inr past ↦ get_or_past (replicate bound false) i false (omega (arith, length-replicate bound false))
        ]

-- the member of a place
pub member-at : (order : List ObjectId) (count place : ℕ) (object : ObjectId) → count ≤ length order → place < count → object ≡ get_or order place object →
    Some (object_number object) ≡ slice_get (map object_number (take count order)) place
member-at order count place object within low is =
    sym (slice_get-map object_number (take count order) place
    ∙ ap (option_map object_number) (slice_get_read (take count order) count place object (sym (length-take-le count order within)) low (is ∙ sym (get_or-take count order place object low))))

-- none has a place past them
pub member-past : (order : List ObjectId) (count place : ℕ) → count ≤ length order → count ≤ place → None ≡ slice_get (map object_number (take count order)) place
member-past order count place within past =
    sym (slice_get_past (map object_number (take count order)) place (omega (arith, length-map (take count order) object_number, length-take-le count order within)))

-- the members, once an object has its place behind them
members-put : (order : List ObjectId) (count : ℕ) (object : ObjectId) → count < length order →
    map object_number (take (count + 1) (set order count object)) ≡ map object_number (take count order) ++ object_number object ∷ []
members-put order count object low = ap (map object_number) (take_more_set order count object low) ∙ map_push object_number (take count order) object

-- an object that is no member is put in
pub IsOrdered-put : (members : List Bool) (order : List ObjectId) (count : ℕ) (object : ObjectId) → IsOrdered members order count → object_number object < length members →
    get_or members (object_number object) false ≡ false → IsOrdered (set members (object_number object) true) (set order count object) (count + 1)
IsOrdered-put members order count object had low none = record {
  long = length-set order count object ∙ had.long ∙ sym (length-set members (object_number object) true);
  counted = member_count-set members (object_number object) low none ∙ ap (λ n. n + 1) had.counted;
  listed = λ o. ap (λ l. has l o) (members-put order count object room) ∙ here o;
}
  where
    room : count < length order
    room = count-room members order count (object_number object) had low none

    here : (o : ℕ) → has (map object_number (take count order) ++ object_number object ∷ []) o ≡ get_or (set members (object_number object) true) o false
    here o =
        elim (cases_eq o (object_number object)) [
          | inl same ↦
              ap (has (map object_number (take count order) ++ object_number object ∷ [])) same ∙ now_has (map object_number (take count order)) (object_number object)
              ∙ sym (ap (λ j. get_or (set members (object_number object) true) j false) same ∙ get_or-set_same members (object_number object) true false low)
          | inr other ↦
              still_has (map object_number (take count order)) (object_number object) o other ∙ had.listed o
              ∙ sym (get_or-set_other members (object_number object) o true false other)
        ]

abbrev made : ℕ → List ℕ → OrderedObjects
made bound objects = record { bound = bound; objects = objects }

-- what contracts see of it then
pub view-put : (members : List Bool) (order : List ObjectId) (count : ℕ) (object : ObjectId) (kept : OrderedObjects) → IsOrdered members order count → object_number object < length members →
    get_or members (object_number object) false ≡ false → view members order count ≡ kept →
    view (set members (object_number object) true) (set order count object) (count + 1) ≡ record kept { objects = with_object kept.objects (object_number object) }
view-put members order count object kept had low none is =
    ap₂ made (length-set members (object_number object) true)
    (members-put order count object (count-room members order count (object_number object) had low none)
    ∙ sym (cond-false (has (map object_number (take count order)) (object_number object)) (map object_number (take count order)) (map object_number (take count order) ++ object_number object ∷ [])
    (had.listed (object_number object) ∙ none)))
    ∙ ap (λ (k : OrderedObjects). made k.bound (with_object k.objects (object_number object))) is

-- the members have numbers below the bound
pub members-below : (members : List Bool) (order : List ObjectId) (count : ℕ) (objects : List ObjectId) → IsOrdered members order count → objects ≡ take count order →
    All (λ object. object_number object < length members) objects
members-below members order count objects had are k d low =
    let number : get_or (map object_number objects) k (object_number d) ≡ object_number (get_or objects k d) = get_or-map object_number objects k d (object_number d) low in
    let there : has (map object_number objects) (object_number (get_or objects k d)) ≡ true =
    ap (has (map object_number objects)) (sym number) ∙ has-get_or (map object_number objects) k (object_number d) (omega (arith, length-map objects object_number)) in
    let member : get_or members (object_number (get_or objects k d)) false ≡ true =
    sym (had.listed (object_number (get_or objects k d))) ∙ subst (λ l. has (map object_number l) (object_number (get_or objects k d)) ≡ true) are there in
    elim (cases_lt (object_number (get_or objects k d)) (length members)) [
      | inl below ↦ below
      | inr past ↦ absurd (both_ways (get_or members (object_number (get_or objects k d)) false) (get_or_past members (object_number (get_or objects k d)) false past) member)
    ]

-- and so has the one of a place
pub member-below : (members : List Bool) (order : List ObjectId) (count place : ℕ) (object : ObjectId) → IsOrdered members order count → place < count → object ≡ get_or order place object →
    object_number object < length members
member-below members order count place object had low is =
    let within : count ≤ length order = count-within members order count had in
    let below : object_number (get_or (take count order) place object) < length members =
    members-below members order count (take count order) had refl place object (omega (arith, length-take-le count order within)) in
    let same : object_number (get_or (take count order) place object) ≡ object_number object = ap object_number (get_or-take count order place object low ∙ sym is) in
    omega arith

-- all members are taken out
pub IsOrdered-cleared : (before later : List Bool) (order : List ObjectId) (count : ℕ) (objects : List ObjectId) → IsOrdered before order count → objects ≡ take count order →
    TakesOut (map object_number objects) before later → IsOrdered later order 0
IsOrdered-cleared before later order count objects had are out =
    IsOrdered-none later order (had.long ∙ sym out.same_length)
    (λ o. elim (cases_Bool (has (map object_number objects) o)) [
      | inl member ↦ out.gone o member
      | inr other ↦ out.kept o other ∙ sym (had.listed o) ∙ subst (λ l. has (map object_number l) o ≡ false) are other
    ])

-- no object is taken out yet, and one more
pub TakesOut-none : (before : List Bool) → TakesOut [] before before
TakesOut-none before = record { same_length = refl; gone = λ o there. absurd (cc); kept = λ o other. refl }

pub TakesOut-more : (objects : List ℕ) (before later : List Bool) (x : ℕ) → TakesOut objects before later → x < length later → TakesOut (objects ++ x ∷ []) before (set later x false)
TakesOut-more objects before later x had low = record {
  same_length = length-set later x false ∙ had.same_length;
  gone = λ o there.
      elim (cases_eq o x) [
        | inl same ↦ ap (λ j. get_or (set later x false) j false) same ∙ get_or-set_same later x false false low
        | inr other ↦ get_or-set_other later x o false false other ∙ had.gone o (sym (still_has objects x o other) ∙ there)
      ];
  kept = λ o none.
      elim (cases_eq o x) [
        | inl same ↦ absurd (both_ways (has (objects ++ x ∷ []) o) none (ap (has (objects ++ x ∷ [])) same ∙ now_has objects x))
        | inr other ↦ get_or-set_other later x o false false other ∙ had.kept o (sym (still_has objects x o other) ∙ none)
      ];
}
