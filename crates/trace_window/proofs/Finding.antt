-- The last change of an object before a moment, by the index.
use Rattle.std.proofs.Common.{◌≡◌, ℕ, zero, suc, ◌+◌, ◌-◌, ◌<◌, ◌≤◌, Bool, true, false, cond, ◌&&◌, List, [], ◌∷◌, ◌++◌, map, length, get_or, take, refl, sym, ap, subst, ◌∙◌, arith}
use Rattle.std.specs.Prelude.{Some, None, filter, nat_eq, nat_lt}
use Rattle.std.specs.List.Sorted.{IsNonDecreasingBy}
use Rattle.std.proofs.lemmas.Bool.{lt-ltb}
use Rattle.std.proofs.lemmas.List.{length-map, length-take-le, get_or-map, map_push, take_more}
use Rattle.vf_base.specs.Base.{object_number}
use Rattle.four_value.specs.Values.{LogicValue}
use Rattle.window_index.specs.Moments.{moment_of, is_of, moments_of, IsLastBefore}
use Rattle.trace_window.specs.declared.change.Change.{Change}
use Rattle.trace_window.specs.Writes.{written_of, value_or, latest}
use Rattle.trace_window.specs.Tables.{occurrence_of, change_moment, at_moment, at_place, at_places, AreChanges}
use Rattle.trace_window.specs.Rising.{RisesBy, rises-weaken, rises-by}
use Rattle.trace_window.specs.ValueLaws.{ComeFrom, latest-later}

-- the changes of one object
abbrev pub own_changes : ℕ → List Change → List Change
own_changes object changes = filter (λ (c : Change). nat_eq (object_number c.object) object) changes

-- their moments are those of the object
own-moments : (object : ℕ) (changes : List Change) → moments_of (map at_moment changes) object ≡ map change_moment (own_changes object changes)
own-moments object [] = refl
own-moments object (c ∷ changes) = go (nat_eq (object_number c.object) object) (own-moments object changes)
  where
    go : (b : Bool) → moments_of (map at_moment changes) object ≡ map change_moment (own_changes object changes) →
        map moment_of (cond b (at_moment c ∷ filter (is_of object) (map at_moment changes)) (filter (is_of object) (map at_moment changes)))
        ≡ map change_moment (cond b (c ∷ own_changes object changes) (own_changes object changes))
    go true rest = ap (λ l. c.moment ∷ l) rest
    go false rest = rest

-- there are as many places
own-count : (object place : ℕ) (changes : List Change) → length (moments_of (at_places place changes) object) ≡ length (own_changes object changes)
own-count object place [] = refl
own-count object place (c ∷ changes) = go (nat_eq (object_number c.object) object) (own-count object (place + 1) changes)
  where
    go : (b : Bool) → length (moments_of (at_places (place + 1) changes) object) ≡ length (own_changes object changes) →
        length (map moment_of (cond b (at_place place c ∷ filter (is_of object) (at_places (place + 1) changes)) (filter (is_of object) (at_places (place + 1) changes))))
        ≡ length (cond b (c ∷ own_changes object changes) (own_changes object changes))
    go true h = ap suc h
    go false h = h

-- and at each of them stands the change
record StandsAt (object place : ℕ) (changes : List Change) (k : ℕ) : Type 0 where
  low : place ≤ get_or (moments_of (at_places place changes) object) k 0
  high : get_or (moments_of (at_places place changes) object) k 0 < place + length changes
  is : (d : Change) → get_or changes (get_or (moments_of (at_places place changes) object) k 0 - place) d ≡ get_or (own_changes object changes) k d

-- what stands at a place of a list behind its first element
behind : (c d : Change) (changes : List Change) (p place : ℕ) → place + 1 ≤ p → get_or (c ∷ changes) (p - place) d ≡ get_or changes (p - (place + 1)) d
behind c d changes p place low = let e : p - place ≡ suc (p - (place + 1)) = omega arith in ap (λ n. get_or (c ∷ changes) n d) e

own-places : (object place : ℕ) (changes : List Change) (k : ℕ) → k < length (own_changes object changes) → StandsAt object place changes k
own-places object place [] k within = absurd (omega arith)
own-places object place (c ∷ changes) k within = go (nat_eq (object_number c.object) object) refl (λ j lower. own-places object (place + 1) changes j lower)
  where
    go : (b : Bool) → nat_eq (object_number c.object) object ≡ b → ((j : ℕ) → j < length (own_changes object changes) → StandsAt object (place + 1) changes j) → StandsAt object place (c ∷ changes) k
    go true e more = first k within
      where
        places-are : moments_of (at_places place (c ∷ changes)) object ≡ place ∷ moments_of (at_places (place + 1) changes) object
        places-are = ap (λ b. map moment_of (cond b (at_place place c ∷ filter (is_of object) (at_places (place + 1) changes)) (filter (is_of object) (at_places (place + 1) changes)))) e

        grown : own_changes object (c ∷ changes) ≡ c ∷ own_changes object changes
        grown = ap (λ b. cond b (c ∷ own_changes object changes) (own_changes object changes)) e

        first : (j : ℕ) → j < length (own_changes object (c ∷ changes)) → StandsAt object place (c ∷ changes) j
        first zero lower = record {
          low = subst (λ l. place ≤ get_or l 0 0) (sym places-are) (omega arith);
          high = subst (λ l. get_or l 0 0 < place + length (c ∷ changes)) (sym places-are) (omega arith);
          is = λ d. (λ i. get_or (c ∷ changes) (get_or (places-are i) 0 0 - place) d) ∙ (let e : place - place ≡ 0 = omega arith in ap (λ n. get_or (c ∷ changes) n d) e)
              ∙ sym (ap (λ l. get_or l 0 d) grown);
        }
        first (suc j) lower =
            let less : suc j < length (c ∷ own_changes object changes) = subst (λ l. suc j < length l) grown lower in
            let had = more j (omega arith) in
            record {
              low = subst (λ l. place ≤ get_or l (suc j) 0) (sym places-are) (let h : place + 1 ≤ get_or (moments_of (at_places (place + 1) changes) object) j 0 = had.low in omega arith);
              high = subst (λ l. get_or l (suc j) 0 < place + length (c ∷ changes)) (sym places-are)
                  (let h : get_or (moments_of (at_places (place + 1) changes) object) j 0 < place + 1 + length changes = had.high in omega arith);
              is = λ d. (λ i. get_or (c ∷ changes) (get_or (places-are i) (suc j) 0 - place) d) ∙ behind c d changes (get_or (moments_of (at_places (place + 1) changes) object) j 0) place had.low
                  ∙ had.is d
                  ∙ sym (ap (λ l. get_or l (suc j) d) grown);
            }
    go false e more =
        let had = more k (subst (λ l. k < length l) grown within) in
        record {
          low = subst (λ l. place ≤ get_or l k 0) (sym places-are) (let h : place + 1 ≤ get_or (moments_of (at_places (place + 1) changes) object) k 0 = had.low in omega arith);
          high = subst (λ l. get_or l k 0 < place + length (c ∷ changes)) (sym places-are)
              (let h : get_or (moments_of (at_places (place + 1) changes) object) k 0 < place + 1 + length changes = had.high in omega arith);
          is = λ d. (λ i. get_or (c ∷ changes) (get_or (places-are i) k 0 - place) d) ∙ behind c d changes (get_or (moments_of (at_places (place + 1) changes) object) k 0) place had.low ∙ had.is d
              ∙ sym (ap (λ l. get_or l k d) grown);
        }
      where
        places-are : moments_of (at_places place (c ∷ changes)) object ≡ moments_of (at_places (place + 1) changes) object
        places-are = ap (λ b. map moment_of (cond b (at_place place c ∷ filter (is_of object) (at_places (place + 1) changes)) (filter (is_of object) (at_places (place + 1) changes)))) e

        grown : own_changes object (c ∷ changes) ≡ own_changes object changes
        grown = ap (λ b. cond b (c ∷ own_changes object changes) (own_changes object changes)) e

-- The latest write of an object is among its own

latest-own : (value : LogicValue) (object moment : ℕ) (changes : List Change) → latest value object moment (map written_of changes) ≡ latest value object moment
    (map written_of (own_changes object changes))
latest-own value object moment [] = refl
latest-own value object moment (c ∷ changes) = go (nat_eq (object_number c.object) object) refl (λ v. latest-own v object moment changes)
  where
    go : (b : Bool) → nat_eq (object_number c.object) object ≡ b → ((v : LogicValue) → latest v object moment (map written_of changes) ≡ latest v object moment
        (map written_of (own_changes object changes))) →
        latest (value_or value object moment (written_of c)) object moment (map written_of changes) ≡ latest value object moment
        (map written_of (cond b (c ∷ own_changes object changes) (own_changes object changes)))
    go true e rest = rest (value_or value object moment (written_of c))
    go false e rest = ap (λ b. latest (cond (b && nat_lt c.moment moment) c.value value) object moment (map written_of changes)) e ∙ rest value

-- the changes of an object, one by one
abbrev pub AreOwn : ℕ → List Change → Type 0
AreOwn object [] = Unit {0}
AreOwn object (c ∷ changes) = (nat_eq (object_number c.object) object ≡ true) × AreOwn object changes

own-are : (object : ℕ) (changes : List Change) → AreOwn object (own_changes object changes)
own-are object [] = tt
own-are object (c ∷ changes) = go (nat_eq (object_number c.object) object) refl (own-are object changes)
  where
    go : (b : Bool) → nat_eq (object_number c.object) object ≡ b → AreOwn object (own_changes object changes) → AreOwn object (cond b (c ∷ own_changes object changes) (own_changes object changes))
    go true e rest = (e, rest)
    go false e rest = rest

-- none comes before the moment
come-all : (moment : ℕ) (changes : List Change) → ((k : ℕ) → k < length changes → moment ≤ get_or (map change_moment changes) k 0) → ComeFrom moment (map written_of changes)
come-all moment [] h = tt
come-all moment (c ∷ changes) h = (h 0 (omega arith), come-all moment changes (λ k low. h (suc k) (omega arith)))

-- the last that does
latest-at : (value : LogicValue) (object moment : ℕ) (changes : List Change) (k : ℕ) (d : Change) → AreOwn object changes → k < length changes → get_or (map change_moment changes) k 0 < moment →
    ((later : ℕ) → k < later → later < length changes → moment ≤ get_or (map change_moment changes) later 0) → latest value object moment (map written_of changes) ≡ (get_or changes k d).value
latest-at value object moment [] k d own within less last = absurd (omega arith)
latest-at value object moment (c ∷ changes) zero d own within less last =
    latest-later (value_or value object moment (written_of c)) object moment (map written_of changes) (come-all moment changes (λ j low. last (suc j) (omega arith) (omega arith)))
    ∙ ap (λ b. cond (b && nat_lt c.moment moment) c.value value) own.0 ∙ ap (λ b. cond b c.value value) (lt-ltb c.moment moment less)
latest-at value object moment (c ∷ changes) (suc k) d own within less last =
    latest-at (value_or value object moment (written_of c)) object moment changes k d own.1 (omega arith) less (λ later above low. last (suc later) (omega arith) (omega arith))

-- What the search answers

-- the moments of an object in the index
moments-at : (objects : ℕ) (changes : List Change) (moments places : List (List ℕ)) (object : ℕ) → AreChanges objects changes moments places → object < objects →
    get_or moments object [] ≡ map change_moment (own_changes object changes)
moments-at objects changes moments places object had low = had.moments_are.moments object low ∙ own-moments object changes

pub found-none : (value : LogicValue) (objects : ℕ) (changes : List Change) (moments places : List (List ℕ)) (object moment : ℕ) → AreChanges objects changes moments places → object < objects →
    IsLastBefore (get_or moments object []) moment None →
    value ≡ latest value object moment (map written_of changes)
found-none value objects changes moments places object moment had low none =
    let at = moments-at objects changes moments places object had low in
    let all = subst (λ l. IsLastBefore l moment None) at none in
    let long : length (map change_moment (own_changes object changes)) ≡ length (own_changes object changes) = length-map (own_changes object changes) change_moment in
    sym (latest-own value object moment changes ∙ latest-later value object moment (map written_of (own_changes object changes))
    (come-all moment (own_changes object changes) (λ k below. all k 0 (omega arith))))

-- the place of the last change of an object before a moment
pub record IsFound (value : LogicValue) (changes : List Change) (places : List (List ℕ)) (object moment own : ℕ) : Type 0 where
  pub own_low : own < length (get_or places object [])
  pub place_low : get_or (get_or places object []) own 0 < length changes
  pub value_is : (d : Change) → (get_or changes (get_or (get_or places object []) own 0) d).value ≡ latest value object moment (map written_of changes)

pub found-some : (value : LogicValue) (objects : ℕ) (changes : List Change) (moments places : List (List ℕ)) (object moment own : ℕ) → AreChanges objects changes moments places → object < objects →
    IsLastBefore (get_or moments object []) moment (Some own) →
    IsFound value changes places object moment own
found-some value objects changes moments places object moment own had low some =
    let at = moments-at objects changes moments places object had low in
    let last = subst (λ l. IsLastBefore l moment (Some own)) at some in
    let long : length (map change_moment (own_changes object changes)) ≡ length (own_changes object changes) = length-map (own_changes object changes) change_moment in
    let count : length (moments_of (at_places 0 changes) object) ≡ length (own_changes object changes) = own-count object 0 changes in
    let places-at : get_or places object [] ≡ moments_of (at_places 0 changes) object = had.places_are.moments object low in
    let within : own < length (own_changes object changes) = omega (arith, last.0, long) in
    let stands = own-places object 0 changes own within in
    record {
      own_low = subst (λ l. own < length l) (sym places-at) (omega arith);
      place_low = subst (λ l. get_or l own 0 < length changes) (sym places-at) (let h : get_or (moments_of (at_places 0 changes) object) own 0 < 0 + length changes = stands.high in omega arith);
      value_is = λ d.
          (λ i. (get_or changes (get_or (places-at i) own 0) d).value)
          ∙ ap (λ n. (get_or changes n d).value) (let e : get_or (moments_of (at_places 0 changes) object) own 0 ≡ get_or (moments_of (at_places 0 changes) object) own 0 - 0 = omega arith in e)
          ∙ ap (λ (c : Change). c.value) (stands.is d)
          ∙ sym (latest-own value object moment changes
          ∙ latest-at value object moment (own_changes object changes) own d (own-are object changes) within last.1 (λ later above lower. last.2 later above (omega arith)));
    }

-- Building

map_numbered-push : (place : ℕ) (changes : List Change) (c : Change) → at_places place (changes ++ c ∷ []) ≡ at_places place changes ++ at_place (place + length changes) c ∷ []
map_numbered-push place [] c = let e : place ≡ place + 0 = omega arith in ap (λ n. at_place n c ∷ []) e
map_numbered-push place (x ∷ changes) c =
    ap (λ l. at_place place x ∷ l) (map_numbered-push (place + 1) changes c ∙ (let e : place + 1 + length changes ≡ place + suc (length changes) = omega arith in
    ap (λ n. at_places (place + 1) changes ++ at_place n c ∷ []) e))

-- the moments of changes ascend where theirs do
pub moments-ascend : (changes : List Change) → IsNonDecreasingBy change_moment changes → IsNonDecreasingBy moment_of (map at_moment changes)
moments-ascend changes up i j d order within =
    let long : length (map at_moment changes) ≡ length changes = length-map changes at_moment in
    let blank : Change = record { moment = 0; object = record { 0 = 0 }; value = [] } in
    let first : get_or (map at_moment changes) i d ≡ at_moment (get_or changes i blank) = get_or-map at_moment changes i blank d (omega arith) in
    let second : get_or (map at_moment changes) j d ≡ at_moment (get_or changes j blank) = get_or-map at_moment changes j blank d (omega arith) in
    let less : (get_or changes i blank).moment ≤ (get_or changes j blank).moment = up i j blank order (omega arith) in
    let one : moment_of (get_or (map at_moment changes) i d) ≡ (get_or changes i blank).moment = ap moment_of first in
    let other : moment_of (get_or (map at_moment changes) j d) ≡ (get_or changes j blank).moment = ap moment_of second in
    omega arith

places-rise : (place : ℕ) (changes : List Change) → RisesBy moment_of place (at_places place changes)
places-rise place [] = tt
places-rise place (c ∷ changes) = (omega arith, rises-weaken moment_of place (place + 1) (at_places (place + 1) changes) (omega arith) (places-rise (place + 1) changes))

pub places-ascend : (changes : List Change) → IsNonDecreasingBy moment_of (at_places 0 changes)
places-ascend changes = rises-by moment_of 0 (at_places 0 changes) (places-rise 0 changes)

-- one more
pub at_moment-more : (changes : List Change) (i : ℕ) (c : Change) → i < length changes → c ≡ get_or changes i c →
    map at_moment (take (i + 1) changes) ≡ map at_moment (take i changes) ++ at_moment c ∷ []
at_moment-more changes i c low read = ap (map at_moment) (take_more changes i c low ∙ ap (λ x. take i changes ++ x ∷ []) (sym read)) ∙ map_push at_moment (take i changes) c

pub at_places-more : (changes : List Change) (i : ℕ) (c : Change) → i < length changes → c ≡ get_or changes i c → at_places 0 (take (i + 1) changes) ≡ at_places 0 (take i changes) ++ at_place i c ∷ []
at_places-more changes i c low read =
    ap (at_places 0) (take_more changes i c low ∙ ap (λ x. take i changes ++ x ∷ []) (sym read)) ∙ map_numbered-push 0 (take i changes) c
    ∙ ap (λ n. at_places 0 (take i changes) ++ at_place n c ∷ []) (let long : length (take i changes) ≡ i = length-take-le i changes (omega arith) in
    let e : 0 + length (take i changes) ≡ i = omega arith in e)

-- the changes as occurrences are the writes as such
pub change-occurrences : (changes : List Change) → map at_moment changes ≡ map occurrence_of (map written_of changes)
change-occurrences [] = refl
change-occurrences (c ∷ changes) = ap (λ l. at_moment c ∷ l) (change-occurrences changes)
