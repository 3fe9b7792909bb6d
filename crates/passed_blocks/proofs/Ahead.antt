-- The next block among the moments with which blocks begin.
use Rattle.std.proofs.Common.{◌≡◌, ℕ, zero, suc, ◌+◌, ◌<◌, ◌≤◌, Bool, true, false, ◌||◌, List, [], ◌∷◌, map, length, get_or, min, refl, sym, ap, subst, ◌∙◌, ◌⊎◌, inl, inr, arith}
use Rattle.std.specs.Prelude.{Option, Some, None, is_some, nat_eq, slice_get}
use Rattle.std.specs.List.{AllZip}
use Rattle.std.proofs.lemmas.Bool.{cases_lt, cases_eq, eq-eqb, eqb-true}
use Rattle.std.proofs.lemmas.List.{length-map}
use Rattle.std.proofs.lemmas.Option.{slice_get-get_or, slice_get-map}
use Rattle.std.specs.Option.{option_map}
use Rattle.vf_base.specs.Lists.{has}
use Rattle.v_design.specs.Grades.{Phase}
use Rattle.v_design.specs.States.{Event}
use Rattle.causal_monitor.specs.declared.slot.Actor.{Actor}
use Rattle.slot_record.specs.Records.{event_of}
use Rattle.window_blocks.specs.Blocks.{AscendFrom, AreFirstEvents, events_of, IsBlockAt}
use Rattle.shown_blocks.specs.Ahead.{IsAhead}

-- a number stands at a place
pub has-place : (xs : List ℕ) (n : ℕ) → has xs n ≡ true → (place : ℕ) × (place < length xs) × (get_or xs place 0 ≡ n)
has-place [] n e = cc
has-place (x ∷ xs) n e = go (nat_eq x n) refl e (has-place xs n)
  where
    go : (b : Bool) → nat_eq x n ≡ b → (b || has xs n) ≡ true → (has xs n ≡ true → (place : ℕ) × (place < length xs) × (get_or xs place 0 ≡ n)) →
        (place : ℕ) × (place < length (x ∷ xs)) × (get_or (x ∷ xs) place 0 ≡ n)
    go true is f rest = (0, (let l : length (x ∷ xs) ≡ suc (length xs) = refl in omega (arith, l)), eqb-true x n is)
    go false is f rest =
        let found = rest f in (suc found.0, (let l : length (x ∷ xs) ≡ suc (length xs) = refl in let low : found.0 < length xs = found.1 in omega (arith, l, low)), found.2)

place-has : (xs : List ℕ) (place : ℕ) → place < length xs → has xs (get_or xs place 0) ≡ true
place-has [] place low = absurd (omega (arith, low))
place-has (x ∷ xs) zero low = ap (λ b. b || has xs x) (eq-eqb x x refl)
place-has (x ∷ xs) (suc place) low = right (nat_eq x (get_or xs place 0)) (has xs (get_or xs place 0)) (place-has xs place (omega (arith, low)))
  where
    right : (a b : Bool) → b ≡ true → (a || b) ≡ true
    right true b e = refl
    right false b e = e

ascend-least : (xs : List ℕ) (least place : ℕ) → AscendFrom least xs → place < length xs → least ≤ get_or xs place 0
ascend-least [] least place h low = absurd (omega (arith, low))
ascend-least (x ∷ xs) least zero h low = h.0
ascend-least (x ∷ xs) least (suc place) h low =
    let first : least ≤ x = h.0 in let rest : x + 1 ≤ get_or xs place 0 = ascend-least xs (x + 1) place h.1 (omega (arith, low)) in omega (arith, first, rest)

-- they ascend
ascends : (xs : List ℕ) (least place later : ℕ) → AscendFrom least xs → place < later → later < length xs → get_or xs place 0 < get_or xs later 0
ascends [] least place later h order low = absurd (omega (arith, low))
ascends (x ∷ xs) least place zero h order low = absurd (omega (arith, order))
ascends (x ∷ xs) least zero (suc later) h order low = let rest : x + 1 ≤ get_or xs later 0 = ascend-least xs (x + 1) later h.1 (omega (arith, low)) in omega (arith, rest)
ascends (x ∷ xs) least (suc place) (suc later) h order low = ascends xs (x + 1) place later h.1 (omega (arith, order)) (omega (arith, low))

-- a moment with which a block begins is that of its block
pub block-moment : (moments : List ℕ) (moment block : ℕ) → AscendFrom 0 moments → has moments moment ≡ true → IsBlockAt moments moment (Some block) → get_or moments block 0 ≡ moment
block-moment moments moment block rise told at =
    let found = has-place moments moment told in
    let own : get_or moments found.0 0 ≡ moment = found.2 in
    let low : get_or moments block 0 ≤ moment = at.1 in
    elim (cases_lt found.0 block) [
      | inl before ↦ let up : get_or moments found.0 0 < get_or moments block 0 = ascends moments 0 found.0 block rise before at.0 in absurd (omega (arith, up, own, low))
      | inr behind ↦ elim (cases_lt block found.0) [
        | inl more ↦ let up : moment < get_or moments found.0 0 = at.2 found.0 more found.1 in absurd (omega (arith, up, own))
        | inr less ↦ let same : found.0 ≡ block = omega (arith, behind, less) in ap (λ n. get_or moments n 0) (sym same) ∙ own
      ]
    ]

zip-at : (events : List Event) (moments : List ℕ) (firsts : List Event) (place : ℕ) (event : Event) → AllZip (λ moment event. slice_get events moment ≡ Some event) moments firsts →
    slice_get firsts place ≡ Some event → place < length moments → slice_get events (get_or moments place 0) ≡ Some event
zip-at events [] firsts place event zip here low = absurd (omega (arith, low))
zip-at events (m ∷ moments) [] place event zip here low = absurd zip
zip-at events (m ∷ moments) (f ∷ firsts) zero event zip here low = zip.0 ∙ here
zip-at events (m ∷ moments) (f ∷ firsts) (suc place) event zip here low = zip-at events moments firsts place event zip.1 here (omega (arith, low))

-- where a block ends, behind which the one of a place comes, if there is one
abbrev pub EndsAt : List ℕ → ℕ → ℕ → ℕ → Type 0
EndsAt moments next end phase_end = ((next < length moments) × (end ≡ min (get_or moments next 0) phase_end)) ⊎ ((length moments ≤ next) × (end ≡ phase_end))

-- who acts in it is told
zip-long : (events : List Event) (moments : List ℕ) (firsts : List Event) → AllZip (λ moment event. slice_get events moment ≡ Some event) moments firsts → length firsts ≡ length moments
zip-long events [] [] zip = refl
zip-long events [] (f ∷ firsts) zip = absurd zip
zip-long events (m ∷ moments) [] zip = absurd zip
zip-long events (m ∷ moments) (f ∷ firsts) zip = ap suc (zip-long events moments firsts zip.1)

pub actor-there : (phases : List Phase) (moments : List ℕ) (firsts : List Event) (actors : List Actor) (moment block : ℕ) → AreFirstEvents phases moments firsts → map event_of actors ≡ firsts →
    IsBlockAt moments moment (Some block) → block < length actors
actor-there phases moments firsts actors moment block zip are at =
    let low : block < length moments = at.0 in
    let long : length firsts ≡ length moments = zip-long (events_of phases) moments firsts zip in
    let own : length (map event_of actors) ≡ length actors = length-map actors event_of in
    let same : length (map event_of actors) ≡ length firsts = ap length are in
    omega (arith, low, long, own, same)

-- the block that begins there, by who acts in its first event and where the next one begins
pub ahead-is : (phases : List Phase) (moments : List ℕ) (firsts : List Event) (actors : List Actor) (phase_end moment block end : ℕ) (d : Actor) → AscendFrom 0 moments →
    AreFirstEvents phases moments firsts → map event_of actors ≡ firsts → has moments moment ≡ true → IsBlockAt moments moment (Some block) → moment < phase_end →
    EndsAt moments (block + 1) end phase_end →
    IsAhead phases moments phase_end moment end (get_or actors block d)
ahead-is phases moments firsts actors phase_end moment block end d rise zip are told at within next = record {
  some = some next;
  within = up next;
  stops = stops next;
  none = λ other more less. none next other more less (has moments other) refl;
  acts = ap (λ n. slice_get (events_of phases) n) (sym own) ∙ zip-at (events_of phases) moments firsts block (event_of (get_or actors block d)) zip
      (ap (λ l. slice_get l block) (sym are) ∙ slice_get-map event_of actors block
      ∙ ap (option_map event_of) (slice_get-get_or actors block d (actor-there phases moments firsts actors moment block zip are at)))
      at.0;
}
  where
    own : get_or moments block 0 ≡ moment
    own = block-moment moments moment block rise told at

    behind : block + 1 < length moments → moment < get_or moments (block + 1) 0
    behind low = let z : get_or moments block 0 < get_or moments (block + 1) 0 = ascends moments 0 block (block + 1) rise (omega arith) low in omega (arith, z, own)

    some : EndsAt moments (block + 1) end phase_end → moment < end
    some (inl h) = let b : moment < get_or moments (block + 1) 0 = behind h.0 in let e : end ≡ min (get_or moments (block + 1) 0) phase_end = h.1 in omega (arith, b, e, within)
    some (inr h) = let e : end ≡ phase_end = h.1 in omega (arith, e, within)

    up : EndsAt moments (block + 1) end phase_end → end ≤ phase_end
    up (inl h) = let e : end ≡ min (get_or moments (block + 1) 0) phase_end = h.1 in omega (arith, e)
    up (inr h) = let e : end ≡ phase_end = h.1 in omega (arith, e)

    stops : EndsAt moments (block + 1) end phase_end →
        (end ≡ phase_end) ⊎ (has moments end ≡ true)
    stops (inl h) = elim (cases_lt (get_or moments (block + 1) 0) phase_end) [
      | inl less ↦
          let e : end ≡ get_or moments (block + 1) 0 = (let m : end ≡ min (get_or moments (block + 1) 0) phase_end = h.1 in omega (arith, m, less)) in
          inr (ap (has moments) e ∙ place-has moments (block + 1) h.0)
      | inr more ↦ inl (let m : end ≡ min (get_or moments (block + 1) 0) phase_end = h.1 in omega (arith, m, more))
    ]
    stops (inr h) = inl h.1

    none : EndsAt moments (block + 1) end phase_end →
        (other : ℕ) → moment < other → other < end → (b : Bool) → has moments other ≡ b → has moments other ≡ false
    none way other more less false e = e
    none way other more less true e =
        let found = has-place moments other e in
        let is : get_or moments found.0 0 ≡ other = found.2 in
        elim (cases_lt block found.0) [
          | inl later ↦ absurd (past way found.0 later found.1 is)
          | inr early ↦ elim (cases_eq found.0 block) [
            | inl same ↦ absurd (let z : get_or moments found.0 0 ≡ moment = ap (λ n. get_or moments n 0) same ∙ own in omega (arith, z, is, more))
            | inr apart ↦ absurd (let z : get_or moments found.0 0 < get_or moments block 0 = ascends moments 0 found.0 block rise (omega (arith, early, apart)) at.0 in omega (arith, z, is, own, more))
          ]
        ]
      where
        past : EndsAt moments (block + 1) end phase_end →
            (place : ℕ) → block < place → place < length moments → get_or moments place 0 ≡ other → ⊥
        past (inr h) place later low is = let l : length moments ≤ block + 1 = h.0 in omega (arith, l, later, low)
        past (inl h) place later low is =
            let m : end ≡ min (get_or moments (block + 1) 0) phase_end = h.1 in
            elim (cases_eq place (block + 1)) [
              | inl same ↦ let z : get_or moments place 0 ≡ get_or moments (block + 1) 0 = ap (λ n. get_or moments n 0) same in omega (arith, z, is, m, less)
              | inr apart ↦ let z : get_or moments (block + 1) 0 < get_or moments place 0 = ascends moments 0 (block + 1) place rise (omega (arith, later, apart)) low in omega (arith, z, is, m, less)
            ]

-- A block is there

-- the one of a moment with which a block begins
pub block-some : (moments : List ℕ) (moment : ℕ) (found : Option ℕ) → has moments moment ≡ true → IsBlockAt moments moment found → is_some found ≡ true
block-some moments moment (Some block) some at = refl
block-some moments moment None some at =
    let found = has-place moments moment some in
    let is : get_or moments found.0 0 ≡ moment = found.2 in
    let later : moment < get_or moments found.0 0 = at found.0 found.1 in
    absurd (omega (arith, is, later))

-- where it ends
end-cases : (moments : List ℕ) (next end phase_end : ℕ) → (next < length moments → end ≡ min (get_or moments next 0) phase_end) → (length moments ≤ next → end ≡ phase_end) →
    EndsAt moments next end phase_end
end-cases moments next end phase_end inside past = elim (cases_lt next (length moments)) [ inl low ↦ inl (low, inside low) | inr high ↦ inr (high, past high) ]

pub end-told : (moments told ends told_ends : List ℕ) (next end phase : ℕ) → told ≡ moments → told_ends ≡ ends →
    (next < length told → end ≡ min (get_or told next 0) (get_or told_ends phase 0)) → (length told ≤ next → end ≡ get_or told_ends phase 0) → EndsAt moments next end (get_or ends phase 0)
end-told moments told ends told_ends next end phase one two inside past =
    subst (λ l. EndsAt l next end (get_or ends phase 0)) one
    (subst (λ l. EndsAt told next end (get_or l phase 0)) two (end-cases told next end (get_or told_ends phase 0) inside past))
