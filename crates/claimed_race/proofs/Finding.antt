-- The pair that is found by places is the first one of the list.
use Rattle.std.proofs.Common.{◌≡◌, ℕ, zero, suc, ◌+◌, ◌-◌, ◌<◌, List, [], ◌∷◌, length, drop, Bool, true, false, ◌&&◌, refl, sym, ap, subst, ◌∙◌, arith}
use Rattle.std.specs.Prelude.{Option, Some, None, option_map, find, cond}
use Rattle.std.proofs.lemmas.Bool.{lt-ltb, le-ltb}
use Rattle.std.proofs.lemmas.List.{drop_more, drop_all}
use Rattle.vf_base.specs.Lists.{AllHold}
use Rattle.v_design.specs.Designs.{FlatDesign}
use Rattle.v_design.specs.Grades.{race_of}
use Rattle.v_design.specs.Laws.{place_if}
use Rattle.v_design.specs.Logs.{LoggedPhase, PhaseAccess, conflict}
use Rattle.causal_monitor.specs.Links.{access_at, no_access}
use Rattle.cert_laws.specs.Valid.{prints}
use Rattle.replay_laws.specs.Claimed.{pair_with, pair_if, pair_or, first_pair}
use Rattle.claimed_race.specs.Places.{places_of, is_second, pair_of_places, both_at}

-- Options

map-or : {A B : Type 0} (f : A → B) (one other : Option A) → option_map f (pair_or one other) ≡ pair_or (option_map f one) (option_map f other)
map-or f None other = refl
map-or f (Some x) other = refl

map-map : {A B C : Type 0} (f : B → C) (g : A → B) (found : Option A) → option_map f (option_map g found) ≡ option_map (λ x. f (g x)) found
map-map f g None = refl
map-map f g (Some x) = refl

-- Places

-- the first of some places that passes a test, with one place more where it is wanted
find-if : (test : ℕ → Bool) (wanted : Bool) (place : ℕ) (rest : List ℕ) → find test (place_if wanted place rest) ≡ cond (wanted && test place) (Some place) (find test rest)
find-if test true place rest = refl
find-if test false place rest = refl

and-false : (a b : Bool) → b ≡ false → (a && b) ≡ false
and-false true b e = e
and-false false b e = refl

module _ (design : FlatDesign) (log : LoggedPhase) (second : List ℕ) (accesses : List PhaseAccess) (first : ℕ) (within : first < length accesses) where
  -- the places from one on
  abbrev from : ℕ → List ℕ
  from place = places_of design second place (drop place accesses)

  from-more : (place : ℕ) → place < length accesses → from place ≡ place_if (prints design second (access_at accesses place)) place (from (place + 1))
  from-more place low = ap (places_of design second place) (drop_more accesses place no_access low)

  -- none of the places up to the first one is behind it
  none-before : (left place : ℕ) → place + left ≡ first + 1 → find (is_second log accesses first) (from place) ≡ find (is_second log accesses first) (from (first + 1))
  none-before zero place e = ap (λ n. find (is_second log accesses first) (from n)) (let z : place ≡ first + 1 = omega (arith, e) in z)
  none-before (suc left) place e =
      ap (find (is_second log accesses first)) (from-more place (omega (arith, e, within)))
      ∙ find-if (is_second log accesses first) (prints design second (access_at accesses place)) place (from (place + 1))
      ∙ ap (λ b. cond b (Some place) (find (is_second log accesses first) (from (place + 1))))
      (and-false (prints design second (access_at accesses place)) (is_second log accesses first place)
      (ap (λ b. b && conflict log (access_at accesses first) (access_at accesses place)) (le-ltb first place (omega (arith, e)))))
      ∙ none-before left (place + 1) (omega (arith, e))

  -- behind it the places stand for the accesses
  one-behind : (left place : ℕ) → place + left ≡ length accesses → first < place →
      option_map (access_at accesses) (find (is_second log accesses first) (from place))
      ≡ find (λ other. prints design second other && conflict log (access_at accesses first) other) (drop place accesses)
  one-behind zero place e low =
      (λ i. option_map (access_at accesses) (find (is_second log accesses first) (places_of design second place (drop_all place accesses (omega (arith, e)) i))))
      ∙ sym (ap (find (λ other. prints design second other && conflict log (access_at accesses first) other)) (drop_all place accesses (omega (arith, e))))
  one-behind (suc left) place e low =
      ap (option_map (access_at accesses))
      (ap (find (is_second log accesses first)) (from-more place (omega (arith, e)))
      ∙ find-if (is_second log accesses first) (prints design second (access_at accesses place)) place (from (place + 1))
      ∙ ap (λ b. cond (prints design second (access_at accesses place) && (b && conflict log (access_at accesses first) (access_at accesses place))) (Some place)
      (find (is_second log accesses first) (from (place + 1)))) (lt-ltb first place low))
      ∙ go (prints design second (access_at accesses place) && conflict log (access_at accesses first) (access_at accesses place))
      (one-behind left (place + 1) (omega (arith, e)) (omega (arith, low)))
      ∙ sym (ap (find (λ other. prints design second other && conflict log (access_at accesses first) other)) (drop_more accesses place no_access (omega (arith, e))))
    where
      go : (b : Bool) → option_map (access_at accesses) (find (is_second log accesses first) (from (place + 1)))
          ≡ find (λ other. prints design second other && conflict log (access_at accesses first) other) (drop (place + 1) accesses) →
          option_map (access_at accesses) (cond b (Some place) (find (is_second log accesses first) (from (place + 1))))
          ≡ cond b (Some (access_at accesses place)) (find (λ other. prints design second other && conflict log (access_at accesses first) other) (drop (place + 1) accesses))
      go true h = refl
      go false h = h

  -- the first one behind it
  second-is : option_map (λ place. (access_at accesses first, access_at accesses place)) (find (is_second log accesses first) (places_of design second 0 accesses))
      ≡ pair_with design log second (access_at accesses first) (drop (first + 1) accesses)
  second-is =
      ap (option_map (λ place. (access_at accesses first, access_at accesses place))) (none-before (first + 1) 0 (omega arith))
      ∙ sym (map-map (λ other. (access_at accesses first, other)) (access_at accesses) (find (is_second log accesses first) (from (first + 1))))
      ∙ ap (option_map (λ other. (access_at accesses first, other))) (one-behind (length accesses - (first + 1)) (first + 1) (omega (arith, within)) (omega arith))

module _ (design : FlatDesign) (log : LoggedPhase) (first second : List ℕ) (accesses : List PhaseAccess) where
  abbrev seconds : List ℕ
  seconds = places_of design second 0 accesses

  -- one place more in front
  front-pair : (wanted : Bool) (place : ℕ) (rest : List ℕ) → place < length accesses → prints design first (access_at accesses place) ≡ wanted →
      option_map (both_at accesses) (pair_of_places log accesses seconds rest) ≡ first_pair design log first second (drop (place + 1) accesses) →
      option_map (both_at accesses) (pair_of_places log accesses seconds (place_if wanted place rest))
      ≡ pair_or (pair_if wanted (pair_with design log second (access_at accesses place) (drop (place + 1) accesses))) (first_pair design log first second (drop (place + 1) accesses))
  front-pair true place rest low e more =
      map-or (both_at accesses) (option_map (λ at. (place, at)) (find (is_second log accesses place) seconds)) (pair_of_places log accesses seconds rest)
      ∙ (λ i. pair_or
      ((map-map (both_at accesses) (λ at. (place, at)) (find (is_second log accesses place) seconds) ∙ second-is design log second accesses place low) i) (more i))
  front-pair false place rest low e more = more

  -- from a place on
  pair-from : (left place : ℕ) → place + left ≡ length accesses →
      option_map (both_at accesses) (pair_of_places log accesses seconds (places_of design first place (drop place accesses))) ≡ first_pair design log first second (drop place accesses)
  pair-from zero place e =
      (λ i. option_map (both_at accesses) (pair_of_places log accesses seconds (places_of design first place (drop_all place accesses (omega (arith, e)) i))))
      ∙ sym (ap (first_pair design log first second) (drop_all place accesses (omega (arith, e))))
  pair-from (suc left) place e =
      (λ i. option_map (both_at accesses) (pair_of_places log accesses seconds (places_of design first place (drop_more accesses place no_access (omega (arith, e)) i))))
      ∙ front-pair (prints design first (access_at accesses place)) place (places_of design first (place + 1) (drop (place + 1) accesses)) (omega (arith, e)) refl
      (pair-from left (place + 1) (omega (arith, e)))
      ∙ sym (ap (first_pair design log first second) (drop_more accesses place no_access (omega (arith, e))))

  -- the pair that is found by places
  pub pair-is : option_map (both_at accesses) (pair_of_places log accesses seconds (places_of design first 0 accesses)) ≡ first_pair design log first second accesses
  pair-is = pair-from (length accesses) 0 (omega arith)

-- The pair, as a report names it

pub places-found : (design : FlatDesign) (log : LoggedPhase) (first second : List ℕ) (accesses all : List PhaseAccess) (time number : ℕ) (firsts later : List ℕ) → accesses ≡ all →
    firsts ≡ places_of design first 0 accesses → later ≡ places_of design second 0 accesses →
    option_map (λ places. race_of time number (both_at accesses places)) (pair_of_places log accesses later firsts) ≡ option_map (race_of time number) (first_pair design log first second all)
places-found design log first second accesses all time number firsts later same e f =
    (λ i. option_map (λ places. race_of time number (both_at accesses places)) (pair_of_places log accesses (f i) (e i)))
    ∙ sym (map-map (race_of time number) (both_at accesses) (pair_of_places log accesses (places_of design second 0 accesses) (places_of design first 0 accesses)))
    ∙ ap (option_map (race_of time number)) (pair-is design log first second accesses ∙ ap (first_pair design log first second) same)

-- the places are those of accesses
places-low : (design : FlatDesign) (text : List ℕ) (place count : ℕ) (accesses : List PhaseAccess) → place + length accesses ≡ count →
    AllHold (λ at. at < count) (places_of design text place accesses)
places-low design text place count [] e = tt
places-low design text place count (access ∷ later) e = go (prints design text access) (places-low design text (place + 1) count later (omega (arith, e)))
  where
    go : (b : Bool) → AllHold (λ at. at < count) (places_of design text (place + 1) later) → AllHold (λ at. at < count) (place_if b place (places_of design text (place + 1) later))
    go true h = (omega (arith, e), h)
    go false h = h

-- each place of a list is that of an access
pub all-low : (design : FlatDesign) (text : List ℕ) (accesses : List PhaseAccess) (places : List ℕ) → places ≡ places_of design text 0 accesses →
    AllHold (λ at. at < length accesses) places
all-low design text accesses places e =
    subst (AllHold (λ at. at < length accesses)) (sym e) (places-low design text 0 (length accesses) accesses (omega arith))
