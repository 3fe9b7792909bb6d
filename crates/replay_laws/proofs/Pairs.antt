-- The pair that is looked for of a claimed race, and what it says.
use Rattle.std.proofs.Common.{◌≡◌, ℕ, suc, ◌+◌, ◌-◌, ◌<◌, List, [], ◌∷◌, Bool, true, false, ◌&&◌, ◌||◌, refl, sym, ap, subst, ◌∙◌, ◌⊎◌, inl, inr, arith}
use Rattle.std.specs.Prelude.{Option, Some, None, is_some, option_map, find, slice_get, nat_lt, cond}
use Rattle.std.specs.List.{list_any}
use Rattle.std.proofs.lemmas.Bool.{ltb-true}
use Rattle.std.proofs.lemmas.Slice.Eq.{bytes_eq-Decides}
use Rattle.vf_base.specs.Base.{ReportedPair}
use Rattle.v_design.specs.Designs.{FlatDesign, Machine}
use Rattle.v_design.specs.States.{State}
use Rattle.v_design.specs.Runs.{Move, IsLegal}
use Rattle.v_design.specs.Grades.{Phase, reported, race_of}
use Rattle.v_design.specs.Logs.{LoggedPhase, PhaseAccess, log_accesses, conflict}
use Rattle.v_design.specs.PhaseLogs.{log_of}
use Rattle.v_design.specs.Laws.{phases_at, NamesConflict}
use Rattle.grade_report.specs.Report.{access_text}
use Rattle.cert_laws.specs.Valid.{prints, some_conflict, shows_in, shows}
use Rattle.cert_laws.specs.Meaning.{IsPrinted}
use Rattle.replay_laws.specs.Claimed.{pair_with, pair_if, pair_or, first_pair, pair_in, pair_of_run, ClaimsAreShown}
use Rattle.replay_laws.proofs.Words.{some-eq, both-true}

-- Whether there is one

some-or : {A : Type 0} (one other : Option A) → is_some (pair_or one other) ≡ (is_some one || is_some other)
some-or None other = refl
some-or (Some pair) other = refl

some-if : {A : Type 0} (b : Bool) (pair : Option A) → is_some (pair_if b pair) ≡ (b && is_some pair)
some-if true pair = refl
some-if false pair = refl

some-map : {A B : Type 0} (f : A → B) (found : Option A) → is_some (option_map f found) ≡ is_some found
some-map f None = refl
some-map f (Some x) = refl

any-found : {A : Type 0} (test : A → Bool) (xs : List A) → is_some (find test xs) ≡ list_any test xs
any-found test [] = refl
any-found test (x ∷ xs) = go (test x) (any-found test xs)
  where
    go : (b : Bool) → is_some (find test xs) ≡ list_any test xs → is_some (cond b (Some x) (find test xs)) ≡ (b || list_any test xs)
    go true e = refl
    go false e = e

some-with : (design : FlatDesign) (log : LoggedPhase) (second : List ℕ) (access : PhaseAccess) (later : List PhaseAccess) →
    is_some (pair_with design log second access later) ≡ list_any (λ other. prints design second other && conflict log access other) later
some-with design log second access later =
    some-map _ (find (λ other. prints design second other && conflict log access other) later) ∙ any-found (λ other. prints design second other && conflict log access other) later

in-log : (design : FlatDesign) (log : LoggedPhase) (first second : List ℕ) (accesses : List PhaseAccess) →
    is_some (first_pair design log first second accesses) ≡ some_conflict design log first second accesses
in-log design log first second [] = refl
in-log design log first second (access ∷ later) =
    some-or (pair_if (prints design first access) (pair_with design log second access later)) (first_pair design log first second later)
    ∙ (λ i. some-if (prints design first access) (pair_with design log second access later) i || in-log design log first second later i)
    ∙ ap (λ b. (prints design first access && b) || some_conflict design log first second later) (some-with design log second access later)

in-phase : (machine : Machine) (time number : ℕ) (first second : List ℕ) (there : Option Phase) →
    is_some (pair_in machine time number first second there) ≡ shows_in machine first second there
in-phase machine time number first second None = refl
in-phase machine time number first second (Some phase) =
    let log = log_of machine phase.begins phase.events in
    some-map (race_of time number) (first_pair machine.design log first second (log_accesses machine.design log)) ∙ in-log machine.design log first second (log_accesses machine.design log)

pub in-run : (machine : Machine) (time number : ℕ) (first second : List ℕ) (moves : List Move) →
    is_some (pair_of_run machine time number first second moves) ≡ shows machine time number first second moves
in-run machine time number first second moves =
    let there = slice_get (phases_at machine time moves) (number - 1) in
    some-if (nat_lt 0 number) (pair_in machine time number first second there) ∙ ap (λ b. nat_lt 0 number && b) (in-phase machine time number first second there)

-- What it is

or-some : {A : Type 0} (one other : Option A) (pair : A) → pair_or one other ≡ Some pair → (one ≡ Some pair) ⊎ (other ≡ Some pair)
or-some None other pair e = inr e
or-some (Some x) other pair e = inl e

if-some : {A : Type 0} (b : Bool) (found : Option A) (pair : A) → pair_if b found ≡ Some pair → (b ≡ true) × (found ≡ Some pair)
if-some true found pair e = (refl, e)
if-some false found pair e = cc

map-some : {A B : Type 0} (f : A → B) (found : Option A) (y : B) → option_map f found ≡ Some y → (x : A) × (found ≡ Some x) × (f x ≡ y)
map-some f None y e = cc
map-some f (Some x) y e = (x, refl, some-eq (f x) y e)

find-some : {A : Type 0} (test : A → Bool) (xs : List A) (x : A) → find test xs ≡ Some x → (place : ℕ) × (slice_get xs place ≡ Some x) × (test x ≡ true)
find-some test [] x e = cc
find-some test (y ∷ xs) x e = go (test y) refl e (find-some test xs x)
  where
    go : (b : Bool) → test y ≡ b → cond b (Some y) (find test xs) ≡ Some x → (find test xs ≡ Some x → (place : ℕ) × (slice_get xs place ≡ Some x) × (test x ≡ true)) →
        (place : ℕ) × (slice_get (y ∷ xs) place ≡ Some x) × (test x ≡ true)
    go true t f more = (0, f, ap test (sym (some-eq y x f)) ∙ t)
    go false t f more = let r = more f in (suc r.0, r.1, r.2)

-- two accesses of a list in this order, which have the texts and conflict
record IsPair (design : FlatDesign) (log : LoggedPhase) (first second : List ℕ) (accesses : List PhaseAccess) (one other : PhaseAccess) : Type 0 where
  earlier : ℕ
  later : ℕ
  in_order : earlier < later
  one_stands : slice_get accesses earlier ≡ Some one
  other_stands : slice_get accesses later ≡ Some other
  one_prints : access_text design (reported one) ≡ first
  other_prints : access_text design (reported other) ≡ second
  conflicts : conflict log one other ≡ true

pair-is : (design : FlatDesign) (log : LoggedPhase) (first second : List ℕ) (accesses : List PhaseAccess) (pair : PhaseAccess × PhaseAccess) →
    first_pair design log first second accesses ≡ Some pair → IsPair design log first second accesses pair.0 pair.1
pair-is design log first second [] pair e = cc
pair-is design log first second (access ∷ later) pair e =
    elim (or-some (pair_if (prints design first access) (pair_with design log second access later)) (first_pair design log first second later) pair e) [
      | inl h ↦
          (let p = if-some (prints design first access) (pair_with design log second access later) pair h in
          let m = map-some (λ (other : PhaseAccess). (access, other)) (find (λ other. prints design second other && conflict log access other) later) pair p.1 in
          let f = find-some (λ other. prints design second other && conflict log access other) later m.0 m.1 in
          let q = both-true (prints design second m.0) (conflict log access m.0) f.2 in
          subst (λ (them : PhaseAccess × PhaseAccess). IsPair design log first second (access ∷ later) them.0 them.1) m.2 (record {
            earlier = 0;
            later = suc f.0;
            in_order = omega arith;
            one_stands = refl;
            other_stands = f.1;
            one_prints = (bytes_eq-Decides (access_text design (reported access)) first).0 p.0;
            other_prints = (bytes_eq-Decides (access_text design (reported m.0)) second).0 q.0;
            conflicts = q.1;
          }))
      | inr h ↦
          (let r = pair-is design log first second later pair h in
          record {
            earlier = suc r.earlier;
            later = suc r.later;
            in_order = (let less : r.earlier < r.later = r.in_order in omega (arith, less));
            one_stands = r.one_stands;
            other_stands = r.other_stands;
            one_prints = r.one_prints;
            other_prints = r.other_prints;
            conflicts = r.conflicts;
          })
    ]

-- the pair of a phase of a legal order
abbrev Holds : Machine → ℕ → ℕ → List ℕ → List ℕ → ReportedPair → Type 0
Holds machine time number first second pair = IsPrinted machine.design time number first second pair × NamesConflict machine pair

pair-holds : (machine : Machine) (time number : ℕ) (first second : List ℕ) (moves : List Move) (final : State) (pair : ReportedPair) (there : Option Phase) →
    slice_get (phases_at machine time moves) (number - 1) ≡ there → 0 < number → IsLegal machine time moves final → pair_in machine time number first second there ≡ Some pair →
    Holds machine time number first second pair
pair-holds machine time number first second moves final pair None stands low legal e = cc
pair-holds machine time number first second moves final pair (Some phase) stands low legal e =
    let log = log_of machine phase.begins phase.events in
    let m = map-some (race_of time number) (first_pair machine.design log first second (log_accesses machine.design log)) pair e in
    let r = pair-is machine.design log first second (log_accesses machine.design log) m.0 m.1 in
    subst (Holds machine time number first second) m.2 (
      record { time_is = refl; phase_is = refl; first_is = r.one_prints; second_is = r.other_prints },
      record {
        moves = moves;
        final = final;
        legal = legal;
        number = number - 1;
        phase = phase;
        phase_number = (let z : number ≡ number - 1 + 1 = omega (arith, low) in z);
        stands = stands;
        earlier = r.earlier;
        later = r.later;
        in_order = r.in_order;
        first = m.0.0;
        second = m.0.1;
        first_stands = r.one_stands;
        second_stands = r.other_stands;
        conflicts = r.conflicts;
        named = refl;
      },
    )

pub holds : (machine : Machine) (time number : ℕ) (first second : List ℕ) (moves : List Move) (final : State) (pair : ReportedPair) → IsLegal machine time moves final →
    pair_of_run machine time number first second moves ≡ Some pair → IsPrinted machine.design time number first second pair × NamesConflict machine pair
holds machine time number first second moves final pair legal e =
    let there = slice_get (phases_at machine time moves) (number - 1) in
    let p = if-some (nat_lt 0 number) (pair_in machine time number first second there) pair e in
    pair-holds machine time number first second moves final pair there refl (ltb-true 0 number p.0) legal p.1

pub claims_are_shown : ClaimsAreShown
claims_are_shown = record { in_log = in-log; in_run = in-run; holds = holds }
