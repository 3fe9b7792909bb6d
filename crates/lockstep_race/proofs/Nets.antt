-- A net piece that no change reaches isn't wild.
use Rattle.std.proofs.Common.{◌≡◌, ℕ, ◌+◌, ◌≤◌, List, [], ◌∷◌, ◌++◌, map, Bool, true, false, ◌&&◌, ◌||◌, refl, sym, ap, ◌∙◌, arith}
use Rattle.std.specs.Prelude.{nat_lt, sum_by}
use Rattle.std.proofs.lemmas.Bool.{ltb-false}
use Rattle.std.proofs.lemmas.List.Sums.{sum_by-cons}
use Rattle.four_value.specs.Values.{LogicValue, same_value}
use Rattle.vf_base.specs.Lists.{has, joined, AllHold}
use Rattle.v_design.specs.Paths.{paths, net_pieces, class_of_paths, is_wild_class, is_wild}
use Rattle.v_design.specs.Designs.{FlatDesign, Machine}
use Rattle.v_design.specs.States.{State, Event}
use Rattle.v_design.specs.Accesses.{AccessAct, Reading, Writing, Awaiting, Ending, Holding, Settling, ObjectAccess}
use Rattle.v_design.specs.Logs.{LoggedEvent, LoggedPhase, change_of, changes_of, phase_changes}
use Rattle.v_design.specs.PhaseLogs.{log_of}
use Rattle.lockstep_race.specs.Nets.{reaches_by_write, UnreachedNetsAreNotWild, VariablesAreNotWild}

-- no path leads from an object to the net piece
abbrev NoPath : FlatDesign → ℕ → ℕ → Type 0
NoPath design net object = paths design object net ≡ 0

all-joined : {A : Type 0} (P : A → Type 0) (xs ys : List A) → AllHold P xs → AllHold P ys → AllHold P (xs ++ ys)
all-joined P [] ys first second = second
all-joined P (x ∷ xs) ys first second = (first.0, all-joined P xs ys first.1 second)

all-front : {A : Type 0} (P : A → Type 0) (xs ys : List A) → AllHold P (xs ++ ys) → AllHold P xs
all-front P [] ys all = tt
all-front P (x ∷ xs) ys all = (all.0, all-front P xs ys all.1)

all-rest : {A : Type 0} (P : A → Type 0) (xs ys : List A) → AllHold P (xs ++ ys) → AllHold P ys
all-rest P [] ys all = all
all-rest P (x ∷ xs) ys all = all-rest P xs ys all.1

-- One access

no-path : (n : ℕ) → nat_lt 0 n ≡ false → n ≡ 0
no-path n e = let low : n ≤ 0 = ltb-false 0 n e in omega (arith, low)

written : (design : FlatDesign) (net object : ℕ) (b : Bool) → paths design object net ≡ 0 → AllHold (NoPath design net) (elim b as (λ _. List ℕ) [ true ↦ [] | false ↦ object ∷ [] ])
written design net object true none = tt
written design net object false none = (none, tt)

change-none : (design : FlatDesign) (net : ℕ) (act : AccessAct) (object : ℕ) → reaches_by_write design net object act ≡ false → AllHold (NoPath design net) (change_of design act object)
change-none design net Reading object none = tt
change-none design net (Writing old new) object none =
    written design net object (same_value old new || has (net_pieces design) object) (no-path (paths design object net) none)
change-none design net (Awaiting entry) object none = tt
change-none design net (Ending entry) object none = tt
change-none design net (Holding entry) object none = tt
change-none design net Settling object none = tt

-- The accesses of an event, and of several

abbrev Unreaching : FlatDesign → ℕ → ObjectAccess → Type 0
Unreaching design net access = reaches_by_write design net access.object access.act ≡ false

changes-none : (design : FlatDesign) (net : ℕ) (accesses : List ObjectAccess) → AllHold (Unreaching design net) accesses → AllHold (NoPath design net) (changes_of design accesses)
changes-none design net [] all = tt
changes-none design net (access ∷ accesses) all =
    all-joined (NoPath design net) (change_of design access.act access.object) (changes_of design accesses) (change-none design net access.act access.object all.0)
    (changes-none design net accesses all.1)

events-none : (design : FlatDesign) (net : ℕ) (events : List LoggedEvent) → AllHold (Unreaching design net) (joined (map (λ (event : LoggedEvent). event.accesses) events)) →
    AllHold (NoPath design net) (joined (map (λ (event : LoggedEvent). changes_of design event.accesses) events))
events-none design net [] all = tt
events-none design net (event ∷ events) all =
    let rest = joined (map (λ (one : LoggedEvent). one.accesses) events) in
    all-joined (NoPath design net) (changes_of design event.accesses) (joined (map (λ (one : LoggedEvent). changes_of design one.accesses) events))
    (changes-none design net event.accesses (all-front (Unreaching design net) event.accesses rest all))
    (events-none design net events (all-rest (Unreaching design net) event.accesses rest all))

sum-none : (design : FlatDesign) (net : ℕ) (changes : List ℕ) → AllHold (NoPath design net) changes → sum_by (λ source. paths design source net) changes ≡ 0
sum-none design net [] all = refl
sum-none design net (change ∷ changes) all =
    let here : paths design change net ≡ 0 = all.0 in
    let more : sum_by (λ source. paths design source net) changes ≡ 0 = sum-none design net changes all.1 in
    let parts : sum_by (λ source. paths design source net) (change ∷ changes) ≡ paths design change net + sum_by (λ source. paths design source net) changes =
    sum_by-cons (λ source. paths design source net) change changes in
    omega (arith, here, more, parts)

-- The laws

not-wild : (b c : Bool) → c ≡ false → (b && c) ≡ false
not-wild true c e = e
not-wild false c e = refl

pub unreached_nets : UnreachedNetsAreNotWild
unreached_nets machine state events net none =
    not-wild (has (net_pieces machine.design) net) (is_wild machine.design (phase_changes machine.design (log_of machine state events)) net)
    (ap (λ n. is_wild_class (class_of_paths n))
    (sum-none machine.design net (phase_changes machine.design (log_of machine state events)) (events-none machine.design net (log_of machine state events).events none)))

pub variables : VariablesAreNotWild
variables design log object other = ap (λ b. b && is_wild design (phase_changes design log) object) other
