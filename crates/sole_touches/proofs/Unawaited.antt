-- Objects on which nothing waits, by what events read and write.
use Rattle.std.proofs.Common.{◌≡◌, ℕ, zero, suc, ◌+◌, ◌≤◌, List, [], ◌∷◌, ◌++◌, Bool, true, false, not, ◌&&◌, refl, sym, ap, subst, ◌∙◌, inl, inr, arith, cond}
use Rattle.std.specs.Prelude.{Some, slice_get, nat_eq, count_by}
use Rattle.std.proofs.lemmas.Bool.{eqb-true, eq-eqb}
use Rattle.vf_base.specs.Lists.{AllHold}
use Rattle.v_design.specs.Trees.{Entry}
use Rattle.v_design.specs.Designs.{FlatDesign, Machine}
use Rattle.v_design.specs.States.{State, Event, found_or}
use Rattle.v_design.specs.Accesses.{AccessAct, Reading, Writing, Awaiting, Ending, Holding, Settling, ObjectAccess, held_accesses}
use Rattle.v_design.specs.Logs.{LoggedEvent, is_write, orders}
use Rattle.v_design.specs.PhaseLogs.{log_of}
use Rattle.trace_window.specs.Touched.{is_touching}
use Rattle.order_laws.proofs.Conflicts.{In}
use Rattle.order_laws.proofs.PathLaws.{true-false}
use Rattle.block_filter.specs.Blocks.{all_accesses}
use Rattle.block_filter.proofs.Places.{all-in, all-from_in, in-joined_at}
use Rattle.block_filter.proofs.Reaches.{orders-self}
use Rattle.block_filter.proofs.Entries.{entries, log_entries, held-holds}
use Rattle.free_objects.specs.FreeObjects.{WrittenNetsAreFree}
use Rattle.free_objects.proofs.Sole.{ordered-free}
use Rattle.lockstep_waits.specs.Awaited.{is_awaited}
use Rattle.lockstep_waits.specs.Texts.{IsOfText, OnlyTextsWait}
use Rattle.sole_touches.specs.Unawaited.{touches_object, is_read, reads_object, IsUnawaited, UntouchedAreUnused, UnawaitedAreUnheld, SoleTouchesAreFree, UnreadNetsAreFree}
use Rattle.sole_touches.proofs.Counts.{passes, entry_accesses, count-append, count-cons}

-- One access

-- an awaited object is another one
other-one : (design : FlatDesign) (object other : ℕ) → is_awaited design object ≡ false → is_awaited design other ≡ true → nat_eq other object ≡ false
other-one design object other none some = go (nat_eq other object) refl
  where
    go : (b : Bool) → nat_eq other object ≡ b → b ≡ false
    go true e = true-false (is_awaited design other) some (ap (is_awaited design) (eqb-true other object e) ∙ none)
    go false e = refl

fails-first : (b : Bool) → (b && true) ≡ false → b ≡ false
fails-first true e = e
fails-first false e = refl

-- what isn't touched isn't accessed
not-touched : (design : FlatDesign) (object other : ℕ) (act : AccessAct) → is_awaited design object ≡ false → IsOfText design act other → (nat_eq other object && is_touching act) ≡ false →
    nat_eq other object ≡ false
not-touched design object other Reading none text e = fails-first (nat_eq other object) e
not-touched design object other (Writing old new) none text e = fails-first (nat_eq other object) e
not-touched design object other (Awaiting entry) none text e = other-one design object other none text.1
not-touched design object other (Ending entry) none text e = other-one design object other none text.1
not-touched design object other (Holding entry) none text e = other-one design object other none text.1
not-touched design object other Settling none text e = absurd text

-- an access of the object touches it
pub touched : (design : FlatDesign) (object other : ℕ) (act : AccessAct) → is_awaited design object ≡ false → IsOfText design act other → other ≡ object → is_touching act ≡ true
touched design object other Reading none text same = refl
touched design object other (Writing old new) none text same = refl
touched design object other (Awaiting entry) none text same = true-false (is_awaited design other) text.1 (ap (is_awaited design) same ∙ none)
touched design object other (Ending entry) none text same = true-false (is_awaited design other) text.1 (ap (is_awaited design) same ∙ none)
touched design object other (Holding entry) none text same = true-false (is_awaited design other) text.1 (ap (is_awaited design) same ∙ none)
touched design object other Settling none text same = absurd text

pub fails-second : (b : Bool) → (b && false) ≡ false
fails-second true = refl
fails-second false = refl

fails-whole : (b c : Bool) → b ≡ false → (b && c) ≡ false
fails-whole true c e = cc
fails-whole false c e = refl

-- what isn't read is only written
not-read : (design : FlatDesign) (object other : ℕ) (act : AccessAct) → is_awaited design object ≡ false → IsOfText design act other → (nat_eq other object && is_read act) ≡ false →
    (nat_eq other object && not (is_write act)) ≡ false
not-read design object other Reading none text e = e
not-read design object other (Writing old new) none text e = fails-second (nat_eq other object)
not-read design object other (Awaiting entry) none text e = fails-whole (nat_eq other object) true (other-one design object other none text.1)
not-read design object other (Ending entry) none text e = fails-whole (nat_eq other object) true (other-one design object other none text.1)
not-read design object other (Holding entry) none text e = fails-whole (nat_eq other object) true (other-one design object other none text.1)
not-read design object other Settling none text e = absurd text

-- what is held isn't of the object
not-held : (design : FlatDesign) (object other : ℕ) (act : AccessAct) (entry : Entry) → is_awaited design object ≡ false → IsOfText design act other → act ≡ Holding entry →
    nat_eq other object ≡ false
not-held design object other act entry none text e =
    let held : IsOfText design (Holding entry) other = subst (λ a. IsOfText design a other) e text in
    other-one design object other none held.1

-- Several accesses

abbrev OfText : FlatDesign → ObjectAccess → Type 0
OfText design access = IsOfText design access.act access.object

from-both : (P Q R : ObjectAccess → Type 0) (xs : List ObjectAccess) → ((x : ObjectAccess) → P x → Q x → R x) → AllHold P xs → AllHold Q xs → AllHold R xs
from-both P Q R [] keep h i = tt
from-both P Q R (x ∷ xs) keep h i = (keep x h.0 i.0, from-both P Q R xs keep h.1 i.1)

pub untouched_are_unused : OnlyTextsWait → UntouchedAreUnused
untouched_are_unused texts machine state events object none h =
    from-both (OfText machine.design) (λ (access : ObjectAccess). touches_object object access.object access.act ≡ false) (λ (access : ObjectAccess). nat_eq access.object object ≡ false)
    (all_accesses (log_of machine state events)) (λ access text e. not-touched machine.design object access.object access.act none.unawaited text e)
    (texts.events machine state events none.bodies) h

pub unawaited_are_unheld : OnlyTextsWait → UnawaitedAreUnheld
unawaited_are_unheld texts machine state object none =
    all-from_in (λ (access : ObjectAccess). nat_eq access.object object ≡ false) (held_accesses machine state)
    (λ access i.
    let holds = held-holds machine state access i in
    not-held machine.design object access.object access.act holds.0 none.unawaited
    (all-in (OfText machine.design) (held_accesses machine state) access (texts.held machine state none.bodies) i) holds.1)

pub unread_nets_are_free : OnlyTextsWait → WrittenNetsAreFree → UnreadNetsAreFree
unread_nets_are_free texts written machine state events net rules begins possible piece none h =
    written machine state events net rules begins possible piece
    (from-both (OfText machine.design) (λ (access : ObjectAccess). reads_object net access.object access.act ≡ false)
    (λ (access : ObjectAccess). (nat_eq access.object net && not (is_write access.act)) ≡ false) (all_accesses (log_of machine state events))
    (λ access text e. not-read machine.design net access.object access.act none.unawaited text e) (texts.events machine state events none.bodies) h)
    (unawaited_are_unheld texts machine state net none)

-- One touch

some-counted : (f : ObjectAccess → Bool) (xs : List ObjectAccess) (a : ObjectAccess) → In a xs → f a ≡ true → 1 ≤ count_by f xs
some-counted f [] a i t = absurd i
some-counted f (x ∷ xs) a (inl same) t = subst (λ n. 1 ≤ n) (sym (count-cons f x xs)) (go (f x) (ap f (sym same) ∙ t))
  where
    go : (b : Bool) → b ≡ true → 1 ≤ cond b 1 0 + count_by f xs
    go true e = omega arith
    go false e = cc
some-counted f (x ∷ xs) a (inr i) t = subst (λ n. 1 ≤ n) (sym (count-cons f x xs)) (more (cond (f x) 1 0) (count_by f xs) (some-counted f xs a i t))
  where
    more : (m n : ℕ) → 1 ≤ n → 1 ≤ m + n
    more m n h = omega arith

sole-place : (f : ObjectAccess → Bool) (es : List LoggedEvent) (n m : ℕ) (x y : LoggedEvent) (a b : ObjectAccess) → count_by f (entry_accesses es) ≤ 1 → slice_get es n ≡ Some x → In a x.accesses →
    f a ≡ true → slice_get es m ≡ Some y → In b y.accesses → f b ≡ true → n ≡ m
sole-place f [] n m x y a b few ex i s ey j t = cc
sole-place f (e ∷ es) zero zero x y a b few ex i s ey j t = refl
sole-place f (e ∷ es) (suc n) (suc m) x y a b few ex i s ey j t =
    let sum : count_by f (e.accesses ++ entry_accesses es) ≡ count_by f e.accesses + count_by f (entry_accesses es) = count-append f e.accesses (entry_accesses es) in
    ap suc (sole-place f es n m x y a b (omega (arith, sum, few)) ex i s ey j t)
sole-place f (e ∷ es) zero (suc m) x y a b few ex i s ey j t =
    let sum : count_by f (e.accesses ++ entry_accesses es) ≡ count_by f e.accesses + count_by f (entry_accesses es) = count-append f e.accesses (entry_accesses es) in
    let here : 1 ≤ count_by f e.accesses = some-counted f e.accesses a (subst (λ (v : LoggedEvent). In a v.accesses) (sym (ap (found_or e) ex)) i) s in
    let later : 1 ≤ count_by f (entry_accesses es) = some-counted f (entry_accesses es) b (in-joined_at (λ (event : LoggedEvent). event.accesses) es m y b ey j) t in
    absurd (omega (arith, sum, few, here, later))
sole-place f (e ∷ es) (suc n) zero x y a b few ex i s ey j t =
    let sum : count_by f (e.accesses ++ entry_accesses es) ≡ count_by f e.accesses + count_by f (entry_accesses es) = count-append f e.accesses (entry_accesses es) in
    let here : 1 ≤ count_by f e.accesses = some-counted f e.accesses b (subst (λ (v : LoggedEvent). In b v.accesses) (sym (ap (found_or e) ey)) j) t in
    let later : 1 ≤ count_by f (entry_accesses es) = some-counted f (entry_accesses es) a (in-joined_at (λ (event : LoggedEvent). event.accesses) es n x a ex i) s in
    absurd (omega (arith, sum, few, here, later))

-- an access of an event of a log
pub entry-text : OnlyTextsWait → (machine : Machine) (state : State) (events : List Event) (object n : ℕ) (x : LoggedEvent) (a : ObjectAccess) → IsUnawaited machine state object →
    slice_get (entries machine [] state events) n ≡ Some x → In a x.accesses → IsOfText machine.design a.act a.object
entry-text texts machine state events object n x a none ex i =
    all-in (OfText machine.design) (all_accesses (log_of machine state events)) a (texts.events machine state events none.bodies)
    (subst (λ es. In a (entry_accesses es)) (sym (log_entries machine state events)) (in-joined_at (λ (event : LoggedEvent). event.accesses) (entries machine [] state events) n x a ex i))

is-object : (object other : ℕ) → other ≡ object → nat_eq other object ≡ true
is-object object other same = eq-eqb other object same

pub sole_touches_are_free : OnlyTextsWait → SoleTouchesAreFree
sole_touches_are_free texts machine state events object none tame few =
    ordered-free machine state events object tame
    (λ n m x y a b ex i same ey j other.
    inl
    (subst (λ k. orders (log_of machine state events) n k ≡ true)
    (sole-place (passes (touches_object object)) (entries machine [] state events) n m x y a b counted ex i (touching n x a ex i same) ey j (touching m y b ey j other))
    (orders-self (log_of machine state events) n)))
  where
    counted : count_by (passes (touches_object object)) (entry_accesses (entries machine [] state events)) ≤ 1
    counted = subst (λ es. count_by (passes (touches_object object)) (entry_accesses es) ≤ 1) (log_entries machine state events) few

    touching : (n : ℕ) (x : LoggedEvent) (a : ObjectAccess) → slice_get (entries machine [] state events) n ≡ Some x → In a x.accesses → a.object ≡ object →
        passes (touches_object object) a ≡ true
    touching n x a ex i same =
        (λ k. is-object object a.object same k
        && touched machine.design object a.object a.act none.unawaited (entry-text texts machine state events object n x a none ex i) same k)
