-- Accesses that clash have likes that clash; and two accesses conflict unless one orders the other.
use Rattle.std.proofs.Common.{◌≡◌, ℕ, List, [], ◌∷◌, Bool, true, false, not, ◌&&◌, refl, sym, ap, subst, ◌∙◌, ◌⊎◌, inl, inr}
use Rattle.std.specs.Prelude.{None, nat_eq}
use Rattle.std.proofs.lemmas.Bool.{eqb-true, eq-eqb, and_parts}
use Rattle.v_design.specs.Trees.{Entry}
use Rattle.v_design.specs.Designs.{FlatDesign}
use Rattle.v_design.specs.Accesses.{AccessAct, Reading, Writing, Awaiting, Ending, Holding, Settling, ObjectAccess}
use Rattle.v_design.specs.Logs.{LoggedPhase, PhaseAccess, is_write, acts_clash, orders_others, events_ordered, access_orders, conflict, least_pair, log_accesses}
use Rattle.block_filter.specs.Likes.{act_matches, WritesAlike, IsLike}
use Rattle.block_filter.specs.Suffice.{IsAwaited}
use Rattle.order_laws.proofs.Conflicts.{In}
use Rattle.order_laws.proofs.FreeLogs.{Before, Before-in, none-free, free-none, clash-symmetric}

-- Likes of acts

pub like-write : (awaited : Entry → Bool) (one other : ObjectAccess) → IsLike awaited one other → is_write one.act ≡ is_write other.act
like-write awaited one other l = elim l.act [ inl e ↦ ap is_write e | inr w ↦ w.good_writes ∙ sym w.faulty_writes ]

write_orders : (act : AccessAct) → is_write act ≡ true → orders_others act ≡ true
write_orders Reading w = cc
write_orders (Writing old new) w = refl
write_orders (Awaiting entry) w = cc
write_orders (Ending entry) w = cc
write_orders (Holding entry) w = cc
write_orders Settling w = cc

pub like-orders : (awaited : Entry → Bool) (one other : ObjectAccess) → IsLike awaited one other → orders_others one.act ≡ orders_others other.act
like-orders awaited one other l = elim l.act [
  | inl e ↦ ap orders_others e
  | inr w ↦ write_orders one.act w.good_writes ∙ sym (write_orders other.act w.faulty_writes)
]

-- only writes clash with themselves
pub self-clash : (object : ℕ) (act : AccessAct) → acts_clash object act act ≡ true → is_write act ≡ true
self-clash object Reading c = cc
self-clash object (Writing old new) c = refl
self-clash object (Awaiting entry) c = cc
self-clash object (Ending entry) c = cc
self-clash object (Holding entry) c = cc
self-clash object Settling c = cc

pub self-orders : (object : ℕ) (act : AccessAct) → acts_clash object act act ≡ true → orders_others act ≡ true
self-orders object act c = write_orders act (self-clash object act c)

two-writes : (object : ℕ) (one other : AccessAct) → is_write one ≡ true → is_write other ≡ true → acts_clash object one other ≡ true
two-writes object (Writing old new) (Writing old' new') w v = refl
two-writes object (Writing old new) Reading w v = cc
two-writes object (Writing old new) (Awaiting entry) w v = cc
two-writes object (Writing old new) (Ending entry) w v = cc
two-writes object (Writing old new) (Holding entry) w v = cc
two-writes object (Writing old new) Settling w v = cc
two-writes object Reading other w v = cc
two-writes object (Awaiting entry) other w v = cc
two-writes object (Ending entry) other w v = cc
two-writes object (Holding entry) other w v = cc
two-writes object Settling other w v = cc

-- a write clashes with all that one clashes with that matches no other awaited entry
write-clash : (awaited : Entry → Bool) (object : ℕ) (one other act : AccessAct) → WritesAlike awaited object one other → IsAwaited awaited act → acts_clash object other act ≡ true →
    acts_clash object one act ≡ true
write-clash awaited object one other act w a c = go one other w.good_writes w.faulty_writes act a c w.matches
  where
    go : (one other : AccessAct) → is_write one ≡ true → is_write other ≡ true → (act : AccessAct) → IsAwaited awaited act → acts_clash object other act ≡ true →
        ((entry : Entry) → awaited entry ≡ true → act_matches object other entry ≡ true → act_matches object one entry ≡ true) → acts_clash object one act ≡ true
    go (Writing old new) (Writing old' new') g f Reading a c m = refl
    go (Writing old new) (Writing old' new') g f (Writing older newer) a c m = refl
    go (Writing old new) (Writing old' new') g f (Awaiting entry) a c m = m entry a c
    go (Writing old new) (Writing old' new') g f (Ending entry) a c m = m entry a c
    go (Writing old new) (Writing old' new') g f (Holding entry) a c m = cc
    go (Writing old new) (Writing old' new') g f Settling a c m = cc
    go (Writing old new) Reading g f act a c m = cc
    go (Writing old new) (Awaiting entry) g f act a c m = cc
    go (Writing old new) (Ending entry) g f act a c m = cc
    go (Writing old new) (Holding entry) g f act a c m = cc
    go (Writing old new) Settling g f act a c m = cc
    go Reading other g f act a c m = cc
    go (Awaiting entry) other g f act a c m = cc
    go (Ending entry) other g f act a c m = cc
    go (Holding entry) other g f act a c m = cc
    go Settling other g f act a c m = cc

acts-clash : (awaited : Entry → Bool) (object : ℕ) (one other first second : AccessAct) → (one ≡ first) ⊎ WritesAlike awaited object one first →
    (other ≡ second) ⊎ WritesAlike awaited object other second → IsAwaited awaited first → IsAwaited awaited second → acts_clash object first second ≡ true → acts_clash object one other ≡ true
acts-clash awaited object one other first second (inl e) (inl f) a b c = (λ i. acts_clash object (e i) (f i)) ∙ c
acts-clash awaited object one other first second (inr w) (inl f) a b c = ap (acts_clash object one) f ∙ write-clash awaited object one first second w b c
acts-clash awaited object one other first second (inl e) (inr v) a b c =
    ap (λ act. acts_clash object act other) e ∙ clash-symmetric object first other
    ∙ write-clash awaited object other second first v a (clash-symmetric object second first ∙ c)
acts-clash awaited object one other first second (inr w) (inr v) a b c = two-writes object one other w.good_writes v.good_writes

-- the likes of two accesses of one object that clash are of one object and clash
pub likes-clash : (awaited : Entry → Bool) (one other first second : ObjectAccess) → IsLike awaited one first → IsLike awaited other second → IsAwaited awaited first.act →
    IsAwaited awaited second.act → first.object ≡ second.object → acts_clash first.object first.act second.act ≡ true → acts_clash one.object one.act other.act ≡ true
likes-clash awaited one other first second l m a b same c =
    ap (λ o. acts_clash o one.act other.act) l.object
    ∙ acts-clash awaited first.object one.act other.act first.act second.act l.act (subst (λ o. (other.act ≡ second.act) ⊎ WritesAlike awaited o other.act second.act) (sym same) m.act) a b c

-- Conflicts

-- two accesses of one object that clash are ordered one way or the other
abbrev pub IsClear : LoggedPhase → PhaseAccess → PhaseAccess → Type 0
IsClear log first second =
    first.access.object ≡ second.access.object → acts_clash first.access.object first.access.act second.access.act ≡ true →
    (access_orders log first second ≡ true) ⊎ (access_orders log second first ≡ true)

pub clear-turned : (log : LoggedPhase) (first second : PhaseAccess) → IsClear log first second → IsClear log second first
clear-turned log first second h same c = elim
    (h (sym same)
    (clash-symmetric first.access.object first.access.act second.access.act ∙ ap (λ o. acts_clash o second.access.act first.access.act) (sym same) ∙ c)) [ inl o ↦ inr o | inr o ↦ inl o ]

none-left : (a b c d : Bool) → (a ≡ true → b ≡ true → (c ≡ true) ⊎ (d ≡ true)) → (a && b && not c && not d) ≡ false
none-left false b c d h = refl
none-left true false c d h = refl
none-left true true true d h = refl
none-left true true false true h = refl
none-left true true false false h = elim (h refl refl) [ inl x ↦ sym x | inr x ↦ sym x ]

pub clear-free : (log : LoggedPhase) (first second : PhaseAccess) → IsClear log first second → conflict log first second ≡ false
clear-free log first second h =
    none-left (nat_eq first.access.object second.access.object) (acts_clash first.access.object first.access.act second.access.act) (access_orders log first second)
    (access_orders log second first) (λ same c. h (eqb-true first.access.object second.access.object same) c)

ordered : (a b c d : Bool) → (a && b && not c && not d) ≡ false → a ≡ true → b ≡ true → (c ≡ true) ⊎ (d ≡ true)
ordered a b true d e f g = inl refl
ordered a b false true e f g = inr refl
ordered true true false false e f g = cc
ordered true false false false e f g = cc
ordered false b false false e f g = cc

pub free-clear : (log : LoggedPhase) (first second : PhaseAccess) → conflict log first second ≡ false → IsClear log first second
free-clear log first second none same c =
    ordered (nat_eq first.access.object second.access.object) (acts_clash first.access.object first.access.act second.access.act) (access_orders log first second)
    (access_orders log second first) none (eq-eqb first.access.object second.access.object same) c

-- two elements of a list are one, or one stands before the other
one_or_before : {A : Type 0} (u v : A) (xs : List A) → In u xs → In v xs → (u ≡ v) ⊎ (Before u v xs ⊎ Before v u xs)
one_or_before u v [] i j = absurd i
one_or_before u v (x ∷ xs) (inl e) (inl f) = inl (e ∙ sym f)
one_or_before u v (x ∷ xs) (inl e) (inr j) = inr (inl (inl (e, j)))
one_or_before u v (x ∷ xs) (inr i) (inl f) = inr (inr (inl (f, i)))
one_or_before u v (x ∷ xs) (inr i) (inr j) = elim (one_or_before u v xs i j) [
  | inl e ↦ inl e
  | inr (inl b) ↦ inr (inl (inr b))
  | inr (inr b) ↦ inr (inr (inr b))
]

-- in a log without a least pair two accesses are one, or clear
pub clear-pair : (design : FlatDesign) (log : LoggedPhase) → least_pair design log ≡ None → (first second : PhaseAccess) → In first (log_accesses design log) →
    In second (log_accesses design log) → (first ≡ second) ⊎ IsClear log first second
clear-pair design log none first second i j = elim (one_or_before first second (log_accesses design log) i j) [
  | inl e ↦ inl e
  | inr (inl b) ↦ inr (free-clear log first second (none-free log [] (log_accesses design log) none first second b))
  | inr (inr b) ↦ inr (clear-turned log second first (free-clear log second first (none-free log [] (log_accesses design log) none second first b)))
]

-- a log of clear pairs has no least pair
pub clear-none : (design : FlatDesign) (log : LoggedPhase) →
    ((first second : PhaseAccess) → In first (log_accesses design log) → In second (log_accesses design log) → IsClear log first second) → least_pair design log ≡ None
clear-none design log h =
    free-none log [] (log_accesses design log) (λ u v i j. absurd i)
    (λ u v b. clear-free log u v (h u v (Before-in u v (log_accesses design log) b).0 (Before-in u v (log_accesses design log) b).1))

-- what an order of accesses says
pub orders-parts : (log : LoggedPhase) (first second : PhaseAccess) → access_orders log first second ≡ true →
    (orders_others first.access.act ≡ true) × (events_ordered log first.event second.event ≡ true)
orders-parts log first second h = and_parts (orders_others first.access.act) (events_ordered log first.event second.event) h

pub parts-orders : (log : LoggedPhase) (first second : PhaseAccess) → orders_others first.access.act ≡ true → events_ordered log first.event second.event ≡ true →
    access_orders log first second ≡ true
parts-orders log first second a o = λ i. a i && o i
