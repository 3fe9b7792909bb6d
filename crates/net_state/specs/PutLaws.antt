-- Laws on the nets of a node that get values one after the other (nothing of the language).
use Rattle.std.proofs.Common.{◌≡◌, ℕ, zero, suc, ◌+◌, ◌<◌, ◌≤◌, List, [], ◌∷◌, map, length, get_or, set, take, Bool, true, false, ◌||◌, refl, sym, ap, subst, ◌∙◌, arith}
use Rattle.std.specs.Prelude.{nat_eq, filter}
use Rattle.std.specs.List.{All}
use Rattle.std.proofs.lemmas.Bool.{eq-eqb, ne_eqb, false≢true}
use Rattle.std.proofs.lemmas.List.{get_or-set_same, get_or-set_other}
use Rattle.vf_base.specs.Base.{object_number}
use Rattle.four_value.specs.Values.{LogicValue, same_value}
use Rattle.vf_base.specs.Lists.{has, AllHold}
use Rattle.v_design.specs.Designs.{FlatDesign, FlatObject}
use Rattle.v_design.specs.Paths.{is_net, numbers_of, net_pieces}
use Rattle.v_design.specs.Assignments.{value_at}
use Rattle.graph_order.specs.ListLaws.{has-take_more, has-get_or, AllHold-has, or-false}
use Rattle.node_eval.specs.ValuesOf.{AreValuesOf}
use Rattle.value_change.specs.declared.change.Change.{Change}
use Rattle.value_change.specs.Changes.{ObjectChange, change_seen, changes_between}
use Rattle.value_change.specs.ChangeLaws.{AreDistinct, net_changes}
use Rattle.net_state.specs.InOrder.{with_change}
use Rattle.net_state.specs.OrderLaws.{OneMore, between-more, nets-ascend, held-at, AllHold-filter}
use Rattle.net_state.specs.Held.{AreNets}

or-true : (b : Bool) → (b || true) ≡ true
or-true true = refl
or-true false = refl

or-neither : (b c : Bool) → (b || c) ≡ false → (b ≡ false) × (c ≡ false)
or-neither true c e = absurd (false≢true (sym e))
or-neither false c e = (refl, e)

filter-none : (xs : List ℕ) → filter (has []) xs ≡ []
filter-none [] = refl
filter-none (x ∷ xs) = filter-none xs

-- of no objects there is no change
pub no-changes : (design : FlatDesign) (old new : List LogicValue) → net_changes design [] old new ≡ []
no-changes design old new = ap (changes_between old new) (filter-none (net_pieces design))

-- of distinct numbers none stands before itself
pub distinct-before : (xs : List ℕ) (i : ℕ) → AreDistinct xs → i < length xs → has (take i xs) (get_or xs i 0) ≡ false
distinct-before [] i d low = absurd (omega (arith, low))
distinct-before (x ∷ xs) zero d low = refl
distinct-before (x ∷ xs) (suc i) d low =
    let inside : i < length xs = omega (arith, low) in
    ap (λ b. b || has (take i xs) (get_or xs i 0)) (ne_eqb x (get_or xs i 0) (λ same. false≢true (sym (ap (has xs) (sym same) ∙ d.0) ∙ has-get_or xs i 0 inside))) ∙ distinct-before xs i d.1 inside

-- one object more
pub one-more : (xs : List ℕ) (i o : ℕ) (values : List LogicValue) (value : LogicValue) → AreDistinct xs → i < length xs → get_or xs i 0 ≡ o →
    OneMore o values (set values o value) (has (take i xs)) (has (take (i + 1) xs))
one-more xs i o values value d low is = record {
  was_not = ap (has (take i xs)) (sym is) ∙ distinct-before xs i d low;
  is = has-take_more xs i o low ∙ ap (λ b. has (take i xs) o || b) (eq-eqb (get_or xs i 0) o is) ∙ or-true (has (take i xs) o);
  others = λ x other. has-take_more xs i x low ∙ ap (λ b. has (take i xs) x || b) (ne_eqb (get_or xs i 0) x (λ e. other (sym is ∙ e))) ∙ or-false (has (take i xs) x);
  same = λ x other. get_or-set_other values o x value [] (λ e. other (sym e));
}

pub changes-more : (design : FlatDesign) (xs : List ℕ) (i o : ℕ) (first values : List LogicValue) (value : LogicValue) → AreDistinct xs → AreNets design xs → i < length xs → get_or xs i 0 ≡ o →
    o < length values →
    value_at first o ≡ value_at values o →
    net_changes design (take (i + 1) xs) first (set values o value) ≡ with_change (record { object = o; old = value_at values o; new = value }) (net_changes design (take i xs) first values)
changes-more design xs i o first values value d nets low is there same =
    between-more o (net_pieces design) first values (set values o value) (has (take i xs)) (has (take (i + 1) xs)) (nets-ascend design)
    (AllHold-has (λ x. has (net_pieces design) x ≡ true) xs o nets (ap (has xs) (sym is) ∙ has-get_or xs i 0 low)) (one-more xs i o values value d low is)
    ∙ (λ j. with_change (record { object = o; old = same j; new = get_or-set_same values o value [] there j }) (net_changes design (take i xs) first values))

pub others-more : (xs : List ℕ) (i o x : ℕ) (first values : List LogicValue) (value : LogicValue) → i < length xs → get_or xs i 0 ≡ o →
    ((y : ℕ) → has (take i xs) y ≡ false → value_at values y ≡ value_at first y) →
    has (take (i + 1) xs) x ≡ false → value_at (set values o value) x ≡ value_at first x
others-more xs i o x first values value low is had none =
    let apart = or-neither (has (take i xs) x) (nat_eq (get_or xs i 0) x) (sym (has-take_more xs i x low) ∙ none) in
    get_or-set_other values o x value [] (λ e. false≢true (sym apart.1 ∙ eq-eqb (get_or xs i 0) x (is ∙ sym e))) ∙ had x apart.0

-- What changes are told

between-all : (P : ObjectChange → Type 0) (Q : ℕ → Type 0) (old new : List LogicValue) (xs : List ℕ) → ((x : ℕ) → Q x → P (record { object = x; old = value_at old x; new = value_at new x })) →
    AllHold Q xs →
    AllHold P (changes_between old new xs)
between-all P Q old new [] f h = tt
between-all P Q old new (x ∷ xs) f h = one (same_value (value_at old x) (value_at new x)) (between-all P Q old new xs f h.1)
  where
    one : (b : Bool) → AllHold P (changes_between old new xs) →
        AllHold P (elim b [ true ↦ changes_between old new xs | false ↦ record { object = x; old = value_at old x; new = value_at new x } ∷ changes_between old new xs ])
    one true rest = rest
    one false rest = (f x h.0, rest)

numbers-under : (test : FlatObject → Bool) (limit n : ℕ) (objects : List FlatObject) → n + length objects ≤ limit → AllHold (λ x. x < limit) (numbers_of test n objects)
numbers-under test limit n [] low = tt
numbers-under test limit n (object ∷ objects) low = one (test object) (numbers-under test limit (n + 1) objects (omega (arith, low)))
  where
    one : (b : Bool) → AllHold (λ x. x < limit) (numbers_of test (n + 1) objects) →
        AllHold (λ x. x < limit) (elim b [ true ↦ n ∷ numbers_of test (n + 1) objects | false ↦ numbers_of test (n + 1) objects ])
    one true rest = (omega (arith, low), rest)
    one false rest = rest

seen-back : (P : ObjectChange → Type 0) (changes : List Change) → AllHold P (map change_seen changes) → AllHold (λ (change : Change). P (change_seen change)) changes
seen-back P [] h = tt
seen-back P (change ∷ changes) h = (h.0, seen-back P changes h.1)

told : (P : ObjectChange → Type 0) (design : FlatDesign) (xs : List ℕ) (old new : List LogicValue) (changes : List Change) → map change_seen changes ≡ net_changes design xs old new →
    ((x : ℕ) → x < length design.objects → P (record { object = x; old = value_at old x; new = value_at new x })) → AllHold (λ (change : Change). P (change_seen change)) changes
told P design xs old new changes is f =
    seen-back P changes
    (subst (AllHold P) (sym is)
    (between-all P (λ x. x < length design.objects) old new (filter (has xs) (net_pieces design)) f
    (AllHold-filter (λ x. x < length design.objects) (has xs) (net_pieces design) (numbers-under (λ object. is_net object.kind) (length design.objects) 0 design.objects (omega arith)))))

-- the objects of the changes are objects of the design
pub told-objects : (design : FlatDesign) (xs : List ℕ) (old new : List LogicValue) (changes : List Change) → map change_seen changes ≡ net_changes design xs old new →
    AllHold (λ (change : Change). object_number change.object < length design.objects) changes
told-objects design xs old new changes is = told (λ change. change.object < length design.objects) design xs old new changes is (λ x low. low)

-- and their values of one width
pub told-widths : (design : FlatDesign) (xs : List ℕ) (old new : List LogicValue) (changes : List Change) → AreValuesOf design old → AreValuesOf design new →
    map change_seen changes ≡ net_changes design xs old new →
    All (λ (change : Change). length change.old ≡ length change.new) changes
told-widths design xs old new changes one other is =
    λ k d within. held-at (λ (change : Change). length change.old ≡ length change.new) changes k d
    (told (λ change. length change.old ≡ length change.new) design xs old new changes is
    (λ x low. one.widths x (omega (arith, low, one.count)) ∙ sym (other.widths x (omega (arith, low, other.count))))) within
