-- Laws on the paths that lead from the changes of a phase to an object (nothing of the language).
use Rattle.std.proofs.Common.{◌≡◌, ℕ, zero, suc, ◌+◌, ◌<◌, ◌≤◌, Bool, true, false, List, [], ◌∷◌, ◌++◌, length, get_or, set, map, take, filter, cond, min, refl, ap, sym, subst, ◌∙◌, arith, inl, inr}
use Rattle.std.specs.Prelude.{◌⊎◌, nat_eq, nat_lt, ◌&&◌, sum_by}
use Rattle.std.specs.Coded.{le_prop}
use Rattle.std.proofs.Math.Logic.{∥∥₁_elim}
use Rattle.std.proofs.lemmas.Bool.{eq-eqb, cases_eq, cases_lt, both_ways, or_left, or_right, lt-ltb, le-ltb}
use Rattle.std.proofs.lemmas.List.{get_or-set_same, get_or-set_other, take_more, take_all, length-take-le, map_push, get_or_past}
use Rattle.std.proofs.lemmas.List.Elements.{filter-append}
use Rattle.vf_base.specs.declared.ids.ObjectId.{ObjectId}
use Rattle.vf_base.specs.Base.{object_number}
use Rattle.v_design.specs.declared.logic.ObjectKind.TheVariants.{Var}
use Rattle.vf_base.specs.Lists.{has}
use Rattle.v_design.specs.Designs.{FlatObject, FlatDesign}
use Rattle.v_design.specs.Paths.{net_pieces, numbers_of, is_net, paths, is_wild, is_wild_class, class_of_paths}
use Rattle.v_design.specs.WellFormed.{KeepsRules}
use Rattle.net_graph.specs.Tables.{AreTotalPaths, before_if}
use Rattle.net_graph.specs.ConeLaws.{ReachSome}
use Rattle.causal_monitor.specs.Changes.{CountChanges, AreTotals, ReachesNone, settled_nets}
use Rattle.causal_monitor.proofs.ChangeLaws.{net_by_kind}

-- a design has few objects
pub objects_are_few : (design : FlatDesign) → ∥ KeepsRules design ∥₁ → length design.objects ≤ 65536
objects_are_few design rules = ∥∥₁_elim rules le_prop (λ kept. kept.few_objects)

-- the paths from all objects, each as often as it changed, are those from the changes
pub AreTotals-counted : (design : FlatDesign) (changes counts totals : List ℕ) → CountChanges changes counts → AreTotalPaths design counts totals → AreTotals design changes totals
AreTotals-counted design changes counts totals counted had object low = had object low ∙ counted.sums (λ changed. paths design changed object)

wild_total : (t n : ℕ) → min 2 t ≡ min 2 n → nat_lt 1 t ≡ is_wild_class (class_of_paths n)
wild_total t zero e = le-ltb 1 t (omega (arith, e))
wild_total t (suc zero) e = le-ltb 1 t (omega (arith, e))
wild_total t (suc (suc n)) e = lt-ltb 1 t (omega (arith, e))

-- an object is wild where its total is 2
pub is_wild-total : (design : FlatDesign) (changes totals : List ℕ) (object : ℕ) → AreTotals design changes totals → object < length totals →
    nat_lt 1 (get_or totals object 0) ≡ is_wild design changes object
is_wild-total design changes totals object had low = wild_total (get_or totals object 0) (sum_by (λ changed. paths design changed object) changes) (had object low)

-- The wild net pieces that an object reaches

numbers_of-push : (test : FlatObject → Bool) (number : ℕ) (objects : List FlatObject) (object : FlatObject) →
    numbers_of test number (objects ++ object ∷ []) ≡ numbers_of test number objects ++ before_if (test object) (number + length objects) []
numbers_of-push test number [] object =
    elim (test object) as (λ b. (elim b [ true ↦ number ∷ [] | false ↦ [] ]) ≡ before_if b (number + 0) []) [ true ↦ ap (λ n. n ∷ []) (let e : number ≡ number + 0 = omega arith in e) | false ↦ refl ]
numbers_of-push test number (first ∷ objects) object =
    let rest : List ℕ = numbers_of test (number + 1) objects in
    let step : numbers_of test (number + 1) (objects ++ object ∷ []) ≡ numbers_of test (number + 1) objects ++ before_if (test object) (number + suc (length objects)) [] =
    numbers_of-push test (number + 1) objects object ∙ ap (λ n. numbers_of test (number + 1) objects ++ before_if (test object) n [])
    (let e : number + 1 + length objects ≡ number + suc (length objects) = omega arith in e) in
    elim (test first) as (λ b.
    (elim b [ true ↦ number ∷ numbers_of test (number + 1) (objects ++ object ∷ []) | false ↦ numbers_of test (number + 1) (objects ++ object ∷ []) ])
    ≡ (elim b [ true ↦ number ∷ numbers_of test (number + 1) objects | false ↦ numbers_of test (number + 1) objects ]) ++ before_if (test object) (number + suc (length objects)) []) [
      | true ↦ ap (λ l. number ∷ l) step
      | false ↦ step
    ]

filtered_one : (test : ℕ → Bool) (b c : Bool) (n : ℕ) → test n ≡ c → filter test (before_if b n []) ≡ before_if (b && c) n []
filtered_one test true true n e = ap (λ b. cond b (n ∷ []) []) e
filtered_one test true false n e = ap (λ b. cond b (n ∷ []) []) e
filtered_one test false c n e = refl

-- an object that stands nowhere
no_object : FlatObject
no_object = record { name = []; kind = Var; width = 0; ranged = false; high = 0; low = 0; address = 0; first = []; place = record { line = 0; column = 0 } }

-- the net pieces among the first objects that pass a test
abbrev pub nets_before : (ℕ → Bool) → FlatDesign → ℕ → List ℕ
nets_before test design number = filter test (numbers_of (λ (o : FlatObject). is_net o.kind) 0 (take number design.objects))

-- one more object
pub nets_before-more : (test : ℕ → Bool) (design : FlatDesign) (number : ℕ) (wanted : Bool) → number < length design.objects → wanted ≡ (has (net_pieces design) number && test number) →
    nets_before test design (number + 1) ≡ nets_before test design number ++ before_if wanted number []
nets_before-more test design number wanted low is =
    let one : FlatObject = get_or design.objects number no_object in
    let before : List FlatObject = take number design.objects in
    let counted : 0 + length before ≡ number = let long = length-take-le number design.objects (omega arith) in omega (arith, long) in
    ap (λ l. filter test (numbers_of (λ (o : FlatObject). is_net o.kind) 0 l)) (take_more design.objects number no_object low)
    ∙ ap (filter test)
    (numbers_of-push (λ (o : FlatObject). is_net o.kind) 0 before one
    ∙ ap (λ n. numbers_of (λ (o : FlatObject). is_net o.kind) 0 before ++ before_if (is_net one.kind) n []) counted)
    ∙ filter-append test (numbers_of (λ (o : FlatObject). is_net o.kind) 0 before) (before_if (is_net one.kind) number [])
    ∙ ap (λ l. nets_before test design number ++ l)
    (filtered_one test (is_net one.kind) (test number) number refl ∙ ap (λ b. before_if (b && test number) number []) (sym (net_by_kind design number no_object low))
    ∙ ap (λ b. before_if b number []) (sym is))

-- all objects
pub nets_before-all : (test : ℕ → Bool) (design : FlatDesign) (number : ℕ) → length design.objects ≤ number → nets_before test design number ≡ filter test (net_pieces design)
nets_before-all test design number past = ap (λ l. filter test (numbers_of (λ (o : FlatObject). is_net o.kind) 0 l)) (take_all number design.objects past)

filter_both : (a b : Bool) (x : ℕ) (rest later : List ℕ) (q : ℕ → Bool) → q x ≡ b → filter q rest ≡ later → filter q (cond a (x ∷ rest) rest) ≡ cond (a && b) (x ∷ later) later
filter_both true true x rest later q e f = ap (λ b. cond b (x ∷ filter q rest) (filter q rest)) e ∙ ap (λ l. x ∷ l) f
filter_both true false x rest later q e f = ap (λ b. cond b (x ∷ filter q rest) (filter q rest)) e ∙ f
filter_both false b x rest later q e f = f

-- one test after another
pub filter_filter : (p q : ℕ → Bool) (xs : List ℕ) → filter q (filter p xs) ≡ filter (λ x. p x && q x) xs
filter_filter p q [] = refl
filter_filter p q (x ∷ xs) = filter_both (p x) (q x) x (filter p xs) (filter (λ y. p y && q y) xs) q refl (filter_filter p q xs)

none_pass : (test : ℕ → Bool) (xs : List ℕ) → ((x : ℕ) → has xs x ≡ true → test x ≡ false) → filter test xs ≡ []
none_pass test [] none = refl
none_pass test (x ∷ xs) none =
    ap (λ b. cond b (x ∷ filter test xs) (filter test xs)) (none x (or_left (nat_eq x x) (has xs x) (eq-eqb x x refl))) ∙ none_pass test xs (λ y e. none y (or_right (nat_eq x y) (has xs y) e))

-- an object that reaches no wild net piece settles none
pub settled-none : (design : FlatDesign) (changes wild : List ℕ) (from : ℕ) → wild ≡ filter (is_wild design changes) (net_pieces design) → ReachesNone design from wild →
    [] ≡ settled_nets design changes from
settled-none design changes wild from is none =
    sym (sym (filter_filter (is_wild design changes) (λ n. nat_lt 0 (paths design from n)) (net_pieces design)) ∙ ap (filter (λ n. nat_lt 0 (paths design from n))) (sym is)
    ∙ none_pass (λ n. nat_lt 0 (paths design from n)) wild (λ net there. no_path net there))
  where
    no_path : (net : ℕ) → has wild net ≡ true → nat_lt 0 (paths design from net) ≡ false
    no_path net there = elim (cases_lt 0 (paths design from net)) [ inl some ↦ absurd (none net there some) | inr past ↦ le-ltb 0 (paths design from net) past ]

-- marks of what reaches the wild net pieces tell so
pub reaches-none : (design : FlatDesign) (nets : List ℕ) (marked : List Bool) (from : ℕ) (reaches : Bool) → ReachSome design nets marked → from < length marked → reaches ≡ get_or marked from false →
    reaches ≡ false → ReachesNone design from nets
reaches-none design nets marked from reaches had low is unmarked net there path = both_ways (get_or marked from false) (sym is ∙ unmarked) (had.reaching from net low there path)

-- one more of some net pieces, where it passes
pub filtered-more : (test : ℕ → Bool) (nets : List ObjectId) (i : ℕ) (d : ObjectId) (wanted : Bool) → i < length nets → test (object_number (get_or nets i d)) ≡ wanted →
    filter test (map object_number (take (i + 1) nets)) ≡ filter test (map object_number (take i nets)) ++ before_if wanted (object_number (get_or nets i d)) []
filtered-more test nets i d wanted low is =
    ap (λ l. filter test (map object_number l)) (take_more nets i d low) ∙ ap (filter test) (map_push object_number (take i nets) (get_or nets i d))
    ∙ filter-append test (map object_number (take i nets)) (object_number (get_or nets i d) ∷ [])
    ∙ ap (λ l. filter test (map object_number (take i nets)) ++ l) (filtered_one test true wanted (object_number (get_or nets i d)) is)

-- the lists of the first objects
abbrev pub SettledBefore : FlatDesign → List ℕ → List ℕ → ℕ → List (List ℕ) → Type 0
SettledBefore design changes counts number lists = (object : ℕ) → object < number → 0 < get_or counts object 0 → get_or lists object [] ≡ settled_nets design changes object

-- one more list is made
pub SettledBefore-set : (design : FlatDesign) (changes counts : List ℕ) (number : ℕ) (lists : List (List ℕ)) (list : List ℕ) → number < length lists →
    (0 < get_or counts number 0 → list ≡ settled_nets design changes number) → SettledBefore design changes counts number lists →
    SettledBefore design changes counts (number + 1) (set lists number list)
SettledBefore-set design changes counts number lists list within here had object low counted =
    elim (cases_eq object number) [
      | inl same ↦
          ap (λ o. get_or (set lists number list) o []) same ∙ get_or-set_same lists number list [] within ∙ here (subst (λ o. 0 < get_or counts o 0) same counted)
          ∙ ap (settled_nets design changes) (sym same)
      | inr other ↦ get_or-set_other lists number object list [] other ∙ had object (omega arith) counted
    ]

-- the lists of all objects that changed
pub SettledBefore-all : (design : FlatDesign) (changes counts : List ℕ) (number : ℕ) (lists : List (List ℕ)) → length counts ≤ number → CountChanges changes counts →
    SettledBefore design changes counts number lists → (object : ℕ) → has changes object ≡ true → get_or lists object [] ≡ settled_nets design changes object
SettledBefore-all design changes counts number lists past counted had object there =
    let positive : 0 < get_or counts object 0 = counted.seen object there in
    had object (below (cases_lt object (length counts)) positive) positive
  where
    below : (object < length counts) ⊎ (length counts ≤ object) → 0 < get_or counts object 0 → object < number
    below (inl low) positive = omega arith
    below (inr high) positive = absurd (let none : get_or counts object 0 ≡ 0 = get_or_past counts object 0 high in omega (arith, none))

-- a number of paths that is cut at 2 tells whether there is one
pub capped_positive : (n capped : ℕ) → capped ≡ min 2 n → nat_lt 0 n ≡ nat_lt 0 capped
capped_positive zero capped e = sym (ap (nat_lt 0) e)
capped_positive (suc n) capped e = lt-ltb 0 (suc n) (omega arith) ∙ sym (lt-ltb 0 capped (omega (arith, e)))
