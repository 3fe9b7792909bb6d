-- Marking what reaches a net piece, from the last node back (continuous assignments and gates of IEEE 1364-2001, clause 6 and clause 7).
use Rattle.std.proofs.Common.{◌≡◌, ℕ, zero, suc, ◌+◌, ◌<◌, ◌≤◌, Bool, true, false, List, [], ◌∷◌, ◌++◌, length, get_or, take, drop, set, map, replicate, refl, ap, sym, ◌∙◌, subst, inl, inr, arith}
use Rattle.std.proofs.Common.{zero-add}
use Rattle.std.specs.Prelude.{Some, slice_get, nat_eq, nat_lt, ◌||◌, ◌&&◌, not, filter, cond}
use Rattle.std.specs.List.{All, list_any}
use Rattle.vf_base.specs.declared.ids.ObjectId.{ObjectId}
use Rattle.vf_base.specs.Base.{object_number}
use Rattle.std.proofs.lemmas.Bool.{cases_Bool, cases_eq, both_ways, eq-eqb, ne_eqb, or_left, or_right, and_from, and_left, and_right, lt-ltb, ltb-true, cases_lt}
use Rattle.std.proofs.lemmas.List.{get_or-set_same, get_or-set_other, get_or_past, length-set, drop_all, take_more, take_all, length-take-le}
use Rattle.std.proofs.lemmas.Option.{slice_get_within, get_or_from_slice_get, slice_get_read, slice_get-map}
use Rattle.std.specs.Option.{option_map}
use Rattle.v_design.specs.declared.plan.Object.{Object}
use Rattle.v_design.specs.Plain.{object_of}
use Rattle.std.proofs.lemmas.List.Elements.{filter-append}
use Rattle.std.proofs.Math.Logic.{∥∥₁_elim}
use Rattle.std.specs.Coded.{le_prop}
use Rattle.std.proofs.Math.Bool.{Bool-set}
use Rattle.vf_base.specs.Lists.{AllHold, has}
use Rattle.v_design.specs.Designs.{FlatNode, FlatObject, FlatDesign}
use Rattle.v_design.specs.Paths.{is_net, numbers_of, paths, cone}
use Rattle.v_design.specs.WellFormed.{KeepsRules}
use Rattle.graph_order.specs.ListLaws.{AllHold-has, now_has, still_has}
use Rattle.net_graph.specs.PathLaws.{reaches_some, reaches_in-some, reaches_some-in, reaches_in-paths, slice_get_dropped}
use Rattle.net_graph.specs.RuleLaws.{outputs_are_objects}
use Rattle.net_graph.specs.Tables.{before_if}

-- some objects are marked, and the others as before
pub record Marks (objects : List ℕ) (before later : List Bool) : Type 0 where
  pub same_length : length later ≡ length before
  pub marked : (o : ℕ) → o < length later → has objects o ≡ true → get_or later o false ≡ true
  pub kept : (o : ℕ) → o < length later → has objects o ≡ false → get_or later o false ≡ get_or before o false

-- before the first object
pub Marks-none : (before : List Bool) → Marks [] before before
Marks-none before = record { same_length = refl; marked = λ o low e. absurd (cc); kept = λ o low e. refl }

-- one more object
pub Marks-more : (objects : List ℕ) (before later : List Bool) (x : ℕ) → Marks objects before later → x < length later → Marks (objects ++ x ∷ []) before (set later x true)
Marks-more objects before later x had within = record {
  same_length = length-set later x true ∙ had.same_length;
  marked = λ o low e.
      elim (cases_eq o x) [
        | inl same ↦ ap (λ j. get_or (set later x true) j false) same ∙ get_or-set_same later x true false within
        | inr other ↦ get_or-set_other later x o true false other ∙ had.marked o (omega (arith, length-set later x true)) (sym (still_has objects x o other) ∙ e)
      ];
  kept = λ o low e.
      elim (cases_eq o x) [
        | inl same ↦ absurd (both_ways (has (objects ++ x ∷ []) o) e (ap (has (objects ++ x ∷ [])) same ∙ now_has objects x))
        | inr other ↦ get_or-set_other later x o true false other ∙ had.kept o (omega (arith, length-set later x true)) (sym (still_has objects x o other) ∙ e)
      ];
}

-- marked is what reaches an object that passes a test through the nodes from a number on
abbrev pub AreReached : List FlatNode → ℕ → (ℕ → Bool) → List Bool → Type 0
AreReached nodes k test marked = (o : ℕ) → o < length marked → get_or marked o false ≡ reaches_some (drop k nodes) test o

-- the objects that pass, past the last node
pub AreReached-start : (nodes : List FlatNode) (k : ℕ) (marked : List Bool) → length nodes ≤ k → AreReached nodes k (λ o. get_or marked o false) marked
AreReached-start nodes k marked past o low = sym (ap (λ l. reaches_some l (λ x. get_or marked x false) o) (drop_all k nodes past))

any_agree : (f g : ℕ → Bool) (xs : List ℕ) → ((x : ℕ) → has xs x ≡ true → f x ≡ g x) → list_any f xs ≡ list_any g xs
any_agree f g [] same = refl
any_agree f g (x ∷ xs) same =
    ap (λ b. b || list_any f xs) (same x (or_left (nat_eq x x) (has xs x) (eq-eqb x x refl)))
    ∙ ap (λ b. g x || b) (any_agree f g xs (λ y e. same y (or_right (nat_eq x y) (has xs y) e)))

reaches_some-agree : (nodes : List FlatNode) (f g : ℕ → Bool) → ((x : ℕ) → f x ≡ g x) → (o : ℕ) → reaches_some nodes f o ≡ reaches_some nodes g o
reaches_some-agree [] f g same o = same o
reaches_some-agree (n ∷ rest) f g same o =
    ap (λ b. b || (has n.inputs o && list_any (reaches_some rest f) n.outputs)) (reaches_some-agree rest f g same o)
    ∙ ap (λ b. reaches_some rest g o || (has n.inputs o && b)) (any_agree (reaches_some rest f) (reaches_some rest g) n.outputs (λ x e. reaches_some-agree rest f g same x))

-- only the object itself was marked
pub reached-net : (nodes : List FlatNode) (net : ℕ) (before later : List Bool) → net < length before → ((o : ℕ) → o < length before → get_or before o false ≡ false) →
    AreReached nodes 0 (λ o. get_or (set before net true) o false) later → AreReached nodes 0 (λ o. nat_eq o net) later
reached-net nodes net before later within blank had o low =
    had o low ∙ reaches_some-agree nodes (λ x. get_or (set before net true) x false) (λ x. nat_eq x net) one_marked o
  where
    unmarked : (x : ℕ) → get_or before x false ≡ false
    unmarked x = elim (cases_lt x (length before)) [ inl below ↦ blank x below | inr past ↦ get_or_past before x false past ]

    one_marked : (x : ℕ) → get_or (set before net true) x false ≡ nat_eq x net
    one_marked x =
        elim (cases_eq x net) [
          | inl same ↦ ap (λ j. get_or (set before net true) j false) same ∙ get_or-set_same before net true false within ∙ sym (eq-eqb x net same)
          | inr other ↦ get_or-set_other before net x true false other ∙ unmarked x ∙ sym (ne_eqb x net other)
        ]

unfed : (r f : Bool) → f ≡ false → r ≡ (r || f)
unfed true f e = refl
unfed false f e = sym e

-- one more node, of which an output is marked
pub AreReached-marked : (nodes : List FlatNode) (k : ℕ) (test : ℕ → Bool) (n : FlatNode) (before later : List Bool) → slice_get nodes k ≡ Some n → AreReached nodes (k + 1) test before →
    ((o : ℕ) → has n.outputs o ≡ true → o < length before) → list_any (λ o. get_or before o false) n.outputs ≡ true → Marks n.inputs before later → AreReached nodes k test later
AreReached-marked nodes k test n before later at had outputs some marks o low =
    let rest : List FlatNode = drop (k + 1) nodes in
    let here : drop k nodes ≡ n ∷ drop (k + 1) nodes = slice_get_dropped nodes k n at in
    let feeds : list_any (reaches_some (drop (k + 1) nodes) test) n.outputs ≡ true = sym (any_agree (λ x. get_or before x false) (reaches_some (drop (k + 1) nodes) test) n.outputs
    (λ x e. had x (outputs x e))) ∙ some in
    elim (cases_Bool (has n.inputs o)) [
      | inl reads ↦
          marks.marked o low reads
          ∙ sym (ap (λ l. reaches_some l test o) here ∙ or_right (reaches_some (drop (k + 1) nodes) test o) (has n.inputs o && list_any (reaches_some (drop (k + 1) nodes) test) n.outputs)
          (and_from (has n.inputs o) (list_any (reaches_some (drop (k + 1) nodes) test) n.outputs) reads feeds))
      | inr other ↦
          marks.kept o low other ∙ had o (omega (arith, marks.same_length))
          ∙ unfed (reaches_some (drop (k + 1) nodes) test o) (has n.inputs o && list_any (reaches_some (drop (k + 1) nodes) test) n.outputs)
          (and_left (has n.inputs o) (list_any (reaches_some (drop (k + 1) nodes) test) n.outputs) other)
          ∙ sym (ap (λ l. reaches_some l test o) here)
    ]

-- one more node, of which no output is marked
pub AreReached-unmarked : (nodes : List FlatNode) (k : ℕ) (test : ℕ → Bool) (n : FlatNode) (before later : List Bool) → slice_get nodes k ≡ Some n → AreReached nodes (k + 1) test before →
    ((o : ℕ) → has n.outputs o ≡ true → o < length before) → list_any (λ o. get_or before o false) n.outputs ≡ false → later ≡ before → AreReached nodes k test later
AreReached-unmarked nodes k test n before later at had outputs none same o low =
    let here : drop k nodes ≡ n ∷ drop (k + 1) nodes = slice_get_dropped nodes k n at in
    let feeds : list_any (reaches_some (drop (k + 1) nodes) test) n.outputs ≡ false = sym (any_agree (λ x. get_or before x false) (reaches_some (drop (k + 1) nodes) test) n.outputs
    (λ x e. had x (outputs x e))) ∙ none in
    ap (λ l. get_or l o false) same ∙ had o (subst (λ l. o < length l) same low)
    ∙ unfed (reaches_some (drop (k + 1) nodes) test o) (has n.inputs o && list_any (reaches_some (drop (k + 1) nodes) test) n.outputs)
    (and_right (has n.inputs o) (list_any (reaches_some (drop (k + 1) nodes) test) n.outputs) feeds)
    ∙ sym (ap (λ l. reaches_some l test o) here)

-- one more node, whichever
pub AreReached-more : (design : FlatDesign) → ∥ KeepsRules design ∥₁ → (k : ℕ) (test : ℕ → Bool) (n : FlatNode) (before later : List Bool) → slice_get design.nodes k ≡ Some n →
    length before ≡ length design.objects → AreReached design.nodes (k + 1) test before →
    (list_any (λ o. get_or before o false) n.outputs ≡ true → Marks n.inputs before later) → (list_any (λ o. get_or before o false) n.outputs ≡ false → later ≡ before) →
    AreReached design.nodes k test later
AreReached-more design rules k test n before later at sized had marked unmarked =
    let outputs : (o : ℕ) → has n.outputs o ≡ true → o < length before =
    λ o e. ∥∥₁_elim rules le_prop (λ kept. subst (λ l. o < l) (sym sized) (AllHold-has (λ x. x < length design.objects) n.outputs o (outputs_are_objects design k n kept at) e)) in
    elim (cases_Bool (list_any (λ o. get_or before o false) n.outputs)) [
      | inl some ↦ AreReached-marked design.nodes k test n before later at had outputs some (marked some)
      | inr none ↦ AreReached-unmarked design.nodes k test n before later at had outputs none (unmarked none)
    ]

-- Collecting the variables and memory words

-- one more object of some
numbers_of-push : (test : FlatObject → Bool) (number : ℕ) (objects : List FlatObject) (object : FlatObject) →
    numbers_of test number (objects ++ object ∷ []) ≡ numbers_of test number objects ++ before_if (test object) (number + length objects) []
numbers_of-push test number [] object =
    elim (test object) as (λ b. (elim b [ true ↦ number ∷ [] | false ↦ [] ]) ≡ before_if b (number + 0) []) [ true ↦ ap (λ n. n ∷ []) (let e : number ≡ number + 0 = omega arith in e) | false ↦ refl ]
numbers_of-push test number (first ∷ objects) object =
    let rest : List ℕ = numbers_of test (number + 1) objects in
    let step : numbers_of test (number + 1) (objects ++ object ∷ []) ≡ numbers_of test (number + 1) objects ++ before_if (test object) (number + suc (length objects)) [] =
    numbers_of-push test (number + 1) objects object ∙ ap (λ n. numbers_of test (number + 1) objects ++ before_if (test object) n [])
    (let e : number + 1 + length objects ≡ number + suc (length objects) = omega arith in e) in
    elim (test first) as (λ b.
    (elim b [ true ↦ number ∷ numbers_of test (number + 1) (objects ++ object ∷ []) | false ↦ numbers_of test (number + 1) (objects ++ object ∷ []) ])
    ≡ (elim b [ true ↦ number ∷ numbers_of test (number + 1) objects | false ↦ numbers_of test (number + 1) objects ]) ++ before_if (test object) (number + suc (length objects)) []) [
      | true ↦ ap (λ l. number ∷ l) step
      | false ↦ step
    ]

-- the sources among the first so many objects
abbrev pub sources_before : FlatDesign → ℕ → ℕ → List ℕ
sources_before design net k = filter (λ source. nat_lt 0 (paths design source net)) (numbers_of (λ object. not (is_net object.kind)) 0 (take k design.objects))

filtered_one : (test : ℕ → Bool) (b c : Bool) (n : ℕ) → test n ≡ c → filter test (before_if b n []) ≡ before_if (b && c) n []
filtered_one test true true n e = ap (λ b. cond b (n ∷ []) []) e
filtered_one test true false n e = ap (λ b. cond b (n ∷ []) []) e
filtered_one test false c n e = refl

-- one more object: it is a source where it is no net piece and is marked
pub sources_before-more : (design : FlatDesign) → ∥ KeepsRules design ∥₁ → (net k : ℕ) (object : FlatObject) (marked : List Bool) (sources later : List ℕ) → slice_get design.objects k ≡ Some object →
    k < length marked → AreReached design.nodes 0 (λ o. nat_eq o net) marked → sources ≡ sources_before design net k →
    later ≡ sources ++ before_if (not (is_net object.kind) && get_or marked k false) k [] → later ≡ sources_before design net (k + 1)
sources_before-more design rules net k object marked sources later at low reached had pushed =
    let within : k < length design.objects = slice_get_within design.objects k object at in
    let more : take (k + 1) design.objects ≡ take k design.objects ++ object ∷ [] = take_more design.objects k object within
    ∙ ap (λ o. take k design.objects ++ o ∷ []) (get_or_from_slice_get design.objects k object object at) in
    let test : ℕ → Bool = λ source. nat_lt 0 (paths design source net) in
    let counted : 0 + length (take k design.objects) ≡ k = ap (λ n. 0 + n) (length-take-le k design.objects (omega arith)) ∙ zero-add k in
    let is : nat_lt 0 (paths design k net) ≡ get_or marked k false =
    sym (reached k low ∙ ∥∥₁_elim rules (Bool-set _ _) (λ kept. reaches_in-paths design.nodes kept.ranked k net)) in
    pushed
    ∙ ap (λ l. l ++ before_if (not (is_net object.kind) && get_or marked k false) k []) had
    ∙ ap (λ l. sources_before design net k ++ l) (sym (filtered_one (λ source. nat_lt 0 (paths design source net)) (not (is_net object.kind)) (get_or marked k false) k is))
    ∙ sym (filter-append (λ source. nat_lt 0 (paths design source net)) (numbers_of (λ o. not (is_net o.kind)) 0 (take k design.objects)) (before_if (not (is_net object.kind)) k []))
    ∙ ap (λ n. filter (λ source. nat_lt 0 (paths design source net)) (numbers_of (λ o. not (is_net o.kind)) 0 (take k design.objects) ++ before_if (not (is_net object.kind)) n [])) (sym counted)
    ∙ ap (filter (λ source. nat_lt 0 (paths design source net))) (sym (numbers_of-push (λ o. not (is_net o.kind)) 0 (take k design.objects) object))
    ∙ ap (λ l. filter (λ source. nat_lt 0 (paths design source net)) (numbers_of (λ o. not (is_net o.kind)) 0 l)) (sym more)

-- all objects
pub sources_before-all : (design : FlatDesign) (net k : ℕ) → length design.objects ≤ k → sources_before design net k ≡ cone design net
sources_before-all design net k past =
    ap (λ l. filter (λ source. nat_lt 0 (paths design source net)) (numbers_of (λ object. not (is_net object.kind)) 0 l)) (take_all k design.objects past)

-- an object of the code's list, as one of the design
pub object_in : (objects list : List Object) (k : ℕ) (object : Object) → list ≡ objects → k < length list → object ≡ get_or list k object →
    slice_get (map object_of objects) k ≡ Some (object_of object)
object_in objects list k object same low at =
    subst (λ l. slice_get (map object_of l) k ≡ Some (object_of object)) same (slice_get-map object_of list k ∙ ap (option_map object_of) (slice_get_read list (length list) k object refl low at))

-- What reaches some of several objects

-- marks of the objects from which a path leads to one of several
pub record ReachSome (design : FlatDesign) (nets : List ℕ) (marked : List Bool) : Type 0 where
  pub reaching : (object net : ℕ) → object < length marked → has nets net ≡ true → 0 < paths design object net → get_or marked object false ≡ true
  pub only : (object : ℕ) → object < length marked → get_or marked object false ≡ true → (net : ℕ) × (has nets net ≡ true) × (0 < paths design object net)

-- in a blank list nothing is marked
pub none-marked : (marked : List Bool) (count : ℕ) → marked ≡ replicate count false → (o : ℕ) → get_or marked o false ≡ false
none-marked marked count blank o = ap (λ l. get_or l o false) blank ∙ get_or-replicate-any count o
  where
    get_or-replicate-any : (n i : ℕ) → get_or (replicate n false) i false ≡ false
    get_or-replicate-any zero i = refl
    get_or-replicate-any (suc n) zero = refl
    get_or-replicate-any (suc n) (suc i) = get_or-replicate-any n i

-- the numbers of objects that are all below a count
pub all-below : (nets : List ObjectId) (count length : ℕ) → length ≡ count → All (λ net. object_number net < count) nets → AllHold (λ net. net < length) (map object_number nets)
all-below [] count length e each = tt
all-below (x ∷ nets) count length e each = (omega (arith, e, each 0 x (omega arith)), all-below nets count length e (λ k d low. each (suc k) d (omega arith)))

-- several objects were marked, and all nodes gone through
pub ReachSome-all : (design : FlatDesign) → ∥ KeepsRules design ∥₁ → (nets : List ℕ) (blank before later : List Bool) → ((o : ℕ) → get_or blank o false ≡ false) →
    AllHold (λ net. net < length blank) nets →
    Marks nets blank before → AreReached design.nodes 0 (λ o. get_or before o false) later → ReachSome design nets later
ReachSome-all design rules nets blank before later none below marks had = record {
  reaching = λ object net low listed path.
      had object low
      ∙ reaches_in-some design.nodes (λ o. get_or before o false) net object (marks.marked net (omega (arith, marks.same_length, AllHold-has (λ x. x < length blank) nets net below listed)) listed)
      (∥∥₁_elim rules (Bool-set _ _) (λ kept. reaches_in-paths design.nodes kept.ranked object net ∙ lt-ltb 0 (paths design object net) path));
  only = λ object low marked.
      let found = reaches_some-in design.nodes (λ o. get_or before o false) object (sym (had object low) ∙ marked) in (
        found.0,
        listed found.0 found.1,
        ∥∥₁_elim rules le_prop (λ kept. ltb-true 0 (paths design object found.0) (sym (reaches_in-paths design.nodes kept.ranked object found.0) ∙ found.2)),
      );
}
  where
    listed : (net : ℕ) → get_or before net false ≡ true → has nets net ≡ true
    listed net is =
        elim (cases_Bool (has nets net)) [
          | inl there ↦ there
          | inr other ↦
              elim (cases_lt net (length before)) [
                | inl low ↦ absurd (both_ways (get_or before net false) (marks.kept net low other ∙ none net) is)
                | inr past ↦ absurd (both_ways (get_or before net false) (get_or_past before net false past) is)
              ]
        ]
