-- The least object that reaches itself through nodes, as a search over paths finds it: a path that visits no node twice has no more steps than there are nodes
-- (own: the nodes of a design are acyclic; IEEE 1364-2001, clause 6 and clause 7, allows loops of nets).
use Rattle.std.proofs.Common.{◌≡◌, ℕ, zero, suc, ◌+◌, ◌<◌, ◌≤◌, Bool, true, false, List, [], ◌∷◌, length, Some, None, refl, ap, sym, ◌∙◌, subst, inl, inr, ◌⊎◌, arith}
use Rattle.std.specs.Prelude.{nat_eq, slice_get, filter, flat_map}
use Rattle.std.specs.List.{IsDistinct, AllByRecursion, list_any}
use Rattle.std.proofs.lemmas.Bool.{cases_Bool, cases_eq, both_ways, or_cases, or_left, or_right, eq-eqb, ne_eqb, eqb-true, cond-true, cond-false}
use Rattle.std.proofs.lemmas.Map.Steps.{length-le_from_distinct_below}
use Rattle.std.proofs.lemmas.Option.{slice_get_within}
use Rattle.vf_base.specs.Lists.{has}
use Rattle.v_design.specs.Expressions.{up_from}
use Rattle.v_design.specs.Designs.{FlatNode}
use Rattle.graph_order.specs.ListLaws.{has-append}
use Rattle.net_graph.specs.Loops.{IsStep, IsPath, IsLooping, IsLeastLooping, AreAmong}
use Rattle.net_graph.specs.WiringLaws.{looping_among}
use Rattle.v_elab.specs.Ranks.{outputs_reading, reached, reaches_itself, first_of, least_loop}
use Rattle.flat_laws.specs.Lists.{same_some, at-filter}
use Rattle.flat_laws.specs.Drivers.Ranks.{any-at, any-has, path-reached}

-- What is reached

has-flat : (nodes : List FlatNode) (o : ℕ) → has (flat_map (λ (n : FlatNode). n.outputs) nodes) o ≡ true → (i : ℕ) × (node : FlatNode) × (slice_get nodes i ≡ Some node) × (has node.outputs o ≡ true)
has-flat [] o e = absurd (cc)
has-flat (node ∷ nodes) o e =
    elim (or_cases (has node.outputs o) (has (flat_map (λ (n : FlatNode). n.outputs) nodes) o) (sym (has-append node.outputs (flat_map (λ (n : FlatNode). n.outputs) nodes) o) ∙ e)) [
      | inl here ↦ (0, node, refl, here)
      | inr later ↦ let r = has-flat nodes o later in (suc r.0, r.1, r.2, r.3)
    ]

-- what is read from some objects is one step from one of them
step-back : (nodes : List FlatNode) (objects : List ℕ) (to : ℕ) → has (outputs_reading objects nodes) to ≡ true → (from : ℕ) × (has objects from ≡ true) × IsStep nodes from to
step-back nodes objects to e =
    let r = has-flat (filter (λ (n : FlatNode). list_any (has objects) n.inputs) nodes) to e in
    let kept = at-filter (λ (n : FlatNode). list_any (has objects) n.inputs) nodes r.0 r.1 r.2 in
    let read = any-at (has objects) r.1.inputs kept.2 in
    (read.0, read.2, record { number = kept.0; node = r.1; is = kept.1; reads = read.1; drives = r.3 })

reached-path : (nodes : List FlatNode) (steps : ℕ) (objects : List ℕ) (to : ℕ) → has (reached steps nodes objects) to ≡ true →
    (from : ℕ) × (has objects from ≡ true) × (between : List ℕ) × IsPath nodes from between to
reached-path nodes zero objects to e = absurd (cc)
reached-path nodes (suc steps) objects to e =
    let next = outputs_reading objects nodes in
    elim (or_cases (has next to) (has (reached steps nodes next) to) (sym (has-append next (reached steps nodes next) to) ∙ e)) [
      | inl here ↦ let r = step-back nodes objects to here in (r.0, r.1, [], r.2)
      | inr later ↦ let p = reached-path nodes steps next to later in let r = step-back nodes objects p.0 p.1 in (r.0, r.1, p.0 ∷ p.2, (r.2, p.3))
    ]

-- an object that is reached from itself loops
reaches-looping : (nodes : List FlatNode) (object : ℕ) → reaches_itself nodes object ≡ true → IsLooping nodes object
reaches-looping nodes object e =
    let p = reached-path nodes (length nodes) (object ∷ []) object e in
    elim (or_cases (nat_eq object p.0) false p.1) [
      | inl same ↦ (p.2, subst (λ from. IsPath nodes from p.2 object) (sym (eqb-true object p.0 same)) p.3)
      | inr none ↦ absurd (cc)
    ]

-- Paths by the numbers of their nodes

abbrev Over : List FlatNode → ℕ → List ℕ → ℕ → Type 0
Over nodes from [] to = from ≡ to
Over nodes from (k ∷ numbers) to = (node : FlatNode) × (slice_get nodes k ≡ Some node) × (has node.inputs from ≡ true) × (next : ℕ) × (has node.outputs next ≡ true) × Over nodes next numbers to

path-over : (nodes : List FlatNode) (from : ℕ) (between : List ℕ) (to : ℕ) → IsPath nodes from between to → (numbers : List ℕ) × (1 ≤ length numbers) × Over nodes from numbers to
path-over nodes from [] to step = (step.number ∷ [], omega arith, (step.node, step.is, step.reads, to, step.drives, refl))
path-over nodes from (next ∷ rest) to path =
    let r = path-over nodes next rest to path.1 in
    let step = path.0 in
    (step.number ∷ r.0, omega arith, (step.node, step.is, step.reads, next, step.drives, r.2))

over-path : (nodes : List FlatNode) (from k : ℕ) (numbers : List ℕ) (to : ℕ) → Over nodes from (k ∷ numbers) to → (between : List ℕ) × (length between ≡ length numbers) × IsPath nodes from between to
over-path nodes from k [] to h = ([], refl, record { number = k; node = h.0; is = h.1; reads = h.2; drives = ap (has h.0.outputs) (sym h.5) ∙ h.4 })
over-path nodes from k (l ∷ numbers) to h =
    let r = over-path nodes h.3 l numbers to h.5 in
    (h.3 ∷ r.0, ap suc r.1, (record { number = k; node = h.0; is = h.1; reads = h.2; drives = h.4 }, r.2))

over-among : (nodes : List FlatNode) (from : ℕ) (numbers : List ℕ) (to : ℕ) → Over nodes from numbers to → (p : ℕ) → has numbers p ≡ true → p < length nodes
over-among nodes from [] to h p e = absurd (cc)
over-among nodes from (k ∷ numbers) to h p e =
    elim (or_cases (nat_eq k p) (has numbers p) e) [
      | inl same ↦ omega (arith, eqb-true k p same, slice_get_within nodes k h.0 h.1)
      | inr later ↦ over-among nodes h.3 numbers to h.5 p later
    ]

-- Paths that visit no node twice

not-among : (k : ℕ) (numbers : List ℕ) → has numbers k ≡ false → AllByRecursion (λ y. nat_eq k y ≡ false) numbers
not-among k [] e = tt
not-among k (x ∷ numbers) e = (
  ne_eqb k x (λ same. both_ways (has (x ∷ numbers) k) e (or_left (nat_eq x k) (has numbers k) (eq-eqb x k (sym same)))),
  not-among k numbers (later (has numbers k) refl),
)
  where
    later : (b : Bool) → has numbers k ≡ b → has numbers k ≡ false
    later true d = absurd (both_ways (has (x ∷ numbers) k) e (or_right (nat_eq x k) (has numbers k) d))
    later false d = d

-- the rest of a path behind a node that it visits
record Behind (nodes : List FlatNode) (k to : ℕ) : Type 0 where
  node : FlatNode
  is : slice_get nodes k ≡ Some node
  next : ℕ
  drives : has node.outputs next ≡ true
  numbers : List ℕ
  over : Over nodes next numbers to
  distinct : IsDistinct nat_eq (k ∷ numbers)

behind : (nodes : List FlatNode) (k from : ℕ) (numbers : List ℕ) (to : ℕ) → Over nodes from numbers to → IsDistinct nat_eq numbers → has numbers k ≡ true → Behind nodes k to
unfolding IsDistinct
behind nodes k from [] to h distinct e = absurd (cc)
behind nodes k from (l ∷ numbers) to h distinct e =
    elim (cases_eq l k) [
      | inl same ↦ record {
        node = h.0;
        is = ap (slice_get nodes) (sym same) ∙ h.1;
        next = h.3;
        drives = h.4;
        numbers = numbers;
        over = h.5;
        distinct = (subst (λ n. AllByRecursion (λ y. nat_eq n y ≡ false) numbers) same distinct.0, distinct.1);
      }
      | inr other ↦ behind nodes k h.3 numbers to h.5 distinct.1 (rest (or_cases (nat_eq l k) (has numbers k) e) other)
    ]
  where
    rest : (nat_eq l k ≡ true) ⊎ (has numbers k ≡ true) → (l ≡ k → ⊥) → has numbers k ≡ true
    rest (inl here) never = absurd (never (eqb-true l k here))
    rest (inr later) never = later

-- a path that visits no node twice
record Distinct (nodes : List FlatNode) (from to : ℕ) (some : ℕ) : Type 0 where
  numbers : List ℕ
  over : Over nodes from numbers to
  distinct : IsDistinct nat_eq numbers
  more : some ≤ length numbers

one-more : (nodes : List FlatNode) (from k : ℕ) (numbers : List ℕ) (to : ℕ) (h : Over nodes from (k ∷ numbers) to) → Distinct nodes h.3 to 0 → Distinct nodes from to 1
unfolding IsDistinct
one-more nodes from k numbers to h r =
    elim (cases_Bool (has r.numbers k)) [
      | inl again ↦
          let b = behind nodes k h.3 r.numbers to r.over r.distinct again in
          let same : b.node ≡ h.0 = same_some b.node h.0 (sym b.is ∙ h.1) in
          record { numbers = k ∷ b.numbers; over = (h.0, h.1, h.2, b.next, ap (λ (n : FlatNode). has n.outputs b.next) (sym same) ∙ b.drives, b.over); distinct = b.distinct; more = omega arith }
      | inr fresh ↦ record { numbers = k ∷ r.numbers; over = (h.0, h.1, h.2, h.3, h.4, r.over); distinct = (not-among k r.numbers fresh, r.distinct); more = omega arith }
    ]

-- each path has one that visits no node twice
shortened : (nodes : List FlatNode) (from : ℕ) (numbers : List ℕ) (to : ℕ) → Over nodes from numbers to → Distinct nodes from to 0
unfolding IsDistinct
shortened nodes from [] to h = record { numbers = []; over = h; distinct = tt; more = omega arith }
shortened nodes from (k ∷ numbers) to h = let r = one-more nodes from k numbers to h (shortened nodes h.3 numbers to h.5) in
    record { numbers = r.numbers; over = r.over; distinct = r.distinct; more = omega arith }

-- an object that reaches itself is reached through as many nodes as there are
looping-reaches : (nodes : List FlatNode) (object : ℕ) → IsLooping nodes object → reaches_itself nodes object ≡ true
looping-reaches nodes object loops =
    let first = path-over nodes object loops.0 object loops.1 in
    by_numbers first.0 first.1 first.2
  where
    by_short : (k : ℕ) (numbers : List ℕ) → Over nodes object (k ∷ numbers) object → IsDistinct nat_eq (k ∷ numbers) → reaches_itself nodes object ≡ true
    by_short k numbers over distinct =
        let few : length (k ∷ numbers) ≤ length nodes =
        length-le_from_distinct_below (k ∷ numbers) (length nodes) distinct (λ p e. over-among nodes object (k ∷ numbers) object over p (any-has (k ∷ numbers) p e)) in
        let path = over-path nodes object k numbers object over in
        path-reached nodes (length nodes) (object ∷ []) object path.0 object path.2 (omega (arith, path.1, few)) (or_left (nat_eq object object) false (eq-eqb object object refl))

    by_distinct : (numbers : List ℕ) → Over nodes object numbers object → IsDistinct nat_eq numbers → 1 ≤ length numbers → reaches_itself nodes object ≡ true
    by_distinct [] over distinct some = absurd (omega (arith, some))
    by_distinct (k ∷ numbers) over distinct some = by_short k numbers over distinct

    by_numbers : (numbers : List ℕ) → 1 ≤ length numbers → Over nodes object numbers object → reaches_itself nodes object ≡ true
    by_numbers [] some over = absurd (omega (arith, some))
    by_numbers (k ∷ numbers) some over =
        let r = one-more nodes object k numbers object over (shortened nodes over.3 numbers object over.5) in
        by_distinct r.numbers r.over r.distinct r.more

-- The least of some numbers that passes a test

first-passes : (test : ℕ → Bool) (start count o : ℕ) → start ≤ o → o < start + count → test o ≡ true → ((p : ℕ) → start ≤ p → p < o → test p ≡ false) →
    first_of (filter test (up_from start count)) ≡ Some o
first-passes test start zero o low high passes before = absurd (omega (arith, low, high))
first-passes test start (suc count) o low high passes before =
    elim (cases_eq start o) [
      | inl same ↦ ap first_of (cond-true (test start) (start ∷ filter test (up_from (start + 1) count)) (filter test (up_from (start + 1) count)) (ap test same ∙ passes)) ∙ ap Some same
      | inr other ↦
          ap first_of (cond-false (test start) (start ∷ filter test (up_from (start + 1) count)) (filter test (up_from (start + 1) count)) (before start (omega arith) (omega (arith, low, other))))
          ∙ first-passes test (start + 1) count o (omega (arith, low, other)) (omega (arith, high)) passes (λ p least less. before p (omega (arith, least)) less)
    ]

none-pass : (test : ℕ → Bool) (start count : ℕ) → ((p : ℕ) → test p ≡ false) → filter test (up_from start count) ≡ []
none-pass test start zero none = refl
none-pass test start (suc count) none = cond-false (test start) (start ∷ filter test (up_from (start + 1) count)) (filter test (up_from (start + 1) count)) (none start)
    ∙ none-pass test (start + 1) count none

no-reach : (nodes : List FlatNode) (object : ℕ) → (IsLooping nodes object → ⊥) → reaches_itself nodes object ≡ false
no-reach nodes object never = by_test (reaches_itself nodes object) refl
  where
    by_test : (test : Bool) → reaches_itself nodes object ≡ test → reaches_itself nodes object ≡ false
    by_test true e = absurd (never (reaches-looping nodes object e))
    by_test false e = e

-- Loops

-- the least object that reaches itself is the one that is found
pub least-found : (objects : ℕ) (nodes : List FlatNode) (object : ℕ) → AreAmong objects nodes → IsLeastLooping nodes object → least_loop objects nodes ≡ Some object
least-found objects nodes object among is =
    let within = looping_among objects nodes object among is.loops in
    first-passes (reaches_itself nodes) 0 objects object (omega arith) (omega (arith, within)) (looping-reaches nodes object is.loops) (λ p low less. no-reach nodes p (is.least p less))

-- and where there is none, none is found
pub none-found : (objects : ℕ) (nodes : List FlatNode) → ((object : ℕ) → IsLooping nodes object → ⊥) → least_loop objects nodes ≡ None
none-found objects nodes acyclic = ap first_of (none-pass (reaches_itself nodes) 0 objects (λ object. no-reach nodes object (acyclic object)))
