-- Laws on the tables of a graph (nothing of the language).
use Rattle.std.proofs.Common.{◌≡◌, ℕ, suc, ◌+◌, ◌<◌, ◌≤◌, Bool, true, false, List, [], ◌∷◌, ◌++◌, length, get_or, set, map, refl, ap, sym, ◌∙◌, arith, append-nil, replicate, inl, inr}
use Rattle.std.specs.Prelude.{nat_eq, Vec}
use Rattle.std.specs.declared.alloc.Global.{Global}
use Rattle.std.proofs.lemmas.List.{map-set, get_or-map, map_push, get_or-set_same, get_or-set_other, length-set, length_push, get_or-replicate, length-replicate}
use Rattle.std.proofs.lemmas.Bool.{ne_eqb, eq-eqb, cases_eq}
use Rattle.vf_base.specs.declared.ids.NodeId.{NodeId}
use Rattle.vf_base.specs.Base.{node_number}
use Rattle.vf_base.specs.Lists.{has, without_repeats, fresh_only}
use Rattle.v_design.specs.Designs.{FlatNode}
use Rattle.graph_order.specs.ListLaws.{without_repeats-push, now_has, still_has}
use Rattle.net_graph.specs.Tables.{distinct_inputs, before_if, readers_from, node_lists}

fresh_only-new : (s t x : ℕ) → (s ≡ t → ⊥) → fresh_only (nat_eq s t) x [] ≡ x ∷ []
fresh_only-new s t x other = ap (λ b. fresh_only b x []) (ne_eqb s t other)

-- one more node in one of the lists
pub node_lists-push : (lists : List (Vec NodeId Global)) (i : ℕ) (old new : Vec NodeId Global) (x : NodeId) (s t : ℕ) → i < length lists → old ≡ get_or lists i old →
    new.items ≡ old.items ++ x ∷ [] → (s ≡ t → ⊥) →
    node_lists (set lists i new) ≡ set (node_lists lists) i (get_or (node_lists lists) i [] ++ fresh_only (nat_eq s t) (node_number x) [])
node_lists-push lists i old new x s t within is_old pushed other =
    let numbers : Vec NodeId Global → List ℕ = λ list. map node_number list.items in
    map-set numbers lists i new
    ∙ ap (set (node_lists lists) i)
    (ap (map node_number) pushed ∙ map_push node_number old.items x
    ∙ ap (λ l. numbers l ++ node_number x ∷ []) is_old
    ∙ ap (λ l. l ++ node_number x ∷ []) (sym (get_or-map numbers lists i old [] within))
    ∙ ap (λ l. get_or (node_lists lists) i [] ++ l) (sym (fresh_only-new s t (node_number x) other)))

-- Adding the inputs of a node

-- what the inputs of a node leave: they stand once each among the node's own, and the node stands in the lists of those objects
pub record InputsAdded (node : ℕ) (taken : List ℕ) (before : List (List ℕ)) (seen once : List ℕ) (lists : List (List ℕ)) : Type 0 where
  pub once_each : once ≡ without_repeats [] taken
  pub marked : (o : ℕ) → o < length seen → nat_eq (get_or seen o 0) (node + 1) ≡ has taken o
  pub bounded : (o : ℕ) → o < length seen → get_or seen o 0 ≤ node + 1
  pub listed : (o : ℕ) → o < length lists → get_or lists o [] ≡ get_or before o [] ++ before_if (has taken o) node []
  pub same_length : length lists ≡ length before

-- before the first input
pub InputsAdded-none : (node : ℕ) (before : List (List ℕ)) (seen : List ℕ) → ((o : ℕ) → o < length seen → get_or seen o 0 ≤ node) → InputsAdded node [] before seen [] before
InputsAdded-none node before seen low = record {
  once_each = refl;
  marked = λ o h. let le : get_or seen o 0 ≤ node = low o h in ne_eqb (get_or seen o 0) (node + 1) (λ e. omega arith);
  bounded = λ o h. let le : get_or seen o 0 ≤ node = low o h in omega arith;
  listed = λ o h. sym (append-nil (get_or before o []));
  same_length = refl;
}

twice : (b : Bool) (node : ℕ) (l : List ℕ) → (l ++ before_if b node []) ++ fresh_only b node [] ≡ l ++ node ∷ []
twice true node l = append-nil (l ++ node ∷ [])
twice false node l = ap (λ r. r ++ node ∷ []) (append-nil l)

-- one more input
pub InputsAdded-more : (node : ℕ) (taken : List ℕ) (before : List (List ℕ)) (seen once : List ℕ) (lists : List (List ℕ)) (x : ℕ) →
    InputsAdded node taken before seen once lists → x < length seen → x < length lists →
    InputsAdded node (taken ++ x ∷ []) before (set seen x (node + 1)) (once ++ fresh_only (nat_eq (get_or seen x 0) (node + 1)) x [])
    (set lists x (get_or lists x [] ++ fresh_only (nat_eq (get_or seen x 0) (node + 1)) node []))
InputsAdded-more node taken before seen once lists x had in_seen in_lists = record {
  once_each =
      ap (λ l. l ++ fresh_only (nat_eq (get_or seen x 0) (node + 1)) x []) had.once_each
      ∙ ap (λ b. without_repeats [] taken ++ fresh_only b x []) (had.marked x in_seen)
      ∙ sym (without_repeats-push [] taken x);
  marked = λ o h.
      elim (cases_eq o x) [
        | inl same ↦
            ap (λ j. nat_eq (get_or (set seen x (node + 1)) j 0) (node + 1)) same
            ∙ ap (λ n. nat_eq n (node + 1)) (get_or-set_same seen x (node + 1) 0 in_seen) ∙ eq-eqb (node + 1) (node + 1) refl
            ∙ sym (ap (has (taken ++ x ∷ [])) same ∙ now_has taken x)
        | inr other ↦
            ap (λ n. nat_eq n (node + 1)) (get_or-set_other seen x o (node + 1) 0 other)
            ∙ had.marked o (omega (arith, length-set seen x (node + 1))) ∙ sym (still_has taken x o other)
      ];
  bounded = λ o h.
      elim (cases_eq o x) [
        | inl same ↦ let now : get_or (set seen x (node + 1)) o 0 ≡ node + 1 = ap (λ j. get_or (set seen x (node + 1)) j 0) same ∙ get_or-set_same seen x (node + 1) 0 in_seen in omega arith
        | inr other ↦
            let le : get_or seen o 0 ≤ node + 1 = had.bounded o (omega (arith, length-set seen x (node + 1))) in
            let same : get_or (set seen x (node + 1)) o 0 ≡ get_or seen o 0 = get_or-set_other seen x o (node + 1) 0 other in omega arith
      ];
  listed = λ o h.
      let new : List ℕ = get_or lists x [] ++ fresh_only (nat_eq (get_or seen x 0) (node + 1)) node [] in
      elim (cases_eq o x) [
        | inl same ↦
            ap (λ j. get_or (set lists x (get_or lists x [] ++ fresh_only (nat_eq (get_or seen x 0) (node + 1)) node [])) j []) same
            ∙ get_or-set_same lists x (get_or lists x [] ++ fresh_only (nat_eq (get_or seen x 0) (node + 1)) node []) [] in_lists
            ∙ ap (λ l. l ++ fresh_only (nat_eq (get_or seen x 0) (node + 1)) node []) (had.listed x in_lists)
            ∙ ap (λ b. (get_or before x [] ++ before_if (has taken x) node []) ++ fresh_only b node []) (had.marked x in_seen)
            ∙ twice (has taken x) node (get_or before x [])
            ∙ sym (ap (λ j. get_or before j [] ++ before_if (has (taken ++ x ∷ []) j) node []) same ∙ ap (λ b. get_or before x [] ++ before_if b node []) (now_has taken x))
        | inr other ↦
            get_or-set_other lists x o (get_or lists x [] ++ fresh_only (nat_eq (get_or seen x 0) (node + 1)) node []) [] other
            ∙ had.listed o (omega (arith, length-set lists x (get_or lists x [] ++ fresh_only (nat_eq (get_or seen x 0) (node + 1)) node [])))
            ∙ ap (λ b. get_or before o [] ++ before_if b node []) (sym (still_has taken x o other))
      ];
  same_length = length-set lists x (get_or lists x [] ++ fresh_only (nat_eq (get_or seen x 0) (node + 1)) node []) ∙ had.same_length;
}

-- All nodes

readers_from-push : (object number : ℕ) (nodes : List FlatNode) (node : FlatNode) →
    readers_from object number (nodes ++ node ∷ []) ≡ readers_from object number nodes ++ before_if (has node.inputs object) (number + length nodes) []
readers_from-push object number [] node = ap (λ n. before_if (has node.inputs object) n []) (let e : number ≡ number + 0 = omega arith in e)
readers_from-push object number (first ∷ nodes) node =
    ap (before_if (has first.inputs object) number) (readers_from-push object (number + 1) nodes node)
    ∙ before_if-append (has first.inputs object) number (readers_from object (number + 1) nodes) (before_if (has node.inputs object) (number + 1 + length nodes) [])
    ∙ ap (λ n. before_if (has first.inputs object) number (readers_from object (number + 1) nodes) ++ before_if (has node.inputs object) n [])
    (let e : number + 1 + length nodes ≡ number + suc (length nodes) = omega arith in e)
  where
    before_if-append : (b : Bool) (n : ℕ) (rest more : List ℕ) → before_if b n (rest ++ more) ≡ before_if b n rest ++ more
    before_if-append true n rest more = refl
    before_if-append false n rest more = refl

-- the tables of some nodes
pub record TablesBuilt (nodes : List FlatNode) (seen : List ℕ) (inputs lists : List (List ℕ)) : Type 0 where
  pub inputs_once : inputs ≡ map distinct_inputs nodes
  pub bounded : (o : ℕ) → o < length seen → get_or seen o 0 ≤ length nodes
  pub listed : (o : ℕ) → o < length lists → get_or lists o [] ≡ readers_from o 0 nodes

-- before the first node
pub TablesBuilt-none : (seen count : ℕ) → TablesBuilt [] (replicate seen 0) [] (replicate count [])
TablesBuilt-none seen count = record {
  inputs_once = refl;
  bounded = λ o h. let e : get_or {A = ℕ} (replicate seen 0) o 0 ≡ 0 = get_or-replicate {A = ℕ} seen o 0 0 (omega (arith, length-replicate {A = ℕ} seen 0)) in omega arith;
  listed = λ o h. get_or-replicate count o [] [] (omega (arith, length-replicate {A = List ℕ} count []));
}

-- one more node
pub TablesBuilt-more : (nodes : List FlatNode) (seen : List ℕ) (inputs lists : List (List ℕ)) (node : FlatNode) (later once : List ℕ) (now : List (List ℕ)) →
    TablesBuilt nodes seen inputs lists → InputsAdded (length nodes) node.inputs lists later once now → TablesBuilt (nodes ++ node ∷ []) later (inputs ++ once ∷ []) now
TablesBuilt-more nodes seen inputs lists node later once now had added = record {
  inputs_once =
      ap (λ l. l ++ once ∷ []) had.inputs_once ∙ ap (λ l. map distinct_inputs nodes ++ l ∷ []) added.once_each ∙ sym (map_push distinct_inputs nodes node);
  bounded = λ o h. let le : get_or later o 0 ≤ length nodes + 1 = added.bounded o h in omega (arith, length_push nodes node);
  listed = λ o h.
      added.listed o h
      ∙ ap (λ l. l ++ before_if (has node.inputs o) (length nodes) []) (had.listed o (omega (arith, added.same_length)))
      ∙ ap (λ n. readers_from o 0 nodes ++ before_if (has node.inputs o) n []) (let e : length nodes ≡ 0 + length nodes = omega arith in e)
      ∙ sym (readers_from-push o 0 nodes node);
}
