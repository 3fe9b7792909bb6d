-- The readers of an object are the nodes that read it (nothing of the language).
use Rattle.std.proofs.Common.{◌≡◌, ℕ, zero, suc, ◌+◌, ◌<◌, ◌≤◌, Bool, true, false, List, [], ◌∷◌, length, get_or, map, refl, ap, sym, ◌∙◌, subst, inl, inr, arith}
use Rattle.std.specs.Prelude.{slice_get, nat_eq, ◌||◌}
use Rattle.std.specs.List.{All}
use Rattle.std.proofs.lemmas.Bool.{cases_lt, both_ways, eq-eqb, ne_eqb, or_left}
use Rattle.std.proofs.lemmas.List.{get_or-map, length-map}
use Rattle.std.proofs.lemmas.Option.{slice_get_past}
use Rattle.vf_base.specs.declared.ids.NodeId.{NodeId}
use Rattle.vf_base.specs.Base.{node_number}
use Rattle.vf_base.specs.Lists.{has}
use Rattle.v_design.specs.Designs.{FlatNode, FlatDesign}
use Rattle.graph_order.specs.ListLaws.{has-get_or}
use Rattle.net_graph.specs.Tables.{before_if, readers_from, readers_of, reads, node_reads_at}

below_readers : (object number n : ℕ) (nodes : List FlatNode) → n < number → has (readers_from object number nodes) n ≡ false
below_readers object number n [] low = refl
below_readers object number n (node ∷ nodes) low =
    below_before (has node.inputs object) number n (readers_from object (number + 1) nodes) (ne_eqb number n (λ e. omega arith)) (below_readers object (number + 1) n nodes (omega arith))
  where
    below_before : (b : Bool) (number n : ℕ) (rest : List ℕ) → nat_eq number n ≡ false → has rest n ≡ false → has (before_if b number rest) n ≡ false
    below_before true number n rest e h = ap (λ b. b || has rest n) e ∙ h
    below_before false number n rest e h = h

has_first : (b : Bool) (number : ℕ) (rest : List ℕ) → has rest number ≡ false → has (before_if b number rest) number ≡ b
has_first true number rest h = or_left (nat_eq number number) (has rest number) (eq-eqb number number refl)
has_first false number rest h = h

has_later : (b : Bool) (number n : ℕ) (rest : List ℕ) → (number ≡ n → ⊥) → has (before_if b number rest) n ≡ has rest n
has_later true number n rest other = ap (λ b. b || has rest n) (ne_eqb number n other)
has_later false number n rest other = refl

-- the readers of an object are the nodes that read it
has-readers_from : (object number k : ℕ) (nodes : List FlatNode) → has (readers_from object number nodes) (number + k) ≡ reads object (slice_get nodes k)
has-readers_from object number k [] = sym (ap (reads object) (slice_get_past [] k (omega arith)))
has-readers_from object number zero (node ∷ nodes) =
    ap (has (readers_from object number (node ∷ nodes))) (let e : number + 0 ≡ number = omega arith in e)
    ∙ has_first (has node.inputs object) number (readers_from object (number + 1) nodes) (below_readers object (number + 1) number nodes (omega arith))
has-readers_from object number (suc k) (node ∷ nodes) =
    has_later (has node.inputs object) number (number + suc k) (readers_from object (number + 1) nodes) (λ e. omega arith)
    ∙ ap (has (readers_from object (number + 1) nodes)) (let e : number + suc k ≡ number + 1 + k = omega arith in e)
    ∙ has-readers_from object (number + 1) k nodes

pub has-readers_of : (design : FlatDesign) (object k : ℕ) → has (readers_of design object) k ≡ node_reads_at design object k
has-readers_of design object k =
    ap (has (readers_of design object)) (let e : k ≡ 0 + k = omega arith in e) ∙ has-readers_from object 0 k design.nodes

read_within : (object : ℕ) (nodes : List FlatNode) (k : ℕ) → reads object (slice_get nodes k) ≡ true → k < length nodes
read_within object nodes k e =
    elim (cases_lt k (length nodes)) [
      | inl low ↦ low
      | inr past ↦ absurd (both_ways (reads object (slice_get nodes k)) (ap (reads object) (slice_get_past nodes k past)) e)
    ]

-- readers are nodes
pub readers_below : (design : FlatDesign) (object : ℕ) (readers : List NodeId) (count : ℕ) → map node_number readers ≡ readers_of design object → length design.nodes ≤ count →
    All (λ reader. node_number reader < count) readers
readers_below design object readers count same enough j d low =
    let there : has (map node_number readers) (get_or (map node_number readers) j (node_number d)) ≡ true =
    has-get_or (map node_number readers) j (node_number d) (omega (arith, length-map readers node_number)) in
    let itself : get_or (map node_number readers) j (node_number d) ≡ node_number (get_or readers j d) = get_or-map node_number readers j d (node_number d) low in
    let is_reader : node_reads_at design object (get_or (map node_number readers) j (node_number d)) ≡ true =
    sym (has-readers_of design object (get_or (map node_number readers) j (node_number d))) ∙ subst (λ l. has l (get_or (map node_number readers) j (node_number d)) ≡ true) same there in
    let bound : get_or (map node_number readers) j (node_number d) < length design.nodes = read_within object design.nodes (get_or (map node_number readers) j (node_number d)) is_reader in
    omega arith
