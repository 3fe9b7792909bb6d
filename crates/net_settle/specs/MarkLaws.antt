-- Laws on marks (nothing of the language).
use Rattle.std.proofs.Common.{◌≡◌, ℕ, ◌+◌, ◌<◌, ◌≤◌, Bool, true, false, List, [], ◌∷◌, length, get_or, set, map, refl, ap, sym, ◌∙◌, inl, inr, arith, take, ◌++◌}
use Rattle.std.specs.Prelude.{nat_eq, not, ◌&&◌, ◌||◌, ◌⊎◌}
use Rattle.std.proofs.lemmas.Bool.{cases_Bool, cases_eq, cases_lt, eq-eqb, ne_eqb, eqb-true, or_cases}
use Rattle.std.proofs.lemmas.List.{get_or-set_same, get_or-set_other, get_or_past, take_more, map_push}
use Rattle.std.proofs.lemmas.Option.{slice_get_past}
use Rattle.vf_base.specs.declared.ids.NodeId.{NodeId}
use Rattle.vf_base.specs.Base.{node_number}
use Rattle.vf_base.specs.Lists.{has}
use Rattle.v_design.specs.Designs.{FlatDesign}
use Rattle.graph_order.specs.ListLaws.{has-append, or-false}
use Rattle.net_graph.specs.Tables.{readers_of, reads, node_reads_at}
use Rattle.net_graph.specs.ReaderLaws.{has-readers_of}
use Rattle.net_graph.specs.ConeLaws.{Marks}
use Rattle.net_settle.specs.Marked.{marked_at, MarksReaders, TakesLeast}

or-true : (a b : Bool) → b ≡ true → true ≡ (a || b)
or-true true b e = refl
or-true false b e = sym e

or-left-false : (a b : Bool) → b ≡ false → a ≡ (a || b)
or-left-false true b e = refl
or-left-false false b e = sym e

-- marking each reader marks exactly the readers
pub MarksReaders-all : (design : FlatDesign) (object : ℕ) (readers : List ℕ) (before later : List Bool) → readers ≡ readers_of design object → length before ≡ length design.nodes →
    Marks readers before later → MarksReaders design object before later
MarksReaders-all design object readers before later same sized marks k =
    let test : has readers k ≡ node_reads_at design object k = ap (λ l. has l k) same ∙ has-readers_of design object k in
    elim (cases_lt k (length later)) [
      | inl low ↦
          elim (cases_Bool (has readers k)) [
            | inl reads_it ↦ marks.marked k low reads_it ∙ or-true (marked_at before k) (node_reads_at design object k) (sym test ∙ reads_it)
            | inr other ↦ marks.kept k low other ∙ or-left-false (marked_at before k) (node_reads_at design object k) (sym test ∙ other)
          ]
      | inr past ↦
          get_or_past later k false past
          ∙ sym (get_or_past before k false (omega (arith, marks.same_length)))
          ∙ or-left-false (marked_at before k) (node_reads_at design object k) (ap (reads object) (slice_get_past design.nodes k (omega (arith, marks.same_length))))
    ]

-- a node that wasn't marked before, and isn't one of those that were marked, is not marked
still-unmarked : (nodes : List ℕ) (before later : List Bool) (node : ℕ) → Marks nodes before later → (has nodes node ≡ true → ⊥) → marked_at before node ≡ false → marked_at later node ≡ false
still-unmarked nodes before later node marks other unmarked =
    elim (cases_lt node (length later)) [
      | inl there ↦
          elim (cases_Bool (has nodes node)) [
            | inl is_one ↦ absurd (other is_one)
            | inr is_none ↦ marks.kept node there is_none ∙ unmarked
          ]
      | inr missing ↦ get_or_past later node false missing
    ]

-- past the marks that stood and the nodes that were marked none is marked
pub none-past : (nodes : List ℕ) (before later : List Bool) (least past end bound : ℕ) → Marks nodes before later → ((node : ℕ) → has nodes node ≡ true → node < bound) →
    ((node : ℕ) → node < least → marked_at before node ≡ false) → ((node : ℕ) → past ≤ node → marked_at before node ≡ false) → ((node : ℕ) → end ≤ node → node < past → node < least) →
    end ≤ bound → (node : ℕ) → bound ≤ node → marked_at later node ≡ false
none-past nodes before later least past end bound marks higher below above between low node far =
    still-unmarked nodes before later node marks (λ is_one. let near : node < bound = higher node is_one in omega arith)
    (elim (cases_lt node past) [ inl near ↦ below node (between node (omega arith) near) | inr beyond ↦ above node beyond ])

-- nor before them
pub none-below : (nodes : List ℕ) (before later : List Bool) (least bound : ℕ) → Marks nodes before later → ((node : ℕ) → has nodes node ≡ true → bound ≤ node) →
    ((node : ℕ) → node < least → marked_at before node ≡ false) → bound ≤ least → (node : ℕ) → node < bound → marked_at later node ≡ false
none-below nodes before later least bound marks lower below low node near =
    still-unmarked nodes before later node marks (λ is_one. let far : bound ≤ node = lower node is_one in omega arith) (below node (omega arith))

and-true : (a b : Bool) → b ≡ true → a ≡ (a && b)
and-true true b e = sym e
and-true false b e = refl

-- the first marked node from a place on, below which none is marked
pub TakesLeast-set : (from node : ℕ) (before : List Bool) → ((k : ℕ) → k < from → marked_at before k ≡ false) → ((k : ℕ) → from ≤ k → k < node → marked_at before k ≡ false) →
    marked_at before node ≡ true → node < length before → TakesLeast node before (set before node false)
TakesLeast-set from node before low between here within = record {
  was_marked = here;
  least = λ k lower. elim (cases_lt k from) [ inl first ↦ low k first | inr later ↦ between k later lower ];
  taken = λ k.
      elim (cases_eq k node) [
        | inl same ↦
            ap (λ j. marked_at (set before node false) j) same ∙ get_or-set_same before node false false within
            ∙ sym (ap (λ j. marked_at before j && not (nat_eq j node)) same ∙ ap (λ b. marked_at before node && not b) (eq-eqb node node refl) ∙ and-false (marked_at before node))
        | inr other ↦ get_or-set_other before node k false false other ∙ and-true (marked_at before k) (not (nat_eq k node)) (ap not (ne_eqb k node other))
      ];
}
  where
    and-false : (b : Bool) → (b && false) ≡ false
    and-false true = refl
    and-false false = refl

-- what one more of some nodes adds to their numbers
pub listed_more : (nodes : List NodeId) (i : ℕ) (d : NodeId) (n : ℕ) → i < length nodes → has (map node_number (take (i + 1) nodes)) n ≡ true →
    (has (map node_number (take i nodes)) n ≡ true) ⊎ (node_number (get_or nodes i d) ≡ n)
listed_more nodes i d n within e =
    let more : map node_number (take (i + 1) nodes) ≡ map node_number (take i nodes) ++ node_number (get_or nodes i d) ∷ [] =
    ap (map node_number) (take_more nodes i d within) ∙ map_push node_number (take i nodes) (get_or nodes i d) in
    let split : (has (map node_number (take i nodes)) n || (nat_eq (node_number (get_or nodes i d)) n || false)) ≡ true =
    sym (ap (λ l. has l n) more ∙ has-append (map node_number (take i nodes)) (node_number (get_or nodes i d) ∷ []) n) ∙ e in
    elim (or_cases (has (map node_number (take i nodes)) n) (nat_eq (node_number (get_or nodes i d)) n || false) split) [
      | inl before ↦ inl before
      | inr here ↦ inr (eqb-true (node_number (get_or nodes i d)) n (sym (or-false (nat_eq (node_number (get_or nodes i d)) n)) ∙ here))
    ]
