-- The nodes below a number are unmarked, and there is none past the last.
use Rattle.std.proofs.Common.{rules, ◌≡◌, ◌≢◌, ◌∙◌, ◌<◌, ◌≤◌, ◌+◌, ℕ, List, Bool, false, length, ap, arith, sym, inl, inr, set}
use Rattle.std.proofs.lemmas.Bool.{cases_eq, cases_lt}
use Rattle.std.proofs.lemmas.List.{get_or-set_same, get_or-set_other, get_or_past, length-map}
use Rattle.vf_base.specs.Base.{node_number}
use Rattle.v_design.specs.Plain.{node_of}
use Rattle.v_design.specs.PlainDesigns.{design_of}
use Rattle.v_design.specs.RulesHold.{rules_hold}
use Rattle.net_graph.specs.declared.graph.Graph.{Graph}
use Rattle.net_settle.specs.Marked.{marked_at, NoneMarked}
use Rattle.net_state.proofs.objects.Objects.unmark_all.Goals as goal

-- one node more is unmarked
unmarked-more : (marks : List Bool) (n : ℕ) → n < length marks → ((k : ℕ) → k < n → marked_at marks k ≡ false) → (k : ℕ) → k < n + 1 → marked_at (set marks n false) k ≡ false
unmarked-more marks n low none k below =
    elim (cases_eq k n) [
      | inl same ↦ ap (λ m. marked_at (set marks n false) m) same ∙ get_or-set_same marks n false false low
      | inr other ↦ get_or-set_other marks n k false false other ∙ none k (omega (arith, below, other))
    ]

-- all are
unmarked-all : (marks : List Bool) (n : ℕ) → length marks ≤ n → ((k : ℕ) → k < n → marked_at marks k ≡ false) → NoneMarked marks
unmarked-all marks n past none k =
    elim (cases_lt k n) [
      | inl below ↦ none k below
      | inr above ↦ get_or_past marks k false (omega (arith, past, above))
    ]

pub overflow_cast-number : goal.overflow_cast-number
overflow_cast-number c =
    let design = c.args.self.now.settle.graph.now.design.now in
    omega (
      arith,
      c.nodes-test.true,
      ap length c.as_slice-count.ensures,
      length-map design.nodes node_of,
      (rules_hold (design_of design) design.rules).few_nodes,
    )

pub unmark-requires : goal.unmark-requires
unmark-requires c =
    let design = c.args.self.now.settle.graph.now.design.now in
    omega (
      arith,
      c.nodes-test.true,
      ap length c.as_slice-count.ensures,
      length-map design.nodes node_of,
      ap (λ (g : Graph). length (design_of g.design.now).nodes) c.nodes.invariant.belongs,
    )

pub nodes-preserved : goal.nodes-preserved
nodes-preserved c =
    let design = c.args.self.now.settle.graph.now.design.now in
    let low : c.nodes.number < length c.nodes.self.settle.marks.items = omega (
      arith,
      c.nodes-test.true,
      ap length c.as_slice-count.ensures,
      length-map design.nodes node_of,
      c.nodes.self.settle.sized,
      ap (λ (g : Graph). length (design_of g.design.now).nodes) c.nodes.invariant.belongs,
    ) in
    record {
      belongs = c.unmark.ensures.belongs ∙ c.nodes.invariant.belongs;
      values = c.unmark.ensures.values ∙ c.nodes.invariant.values;
      none = λ k below.
          ap (λ ms. marked_at ms k) c.unmark.ensures.marks ∙ unmarked-more c.nodes.self.settle.marks.items c.nodes.number low c.nodes.invariant.none k below;
    }

pub returns-clause-marks : goal.returns-clause-marks
returns-clause-marks c =
    let design = c.args.self.now.settle.graph.now.design.now in
    unmarked-all c.nodes.self.settle.marks.items c.nodes.number
    (omega (
      arith,
      c.nodes-test.false,
      ap length c.as_slice-count.ensures,
      length-map design.nodes node_of,
      c.nodes.self.settle.sized,
      ap (λ (g : Graph). length (design_of g.design.now).nodes) c.nodes.invariant.belongs,
    )) c.nodes.invariant.none
