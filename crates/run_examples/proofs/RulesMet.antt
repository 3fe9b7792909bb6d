-- The rules that the laws take as premises are met by a design with a combinational block, and a phase begins at its start.
use Rattle.std.proofs.Common.{◌≡◌, ℕ, zero, suc, ◌≤◌, List, [], ◌∷◌, Bool, true, false, ◌||◌, refl, sym, ap, subst, ◌⊎◌, inl, inr, arith}
use Rattle.std.specs.Prelude.{Some, get_or, slice_get, IsTrue, nat_eq, map}
use Rattle.std.specs.List.{IsDistinct}
use Rattle.std.proofs.lemmas.Bool.{eqb-true}
use Rattle.vf_base.specs.Lists.{has, AllHold}
use Rattle.v_design.specs.Assignments.{AreSettled, value_at, node_outputs}
use Rattle.v_design.specs.Trees.{Null, Delay}
use Rattle.v_design.specs.Designs.{BlockNode, FlatObject, FlatNode, FlatProcess, FlatDesign, good_machine}
use Rattle.v_design.specs.States.{process_at, found_or, start}
use Rattle.v_design.specs.Paths.{net_pieces}
use Rattle.v_design.specs.Places.{PlacesDiffer}
use Rattle.v_design.specs.Writers.{process_objects, WriteVariables}
use Rattle.v_design.specs.WellFormed.{KeepsRules, IsPlan, IsPlanOf, IsNodeOf, IsProcessOf, rank_of}
use Rattle.v_design.specs.Laws.{BeginsPhase}
use Rattle.run_examples.specs.Build.{at, reg_bit, wire_bit, process, block, set_bit, bit_operand, and_of, node, number, plan, output_fault}
use Rattle.four_value.specs.declared.logic.Bit.TheVariants.{Zero}

abbrev named : ℕ → FlatObject → FlatObject
named letter object = record object { name = letter ∷ [] }

-- y is a & b, by a block
abbrev design : FlatDesign
design = record {
  objects = named 97 (reg_bit Zero) ∷ named 98 (reg_bit Zero) ∷ named 121 wire_bit ∷ [];
  joined = [];
  nodes = node (BlockNode (set_bit 6 2 (and_of (bit_operand 0) (bit_operand 1)))) (0 ∷ 1 ∷ []) (2 ∷ []) ∷ [];
  processes = process false 3 (Delay (at 3) 5 (block (set_bit 4 0 (number 1 1) ∷ set_bit 5 1 (number 1 1) ∷ []))) ∷ [];
}

or-step : (b c : Bool) → (b || c) ≡ true → (b ≡ true) ⊎ (c ≡ true)
or-step true c e = inl refl
or-step false c e = inr e

-- a fact of each number of a list, of one that stands there
each_in : (P : ℕ → Type 0) (xs : List ℕ) → AllHold P xs → (n : ℕ) → IsTrue (has xs n) → P n
each_in P [] h n e = cc
each_in P (x ∷ xs) h n e = elim (or-step (nat_eq x n) (has xs n) e) [ inl same ↦ subst P (eqb-true x n same) h.0 | inr there ↦ each_in P xs h.1 n there ]

abbrev the_node : FlatNode
the_node = found_or (record { kind = BlockNode Null; inputs = []; outputs = []; name = [] }) (slice_get design.nodes 0)

-- the only node of a list of one
only_node : (n : ℕ) (first x : FlatNode) → slice_get (first ∷ []) n ≡ Some x → (n ≡ 0) × (first ≡ x)
only_node zero first x e = (refl, ap (found_or first) e)
only_node (suc n) first x e = cc

abbrev first_byte : List ℕ → ℕ
first_byte name = get_or name 0 0

room : (1 ≤ 1) × (1 ≤ 1) × (1 ≤ 128)
room = (omega arith, omega arith, omega arith)

node_rules : IsNodeOf design the_node
node_rules = record {
  inputs = λ object. refl;
  outputs = ((λ object. refl), refl);
  names = refl;
  inputs_there = (omega arith, (omega arith, tt));
  outputs_nets = (refl, tt);
  outputs_once = refl;
  sized = ((((refl, omega arith), tt), omega arith, refl, (room, ((refl, refl), (refl, refl)), (room, refl), (room, refl))), tt);
  levels = omega arith;
  few_inputs = omega arith;
}

abbrev the_process : FlatProcess
the_process = found_or (process false 3 Null) (slice_get design.processes 0)

process_rules : IsProcessOf design the_process
process_rules = record {
  names = refl;
  entries = tt;
  variables = (refl, (refl, tt));
  sized = (omega arith, (((((refl, omega arith), tt), omega arith, refl, room), tt), (((((refl, omega arith), tt), omega arith, refl, room), tt), tt)));
  levels = omega arith;
}

-- its statements stand at places of their own
apart : AllHold (λ (process : FlatProcess). PlacesDiffer process.body) design.processes
unfolding IsDistinct
apart = (((refl, (refl, tt)), ((refl, tt), (tt, tt))), tt)

pub rules : KeepsRules design
rules = record {
  objects = ((refl, refl, omega arith), ((refl, refl, omega arith), ((refl, refl, omega arith), tt)));
  joined = tt;
  nodes = (node_rules, tt);
  processes = (process_rules, tt);
  places = apart;
  words = record { objects = ((refl, tt), ((refl, tt), ((refl, tt), tt))); joined = tt; nodes = (tt, tt) };
  one_driver = λ low high node other e f h.
      let a : high ≡ 0 = (only_node high (the_node) other f).0 in absurd (omega (arith, a, h));
  ranked = λ low high reader driver e f h object i.
      subst (λ (node : FlatNode). has node.inputs object ≡ false) (only_node low the_node reader e).1
      (each_in (λ n. has (0 ∷ 1 ∷ []) n ≡ false) (2 ∷ []) (refl, tt) object
      (subst (λ (node : FlatNode). IsTrue (has node.outputs object)) (sym (only_node high the_node driver f).1) i));
  by_rank = λ low high one other e f h.
      subst (λ (node : FlatNode). rank_of design node ≤ rank_of design other) (only_node low the_node one e).1
      (subst (λ (node : FlatNode). rank_of design the_node ≤ rank_of design node) (only_node high the_node other f).1 (omega arith));
  sites = ((λ e. omega (arith, ap first_byte e), (λ e. omega (arith, ap first_byte e), tt)), ((λ e. omega (arith, ap first_byte e), tt), (tt, tt)));
  few_objects = omega arith;
  few_nodes = omega arith;
  few_processes = omega arith;
}

pub plan_rules : IsPlan (plan 9 (2 ∷ []) (3 ∷ 8 ∷ []) (output_fault 0 2 0 false ∷ []))
plan_rules = record {
  end = omega arith;
  ascending = ((omega arith, tt), (tt, tt));
  in_time = (omega arith, (omega arith, tt));
  few_strobes = omega arith;
  few_watched = omega arith;
  few_faults = omega arith;
}

pub plan_of_design : IsPlanOf design (plan 9 (2 ∷ []) (3 ∷ 8 ∷ []) (output_fault 0 2 0 false ∷ []))
plan_of_design = record {
  watched = (omega arith, tt);
  faults = ((2, omega arith, refl), tt);
}

-- and a phase begins at the start, with the nets settled
pub begins : BeginsPhase (good_machine design) (start (good_machine design))
begins = record {
  fits = record { values = refl; nodes = refl; processes = refl };
  widths = refl;
  settled = λ number node e. settled_node number node e;
  idle = refl;
  writers = writers;
}
  where
    settled_node : AreSettled (good_machine design) (start (good_machine design)).values
    settled_node zero node e =
        subst (λ (n : FlatNode). map (value_at (start (good_machine design)).values) n.outputs ≡ node_outputs (good_machine design) 0 n (start (good_machine design)).values)
        (ap (found_or the_node) e) refl
    settled_node (suc number) node e = cc

    writers : WriteVariables design (start (good_machine design))
    writers zero object i = each_in (λ n. has (net_pieces design) n ≡ false) (process_objects (process_at (start (good_machine design)) 0)) (refl, (refl, tt)) object i
    writers (suc number) object i = cc
