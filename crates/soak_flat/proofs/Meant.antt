-- What the names of the generated unit mean: its registers are variables and its wires nets, of one bit without a range (IEEE 1364-2001, clause 3.2).
use Rattle.std.proofs.Common.{◌≡◌, ℕ, ◌+◌, ◌<◌, ◌≤◌, Bool, true, false, List, [], ◌∷◌, ◌++◌, length, Option, Some, refl, ap, ◌∙◌, arith, inl, inr}
use Rattle.std.specs.Prelude.{nat_eq}
use Rattle.std.specs.Fmt.{decimal}
use Rattle.std.proofs.lemmas.Bool.{and_left, cases_eq}
use Rattle.vf_base.specs.Lists.{AllHold}
use Rattle.vf_base.specs.declared.ids.Place.{Place}
use Rattle.v_tree.specs.Trees.{same_name}
use Rattle.v_scan.specs.Texts.{place_behind}
use Rattle.v_comb.proofs.Tables.{equal-same}
use Rattle.v_names.specs.Scopes.{DeclaredRange, ScopeEntry, NetEntry, RegEntry, Scope, entry_if, looked_up}
use Rattle.v_names.specs.Names.{Declaration, meanings, waiting_scope, scope_after, parameter_count, scope_of}
use Rattle.soak_text.specs.declared.draws.Stage.{Stage}
use Rattle.soak_text.specs.Soak.{register_line, wire_line, gate_line, clocked_line}
use Rattle.soak_tree.specs.SoakUnits.{clock_name, register_name, wire_name, soak_module}
use Rattle.soak_tree.specs.Stages.{IsStage}
use Rattle.soak_flat.proofs.Once.{no-parameters}
use Rattle.soak_flat.proofs.Apart.{Numbered, register_declarations, gate_declarations, at_registers, at_gates, all_declarations, declared-plain, names-declared}

-- one bit without a range
abbrev pub scalar : DeclaredRange
scalar = record { ranged = false; high = 0; low = 0 }

-- what the scope says of the names of so many stages
pub record Knows (scope : Scope) (size : ℕ) : Type 0 where
  pub clock : looked_up scope clock_name ≡ Some (RegEntry scalar false)
  pub register : (number : ℕ) → number < size → looked_up scope (register_name number) ≡ Some (RegEntry scalar false)
  pub wire : (number : ℕ) → number < size → looked_up scope (wire_name number) ≡ Some (NetEntry scalar false)

-- The scope of the unit

abbrev pub meant : List Declaration → List Declaration → Scope
meant all ds = meanings (waiting_scope all) [] ds

abbrev pub soak_scope : List Stage → Scope
soak_scope stages = meant (all_declarations stages) (all_declarations stages)

pub scope-is : (stages : List Stage) → Numbered 0 stages → AllHold IsStage stages → scope_of (soak_module stages) [] ≡ soak_scope stages
scope-is stages numbered are =
    ap (λ (ds : List Declaration). scope_after (parameter_count ds + 1) [] ds) (names-declared stages numbered are)
    ∙ ap (λ n. scope_after (n + 1) [] (all_declarations stages)) (no-parameters (all_declarations stages) (declared-plain stages))

module _ (all : List Declaration) where
  -- registers, then others
  registers-found : (from number : ℕ) (stages : List Stage) (place : Place) (rest : List Declaration) → from ≤ number → number < from + length stages → Numbered from stages →
      looked_up (meant all (register_declarations stages place ++ rest)) (register_name number) ≡ Some (RegEntry scalar false)
  registers-found from number [] place rest low high numbered = absurd (omega (arith, low, high))
  registers-found from number (stage ∷ stages) place rest low high numbered =
      let after = looked_up (meant all (register_declarations stages (place_behind place (register_line stage)) ++ rest)) (register_name number) in
      elim (cases_eq stage.number number) [
        | inl same ↦ ap (λ b. entry_if b (RegEntry scalar false) after) (equal-same (register_name stage.number) (register_name number) (ap register_name same))
        | inr other ↦
            let later : after ≡ Some (RegEntry scalar false) =
            registers-found (from + 1) number stages (place_behind place (register_line stage)) rest (above from stage.number number numbered.0 low other) (omega (arith, high)) numbered.1 in
            either (same_name (register_name stage.number) (register_name number)) later
      ]
    where
      above : (from here number : ℕ) → here ≡ from → from ≤ number → (here ≡ number → ⊥) → from + 1 ≤ number
      above from here number e low other = grind arith

      either : (b : Bool) → {o : Option ScopeEntry} → o ≡ Some (RegEntry scalar false) → entry_if b (RegEntry scalar false) o ≡ Some (RegEntry scalar false)
      either true e = refl
      either false e = e

  registers-passed : (letter : ℕ) (behind : List ℕ) → nat_eq 114 letter ≡ false → (stages : List Stage) (place : Place) (rest : List Declaration) →
      looked_up (meant all (register_declarations stages place ++ rest)) (letter ∷ behind) ≡ looked_up (meant all rest) (letter ∷ behind)
  registers-passed letter behind other [] place rest = refl
  registers-passed letter behind other (stage ∷ stages) place rest =
      ap (λ b. entry_if b (RegEntry scalar false) (looked_up (meant all (register_declarations stages (place_behind place (register_line stage)) ++ rest)) (letter ∷ behind)))
      (and_left (nat_eq 114 letter) (same_name (decimal stage.number) behind) other)
      ∙ registers-passed letter behind other stages (place_behind place (register_line stage)) rest

  wires-found : (from number : ℕ) (stages : List Stage) (place : Place) → from ≤ number → number < from + length stages → Numbered from stages →
      looked_up (meant all (gate_declarations stages place)) (wire_name number) ≡ Some (NetEntry scalar false)
  wires-found from number [] place low high numbered = absurd (omega (arith, low, high))
  wires-found from number (stage ∷ stages) place low high numbered =
      let next = place_behind (place_behind (place_behind place (wire_line stage)) (gate_line stage)) (clocked_line stage) in
      let after = looked_up (meant all (gate_declarations stages next)) (wire_name number) in
      elim (cases_eq stage.number number) [
        | inl same ↦ ap (λ b. entry_if b (NetEntry scalar false) after) (equal-same (wire_name stage.number) (wire_name number) (ap wire_name same))
        | inr other ↦
            let later : after ≡ Some (NetEntry scalar false) =
            wires-found (from + 1) number stages next (above from stage.number number numbered.0 low other) (omega (arith, high)) numbered.1 in
            either (same_name (wire_name stage.number) (wire_name number)) later
      ]
    where
      above : (from here number : ℕ) → here ≡ from → from ≤ number → (here ≡ number → ⊥) → from + 1 ≤ number
      above from here number e low other = grind arith

      either : (b : Bool) → {o : Option ScopeEntry} → o ≡ Some (NetEntry scalar false) → entry_if b (NetEntry scalar false) o ≡ Some (NetEntry scalar false)
      either true e = refl
      either false e = e

pub scope-knows : (stages : List Stage) → Numbered 0 stages → Knows (soak_scope stages) (length stages)
scope-knows stages numbered =
    let all = all_declarations stages in
    record {
      clock = refl;
      register = λ number low. registers-found all 0 number stages at_registers (gate_declarations stages (at_gates stages)) (omega arith) (omega (arith, low)) numbered;
      wire = λ number low.
          registers-passed all 119 (decimal number) refl stages at_registers (gate_declarations stages (at_gates stages))
          ∙ wires-found all 0 number stages (at_gates stages) (omega arith) (omega (arith, low)) numbered;
    }
