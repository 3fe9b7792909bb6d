-- The modules and items of a spelled unit each have tokens of their own among those of the unit (IEEE 1364-2001, annexes A.1.3 and A.1.5).
use Rattle.std.proofs.Common.{◌≡◌, ℕ, zero, suc, ◌≤◌, List, [], ◌∷◌, ◌++◌, map, Some, sym, ap, subst, arith}
use Rattle.std.specs.Prelude.{slice_get}
use Rattle.vf_base.specs.Lists.{AllHold}
use Rattle.v_tree.specs.Tokens.{SourceToken}
use Rattle.v_tree.specs.Trees.{SourceItem, ParameterItem, PortItem, SourceHeads, PlainHeads, DeclaredHeads, SourceParameters, SourcePorts, SourceModule, SourceUnit}
use Rattle.v_readers.specs.declared.class.Class.TheVariants as classes
use Rattle.v_readers.specs.Classes.{token_of, name_token}
use Rattle.v_parse.specs.Spelling.{SpellsEach, SpellsItem, SpellsModule, SpellsUnit}
use Rattle.v_parse.specs.Heights.{greatest, item_height, module_height, unit_height}
use Rattle.v_elab.specs.Walk.{head_items}
use Rattle.graph_order.specs.ListLaws.{AllHold-slice_get}
use Rattle.flat_laws.specs.Lists.{same_some, AllHold-from}
use Rattle.flat_laws.specs.Numbered.{AllHold-append, AllHold-map, AllHold-all}
use Rattle.flat_laws.specs.Hierarchy.Walks.{items_of, IsOf}
use Rattle.source_laws.specs.InOrder.{StandsIn, all-stand, front-stands, back-stands, stand-trans}

-- Elements one behind the other

-- a spelled element has tokens of its own
pub record HasPart {A : Type 0} (L : A → List SourceToken → Type 0) (x : A) (ts : List SourceToken) : Type 0 where
  pub part : List SourceToken
  pub spelled : L x part
  pub stands : StandsIn part ts

each-part : {A : Type 0} (L : A → List SourceToken → Type 0) (xs : List A) (ts : List SourceToken) → SpellsEach L xs ts → (i : ℕ) (x : A) → slice_get xs i ≡ Some x → HasPart L x ts
each-part L [] ts h i x at = absurd (cc)
each-part L (y ∷ xs) ts h zero x at = record {
  part = h.0;
  spelled = subst (λ z. L z h.0) (same_some y x at) h.2;
  stands = subst (StandsIn h.0) (sym h.4) (front-stands h.0 h.0 h.1 (all-stand h.0));
}
each-part L (y ∷ xs) ts h (suc i) x at =
    let r = each-part L xs h.1 h.3 i x at in
    record { part = r.part; spelled = r.spelled; stands = subst (StandsIn r.part) (sym h.4) (back-stands r.part h.0 h.1 r.stands) }

greatest-at : {A : Type 0} (height : A → ℕ) (xs : List A) (i : ℕ) (x : A) → slice_get xs i ≡ Some x → height x ≤ greatest height xs
greatest-at height [] i x at = absurd (cc)
greatest-at height (y ∷ xs) zero x at = omega (arith, ap height (same_some y x at))
greatest-at height (y ∷ xs) (suc i) x at = omega (arith, greatest-at height xs i x at)

-- Modules and items

-- the tokens of a module of a unit
pub unit-module : (u : SourceUnit) (tokens : List SourceToken) → SpellsUnit u tokens → (i : ℕ) (m : SourceModule) → slice_get u.modules i ≡ Some m → HasPart SpellsModule m tokens
unit-module u tokens spelled i m at = each-part SpellsModule u.modules tokens spelled i m at

module _ (P : SourceItem → Type 0) (of_parameters : (group : SourceParameters) → P (ParameterItem group)) (of_ports : (group : SourcePorts) → P (PortItem group)) where
  heads-hold : (heads : SourceHeads) → AllHold P (head_items heads)
  heads-hold (PlainHeads names) = tt
  heads-hold (DeclaredHeads groups) = AllHold-map P PortItem groups (AllHold-all (λ group. P (PortItem group)) groups of_ports)

  module-items : (m : SourceModule) (ts : List SourceToken) → SpellsModule m ts →
      ((item : SourceItem) (part : List SourceToken) → SpellsItem item part → StandsIn part ts → item_height item ≤ greatest item_height m.items → P item) → AllHold P (items_of m)
  module-items m ts h each =
      let end = token_of classes.EndModule h.3 ∷ [] in
      let behind = token_of classes.Semicolon h.2 ∷ (h.6 ++ end) in
      let front = token_of classes.Module h.1 ∷ name_token m.name m.place ∷ [] in
      let inside : StandsIn h.6 ts =
      subst (StandsIn h.6) (sym h.10)
      (back-stands h.6 front (h.4 ++ (h.5 ++ behind)) (back-stands h.6 h.4 (h.5 ++ behind)
      (back-stands h.6 h.5 behind (back-stands h.6 (token_of classes.Semicolon h.2 ∷ []) (h.6 ++ end) (front-stands h.6 h.6 end (all-stand h.6)))))) in
      AllHold-append P (map ParameterItem m.parameters) (head_items m.heads ++ m.items) (AllHold-map P ParameterItem m.parameters
      (AllHold-all (λ group. P (ParameterItem group)) m.parameters of_parameters))
      (AllHold-append P (head_items m.heads) m.items (heads-hold m.heads) (AllHold-from P m.items (λ i item at.
      let r = each-part SpellsItem m.items h.6 h.9 i item at in
      each item r.part r.spelled (stand-trans r.part h.6 ts r.stands inside) (greatest-at item_height m.items i item at))))

  -- what each item keeps that is spelled among the tokens, each item of a module of the unit keeps
  pub unit-items : (u : SourceUnit) (tokens : List SourceToken) → SpellsUnit u tokens → ((item : SourceItem) (part : List SourceToken) → SpellsItem item part → StandsIn part tokens →
      item_height item ≤ unit_height u → P item) →
      (i : ℕ) (m : SourceModule) → slice_get u.modules i ≡ Some m → (item : SourceItem) → IsOf m item → P item
  unit-items u tokens spelled each i m at item of =
      let r = unit-module u tokens spelled i m at in
      let most = greatest-at module_height u.modules i m at in
      AllHold-slice_get P (items_of m) of.0 item
      (module-items m r.part r.spelled (λ item part h stands low. each item part h (stand-trans part r.part tokens stands r.stands) (omega (arith, low, most)))) of.1
