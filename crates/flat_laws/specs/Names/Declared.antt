-- What a module declares stands in one of its items, and each part of an item of an instance that a walk comes to stands among all parts (IEEE 1364-2001, clause 12.1 and clause 12.5).
use Rattle.std.proofs.Common.{◌≡◌, ℕ, zero, suc, ◌+◌, Bool, true, false, List, [], ◌∷◌, ◌++◌, map, Some, Result, Ok, refl, sym, ap, ◌∙◌, arith}
use Rattle.std.specs.Prelude.{slice_get, flat_map}
use Rattle.std.proofs.lemmas.Grind.{flat_map-append}
use Rattle.std.proofs.lemmas.List.Folds.{flat_map-map}
use Rattle.v_tree.specs.Trees.{Identifier, SourceItem, ParameterItem, PortItem, WireItem, RegItem, IntegerItem, AssignItem, GateItem, InstanceItem, InitialItem, AlwaysItem, SourceHeads, PlainHeads}
use Rattle.v_tree.specs.Trees.{DeclaredHeads, SourceModule, same_name}
use Rattle.v_names.specs.Faults.{Fault}
use Rattle.v_names.specs.Scopes.{ScopeEntry, Scope, looked_up, entry_if}
use Rattle.v_names.specs.Readings.{is_empty}
use Rattle.v_names.specs.Names.{Declaration, parameter_declarations, item_declarations, head_declarations, declarations_of, of_name, joined_declaration, first_of_name, first_declarations}
use Rattle.v_names.specs.Names.{names_declared, GivenParameter, meaning_of, meanings, scope_after, parameter_count, scope_of, names}
use Rattle.v_elab.specs.declared.Mode.{Mode}
use Rattle.v_elab.specs.ItemFaults.{item_faults}
use Rattle.v_elab.specs.Refusals.{as_refusal, then_go}
use Rattle.v_elab.specs.Parts.{Part}
use Rattle.v_elab.specs.Walk.{Entered, Here, item_parts, checked_item, added, head_items, walked_item, walked_module, walked, walked_from}
use Rattle.flat_laws.specs.Lists.{same_some}
use Rattle.flat_laws.specs.Made.{then_go-ok}
use Rattle.flat_laws.specs.Hierarchy.Given.{equal-name}
use Rattle.flat_laws.specs.Blocks.Named.{at-flat_map}
use Rattle.flat_laws.specs.Hierarchy.Walks.{items_of, IsOf, checked_item-ok, as_refusal-ok, added-ok}
use Rattle.flat_laws.specs.Hierarchy.Visits.{IsVisited}
use Rattle.flat_laws.specs.Hierarchy.Visited.{Grows, grows-then, walked-grows, module-at, visited-walked}

-- Declarations

heads-declared : (heads : SourceHeads) → flat_map item_declarations (head_items heads) ≡ head_declarations heads
heads-declared (PlainHeads names) = refl
heads-declared (DeclaredHeads groups) = flat_map-map item_declarations PortItem groups

-- a module declares what its items declare
pub items-declare : (m : SourceModule) → flat_map item_declarations (items_of m) ≡ declarations_of m
items-declare m =
    flat_map-append item_declarations (map ParameterItem m.parameters) (head_items m.heads ++ m.items)
    ∙ ap (λ l. l ++ flat_map item_declarations (head_items m.heads ++ m.items)) (flat_map-map item_declarations ParameterItem m.parameters)
    ∙ ap (λ l. flat_map parameter_declarations m.parameters ++ l)
    (flat_map-append item_declarations (head_items m.heads) m.items ∙ ap (λ l. l ++ flat_map item_declarations m.items) (heads-declared m.heads))

-- a declaration stands in an item
pub declaration-item : (m : SourceModule) (k : ℕ) (d : Declaration) → slice_get (declarations_of m) k ≡ Some d →
    (item : SourceItem) × IsOf m item × ((j : ℕ) × (slice_get (item_declarations item) j ≡ Some d))
declaration-item m k d at =
    let r = at-flat_map item_declarations (items_of m) k d (ap (λ l. slice_get l k) (items-declare m) ∙ at) in (r.1, (r.0, r.3), (r.2, r.4))

-- a declared name is that of a declaration, with what a second one adds
pub first-of : (all earlier rest : List Declaration) (k : ℕ) (d : Declaration) → slice_get (first_declarations all earlier rest) k ≡ Some d →
    (j : ℕ) × (own : Declaration) × (slice_get rest j ≡ Some own) × (joined_declaration all own ≡ d)
first-of all earlier [] k d at = absurd (cc)
first-of all earlier (first ∷ rest) k d at = by_test (is_empty (of_name first.name earlier)) k at (λ i there. first-of all (first ∷ earlier) rest i d there)
  where
    by_test : (test : Bool) (i : ℕ) → slice_get (first_of_name test (joined_declaration all first) (first_declarations all (first ∷ earlier) rest)) i ≡ Some d →
        ((i : ℕ) → slice_get (first_declarations all (first ∷ earlier) rest) i ≡ Some d → (j : ℕ) × (own : Declaration) × (slice_get rest j ≡ Some own) × (joined_declaration all own ≡ d)) →
        (j : ℕ) × (own : Declaration) × (slice_get (first ∷ rest) j ≡ Some own) × (joined_declaration all own ≡ d)
    by_test true zero there more = (0, first, refl, same_some (joined_declaration all first) d there)
    by_test true (suc i) there more = let r = more i there in (suc r.0, r.1, r.2, r.3)
    by_test false i there more = let r = more i there in (suc r.0, r.1, r.2, r.3)

-- a name that a scope has is declared
looked-declared : (s : Scope) (given : List GivenParameter) (declarations : List Declaration) (name : Identifier) (entry : ScopeEntry) → looked_up (meanings s given declarations) name ≡ Some entry →
    (k : ℕ) × (d : Declaration) × (slice_get declarations k ≡ Some d) × (d.name ≡ name) × (meaning_of s given d.name d.declared ≡ entry)
looked-declared s given [] name entry e = absurd (cc)
looked-declared s given (d ∷ declarations) name entry e = by_test (same_name d.name name) refl e (λ h. looked-declared s given declarations name entry h)
  where
    by_test : (test : Bool) → same_name d.name name ≡ test → entry_if test (meaning_of s given d.name d.declared) (looked_up (meanings s given declarations) name) ≡ Some entry →
        (looked_up (meanings s given declarations) name ≡ Some entry → (k : ℕ) × (own : Declaration) × (slice_get declarations k ≡ Some own) × (own.name ≡ name)
        × (meaning_of s given own.name own.declared ≡ entry)) →
        (k : ℕ) × (own : Declaration) × (slice_get (d ∷ declarations) k ≡ Some own) × (own.name ≡ name) × (meaning_of s given own.name own.declared ≡ entry)
    by_test true is h more = (0, d, refl, equal-name d.name name is, same_some (meaning_of s given d.name d.declared) entry h)
    by_test false is h more = let r = more h in (suc r.0, r.1, r.2, r.3, r.4)

-- a name of a module's scope, with its declaration and the item of that
pub record IsDeclaredIn (m : SourceModule) (given : List GivenParameter) (name : Identifier) (entry : ScopeEntry) : Type 0 where
  pub declared : Declaration
  pub number : ℕ
  pub is : slice_get (names_declared m) number ≡ Some declared
  pub name_is : declared.name ≡ name
  pub means : meaning_of (scope_after (parameter_count (names_declared m)) given (names_declared m)) given declared.name declared.declared ≡ entry
  pub own : Declaration
  pub joined : joined_declaration (declarations_of m) own ≡ declared
  pub item : SourceItem
  pub of : IsOf m item
  pub place : ℕ
  pub at : slice_get (item_declarations item) place ≡ Some own

-- each name that the scope of a module has is declared in an item
pub scope-declared : (m : SourceModule) (given : List GivenParameter) (name : Identifier) (entry : ScopeEntry) → looked_up (scope_of m given) name ≡ Some entry → IsDeclaredIn m given name entry
scope-declared m given name entry e =
    let all = names_declared m in
    let rounds : parameter_count all + 1 ≡ suc (parameter_count all) = omega arith in
    let found = looked-declared (scope_after (parameter_count all) given all) given all name entry (ap (λ n. looked_up (scope_after n given all) name) (sym rounds) ∙ e) in
    let first = first-of (declarations_of m) [] (declarations_of m) found.0 found.1 found.2 in
    let item = declaration-item m first.0 first.1 first.2 in
    record { declared = found.1; number = found.0; is = found.2; name_is = found.3; means = found.4; own = first.1; joined = first.3; item = item.0; of = item.1; place = item.2.0; at = item.2.1 }

-- Items of instances that a walk comes to

at-grown : (parts result : List Part) → Grows parts result → (k : ℕ) (part : Part) → slice_get parts k ≡ Some part → slice_get result k ≡ Some part
at-grown parts result g k part at = ap (λ l. slice_get l k) (sym g.1) ∙ front parts g.0 k part at
  where
    front : (xs ys : List Part) (i : ℕ) (x : Part) → slice_get xs i ≡ Some x → slice_get (xs ++ ys) i ≡ Some x
    front [] ys i x e = absurd (cc)
    front (y ∷ xs) ys zero x e = e
    front (y ∷ xs) ys (suc i) x e = front xs ys i x e

at-added : (xs ys : List Part) (i : ℕ) (x : Part) → slice_get ys i ≡ Some x → (j : ℕ) × (slice_get (xs ++ ys) j ≡ Some x)
at-added [] ys i x e = (i, e)
at-added (y ∷ xs) ys i x e = let r = at-added xs ys i x e in (suc r.0, r.1)

-- nothing is wrong with such an item, and its parts stand among all
pub record ItemThere (here : Here) (item : SourceItem) (parts : List Part) : Type 0 where
  pub gates : ℕ
  pub faultless : item_faults here.scope item ≡ []
  pub there : (k : ℕ) (part : Part) → slice_get (item_parts here gates item) k ≡ Some part → (j : ℕ) × (slice_get parts j ≡ Some part)

-- an item that is no instance
abbrev pub IsNoInstance : SourceItem → Type 0
IsNoInstance (InstanceItem place module_name parameters instances) = ⊥
IsNoInstance _ = Unit {0}

plain-there : (here : Here) (gates : ℕ) (item : SourceItem) (before after parts : List Part) → then_go (checked_item here gates item) (added before) ≡ Ok after → Grows after parts →
    ItemThere here item parts
plain-there here gates item before after parts e g =
    let step = then_go-ok (checked_item here gates item) (added before) after e in
    let none = checked_item-ok here gates item step.0 step.1 in
    record {
      gates = gates;
      faultless = none.0;
      there = λ k part at.
          let r = at-added before step.0 k part (ap (λ l. slice_get l k) (sym none.1) ∙ at) in
          (r.0, at-grown after parts g r.0 part (ap (λ l. slice_get l r.0) (sym (added-ok before step.0 after step.2)) ∙ r.1));
    }

walked_item-there : (modules : List SourceModule) (mode : Mode) (levels : ℕ) (here : Here) (gates : ℕ) (item : SourceItem) → IsNoInstance item → (before after parts : List Part) →
    walked_item (walked modules mode levels) here gates item before ≡ Ok after →
    Grows after parts → ItemThere here item parts
walked_item-there modules mode levels here gates (InstanceItem place module_name parameters instances) no_instance before after parts e g = absurd no_instance
walked_item-there modules mode levels here gates (ParameterItem group) no_instance before after parts e g = plain-there here gates (ParameterItem group) before after parts e g
walked_item-there modules mode levels here gates (PortItem group) no_instance before after parts e g = plain-there here gates (PortItem group) before after parts e g
walked_item-there modules mode levels here gates (WireItem place signed range wires) no_instance before after parts e g =
    plain-there here gates (WireItem place signed range wires) before after parts e g
walked_item-there modules mode levels here gates (RegItem place signed range regs) no_instance before after parts e g = plain-there here gates (RegItem place signed range regs) before after parts e g
walked_item-there modules mode levels here gates (IntegerItem place regs) no_instance before after parts e g = plain-there here gates (IntegerItem place regs) before after parts e g
walked_item-there modules mode levels here gates (AssignItem place assignments) no_instance before after parts e g = plain-there here gates (AssignItem place assignments) before after parts e g
walked_item-there modules mode levels here gates (GateItem place kind all) no_instance before after parts e g = plain-there here gates (GateItem place kind all) before after parts e g
walked_item-there modules mode levels here gates (InitialItem place body) no_instance before after parts e g = plain-there here gates (InitialItem place body) before after parts e g
walked_item-there modules mode levels here gates (AlwaysItem place body) no_instance before after parts e g = plain-there here gates (AlwaysItem place body) before after parts e g

-- each item of an instance that a walk comes to
pub item-there : (modules : List SourceModule) (mode : Mode) (top : SourceModule) (parts : List Part) → walked_from modules mode top ≡ Ok parts → (instance : Entered) →
    IsVisited modules mode top instance → (scope : Scope) →
    names instance.inner instance.given ≡ Ok scope → (item : SourceItem) → IsOf instance.inner item → IsNoInstance item →
    ItemThere (record { modules = modules; mode = mode; instance = instance; scope = scope }) item parts
item-there modules mode top parts e instance visited scope named item of no_instance =
    let w = visited-walked modules mode top parts e instance visited in
    let step = then_go-ok (as_refusal (names instance.inner instance.given)) (λ s. walked_module (walked modules mode w.levels)
    (record { modules = modules; mode = mode; instance = instance; scope = s }) instance.inner w.before) w.after w.is in
    let own : step.0 ≡ scope = same_answer step.0 scope (names instance.inner instance.given) (as_refusal-ok (names instance.inner instance.given) step.0 step.1) named in
    let here : Here = record { modules = modules; mode = mode; instance = instance; scope = scope } in
    let whole : walked_module (walked modules mode w.levels) here instance.inner w.before ≡ Ok w.after =
    ap (λ s. walked_module (walked modules mode w.levels) (record { modules = modules; mode = mode; instance = instance; scope = s }) instance.inner w.before) (sym own) ∙ step.2 in
    let at = module-at (walked modules mode w.levels) (walked-grows modules mode w.levels) here instance.inner w.before w.after whole item of in
    walked_item-there modules mode w.levels here at.gates item no_instance at.before at.after parts at.is (grows-then at.after w.after parts at.grows w.grows)
  where
    same_answer : (one other : Scope) (found : Result Scope Fault) → found ≡ Ok one → found ≡ Ok other → one ≡ other
    same_answer one other found e d = cc
