-- The items of a module that has a scope, and those of a list of them.
use Rattle.std.proofs.Common.{◌≡◌, ℕ, zero, suc, ◌<◌, List, [], ◌∷◌, ◌++◌, get_or, length, map, sym, subst, arith}
use Rattle.vf_base.specs.Lists.{AllHold}
use Rattle.v_tree.specs.Trees.{SourceModule, ParameterItem, PortItem}
use Rattle.v_tree.specs.Views.{ports_of}
use Rattle.v_tree.specs.declared.item.Ports.{Ports}
use Rattle.v_names.specs.Scopes.{Scope}
use Rattle.v_elab.specs.Walk.{head_items}
use Rattle.flat_laws.specs.Lists.{AllHold-from}
use Rattle.flat_laws.specs.Hierarchy.Walks.{items_of}
use Rattle.elab_walk.specs.Within.{IsWithin, AreWithin, HasScope}

pub holds-of : {A B : Type 0} (P : B → Type 0) (f : A → B) (xs : List A) (i : ℕ) (x : A) → AllHold P (map f xs) → i < length xs → x ≡ get_or xs i x → P (f x)
holds-of P f [] i x h below at = absurd (omega arith)
holds-of P f (y ∷ xs) zero x h below at = subst (λ z. P (f z)) (sym at) h.0
holds-of P f (y ∷ xs) (suc i) x h below at = holds-of P f xs i x h.1 (omega arith) at

-- one of the groups of ports of a head
pub ports-within : (scope : Scope) (groups : List Ports) (i : ℕ) (x : Ports) → AreWithin scope (map PortItem (map ports_of groups)) → i < length groups → x ≡ get_or groups i x →
    IsWithin scope (PortItem (ports_of x))
ports-within scope [] i x h below at = absurd (omega arith)
ports-within scope (y ∷ groups) zero x h below at = subst (λ z. IsWithin scope (PortItem (ports_of z))) (sym at) h.0
ports-within scope (y ∷ groups) (suc i) x h below at = ports-within scope groups i x h.1 (omega arith) at

holds-apart : {A : Type 0} (P : A → Type 0) (xs ys : List A) → AllHold P (xs ++ ys) → AllHold P xs × AllHold P ys
holds-apart P [] ys h = (tt, h)
holds-apart P (x ∷ xs) ys h = let rest = holds-apart P xs ys h.1 in ((h.0, rest.0), rest.1)

-- the ports of a module's head and its items
pub module-within : (m : SourceModule) (scope : Scope) → HasScope m scope → AreWithin scope (head_items m.heads) × AreWithin scope m.items
module-within m scope has =
    let all : AreWithin scope (items_of m) = AllHold-from (IsWithin scope) (items_of m) (λ i item at. record { inner = m; given = has.0; named = has.1; of = (i, at) }) in
    holds-apart (IsWithin scope) (head_items m.heads) m.items (holds-apart (IsWithin scope) (map ParameterItem m.parameters) (head_items m.heads ++ m.items) all).1
