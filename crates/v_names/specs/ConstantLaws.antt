-- The tree of a constant that has a value is sized.
use Rattle.std.proofs.Common.{◌≡◌, ℕ, max, ◌≤◌, Bool, true, ◌&&◌, List, [], ◌∷◌, ◌++◌, map, Option, Some, None, refl, sym, ap, subst, ◌∙◌, arith}
use Rattle.std.specs.List.{list_all}
use Rattle.v_design.specs.Sized.{most_bits, IsSized}
use Rattle.v_tree.specs.Trees.{Identifier, SourceExpression, Number, Selected, Parenthesised, Prefixed, Infixed, Chosen, Concatenated, Replicated, SourceIndex, NoIndex, IndexAt, IndexRange}
use Rattle.v_tree.specs.Trees.{SourceExpressions, no_parts, more_parts, NamedPlace, named_in, named_in_index, named_in_parts}
use Rattle.v_names.specs.Scopes.{ScopeEntry, ParameterEntry, RefusedParameter, WaitingParameter, NetEntry, RegEntry, MemoryEntry, GateEntry, InstanceEntry, Scope, looked_up, is_known}
use Rattle.v_names.specs.SizedTrees.{Holders, over_objects}
use Rattle.v_names.specs.Readings.{Size, size_or_bit, tree_in, no_holders, all_known, reading_of}
use Rattle.v_names.specs.SizedLaws.{IsHeld, AreHeld, AreHeldInIndex, AreHeldInParts, and-left, and-right, reading-sound}

-- whether each of some names is a parameter with a value
abbrev pub are_known : Scope → List NamedPlace → Bool
are_known scope named = list_all (λ name. is_known (looked_up scope name)) (map (λ (n : NamedPlace). n.name) named)

pub known-left : (scope : Scope) (xs ys : List NamedPlace) → are_known scope (xs ++ ys) ≡ true → are_known scope xs ≡ true
known-left scope [] ys e = refl
known-left scope (x ∷ xs) ys e =
    let here = is_known (looked_up scope x.name) in
    ap (λ b. b && are_known scope xs) (and-left here (are_known scope (xs ++ ys)) e) ∙ known-left scope xs ys (and-right here (are_known scope (xs ++ ys)) e)

pub known-right : (scope : Scope) (xs ys : List NamedPlace) → are_known scope (xs ++ ys) ≡ true → are_known scope ys ≡ true
known-right scope [] ys e = e
known-right scope (x ∷ xs) ys e = known-right scope xs ys (and-right (is_known (looked_up scope x.name)) (are_known scope (xs ++ ys)) e)

known-held : (holders : Holders) (name : Identifier) (entry : Option ScopeEntry) → is_known entry ≡ true → IsHeld holders name entry
known-held holders name None e = tt
known-held holders name (Some (ParameterEntry value signed)) e = tt
known-held holders name (Some RefusedParameter) e = tt
known-held holders name (Some WaitingParameter) e = tt
known-held holders name (Some (NetEntry range signed)) e = absurd (let x : ⊥ = cc in x)
known-held holders name (Some (RegEntry range signed)) e = absurd (let x : ⊥ = cc in x)
known-held holders name (Some (MemoryEntry range first last signed)) e = absurd (let x : ⊥ = cc in x)
known-held holders name (Some GateEntry) e = tt
known-held holders name (Some InstanceEntry) e = tt

mutual
  -- parameters need nothing to hold them
  pub constants-held : (holders : Holders) (scope : Scope) (e : SourceExpression) → are_known scope (named_in e) ≡ true → AreHeld holders scope e
  constants-held holders scope (Number place form value) k = tt
  constants-held holders scope (Selected place name index) k =
      let here = is_known (looked_up scope name) in (
        known-held holders name (looked_up scope name) (and-left here (are_known scope (named_in_index index)) k),
        index-held holders scope index (and-right here (are_known scope (named_in_index index)) k),
      )
  constants-held holders scope (Parenthesised place inner) k = constants-held holders scope inner k
  constants-held holders scope (Prefixed place operator operand) k = constants-held holders scope operand k
  constants-held holders scope (Infixed place operator left right) k =
      (constants-held holders scope left (known-left scope (named_in left) (named_in right) k), constants-held holders scope right (known-right scope (named_in left) (named_in right) k))
  constants-held holders scope (Chosen place condition first second) k =
      let rest = known-right scope (named_in condition) (named_in first ++ named_in second) k in (
        constants-held holders scope condition (known-left scope (named_in condition) (named_in first ++ named_in second) k),
        constants-held holders scope first (known-left scope (named_in first) (named_in second) rest),
        constants-held holders scope second (known-right scope (named_in first) (named_in second) rest),
      )
  constants-held holders scope (Concatenated place parts) k = parts-held holders scope parts k
  constants-held holders scope (Replicated place count parts) k = parts-held holders scope parts (known-right scope (named_in count) (named_in_parts parts) k)

  index-held : (holders : Holders) (scope : Scope) (index : SourceIndex) → are_known scope (named_in_index index) ≡ true → AreHeldInIndex holders scope index
  index-held holders scope NoIndex k = tt
  index-held holders scope (IndexAt index) k = constants-held holders scope index k
  index-held holders scope (IndexRange from to) k = tt

  parts-held : (holders : Holders) (scope : Scope) (parts : SourceExpressions) → are_known scope (named_in_parts parts) ≡ true → AreHeldInParts holders scope parts
  parts-held holders scope no_parts k = tt
  parts-held holders scope (more_parts first rest) k =
      (constants-held holders scope first (known-left scope (named_in first) (named_in_parts rest) k), parts-held holders scope rest (known-right scope (named_in first) (named_in_parts rest) k))

-- the tree of a constant in a context of a width is sized
pub constant-sized : (scope : Scope) (e : SourceExpression) (width : ℕ) → all_known scope e ≡ true → (reading_of scope e).complete ≡ true → width ≤ most_bits
    → IsSized (over_objects no_holders (tree_in width (reading_of scope e)))
constant-sized scope e width known complete below =
    let reading = reading_of scope e in
    let h = reading-sound no_holders scope e (constants-held no_holders scope e known) complete in
    let m = h.most in
    let P : Option Size → Type 0 = λ z. IsSized (over_objects no_holders (reading.tree (max width (size_or_bit z).width) (size_or_bit z).signed)) in
    subst P (sym h.size_is) (h.gives (max width h.size.width) h.size.signed (omega arith) (omega (arith, m)) (λ s. s)).sized
