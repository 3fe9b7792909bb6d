-- Loops over connections: what is noted, and the names that have been connected.
use Rattle.std.proofs.Common.{◌≡◌, ℕ, ◌+◌, ◌<◌, ◌≤◌, Bool, List, [], ◌∷◌, ◌++◌, map, drop, get_or, length, Option, refl, sym, ap, subst, ◌∙◌, append_assoc, append-nil}
use Rattle.v_tree.specs.Trees.{Identifier, SourceConnection, has_name}
use Rattle.v_names.specs.Faults.{Fault}
use Rattle.v_names.specs.Scopes.{Scope}
use Rattle.v_names.specs.Constants.{optional_faults}
use Rattle.v_elab.specs.ItemFaults.{size_faults}
use Rattle.v_names.specs.Names.{GivenParameter}
use Rattle.v_elab.specs.Connections.{Child, head_names, connected_name, given_fault, name_before, given_faults, port_faults, connections_faults, given_parameter, given_parameters}
use Rattle.name_checks.specs.Noted.{noted, noted_append}
use Rattle.name_checks.specs.Rows.{drop-step, drop-past}

-- the names that are known are those of a list
abbrev pub AreKnown : (Identifier → Bool) → List Identifier → Type 0
AreKnown known names = (other : Identifier) → known other ≡ has_name names other

-- parameters that an instance sets, from one on
pub record GivenLeft (scope : Scope) (order : List Identifier) (position : ℕ) (known : Identifier → Bool) (first whole : Option Fault) (rest : List SourceConnection) : Type 0 where
  pub earlier : List Identifier
  pub known_are : AreKnown known earlier
  pub left : noted first (given_faults scope order position earlier rest) ≡ whole

pub given-turn : (scope : Scope) (order : List Identifier) (position : ℕ) (known new : Identifier → Bool) (first one two whole : Option Fault) (connection : SourceConnection)
    (rest : List SourceConnection)
    → GivenLeft scope order position known first whole (connection ∷ rest)
    → ((names : List Identifier) → AreKnown known names → one ≡ noted first (given_fault names connection (connected_name order position connection.name)))
    → ((names : List Identifier) → AreKnown known names → AreKnown new (name_before (connected_name order position connection.name) names)) →
    two ≡ noted one (optional_faults (size_faults scope) connection.actual)
    → GivenLeft scope order (position + 1) new two whole rest
given-turn scope order position known new first one two whole connection rest before named known_more sized =
    let name : Option Identifier = connected_name order position connection.name in
    let a : List Fault = given_fault before.earlier connection name in
    let b : List Fault = optional_faults (size_faults scope) connection.actual in
    let r : List Fault = given_faults scope order (position + 1) (name_before name before.earlier) rest in
    record {
      earlier = name_before name before.earlier;
      known_are = known_more before.earlier before.known_are;
      left = ap (λ n. noted n r) (sized ∙ ap (λ m. noted m b) (named before.earlier before.known_are) ∙ sym (noted_append first a b)) ∙ sym (noted_append first (a ++ b) r) ∙ before.left;
    }

-- connections of ports, from one on
pub record PortsLeft (child : Child) (position : ℕ) (known : Identifier → Bool) (first whole : Option Fault) (rest : List SourceConnection) : Type 0 where
  pub earlier : List Identifier
  pub known_are : AreKnown known earlier
  pub left : noted first (connections_faults child position earlier rest) ≡ whole

pub port-turn : (child : Child) (position : ℕ) (known new : Identifier → Bool) (first more whole : Option Fault) (connection : SourceConnection) (rest : List SourceConnection)
    → PortsLeft child position known first whole (connection ∷ rest)
    → ((names : List Identifier) → AreKnown known names → more ≡ noted first (port_faults child names connection (connected_name (head_names child.inner.heads) position connection.name)))
    → ((names : List Identifier) → AreKnown known names → AreKnown new (name_before (connected_name (head_names child.inner.heads) position connection.name) names)) →
    PortsLeft child (position + 1) new more whole rest
port-turn child position known new first more whole connection rest before named known_more =
    let port : Option Identifier = connected_name (head_names child.inner.heads) position connection.name in
    let a : List Fault = port_faults child before.earlier connection port in
    let r : List Fault = connections_faults child (position + 1) (name_before port before.earlier) rest in
    record {
      earlier = name_before port before.earlier;
      known_are = known_more before.earlier before.known_are;
      left = ap (λ n. noted n r) (named before.earlier before.known_are) ∙ sym (noted_append first a r) ∙ before.left;
    }

-- a turn of a loop over connections
pub given-step : {A : Type 0} (view : A → SourceConnection) (xs : List A) (i : ℕ) (x : A) (scope : Scope) (order : List Identifier) (known new : Identifier → Bool)
    (first one two whole : Option Fault) → i < length xs → x ≡ get_or xs i x
    → GivenLeft scope order i known first whole (map view (drop i xs))
    → ((names : List Identifier) → AreKnown known names → one ≡ noted first (given_fault names (view x) (connected_name order i (view x).name)))
    → ((names : List Identifier) → AreKnown known names → AreKnown new (name_before (connected_name order i (view x).name) names)) →
    two ≡ noted one (optional_faults (size_faults scope) (view x).actual)
    → GivenLeft scope order (i + 1) new two whole (map view (drop (i + 1) xs))
given-step {A} view xs i x scope order known new first one two whole below at before named known_more sized =
    given-turn scope order i known new first one two whole (view x) (map view (drop (i + 1) xs))
    (subst (λ (ys : List A). GivenLeft scope order i known first whole (map view ys)) (drop-step xs i x below at) before) named known_more sized

pub given-end : {A : Type 0} (view : A → SourceConnection) (xs : List A) (i : ℕ) (scope : Scope) (order : List Identifier) (known : Identifier → Bool) (first whole : Option Fault) → length xs ≤ i →
    GivenLeft scope order i known first whole (map view (drop i xs)) → first ≡ whole
given-end {A} view xs i scope order known first whole past before = (subst (λ (ys : List A). GivenLeft scope order i known first whole (map view ys)) (drop-past xs i past) before).left

pub port-step : {A : Type 0} (view : A → SourceConnection) (xs : List A) (i : ℕ) (x : A) (child : Child) (known new : Identifier → Bool) (first more whole : Option Fault) → i < length xs →
    x ≡ get_or xs i x
    → PortsLeft child i known first whole (map view (drop i xs))
    → ((names : List Identifier) → AreKnown known names → more ≡ noted first (port_faults child names (view x) (connected_name (head_names child.inner.heads) i (view x).name)))
    → ((names : List Identifier) → AreKnown known names → AreKnown new (name_before (connected_name (head_names child.inner.heads) i (view x).name) names)) →
    PortsLeft child (i + 1) new more whole (map view (drop (i + 1) xs))
port-step {A} view xs i x child known new first more whole below at before named known_more =
    port-turn child i known new first more whole (view x) (map view (drop (i + 1) xs)) (subst (λ (ys : List A). PortsLeft child i known first whole (map view ys)) (drop-step xs i x below at) before)
    named known_more

pub port-end : {A : Type 0} (view : A → SourceConnection) (xs : List A) (i : ℕ) (child : Child) (known : Identifier → Bool) (first whole : Option Fault) → length xs ≤ i →
    PortsLeft child i known first whole (map view (drop i xs)) → first ≡ whole
port-end {A} view xs i child known first whole past before = (subst (λ (ys : List A). PortsLeft child i known first whole (map view ys)) (drop-past xs i past) before).left

-- parameters that are set, from one connection on
pub set-step : {A : Type 0} (view : A → SourceConnection) (xs : List A) (i : ℕ) (x : A) (scope : Scope) (order : List Identifier) (old new whole : List GivenParameter) → i < length xs →
    x ≡ get_or xs i x
    → new ≡ old ++ given_parameter scope (connected_name order i (view x).name) (view x).actual → old ++ given_parameters scope order i (map view (drop i xs)) ≡ whole →
    new ++ given_parameters scope order (i + 1) (map view (drop (i + 1) xs)) ≡ whole
set-step {A} view xs i x scope order old new whole below at turn before =
    let rest : List GivenParameter = given_parameters scope order (i + 1) (map view (drop (i + 1) xs)) in
    ap (λ list. list ++ rest) turn ∙ append_assoc old (given_parameter scope (connected_name order i (view x).name) (view x).actual) rest
    ∙ ap (λ (ys : List A). old ++ given_parameters scope order i (map view ys)) (sym (drop-step xs i x below at)) ∙ before

pub set-end : {A : Type 0} (view : A → SourceConnection) (xs : List A) (i : ℕ) (scope : Scope) (order : List Identifier) (list whole : List GivenParameter) → length xs ≤ i →
    list ++ given_parameters scope order i (map view (drop i xs)) ≡ whole → list ≡ whole
set-end {A} view xs i scope order list whole past before = sym (append-nil list) ∙ subst (λ (ys : List A). list ++ given_parameters scope order i (map view ys) ≡ whole) (drop-past xs i past) before
