-- Names in order, each found by its hash.
use Rattle.std.specs.Borrow.{Bor}
use Rattle.std.proofs.lemmas.List.{map-append}
use Rattle.std.proofs.lemmas.Option.{slice_get-map}
use Rattle.std.proofs.Common.{cond, map, Option, Some, None, option_map, is_some, slice_get, ◌≡◌, ℕ, ◌+◌, ◌<◌, ◌≤◌, Bool, true, false, ◌||◌, List, [], ◌∷◌, ◌++◌, drop, get_or, length, refl, sym, ap}
use Rattle.std.proofs.Common.{subst, ◌∙◌, append_assoc, append-nil}
use Rattle.v_tree.specs.Trees.{Identifier, same_name, has_name}
use Rattle.name_checks.specs.Rows.{drop-step, drop-past}
use Rattle.instance_checks.specs.declared.name_lists.Names.{Names}
use Rattle.v_names.specs.Names.{Declaration}
use Rattle.v_elab.specs.Connections.{is_open_parameter, name_if}
use Rattle.module_scope.specs.Kept.{kept}
use Rattle.instance_checks.specs.Offered.{AreNames, NamesGrow, name_seen, open_names, open_name}

-- nothing more
pub names-none : (offered : Names) → NamesGrow [] offered offered
names-none offered = record { grows = λ names are. subst (λ (list : List Identifier). AreNames list offered) (sym (append-nil names)) are }

-- some names and then some more
pub names-then : (one other : List Identifier) (a b c : Names) → NamesGrow one a b → NamesGrow other b c → NamesGrow (one ++ other) a c
names-then one other a b c g h = record { grows = λ names are. subst (λ (list : List Identifier). AreNames list c) (append_assoc names one other) (h.grows (names ++ one) (g.grows names are)) }

-- what is left of a list, behind one turn
pub names-step : {A : Type 0} (g : A → List Identifier) (h : List A → List Identifier) (xs : List A) (i : ℕ) (x : A) (old new final : Names) → ((y : A) (ys : List A) → h (y ∷ ys) ≡ g y ++ h ys) →
    i < length xs → x ≡ get_or xs i x
    → NamesGrow (g x) old new → NamesGrow (h (drop (i + 1) xs)) new final → NamesGrow (h (drop i xs)) old final
names-step {A} g h xs i x old new final c below at turn rest =
    subst (λ (list : List Identifier). NamesGrow list old final) (sym (ap h (drop-step xs i x below at) ∙ c x (drop (i + 1) xs))) (names-then (g x) (h (drop (i + 1) xs)) old new final turn rest)

-- nothing is left at the end
pub names-end : {A : Type 0} (h : List A → List Identifier) (xs : List A) (i : ℕ) (offered : Names) → h [] ≡ [] → length xs ≤ i → NamesGrow (h (drop i xs)) offered offered
names-end {A} h xs i offered none past = subst (λ (list : List Identifier). NamesGrow list offered offered) (sym (ap h (drop-past xs i past) ∙ none)) (names-none offered)

-- one name more in a list
pub has-more : (names : List Identifier) (name other : Identifier) → has_name (names ++ name ∷ []) other ≡ (same_name name other || has_name names other)
has-more [] name other = refl
has-more (n ∷ names) name other = ap (λ b. same_name n other || b) (has-more names name other) ∙ turned (same_name n other) (same_name name other) (has_name names other)
  where
    turned : (a b c : Bool) → (a || (b || c)) ≡ (b || (a || c))
    turned true true c = refl
    turned true false c = refl
    turned false b c = refl

-- a name that is put behind others, and kept
pub names-push : (name : Bor Identifier) (old new : Names) → new.order.items ≡ old.order.items ++ name ∷ [] →
    ((other : Identifier) → is_some (kept new.places other) ≡ (same_name name.now other || is_some (kept old.places other)))
    → NamesGrow (name.now ∷ []) old new
names-push name old new order places = record {
  grows = λ names are. record {
    order_is = ap (map name_seen) order ∙ map-append name_seen old.order.items (name ∷ []) ∙ ap (λ list. list ++ name.now ∷ []) are.order_is;
    found_are = λ other. places other ∙ ap (λ b. same_name name.now other || b) (are.found_are other) ∙ sym (has-more names name.now other);
  };
}

-- whether a name is kept, after one more
pub kept-more : {V : Type 0} (name other : Identifier) (value : V) (old new : Option V) → new ≡ cond (same_name name other) (Some value) old → is_some new ≡ (same_name name other || is_some old)
kept-more name other value old new e = ap is_some e ∙ by (same_name name other)
  where
    by : (b : Bool) → is_some (cond b (Some value) old) ≡ (b || is_some old)
    by true = refl
    by false = refl

-- a connection by its position
pub by-position : (names : List Identifier) (offered : Names) (position : ℕ) → AreNames names offered → option_map name_seen (slice_get offered.order.items position) ≡ slice_get names position
by-position names offered position are = sym (slice_get-map name_seen offered.order.items position) ∙ ap (λ list. slice_get list position) are.order_is

-- a connection by its name
pub by-name : (names : List Identifier) (offered : Names) (name : Identifier) → AreNames names offered → (there : Bool) → is_some (kept offered.places name) ≡ there →
    name_if (has_name names name) name ≡ name_if there name
by-name names offered name are there e = ap (λ b. name_if b name) (sym (are.found_are name) ∙ e)

-- the parameters that may be set, from one declaration on
pub open-first : (d : Declaration) (rest : List Declaration) → open_names (d ∷ rest) ≡ open_name d ++ open_names rest
open-first d rest = by (is_open_parameter d.declared) refl
  where
    by : (b : Bool) → is_open_parameter d.declared ≡ b → open_names (d ∷ rest) ≡ open_name d ++ open_names rest
    by true e = rw e refl
    by false e = rw e refl

pub open-none : (d : Declaration) → is_open_parameter d.declared ≡ false → [] ≡ open_name d
open-none d e = rw e refl

pub open-some : (d : Declaration) → is_open_parameter d.declared ≡ true → d.name ∷ [] ≡ open_name d
open-some d e = rw e refl
