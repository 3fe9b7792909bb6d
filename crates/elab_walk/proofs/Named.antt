-- Modules by their names.
use Rattle.std.proofs.Common.{◌≡◌, ℕ, ◌+◌, ◌<◌, ◌≤◌, Bool, true, false, not, cond, List, [], ◌∷◌, Option, Some, None, option_map, is_some, map, filter, drop, get_or, length, refl, sym, ap, ◌∙◌}
use Rattle.std.specs.Borrow.{Bor}
use Rattle.name_checks.specs.Rows.{drop-step, drop-past}
use Rattle.vf_base.specs.Base.{source_place}
use Rattle.vf_base.specs.declared.ids.Place.{Place}
use Rattle.v_names.specs.Faults.{DeclaredTwice, fault_at}
use Rattle.v_names.specs.Readings.{is_empty}
use Rattle.v_tree.specs.Trees.{Identifier, SourceModule, same_name}
use Rattle.v_tree.specs.Views.{module_of}
use Rattle.v_tree.specs.declared.item.Module.{Module}
use Rattle.v_elab.specs.Refusals.{Faulty}
use Rattle.v_elab.specs.Walk.{module_if, module_named}
use Rattle.v_elab.specs.Flat.{twice_if, second_module}
use Rattle.module_scope.specs.Kept.{kept}
use Rattle.elab_walk.specs.ModuleViews.{module_seen}

-- one module more in front
put-first : (b : Bool) (m : Bor Module) (old : Option (Bor Module)) (found : Option SourceModule) → option_map module_seen old ≡ found →
    option_map module_seen (cond b (Some m) old) ≡ module_if b (module_of m.now) found
put-first true m old found e = refl
put-first false m old found e = e

pub named-first : (modules : List Module) (i : ℕ) (name key : Identifier) (m : Bor Module) (old new : Option (Bor Module)) → new ≡ cond (same_name key name) (Some m) old → key ≡ m.now.name →
    i < length modules → m.now ≡ get_or modules i m.now
    → option_map module_seen old ≡ module_named (map module_of (drop (i + 1) modules)) name
    → option_map module_seen new ≡ module_named (map module_of (drop i modules)) name
named-first modules i name key m old new is key-is below at found =
    ap (option_map module_seen) is ∙ put-first (same_name key name) m old (module_named (map module_of (drop (i + 1) modules)) name) found
    ∙ ap (λ (k : Identifier). module_if (same_name k name) (module_of m.now) (module_named (map module_of (drop (i + 1) modules)) name)) key-is
    ∙ sym (ap (λ (ms : List Module). module_named (map module_of ms) name) (drop-step modules i m.now below at))

-- whether a module of a name is among some
abbrev pub has_module : List SourceModule → Identifier → Bool
has_module earlier name = not (is_empty (filter (λ (other : SourceModule). same_name other.name name) earlier))

has-more : (m : SourceModule) (earlier : List SourceModule) (name : Identifier) → has_module (m ∷ earlier) name ≡ cond (same_name m.name name) true (has_module earlier name)
has-more m earlier name = by (same_name m.name name)
  where
    by : (b : Bool) → not (is_empty (cond b (m ∷ filter (λ (other : SourceModule). same_name other.name name) earlier) (filter (λ (other : SourceModule). same_name other.name name) earlier))) ≡ cond
        b true (has_module earlier name)
    by true = refl
    by false = refl

kept-some : {V : Type 0} (b : Bool) (value : V) (old : Option V) → is_some (cond b (Some value) old) ≡ cond b true (is_some old)
kept-some true value old = refl
kept-some false value old = refl

-- the names of the modules so far are kept, and what is left gives the answer of all
pub record AreEarlier (seen : List (List ℕ × Place)) (rest all : List SourceModule) : Type 0 where
  pub earlier : List SourceModule
  pub found : (name : Identifier) → is_some (kept seen name) ≡ has_module earlier name
  pub same : second_module earlier rest ≡ second_module [] all

pub earlier-none : (all : List SourceModule) (seen : List (List ℕ × Place)) → seen ≡ [] → AreEarlier seen all all
earlier-none all seen none = record { earlier = []; found = λ name. ap (λ (s : List (List ℕ × Place)). is_some (kept s name)) none; same = refl }

-- a module whose name none before it has
pub earlier-more : (modules : List Module) (i : ℕ) (m : Module) (old new : List (List ℕ × Place)) (all : List SourceModule) → i < length modules → m ≡ get_or modules i m →
    is_some (kept old m.name) ≡ false
    → ((name : Identifier) → kept new name ≡ cond (same_name m.name name) (Some m.place) (kept old name)) → AreEarlier old (map module_of (drop i modules)) all →
    AreEarlier new (map module_of (drop (i + 1) modules)) all
earlier-more modules i m old new all below at none put before = record {
  earlier = module_of m ∷ before.earlier;
  found = λ name. ap is_some (put name) ∙ kept-some (same_name m.name name) m.place (kept old name) ∙ ap (λ (b : Bool). cond (same_name m.name name) true b) (before.found name)
      ∙ sym (has-more (module_of m) before.earlier name);
  same = sym (ap (λ (b : Bool). twice_if b (module_of m) (second_module (module_of m ∷ before.earlier) (map module_of (drop (i + 1) modules)))) (sym (before.found m.name) ∙ none))
      ∙ sym (ap (λ (ms : List Module). second_module before.earlier (map module_of ms)) (drop-step modules i m below at)) ∙ before.same;
}

-- a module whose name one before it has
pub earlier-twice : (modules : List Module) (i : ℕ) (m : Module) (seen : List (List ℕ × Place)) (all : List SourceModule) → i < length modules → m ≡ get_or modules i m →
    is_some (kept seen m.name) ≡ true
    → AreEarlier seen (map module_of (drop i modules)) all → second_module [] all ≡ Some (Faulty (fault_at (source_place m.place) DeclaredTwice))
earlier-twice modules i m seen all below at some before =
    sym before.same ∙ ap (λ (ms : List Module). second_module before.earlier (map module_of ms)) (drop-step modules i m below at)
    ∙ ap (λ (b : Bool). twice_if b (module_of m) (second_module (module_of m ∷ before.earlier) (map module_of (drop (i + 1) modules)))) (sym (before.found m.name) ∙ some)

-- no module is left
pub earlier-end : (modules : List Module) (i : ℕ) (seen : List (List ℕ × Place)) (all : List SourceModule) → length modules ≤ i → AreEarlier seen (map module_of (drop i modules)) all →
    second_module [] all ≡ None
earlier-end modules i seen all past before = sym before.same ∙ ap (λ (ms : List Module). second_module before.earlier (map module_of ms)) (drop-past modules i past)
