-- Signals that are found by their names, and ways along what they are joined into.
use Rattle.std.proofs.Common.{◌≡◌, ℕ, zero, suc, ◌+◌, ◌<◌, ◌≤◌, Bool, true, false, List, [], ◌∷◌, ◌++◌, map, Some, None, option_map, refl, sym, ap, ◌∙◌, arith, subst}
use Rattle.std.specs.Borrow.{Bor}
use Rattle.std.specs.Str.{bytes_eq}
use Rattle.std.proofs.lemmas.List.{map_push}
use Rattle.vf_base.specs.Lists.{AllHold}
use Rattle.key_index.specs.Groups.{keyed_of, item_if, items_under, first_of, first_under}
use Rattle.key_index.specs.declared.grouped.Keyed.{Keyed}
use Rattle.v_tree.specs.Trees.{Identifier, same_name}
use Rattle.v_elab.specs.Parts as plain
use Rattle.v_elab.specs.Parts.{Joining, Part, SignalPart, MemoryPart, AssignPart, GatePart, ProcessPart, InstancePart}
use Rattle.v_elab.specs.Drivers.{signal_if, signal_named, joined_into, up_or, outermost_within}
use Rattle.elab_parts.specs.declared.signal.Signal.{Signal}
use Rattle.elab_wires.specs.SignalTables.{signal_seen, signal_borrowed, signals_listed, IsOwn}
use Rattle.elab_wires.specs.Keyed.{key-name}

-- Signals under their names

named-by : (b : Bool) (p : List ℕ × Bor Signal) (found : List (Bor Signal)) (rest : List plain.Signal) (name : List ℕ) → option_map signal_borrowed (first_of found) ≡ signal_named rest name
    → option_map signal_borrowed (first_of (item_if b p.1 found)) ≡ signal_if b (signal_seen p) (signal_named rest name)
named-by true p found rest name e = refl
named-by false p found rest name e = e

pub named-first : (ps : List (List ℕ × Bor Signal)) (name : List ℕ) → AllHold IsOwn ps → option_map signal_borrowed (first_under ps name) ≡ signal_named (map signal_seen ps) name
named-first [] name own = refl
named-first (p ∷ ps) name own =
    named-by (bytes_eq name p.0) p (items_under ps name) (map signal_seen ps) name (named-first ps name own.1)
    ∙ ap (λ b. signal_if b (signal_seen p) (signal_named (map signal_seen ps) name)) (key-name name p.0 ∙ ap (λ n. same_name n name) own.0)

-- one signal more
pub pushed-listed : (old more : List (Keyed (Bor Signal))) (k : Keyed (Bor Signal)) → more ≡ old ++ k ∷ [] → signals_listed more ≡ signals_listed old ++ signal_seen (keyed_of k) ∷ []
pushed-listed old more k e = ap signals_listed e ∙ ap (map signal_seen) (map_push keyed_of old k) ∙ map_push signal_seen (map keyed_of old) (keyed_of k)

hold-push : (ps : List (List ℕ × Bor Signal)) (p : List ℕ × Bor Signal) → AllHold IsOwn ps → IsOwn p → AllHold IsOwn (ps ++ p ∷ [])
hold-push [] p own here = (here, tt)
hold-push (q ∷ ps) p own here = (own.0, hold-push ps p own.1 here)

pub pushed-own : (old more : List (Keyed (Bor Signal))) (k : Keyed (Bor Signal)) → more ≡ old ++ k ∷ [] → AllHold IsOwn (map keyed_of old) → IsOwn (keyed_of k) → AllHold IsOwn (map keyed_of more)
pushed-own old more k e own here = subst (AllHold IsOwn) (sym (ap (map keyed_of) e ∙ map_push keyed_of old k)) (hold-push (map keyed_of old) (keyed_of k) own here)

-- Ways up

-- what is left of the way from a name
pub record WayLeft (signals : List plain.Signal) (most done : ℕ) (name now : Identifier) : Type 0 where
  pub left : ℕ
  pub together : left + done ≡ most
  pub leads : outermost_within left signals now ≡ outermost_within most signals name

pub whole-way : (signals : List plain.Signal) (most : ℕ) (name : Identifier) → WayLeft signals most 0 name name
whole-way signals most name = record { left = most; together = omega arith; leads = refl }

step-left : (signals : List plain.Signal) (most done : ℕ) (name now : Identifier) (joining : Joining) (left : ℕ) → done < most → left + done ≡ most
    → outermost_within left signals now ≡ outermost_within most signals name → joined_into (signal_named signals now) ≡ Some joining → WayLeft signals most (done + 1) name joining.into
step-left signals most done name now joining zero below t e s = absurd (omega arith)
step-left signals most done name now joining (suc left) below t e s = record { left = left; together = omega arith; leads = sym (ap (up_or (outermost_within left signals) now) s) ∙ e }

pub one-join : (signals : List plain.Signal) (most done : ℕ) (name now next : Identifier) (joining : Joining) → done < most → WayLeft signals most done name now →
    joined_into (signal_named signals now) ≡ Some joining
    → next ≡ joining.into → WayLeft signals most (done + 1) name next
one-join signals most done name now next joining below w s e = subst (WayLeft signals most (done + 1) name) (sym e) (step-left signals most done name now joining w.left below w.together w.leads s)

ends-at : (signals : List plain.Signal) (left : ℕ) (now : Identifier) → joined_into (signal_named signals now) ≡ None → outermost_within left signals now ≡ now
ends-at signals zero now e = refl
ends-at signals (suc left) now e = ap (up_or (outermost_within left signals) now) e

pub way-ends : (signals : List plain.Signal) (most done : ℕ) (name now : Identifier) → WayLeft signals most done name now → joined_into (signal_named signals now) ≡ None →
    now ≡ outermost_within most signals name
way-ends signals most done name now w e = sym (ends-at signals w.left now e) ∙ w.leads

none-left : (signals : List plain.Signal) (most done : ℕ) (name now : Identifier) (left : ℕ) → most ≤ done → left + done ≡ most → outermost_within left signals now ≡ outermost_within most signals name
    → now ≡ outermost_within most signals name
none-left signals most done name now zero past t e = e
none-left signals most done name now (suc left) past t e = absurd (omega arith)

pub way-done : (signals : List plain.Signal) (most done : ℕ) (name now : Identifier) → most ≤ done → WayLeft signals most done name now → now ≡ outermost_within most signals name
way-done signals most done name now past w = none-left signals most done name now w.left past w.together w.leads
