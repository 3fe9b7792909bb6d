-- Lists of what is written, put together.
use Rattle.std.proofs.Common.{◌≡◌, ℕ, suc, ◌+◌, ◌<◌, Bool, true, false, cond, List, [], ◌∷◌, ◌++◌, length, get_or, take, map, filter, refl, sym, ap}
use Rattle.std.proofs.Common.{ap₂, ◌∙◌, append_assoc, append-nil, arith}
use Rattle.std.proofs.lemmas.List.{map_push, map-append, length-map, length-take-le}
use Rattle.std.proofs.lemmas.List.Elements.{filter-append}
use Rattle.v_tree.specs.Trees.{Identifier}
use Rattle.v_names.specs.Scopes.{is_reg, looked_up}
use Rattle.v_elab.specs.Parts as plain
use Rattle.v_elab.specs.Parts.{Joining, SignalPart, MemoryPart, AssignPart, GatePart, ProcessPart, InstancePart}
use Rattle.key_index.specs.Groups.{keyed_of}
use Rattle.key_index.specs.declared.grouped.Keyed.{Keyed}
use Rattle.v_elab.specs.Drivers.{outermost, signals_of, signals_written, drives_some, drive_signals, target_signals}
use Rattle.elab_parts.specs.PartViews.{drive_of, part_of}
use Rattle.elab_parts.specs.BitLaws.{drives-none, drives-bits}
use Rattle.elab_parts.specs.declared.part.Drive.{Drive}
use Rattle.elab_parts.specs.declared.part.Part.{Part}
use Rattle.elab_wires.specs.WrittenNames.{written_of, objects_written, written_by, written_from, output_into, output_names}
use Rattle.elab_wires.specs.declared.written.Written.{Written}
use Rattle.elab_wires.specs.Assigned.{variables_among}
use Rattle.elab_wires.specs.Turns.{taken-more}
use Rattle.elab_wires.specs.PartLists.{signals-append}

-- Lists that are joined

pub drives-append : (part : ℕ) (xs ys : List plain.Drive) → written_by part (drive_signals (xs ++ ys)) ≡ written_by part (drive_signals xs) ++ written_by part (drive_signals ys)
drives-append part xs ys =
    ap (λ ds. written_by part (map (λ (d : plain.Drive). d.signal) ds)) (filter-append drives_some xs ys)
    ∙ ap (written_by part) (map-append (λ (d : plain.Drive). d.signal) (filter drives_some xs) (filter drives_some ys))
    ∙ map-append (λ name. (name, part)) (drive_signals xs) (drive_signals ys)

pub variables-append : (part : ℕ) (process : plain.WalkedProcess) (xs ys : List Identifier)
    → written_by part (variables_among process (xs ++ ys)) ≡ written_by part (variables_among process xs) ++ written_by part (variables_among process ys)
variables-append part process xs ys =
    ap (λ names. written_by part (target_signals process names)) (filter-append (λ name. is_reg (looked_up process.scope name)) xs ys)
    ∙ ap (written_by part) (map-append (λ name. process.path ++ name) (filter (λ name. is_reg (looked_up process.scope name)) xs) (filter (λ name. is_reg (looked_up process.scope name)) ys))
    ∙ map-append (λ name. (name, part)) (variables_among process xs) (variables_among process ys)

pub output-append : (xs ys : List plain.Signal) → output_names (xs ++ ys) ≡ output_names xs ++ output_names ys
output-append [] ys = refl
output-append (signal ∷ xs) ys = ap (λ rest. output_into signal.joined ++ rest) (output-append xs ys) ∙ sym (append_assoc (output_into signal.joined) (output_names xs) (output_names ys))

pub outputs-append : (xs ys : List plain.Part) → output_names (signals_of (xs ++ ys)) ≡ output_names (signals_of xs) ++ output_names (signals_of ys)
outputs-append xs ys = ap output_names (signals-append xs ys) ∙ output-append (signals_of xs) (signals_of ys)

-- Parts with their numbers

written-push : (n : ℕ) (xs : List plain.Part) (y : plain.Part) → written_from n (xs ++ y ∷ []) ≡ written_from n xs ++ written_by (n + length xs) (signals_written y)
written-push n [] y = append-nil (written_by n (signals_written y)) ∙ ap (λ k. written_by k (signals_written y)) (let e : n ≡ n + 0 = omega arith in e)
written-push n (x ∷ xs) y =
    ap (λ rest. written_by n (signals_written x) ++ rest) (written-push (n + 1) xs y ∙ ap (λ k. written_from (n + 1) xs ++ written_by k (signals_written y))
    (let e : n + 1 + length xs ≡ n + suc (length xs) = omega arith in e))
    ∙ sym (append_assoc (written_by n (signals_written x)) (written_from (n + 1) xs) (written_by (n + suc (length xs)) (signals_written y)))

pub written-turn : (xs : List Part) (i : ℕ) (x : Part) (old more : List (Identifier × ℕ)) → i < length xs → x ≡ get_or xs i x → old ≡ written_from 0 (map part_of (take i xs))
    → more ≡ old ++ written_by i (signals_written (part_of x)) → more ≡ written_from 0 (map part_of (take (i + 1) xs))
written-turn xs i x old more low is had pushed =
    let long : length (map part_of (take i xs)) ≡ i = length-map (take i xs) part_of ∙ length-take-le i xs (omega arith) in
    pushed ∙ ap (λ l. l ++ written_by i (signals_written (part_of x))) had
    ∙ ap (λ k. written_from 0 (map part_of (take i xs)) ++ written_by k (signals_written (part_of x))) (let e : i ≡ 0 + length (map part_of (take i xs)) = omega (arith, long) in e)
    ∙ sym (written-push 0 (map part_of (take i xs)) (part_of x))
    ∙ ap (written_from 0) (sym (taken-more part_of xs i x low is))

-- One name more

filter-one : {A : Type 0} (p : A → Bool) (x : A) (b : Bool) → p x ≡ b → filter p (x ∷ []) ≡ cond b (x ∷ []) []
filter-one p x b e = ap (λ t. cond t (x ∷ []) []) e

pub not-variable : (process : plain.WalkedProcess) (part : ℕ) (name : Identifier) (old : List (Identifier × ℕ)) → is_reg (looked_up process.scope name) ≡ false →
    old ≡ old ++ written_by part (variables_among process (name ∷ []))
not-variable process part name old e =
    sym (append-nil old) ∙ ap (λ names. old ++ written_by part (target_signals process names)) (sym (filter-one (λ n. is_reg (looked_up process.scope n)) name false e))

pub one-variable : (process : plain.WalkedProcess) (part : ℕ) (name : Identifier) (old more : List Written) (w : Written) → is_reg (looked_up process.scope name) ≡ true →
    w.name ≡ process.path ++ name → w.part ≡ part → more ≡ old ++ w ∷ []
    → map written_of more ≡ map written_of old ++ written_by part (variables_among process (name ∷ []))
one-variable process part name old more w e at n pushed =
    ap (map written_of) pushed ∙ map_push written_of old w
    ∙ ap₂ (λ (a : Identifier) (b : ℕ). map written_of old ++ (a, b) ∷ []) at n
    ∙ ap (λ names. map written_of old ++ written_by part (target_signals process names)) (sym (filter-one (λ m. is_reg (looked_up process.scope m)) name true e))

pub no-drive : (d : Drive) (part : ℕ) (old : List (Identifier × ℕ)) → d.bits.width ≡ 0 → old ≡ old ++ written_by part (drive_signals (drive_of d ∷ []))
no-drive d part old e =
    sym (append-nil old) ∙ ap (λ ds. old ++ written_by part (map (λ (x : plain.Drive). x.signal) ds)) (sym (filter-one drives_some (drive_of d) false (drives-none d e)))

pub one-drive : (d : Drive) (part : ℕ) (old more : List Written) (w : Written) → (d.bits.width ≡ 0 → ⊥) → w.name ≡ d.signal → w.part ≡ part → more ≡ old ++ w ∷ []
    → map written_of more ≡ map written_of old ++ written_by part (drive_signals (drive_of d ∷ []))
one-drive d part old more w e at n pushed =
    ap (map written_of) pushed ∙ map_push written_of old w
    ∙ ap₂ (λ (a : Identifier) (b : ℕ). map written_of old ++ (a, b) ∷ []) at n
    ∙ ap (λ ds. map written_of old ++ written_by part (map (λ (x : plain.Drive). x.signal) ds)) (sym (filter-one drives_some (drive_of d) true (drives-bits d e)))

-- One object more

pub objects-turn : (signals : List plain.Signal) (xs : List Written) (i : ℕ) (x : Written) (old more : List (Keyed ℕ)) (k : Keyed ℕ) → i < length xs → x ≡ get_or xs i x
    → map keyed_of old ≡ objects_written signals (map written_of (take i xs)) → more ≡ old ++ k ∷ [] → k.key.now ≡ outermost signals x.name → k.item ≡ x.part
    → map keyed_of more ≡ objects_written signals (map written_of (take (i + 1) xs))
objects-turn signals xs i x old more k low is had pushed key item =
    ap (map keyed_of) pushed ∙ map_push keyed_of old k
    ∙ ap₂ (λ (l : List (Identifier × ℕ)) (p : Identifier × ℕ). l ++ p ∷ []) had (ap₂ (λ (a : Identifier) (b : ℕ). (a, b)) key item)
    ∙ sym (ap (objects_written signals) (taken-more written_of xs i x low is) ∙ map_push (λ (w : Identifier × ℕ). (outermost signals w.0, w.1)) (map written_of (take i xs)) (written_of x))
