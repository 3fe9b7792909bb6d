-- The tables of names, one memory or one object more at a time.
use Rattle.std.proofs.Common.{◌≡◌, ℕ, ◌+◌, ◌<◌, List, [], ◌∷◌, ◌++◌, length, get_or, take, map, refl, sym, ap, ap₂, ◌∙◌, arith}
use Rattle.std.specs.Prelude.{flat_map}
use Rattle.std.proofs.lemmas.Grind.{flat_map-append}
use Rattle.std.proofs.lemmas.List.{map_push, length-map, length-take-le}
use Rattle.vf_base.specs.Base.{object_number}
use Rattle.v_design.specs.Trees.{Piece}
use Rattle.v_tree.specs.Trees.{Identifier}
use Rattle.v_elab.specs.Parts.{Part, SignalPart, MemoryPart, AssignPart, GatePart, ProcessPart, InstancePart}
use Rattle.v_elab.specs.Drivers.{signals_of}
use Rattle.v_elab.specs.Objects as plain
use Rattle.v_elab.specs.Objects.{memories_of}
use Rattle.key_index.specs.Groups.{keyed_of}
use Rattle.key_index.specs.declared.grouped.Keyed.{Keyed}
use Rattle.v_design.specs.declared.tree.PieceRef.{PieceRef}
use Rattle.elab_wires.specs.Held.{all_pieces}
use Rattle.elab_wires.specs.PartLists.{signals-append}
use Rattle.elab_wires.specs.Turns.{taken-more}
use Rattle.elab_objects.specs.ObjectViews.{held_of, held_objects}
use Rattle.elab_objects.specs.declared.object.HeldObject.{HeldObject}
use Rattle.object_names.specs.NameTables.{NameTables, memory_keyed, joined_by}
use Rattle.object_names.specs.NameViews.{piece_seen, pieces_listed}

-- Lists of parts that are joined

pub memories-over : (xs ys : List Part) → map memory_keyed (memories_of (xs ++ ys)) ≡ map memory_keyed (memories_of xs) ++ map memory_keyed (memories_of ys)
memories-over [] ys = refl
memories-over (SignalPart signal ∷ xs) ys = memories-over xs ys
memories-over (MemoryPart memory ∷ xs) ys = ap (λ ms. memory_keyed memory ∷ ms) (memories-over xs ys)
memories-over (AssignPart drives value ∷ xs) ys = memories-over xs ys
memories-over (GatePart name kind drives path terminals ∷ xs) ys = memories-over xs ys
memories-over (ProcessPart process ∷ xs) ys = memories-over xs ys
memories-over (InstancePart ∷ xs) ys = memories-over xs ys

pub joined-over : (names : NameTables) (xs ys : List Part) → flat_map (joined_by names) (signals_of (xs ++ ys)) ≡ flat_map (joined_by names) (signals_of xs)
    ++ flat_map (joined_by names) (signals_of ys)
joined-over names xs ys = ap (flat_map (joined_by names)) (signals-append xs ys) ∙ flat_map-append (joined_by names) (signals_of xs) (signals_of ys)

-- Pieces

pieces-push : (n : ℕ) (objects : List plain.HeldObject) (held : plain.HeldObject) → all_pieces n (objects ++ held ∷ []) ≡ all_pieces n objects
    ++ (held.holder, record { object = n + length objects; width = held.object.width }) ∷ []
pieces-push n [] held =
    let at : n ≡ n + 0 = omega arith in
    ap (λ k. (held.holder, record { object = k; width = held.object.width }) ∷ []) at
pieces-push n (first ∷ objects) held =
    let on : n + 1 + length objects ≡ n + length (first ∷ objects) = omega arith in
    ap (λ l. (first.holder, record { object = n; width = first.object.width }) ∷ l)
    (pieces-push (n + 1) objects held ∙ ap (λ k. all_pieces (n + 1) objects ++ (held.holder, record { object = k; width = held.object.width }) ∷ []) on)

-- one object more
pub pieces-turn : (xs : List HeldObject) (i : ℕ) (x : HeldObject) (old more : List (Keyed PieceRef)) (k : Keyed PieceRef) → i < length xs → x ≡ get_or xs i x →
    pieces_listed old ≡ all_pieces 0 (held_objects (take i xs))
    → more ≡ old ++ k ∷ [] → k.key.now ≡ x.object.name → object_number k.item.object ≡ i → k.item.width ≡ x.object.width → pieces_listed more ≡ all_pieces 0 (held_objects (take (i + 1) xs))
pieces-turn xs i x old more k low is had pushed key number width =
    let long : length (held_objects (take i xs)) ≡ i = length-map (take i xs) held_of ∙ length-take-le i xs (omega arith) in
    let place : object_number k.item.object ≡ 0 + length (held_objects (take i xs)) = omega (arith, long, number) in
    let one : Identifier → ℕ → ℕ → Identifier × Piece = λ name object bits. (name, record { object = object; width = bits }) in
    ap pieces_listed pushed
    ∙ (ap (map piece_seen) (map_push keyed_of old k) ∙ map_push piece_seen (map keyed_of old) (keyed_of k))
    ∙ ap₂ (λ l p. l ++ p ∷ []) had (ap₂ (λ name object. one name object k.item.width) key place ∙ ap (one x.object.name (0 + length (held_objects (take i xs)))) width)
    ∙ sym (pieces-push 0 (held_objects (take i xs)) (held_of x))
    ∙ ap (all_pieces 0) (sym (taken-more held_of xs i x low is))
