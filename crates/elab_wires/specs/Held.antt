-- What names mean in objects, and what nodes write, by one pass over the objects (IEEE 1364-2001, clause 12.4 for names).
use Rattle.std.proofs.Common.{◌≡◌, ℕ, ◌+◌, Bool, true, false, List, [], ◌∷◌, ◌++◌, length, refl, sym, ap, ◌∙◌, arith, append_assoc}
use Rattle.vf_base.specs.Lists.{map_numbered, joined}
use Rattle.v_design.specs.Trees.{Piece}
use Rattle.v_tree.specs.Trees.{Identifier, same_name}
use Rattle.v_elab.specs.Objects.{HeldObject, piece_if, pieces_held}
use Rattle.v_elab.specs.Flat.{NodeOutput, output_of_object, outputs_of}
use Rattle.key_index.specs.Groups.{item_if, items_under}
use Rattle.elab_wires.specs.Keyed.{key-name}

-- Pieces by name

-- all objects as pieces, from a number on, each under the name whose bits it holds
abbrev pub all_pieces : ℕ → List HeldObject → List (Identifier × Piece)
all_pieces n [] = []
all_pieces n (held ∷ objects) = (held.holder, record { object = n; width = held.object.width }) ∷ all_pieces (n + 1) objects

pieces-under-from : (holder : Identifier) (n : ℕ) (objects : List HeldObject) →
    items_under (all_pieces n objects) holder ≡ joined (map_numbered (λ number (held : HeldObject). piece_if (same_name held.holder holder) number held) n objects)
pieces-under-from holder n [] = refl
pieces-under-from holder n (held ∷ objects) =
    let one : Piece = record { object = n; width = held.object.width } in
    ap (λ t. item_if t one (items_under (all_pieces (n + 1) objects) holder)) (key-name holder held.holder)
    ∙ by_test (same_name held.holder holder) (items_under (all_pieces (n + 1) objects) holder) _ (pieces-under-from holder (n + 1) objects)
  where
    by_test : (test : Bool) (under pieces : List Piece) → under ≡ pieces → item_if test (record { object = n; width = held.object.width }) under ≡ piece_if test n held ++ pieces
    by_test true under pieces e = ap (λ l. record { object = n; width = held.object.width } ∷ l) e
    by_test false under pieces e = e

-- the pieces that hold a name's bits
pub pieces-under : (objects : List HeldObject) (holder : Identifier) → items_under (all_pieces 0 objects) holder ≡ pieces_held objects holder
pieces-under objects holder = pieces-under-from holder 0 objects

-- Outputs of nodes

outputs-from : (number n : ℕ) (objects : List HeldObject) (held : HeldObject) →
    joined (map_numbered (λ object (h : HeldObject). output_of_object number object h.driver) n (objects ++ held ∷ []))
    ≡ joined (map_numbered (λ object (h : HeldObject). output_of_object number object h.driver) n objects) ++ output_of_object number (n + length objects) held.driver
outputs-from number n [] held =
    let at : n ≡ n + length {A = HeldObject} [] = omega arith in
    nothing-behind (output_of_object number n held.driver) ∙ ap (λ m. output_of_object number m held.driver) at
  where
    nothing-behind : (l : List NodeOutput) → l ++ [] ≡ l
    nothing-behind [] = refl
    nothing-behind (x ∷ l) = ap (λ m. x ∷ m) (nothing-behind l)
outputs-from number n (first ∷ objects) held =
    let at : (n + 1) + length objects ≡ n + length (first ∷ objects) = omega arith in
    ap (λ l. output_of_object number n first.driver ++ l) (outputs-from number (n + 1) objects held
    ∙ ap (λ m. joined (map_numbered (λ object (h : HeldObject). output_of_object number object h.driver) (n + 1) objects) ++ output_of_object number m held.driver) at)
    ∙ sym (append_assoc (output_of_object number n first.driver) (joined (map_numbered (λ object (h : HeldObject). output_of_object number object h.driver) (n + 1) objects))
    (output_of_object number (n + length (first ∷ objects)) held.driver))

-- one object more is one output more of the node that writes it
pub outputs-more : (objects : List HeldObject) (held : HeldObject) (number : ℕ) → outputs_of (objects ++ held ∷ []) number ≡ outputs_of objects number
    ++ output_of_object number (length objects) held.driver
outputs-more objects held number = outputs-from number 0 objects held ∙ ap (λ m. outputs_of objects number ++ output_of_object number m held.driver) (omega arith)
