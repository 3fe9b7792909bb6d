-- What names mean by the tables, and that this is what the definition says.
use Rattle.std.proofs.Common.{◌≡◌, ℕ, Bool, true, false, List, [], ◌∷◌, ◌++◌, map, Option, Some, option_map, refl, sym, ap, ap₂, ◌∙◌}
use Rattle.std.specs.Prelude.{filter, cond, flat_map}
use Rattle.std.specs.Borrow.{Bor}
use Rattle.v_design.specs.Plain.{piece_of}
use Rattle.v_design.specs.Sized.{span}
use Rattle.v_design.specs.Trees.{Piece, Vector, Memory}
use Rattle.v_design.specs.declared.tree.PieceRef.{PieceRef}
use Rattle.v_tree.specs.Trees.{Identifier, same_name}
use Rattle.v_names.specs.SizedTrees.{Holders}
use Rattle.v_elab.specs.Parts as plain
use Rattle.v_elab.specs.Parts.{Signal, Part}
use Rattle.v_elab.specs.Drivers.{signals_of, signal_named, outermost, is_unjoined}
use Rattle.v_elab.specs.Objects.{HeldObject, range_of_signal, vector_of_name, memories_of, memory_if, memory_of_name, pieces_held, joined_if, names_joined}
use Rattle.key_index.specs.Groups.{items_under, first_of, first_under}
use Rattle.elab_wires.specs.Keyed.{under-map}
use Rattle.elab_wires.specs.Held.{all_pieces, pieces-under}
use Rattle.elab_parts.specs.PartViews.{range_of, memory_of}
use Rattle.elab_parts.specs.declared.range.DeclaredRange.{DeclaredRange}
use Rattle.elab_parts.specs.declared.signal.WalkedMemory.{WalkedMemory}
use Rattle.elab_objects.specs.Found.{viewed-under}
use Rattle.object_names.specs.NameTables.{NameTables, AreNamesOf, vector_by, words_by, memory_found, memory_by, joined_as, joined_by}
use Rattle.object_names.specs.NameViews.{memory_borrowed, memory_seen, piece_seen}
use Rattle.object_names.specs.Instances.{HoldNames}
use Rattle.object_names.specs.declared.instance.InstanceNames.{InstanceNames}

-- What is found under keys

first-viewed : {A B : Type 0} (view : A → B) (xs : List A) → first_of (map view xs) ≡ option_map view (first_of xs)
first-viewed view [] = refl
first-viewed view (x ∷ xs) = refl

-- the pieces under a name
pub pieces-found : (ps : List (List ℕ × PieceRef)) (key name : List ℕ) (found : List PieceRef) → key ≡ name → found ≡ items_under ps key → map piece_of found ≡ items_under (map piece_seen ps) name
pieces-found ps key name found same under = ap (map piece_of) (under ∙ ap (items_under ps) same) ∙ sym (viewed-under piece_of ps name)

-- the memory of a name
pub memory-first : (ms : List (List ℕ × Bor WalkedMemory)) (name : List ℕ) (found : Option (Bor WalkedMemory)) → found ≡ first_under ms name →
    option_map memory_borrowed found ≡ first_under (map memory_seen ms) name
memory-first ms name found is =
    ap (option_map memory_borrowed) is ∙ (sym (first-viewed memory_borrowed (items_under ms name)) ∙ ap first_of (sym (viewed-under memory_borrowed ms name)))

-- Vectors and memories by the tables

pub vector-is : (names : NameTables) (name : Identifier) (range : DeclaredRange) (pieces : List PieceRef) → range_of range ≡ range_of_signal (signal_named names.signals name)
    → map piece_of pieces ≡ items_under names.pieces (outermost names.signals name) → let v : Vector = record { high = range.high; low = range.low; pieces = map piece_of pieces } in
    v ≡ vector_by names name
vector-is names name range pieces bounds held =
    let of_parts : (high low : ℕ) → List Piece → Vector = λ high low ps. record { high = high; low = low; pieces = ps } in
    ap₂ (λ high low. of_parts high low (map piece_of pieces)) (ap (λ r. r.high) bounds) (ap (λ r. r.low) bounds)
    ∙ ap (of_parts (range_of_signal (signal_named names.signals name)).high (range_of_signal (signal_named names.signals name)).low) held

pub memory-is : (m : WalkedMemory) (width : ℕ) (words : List ℕ) (pieces : List (Identifier × Piece)) (found : Option plain.WalkedMemory) → width ≡ span m.range.high m.range.low →
    words ≡ words_by pieces m.name
    → Some (memory_of m) ≡ found → let memory : Memory = record { first = m.first; last = m.last; width = width; words = words } in memory ≡ memory_found pieces found
memory-is m width words pieces found wide held is =
    let of_parts : ℕ → List ℕ → Memory = λ bits objects. record { first = m.first; last = m.last; width = bits; words = objects } in
    ap₂ of_parts wide held ∙ ap (memory_found pieces) is

-- The definition

vector-of : (parts : List Part) (objects : List HeldObject) (names : NameTables) (name : Identifier) → AreNamesOf parts objects names →
    vector_by names name ≡ vector_of_name (signals_of parts) objects name
vector-of parts objects names name are =
    let of_both : List Signal → List (Identifier × Piece) → Vector =
    λ signals pieces. record {
      high = (range_of_signal (signal_named signals name)).high;
      low = (range_of_signal (signal_named signals name)).low;
      pieces = items_under pieces (outermost signals name);
    } in
    let of_held : List Piece → Vector =
    λ pieces. record { high = (range_of_signal (signal_named (signals_of parts) name)).high; low = (range_of_signal (signal_named (signals_of parts) name)).low; pieces = pieces } in
    ap₂ of_both are.signals_are are.pieces_are ∙ ap of_held (pieces-under objects (outermost (signals_of parts) name))

memory-among : (objects : List HeldObject) (memories : List plain.WalkedMemory) (name : Identifier) →
    memory_found (all_pieces 0 objects) (first_of (map (λ m. m) (filter (λ m. same_name m.name name) memories))) ≡ memory_of_name objects memories name
memory-among objects [] name = refl
memory-among objects (m ∷ rest) name = by_test (same_name m.name name) (memory-among objects rest name)
  where
    by_test : (test : Bool) → memory_found (all_pieces 0 objects) (first_of (map (λ m. m) (filter (λ m. same_name m.name name) rest))) ≡ memory_of_name objects rest name →
        memory_found (all_pieces 0 objects) (first_of (map (λ m. m) (cond test (m ∷ filter (λ m. same_name m.name name) rest) (filter (λ m. same_name m.name name) rest))))
        ≡ memory_if test (record { first = m.first; last = m.last; width = span m.range.high m.range.low; words = map (λ (p : Piece). p.object) (pieces_held objects m.name) })
        (memory_of_name objects rest name)
    by_test true e =
        let of_words : List ℕ → Memory = λ words. record { first = m.first; last = m.last; width = span m.range.high m.range.low; words = words } in
        ap (λ ps. of_words (map (λ (p : Piece). p.object) ps)) (pieces-under objects m.name)
    by_test false e = e

memory-of : (parts : List Part) (objects : List HeldObject) (names : NameTables) (name : Identifier) → AreNamesOf parts objects names →
    memory_by names name ≡ memory_of_name objects (memories_of parts) name
memory-of parts objects names name are =
    ap₂ (λ pieces memories. memory_found pieces (first_under memories name)) are.pieces_are are.memories_are
    ∙ ap (λ ms. memory_found (all_pieces 0 objects) (first_of ms)) (under-map (λ m. m.name) (λ m. m) (memories_of parts) name)
    ∙ memory-among objects (memories_of parts) name

-- Names of an instance

pub instance-vector : (holders : Holders) (instance : InstanceNames) (name whole : Identifier) → HoldNames holders instance → whole ≡ instance.path.now ++ name →
    vector_by instance.names.now whole ≡ holders.vector name
instance-vector holders instance name whole hold is =
    vector-of hold.parts hold.objects instance.names.now whole hold.names_are
    ∙ ap (vector_of_name (signals_of hold.parts) hold.objects) is
    ∙ sym (ap (λ (hs : Holders). hs.vector name) hold.holders_are)

pub instance-memory : (holders : Holders) (instance : InstanceNames) (name whole : Identifier) → HoldNames holders instance → whole ≡ instance.path.now ++ name →
    memory_by instance.names.now whole ≡ holders.memory name
instance-memory holders instance name whole hold is =
    memory-of hold.parts hold.objects instance.names.now whole hold.names_are
    ∙ ap (memory_of_name hold.objects (memories_of hold.parts)) is
    ∙ sym (ap (λ (hs : Holders). hs.memory name) hold.holders_are)

-- Joined names

joined-here : (parts : List Part) (objects : List HeldObject) (names : NameTables) (signal : Signal) (test : Bool) → AreNamesOf parts objects names →
    joined_as test names signal ≡ joined_if test (signals_of parts) objects signal
joined-here parts objects names signal true are = refl
joined-here parts objects names signal false are =
    ap (λ v. record { name = signal.name; ranged = signal.range.ranged; vector = v } ∷ []) (vector-of parts objects names signal.name are)

joined-among : (parts : List Part) (objects : List HeldObject) (names : NameTables) (signals : List Signal) → AreNamesOf parts objects names →
    flat_map (joined_by names) signals ≡ flat_map (λ (s : Signal). joined_if (is_unjoined s) (signals_of parts) objects s) signals
joined-among parts objects names [] are = refl
joined-among parts objects names (signal ∷ signals) are = ap₂ (λ here rest. here ++ rest) (joined-here parts objects names signal (is_unjoined signal) are)
    (joined-among parts objects names signals are)

pub joined-are : (parts : List Part) (objects : List HeldObject) (names : NameTables) → AreNamesOf parts objects names →
    flat_map (joined_by names) (signals_of parts) ≡ names_joined (signals_of parts) objects
joined-are parts objects names are = joined-among parts objects names (signals_of parts) are
