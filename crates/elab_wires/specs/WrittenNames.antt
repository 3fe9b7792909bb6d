-- What the parts of a walk write, with their numbers (nothing of the language).
use Rattle.std.specs.Prelude.{ℕ, ◌+◌, Bool, true, false, not, List, [], ◌∷◌, ◌++◌, map, Option, Some, None, nat_eq}
use Rattle.std.specs.List.{list_any}
use Rattle.v_tree.specs.Trees.{Identifier}
use Rattle.v_elab.specs.Parts.{Joining, Signal, Part}
use Rattle.v_elab.specs.Drivers.{signals_written, outermost, is_output}
use Rattle.key_index.specs.Groups.{items_under}
use Rattle.elab_wires.specs.declared.written.Written.{Written}

-- a name that a part of a number writes
abbrev pub written_of : Written → Identifier × ℕ
written_of w = (w.name, w.part)

abbrev pub written_by : ℕ → List Identifier → List (Identifier × ℕ)
written_by number names = map (λ name. (name, number)) names

-- the names that parts write, from a number on
abbrev pub written_from : ℕ → List Part → List (Identifier × ℕ)
written_from number [] = []
written_from number (part ∷ parts) = written_by number (signals_written part) ++ written_from (number + 1) parts

-- the objects that are written, each by its outermost name
abbrev pub objects_written : List Signal → List (Identifier × ℕ) → List (Identifier × ℕ)
objects_written signals written = map (λ (w : Identifier × ℕ). (outermost signals w.0, w.1)) written

abbrev pub is_other : ℕ → ℕ → Bool
is_other number n = not (nat_eq n number)

-- whether an object is written by a part other than that of a number
abbrev pub has_other_writer : List (Identifier × ℕ) → ℕ → Identifier → Bool
has_other_writer objects number object = list_any (is_other number) (items_under objects object)

-- the names that output ports are joined into
abbrev pub into_if : Bool → Identifier → List Identifier
into_if true name = name ∷ []
into_if false name = []

abbrev pub output_into : Option Joining → List Identifier
output_into None = []
output_into (Some joining) = into_if (is_output joining.direction) joining.into

abbrev pub output_names : List Signal → List Identifier
output_names [] = []
output_names (signal ∷ signals) = output_into signal.joined ++ output_names signals
