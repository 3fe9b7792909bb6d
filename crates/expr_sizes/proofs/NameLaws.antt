-- Words of memories and parts of vectors.
use Rattle.std.proofs.Common.{◌≡◌, ℕ, Bool, true, false, List, Option, Some, None, sym, subst, []}
use Rattle.vf_base.specs.Base.{SourcePlace}
use Rattle.v_tree.specs.Trees.{Identifier}
use Rattle.v_names.specs.Faults.{Fault}
use Rattle.v_names.specs.Scopes.{DeclaredRange, ScopeEntry, MemoryEntry, range_width}
use Rattle.v_names.specs.Readings.{Reading, alone_faults, tree_alone, sized_reading, refused_reading, indexed_reading, part_reading}
use Rattle.v_names.specs.SizedTrees.{SizedWord}
use Rattle.expr_sizes.specs.declared.reading.ExprReading.{ExprReading}
use Rattle.expr_sizes.specs.ExprReadings.{IsReading}

pub memory-read : (entry : Option ScopeEntry) (range : DeclaredRange) (first last : ℕ) (signed : Bool) (place : SourcePlace) (name : Identifier) (at : Reading) (read : ExprReading)
    → entry ≡ Some (MemoryEntry range first last signed) → IsReading (sized_reading place (range_width range) signed at.complete (alone_faults at) (λ w s. SizedWord w s name (tree_alone at))) read
    → IsReading (indexed_reading entry place name at) read
memory-read entry range first last signed place name at read e h = let P : Option ScopeEntry → Type 0 = λ x. IsReading (indexed_reading x place name at) read in subst P (sym e) h

pub no-first-bound : (ranged : Bool) (range : DeclaredRange) (place : SourcePlace) (name : Identifier) (faults : List Fault) (from to : Option ℕ) (read : ExprReading) → ranged ≡ true → from ≡ None
    → IsReading (refused_reading [] faults) read → IsReading (part_reading ranged range place name faults from to) read
no-first-bound true range place name faults None to read e f h = h
no-first-bound true range place name faults (Some n) to read e f h = absurd (let x : ⊥ = cc in x)
no-first-bound false range place name faults from to read e f h = absurd (let x : ⊥ = cc in x)

pub no-second-bound : (ranged : Bool) (range : DeclaredRange) (place : SourcePlace) (name : Identifier) (faults : List Fault) (from to : Option ℕ) (n : ℕ) (read : ExprReading) → ranged ≡ true →
    from ≡ Some n
    → to ≡ None → IsReading (refused_reading [] faults) read → IsReading (part_reading ranged range place name faults from to) read
no-second-bound true range place name faults None to n read e f g h = absurd (let x : ⊥ = cc in x)
no-second-bound true range place name faults (Some m) None n read e f g h = h
no-second-bound true range place name faults (Some m) (Some k) n read e f g h = absurd (let x : ⊥ = cc in x)
no-second-bound false range place name faults from to n read e f g h = absurd (let x : ⊥ = cc in x)
