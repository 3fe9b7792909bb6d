-- Reads of an object, as the tables of a window tell them (accesses by IEEE 1364-2001, clause 5).
use Rattle.std.specs.Prelude.{◌≡◌, ℕ, true, false, List}
use Rattle.v_design.specs.Designs.{Machine}
use Rattle.v_design.specs.Accesses.{Reading, ObjectAccess, accesses_of}
use Rattle.copy_laws.specs.Filter.{IsIn}
use Rattle.trace_window.specs.Moments.{Seen}
use Rattle.trace_window.specs.Touched.{event_touches, event_writes}

-- some of the accesses reads an object
pub record ReadsObject (accesses : List ObjectAccess) (object : ℕ) : Type 0 where
  pub access : ObjectAccess
  pub is_in : IsIn access accesses
  pub object_is : access.object ≡ object
  pub reads : access.act ≡ Reading

-- The law: an event that touches an object and doesn't write it reads it
abbrev pub TouchesTellReads : Type 0
TouchesTellReads =
    (machine : Machine) (object : ℕ) (seen : Seen) → event_touches machine object seen ≡ true → event_writes machine object seen ≡ false →
    ReadsObject (accesses_of machine 0 0 seen.before seen.event) object
