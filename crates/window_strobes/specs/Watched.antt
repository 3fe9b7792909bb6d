-- The watched bits of a plan (nothing of the language).
use Rattle.std.proofs.Common.{ℕ, zero, suc, ◌<◌, List, [], ◌∷◌, length, map, get_or, arith}
use Rattle.vf_base.specs.Base.{WatchedBit}
use Rattle.vf_base.specs.Lists.{AllHold}
use Rattle.v_design.specs.Designs.{FlatDesign, FlatObject, width_in}

-- a watched bit is of an object of the design
abbrev pub IsObjectOf : FlatDesign → WatchedBit → Type 0
IsObjectOf design watched = watched.object < length design.objects

object-there : (objects : List FlatObject) (object bit : ℕ) → bit < get_or (map (λ (o : FlatObject). o.width) objects) object 0 → object < length objects
object-there [] object bit h = absurd (omega (arith, h))
object-there (o ∷ objects) zero bit h = omega arith
object-there (o ∷ objects) (suc object) bit h = let r : object < length objects = object-there objects object bit h in omega (arith, r)

-- bits of a design are of its objects
pub objects-watched : (design : FlatDesign) (watched : List WatchedBit) → AllHold (λ (w : WatchedBit). w.bit < width_in design w.object) watched → AllHold (IsObjectOf design) watched
objects-watched design [] h = tt
objects-watched design (w ∷ watched) h = (object-there design.objects w.object w.bit h.0, objects-watched design watched h.1)
