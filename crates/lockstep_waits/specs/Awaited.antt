-- The objects of a design on which some process may wait (event controls and `wait` by IEEE 1364-2001, clause 9.7).
use Rattle.std.specs.Prelude.{◌≡◌, ℕ, ◌<◌, Bool, false, List, length, get_or}
use Rattle.std.specs.List.{list_any}
use Rattle.vf_base.specs.Lists.{has}
use Rattle.v_design.specs.Designs.{FlatProcess, FlatDesign}
use Rattle.wait_index.specs.Waits.{waited_objects}

-- whether some process of a design may wait on an object: an event control of its text is on the object, or the condition of one of its waits names it
abbrev pub is_awaited : FlatDesign → ℕ → Bool
is_awaited design object = list_any (λ (process : FlatProcess). has (waited_objects process.body) object) design.processes

-- a flag for each object of a design: whether some process may wait on it
pub record AreAwaitedFlags (design : FlatDesign) (flags : List Bool) : Type 0 where
  pub objects : length flags ≡ length design.objects
  pub each : (object : ℕ) → object < length flags → get_or flags object false ≡ is_awaited design object
