-- The changes of a phase as tables over the objects (net classes as in the definition of a phase's accesses).
use Rattle.std.specs.Prelude.{◌≡◌, ℕ, ◌<◌, true, ◌&&◌, List, [], filter, length, get_or, min, sum_by, nat_lt, Vec}
use Rattle.std.specs.declared.alloc.Global.{Global}
use Rattle.vf_base.specs.declared.ids.ObjectId.{ObjectId}
use Rattle.vf_base.specs.Lists.{has}
use Rattle.v_design.specs.Designs.{FlatDesign}
use Rattle.v_design.specs.Paths.{paths, net_pieces, is_wild}
use Rattle.net_graph.specs.Tables.{weighted, object_lists}

-- how often each object is among some changes: with these numbers each sum over the changes comes out, cut at 2, and each object that changed has one
pub record CountChanges (changes counts : List ℕ) : Type 0 where
  pub sums : (f : ℕ → ℕ) → min 2 (weighted f 0 counts) ≡ min 2 (sum_by f changes)
  pub seen : (object : ℕ) → has changes object ≡ true → 0 < get_or counts object 0

-- for each object the paths from all changes to it, told apart up to 2
abbrev pub AreTotals : FlatDesign → List ℕ → List ℕ → Type 0
AreTotals design changes totals = (object : ℕ) → object < length totals → min 2 (get_or totals object 0) ≡ min 2 (sum_by (λ changed. paths design changed object) changes)

-- the wild net pieces that an object's change settles
abbrev pub settled_nets : FlatDesign → List ℕ → ℕ → List ℕ
settled_nets design changes object = filter (λ net. is_wild design changes net && nat_lt 0 (paths design object net)) (net_pieces design)

-- the wild net pieces of each object that changed
abbrev pub AreSettled : FlatDesign → List ℕ → List (Vec ObjectId Global) → Type 0
AreSettled design changes lists = (object : ℕ) → has changes object ≡ true → get_or (object_lists lists) object [] ≡ settled_nets design changes object

-- no path leads from an object to one of some net pieces
abbrev pub ReachesNone : FlatDesign → ℕ → List ℕ → Type 0
ReachesNone design from nets = (net : ℕ) → has nets net ≡ true → 0 < paths design from net → ⊥
