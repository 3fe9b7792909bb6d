-- Faults by their numbers, a setup's design, and findings (nothing of the language).
use Rattle.std.proofs.Common.{◌≡◌, ℕ, ◌≤◌, List, [], ◌∷◌, map, refl, ap, sym, subst, suc, zero, arith}
use Rattle.std.specs.Prelude.{Option, Some, None, option_map}
use Rattle.std.specs.List.{Contains, cons_option}
use Rattle.vf_base.specs.Base.{fault_number}
use Rattle.vf_base.specs.declared.ids.FaultId.{FaultId}
use Rattle.vf_base.specs.declared.finding.End.{End}
use Rattle.vf_base.specs.declared.finding.Finding.{Finding}
use Rattle.v_design.specs.Designs.{FlatDesign, TestPlan}
use Rattle.v_design.specs.PlainDesigns.{design_of}
use Rattle.v_design.specs.RulesHold.{rules_hold}
use Rattle.v_design.specs.WellFormed.{KeepsRules}
use Rattle.v_design.specs.declared.plan.Design.{Design}
use Rattle.copy_laws.specs.Windows.{IsWindow}
use Rattle.good_trace.specs.Traces.{WindowKept}
use Rattle.fault_shards.specs.Cuts.{shard, ShardsCover}
use Rattle.fault_shards.specs.Found.{found_faults}
use Rattle.copy_shard.specs.Shards.{FaultKept, findings_of, places_of}

-- lists of faults that have the same numbers are the same
pub faults-one : (one other : List FaultId) → map fault_number one ≡ map fault_number other → one ≡ other
faults-one [] [] same = refl
faults-one [] (y ∷ other) same = cc
faults-one (x ∷ one) [] same = cc
faults-one (x ∷ one) (y ∷ other) same =
    let head : fault_number x ≡ fault_number y = cc in
    let tail : map fault_number one ≡ map fault_number other = cc in
    let first : x ≡ y = ap (λ (n : ℕ). let f : FaultId = record { 0 = n } in f) head in
    λ i. first i ∷ faults-one one other tail i

-- the design of a setup keeps its rules
pub keeps-rules : (design : FlatDesign) (kept : Design) → design ≡ design_of kept → KeepsRules design
keeps-rules design kept is = subst KeepsRules (sym is) (rules_hold (design_of kept) kept.rules)

-- a window has slots
pub window-more : (design : FlatDesign) (plan : TestPlan) (window shown : WindowKept) → shown ≡ window → IsWindow design plan shown.before shown.through shown.ending → window.before ≤ window.through
window-more design plan window shown same is =
    let here = subst (λ (w : WindowKept). IsWindow design plan w.before w.through w.ending) same is in
    let some = here.some in
    omega (arith, some)

-- a fault that was found is one of the shard's
cons-in : {A : Type 0} (x y : A) (xs : List A) → Contains xs y → Contains (x ∷ xs) y
cons-in x y xs c = (suc c.0, (let low = c.1 in omega (arith, low)), c.2)

here-in : {A : Type 0} (x : A) (xs : List A) → Contains (x ∷ xs) x
here-in x xs = (zero, omega arith, refl)

head-or-in : (x y : ℕ) (xs : List ℕ) → Contains (x ∷ xs) y → (P : Type 0) → (y ≡ x → P) → (Contains xs y → P) → P
head-or-in x y xs (zero, low, at) P here later = here (sym at)
head-or-in x y xs (suc k, low, at) P here later = later (k, omega (arith, low), at)

pub found-in : (faults : List FaultKept) (fault : ℕ) → Contains (found_faults (findings_of faults)) fault → Contains (places_of faults) fault
found-in [] fault c = absurd (let low = c.1 in omega (arith, low))
found-in (kept ∷ faults) fault c = go kept.end c (found-in faults fault)
  where
    go : (end : Option End) →
        Contains (found_faults (cons_option (option_map (λ (e : End). let found : Finding = record { fault = record { 0 = kept.copy.fault }; end = e } in found) end) (findings_of faults))) fault →
        (Contains (found_faults (findings_of faults)) fault → Contains (places_of faults) fault) → Contains (places_of (kept ∷ faults)) fault
    go None there rest = cons-in kept.copy.fault fault (places_of faults) (rest there)
    go (Some end) there rest =
        head-or-in kept.copy.fault fault (found_faults (findings_of faults)) there (Contains (places_of (kept ∷ faults)) fault)
        (λ same. subst (Contains (places_of (kept ∷ faults))) (sym same) (here-in kept.copy.fault (places_of faults)))
        (λ later. cons-in kept.copy.fault fault (places_of faults) (rest later))

pub found-listed : (representatives : List ℕ) (number : ℕ) (faults : List FaultKept) → ShardsCover → places_of faults ≡ shard number representatives → (fault : ℕ) →
    Contains (found_faults (findings_of faults)) fault → Contains representatives fault
found-listed representatives number faults cover are fault c =
    cover.within representatives number fault (subst (λ (l : List ℕ). Contains l fault) are (found-in faults fault c))
