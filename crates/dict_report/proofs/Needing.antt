-- The first fault of a list that needs a strobe.
use Rattle.std.proofs.Common.{◌≡◌, ℕ, zero, suc, List, [], ◌∷◌, Bool, true, false, map, refl, ap, ◌∙◌}
use Rattle.std.specs.Prelude.{Option, Some, option_map, slice_get, find, cond}
use Rattle.std.specs.List.{zip}
use Rattle.v_design.specs.Designs.{StuckAt}
use Rattle.pick_laws.specs.Kept.{needs}
use Rattle.vf_pick.specs.Texts.{fault_needing}

-- it is printed, stands in the list, and needs the strobe
pub record FirstNeeding (times : StuckAt → List ℕ) (kept : List ℕ) (strobe : ℕ) (faults : List StuckAt) : Type 0 where
  pub fault : StuckAt
  pub printed : fault_needing kept strobe faults (map times faults) ≡ Some fault
  pub place : ℕ
  pub listed : slice_get faults place ≡ Some fault
  pub needing : needs kept strobe (times fault) ≡ true

some-fault : (one other : StuckAt) → Some one ≡ Some other → one ≡ other
some-fault one other e = cc

abbrev needing_if : Bool → StuckAt → List ℕ → List ℕ → ℕ → List StuckAt → List (List ℕ) → Option StuckAt
needing_if b fault own kept strobe faults hard =
    option_map (λ (pair : StuckAt × List ℕ). pair.0) (cond b (Some (fault, own)) (find (λ (pair : StuckAt × List ℕ). needs kept strobe pair.1) (zip faults hard)))

-- where some fault needs the strobe
pub first-needing : (times : StuckAt → List ℕ) (kept : List ℕ) (strobe : ℕ) (faults : List StuckAt) (place : ℕ) (fault : StuckAt) → slice_get faults place ≡ Some fault →
    needs kept strobe (times fault) ≡ true → FirstNeeding times kept strobe faults
first-needing times kept strobe [] place fault e n = cc
first-needing times kept strobe (head ∷ faults) zero fault e n =
    let here : needs kept strobe (times head) ≡ true = ap (λ f. needs kept strobe (times f)) (some-fault head fault e) ∙ n in
    record { fault = head; printed = ap (λ b. needing_if b head (times head) kept strobe faults (map times faults)) here; place = 0; listed = refl; needing = here }
first-needing times kept strobe (head ∷ faults) (suc place) fault e n = go (needs kept strobe (times head)) refl (first-needing times kept strobe faults place fault e n)
  where
    go : (b : Bool) → needs kept strobe (times head) ≡ b → FirstNeeding times kept strobe faults → FirstNeeding times kept strobe (head ∷ faults)
    go true here rest = record { fault = head; printed = ap (λ b. needing_if b head (times head) kept strobe faults (map times faults)) here; place = 0; listed = refl; needing = here }
    go false here rest = record {
      fault = rest.fault;
      printed = ap (λ b. needing_if b head (times head) kept strobe faults (map times faults)) here ∙ rest.printed;
      place = suc rest.place;
      listed = rest.listed;
      needing = rest.needing;
    }
