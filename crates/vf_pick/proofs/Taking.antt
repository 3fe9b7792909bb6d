-- Taking one from the counts of some faults, one fault after the other.
use Rattle.std.proofs.Common.{◌≡◌, ℕ, ◌+◌, ◌-◌, ◌<◌, ◌≤◌, cond, List, length, get_or, set, take, nat_eq, count_by, refl, sym, subst, inl, inr, arith}
use Rattle.std.proofs.lemmas.Bool.{eq-eqb, ne_eqb, cases_eq}
use Rattle.std.proofs.lemmas.List.{get_or-set_same, get_or-set_other}
use Rattle.std.proofs.lemmas.List.Sums.{count_by_more_yes, count_by_more_no, sum_by-take-le}

-- of some faults the first ones were taken from
abbrev pub AreTaken : List ℕ → List ℕ → List ℕ → ℕ → Type 0
AreTaken old counts faults i = (fault : ℕ) → fault < length counts → get_or counts fault 0 + count_by (nat_eq fault) (take i faults) ≡ get_or old fault 0

pub enough-left : (old counts faults : List ℕ) (i : ℕ) → i < length faults → length counts ≡ length old → get_or faults i 0 < length counts → AreTaken old counts faults i →
    ((fault : ℕ) → fault < length old → count_by (nat_eq fault) faults ≤ get_or old fault 0) → 1 ≤ get_or counts (get_or faults i 0) 0
enough-left old counts faults i low same within taken enough =
    let more = count_by_more_yes (nat_eq (get_or faults i 0)) faults i 0 low (eq-eqb (get_or faults i 0) (get_or faults i 0) refl) in
    let part = sum_by-take-le (λ x. cond (nat_eq (get_or faults i 0) x) 1 0) faults (i + 1) in
    let now = taken (get_or faults i 0) within in
    let all = enough (get_or faults i 0) (omega (arith, same, within)) in
    omega (arith, more, part, now, all)

pub taken-more : (old counts faults : List ℕ) (i : ℕ) → i < length faults → get_or faults i 0 < length counts → AreTaken old counts faults i → 1 ≤ get_or counts (get_or faults i 0) 0 →
    (fault : ℕ) → fault < length counts →
    get_or (set counts (get_or faults i 0) (get_or counts (get_or faults i 0) 0 - 1)) fault 0 + count_by (nat_eq fault) (take (i + 1) faults) ≡ get_or old fault 0
taken-more old counts faults i low within taken left fault there =
    elim (cases_eq fault (get_or faults i 0)) [
      | inl same ↦
          (let more = count_by_more_yes (nat_eq (get_or faults i 0)) faults i 0 low (eq-eqb (get_or faults i 0) (get_or faults i 0) refl) in
          let now = taken (get_or faults i 0) within in
          let put = get_or-set_same counts (get_or faults i 0) (get_or counts (get_or faults i 0) 0 - 1) 0 within in
          subst (λ k. get_or (set counts (get_or faults i 0) (get_or counts (get_or faults i 0) 0 - 1)) k 0 + count_by (nat_eq k) (take (i + 1) faults) ≡ get_or old k 0) (sym same)
          (omega (arith, more, now, put, left)))
      | inr other ↦
          (let more = count_by_more_no (nat_eq fault) faults i 0 low (ne_eqb fault (get_or faults i 0) other) in
          let now = taken fault there in
          let put = get_or-set_other counts (get_or faults i 0) fault (get_or counts (get_or faults i 0) 0 - 1) 0 other in
          omega (arith, more, now, put))
    ]
