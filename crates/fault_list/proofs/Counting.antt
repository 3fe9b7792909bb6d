-- The number of sites, as far as a number of 64 bits can hold it.
use Rattle.std.proofs.Common.{◌≡◌, ℕ, zero, suc, ◌+◌, ◌*◌, ◌-◌, ◌^◌, ◌<◌, ◌≤◌, ◌||◌, Bool, true, false, cond, min, List, [], ◌∷◌, ◌++◌, length, map, filter, get_or, take, take_all, IsTrue, Option}
use Rattle.std.proofs.Common.{Some, refl, ap, sym, ◌∙◌, subst, arith, length-append, ◌⊎◌, inl, inr}
use Rattle.std.specs.Prelude.{nat_eq, slice_get, sum_by}
use Rattle.std.proofs.lemmas.Bool.{or_cases, or_left, or_right, eqb-true, eq-eqb, false≢true}
use Rattle.std.proofs.lemmas.List.{length-map, take_more, map_push}
use Rattle.std.proofs.lemmas.List.Sums.{sum_by-cons, sum_by-append}
use Rattle.vf_base.specs.Lists.{joined, map_numbered, has, without_repeats, fresh_only, AllHold}
use Rattle.v_design.specs.Expressions.{up_from}
use Rattle.v_design.specs.Paths.{net_pieces}
use Rattle.v_design.specs.Designs.{FlatNode, FlatDesign, FaultSite, OutputBit, StuckAt, width_in}
use Rattle.v_design.specs.Sites.{output_sites, sites_of, faults_of}
use Rattle.v_design.specs.WellFormed.{IsAscending, IsNodeOf, KeepsRules}
use Rattle.fault_list.specs.Listed.{both}
use Rattle.fault_list.proofs.Growing.{grown}
use Rattle.fault_list.proofs.Outputs.{AllHold-has, AllHold-slice_get, AllHold-absent, net_pieces-ascending}

pub up_from-length : (start count : ℕ) → length (up_from start count) ≡ count
up_from-length start zero = refl
up_from-length start (suc count) = let rest : length (up_from (start + 1) count) ≡ count = up_from-length (start + 1) count in omega arith

-- sums stop at the greatest number
pub plain : (a b m had one new : ℕ) → had ≡ min a m → one ≡ b → new ≡ min (had + one) m → new ≡ min (a + b) m
plain a b m had one new h o n = omega arith

pub capped : (a b m had one new : ℕ) → had ≡ min a m → one ≡ min b m → new ≡ min (had + one) m → new ≡ min (a + b) m
capped a b m had one new h o n = omega arith

-- one element more
pub count-more : {A B : Type 0} (view : A → B) (f : ℕ → B → List FaultSite) (xs : List A) (i : ℕ) (x : A) (m new : ℕ) → i < length xs → x ≡ get_or xs i x →
    new ≡ min (length (joined (map_numbered f 0 (map view (take i xs)))) + length (f i (view x))) m → new ≡ min (length (joined (map_numbered f 0 (map view (take (i + 1) xs))))) m
count-more view f xs i x m new low is put =
    let all : joined (map_numbered f 0 (map view (take (i + 1) xs))) ≡ joined (map_numbered f 0 (map view (take i xs))) ++ f i (view x) =
    grown view f xs i x low ∙ ap (λ y. joined (map_numbered f 0 (map view (take i xs))) ++ f i (view y)) (sym is) in
    put ∙ ap (λ n. min n m) (sym (ap length all ∙ length-append (joined (map_numbered f 0 (map view (take i xs)))) (f i (view x))))

-- Outputs, each once

wr-length : (seen xs : List ℕ) → length (without_repeats seen xs) ≤ length xs
wr-length seen [] = omega arith
wr-length seen (x ∷ xs) =
    let rest : length (without_repeats (x ∷ seen) xs) ≤ length xs = wr-length (x ∷ seen) xs in
    elim (has seen x) as (λ b. length (fresh_only b x (without_repeats (x ∷ seen) xs)) ≤ length (x ∷ xs)) [ true ↦ omega arith | false ↦ omega arith ]

-- a list without repeats begins with a new number
wr-fresh : (seen xs : List ℕ) (x : ℕ) → without_repeats seen (x ∷ xs) ≡ x ∷ xs → (has seen x ≡ false) × (without_repeats (x ∷ seen) xs ≡ xs)
wr-fresh seen xs x e =
    elim (has seen x) as (λ b. fresh_only b x (without_repeats (x ∷ seen) xs) ≡ x ∷ xs → (b ≡ false) × (without_repeats (x ∷ seen) xs ≡ xs)) [
      | true ↦ λ h. let short : length (without_repeats (x ∷ seen) xs) ≤ length xs = wr-length (x ∷ seen) xs in let long : length (without_repeats (x ∷ seen) xs) ≡ suc (length xs) = ap length h in
          absurd (omega arith)
      | false ↦ λ h. (refl, tails h)
    ] e
  where
    tails : x ∷ without_repeats (x ∷ seen) xs ≡ x ∷ xs → without_repeats (x ∷ seen) xs ≡ xs
    tails h = cc

wr-absent : (seen xs : List ℕ) (n : ℕ) → without_repeats seen xs ≡ xs → has seen n ≡ true → has xs n ≡ false
wr-absent seen [] n e there = refl
wr-absent seen (x ∷ xs) n e there =
    let parts = wr-fresh seen xs x e in
    let rest : has xs n ≡ false = wr-absent (x ∷ seen) xs n parts.1 (or_right (nat_eq x n) (has seen n) there) in
    elim (nat_eq x n) as (λ b. nat_eq x n ≡ b → (b || has xs n) ≡ false) [
      | true ↦ λ same. let is : x ≡ n = eqb-true x n same in absurd (false≢true (sym parts.0 ∙ (ap (has seen) is ∙ there)))
      | false ↦ λ other. rest
    ] refl

-- two tests that don't hold together
sum-split : (f : ℕ → ℕ) (a b : ℕ → Bool) (ps : List ℕ) → ((p : ℕ) → a p ≡ true → b p ≡ false) → sum_by f (filter (λ p. a p || b p) ps) ≡ sum_by f (filter a ps) + sum_by f (filter b ps)
sum-split f a b [] apart = refl
sum-split f a b (p ∷ ps) apart =
    let rest : sum_by f (filter (λ q. a q || b q) ps) ≡ sum_by f (filter a ps) + sum_by f (filter b ps) = sum-split f a b ps apart in
    elim (a p) as (λ s. a p ≡ s → sum_by f (cond (s || b p) (p ∷ filter (λ q. a q || b q) ps) (filter (λ q. a q || b q) ps)) ≡ sum_by f (cond s (p ∷ filter a ps) (filter a ps)) + sum_by f
    (cond (b p) (p ∷ filter b ps) (filter b ps))) [
      | true ↦ λ e.
          let no : b p ≡ false = apart p e in
          subst (λ t. sum_by f (p ∷ filter (λ q. a q || b q) ps) ≡ sum_by f (p ∷ filter a ps) + sum_by f (cond t (p ∷ filter b ps) (filter b ps))) (sym no)
          (omega (arith, sum_by-cons f p (filter (λ q. a q || b q) ps), sum_by-cons f p (filter a ps), rest))
      | false ↦ λ e.
          elim (b p) as (λ t. sum_by f (cond t (p ∷ filter (λ q. a q || b q) ps) (filter (λ q. a q || b q) ps)) ≡ sum_by f (filter a ps) + sum_by f (cond t (p ∷ filter b ps) (filter b ps))) [
            | true ↦ omega (arith, sum_by-cons f p (filter (λ q. a q || b q) ps), sum_by-cons f p (filter b ps), rest)
            | false ↦ rest
          ]
    ] refl

filter-absent : (x : ℕ) (ps : List ℕ) → has ps x ≡ false → filter (nat_eq x) ps ≡ []
filter-absent x [] none = refl
filter-absent x (p ∷ ps) none =
    elim (nat_eq x p) as (λ b. nat_eq x p ≡ b → cond b (p ∷ filter (nat_eq x) ps) (filter (nat_eq x) ps) ≡ []) [
      | true ↦ λ e. let is : x ≡ p = eqb-true x p e in absurd (false≢true (sym none ∙ or_left (nat_eq p x) (has ps x) (eq-eqb p x (sym is))))
      | false ↦ λ e. filter-absent x ps (rest (nat_eq p x) (has ps x) none)
    ] refl
  where
    rest : (a b : Bool) → (a || b) ≡ false → b ≡ false
    rest true b h = absurd (false≢true (sym h))
    rest false b h = h

-- of ascending numbers one is one
filter-one : (x : ℕ) (ps : List ℕ) → IsAscending ps → has ps x ≡ true → filter (nat_eq x) ps ≡ x ∷ []
filter-one x [] up there = absurd (false≢true there)
filter-one x (p ∷ ps) up there =
    elim (nat_eq x p) as (λ b. nat_eq x p ≡ b → cond b (p ∷ filter (nat_eq x) ps) (filter (nat_eq x) ps) ≡ x ∷ []) [
      | true ↦ λ e.
          let is : x ≡ p = eqb-true x p e in
          ap (λ l. p ∷ l) (filter-absent x ps (subst (λ n. has ps n ≡ false) (sym is) (AllHold-absent p ps up.0))) ∙ ap (λ n. n ∷ []) (sym is)
      | false ↦ λ e. filter-one x ps up.1 (later (or_cases (nat_eq p x) (has ps x) there) e)
    ] refl
  where
    later : (nat_eq p x ≡ true) ⊎ (has ps x ≡ true) → nat_eq x p ≡ false → has ps x ≡ true
    later (inl same) other = absurd (false≢true (sym other ∙ eq-eqb x p (sym (eqb-true p x same))))
    later (inr h) other = h

-- the sum over those of ascending numbers that a list without repeats has
sum-kept : (f : ℕ → ℕ) (ps seen xs : List ℕ) → IsAscending ps → AllHold (λ x. IsTrue (has ps x)) xs → without_repeats seen xs ≡ xs → sum_by f (filter (has xs) ps) ≡ sum_by f xs
sum-kept f ps seen [] up all once = ap (sum_by f) (none ps)
  where
    none : (qs : List ℕ) → filter (has []) qs ≡ []
    none [] = refl
    none (q ∷ qs) = none qs
sum-kept f ps seen (x ∷ xs) up all once =
    let parts = wr-fresh seen xs x once in
    let absent : has xs x ≡ false = wr-absent (x ∷ seen) xs x parts.1 (or_left (nat_eq x x) (has seen x) (eq-eqb x x refl)) in
    let rest : sum_by f (filter (has xs) ps) ≡ sum_by f xs = sum-kept f ps (x ∷ seen) xs up all.1 parts.1 in
    let one : sum_by f (filter (nat_eq x) ps) ≡ f x + 0 = ap (sum_by f) (filter-one x ps up all.0) ∙ sum_by-cons f x [] in
    sum-split f (nat_eq x) (has xs) ps (λ p e. subst (λ n. has xs n ≡ false) (eqb-true x p e) absent) ∙ omega (arith, one, rest, sum_by-cons f x xs)

bits-length : (f : ℕ → ℕ → FaultSite) (width : ℕ → ℕ) (objects : List ℕ) → length (joined (map (λ object. map (f object) (up_from 0 (width object))) objects)) ≡ sum_by width objects
bits-length f width [] = refl
bits-length f width (o ∷ os) =
    length-append (map (f o) (up_from 0 (width o))) (joined (map (λ object. map (f object) (up_from 0 (width object))) os))
    ∙ omega (arith, length-map (up_from 0 (width o)) (f o), up_from-length 0 (width o), bits-length f width os, sum_by-cons width o os)

-- the output bits of a node of a design are the bits of its outputs
pub output-count : (design : FlatDesign) (k : ℕ) (node : FlatNode) → KeepsRules design → slice_get design.nodes k ≡ Some node →
    length (output_sites design k node) ≡ sum_by (width_in design) node.outputs
output-count design k node rules at =
    let kept : IsNodeOf design node = AllHold-slice_get (IsNodeOf design) design.nodes k node rules.nodes at in
    bits-length (OutputBit k) (width_in design) (filter (has node.outputs) (net_pieces design))
    ∙ sum-kept (width_in design) (net_pieces design) [] node.outputs (net_pieces-ascending design) kept.outputs_nets kept.outputs_once

-- each site has two faults
twice : (sites : List FaultSite) → length (both sites) ≡ length sites + length sites
twice [] = refl
twice (site ∷ sites) = omega (arith, twice sites)

pub all-counted : (m v o t vo s two : ℕ) (one other last : List FaultSite) → v ≡ min (length one) m → o ≡ min (length other) m → t ≡ min (length last) m → vo ≡ min (v + o) m → s ≡ min (vo + t) m →
    two ≡ min (s + s) m →
    two ≡ min (length (one ++ (other ++ last)) + length (one ++ (other ++ last))) m
all-counted m v o t vo s two one other last hv ho ht hvo hs h = omega (arith, length-append one (other ++ last), length-append other last, hv, ho, ht, hvo, hs, h)

pub faults-count : (design : FlatDesign) → length (faults_of design) ≡ length (sites_of design) + length (sites_of design)
faults-count design = twice (sites_of design)
