-- What the index and the counts say at the place of a strobe.
use Rattle.std.proofs.Common.{◌≡◌, ℕ, zero, suc, ◌+◌, ◌<◌, ◌≤◌, true, List, [], ◌∷◌, ◌++◌, length, get_or, take, drop, find, nat_eq, All, count_by, Some, Option, IsSome, refl, sym, ap}
use Rattle.std.proofs.Common.{subst, ◌∙◌, arith}
use Rattle.std.specs.List.{AllZip}
use Rattle.std.proofs.lemmas.Bool.{eq-eqb}
use Rattle.std.proofs.lemmas.List.{get_or-map, length-map, map_more, take_all}
use Rattle.vf_base.specs.Lists.{has, AllHold}
use Rattle.v_design.specs.WellFormed.{IsAscending}
use Rattle.strobe_detect.specs.declared.hard.Hard.{Hard}
use Rattle.pick_laws.specs.Kept.{kept_strobes}
use Rattle.pick_laws.proofs.Covers.{or-left, or-right}
use Rattle.vf_pick.specs.Faults.{lists_of, faults_with, IsFaultIndex}
use Rattle.vf_pick.specs.Picks.{StandsFor}
use Rattle.vf_pick.specs.Walks.{strobes_at}
use Rattle.vf_pick.specs.declared.picking.Picked.{Picked}
use Rattle.vf_pick.proofs.Standing.{parts-cover}
use Rattle.vf_pick.proofs.Groups.{with-within, with-enough}
use Rattle.vf_pick.proofs.Tries.{AreTried, goes-at, stays-at}
use Rattle.vf_pick.proofs.Needed.{IsKept, has_one, first-needing, is-found}

-- The faults of a strobe, as they are read from the index

pub row-within : (strobes : List ℕ) (faults index : List (List ℕ)) (i : ℕ) (group read : List ℕ) → IsFaultIndex strobes faults index → i < length strobes → group ≡ get_or index i [] →
    length read ≡ length faults →
    All (λ fault. fault < length read) group
row-within strobes faults index i group read indexed low is whole = subst (λ g. All (λ fault. fault < length read) g) (sym (is ∙ indexed.rows i low))
    (with-within faults (get_or strobes i 0) (length read) (omega (arith, whole)))

pub row-enough : (strobes : List ℕ) (faults index : List (List ℕ)) (i : ℕ) (group counts : List ℕ) → IsFaultIndex strobes faults index → i < length strobes → group ≡ get_or index i [] →
    length counts ≡ length faults →
    All (λ fault. 2 ≤ get_or counts fault 0) group → (fault : ℕ) → fault < length counts → count_by (nat_eq fault) group ≤ get_or counts fault 0
row-enough strobes faults index i group counts indexed low is whole two fault within =
    let row : group ≡ faults_with faults (get_or strobes i 0) = is ∙ indexed.rows i low in
    subst (λ g. count_by (nat_eq fault) g ≤ get_or counts fault 0) (sym row)
    (with-enough faults (get_or strobes i 0) counts whole (subst (λ g. All (λ f. 2 ≤ get_or counts f 0) g) row two) fault within)

-- One try

-- what stands before the try of the strobe at a place
pub record IsBefore (strobes : List ℕ) (faults index : List (List ℕ)) (untried i : ℕ) (group places counts : List ℕ) : Type 0 where
  pub indexed : IsFaultIndex strobes faults index
  pub next : untried ≡ i + 1
  pub low : i < length strobes
  pub ascending : IsAscending strobes
  pub ascend : AllHold IsAscending faults
  pub parts : AllHold (λ times. AllHold (λ time. has strobes time ≡ true) times) faults
  pub row : group ≡ get_or index i []
  pub had : AreTried strobes faults (take untried strobes) (drop untried strobes) places counts

module _ (strobes : List ℕ) (faults index : List (List ℕ)) (untried i : ℕ) (group places counts : List ℕ) (setting : IsBefore strobes faults index untried i group places counts) where
  tried : AreTried strobes faults (take (i + 1) strobes) (drop (i + 1) strobes) places counts
  tried = subst (λ n. AreTried strobes faults (take n strobes) (drop n strobes) places counts) setting.next setting.had

  row-is : group ≡ faults_with faults (get_or strobes i 0)
  row-is = setting.row ∙ setting.indexed.rows i setting.low

  pub row-goes : (new : List ℕ) → All (λ fault. 2 ≤ get_or counts fault 0) group → length new ≡ length counts →
      ((fault : ℕ) → fault < length counts → get_or new fault 0 + count_by (nat_eq fault) group ≡ get_or counts fault 0) →
      AreTried strobes faults (take i strobes) (drop i strobes) places new
  row-goes new two same taken =
      goes-at strobes faults i places counts new setting.low setting.ascending setting.ascend (parts-cover strobes faults setting.parts) tried
      (subst (λ g. All (λ fault. 2 ≤ get_or counts fault 0) g) row-is two) same
      (λ fault within. subst (λ g. get_or new fault 0 + count_by (nat_eq fault) g ≡ get_or counts fault 0) row-is (taken fault within))

  pub row-stays : (more : List ℕ) → (All (λ fault. 2 ≤ get_or counts fault 0) group → ⊥) → more ≡ places ++ i ∷ [] → AreTried strobes faults (take i strobes) (drop i strobes) more counts
  row-stays more needed pushed =
      stays-at strobes faults i places counts more setting.low setting.ascending setting.ascend tried
      (λ two. needed (subst (λ g. All (λ fault. 2 ≤ get_or counts fault 0) g) (sym row-is) two)) pushed

-- One picked strobe

pub row-found : (strobes : List ℕ) (faults index : List (List ℕ)) (counts : List ℕ) (i : ℕ) (group : List ℕ) (found : Option ℕ) → IsKept strobes faults counts (get_or strobes i 0) →
    IsFaultIndex strobes faults index → i < length strobes →
    group ≡ get_or index i [] → found ≡ find (has_one counts) group → IsSome found
row-found strobes faults index counts i group found kept indexed low is e = is-found strobes faults counts (get_or strobes i 0) kept found (e ∙ ap (find (has_one counts)) (is ∙ indexed.rows i low))

pub row-needing : (strobes : List ℕ) (hard : List Hard) (index : List (List ℕ)) (counts : List ℕ) (i : ℕ) (group : List ℕ) (fault : ℕ) →
    IsKept strobes (lists_of hard) counts (get_or strobes i 0) → IsFaultIndex strobes (lists_of hard) index →
    i < length strobes → group ≡ get_or index i [] → Some fault ≡ find (has_one counts) group → fault < length hard
row-needing strobes hard index counts i group fault kept indexed low is e =
    let f = first-needing strobes hard counts (get_or strobes i 0) fault kept.counted kept.stands (sym (e ∙ ap (find (has_one counts)) (is ∙ indexed.rows i low))) in
    let at : fault ≡ 0 + f.place = f.at in
    let within : f.place < length hard = f.low in
    omega arith

pub row-stands : (strobes : List ℕ) (hard : List Hard) (index : List (List ℕ)) (counts : List ℕ) (i : ℕ) (group : List ℕ) (fault : ℕ) (one : Hard) (picked : Picked) →
    IsKept strobes (lists_of hard) counts (get_or strobes i 0) →
    IsFaultIndex strobes (lists_of hard) index → i < length strobes → group ≡ get_or index i [] →
    Some fault ≡ find (has_one counts) group → one ≡ get_or hard fault one → picked.time ≡ get_or strobes i 0 → picked.fault ≡ one.fault →
    StandsFor hard (kept_strobes (lists_of hard) strobes) (get_or strobes i 0) picked
row-stands strobes hard index counts i group fault one picked kept indexed low is e read time told =
    let f = first-needing strobes hard counts (get_or strobes i 0) fault kept.counted kept.stands (sym (e ∙ ap (find (has_one counts)) (is ∙ indexed.rows i low))) in
    let at : fault ≡ 0 + f.place = f.at in
    let same : fault ≡ f.place = omega arith in
    let is_one : one ≡ f.one = read ∙ (ap (λ k. get_or hard k one) same ∙ f.there one) in
    (time, (f.one, f.first, told ∙ ap (λ (o : Hard). o.fault) is_one))

-- All picked strobes

has-nth : (xs : List ℕ) (i : ℕ) → i < length xs → has xs (get_or xs i 0) ≡ true
has-nth [] i low = absurd (omega arith)
has-nth (x ∷ xs) zero low = or-left (nat_eq x x) (has xs x) (eq-eqb x x refl)
has-nth (x ∷ xs) (suc i) low = or-right (nat_eq x (get_or xs i 0)) (has xs (get_or xs i 0)) (has-nth xs i (omega arith))

-- the strobe at a kept place is kept
pub stands-at : (strobes places kept : List ℕ) (i : ℕ) → i < length places → strobes_at strobes places ≡ kept → has kept (get_or strobes (get_or places i 0) 0) ≡ true
stands-at strobes places kept i low is =
    let long = length-map places (λ place. get_or strobes place 0) in
    let there : has (strobes_at strobes places) (get_or (strobes_at strobes places) i 0) ≡ true = has-nth (strobes_at strobes places) i (omega (arith, long, low)) in
    ap (λ xs. has xs (get_or strobes (get_or places i 0) 0)) (sym is) ∙ (ap (has (strobes_at strobes places)) (sym (get_or-map (λ place. get_or strobes place 0) places i 0 0 low)) ∙ there)

zip-push : {A B : Type 0} (R : A → B → Type 0) (xs : List A) (ys : List B) (x : A) (y : B) → AllZip R xs ys → R x y → AllZip R (xs ++ x ∷ []) (ys ++ y ∷ [])
zip-push R [] [] x y h r = (r, h)
zip-push R [] (b ∷ ys) x y h r = absurd h
zip-push R (a ∷ xs) [] x y h r = absurd h
zip-push R (a ∷ xs) (b ∷ ys) x y h r = (h.0, zip-push R xs ys x y h.1 r)

pub picked-more : (R : ℕ → Picked → Type 0) (strobes places : List ℕ) (i : ℕ) (had new : List Picked) (one : Picked) → i < length places →
    AllZip R (strobes_at strobes (take i places)) had → new ≡ had ++ one ∷ [] →
    R (get_or strobes (get_or places i 0) 0) one → AllZip R (strobes_at strobes (take (i + 1) places)) new
picked-more R strobes places i had new one low all pushed here =
    subst (λ ps. AllZip R (strobes_at strobes (take (i + 1) places)) ps) (sym pushed)
    (subst (λ xs. AllZip R xs (had ++ one ∷ [])) (sym (map_more (λ place. get_or strobes place 0) places i 0 low))
    (zip-push R (strobes_at strobes (take i places)) had (get_or strobes (get_or places i 0) 0) one all here))

pub picked-all : (R : ℕ → Picked → Type 0) (strobes places kept : List ℕ) (i : ℕ) (picked : List Picked) → length places ≤ i → AllZip R (strobes_at strobes (take i places)) picked →
    strobes_at strobes places ≡ kept → AllZip R kept picked
picked-all R strobes places kept i picked low all is = subst (λ xs. AllZip R xs picked) (ap (strobes_at strobes) (take_all i places low) ∙ is) all
