-- The walk over the strobes, one tried strobe after the other.
use Rattle.std.proofs.Common.{◌≡◌, ℕ, ◌+◌, ◌<◌, ◌≤◌, true, false, List, [], ◌∷◌, ◌++◌, length, get_or, take, drop, reverse, nat_eq, All, count_by, refl, sym, ap, subst, ◌∙◌, inl, inr, arith}
use Rattle.std.proofs.lemmas.Bool.{false_from_ne_true}
use Rattle.std.proofs.lemmas.List.{take_more, drop_more, take_all, drop_all, take-append-drop, append-nil, reverse-append}
use Rattle.std.proofs.lemmas.List.Elements.{All-nil, All-cons}
use Rattle.vf_base.specs.Lists.{has, AllHold}
use Rattle.v_design.specs.WellFormed.{IsAscending}
use Rattle.pick_laws.specs.Kept.{covers, left_out, kept_behind}
use Rattle.pick_laws.proofs.Covers.{has-append, has-left, has-right, append-one, kept-covers, kept-in, not-in-rest}
use Rattle.vf_pick.specs.Faults.{faults_with, AreCounts}
use Rattle.vf_pick.specs.Walks.{strobes_at, AreKept}
use Rattle.vf_pick.proofs.Groups.{may-go, must-stay, counts-left}

-- Of all strobes the earlier ones weren't tried yet; of the rest those at some places are kept, the last first. The counts are of all that stand.
pub record AreTried (strobes : List ℕ) (faults : List (List ℕ)) (earlier rest places counts : List ℕ) : Type 0 where
  pub within : All (λ place. place < length strobes) (reverse places)
  pub kept : strobes_at strobes (reverse places) ≡ kept_behind faults earlier rest
  pub counted : AreCounts faults (earlier ++ kept_behind faults earlier rest) counts

module _ (faults : List (List ℕ)) (earlier : List ℕ) (s : ℕ) (rest : List ℕ) (ascending : IsAscending (earlier ++ s ∷ rest)) where
  pub not-standing : has (earlier ++ kept_behind faults (earlier ++ s ∷ []) rest) s ≡ true → ⊥
  not-standing h = not-in-rest earlier s rest ascending (elim (has-append earlier (kept_behind faults (earlier ++ s ∷ []) rest) s h) [
    | inl i ↦ has-left earlier rest s i
    | inr i ↦ has-right earlier rest s (kept-in faults (earlier ++ s ∷ []) rest s i)
  ])

  pub all-stand : covers faults (earlier ++ s ∷ rest) ≡ true → covers faults (earlier ++ s ∷ kept_behind faults (earlier ++ s ∷ []) rest) ≡ true
  all-stand all =
      ap (covers faults) (sym (append-one earlier s (kept_behind faults (earlier ++ s ∷ []) rest)))
      ∙ kept-covers faults (earlier ++ s ∷ []) rest (ap (covers faults) (append-one earlier s rest) ∙ all)

  pub counts-there : (counts : List ℕ) → AreCounts faults ((earlier ++ s ∷ []) ++ kept_behind faults (earlier ++ s ∷ []) rest) counts →
      AreCounts faults (earlier ++ s ∷ kept_behind faults (earlier ++ s ∷ []) rest) counts
  counts-there counts had = subst (λ xs. AreCounts faults xs counts) (append-one earlier s (kept_behind faults (earlier ++ s ∷ []) rest)) had

  -- a strobe that is left out
  pub goes : (strobes places counts new : List ℕ) → AllHold IsAscending faults → covers faults (earlier ++ s ∷ rest) ≡ true → AreTried strobes faults (earlier ++ s ∷ []) rest places counts →
      All (λ fault. 2 ≤ get_or counts fault 0) (faults_with faults s) → length new ≡ length counts →
      ((fault : ℕ) → fault < length counts → get_or new fault 0 + count_by (nat_eq fault) (faults_with faults s) ≡ get_or counts fault 0) → AreTried strobes faults earlier (s ∷ rest) places new
  goes strobes places counts new ascend all had two same taken =
      let there = counts-there counts had.counted in
      let go : covers faults (earlier ++ kept_behind faults (earlier ++ s ∷ []) rest) ≡ true =
      may-go faults earlier s (kept_behind faults (earlier ++ s ∷ []) rest) counts not-standing ascend (all-stand all) there two in
      let is : kept_behind faults earlier (s ∷ rest) ≡ kept_behind faults (earlier ++ s ∷ []) rest = ap (λ b. left_out b s (kept_behind faults (earlier ++ s ∷ []) rest)) go in
      record {
        within = had.within;
        kept = had.kept ∙ sym is;
        counted = subst (λ xs. AreCounts faults (earlier ++ xs) new) (sym is)
            (counts-left faults earlier s (kept_behind faults (earlier ++ s ∷ []) rest) counts new not-standing ascend there same taken);
      }

  -- a strobe that is kept
  pub stays : (strobes places counts more : List ℕ) (place : ℕ) → AllHold IsAscending faults → AreTried strobes faults (earlier ++ s ∷ []) rest places counts →
      (All (λ fault. 2 ≤ get_or counts fault 0) (faults_with faults s) → ⊥) → place < length strobes → get_or strobes place 0 ≡ s → more ≡ places ++ place ∷ [] →
      AreTried strobes faults earlier (s ∷ rest) more counts
  stays strobes places counts more place ascend had needed low at pushed =
      let there = counts-there counts had.counted in
      let stay : covers faults (earlier ++ kept_behind faults (earlier ++ s ∷ []) rest) ≡ false =
      false_from_ne_true (covers faults (earlier ++ kept_behind faults (earlier ++ s ∷ []) rest))
      (λ go. needed (must-stay faults earlier s (kept_behind faults (earlier ++ s ∷ []) rest) counts not-standing ascend there go)) in
      let is : kept_behind faults earlier (s ∷ rest) ≡ s ∷ kept_behind faults (earlier ++ s ∷ []) rest = ap (λ b. left_out b s (kept_behind faults (earlier ++ s ∷ []) rest)) stay in
      let turned : reverse more ≡ place ∷ reverse places = ap reverse pushed ∙ reverse-append places (place ∷ []) in
      record {
        within = subst (λ xs. All (λ p. p < length strobes) xs) (sym turned) (All-cons (λ p. p < length strobes) place (reverse places) low had.within);
        kept = ap (strobes_at strobes) turned ∙ (ap (λ t. t ∷ strobes_at strobes (reverse places)) at ∙ (ap (λ xs. s ∷ xs) had.kept ∙ sym is));
        counted = subst (λ xs. AreCounts faults (earlier ++ xs) counts) (sym is) there;
      }

-- The strobe at a place

split : (strobes : List ℕ) (i : ℕ) → i < length strobes → take i strobes ++ get_or strobes i 0 ∷ drop (i + 1) strobes ≡ strobes
split strobes i low = ap (λ xs. take i strobes ++ xs) (sym (drop_more strobes i 0 low)) ∙ take-append-drop i strobes

pub goes-at : (strobes : List ℕ) (faults : List (List ℕ)) (i : ℕ) (places counts new : List ℕ) → i < length strobes → IsAscending strobes → AllHold IsAscending faults →
    covers faults strobes ≡ true →
    AreTried strobes faults (take (i + 1) strobes) (drop (i + 1) strobes) places counts →
    All (λ fault. 2 ≤ get_or counts fault 0) (faults_with faults (get_or strobes i 0)) → length new ≡ length counts →
    ((fault : ℕ) → fault < length counts → get_or new fault 0 + count_by (nat_eq fault) (faults_with faults (get_or strobes i 0)) ≡ get_or counts fault 0) →
    AreTried strobes faults (take i strobes) (drop i strobes) places new
goes-at strobes faults i places counts new low ascending ascend all had two same taken =
    subst (λ xs. AreTried strobes faults (take i strobes) xs places new) (sym (drop_more strobes i 0 low))
    (goes faults (take i strobes) (get_or strobes i 0) (drop (i + 1) strobes) (subst IsAscending (sym (split strobes i low)) ascending) strobes places counts new ascend
    (ap (covers faults) (split strobes i low) ∙ all) (subst (λ xs. AreTried strobes faults xs (drop (i + 1) strobes) places counts) (take_more strobes i 0 low) had) two same taken)

pub stays-at : (strobes : List ℕ) (faults : List (List ℕ)) (i : ℕ) (places counts more : List ℕ) → i < length strobes → IsAscending strobes → AllHold IsAscending faults →
    AreTried strobes faults (take (i + 1) strobes) (drop (i + 1) strobes) places counts →
    (All (λ fault. 2 ≤ get_or counts fault 0) (faults_with faults (get_or strobes i 0)) → ⊥) → more ≡ places ++ i ∷ [] →
    AreTried strobes faults (take i strobes) (drop i strobes) more counts
stays-at strobes faults i places counts more low ascending ascend had needed pushed =
    subst (λ xs. AreTried strobes faults (take i strobes) xs more counts) (sym (drop_more strobes i 0 low))
    (stays faults (take i strobes) (get_or strobes i 0) (drop (i + 1) strobes) (subst IsAscending (sym (split strobes i low)) ascending) strobes places counts more i ascend
    (subst (λ xs. AreTried strobes faults xs (drop (i + 1) strobes) places counts) (take_more strobes i 0 low) had) needed low refl pushed)

-- before the walk
pub none-tried : (strobes : List ℕ) (faults : List (List ℕ)) (counts : List ℕ) → AreCounts faults strobes counts →
    AreTried strobes faults (take (length strobes) strobes) (drop (length strobes) strobes) [] counts
none-tried strobes faults counts counted =
    subst (λ xs. AreTried strobes faults xs (drop (length strobes) strobes) [] counts) (sym (take_all (length strobes) strobes (omega arith)))
    (subst (λ xs. AreTried strobes faults strobes xs [] counts) (sym (drop_all (length strobes) strobes (omega arith))) at-end)
  where
    at-end : AreTried strobes faults strobes [] [] counts
    at-end = record { within = All-nil (λ place. place < length strobes); kept = refl; counted = subst (λ xs. AreCounts faults xs counts) (sym (append-nil strobes)) counted }

-- and behind it
pub all-tried : (strobes : List ℕ) (faults : List (List ℕ)) (i : ℕ) (places counts turned : List ℕ) → i ≡ 0 → AreTried strobes faults (take i strobes) (drop i strobes) places counts →
    turned ≡ reverse places → AreKept strobes faults turned counts
all-tried strobes faults i places counts turned none had is =
    let end : AreTried strobes faults (take 0 strobes) (drop 0 strobes) places counts = subst (λ k. AreTried strobes faults (take k strobes) (drop k strobes) places counts) none had in
    record {
      within = subst (λ xs. All (λ place. place < length strobes) xs) (sym is) end.within;
      kept = ap (strobes_at strobes) is ∙ end.kept;
      counted = end.counted;
    }
