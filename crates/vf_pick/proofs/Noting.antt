-- Noting the hard strobes of one fault after the other.
use Rattle.std.proofs.Common.{◌≡◌, ℕ, ◌+◌, ◌<◌, ◌≤◌, List, [], ◌∷◌, ◌++◌, length, get_or, take, drop, map, nat_eq, sym, ap, ◌∙◌}
use Rattle.std.specs.List.{position_or_len}
use Rattle.std.proofs.lemmas.List.{append_assoc, append-nil, map_more, drop_more, drop_all}
use Rattle.v_design.specs.WellFormed.{IsAscending}
use Rattle.strobe_detect.specs.declared.hard.Hard.{Hard}
use Rattle.window_index.specs.declared.occurrence.Occurrence.{Occurrence}
use Rattle.vf_pick.specs.Faults.{lists_of}
use Rattle.vf_pick.specs.Occurrences.{occurrence_of, occurrences_from}
use Rattle.vf_pick.proofs.Places.{place-is}

-- one hard strobe more
pub noted-more : (strobes times : List ℕ) (fault i number : ℕ) (old had new : List Occurrence) → i < length times → IsAscending strobes → number < length strobes →
    get_or strobes number 0 ≡ get_or times i 0 →
    had ≡ old ++ map (occurrence_of strobes fault) (take i times) → new ≡ had ++ record { number = number; moment = fault } ∷ [] → new ≡ old ++ map (occurrence_of strobes fault) (take (i + 1) times)
noted-more strobes times fault i number old had new low ascending within at had_is pushed =
    let o : Occurrence = record { number = number; moment = fault } in
    let place : position_or_len (nat_eq (get_or times i 0)) strobes ≡ number = place-is strobes (get_or times i 0) number ascending within at in
    let is : occurrence_of strobes fault (get_or times i 0) ≡ o = ap one place in
    pushed ∙ (ap (λ os. os ++ o ∷ []) had_is ∙ (append_assoc old (map (occurrence_of strobes fault) (take i times)) (o ∷ [])
    ∙ ap (λ os. old ++ os) (ap (λ x. map (occurrence_of strobes fault) (take i times) ++ x ∷ []) (sym is) ∙ sym (map_more (occurrence_of strobes fault) times i 0 low))))
  where
    one : ℕ → Occurrence
    one n = record { number = n; moment = fault }

-- one fault more
pub indexed-more : (strobes : List ℕ) (hard : List Hard) (i : ℕ) (d : Hard) (had new all : List Occurrence) → i < length hard → had ++ occurrences_from strobes i (lists_of (drop i hard)) ≡ all →
    new ≡ had ++ map (occurrence_of strobes i) (get_or hard i d).times → new ++ occurrences_from strobes (i + 1) (lists_of (drop (i + 1) hard)) ≡ all
indexed-more strobes hard i d had new all low had_is noted =
    ap (λ os. os ++ occurrences_from strobes (i + 1) (lists_of (drop (i + 1) hard))) noted
    ∙ (append_assoc had (map (occurrence_of strobes i) (get_or hard i d).times) (occurrences_from strobes (i + 1) (lists_of (drop (i + 1) hard)))
    ∙ (ap (λ fs. had ++ occurrences_from strobes i (lists_of fs)) (sym (drop_more hard i d low)) ∙ had_is))

pub indexed-all : (strobes : List ℕ) (hard : List Hard) (i : ℕ) (had all : List Occurrence) → length hard ≤ i → had ++ occurrences_from strobes i (lists_of (drop i hard)) ≡ all → had ≡ all
indexed-all strobes hard i had all low had_is = sym (append-nil had) ∙ (ap (λ fs. had ++ occurrences_from strobes i (lists_of fs)) (sym (drop_all i hard low)) ∙ had_is)

-- the counts of one fault more
pub counted-more : (hard : List Hard) (i : ℕ) (one : Hard) (had new : List ℕ) (count : ℕ) → i < length hard → one ≡ get_or hard i one →
    had ≡ map (λ (other : Hard). length other.times) (take i hard) → new ≡ had ++ count ∷ [] → count ≡ length one.times →
    new ≡ map (λ (other : Hard). length other.times) (take (i + 1) hard)
counted-more hard i one had new count low is had_is pushed counts =
    pushed ∙ (ap (λ xs. xs ++ count ∷ []) had_is ∙ (ap (λ n. map (λ (other : Hard). length other.times) (take i hard) ++ n ∷ []) (counts ∙ ap (λ (other : Hard). length other.times) is)
    ∙ sym (map_more (λ (other : Hard). length other.times) hard i one low)))
