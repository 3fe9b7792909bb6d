-- Laws on copies of what is kept.
use Rattle.std.proofs.Common.{◌≡◌, ℕ, ◌<◌, ◌+◌, List, [], ◌∷◌, ◌++◌, length, get_or, take, map, refl, ap, sym, subst, ◌∙◌}
use Rattle.std.specs.List.{AllZip}
use Rattle.std.proofs.lemmas.List.{map-append, take_more}
use Rattle.std.proofs.lemmas.List.Elements.{AllZip-push}
use Rattle.process_code.specs.declared.state.ProcState.{ProcState}
use Rattle.copy_state.specs.declared.entry.Entry.{Entry}
use Rattle.copy_state.specs.Copied.{IsSameState}
use Rattle.copy_state.specs.Listed.{entry_of, numbers_of}

-- one state more
pub same-more : (items entries : List (Entry ProcState)) (i : ℕ) (x y : Entry ProcState) → i < length items → x ≡ get_or items i x →
    AllZip IsSameState (map entry_of (take i items)) (map entry_of entries) → IsSameState (entry_of x) (entry_of y) →
    AllZip IsSameState (map entry_of (take (i + 1) items)) (map entry_of (entries ++ y ∷ []))
same-more items entries i x y lt is h r =
    let first : map entry_of (take i items) ++ entry_of x ∷ [] ≡ map entry_of (take (i + 1) items) =
    sym (map-append entry_of (take i items) (x ∷ [])) ∙ ap (map entry_of) (ap (λ z. take i items ++ z ∷ []) is ∙ sym (take_more items i x lt)) in
    subst (λ l. AllZip IsSameState l (map entry_of (entries ++ y ∷ []))) first
    (subst (λ l. AllZip IsSameState (map entry_of (take i items) ++ entry_of x ∷ []) l) (sym (map-append entry_of entries (y ∷ [])))
    (AllZip-push IsSameState (map entry_of (take i items)) (map entry_of entries) (entry_of x) (entry_of y) h r))

-- the same processes
pub same-numbers : (entries copies : List (Entry ProcState)) → AllZip IsSameState (map entry_of entries) (map entry_of copies) → numbers_of copies ≡ numbers_of entries
same-numbers [] [] h = refl
same-numbers [] (copy ∷ copies) h = absurd h
same-numbers (own ∷ entries) [] h = absurd h
same-numbers (own ∷ entries) (copy ∷ copies) h = ap (λ n. n ∷ numbers_of copies) h.0.process ∙ ap (λ l. own.number ∷ l) (same-numbers entries copies h.1)
