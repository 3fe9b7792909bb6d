-- Going through the words of a memory (IEEE 1364-2001, clause 3.10).
use Rattle.std.proofs.Common.{◌≡◌, ℕ, zero, suc, ◌+◌, ◌-◌, ◌≤◌, List, [], ◌∷◌, ◌++◌, map, sym, ap, ◌∙◌, append_assoc, arith}
use Rattle.std.proofs.lemmas.List.{map_push}
use Rattle.v_design.specs.Expressions.{up_from}
use Rattle.v_elab.specs.Parts.{WalkedMemory}
use Rattle.v_elab.specs.Objects.{HeldObject, word_object}

up-push : (start count : ℕ) → up_from start (suc count) ≡ up_from start count ++ (start + count) ∷ []
up-push start zero = let at : start ≡ start + 0 = omega arith in ap (λ n. n ∷ []) at
up-push start (suc count) = let at : (start + 1) + count ≡ start + suc count = omega arith in ap (λ l. start ∷ l) (up-push (start + 1) count ∙ ap (λ n. up_from (start + 1) count ++ n ∷ []) at)

-- one word more
pub words-more : (memory : WalkedMemory) (first address : ℕ) (start words more : List HeldObject) (word : HeldObject) → first ≤ address →
    words ≡ start ++ map (word_object memory) (up_from first (address - first)) → more ≡ words ++ word ∷ [] →
    word ≡ word_object memory address → more ≡ start ++ map (word_object memory) (up_from first (address + 1 - first))
words-more memory first address start words more word low had pushed is =
    let next : address + 1 - first ≡ suc (address - first) = omega arith in
    let at : first + (address - first) ≡ address = omega arith in
    let so_far = map (word_object memory) (up_from first (address - first)) in
    pushed ∙ (ap (λ l. l ++ word ∷ []) had ∙ (append_assoc start so_far (word ∷ []) ∙ ap (λ l. start ++ l) (ap (λ w. so_far ++ w ∷ []) is
    ∙ (sym (map_push (word_object memory) (up_from first (address - first)) address) ∙ ap (map (word_object memory))
    (ap (λ n. up_from first (address - first) ++ n ∷ []) (sym at) ∙ (sym (up-push first (address - first)) ∙ ap (up_from first) (sym next)))))))
