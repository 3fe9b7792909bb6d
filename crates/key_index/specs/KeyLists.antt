-- One key more.
use Rattle.std.proofs.Common.{◌≡◌, ℕ, ◌+◌, ◌<◌, List, [], ◌∷◌, ◌++◌, length, get_or, take, map, sym, ap, ◌∙◌, Bor}
use Rattle.std.proofs.lemmas.List.{take_more, map_push}
use Rattle.key_index.specs.Places.{keys_of}

pub keys-more : {A B : Type 0} (view : A → B) (key_of : B → List ℕ) (xs : List A) (i : ℕ) (x : A) (keys more : List (Bor (List ℕ))) (key : Bor (List ℕ)) → i < length xs → x ≡ get_or xs i x →
    keys_of keys ≡ map key_of (map view (take i xs)) → more ≡ keys ++ key ∷ [] → key.now ≡ key_of (view x) → keys_of more ≡ map key_of (map view (take (i + 1) xs))
keys-more view key_of xs i x keys more key low is had pushed one =
    let taken : map view (take (i + 1) xs) ≡ map view (take i xs) ++ view x ∷ [] =
    ap (map view) (take_more xs i x low) ∙ (map_push view (take i xs) (get_or xs i x) ∙ ap (λ y. map view (take i xs) ++ view y ∷ []) (sym is)) in
    ap keys_of pushed ∙ (map_push (λ k. k.now) keys key ∙ (ap (λ l. l ++ key.now ∷ []) had ∙ (ap (λ k. map key_of (map view (take i xs)) ++ k ∷ []) one
    ∙ (sym (map_push key_of (map view (take i xs)) (view x)) ∙ ap (map key_of) (sym taken)))))
