-- What parts do, one part more at a time.
use Rattle.std.proofs.Common.{◌≡◌, ℕ, suc, ◌+◌, ◌<◌, ◌≤◌, List, [], ◌∷◌, ◌++◌, length, get_or, take, map, refl, sym, ap, ◌∙◌, append_assoc, append-nil, arith}
use Rattle.std.proofs.lemmas.List.{length-map, length-take-le}
use Rattle.vf_base.specs.Lists.{map_numbered, joined}
use Rattle.v_elab.specs.Parts as plain
use Rattle.v_elab.specs.Drivers.{Behaviour, IsNode, IsProcess, part_behaviour, nodes_of, processes_of}
use Rattle.elab_parts.specs.PartViews.{part_of}
use Rattle.elab_parts.specs.declared.part.Part.{Part}
use Rattle.elab_wires.specs.Turns.{taken-more}

-- Lists that are joined

pub nodes-append : (xs ys : List Behaviour) → nodes_of (xs ++ ys) ≡ nodes_of xs ++ nodes_of ys
nodes-append [] ys = refl
nodes-append (IsNode node ∷ xs) ys = ap (λ rest. node ∷ rest) (nodes-append xs ys)
nodes-append (IsProcess process ∷ xs) ys = nodes-append xs ys

pub processes-append : (xs ys : List Behaviour) → processes_of (xs ++ ys) ≡ processes_of xs ++ processes_of ys
processes-append [] ys = refl
processes-append (IsNode node ∷ xs) ys = processes-append xs ys
processes-append (IsProcess process ∷ xs) ys = ap (λ rest. process ∷ rest) (processes-append xs ys)

-- what the parts do, from a number on, and what one more does
behaviours-push : (f : ℕ → plain.Part → List Behaviour) (n : ℕ) (xs : List plain.Part) (y : plain.Part) → joined (map_numbered f n (xs ++ y ∷ [])) ≡ joined (map_numbered f n xs) ++ f (n + length xs) y
behaviours-push f n [] y = append-nil (f n y) ∙ ap (λ k. f k y) (let e : n ≡ n + 0 = omega arith in e)
behaviours-push f n (x ∷ xs) y =
    ap (λ rest. f n x ++ rest) (behaviours-push f (n + 1) xs y ∙ ap (λ k. joined (map_numbered f (n + 1) xs) ++ f k y) (let e : n + 1 + length xs ≡ n + suc (length xs) = omega arith in e))
    ∙ sym (append_assoc (f n x) (joined (map_numbered f (n + 1) xs)) (f (n + suc (length xs)) y))

-- what the first parts do
abbrev pub behaviours_so_far : List plain.Part → List Part → ℕ → List Behaviour
behaviours_so_far parts xs i = joined (map_numbered (part_behaviour parts) 0 (map part_of (take i xs)))

behaviours-more : (parts : List plain.Part) (xs : List Part) (i : ℕ) (x : Part) → i < length xs → x ≡ get_or xs i x →
    behaviours_so_far parts xs (i + 1) ≡ behaviours_so_far parts xs i ++ part_behaviour parts i (part_of x)
behaviours-more parts xs i x low is =
    let long : length (map part_of (take i xs)) ≡ i = length-map (take i xs) part_of ∙ length-take-le i xs (omega arith) in
    ap (λ ps. joined (map_numbered (part_behaviour parts) 0 ps)) (taken-more part_of xs i x low is)
    ∙ behaviours-push (part_behaviour parts) 0 (map part_of (take i xs)) (part_of x)
    ∙ ap (λ k. behaviours_so_far parts xs i ++ part_behaviour parts k (part_of x)) (let e : 0 + length (map part_of (take i xs)) ≡ i = omega (arith, long) in e)

-- one part more, for what is taken of behaviours
pub part-turn : {A : Type 0} (of : List Behaviour → List A) → ((xs ys : List Behaviour) → of (xs ++ ys) ≡ of xs ++ of ys) →
    (parts : List plain.Part) (xs : List Part) (i : ℕ) (x : Part) (old more : List A) → i < length xs → x ≡ get_or xs i x →
    old ≡ of (behaviours_so_far parts xs i) → more ≡ old ++ of (part_behaviour parts i (part_of x)) → more ≡ of (behaviours_so_far parts xs (i + 1))
part-turn of over parts xs i x old more low is had pushed =
    pushed ∙ ap (λ l. l ++ of (part_behaviour parts i (part_of x))) had
    ∙ sym (ap of (behaviours-more parts xs i x low is) ∙ over (behaviours_so_far parts xs i) (part_behaviour parts i (part_of x)))
