-- The drives of a node and of all nodes, one more at a time.
use Rattle.std.proofs.Common.{◌≡◌, ℕ, zero, suc, ◌+◌, ◌<◌, ◌≤◌, List, [], ◌∷◌, ◌++◌, length, get_or, take, drop, map, replicate, Option, Some, None, refl, sym, ap, ap₂, ◌∙◌, append_assoc}
use Rattle.std.proofs.Common.{append-nil, arith, drop-cons}
use Rattle.std.proofs.lemmas.List.{map_push, take_more, length-map, length-take-le}
use Rattle.v_design.specs.Expressions.{up_from}
use Rattle.v_tree.specs.Trees.{Identifier}
use Rattle.v_elab.specs.Parts as plain
use Rattle.v_elab.specs.Drivers as drivers
use Rattle.v_elab.specs.Drivers.{outermost, drives_width}
use Rattle.key_index.specs.Groups.{keyed_of}
use Rattle.key_index.specs.declared.grouped.Keyed.{Keyed}
use Rattle.elab_parts.specs.PartViews.{places_of, drive_of, drives_of}
use Rattle.elab_parts.specs.BehaviourViews.{node_of, node_drives_of}
use Rattle.elab_parts.specs.declared.bits.DrivenBits.{DrivenBits}
use Rattle.elab_parts.specs.declared.part.Drive.{Drive}
use Rattle.elab_parts.specs.declared.behaviour.WalkedNode.{WalkedNode}
use Rattle.elab_wires.specs.Drives.{keyed_drives, all_drives}
use Rattle.elab_wires.specs.DriveViews.{object_drive_of, drive_keyed, drives_listed}
use Rattle.elab_wires.specs.declared.object_drive.ObjectDrive.{ObjectDrive}

-- Widths

none-long : (n : ℕ) (places : List (Option ℕ)) → length (replicate n None ++ places) ≡ n + length places
none-long zero places = let e : length places ≡ 0 + length places = omega arith in e
none-long (suc n) places = ap (λ k. suc k) (none-long n places) ∙ (let e : suc (n + length places) ≡ suc n + length places = omega arith in e)

some-long : (low width : ℕ) (places : List (Option ℕ)) → length (map Some (up_from low width) ++ places) ≡ width + length places
some-long low zero places = let e : length places ≡ 0 + length places = omega arith in e
some-long low (suc width) places = ap (λ k. suc k) (some-long (low + 1) width places) ∙ (let e : suc (width + length places) ≡ suc width + length places = omega arith in e)

end-long : (n : ℕ) → length (replicate {A = Option ℕ} n None) ≡ n
end-long zero = refl
end-long (suc n) = ap (λ k. suc k) (end-long n)

pub select_long : (b : DrivenBits) → length (places_of b) ≡ b.outside_below + b.width + b.outside_above
select_long b =
    none-long b.outside_below (map Some (up_from b.low b.width) ++ replicate b.outside_above None)
    ∙ ap (λ k. b.outside_below + k) (some-long b.low b.width (replicate b.outside_above None) ∙ ap (λ k. b.width + k) (end-long b.outside_above))
    ∙ (let e : b.outside_below + (b.width + b.outside_above) ≡ b.outside_below + b.width + b.outside_above = omega arith in e)

drop-here : {A : Type 0} (xs : List A) (i : ℕ) (x : A) → i < length xs → x ≡ get_or xs i x → drop i xs ≡ x ∷ drop (i + 1) xs
drop-here xs i x low is = drop-cons xs i x low ∙ ap₂ (λ y k. y ∷ drop k xs) (sym is) (let e : suc i ≡ i + 1 = omega arith in e)

-- how wide the selects are from one on
pub width-here : (xs : List Drive) (i : ℕ) (x : Drive) → i < length xs → x ≡ get_or xs i x →
    drives_width (drives_of (drop i xs)) ≡ length (places_of x.bits) + drives_width (drives_of (drop (i + 1) xs))
width-here xs i x low is = ap (λ ds. drives_width (drives_of ds)) (drop-here xs i x low is)

-- Drives of a node

-- those that were listed and those to come are all
pub drive-turn : (signals : List plain.Signal) (node : ℕ) (xs : List Drive) (i : ℕ) (x : Drive) (start : List (Identifier × drivers.ObjectDrive)) (old more : List (Keyed ObjectDrive))
    (k : Keyed ObjectDrive) → i < length xs → x ≡ get_or xs i x
    → drives_listed old ++ keyed_drives signals node (drives_of (drop i xs)) ≡ start → more ≡ old ++ k ∷ [] → k.key.now ≡ outermost signals x.signal
    → object_drive_of k.item ≡ record { node = node; offset = drives_width (drives_of (drop (i + 1) xs)); places = places_of x.bits; place = (drive_of x).place }
    → drives_listed more ++ keyed_drives signals node (drives_of (drop (i + 1) xs)) ≡ start
drive-turn signals node xs i x start old more k low is had pushed key item =
    let rest = keyed_drives signals node (drives_of (drop (i + 1) xs)) in
    ap (λ l. drives_listed l ++ rest) pushed
    ∙ ap (λ l. l ++ rest) (ap (map drive_keyed) (map_push keyed_of old k) ∙ map_push drive_keyed (map keyed_of old) (keyed_of k))
    ∙ append_assoc (drives_listed old) (drive_keyed (keyed_of k) ∷ []) rest
    ∙ ap₂ (λ (a : Identifier) (b : drivers.ObjectDrive). drives_listed old ++ (a, b) ∷ rest) key item
    ∙ ap (λ ds. drives_listed old ++ keyed_drives signals node (drives_of ds)) (sym (drop-here xs i x low is))
    ∙ had

-- Drives of all nodes

all-push : (signals : List plain.Signal) (n : ℕ) (xs : List drivers.WalkedNode) (y : drivers.WalkedNode) →
    all_drives signals n (xs ++ y ∷ []) ≡ all_drives signals n xs ++ keyed_drives signals (n + length xs) y.drives
all-push signals n [] y = append-nil (keyed_drives signals n y.drives) ∙ ap (λ k. keyed_drives signals k y.drives) (let e : n ≡ n + 0 = omega arith in e)
all-push signals n (x ∷ xs) y =
    ap (λ rest. keyed_drives signals n x.drives ++ rest) (all-push signals (n + 1) xs y ∙ ap (λ k. all_drives signals (n + 1) xs ++ keyed_drives signals k y.drives)
    (let e : n + 1 + length xs ≡ n + suc (length xs) = omega arith in e))
    ∙ sym (append_assoc (keyed_drives signals n x.drives) (all_drives signals (n + 1) xs) (keyed_drives signals (n + suc (length xs)) y.drives))

pub node-turn : (signals : List plain.Signal) (xs : List WalkedNode) (i : ℕ) (x : WalkedNode) (old more : List (Identifier × drivers.ObjectDrive)) → i < length xs → x ≡ get_or xs i x →
    old ≡ all_drives signals 0 (map node_of (take i xs))
    → more ≡ old ++ keyed_drives signals i (node_drives_of x.drives) → more ≡ all_drives signals 0 (map node_of (take (i + 1) xs))
node-turn signals xs i x old more low is had pushed =
    let long : length (map node_of (take i xs)) ≡ i = length-map (take i xs) node_of ∙ length-take-le i xs (omega arith) in
    let taken : map node_of (take (i + 1) xs) ≡ map node_of (take i xs) ++ node_of x ∷ [] = ap (map node_of) (take_more xs i x low)
    ∙ (map_push node_of (take i xs) (get_or xs i x) ∙ ap (λ y. map node_of (take i xs) ++ node_of y ∷ []) (sym is)) in
    pushed ∙ ap (λ l. l ++ keyed_drives signals i (node_drives_of x.drives)) had
    ∙ ap (λ k. all_drives signals 0 (map node_of (take i xs)) ++ keyed_drives signals k (node_drives_of x.drives)) (let e : i ≡ 0 + length (map node_of (take i xs)) = omega (arith, long) in e)
    ∙ sym (all-push signals 0 (map node_of (take i xs)) (node_of x))
    ∙ ap (all_drives signals 0) (sym taken)

-- At the end

past : {A : Type 0} (xs : List A) (i : ℕ) → length xs ≤ i → drop i xs ≡ []
past [] zero e = refl
past [] (suc i) e = refl
past (x ∷ xs) zero e = absurd (omega arith)
past (x ∷ xs) (suc i) e = past xs i (omega arith)

pub width-done : (xs : List Drive) (i width : ℕ) → length xs ≤ i → width + drives_width (drives_of (drop i xs)) ≡ drives_width (drives_of xs) → width ≡ drives_width (drives_of xs)
width-done xs i width high e = omega (arith, e, ap (λ ds. drives_width (drives_of ds)) (past xs i high))

pub drives-done : (signals : List plain.Signal) (node : ℕ) (xs : List Drive) (i : ℕ) (start all : List (Identifier × drivers.ObjectDrive)) → length xs ≤ i →
    start ++ keyed_drives signals node (drives_of (drop i xs)) ≡ all → start ≡ all
drives-done signals node xs i start all high e = sym (append-nil start) ∙ ap (λ ds. start ++ keyed_drives signals node (drives_of ds)) (sym (past xs i high)) ∙ e
