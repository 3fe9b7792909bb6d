-- The numbers of shards.
use Rattle.std.proofs.Common.{◌≡◌, ℕ, ◌+◌, ◌-◌, ◌*◌, ◌/◌, ◌<◌, ◌≤◌, List, length, take, drop, get_or, map, min, Contains, arith, sym, ap, ◌∙◌, length-take, length-drop}
use Rattle.std.proofs.lemmas.List.{get_or-take, get_or-drop, take-map, drop-map, take_min}
use Rattle.fault_shards.specs.Cuts.{shard, shard_count, ShardsCover, ShardsSuffice}

room-for : (count : ℕ) → count ≤ 32 * shard_count count
room-for count = omega arith

least-count : (count fewer : ℕ) → count ≤ 32 * fewer → shard_count count ≤ fewer
least-count count fewer enough = omega arith

-- the counted shards have room for all, and fewer have not
pub counts_suffice : ShardsSuffice
counts_suffice = record { room = room-for; least = least-count }

-- how many numbers a shard has
shard-length : (xs : List ℕ) (number : ℕ) → length (shard number xs) ≡ min 32 (length xs - 32 * number)
shard-length xs number = length-take 32 (drop (32 * number) xs) ∙ ap (min 32) (length-drop (32 * number) xs)

shard-at : (xs : List ℕ) (number k x : ℕ) → k < 32 → get_or (shard number xs) k x ≡ get_or xs (32 * number + k) x
shard-at xs number k x below = get_or-take 32 (drop (32 * number) xs) k x below ∙ get_or-drop (32 * number) xs k x

covered : (xs : List ℕ) (x : ℕ) → Contains xs x → (number : ℕ) × (number < shard_count (length xs)) × Contains (shard number xs) x
covered xs x c =
    let k : ℕ = c.0 in
    let number : ℕ = c.0 / 32 in
    let inside : c.0 < length xs = c.1 in
    let size : length (shard (c.0 / 32) xs) ≡ min 32 (length xs - 32 * (c.0 / 32)) = shard-length xs (c.0 / 32) in
    let back : 32 * (c.0 / 32) + (c.0 - 32 * (c.0 / 32)) ≡ c.0 = omega arith in
    (c.0 / 32, omega (arith, inside), (c.0 - 32 * (c.0 / 32), omega (arith, inside, size), shard-at xs (c.0 / 32) (c.0 - 32 * (c.0 / 32)) x (omega arith) ∙ ap (λ n. get_or xs n x) back ∙ c.2))

from-shard : (xs : List ℕ) (number x : ℕ) → Contains (shard number xs) x → Contains xs x
from-shard xs number x c =
    let size : length (shard number xs) ≡ min 32 (length xs - 32 * number) = shard-length xs number in
    let inside : c.0 < length (shard number xs) = c.1 in
    (32 * number + c.0, omega (arith, size, inside), sym (shard-at xs number c.0 x (omega (arith, size, inside))) ∙ c.2)

-- each number of a list is in one of its shards, and a shard has no others
pub numbers_covered : ShardsCover
numbers_covered = record { cover = covered; within = from-shard }

-- the part of a list that is a shard, seen as numbers
pub part-shard : {A : Type 0} (f : A → ℕ) (xs : List A) (number : ℕ) → number < shard_count (length xs) →
    map f (take (min (length xs) (32 * number + 32) - 32 * number) (drop (32 * number) xs)) ≡ shard number (map f xs)
part-shard f xs number below =
    let size : length (drop (32 * number) xs) ≡ length xs - 32 * number = length-drop (32 * number) xs in
    let few : min (length xs) (32 * number + 32) - 32 * number ≡ min 32 (length (drop (32 * number) xs)) = omega (arith, size, below) in
    ap (λ n. map f (take n (drop (32 * number) xs))) few ∙ ap (map f) (take_min 32 (drop (32 * number) xs))
    ∙ sym (take-map f 32 (drop (32 * number) xs)) ∙ ap (take 32) (sym (drop-map f (32 * number) xs))
