-- A list in shards of 32 (nothing of the language).
use Rattle.std.specs.Prelude.{ℕ, ◌+◌, ◌*◌, ◌/◌, ◌<◌, ◌≤◌, List, length, take, drop}
use Rattle.std.specs.List.{Contains}

-- a shard of a list, counted from 0: the last one has what is left
abbrev pub shard : ℕ → List ℕ → List ℕ
shard number xs = take 32 (drop (32 * number) xs)

-- how many shards a list of so many has: by the law below the least count that has room for all
abbrev pub shard_count : ℕ → ℕ
shard_count count = (count + 31) / 32

-- the shards have room for so many numbers, and fewer have not
pub record ShardsSuffice : Type 0 where
  pub room : (count : ℕ) → count ≤ 32 * shard_count count
  pub least : (count fewer : ℕ) → count ≤ 32 * fewer → shard_count count ≤ fewer

-- each number of a list is in one of its shards, and each number of a shard is in the list
pub record ShardsCover : Type 0 where
  pub cover : (xs : List ℕ) (x : ℕ) → Contains xs x → (number : ℕ) × (number < shard_count (length xs)) × Contains (shard number xs) x
  pub within : (xs : List ℕ) (number x : ℕ) → Contains (shard number xs) x → Contains xs x
