-- Copies are left of one shard after the other (nothing of the language).
use Rattle.std.proofs.Common.{◌≡◌, ℕ, ◌+◌, ◌<◌, List, [], ◌∷◌, ◌++◌, length, take, get_or, refl, sym, ap, subst, ◌∙◌}
use Rattle.std.proofs.lemmas.List.{append-nil, take_more}
use Rattle.std.proofs.lemmas.List.Concat.{flat_map-append}
use Rattle.shard_findings.specs.copy_shard.declared.together.ClaimedShard.{ClaimedShard}
use Rattle.shard_findings.specs.shard_claims.declared.worker.Worker.{Worker}
use Rattle.shard_findings.specs.shard_turns.Backups.{ShardCalls}
use Rattle.shard_crew.specs.Leaving.{AreLeft, IsLeft, shards_of, shards_of_all}

module _ {N : Type 0} where
  -- those of some shards, and then those of others
  left-append : (first rest : List (ClaimedShard N)) (old between new : ShardCalls) → AreLeft first old between → AreLeft rest between new → AreLeft (first ++ rest) old new
  left-append [] rest old between new same left = subst (λ (calls : ShardCalls). AreLeft rest calls new) same left
  left-append (claimed ∷ others) rest old between new first left = (first.0, first.1, left-append others rest first.0 between new first.2 left)

  -- one more shard
  pub shards-more : (shards : List (ClaimedShard N)) (i : ℕ) (d : ClaimedShard N) (old between new : ShardCalls) → i < length shards → AreLeft (take i shards) old between →
      IsLeft (get_or shards i d) between new → AreLeft (take (i + 1) shards) old new
  shards-more shards i d old between new low left one =
      subst (λ (l : List (ClaimedShard N)). AreLeft l old new) (sym (take_more shards i d low))
      (left-append (take i shards) (get_or shards i d ∷ []) old between new left (new, one, refl))

  -- and the shards of one more worker
  pub workers-more : (workers : List (Worker N)) (i : ℕ) (d : Worker N) (old between new : ShardCalls) → i < length workers → AreLeft (shards_of_all (take i workers)) old between →
      AreLeft (shards_of (get_or workers i d)) between new → AreLeft (shards_of_all (take (i + 1) workers)) old new
  workers-more workers i d old between new low left more =
      subst (λ (l : List (ClaimedShard N)). AreLeft l old new)
      (sym (ap shards_of_all (take_more workers i d low)
      ∙ (flat_map-append shards_of (take i workers) (get_or workers i d ∷ [])
      ∙ ap (λ (l : List (ClaimedShard N)). shards_of_all (take i workers) ++ l) (append-nil (shards_of (get_or workers i d))))))
      (left-append (shards_of_all (take i workers)) (shards_of (get_or workers i d)) old between new left more)
