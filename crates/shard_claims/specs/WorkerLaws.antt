-- What a seat keeps of the shards that it claimed, and where a worker stands (nothing of the language).
use Rattle.std.proofs.Common.{◌≡◌, ℕ, ◌<◌, Bool, true, false, List, [], ◌++◌, refl, sym, ap, subst, ◌∙◌, arith}
use Rattle.std.proofs.lemmas.List.{map-append}
use Rattle.std.proofs.lemmas.List.Elements.{All-append}
use Rattle.verdict_words.specs.declared.board.Board.{Board}
use Rattle.verdict_words.specs.declared.view.View.{View}
use Rattle.shard_turns.specs.copy_shard.declared.together.ClaimedShard.{ClaimedShard}
use Rattle.shard_claims.specs.declared.worker.Worker.{Worker}
use Rattle.shard_claims.specs.Workers.{numbers_of, IsClaimed, KeepsShards, IsNewSeat, HasClaimed, StandsBy, IsWorkerAt}

module _ {N : Type 0} where
  -- before the first claim
  pub keeps-none : (representatives : List ℕ) (gone : ℕ) (v : View) → v.claimed ≡ [] → KeepsShards {N = N} representatives gone v []
  keeps-none representatives gone v none = record { claimed = none; each = λ k d low. absurd (omega arith) }

  -- the claims of two seats
  pub keeps-both : (representatives : List ℕ) (gone : ℕ) (v w u : View) (shards others : List (ClaimedShard N)) → KeepsShards representatives gone v shards →
      KeepsShards representatives gone w others → u.claimed ≡ v.claimed ++ w.claimed → KeepsShards representatives gone u (shards ++ others)
  keeps-both representatives gone v w u shards others one other both = record {
    claimed =
        both
        ∙ (ap (λ (l : List ℕ). l ++ w.claimed) one.claimed
        ∙ (ap (λ (l : List ℕ). numbers_of shards ++ l) other.claimed ∙ sym (map-append (λ (claimed : ClaimedShard N). claimed.number) shards others)));
    each = All-append (IsClaimed representatives gone) shards others one.each other.each;
  }

  -- a worker that is dry has claimed
  pub has-claimed : (representatives : List ℕ) (board : Board N) (gone : ℕ) (worker : Worker N) → worker.dry ≡ true → IsWorkerAt representatives board gone worker →
      HasClaimed representatives board gone worker.seat worker.shards.items
  has-claimed representatives board gone worker dry at = subst (λ (b : Bool). StandsBy b representatives board gone worker) dry at

  pub is-new : (representatives : List ℕ) (board : Board N) (gone : ℕ) (worker : Worker N) → worker.dry ≡ false → IsWorkerAt representatives board gone worker →
      IsNewSeat board worker.seat × (gone ≡ 0)
  is-new representatives board gone worker not at = subst (λ (b : Bool). StandsBy b representatives board gone worker) not at

  -- behind some slots each worker has claimed
  pub dry-behind : (representatives : List ℕ) (board : Board N) (gone : ℕ) (worker : Worker N) → 0 < gone → IsWorkerAt representatives board gone worker → worker.dry ≡ true
  dry-behind representatives board gone worker some at = go worker.dry refl
    where
      go : (b : Bool) → worker.dry ≡ b → worker.dry ≡ true
      go true e = e
      go false e = (let none : gone ≡ 0 = (is-new representatives board gone worker e at).1 in absurd (omega (arith, none, some)))

  pub claimed-behind : (representatives : List ℕ) (board : Board N) (gone : ℕ) (worker : Worker N) → 0 < gone → IsWorkerAt representatives board gone worker →
      HasClaimed representatives board gone worker.seat worker.shards.items
  claimed-behind representatives board gone worker some at = has-claimed representatives board gone worker (dry-behind representatives board gone worker some at) at
