-- A shard that is made, and claims as they grow.
use Rattle.std.proofs.Common.{◌≡◌, ℕ, ◌<◌, Bool, true, List, [], ◌∷◌, ◌++◌, map, length, refl, sym, ap, subst, ◌∙◌}
use Rattle.std.specs.List.{All, Contains}
use Rattle.std.proofs.lemmas.List.{map-append}
use Rattle.std.proofs.lemmas.List.Elements.{All-nil, All-same, All-weaker, All-push, All-contains_itself}
use Rattle.std.proofs.lemmas.Option.{slice_get_within}
use Rattle.v_design.specs.Designs.{FlatDesign, StuckAt}
use Rattle.shard_turns.specs.copy_shard.Shards.{places_of, fresh_fault}
use Rattle.fault_shards.specs.Cuts.{shard, ShardsCover}
use Rattle.fault_shards.specs.Representatives.{AreRepresentatives}
use Rattle.verdict_words.specs.Seats.{view}
use Rattle.verdict_words.specs.declared.board.Board.{Board}
use Rattle.verdict_words.specs.declared.view.View.{View}
use Rattle.shard_turns.specs.copy_shard.declared.together.ClaimedShard.{ClaimedShard}
use Rattle.shard_claims.specs.declared.worker.Worker.{Worker}
use Rattle.shard_turns.specs.Visits.{MovesListed, SettlesMore}
use Rattle.vf_base.specs.Base.{fault_number}
use Rattle.verdict_words.specs.declared.view.Mark.{Mark}
use Rattle.verdict_words.specs.declared.board.Seat.{Seat}
use Rattle.shard_claims.specs.Workers.{numbers_of, IsClaimed, KeepsShards, HasClaimed, StandsBy, IsWorkerAt}
use Rattle.shard_claims.specs.WorkerLaws.{has-claimed}

-- a representative is listed
representative-below : (design : FlatDesign) (faults : List StuckAt) (representatives : List ℕ) (fault : ℕ) → AreRepresentatives design faults representatives → Contains representatives fault →
    fault < length faults
representative-below design faults representatives fault are h = let r = (are.each fault).0 h in slice_get_within faults fault r.fault r.listed

-- so each fault of a shard is
pub shard-listed : (design : FlatDesign) (faults : List StuckAt) (representatives : List ℕ) (number : ℕ) (numbers : List ℕ) → ShardsCover → AreRepresentatives design faults representatives →
    numbers ≡ shard number representatives → All (λ n. n < length faults) numbers
shard-listed design faults representatives number numbers cover are same =
    All-same (λ n. n < length faults) numbers (shard number representatives) same
    (All-weaker (Contains (shard number representatives)) (λ n. n < length faults)
    (λ n c. representative-below design faults representatives n are (cover.within representatives number n c)) (shard number representatives) (All-contains_itself (shard number representatives)))

-- no word was moved
pub moved-none : (representatives : List ℕ) (moved : List Mark) → moved ≡ [] → MovesListed representatives moved
moved-none representatives moved none =
    All-same (λ (m : Mark). Contains representatives (fault_number m.fault)) moved [] none (All-nil (λ (m : Mark). Contains representatives (fault_number m.fault)))

-- the faults of a shard that is new
pub places-fresh : (numbers : List ℕ) → places_of (map fresh_fault numbers) ≡ numbers
places-fresh [] = refl
places-fresh (n ∷ ns) = ap (λ l. n ∷ l) (places-fresh ns)

module _ {N : Type 0} where
  -- one claim more
  pub keeps-more : (representatives : List ℕ) (gone : ℕ) (v w : View) (shards : List (ClaimedShard N)) (more : ClaimedShard N) → KeepsShards representatives gone v shards →
      w.claimed ≡ v.claimed ++ more.number ∷ [] → IsClaimed representatives gone more → KeepsShards representatives gone w (shards ++ more ∷ [])
  keeps-more representatives gone v w shards more keeps drawn is = record {
    claimed = drawn ∙ (ap (λ (l : List ℕ). l ++ more.number ∷ []) keeps.claimed ∙ sym (map-append (λ (claimed : ClaimedShard N). claimed.number) shards (more ∷ [])));
    each = All-push (IsClaimed representatives gone) shards more keeps.each is;
  }

  -- the same claims
  pub keeps-on : (representatives : List ℕ) (gone through : ℕ) (v w : View) (shards later : List (ClaimedShard N)) → KeepsShards representatives gone v shards → w.claimed ≡ v.claimed →
      numbers_of later ≡ numbers_of shards → All (IsClaimed representatives through) later → KeepsShards representatives through w later
  keeps-on representatives gone through v w shards later keeps same numbers each = record { claimed = same ∙ (keeps.claimed ∙ sym numbers); each = each }

  -- a worker that claimed, with its shards behind the next window
  pub has-gone : (representatives : List ℕ) (board : Board N) (gone through : ℕ) (worker : Worker N) (later : List (ClaimedShard N)) → worker.dry ≡ true →
      IsWorkerAt representatives board gone worker → numbers_of later ≡ numbers_of worker.shards.items → All (IsClaimed representatives through) later →
      HasClaimed representatives board through worker.seat later
  has-gone representatives board gone through worker later dry at numbers each =
      let h = has-claimed representatives board gone worker dry at in record {
        own = h.own;
        share = h.share;
        moved = h.moved;
        dry = h.dry;
        keeps = keeps-on representatives gone through (view worker.seat) (view worker.seat) worker.shards.items later h.keeps refl numbers each;
      }

  -- a worker that has claimed stands so
  pub stands-claimed : (representatives : List ℕ) (board : Board N) (gone : ℕ) (worker : Worker N) → worker.dry ≡ true → HasClaimed representatives board gone worker.seat worker.shards.items →
      IsWorkerAt representatives board gone worker
  stands-claimed representatives board gone worker dry h = subst (λ (b : Bool). StandsBy b representatives board gone worker) (sym dry) h

  -- the claims of a worker stay where its seat settles more words
  pub settles-on : (representatives : List ℕ) (board : Board N) (gone : ℕ) (old new : Seat N) (shards : List (ClaimedShard N)) → HasClaimed representatives board gone old shards →
      SettlesMore representatives board old new → HasClaimed representatives board gone new shards
  settles-on representatives board gone old new shards h more = record {
    own = more.own;
    share = more.claims.share ∙ h.share;
    moved = more.moved h.moved;
    dry = more.claims.dry ∙ h.dry;
    keeps = record { claimed = more.claims.claimed ∙ h.keeps.claimed; each = h.keeps.each };
  }
