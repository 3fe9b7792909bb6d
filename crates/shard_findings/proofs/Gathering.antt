-- What the workers found, as their seats are joined.
use Rattle.std.proofs.Common.{◌≡◌, ℕ, ◌+◌, ◌*◌, ◌^◌, ◌<◌, IsTrue, List, [], ◌∷◌, ◌++◌, length, take, get_or, refl, sym, ap, subst, ◌∙◌, ⊎_elim, arith}
use Rattle.std.proofs.lemmas.Bool.{or_right}
use Rattle.std.specs.List.{All, Contains}
use Rattle.std.proofs.lemmas.List.{append-nil, take_more}
use Rattle.std.proofs.lemmas.List.Concat.{flat_map-append}
use Rattle.std.proofs.lemmas.List.Elements.{All-nil, All-same, All-append, All-head, All-tail, Contains-append_cases}
use Rattle.vf_base.specs.declared.finding.Finding.{Finding}
use Rattle.v_design.specs.Designs.{FlatDesign, TestPlan}
use Rattle.fault_shards.specs.Cuts.{shard, ShardsCover}
use Rattle.fault_shards.specs.Found.{IsFinding, found_faults}
use Rattle.verdict_words.specs.Seats.{view, IsSeatOf}
use Rattle.verdict_words.specs.Views.{lent_share, joined}
use Rattle.verdict_words.specs.declared.board.Board.{Board}
use Rattle.verdict_words.specs.declared.board.Seat.{Seat}
use Rattle.verdict_words.specs.declared.view.View.{View}
use Rattle.verdict_settle.specs.Settling.{KeepsClaims, AreSettled}
use Rattle.verdict_settle.specs.Harvests.{claimed_faults, IsHarvest}
use Rattle.verdict_settle.specs.HarvestLaws.{nothing-in, harvest-start, harvest-settled, harvest-joined, claimed-both}
use Rattle.copy_laws.specs.Windows.{good_slots}
use Rattle.shard_claims.specs.copy_shard.Shards.{places_of}
use Rattle.shard_claims.specs.copy_shard.declared.together.ClaimedShard.{ClaimedShard}
use Rattle.shard_claims.specs.Workers.{numbers_of, IsClaimed, KeepsShards, HasClaimed, MovesListed}
use Rattle.shard_findings.specs.AllWorkers.{IsRest}
use Rattle.shard_findings.specs.Gatherings.{places_in, IsFoundShard, HaveGone, HasGathered}
use Rattle.shard_findings.specs.declared.gathered.Gathered.{Gathered}
use Rattle.shard_claims.specs.WorkerLaws.{keeps-none, keeps-both}

-- a fault of shards that were claimed is a representative
listed-in : (representatives claims : List ℕ) → ShardsCover → (fault : ℕ) → Contains (claimed_faults representatives claims) fault → Contains representatives fault
listed-in representatives [] cover fault c = nothing-in fault c
listed-in representatives (claim ∷ claims) cover fault c =
    ⊎_elim (λ here. cover.within representatives claim fault here) (λ later. listed-in representatives claims cover fault later)
    (Contains-append_cases (shard claim representatives) (claimed_faults representatives claims) fault c)

-- before the first fault, where words of representatives alone were moved
harvest-moved : (design : FlatDesign) (plan : TestPlan) (representatives : List ℕ) (v : View) → MovesListed representatives v.moved → IsHarvest design plan representatives [] v []
harvest-moved design plan representatives v moved = record { graded = All-nil (IsFinding design plan); complete = λ fault h. nothing-in fault h; moved = moved }

module _ {N : Type 0} where
  -- the faults of shards are those of their claims
  places-claimed : (representatives : List ℕ) (gone : ℕ) (shards : List (ClaimedShard N)) → All (IsClaimed representatives gone) shards → places_in shards ≡ claimed_faults representatives (numbers_of shards)
  places-claimed representatives gone [] all = refl
  places-claimed representatives gone (one ∷ more) all =
      ap (λ (l : List ℕ). l ++ places_in more) (All-head (IsClaimed representatives gone) one more all).faults
      ∙ ap (λ (l : List ℕ). shard one.number representatives ++ l) (places-claimed representatives gone more (All-tail (IsClaimed representatives gone) one more all))

  -- the faults of one shard more
  pub places-more : (shards : List (ClaimedShard N)) (i : ℕ) (d : ClaimedShard N) → i < length shards →
      places_in (take i shards) ++ places_of (get_or shards i d).shard.faults ≡ places_in (take (i + 1) shards)
  places-more shards i d low =
      sym (ap places_in (take_more shards i d low)
      ∙ (flat_map-append (λ (claimed : ClaimedShard N). places_of claimed.shard.faults) (take i shards) (get_or shards i d ∷ [])
      ∙ ap (λ (l : List ℕ). places_in (take i shards) ++ l) (append-nil (places_of (get_or shards i d).shard.faults))))

  -- how far the shards of a worker have gone
  pub all-gone : (representatives : List ℕ) (board : Board N) (gone : ℕ) (seat : Seat N) (shards : List (ClaimedShard N)) → HasClaimed representatives board gone seat shards →
      HaveGone gone shards
  all-gone representatives board gone seat shards h = λ k d low. (h.keeps.each k d low).gone_is

  -- a worker whose findings are settled
  pub gathers : (design : FlatDesign) (plan : TestPlan) (representatives : List ℕ) (board : Board N) (seat : Seat N) (after : Gathered N) → ShardsCover →
      HasClaimed representatives board (length (good_slots design plan)) seat after.shards.items → found_faults after.findings.items ≡ places_in after.shards.items →
      All (IsFinding design plan) after.findings.items → IsSeatOf board after.seat → KeepsClaims (view seat) (view after.seat) →
      AreSettled (found_faults after.findings.items) (view seat) (view after.seat) → All IsFoundShard after.shards.items → HasGathered design plan representatives board lent_share after
  gathers design plan representatives board seat after cover h faults graded own claims settled each = record {
    own = own;
    share_is = claims.share ∙ h.share;
    dry = claims.dry ∙ h.dry;
    harvest =
        subst (λ (l : List ℕ). IsHarvest design plan representatives l (view after.seat) after.findings.items) (all ∙ sym (ap (claimed_faults representatives) claims.claimed))
        (harvest-settled design plan representatives [] (view seat) (view after.seat) [] after.findings.items (harvest-moved design plan representatives (view seat) h.moved) graded
        (λ fault c. listed-in representatives (view seat).claimed cover fault (subst (λ l. Contains l fault) all c)) settled);
    keeps = record { claimed = claims.claimed ∙ h.keeps.claimed; each = h.keeps.each };
    found = each;
  }
    where
      all : found_faults after.findings.items ≡ claimed_faults representatives (view seat).claimed
      all = faults ∙ (places-claimed representatives (length (good_slots design plan)) after.shards.items h.keeps.each ∙ sym (ap (claimed_faults representatives) h.keeps.claimed))

-- The seats of all workers

module _ {N : Type 0} (design : FlatDesign) (plan : TestPlan) (representatives : List ℕ) (board : Board N) where
  -- the seat into which those of all workers but some were joined, with what these have
  pub record HasJoined (left all : ℕ) (seat : Seat N) (findings : List Finding) (shards : List (ClaimedShard N)) : Type 0 where
    pub own : IsSeatOf board seat
    pub share : (view seat).share + left * lent_share ≡ 2 ^ 62
    pub dry : left < all → IsTrue (view seat).dry
    pub harvest : IsHarvest design plan representatives (claimed_faults representatives (view seat).claimed) (view seat) findings
    pub keeps : KeepsShards representatives (length (good_slots design plan)) (view seat) shards
    pub found : All IsFoundShard shards

  -- before the first one
  pub joined-none : (left count : ℕ) (seat : Seat N) (found : List Finding) (shards : List (ClaimedShard N)) → IsRest board count seat → left ≡ count → found ≡ [] → shards ≡ [] →
      HasJoined left count seat found shards
  joined-none left count seat found shards rest all nothing none = record {
    own = rest.own;
    share = subst (λ n. (view seat).share + n * lent_share ≡ 2 ^ 62) (sym all) rest.share;
    dry = λ less. absurd (omega (arith, less, all));
    harvest =
        subst (λ (l : List Finding). IsHarvest design plan representatives (claimed_faults representatives (view seat).claimed) (view seat) l) (sym nothing)
        (subst (λ (l : List ℕ). IsHarvest design plan representatives (claimed_faults representatives l) (view seat) []) (sym rest.claimed)
        (harvest-start design plan representatives (view seat) rest.moved));
    keeps =
        subst (KeepsShards representatives (length (good_slots design plan)) (view seat)) (sym none)
        (keeps-none representatives (length (good_slots design plan)) (view seat) rest.claimed);
    found = All-same IsFoundShard shards [] none (All-nil IsFoundShard);
  }

  -- one more
  pub joined-more : (before left all : ℕ) (seat both : Seat N) (found after : List Finding) (shards claimed : List (ClaimedShard N)) (more : Gathered N) → HasJoined before all seat found shards →
      left + 1 ≡ before → HasGathered design plan representatives board lent_share more → IsSeatOf board both → view both ≡ joined (view seat) (view more.seat) →
      after ≡ found ++ more.findings.items → claimed ≡ shards ++ more.shards.items → HasJoined left all both after claimed
  joined-more before left all seat both found after shards claimed more h one g is same findings_are shards_are = record {
    own = is;
    share =
        (let share : (view seat).share + before * lent_share ≡ 2 ^ 62 = h.share in
        let lent : (view more.seat).share ≡ lent_share = g.share_is in
        let now : (view both).share ≡ (view seat).share + (view more.seat).share = ap (λ (v : View). v.share) same in
        omega (arith, share, lent, now, one));
    dry = λ less. ap (λ (v : View). v.dry) same ∙ or_right (view seat).dry (view more.seat).dry g.dry;
    harvest =
        subst (λ (v : View). IsHarvest design plan representatives (claimed_faults representatives v.claimed) v after) (sym same)
        (subst (λ (l : List Finding). IsHarvest design plan representatives (claimed_faults representatives ((view seat).claimed ++ (view more.seat).claimed)) (joined (view seat) (view more.seat)) l)
        (sym findings_are)
        (subst (λ (l : List ℕ). IsHarvest design plan representatives l (joined (view seat) (view more.seat)) (found ++ more.findings.items))
        (sym (claimed-both representatives (view seat).claimed (view more.seat).claimed))
        (harvest-joined design plan representatives (claimed_faults representatives (view seat).claimed) (claimed_faults representatives (view more.seat).claimed) (view seat) (view more.seat) found
        more.findings.items h.harvest g.harvest)));
    keeps =
        subst (KeepsShards representatives (length (good_slots design plan)) (view both)) (sym shards_are)
        (keeps-both representatives (length (good_slots design plan)) (view seat) (view more.seat) (view both) shards more.shards.items h.keeps g.keeps (ap (λ (v : View). v.claimed) same));
    found = All-same IsFoundShard claimed (shards ++ more.shards.items) shards_are (All-append IsFoundShard shards more.shards.items h.found g.found);
  }

  -- all of them
  pub joined-all : (all : ℕ) (last : Gathered N) → 0 < all → HasJoined 0 all last.seat last.findings.items last.shards.items →
      HasGathered design plan representatives board (2 ^ 62) last
  joined-all all last some h = record {
    own = h.own;
    share_is = (let share : (view last.seat).share + 0 * lent_share ≡ 2 ^ 62 = h.share in omega (arith, share));
    dry = h.dry some;
    harvest = h.harvest;
    keeps = h.keeps;
    found = h.found;
  }
