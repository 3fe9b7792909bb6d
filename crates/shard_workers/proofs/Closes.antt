-- What the closed board shows, by what the workers found.
use Rattle.std.proofs.Common.{◌≡◌, ◌≢◌, ℕ, zero, suc, ◌+◌, ◌<◌, ◌==◌, Bool, true, false, cond, List, [], ◌∷◌, slice_index, get_or, length, IsTrue, refl, sym, ap, subst, ◌∙◌, ⊎_elim, arith}
use Rattle.std.specs.Prelude.{if◌then◌else◌}
use Rattle.std.specs.List.{All, Contains}
use Rattle.std.proofs.lemmas.Bool.{eqb-true, lt-ltb}
use Rattle.std.proofs.lemmas.List.Sums.{sum_by-cons}
use Rattle.std.proofs.lemmas.Option.{slice_get_within}
use Rattle.std.proofs.lemmas.List.Elements.{All-contains, All-weaker, Contains-append_left, Contains-append_right}
use Rattle.vf_base.specs.Base.{fault_number}
use Rattle.vf_base.specs.declared.finding.Finding.{Finding}
use Rattle.v_design.specs.Designs.{FlatDesign, TestPlan}
use Rattle.order_laws.specs.Reports.{AreGrades}
use Rattle.v_design.specs.Findings.{grades_of, AreInOrder}
use Rattle.shard_rounds.specs.fault_grade.Results.{LoopsAt}
use Rattle.fault_shards.specs.Cuts.{shard, shard_count, ShardsCover}
use Rattle.fault_shards.specs.Found.{IsFinding, AreFound, found_faults}
use Rattle.fault_shards.specs.Shards.{AreShardsOf, representatives_of, fault_count}
use Rattle.fault_shards.specs.declared.shards.Shards.{Shards}
use Rattle.fault_shards.specs.Representatives.{IsRepresentative, AreRepresentatives}
use Rattle.verdict_words.specs.Codes.{codes_of, IsCode}
use Rattle.verdict_words.specs.CodeLaws.{code_of-IsCode}
use Rattle.verdict_words.specs.Rule.{times, marks, Closing}
use Rattle.verdict_words.specs.Last.{words_of, sizes_of, last_view}
use Rattle.verdict_words.specs.Views.{mark}
use Rattle.verdict_words.specs.declared.rule.Sizes.{Sizes}
use Rattle.verdict_words.specs.declared.view.View.{View}
use Rattle.verdict_words.specs.declared.view.Mark.{Mark}
use Rattle.shard_workers.specs.Closings.{AreVerdicts, IsEachOnce, AreShardsDone, IsWork}
use Rattle.shard_workers.specs.declared.grade.Work.{Work}
use Rattle.verdict_settle.specs.Settling.{IsSeen}
use Rattle.verdict_settle.specs.Harvests.{IsHarvest, claimed_faults}

-- Counts

-- what is counted is there
pub times-in : (x : ℕ) (xs : List ℕ) → 0 < times x xs → Contains xs x
times-in x [] h = absurd (omega (arith, h))
times-in x (y ∷ ys) h = go (y == x) refl (subst (λ n. 0 < n) (sum_by-cons (λ c. cond {A = ℕ} (c == x) 1 0) y ys) h) (λ k. times-in x ys k)
  where
    go : (b : Bool) → (y == x) ≡ b → 0 < cond {A = ℕ} b 1 0 + times x ys → (0 < times x ys → Contains ys x) → Contains (y ∷ ys) x
    go true e k rest = (0, omega arith, eqb-true y x e)
    go false e k rest = let r = rest (omega (arith, k)) in (suc r.0, (let l = r.1 in omega (arith, l)), r.2)

marks-in : (f : ℕ) (ms : List Mark) → 0 < marks f ms → (m : Mark) × Contains ms m × (fault_number m.fault ≡ f)
marks-in f [] h = absurd (omega (arith, h))
marks-in f (m ∷ ms) h = go (fault_number m.fault == f) refl (subst (λ n. 0 < n) (sum_by-cons (λ (a : Mark). cond {A = ℕ} (fault_number a.fault == f) 1 0) m ms) h) (λ k. marks-in f ms k)
  where
    go : (b : Bool) → (fault_number m.fault == f) ≡ b → 0 < cond {A = ℕ} b 1 0 + marks f ms → (0 < marks f ms → (a : Mark) × Contains ms a × (fault_number a.fault ≡ f)) →
        (a : Mark) × Contains (m ∷ ms) a × (fault_number a.fault ≡ f)
    go true e k rest = (m, (0, omega arith, refl), eqb-true (fault_number m.fault) f e)
    go false e k rest = let r = rest (omega (arith, k)) in (r.0, (suc r.1.0, (let l = r.1.1 in omega (arith, l)), r.1.2), r.2)

-- the faults of a shard that was claimed
claimed-in : (representatives claims : List ℕ) (claim fault : ℕ) → Contains claims claim → Contains (shard claim representatives) fault → Contains (claimed_faults representatives claims) fault
claimed-in representatives claims claim fault c h = by claims c.0 c.1 c.2
  where
    by : (xs : List ℕ) (k : ℕ) → k < length xs → get_or xs k claim ≡ claim → Contains (claimed_faults representatives xs) fault
    by [] k low at = absurd (omega (arith, low))
    by (x ∷ xs) zero low at = Contains-append_left (shard x representatives) (claimed_faults representatives xs) fault (subst (λ n. Contains (shard n representatives) fault) (sym at) h)
    by (x ∷ xs) (suc k) low at = Contains-append_right (shard x representatives) (claimed_faults representatives xs) fault (by xs k (omega (arith, low)) at)

-- The close

module _ (design : FlatDesign) (plan : TestPlan) (representatives : List ℕ) (sizes : Sizes) (words : List ℕ) (v : View) (found : List Finding) (cover : ShardsCover)
    (are : AreRepresentatives design plan.faults representatives)
    (faults : sizes.faults ≡ length plan.faults) (claims : sizes.claims ≡ shard_count (length representatives)) (dry : IsTrue v.dry) (k : Closing (codes_of design plan) sizes words v)
    (h : IsHarvest design plan representatives (claimed_faults representatives v.claimed) v found) where
  -- each shard was claimed, so each representative is done
  done : (f : ℕ) → IsRepresentative design plan.faults f → Contains (found_faults found) f × IsSeen v.seen f
  done f rep =
      let c = cover.cover representatives f ((are.each f).1 rep) in
      let low : c.0 < sizes.claims = (let l = c.1 in omega (arith, l, claims)) in
      let once : times c.0 v.claimed ≡ 1 = k.claimed dry c.0 ∙ ap (λ (b : Bool). if b then 1 else 0) (lt-ltb c.0 sizes.claims low) in
      h.complete f (claimed-in representatives v.claimed c.0 f (times-in c.0 v.claimed (omega (arith, once))) c.2)

  pub all-found : AreFound design plan found
  all-found = record { graded = h.graded; complete = λ number rep. (done number rep).0 }

  -- the word of a fault that was seen is its code
  word-code : (f : ℕ) → IsSeen v.seen f → IsCode design plan f (slice_index words f)
  word-code f s =
      let word = All-contains (λ (m : Mark). (slice_index words (fault_number m.fault) ≡ m.code) × (m.code ≢ 0)) v.seen (mark f s.0) k.seen s.1 in
      ⊎_elim (λ h. absurd (word.1 (sym word.0 ∙ h.0))) (λ h. code_of-IsCode design plan f (slice_index words f) h.1 h.0) (k.moved f)

  -- the word of a fault that isn't a representative was never moved
  word-none : (f : ℕ) → (IsRepresentative design plan.faults f → ⊥) → slice_index words f ≡ 0
  word-none f not_one =
      ⊎_elim (λ h. h.0)
      (λ moved. let one = moved.2 in let m = marks-in f v.moved (omega (arith, one)) in
      absurd (not_one ((are.each f).0 (subst (Contains representatives) m.2 (All-contains (λ (a : Mark). Contains representatives (fault_number a.fault)) v.moved m.0 h.moved m.1)))))
      (k.moved f)

  pub verdicts-are : AreVerdicts design plan words
  verdicts-are = record { one_each = k.one_each ∙ faults; codes = λ f rep. word-code f (done f rep).1; others = word-none }

-- The work of all workers

-- each finding is on one of so many faults
pub found-below : (design : FlatDesign) (plan : TestPlan) (count : ℕ) (found : List Finding) → count ≡ length plan.faults → All (IsFinding design plan) found →
    All (λ (finding : Finding). fault_number finding.fault < count) found
found-below design plan count found counted graded =
    All-weaker (IsFinding design plan) (λ (finding : Finding). fault_number finding.fault < count)
    (λ finding is. subst (λ n. fault_number finding.fault < n) (sym counted) (slice_get_within plan.faults (fault_number finding.fault) is.fault is.listed)) found graded

module _ {N : Type 0} (design : FlatDesign) (plan : TestPlan) (shards : Shards) (work : Work N) (sizes : Sizes) (v : View) (found : List Finding) where
  -- a harvest of all claims, and the close, make the work
  pub work-is : ShardsCover → AreShardsOf design plan.faults shards → sizes_of work.closed ≡ sizes → sizes.faults ≡ length plan.faults →
      sizes.claims ≡ shard_count (length (representatives_of shards)) → last_view work.closed ≡ v → IsTrue v.dry →
      Closing (codes_of design plan) (sizes_of work.closed) (words_of work.closed) (last_view work.closed) →
      IsHarvest design plan (representatives_of shards) (claimed_faults (representatives_of shards) v.claimed) v found →
      AreInOrder (fault_count shards) work.findings.items → (AreFound design plan found → AreGrades design plan (grades_of work.findings.items)) → ((time : ℕ) → LoopsAt design plan time → ⊥) →
      AreShardsDone (representatives_of shards) work.shards.items → IsWork design plan work
  work-is cover cut sizes_is faults claims view_is dry k h order grades on done = record {
    grades = grades (all-found design plan reps sizes words v found cover are faults claims dry closes h);
    in_order = subst (λ n. AreInOrder n work.findings.items) cut.counted order;
    goes_on = on;
    closing = record {
      representatives = reps;
      are_all = are;
      faults = ap (λ (s : Sizes). s.faults) sizes_is ∙ faults;
      claims = ap (λ (s : Sizes). s.claims) sizes_is ∙ claims;
      verdicts = verdicts-are design plan reps sizes words v found cover are faults claims dry closes h;
      drawn = subst (λ (s : Sizes). IsEachOnce s.claims (last_view work.closed).claimed) (sym sizes_is) (subst (λ (u : View). IsEachOnce sizes.claims u.claimed) (sym view_is) (closes.claimed dry));
    };
    shards_are = done;
  }
    where
      reps : List ℕ
      reps = representatives_of shards

      words : List ℕ
      words = words_of work.closed

      are : AreRepresentatives design plan.faults reps
      are = cut.representatives

      closes : Closing (codes_of design plan) sizes words v
      closes = subst (λ (s : Sizes). Closing (codes_of design plan) s words v) sizes_is (subst (λ (u : View). Closing (codes_of design plan) (sizes_of work.closed) words u) view_is k)
