-- How findings grow beside what a seat knows (nothing of the language).
use Rattle.std.proofs.Common.{◌≡◌, ℕ, List, [], ◌∷◌, ◌++◌, sym, ap, subst, ◌∙◌, ⊎_elim, arith}
use Rattle.std.specs.List.{All, Contains}
use Rattle.std.proofs.lemmas.List.{map-append, append-nil}
use Rattle.std.proofs.lemmas.List.Concat.{flat_map-append}
use Rattle.std.proofs.lemmas.List.Elements.{All-nil, All-same, All-append, All-weaker, All-contains, All-contains_itself, Contains-append_left, Contains-append_right, Contains-append_cases}
use Rattle.vf_base.specs.Base.{fault_number}
use Rattle.vf_base.specs.declared.finding.Finding.{Finding}
use Rattle.v_design.specs.Designs.{FlatDesign, TestPlan}
use Rattle.fault_shards.specs.Cuts.{shard}
use Rattle.fault_shards.specs.Found.{IsFinding, found_faults}
use Rattle.verdict_words.specs.Views.{mark, joined}
use Rattle.verdict_words.specs.declared.view.View.{View}
use Rattle.verdict_words.specs.declared.view.Mark.{Mark}
use Rattle.verdict_settle.specs.Settling.{AreSettled}
use Rattle.verdict_settle.specs.Harvests.{claimed_faults, IsHarvest}

-- nothing is in an empty list
pub nothing-in : {A : Type 0} (x : ℕ) → Contains [] x → A
nothing-in x h = absurd (let l = h.1 in omega (arith, l))

-- one claim more
pub claimed-more : (representatives claims : List ℕ) (claim : ℕ) → claimed_faults representatives (claims ++ claim ∷ []) ≡ claimed_faults representatives claims ++ shard claim representatives
claimed-more representatives claims claim =
    flat_map-append (λ c. shard c representatives) claims (claim ∷ []) ∙ ap (λ (l : List ℕ). claimed_faults representatives claims ++ l) (append-nil (shard claim representatives))

-- the claims of two seats
pub claimed-both : (representatives claims others : List ℕ) → claimed_faults representatives (claims ++ others) ≡ claimed_faults representatives claims ++ claimed_faults representatives others
claimed-both representatives claims others = flat_map-append (λ c. shard c representatives) claims others

-- what was found by two
pub found-both : (found more : List Finding) → found_faults (found ++ more) ≡ found_faults found ++ found_faults more
found-both found more = map-append (λ (f : Finding). fault_number f.fault) found more

module _ (design : FlatDesign) (plan : TestPlan) (representatives : List ℕ) where
  abbrev Listed : Mark → Type 0
  Listed m = Contains representatives (fault_number m.fault)

  -- before the first fault
  pub harvest-start : (v : View) → v.moved ≡ [] → IsHarvest design plan representatives [] v []
  harvest-start v none = record { graded = All-nil (IsFinding design plan); complete = λ fault h. nothing-in fault h; moved = All-same Listed v.moved [] none (All-nil Listed) }

  -- the words of faults that were found are settled
  pub harvest-settled : (done : List ℕ) (v w : View) (found more : List Finding) → IsHarvest design plan representatives done v found → All (IsFinding design plan) more →
      ((fault : ℕ) → Contains (found_faults more) fault → Contains representatives fault) → AreSettled (found_faults more) v w →
      IsHarvest design plan representatives (done ++ found_faults more) w (found ++ more)
  harvest-settled done v w found more h graded listed s = record {
    graded = All-append (IsFinding design plan) found more h.graded graded;
    complete = λ fault here. ⊎_elim (λ (left : Contains done fault). let c = h.complete fault left in (
      subst (λ l. Contains l fault) (sym (found-both found more)) (Contains-append_left (found_faults found) (found_faults more) fault c.0),
      (c.1.0, s.still (mark fault c.1.0) c.1.1),
    ))
        (λ (right : Contains (found_faults more) fault). (
          subst (λ l. Contains l fault) (sym (found-both found more)) (Contains-append_right (found_faults found) (found_faults more) fault right),
          s.seen fault right,
        ))
        (Contains-append_cases done (found_faults more) fault here);
    moved =
        All-weaker (Contains w.moved) Listed (λ m c. ⊎_elim (λ before. All-contains Listed v.moved m h.moved before) (λ of. listed (fault_number m.fault) of) (s.moved m c)) w.moved
        (All-contains_itself w.moved);
  }

  -- what two workers found
  pub harvest-joined : (one other : List ℕ) (v w : View) (found more : List Finding) → IsHarvest design plan representatives one v found → IsHarvest design plan representatives other w more →
      IsHarvest design plan representatives (one ++ other) (joined v w) (found ++ more)
  harvest-joined one other v w found more h k = record {
    graded = All-append (IsFinding design plan) found more h.graded k.graded;
    complete = λ fault here. ⊎_elim (λ (left : Contains one fault). let c = h.complete fault left in (
      subst (λ l. Contains l fault) (sym (found-both found more)) (Contains-append_left (found_faults found) (found_faults more) fault c.0),
      (c.1.0, Contains-append_left v.seen w.seen (mark fault c.1.0) c.1.1),
    ))
        (λ (right : Contains other fault). let c = k.complete fault right in (
          subst (λ l. Contains l fault) (sym (found-both found more))
              (Contains-append_right (found_faults found) (found_faults more) fault c.0),
          (c.1.0, Contains-append_right v.seen w.seen (mark fault c.1.0) c.1.1),
        ))
        (Contains-append_cases one other fault here);
    moved = All-append Listed v.moved w.moved h.moved k.moved;
  }
