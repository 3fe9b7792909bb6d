-- Each step of the jobs' table keeps its rule.
use Rattle.std.proofs.Common.{◌≡◌, ◌≢◌, ℕ, ◌<◌, ◌==◌, cond, Bool, inl, inr, List, [], ◌∷◌, ◌++◌, replicate, length, set, slice_index, sum_by, sym, refl, ap, ◌∙◌, subst, ⊎_elim, arith, eq-eqb}
use Rattle.std.proofs.Common.{ne_eqb, length-set, get_or-set_same, get_or-set_other}
use Rattle.std.proofs.lemmas.List.{set-get_or, get_or-replicate, length-replicate}
use Rattle.std.proofs.lemmas.List.Sums.{sum_by_push}
use native.Mathlib.Decide.{ℕ_discrete}
use prog.Atomic.{either}
use mathlib.Core.Option.{some, none}
use lib.ListN.{get_elem?}
use Rattle.atomic_table.proofs.Lists.{exchanged, set_here, set_else, some_there}
use Rattle.atomic_table.specs.Table.{State, step, keeps, takes, gives, opening, Allows, Splits, Joins}
use Rattle.verdict_words.specs.declared.jobs.rule.SlotCalls.{SlotCalls}
use Rattle.verdict_words.specs.declared.jobs.rule.Hold.{Hold}
use Rattle.verdict_words.specs.declared.jobs.rule.Hold.TheVariants.{Spent, Free, Slot}
use Rattle.verdict_words.specs.Slots.{holds_slot, no_calls, with_refusal, with_take, with_put, joined_calls, Placed, Shelved, Takes, Puts}
use Rattle.verdict_words.proofs.Sums.{sum_set, part_le}

-- a view that holds a slot counts for it once
holds_it : {S : Type 0} (slot : ℕ) (calls : SlotCalls S) → holds_slot slot (Slot slot calls) ≡ 1
holds_it slot calls = ap (λ (b : Bool). cond {A = ℕ} b 1 0) (eq-eqb slot slot refl)

-- and for no other
holds_else : {S : Type 0} (other slot : ℕ) (calls : SlotCalls S) → other ≢ slot → holds_slot other (Slot slot calls) ≡ 0
holds_else other slot calls n = ap (λ (b : Bool). cond {A = ℕ} b 1 0) (ne_eqb slot other (λ e. n (sym e)))

module _ (S : Type 0) (slots : ℕ) where
  -- a slot that the step doesn't speak of
  kept_else : (s : State S (Hold S)) (k j n : ℕ) (h : _) (views : List (Hold S)) → j ≢ k → sum_by (holds_slot j) views ≡ sum_by (holds_slot j) s.views → Placed s j →
      Placed record { words = set s.words k n; homes = set s.homes k h; views = views } j
  kept_else s k j n h views apart same p = rw (get_or-set_other s.words k j n 0 apart, set_else s.homes k j h apart, same) p

  takes_it : (s : State S (Hold S)) → Shelved slots s → length s.homes ≡ slots → (id : ℕ) (r t : SlotCalls S) → get_elem? s.views id ≡ some (Free r) → (k : ℕ) → k < slots →
      sum_by (holds_slot k) s.views ≡ 0 → Shelved slots record { words = set s.words k 0; homes = set s.homes k none; views = set s.views id (Slot k t) }
  takes_it s kept wide id r t at k inside nobody = record {
    words = length-set s.words k 0 ∙ kept.words;
    placed = λ j short. (let e = sum_set (holds_slot j) s.views id (Free r) (Slot k t) at in elim (ℕ_discrete j k) [
      | yes same ↦ (let long = kept.words in subst (λ (i : ℕ). Placed record { words = set s.words k 0; homes = set s.homes k none; views = set s.views id (Slot k t) } i) (sym same)
          (inr (
            get_or-set_same s.words k 0 0 (omega arith),
            set_here s.homes k none (omega arith),
            (let e' = sum_set (holds_slot k) s.views id (Free r) (Slot k t) at in let one = holds_it k t in omega arith),
          )))
      | no apart ↦ kept_else s k j 0 none (set s.views id (Slot k t)) apart (let z = holds_else j k t apart in omega arith) (kept.placed j short)
    ]);
  }

  puts_it : (s : State S (Hold S)) → Shelved slots s → length s.homes ≡ slots → (id k : ℕ) (r t : SlotCalls S) (y : S) → get_elem? s.views id ≡ some (Slot k r) → k < slots →
      sum_by (holds_slot k) s.views ≡ 1 → Shelved slots record { words = set s.words k 1; homes = set s.homes k (some y); views = set s.views id (Free t) }
  puts_it s kept wide id k r t y at inside one = record {
    words = length-set s.words k 1 ∙ kept.words;
    placed = λ j short. (let e = sum_set (holds_slot j) s.views id (Slot k r) (Free t) at in elim (ℕ_discrete j k) [
      | yes same ↦ (let long = kept.words in subst (λ (i : ℕ). Placed record { words = set s.words k 1; homes = set s.homes k (some y); views = set s.views id (Free t) } i) (sym same)
          (inl (
            get_or-set_same s.words k 1 0 (omega arith),
            (y, set_here s.homes k (some y) (omega arith)),
            (let e' = sum_set (holds_slot k) s.views id (Slot k r) (Free t) at in let it = holds_it k r in omega arith),
          )))
      | no apart ↦ kept_else s k j 1 (some y) (set s.views id (Free t)) apart (let z = holds_else j k r apart in omega arith) (kept.placed j short)
    ]);
  }

  same_sums : (s : State S (Hold S)) (views : List (Hold S)) → ((j : ℕ) → sum_by (holds_slot j) views ≡ sum_by (holds_slot j) s.views) → Shelved slots s →
      Shelved slots record { words = s.words; homes = s.homes; views = views }
  same_sums s views same kept = record { words = kept.words; placed = λ j short. rw (same j) (kept.placed j short) }

  -- no slot changes hands, and the word stays
  refused : (s : State S (Hold S)) (id k : ℕ) (r t : SlotCalls S) → get_elem? s.views id ≡ some (Free r) → Shelved slots s →
      Shelved slots record { words = set s.words k (slice_index s.words k); homes = s.homes; views = set s.views id (Free t) }
  refused s id k r t at kept = rw (set-get_or s.words k 0)
      (same_sums s (set s.views id (Free t)) (λ j. (let e = sum_set (holds_slot j) s.views id (Free r) (Free t) at in omega arith)) kept)

  -- what each step asks of the table: at a slot's word, where the seat holds no slot
  pub take_allowed : (id k : ℕ) (r : SlotCalls S) → k < slots → Allows {S = S} (Shelved slots) slots id (Free r, []) k (λ n. either (n == 1) 0 n) (Takes (step slots k 1 0 none) (Free r, []))
  take_allowed id k r inside s kept wide at _ = let n : ℕ = slice_index s.words k in ⊎_elim
      (λ (p : (n ≡ 1) × ((y : S) × (get_elem? s.homes k ≡ some (some y))) × (sum_by (holds_slot k) s.views ≡ 0)). (let y = p.1.0 in let t = with_take k y r in (
        Slot k t,
        takes k y,
        p.1.1,
        exchanged n 1 0 (λ i. Shelved slots record { words = set s.words k i; homes = set s.homes k none; views = set s.views id (Slot k t) })
            (λ _. takes_it s kept wide id r t at k inside p.2) (λ other. absurd (other p.0)),
        record { got = λ _. (y, (refl, refl)); held = λ other. absurd (other p.0) },
      )))
      (λ (p : (n ≡ 0) × (get_elem? s.homes k ≡ some none) × (sum_by (holds_slot k) s.views ≡ 1)). (let other : n ≢ 1 = (λ e. (let z = p.0 in omega arith)) in let t = with_refusal r in (
        Free t,
        keeps,
        tt,
        exchanged n 1 0 (λ i. Shelved slots record { words = set s.words k i; homes = s.homes; views = set s.views id (Free t) }) (λ e. absurd (other e)) (λ _. refused s id k r t at kept),
        record { got = λ e. absurd (other e); held = λ _. refl },
      )))
      (kept.placed k inside)

  -- where it holds the slot
  pub put_allowed : (id k : ℕ) (r : SlotCalls S) (y : S) → k < slots → Allows {S = S} (Shelved slots) slots id (Slot k r, (k, y) ∷ []) k (λ _. 1) (λ _. Puts (step slots k 1 0 none) (Slot k r, (k, y) ∷ []) 1)
  put_allowed id k r y inside s kept wide at _ = let part = part_le (holds_slot k) s.views id (Slot k r) at in let it = holds_it k r in
      let one : sum_by (holds_slot k) s.views ≡ 1 = ⊎_elim (λ p. (let z = p.2 in omega arith)) (λ p. p.2) (kept.placed k inside) in (
        Free (with_put k y r),
        gives,
        tt,
        puts_it s kept wide id k r (with_put k y r) y at inside one,
        refl,
      )

  pub split_allowed : (id : ℕ) (r : SlotCalls S) → Splits {S = S} (Shelved slots) id (Free r) (Free r) (Free no_calls)
  split_allowed id r s kept at = same_sums s (set s.views id (Free r) ++ Free no_calls ∷ [])
      (λ j. (let e = sum_set (holds_slot j) s.views id (Free r) (Free r) at in let p = sum_by_push (holds_slot j) (set s.views id (Free r)) (Free no_calls) in omega arith)) kept

  pub join_allowed : (id : ℕ) (r : SlotCalls S) (other : ℕ) (q : SlotCalls S) → Joins {S = S} (Shelved slots) id (Free r) other (Free q) (Free (joined_calls r q)) Spent
  join_allowed id r other q s kept at apart there = let t = joined_calls r q in same_sums s (set (set s.views id (Free t)) other Spent)
      (λ j. (let e = sum_set (holds_slot j) s.views id (Free r) (Free t) at in let p = sum_set (holds_slot j) (set s.views id (Free t)) other (Free q) Spent there in omega arith)) kept

  -- the rule holds at the start
  pub starts : (xs : List S) → length xs ≡ slots → Shelved slots (opening (replicate slots 1) xs (Free no_calls))
  starts xs wide = record {
    words = length-replicate slots 1;
    placed = λ k short. inl (get_or-replicate slots k 1 0 short, some_there xs k (omega arith), refl);
  }
