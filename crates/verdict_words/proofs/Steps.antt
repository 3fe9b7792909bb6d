-- Each step keeps the rule.
use Rattle.std.proofs.Common.{◌≡◌, ◌≢◌, ℕ, ◌+◌, ◌%◌, ◌^◌, ◌<◌, ◌≤◌, ◌==◌, min, cond, nat_lt, true, false, inr, List, [], ◌∷◌, ◌++◌, length, set, sum_by, IsTrue, sym, refl, ap, ◌∙◌, subst, ⊎_elim}
use Rattle.std.proofs.Common.{arith, length-set, get_or-set_same, get_or-set_other}
use Rattle.std.proofs.Common.{ne_eqb, eq-eqb, ◌&&◌, ◌||◌, Bool, true≢false}
use Rattle.std.proofs.lemmas.List.Sums.{sum_by_push}
use Rattle.std.proofs.lemmas.List.Elements.{All-nil, All-weaker, All-push, All-append, All-contains}
use native.Mathlib.Decide.{ℕ_discrete}
use Rattle.std.proofs.Common.{lt-ltb, le-ltb, slice_index}
use Rattle.std.proofs.lemmas.List.{set-get_or, get_or_past}
use native.Mathlib.Decide.{dec_lt}
use prog.Atomic.{either}
use mathlib.Core.Option.{some, none}
use lib.ListN.{get_elem?}
use Rattle.atomic_table.proofs.Lists.{at_set, exchanged}
use Rattle.atomic_table.specs.Table.{Me, step, keeps, Allows, Splits, Joins}
use Rattle.verdict_words.specs.declared.view.View.{View}
use Rattle.verdict_words.specs.declared.view.Mark.{Mark}
use Rattle.verdict_words.specs.declared.rule.Sizes.{Sizes}
use Rattle.vf_base.specs.Base.{fault_number}
use Rattle.verdict_words.specs.Codes.{code_of}
use Rattle.verdict_words.specs.Views.{mark, spent_view, with_claim, with_none, with_seen, with_moved, lent_share, without_lent, newcomer, joined}
use Rattle.verdict_words.specs.Rule.{times, marks, marks_with, moves_of, moves_with, once_below, counter, word_of, EachView, Moved, Seen, Within, Kept, Holds, Closing}
use Rattle.verdict_words.specs.Plays.{Found, Claimed, Settles, Looks}
use Rattle.verdict_words.proofs.Sums.{sum_set, part_le}
use Rattle.verdict_words.proofs.Parts.{sum_le, alone, marks_push, marks-append, marks_with_push, marks_with-append, marks_with_le, each_set, each_push, each_weaker, times_push, times-append}
use Rattle.verdict_words.proofs.Parts.{once_more, once_no_more}

module _ (codes : List ℕ) (sizes : Sizes) (words : List ℕ) (views : List View) (r : Kept codes sizes words views) (id : ℕ) (v : View) (at : get_elem? views id ≡ some v) where
  -- the counter rises, and no other word changes
  abbrev counted : List ℕ
  counted = set words 0 (counter words + 1)

  counted_counter : counter counted ≡ counter words + 1
  counted_counter = let long = r.one_each in get_or-set_same words 0 (counter words + 1) 0 (omega arith)

  counted_word : (f : ℕ) → word_of counted f ≡ word_of words f
  counted_word f = get_or-set_other words 0 (f + 1) (counter words + 1) 0 (λ e. omega arith)

  seen_counted : (ms : List Mark) → Seen words ms → Seen counted ms
  seen_counted ms all k d short = let h = all k d short in (counted_word _ ∙ h.0, h.1)

  moved_counted : (w : View) → w.moved ≡ v.moved → (f : ℕ) → Moved codes f (word_of counted f) (moves_of f (set views id w)) (moves_with f (code_of codes f) (set views id w))
  moved_counted w same f =
      let here : moves_of f (set views id w) ≡ moves_of f views = let e = sum_set (λ (u : View). marks f u.moved) views id v w at in let q : marks f w.moved ≡ marks f v.moved = ap (marks f) same in
      omega arith in
      let with' : moves_with f (code_of codes f) (set views id w) ≡ moves_with f (code_of codes f) views = let e = sum_set (λ (u : View). marks_with f (code_of codes f) u.moved) views id v w at in
      let q : marks_with f (code_of codes f) w.moved ≡ marks_with f (code_of codes f) v.moved = ap (marks_with f (code_of codes f)) same in omega arith in
      rw (counted_word f, here, with') (r.moved f)

  -- after a call of `claim`
  claims_kept : (w : View) → v.calls < v.share → w.calls ≡ v.calls + 1 → w.share ≡ v.share → w.moved ≡ v.moved → w.seen ≡ v.seen
      → (IsTrue w.dry → sizes.claims ≤ counter words + 1)
      → ((x : ℕ) → times x w.claimed + once_below x (min (counter words) sizes.claims) ≡ times x v.claimed + once_below x (min (counter words + 1) sizes.claims))
      → Kept codes sizes counted (set views id w)
  claims_kept w room calls share moved seen dry claimed = let c = counted_counter in record {
    one_each = length-set words 0 (counter words + 1) ∙ r.one_each;
    claimed = λ x. (let e = sum_set (λ (u : View). times x u.claimed) views id v w at in let p = r.claimed x in let q = claimed x in rw c (omega arith));
    moved = moved_counted w moved;
    seen = each_set (λ (u : View). Seen counted u.seen) views id w (each_weaker (λ (u : View). Seen words u.seen) (λ (u : View). Seen counted u.seen) views (λ u h. seen_counted u.seen h) r.seen)
        (subst (λ ms. Seen counted ms) (sym seen) (seen_counted v.seen (r.seen id v at)));
    shares = (let e = sum_set (λ (u : View). u.share) views id v w at in let p = r.shares in omega arith);
    calls = (let e = sum_set (λ (u : View). u.calls) views id v w at in let p = r.calls in omega arith);
    within = each_set Within views id w r.within ((omega arith, λ z. absurd (omega arith)));
    dry = each_set (λ (u : View). IsTrue u.dry → sizes.claims ≤ counter counted) views id w (λ j u e t. (let h = r.dry j u e t in rw c (omega arith))) (λ t. rw c (dry t));
  }

  -- the counter doesn't wrap, since the calls are within the shares
  fits : (counter words + 1) % 2 ^ 64 ≡ counter words + 1
  fits = let a = sum_le (λ (u : View). u.calls) (λ (u : View). u.share) views (λ j u e. (r.within j u e).0) in let b = r.calls in let d = r.shares in omega arith

  -- the lists of the changed view have the same, and no word changes
  same_words : (w : View) → w.claimed ≡ v.claimed → w.moved ≡ v.moved → w.share ≡ v.share → w.calls ≡ v.calls → w.dry ≡ v.dry → 0 < v.share → Seen words w.seen →
      Kept codes sizes words (set views id w)
  same_words w claimed moved share calls dry some_share seen = record {
    one_each = r.one_each;
    claimed = λ x. (let e = sum_set (λ (u : View). times x u.claimed) views id v w at in let p = r.claimed x in let q : times x w.claimed ≡ times x v.claimed = ap (times x) claimed in omega arith);
    moved = λ f. (let e = sum_set (λ (u : View). marks f u.moved) views id v w at in let q : marks f w.moved ≡ marks f v.moved = ap (marks f) moved in
        let e' = sum_set (λ (u : View). marks_with f (code_of codes f) u.moved) views id v w at in
        let q' : marks_with f (code_of codes f) w.moved ≡ marks_with f (code_of codes f) v.moved = ap (marks_with f (code_of codes f)) moved in
        let here : moves_of f (set views id w) ≡ moves_of f views = omega arith in
        let with' : moves_with f (code_of codes f) (set views id w) ≡ moves_with f (code_of codes f) views = omega arith in
        rw (here, with') (r.moved f));
    seen = each_set (λ (u : View). Seen words u.seen) views id w r.seen seen;
    shares = (let e = sum_set (λ (u : View). u.share) views id v w at in let p = r.shares in omega arith);
    calls = (let e = sum_set (λ (u : View). u.calls) views id v w at in let p = r.calls in omega arith);
    within = each_set Within views id w r.within (let h = r.within id v at in (omega arith, λ z. absurd (omega arith)));
    dry = each_set (λ (u : View). IsTrue u.dry → sizes.claims ≤ counter words) views id w r.dry (λ t. r.dry id v at (subst IsTrue dry t));
  }

  -- the fault's word is what it was found to be
  found : (f : ℕ) → Found codes f v.seen (word_of words f)
  found f = record {
    graded = λ moved. ⊎_elim (λ h. absurd (moved h.0)) (λ h. h.1) (r.moved f);
    again = λ c known. (All-contains (λ (m : Mark). (word_of words (fault_number m.fault) ≡ m.code) × (m.code ≢ 0)) v.seen (mark f c) (r.seen id v at) known);
  }

  -- the word was found moved
  sees : (f : ℕ) → 0 < v.share → word_of words f ≢ 0 → Kept codes sizes words (set views id (with_seen f (word_of words f) v))
  sees f some_share moved = same_words (with_seen f (word_of words f) v) refl refl refl refl refl some_share
      (All-push (λ (m : Mark). (word_of words (fault_number m.fault) ≡ m.code) × (m.code ≢ 0)) v.seen (mark f (word_of words f)) (r.seen id v at) (refl, moved))

  module _ (f c : ℕ) (inside : f < sizes.faults) (is : c ≡ code_of codes f) (graded : c ≢ 0) (unmoved : word_of words f ≡ 0) (some_share : 0 < v.share) where
    abbrev written : List ℕ
    written = set words (f + 1) c

    written_counter : counter written ≡ counter words
    written_counter = get_or-set_other words (f + 1) 0 c 0 (λ e. omega arith)

    written_here : word_of written f ≡ c
    written_here = let long = r.one_each in get_or-set_same words (f + 1) c 0 (omega arith)

    written_else : (g : ℕ) → g ≢ f → word_of written g ≡ word_of words g
    written_else g n = get_or-set_other words (f + 1) (g + 1) c 0 (λ e. n (omega arith))

    seen_written : (ms : List Mark) → Seen words ms → Seen written ms
    seen_written ms all k d short = let h = all k d short in (written_else _ (λ e. h.1 (sym h.0 ∙ ap (word_of words) e ∙ unmoved)) ∙ h.0, h.1)

    moved_here : Moved codes f (word_of written f) (moves_of f (set views id (with_moved f c v))) (moves_with f (code_of codes f) (set views id (with_moved f c v)))
    moved_here =
        let p = sum_set (λ (u : View). marks f u.moved) views id v (with_moved f c v) at in let q = marks_push f f c v.moved in
        let p' = sum_set (λ (u : View). marks_with f (code_of codes f) u.moved) views id v (with_moved f c v) at in let q' = marks_with_push f (code_of codes f) f c v.moved in
        let on : (f == f) ≡ true = eq-eqb f f refl in let same : (c == code_of codes f) ≡ true = eq-eqb c (code_of codes f) is in
        let one : cond {A = ℕ} (f == f) 1 0 ≡ 1 = ap (λ (b : Bool). cond {A = ℕ} b 1 0) on in
        let one' : cond {A = ℕ} ((f == f) && (c == code_of codes f)) 1 0 ≡ 1 = ap (λ (b : Bool). cond {A = ℕ} (b && (c == code_of codes f)) 1 0) on ∙ ap (λ (b : Bool). cond {A = ℕ} b 1 0) same in
        let none_yet : moves_of f views ≡ 0 = ⊎_elim (λ h. h.1) (λ h. absurd (h.0 unmoved)) (r.moved f) in
        let fewer = sum_le (λ (u : View). marks_with f (code_of codes f) u.moved) (λ (u : View). marks f u.moved) views (λ j u e. marks_with_le f (code_of codes f) u.moved) in
        inr ((λ z. graded (sym written_here ∙ z)), written_here ∙ is, omega arith, omega arith)

    moved_written : (g : ℕ) → Dec (g ≡ f) → Moved codes g (word_of written g) (moves_of g (set views id (with_moved f c v))) (moves_with g (code_of codes g) (set views id (with_moved f c v)))
    moved_written g (yes e) = subst (λ (k : ℕ). Moved codes k (word_of written k) (moves_of k (set views id (with_moved f c v))) (moves_with k (code_of codes k) (set views id (with_moved f c v))))
        (sym e) moved_here
    moved_written g (no n) =
        let p = sum_set (λ (u : View). marks g u.moved) views id v (with_moved f c v) at in let q = marks_push g f c v.moved in
        let p' = sum_set (λ (u : View). marks_with g (code_of codes g) u.moved) views id v (with_moved f c v) at in let q' = marks_with_push g (code_of codes g) f c v.moved in
        let off : (f == g) ≡ false = ne_eqb f g (λ e. n (sym e)) in
        let here : moves_of g (set views id (with_moved f c v)) ≡ moves_of g views = let z : cond {A = ℕ} (f == g) 1 0 ≡ 0 = ap (λ (b : Bool). cond {A = ℕ} b 1 0) off in omega arith in
        let with' : moves_with g (code_of codes g) (set views id (with_moved f c v)) ≡ moves_with g (code_of codes g) views = let z : cond {A = ℕ} ((f == g) && (c == code_of codes g)) 1 0 ≡ 0 =
        ap (λ (b : Bool). cond {A = ℕ} (b && (c == code_of codes g)) 1 0)
        off in omega arith in
        rw (written_else g n, here, with') (r.moved g)

    -- after the word was moved
    writes : Kept codes sizes written (set views id (with_moved f c v))
    writes = let w : View = with_moved f c v in record {
      one_each = length-set words (f + 1) c ∙ r.one_each;
      claimed = λ x. (let e = sum_set (λ (u : View). times x u.claimed) views id v w at in let p = r.claimed x in rw written_counter (omega arith));
      moved = λ g. moved_written g (ℕ_discrete g f);
      seen = each_set (λ (u : View). Seen written u.seen) views id w (each_weaker (λ (u : View). Seen words u.seen) (λ (u : View). Seen written u.seen) views (λ u h. seen_written u.seen h) r.seen)
          (All-push (λ (m : Mark). (word_of written (fault_number m.fault) ≡ m.code) × (m.code ≢ 0)) v.seen (mark f c) (seen_written v.seen (r.seen id v at)) (written_here, graded));
      shares = (let e = sum_set (λ (u : View). u.share) views id v w at in let p = r.shares in omega arith);
      calls = (let e = sum_set (λ (u : View). u.calls) views id v w at in let p = r.calls in rw written_counter (omega arith));
      within = each_set Within views id w r.within (let h = r.within id v at in (omega arith, λ z. absurd (omega arith)));
      dry = each_set (λ (u : View). IsTrue u.dry → sizes.claims ≤ counter written) views id w (λ j u e t. (let h = r.dry j u e t in rw written_counter h))
          (λ t. (let h = r.dry id v at t in rw written_counter h));
    }

  -- after a new seat was split off
  splits : v.calls + lent_share < v.share → Kept codes sizes words (set views id (without_lent v) ++ newcomer v ∷ [])
  splits room = let a : View = without_lent v in let b : View = newcomer v in record {
    one_each = r.one_each;
    claimed = λ x. (let e = sum_set (λ (u : View). times x u.claimed) views id v a at in let p = r.claimed x in let s = sum_by_push (λ (u : View). times x u.claimed) (set views id a) b in
        omega arith);
    moved = λ f. (let e = sum_set (λ (u : View). marks f u.moved) views id v a at in let s = sum_by_push (λ (u : View). marks f u.moved) (set views id a) b in
        let e' = sum_set (λ (u : View). marks_with f (code_of codes f) u.moved) views id v a at in let s' = sum_by_push (λ (u : View). marks_with f (code_of codes f) u.moved) (set views id a) b in
        let here : moves_of f (set views id a ++ b ∷ []) ≡ moves_of f views = omega arith in
        let with' : moves_with f (code_of codes f) (set views id a ++ b ∷ []) ≡ moves_with f (code_of codes f) views = omega arith in
        rw (here, with') (r.moved f));
    seen = each_push (λ (u : View). Seen words u.seen) (set views id a) b (each_set (λ (u : View). Seen words u.seen) views id a r.seen (r.seen id v at)) (r.seen id v at);
    shares = (let e = sum_set (λ (u : View). u.share) views id v a at in let p = r.shares in let s = sum_by_push (λ (u : View). u.share) (set views id a) b in omega arith);
    calls = (let e = sum_set (λ (u : View). u.calls) views id v a at in let p = r.calls in let s = sum_by_push (λ (u : View). u.calls) (set views id a) b in omega arith);
    within = each_push Within (set views id a) b (each_set Within views id a r.within (omega arith, λ z. absurd (omega arith))) (omega arith, λ z. absurd (omega arith));
    dry = each_push (λ (u : View). IsTrue u.dry → sizes.claims ≤ counter words) (set views id a) b
        (each_set (λ (u : View). IsTrue u.dry → sizes.claims ≤ counter words) views id a r.dry (λ t. r.dry id v at t)) (λ t. absurd (true≢false (sym t)));
  }

-- of two views one is dry
joined_dry : (a b : Bool) (P : Type 0) → (IsTrue a → P) → (IsTrue b → P) → IsTrue (a || b) → P
joined_dry true b P f g t = f refl
joined_dry false b P f g t = g t

module _ (codes : List ℕ) (sizes : Sizes) (words : List ℕ) (views : List View) (r : Kept codes sizes words views) (id : ℕ) (v : View) (at : get_elem? views id ≡ some v)
    (other : ℕ) (w : View) (apart : other ≢ id) (there : get_elem? (set views id (joined v w)) other ≡ some w) (some_share : 0 < v.share) where
  abbrev after : List View
  after = set (set views id (joined v w)) other spent_view

  there_before : get_elem? views other ≡ some w
  there_before = ⊎_elim (λ t. absurd (apart t.0)) (λ t. t.1) (at_set views id other (joined v w) w there)

  sum_joined : (f : View → ℕ) → f spent_view ≡ 0 → f (joined v w) ≡ f v + f w → sum_by f after ≡ sum_by f views
  sum_joined f z both = let e = sum_set f views id v (joined v w) at in let e' = sum_set f (set views id (joined v w)) other w spent_view there in omega arith

  each_joined : (P : View → Type 0) → EachView P views → P (joined v w) → P spent_view → EachView P after
  each_joined P all both spent = each_set P (set views id (joined v w)) other spent_view (each_set P views id (joined v w) all both) spent

  -- after two seats were joined
  joins : Kept codes sizes words after
  joins = record {
    one_each = r.one_each;
    claimed = λ x. sum_joined (λ (u : View). times x u.claimed) refl (times-append x v.claimed w.claimed) ∙ r.claimed x;
    moved = λ f. rw (
      sum_joined (λ (u : View). marks f u.moved) refl (marks-append f v.moved w.moved),
      sum_joined (λ (u : View). marks_with f (code_of codes f) u.moved) refl (marks_with-append f (code_of codes f) v.moved w.moved),
    ) (r.moved f);
    seen = each_joined (λ (u : View). Seen words u.seen) r.seen (All-append (λ (m : Mark). (word_of words (fault_number m.fault) ≡ m.code) × (m.code ≢ 0)) v.seen w.seen (r.seen id v at)
        (r.seen other w there_before)) (All-nil (λ (m : Mark). (word_of words (fault_number m.fault) ≡ m.code) × (m.code ≢ 0)));
    shares = sum_joined (λ (u : View). u.share) refl refl ∙ r.shares;
    calls = sum_joined (λ (u : View). u.calls) refl refl ∙ r.calls;
    within = each_joined Within r.within (let a = r.within id v at in let b = r.within other w there_before in (omega arith, λ z. absurd (omega arith))) (omega arith, λ _. refl);
    dry = each_joined (λ (u : View). IsTrue u.dry → sizes.claims ≤ counter words) r.dry (joined_dry v.dry w.dry _ (r.dry id v at) (r.dry other w there_before)) (λ t. absurd (true≢false (sym t)));
  }

-- where one view has the whole share, it has all that the views have
module _ (codes : List ℕ) (sizes : Sizes) (words : List ℕ) (views : List View) (r : Kept codes sizes words views) (id : ℕ) (v : View) (at : get_elem? views id ≡ some v)
    (whole : v.share ≡ 2 ^ 62) where
  all_of_it : (f : View → ℕ) → f spent_view ≡ 0 → sum_by f views ≡ f v
  all_of_it f z = alone f z views id v at r.within (r.shares ∙ sym whole)

  pub all_moved : (f : ℕ) → Moved codes f (word_of words f) (marks f v.moved) (marks_with f (code_of codes f) v.moved)
  all_moved f = rw (← all_of_it (λ (u : View). marks f u.moved) refl, ← all_of_it (λ (u : View). marks_with f (code_of codes f) u.moved) refl) (r.moved f)

  pub all_claimed : IsTrue v.dry → (x : ℕ) → times x v.claimed ≡ once_below x sizes.claims
  all_claimed dry x = let h = r.dry id v at dry in let least : min (counter words) sizes.claims ≡ sizes.claims = omega arith in
      sym (all_of_it (λ (u : View). times x u.claimed) refl) ∙ r.claimed x ∙ ap (once_below x) least

module _ (codes : List ℕ) (sizes : Sizes) (slots id : ℕ) (me : Me (Unit {0}) View) where
  -- what a step asks of the table: at the counter
  pub claims_allowed : me.0.calls < me.0.share → Allows (Holds codes sizes) slots id me 0 (λ n. (n + 1) % 2 ^ 64) (Claimed sizes.claims (step slots 0 1 0 none) me)
  claims_allowed room s r _ at _ = let n : ℕ = counter s.words in let v : View = me.0 in elim (dec_lt n sizes.claims) [
    | yes h ↦ (let is : nat_lt n sizes.claims ≡ true = lt-ltb n sizes.claims h in (
      with_claim n v,
      keeps,
      tt,
      rw (fits codes sizes s.words s.views r id v at) (claims_kept codes sizes s.words s.views r id v at (with_claim n v) room refl refl refl refl (λ t. (let d = r.dry id v at t in omega arith))
          (λ x. (let p = times_push x n v.claimed in let q = once_more x n sizes.claims h in omega arith))),
      (ap (λ (b : Bool). cond b (with_claim n v) (with_none v)) (sym is), refl, (let e = part_le (λ (u : View). u.calls) s.views id v at in let q = r.calls in omega arith)),
    ))
    | no h ↦ (let le : sizes.claims ≤ n = omega arith in let is : nat_lt n sizes.claims ≡ false = le-ltb n sizes.claims le in (
      with_none v,
      keeps,
      tt,
      rw (fits codes sizes s.words s.views r id v at) (claims_kept codes sizes s.words s.views r id v at (with_none v) room refl refl refl refl (λ t. omega arith)
          (λ x. (let q = once_no_more x n sizes.claims le in omega arith))),
      (ap (λ (b : Bool). cond b (with_claim n v) (with_none v)) (sym is), refl, (let e = part_le (λ (u : View). u.calls) s.views id v at in let q = r.calls in omega arith)),
    ))
  ]

  -- at a fault's word, which is moved
  pub settle_allowed : (f c : ℕ) → f < sizes.faults → c ≡ code_of codes f → c ≢ 0 → 0 < me.0.share
      → Allows (Holds codes sizes) slots id me (f + 1) (λ n. either (n == 0) c n) (Settles codes f c (step slots (f + 1) 0 c none) me)
  settle_allowed f c inside is graded some_share s r _ at _ = let n : ℕ = word_of s.words f in let v : View = me.0 in elim (ℕ_discrete n 0) [
    | yes h ↦ (
      with_moved f c v,
      keeps,
      tt,
      exchanged n 0 c (λ k. Kept codes sizes (set s.words (f + 1) k) (set s.views id (with_moved f c v))) (λ _. writes codes sizes s.words s.views r id v at f c inside is graded h some_share)
          (λ no. absurd (no h)),
      record { view = ap (λ (b : Bool). cond b (with_moved f c v) (with_seen f n v)) (sym (eq-eqb n 0 h)); slots = refl; was = found codes sizes s.words s.views r id v at f },
    )
    | no h ↦ (
      with_seen f n v,
      keeps,
      tt,
      exchanged n 0 c (λ k. Kept codes sizes (set s.words (f + 1) k) (set s.views id (with_seen f n v))) (λ e. absurd (h e))
          (λ _. rw (set-get_or s.words (f + 1) 0) (sees codes sizes s.words s.views r id v at f some_share h)),
      record { view = ap (λ (b : Bool). cond b (with_moved f c v) (with_seen f n v)) (sym (ne_eqb n 0 h)); slots = refl; was = found codes sizes s.words s.views r id v at f },
    )
  ]

  -- at a fault's word, which is read
  pub look_allowed : (f : ℕ) → 0 < me.0.share → Allows (Holds codes sizes) slots id me (f + 1) (λ n. n) (Looks codes f (step slots (f + 1) 0 0 none) me)
  look_allowed f some_share s r _ at _ = let n : ℕ = word_of s.words f in let v : View = me.0 in elim (ℕ_discrete n 0) [
    | yes h ↦ (
      v,
      keeps,
      tt,
      rw (set-get_or s.words (f + 1) 0) (same_words codes sizes s.words s.views r id v at v refl refl refl refl refl some_share (r.seen id v at)),
      record { view = ap (λ (b : Bool). cond b v (with_seen f n v)) (sym (eq-eqb n 0 h)); slots = refl; was = found codes sizes s.words s.views r id v at f },
    )
    | no h ↦ (
      with_seen f n v,
      keeps,
      tt,
      rw (set-get_or s.words (f + 1) 0) (sees codes sizes s.words s.views r id v at f some_share h),
      record { view = ap (λ (b : Bool). cond b v (with_seen f n v)) (sym (ne_eqb n 0 h)); slots = refl; was = found codes sizes s.words s.views r id v at f },
    )
  ]

  -- where a seat is split
  pub split_allowed : me.0.calls + lent_share < me.0.share → Splits (Holds codes sizes) id me.0 (without_lent me.0) (newcomer me.0)
  split_allowed room s r at = splits codes sizes s.words s.views r id me.0 at room

  -- where two are joined
  pub join_allowed : (other : ℕ) (w : View) → 0 < me.0.share → Joins (Holds codes sizes) id me.0 other w (joined me.0 w) spent_view
  join_allowed other w some_share s r at apart there = joins codes sizes s.words s.views r id me.0 at other w apart there some_share

-- the words of a closed table, of which the first is the counter
pub closes : (codes : List ℕ) (sizes : Sizes) (words : List ℕ) (views : List View) → Kept codes sizes words views → (id : ℕ) (v : View) → get_elem? views id ≡ some v → v.share ≡ 2 ^ 62
    → (copy : List ℕ) → length copy ≡ sizes.faults → ((f : ℕ) → f < sizes.faults → slice_index copy f ≡ slice_index words (f + 1)) → Closing codes sizes copy v
closes codes sizes words views r id v at whole copy long same =
    let read : (f : ℕ) → slice_index copy f ≡ slice_index words (f + 1) = λ f. elim (dec_lt f sizes.faults) [
      | yes h ↦ same f h
      | no h ↦ (let past : length copy ≤ f = omega arith in let past' : length words ≤ f + 1 = (let k = r.one_each in omega arith) in
          get_or_past copy f 0 past ∙ sym (get_or_past words (f + 1) 0 past'))
    ] in record {
      one_each = long;
      moved = λ f. rw (read f) (all_moved codes sizes words views r id v at whole f);
      seen = All-weaker (λ (m : Mark). (word_of words (fault_number m.fault) ≡ m.code) × (m.code ≢ 0)) (λ (m : Mark). (slice_index copy (fault_number m.fault) ≡ m.code) × (m.code ≢ 0))
          (λ m h. (read (fault_number m.fault) ∙ h.0, h.1)) v.seen (r.seen id v at);
      claimed = all_claimed codes sizes words views r id v at whole;
    }
