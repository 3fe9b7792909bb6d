-- What is noted after some accesses.
use Rattle.std.proofs.Common.{◌≡◌, ℕ, ◌+◌, ◌≤◌, List, [], ◌∷◌, ◌++◌, Bool, true, false, not, ◌||◌, ◌&&◌, cond, refl, sym, ap, subst, ◌∙◌, inl, inr, arith, nat_eq, count_by}
use Rattle.std.specs.Prelude.{◌⊎◌, Option, Some, None}
use Rattle.std.proofs.lemmas.Bool.{eqb-true, eq-eqb}
use Rattle.std.proofs.lemmas.List.Sums.{sum_by-cons}
use Rattle.vf_base.specs.Lists.{AllHold}
use Rattle.v_design.specs.Accesses.{AccessAct, Reading, Writing, Awaiting, Ending, Holding, Settling}
use Rattle.v_design.specs.Logs.{is_write}
use Rattle.trace_window.specs.Touched.{is_touching}
use Rattle.block_told.specs.Tells.{Seen}
use Rattle.race_notes.specs.declared.note.ObjectNote.{ObjectNote}
use Rattle.race_notes.specs.Notes.{NoneSeen, is_reading, is_of, reads, writes, touches}
use Rattle.race_notes.specs.Access.{first_moment, with_access, updated, AreNoted}

-- Truth values

pub or-left : (b c : Bool) → b ≡ true → (b || c) ≡ true
or-left true c e = refl
or-left false c e = cc

pub or-right : (b c : Bool) → c ≡ true → (b || c) ≡ true
or-right true c e = refl
or-right false c e = e

pub neither : (b c : Bool) → (b || c) ≡ false → (b ≡ false) × (c ≡ false)
neither true c e = cc
neither false c e = (refl, e)

pub not-false : (b c : Bool) → (b ≡ true → c ≡ true) → c ≡ false → b ≡ false
not-false true c f e = let z : true ≡ false = sym (f refl) ∙ e in cc
not-false false c f e = refl

-- Notes that grow

pub record Grows (old new : ObjectNote) : Type 0 where
  pub suspect : old.suspect ≡ true → new.suspect ≡ true
  pub met : old.met ≡ true → new.met ≡ true
  pub read : old.read ≡ true → new.read ≡ true
  pub written : old.written ≡ true → new.written ≡ true
  pub again : old.again ≡ true → new.again ≡ true
  pub since : (moment : ℕ) → old.since ≡ Some moment → new.since ≡ Some moment

grows-same : (old new : ObjectNote) → new ≡ old → Grows old new
grows-same old new e = subst (Grows old) (sym e) (record { suspect = λ t. t; met = λ t. t; read = λ t. t; written = λ t. t; again = λ t. t; since = λ moment t. t })

grows-on : (old mid new : ObjectNote) → Grows old mid → Grows mid new → Grows old new
grows-on old mid new one other = record {
  suspect = λ t. other.suspect (one.suspect t);
  met = λ t. other.met (one.met t);
  read = λ t. other.read (one.read t);
  written = λ t. other.written (one.written t);
  again = λ t. other.again (one.again t);
  since = λ moment t. other.since moment (one.since moment t);
}

first-stays : (o : Option ℕ) (begins moment : ℕ) → o ≡ Some moment → first_moment o begins ≡ Some moment
first-stays None begins moment e = cc
first-stays (Some first) begins moment e = e

access-grows : (begins : ℕ) (like : Bool) (act : AccessAct) (note : ObjectNote) → Grows note (with_access begins like act note)
access-grows begins like act note = record {
  suspect = or-left note.suspect (not like);
  met = or-left note.met like;
  read = or-left note.read (is_reading act);
  written = or-left note.written (is_write act);
  again = or-left note.again ((note.read || note.written) && (is_reading act || is_write act));
  since = first-stays note.since begins;
}

-- the notes after an access
abbrev after_access : ℕ → Bool → Seen → (ℕ → ObjectNote) → ℕ → ObjectNote
after_access begins like seen notes = updated notes seen.object (with_access begins like seen.act (notes seen.object))

-- that of another object stays, and that of the object is the one with the access
after-other : (begins : ℕ) (like : Bool) (seen : Seen) (notes : ℕ → ObjectNote) (object : ℕ) → nat_eq seen.object object ≡ false → after_access begins like seen notes object ≡ notes object
after-other begins like seen notes object e = ap (λ b. cond b (with_access begins like seen.act (notes seen.object)) (notes object)) e

after-same : (begins : ℕ) (like : Bool) (seen : Seen) (notes : ℕ → ObjectNote) (object : ℕ) → nat_eq seen.object object ≡ true →
    after_access begins like seen notes object ≡ with_access begins like seen.act (notes object)
after-same begins like seen notes object e =
    ap (λ b. cond b (with_access begins like seen.act (notes seen.object)) (notes object)) e ∙ ap (λ o. with_access begins like seen.act (notes o)) (eqb-true seen.object object e)

after-grows : (begins : ℕ) (like : Bool) (seen : Seen) (notes : ℕ → ObjectNote) (object : ℕ) → Grows (notes object) (after_access begins like seen notes object)
after-grows begins like seen notes object = go (nat_eq seen.object object) refl
  where
    go : (b : Bool) → nat_eq seen.object object ≡ b → Grows (notes object) (after_access begins like seen notes object)
    go true e = subst (Grows (notes object)) (sym (after-same begins like seen notes object e)) (access-grows begins like seen.act (notes object))
    go false e = grows-same (notes object) (after_access begins like seen notes object) (after-other begins like seen notes object e)

-- how often an object is read or written, as far as a note tells

abbrev pub number_if : Bool → ℕ
number_if b = cond b 1 0

abbrev pub is_touched : ObjectNote → Bool
is_touched note = note.read || note.written

one-at-most : (b : Bool) → 0 + number_if b ≤ 1
one-at-most true = omega arith
one-at-most false = omega arith

pub touching-is : (act : AccessAct) → (is_reading act || is_write act) ≡ is_touching act
touching-is Reading = refl
touching-is (Writing old new) = refl
touching-is (Awaiting entry) = refl
touching-is (Ending entry) = refl
touching-is (Holding entry) = refl
touching-is Settling = refl

or-none : (b : Bool) → (b || false) ≡ b
or-none true = refl
or-none false = refl

or-some : (b : Bool) → (b || true) ≡ true
or-some true = refl
or-some false = refl

regroup : (a b c d : Bool) → ((a || c) || (b || d)) ≡ ((a || b) || (c || d))
regroup true b c d = refl
regroup false true true d = refl
regroup false true false d = refl
regroup false false c d = refl

touched-more : (begins : ℕ) (note : ObjectNote) (act : AccessAct) (like : Bool) (t : Bool) → is_touching act ≡ t → is_touched (with_access begins like act note) ≡ (is_touched note || t)
touched-more begins note act like t f = regroup note.read note.written (is_reading act) (is_write act) ∙ ap (λ b. is_touched note || b) (touching-is act ∙ f)

was-fresh : (note : ObjectNote) (act : AccessAct) → is_touching act ≡ true → (note.again || (is_touched note && (is_reading act || is_write act))) ≡ false → is_touched note ≡ false
was-fresh note act f unset = and-fresh (is_touched note) (is_reading act || is_write act) (touching-is act ∙ f) (neither note.again (is_touched note && (is_reading act || is_write act)) unset).1
  where
    and-fresh : (b c : Bool) → c ≡ true → (b && c) ≡ false → b ≡ false
    and-fresh true c t e = sym t ∙ e
    and-fresh false c t e = refl

module _ (has_like : Seen → Type 0) (begins : ℕ) where
  pub noted-push : (seen : List Seen) (one : Seen) (like : Bool) (old mid new : ℕ → ObjectNote) → AreNoted has_like begins seen old mid → (like ≡ true → has_like one) →
      ((object : ℕ) → new object ≡ after_access begins like one mid object) → AreNoted has_like begins (seen ++ one ∷ []) old new
  noted-push [] one like old mid new same liked more =
      (like, liked, λ object. more object ∙ (λ i. cond (nat_eq one.object object) (with_access begins like one.act (same one.object i)) (same object i)))
  noted-push (first ∷ seen) one like old mid new noted liked more =
      (noted.0, noted.1, noted-push seen one like (after_access begins noted.0 first old) mid new noted.2 liked more)

  pub all-grow : (seen : List Seen) (old new : ℕ → ObjectNote) → AreNoted has_like begins seen old new → (object : ℕ) → Grows (old object) (new object)
  all-grow [] old new same object = grows-same (old object) (new object) (same object)
  all-grow (first ∷ seen) old new noted object =
      grows-on (old object) (after_access begins noted.0 first old object) (new object) (after-grows begins noted.0 first old object)
      (all-grow seen (after_access begins noted.0 first old) new noted.2 object)

  pub suspect-stays : (seen : List Seen) (old new : ℕ → ObjectNote) → AreNoted has_like begins seen old new → (object : ℕ) → (old object).suspect ≡ true → (new object).suspect ≡ true
  suspect-stays seen old new noted object = (all-grow seen old new noted object).suspect

  pub met-stays : (seen : List Seen) (old new : ℕ → ObjectNote) → AreNoted has_like begins seen old new → (object : ℕ) → (old object).met ≡ true → (new object).met ≡ true
  met-stays seen old new noted object = (all-grow seen old new noted object).met

  -- each access is of a suspect object, or of a met one and has its like
  pub all-taken : (seen : List Seen) (old new : ℕ → ObjectNote) → AreNoted has_like begins seen old new →
      AllHold (λ (one : Seen). ((new one.object).suspect ≡ true) ⊎ (((new one.object).met ≡ true) × has_like one)) seen
  all-taken [] old new noted = tt
  all-taken (first ∷ seen) old new noted = (taken noted.0 noted.1 noted.2, all-taken seen (after_access begins noted.0 first old) new noted.2)
    where
      same : nat_eq first.object first.object ≡ true
      same = eq-eqb first.object first.object refl

      taken : (like : Bool) → (like ≡ true → has_like first) → AreNoted has_like begins seen (after_access begins like first old) new →
          ((new first.object).suspect ≡ true) ⊎ (((new first.object).met ≡ true) × has_like first)
      taken true liked rest =
          let grown = all-grow seen (after_access begins true first old) new rest first.object in
          inr (
            grown.met (ap (λ (n : ObjectNote). n.met) (after-same begins true first old first.object same) ∙ or-right (old first.object).met true refl),
            liked refl,
          )
      taken false liked rest =
          let grown = all-grow seen (after_access begins false first old) new rest first.object in
          inl (grown.suspect (ap (λ (n : ObjectNote). n.suspect) (after-same begins false first old first.object same) ∙ or-right (old first.object).suspect true refl))

  -- What is noted to be false

  -- where no access of a kind is noted of an object, none is of it
  flag-unset : (flag : ObjectNote → Bool) (kind : AccessAct → Bool) → ((note other : ObjectNote) → Grows note other → flag note ≡ true → flag other ≡ true) →
      ((like : Bool) (act : AccessAct) (note : ObjectNote) → kind act ≡ true → flag (with_access begins like act note) ≡ true) →
      (seen : List Seen) (old new : ℕ → ObjectNote) (object : ℕ) → AreNoted has_like begins seen old new → flag (new object) ≡ false →
      NoneSeen (λ other act. nat_eq other object && kind act) seen
  flag-unset flag kind stays sets [] old new object noted unset = tt
  flag-unset flag kind stays sets (first ∷ seen) old new object noted unset =
      (here (nat_eq first.object object) refl (kind first.act) refl, flag-unset flag kind stays sets seen (after_access begins noted.0 first old) new object noted.2 unset)
    where
      here : (b : Bool) → nat_eq first.object object ≡ b → (k : Bool) → kind first.act ≡ k → (nat_eq first.object object && kind first.act) ≡ false
      here false e k f = ap (λ b. b && kind first.act) e
      here true e false f = (λ i. e i && f i)
      here true e true f =
          let set : flag (after_access begins noted.0 first old object) ≡ true = ap flag (after-same begins noted.0 first old object e) ∙ sets noted.0 first.act (old object) f in
          let z : true ≡ false =
          sym (stays (after_access begins noted.0 first old object) (new object) (all-grow seen (after_access begins noted.0 first old) new noted.2 object) set) ∙ unset in cc

  pub unread-none : (seen : List Seen) (old new : ℕ → ObjectNote) (object : ℕ) → AreNoted has_like begins seen old new → (new object).read ≡ false → NoneSeen (reads object) seen
  unread-none = flag-unset (λ (n : ObjectNote). n.read) is_reading (λ note other grows. grows.read) (λ like act note e. or-right note.read (is_reading act) e)

  pub unwritten-none : (seen : List Seen) (old new : ℕ → ObjectNote) (object : ℕ) → AreNoted has_like begins seen old new → (new object).written ≡ false → NoneSeen (writes object) seen
  unwritten-none = flag-unset (λ (n : ObjectNote). n.written) is_write (λ note other grows. grows.written) (λ like act note e. or-right note.written (is_write act) e)

  -- the first block that accesses an object is the one before, or this one, or none
  pub since-told : (seen : List Seen) (old new : ℕ → ObjectNote) (object : ℕ) → AreNoted has_like begins seen old new → (old object).since ≡ None →
      (((new object).since ≡ None) × NoneSeen (is_of object) seen) ⊎ ((new object).since ≡ Some begins)
  since-told [] old new object same none = inl (ap (λ (n : ObjectNote). n.since) (same object) ∙ none, tt)
  since-told (first ∷ seen) old new object noted none =
      go (nat_eq first.object object) refl
      (λ e. since-told seen (after_access begins noted.0 first old) new object noted.2 (ap (λ (n : ObjectNote). n.since) (after-other begins noted.0 first old object e) ∙ none))
    where
      mid : ℕ → ObjectNote
      mid = after_access begins noted.0 first old

      more : (((new object).since ≡ None) × NoneSeen (is_of object) seen) ⊎ ((new object).since ≡ Some begins) → nat_eq first.object object ≡ false →
          (((new object).since ≡ None) × NoneSeen (is_of object) (first ∷ seen)) ⊎ ((new object).since ≡ Some begins)
      more (inl h) e = inl (h.0, (e, h.1))
      more (inr h) e = inr h

      go : (b : Bool) → nat_eq first.object object ≡ b →
          (nat_eq first.object object ≡ false → (((new object).since ≡ None) × NoneSeen (is_of object) seen) ⊎ ((new object).since ≡ Some begins)) →
          (((new object).since ≡ None) × NoneSeen (is_of object) (first ∷ seen)) ⊎ ((new object).since ≡ Some begins)
      go true e rest =
          inr ((all-grow seen mid new noted.2 object).since begins
          (ap (λ (n : ObjectNote). n.since) (after-same begins noted.0 first old object e) ∙ ap (λ o. first_moment o begins) none))
      go false e rest = more (rest e) e

  pub since-stays : (seen : List Seen) (old new : ℕ → ObjectNote) (object moment : ℕ) → AreNoted has_like begins seen old new → (old object).since ≡ Some moment →
      (new object).since ≡ Some moment
  since-stays seen old new object moment noted is = (all-grow seen old new noted object).since moment is

  -- How often an object is read or written

  again-stays : (seen : List Seen) (old new : ℕ → ObjectNote) (object : ℕ) → AreNoted has_like begins seen old new → (new object).again ≡ false → (old object).again ≡ false
  again-stays seen old new object noted unset = not-false (old object).again (new object).again (all-grow seen old new noted object).again unset

  pub touch-count : (seen : List Seen) (old new : ℕ → ObjectNote) (object : ℕ) → AreNoted has_like begins seen old new → (new object).again ≡ false →
      count_by (λ (one : Seen). touches object one.object one.act) seen + number_if (is_touched (old object)) ≤ 1
  touch-count [] old new object noted unset = one-at-most (is_touched (old object))
  touch-count (first ∷ seen) old new object noted unset =
      count-on (nat_eq first.object object) refl (is_touching first.act) refl
      (touch-count seen (after_access begins noted.0 first old) new object noted.2 unset)
    where
      mid : ℕ → ObjectNote
      mid = after_access begins noted.0 first old

      rest : ℕ
      rest = count_by (λ (one : Seen). touches object one.object one.act) seen

      parts : count_by (λ (one : Seen). touches object one.object one.act) (first ∷ seen) ≡ number_if (nat_eq first.object object && is_touching first.act) + rest
      parts = sum_by-cons (λ (one : Seen). cond (touches object one.object one.act) 1 0) first seen

      count-on : (b : Bool) → nat_eq first.object object ≡ b → (t : Bool) → is_touching first.act ≡ t → rest + number_if (is_touched (mid object)) ≤ 1 →
          count_by (λ (one : Seen). touches object one.object one.act) (first ∷ seen) + number_if (is_touched (old object)) ≤ 1
      count-on false e t f less =
          let here : number_if (nat_eq first.object object && is_touching first.act) ≡ 0 = ap (λ b. number_if (b && is_touching first.act)) e in
          let same : number_if (is_touched (mid object)) ≡ number_if (is_touched (old object)) =
          ap (λ (n : ObjectNote). number_if (is_touched n)) (after-other begins noted.0 first old object e) in
          omega (arith, parts, here, same, less)
      count-on true e false f less =
          let here : number_if (nat_eq first.object object && is_touching first.act) ≡ 0 = (λ i. number_if (e i && f i)) in
          let same : number_if (is_touched (mid object)) ≡ number_if (is_touched (old object)) =
          ap (λ (n : ObjectNote). number_if (is_touched n)) (after-same begins noted.0 first old object e)
          ∙ ap number_if (touched-more begins (old object) first.act noted.0 false f) ∙ ap number_if (or-none (is_touched (old object))) in
          omega (arith, parts, here, same, less)
      count-on true e true f less =
          let here : number_if (nat_eq first.object object && is_touching first.act) ≡ 1 = (λ i. number_if (e i && f i)) in
          let mid-unset : (mid object).again ≡ false = again-stays seen mid new object noted.2 unset in
          let fresh : is_touched (old object) ≡ false =
          was-fresh (old object) first.act f (sym (ap (λ (n : ObjectNote). n.again) (after-same begins noted.0 first old object e)) ∙ mid-unset) in
          let was : number_if (is_touched (old object)) ≡ 0 = ap number_if fresh in
          let is : number_if (is_touched (mid object)) ≡ 1 =
          ap (λ (n : ObjectNote). number_if (is_touched n)) (after-same begins noted.0 first old object e)
          ∙ ap number_if (touched-more begins (old object) first.act noted.0 true f ∙ or-some (is_touched (old object))) in
          omega (arith, parts, here, was, is, less)
