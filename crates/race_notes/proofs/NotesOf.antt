-- Notes of some blocks are those of one block more, once its accesses are noted.
use Rattle.std.proofs.Common.{◌≡◌, ℕ, ◌+◌, ◌≤◌, List, [], ◌∷◌, ◌++◌, Bool, true, false, not, ◌||◌, ◌&&◌, cond, refl, sym, ap, subst, ◌∙◌, inl, inr, arith, nat_eq, count_by, append_assoc}
use Rattle.std.specs.Prelude.{◌⊎◌, Option, Some, None, is_none}
use Rattle.std.proofs.lemmas.Bool.{eqb-true, eq-eqb}
use Rattle.std.proofs.lemmas.List.{map-append}
use Rattle.std.proofs.lemmas.List.Sums.{sum_by-cons}
use Rattle.graph_order.specs.ListLaws.{has-append}
use Rattle.vf_base.specs.Lists.{has}
use Rattle.v_design.specs.Accesses.{AccessAct}
use Rattle.v_design.specs.Logs.{is_write}
use Rattle.trace_window.specs.Touched.{is_touching}
use Rattle.block_told.specs.Tells.{Seen}
use Rattle.race_notes.specs.declared.note.ObjectNote.{ObjectNote}
use Rattle.race_notes.specs.Notes.{OwnBlock, NoneSeen, NoneSees, count_seen, is_reading, is_of, reads, writes, touches, writes_beside, empty_note, note_at, NotesKept, IsSince, IsNoteOf, span_of}
use Rattle.race_notes.specs.Access.{updated, AreNoted, written_in, ListsNoted, KeepsListed}
use Rattle.race_notes.specs.Told.{NotesBlock}
use Rattle.race_notes.proofs.Lists.{all-joined, all-weaker}
use Rattle.race_notes.proofs.Noted.{or-left, or-right, neither, not-false, Grows, all-grow, number_if, is_touched, touching-is, suspect-stays, met-stays, all-taken, unread-none, unwritten-none, since-told}
use Rattle.race_notes.proofs.Noted.{since-stays, touch-count}

-- Counts

counted-none : (test : ℕ → AccessAct → Bool) (seen : List Seen) → NoneSeen test seen → count_by (λ (one : Seen). test one.object one.act) seen ≡ 0
counted-none test [] none = refl
counted-none test (one ∷ seen) none =
    let here : number_if (test one.object one.act) ≡ 0 = ap number_if none.0 in
    let rest : count_by (λ (one : Seen). test one.object one.act) seen ≡ 0 = counted-none test seen none.1 in
    let parts : count_by (λ (one : Seen). test one.object one.act) (one ∷ seen) ≡ number_if (test one.object one.act) + count_by (λ (one : Seen). test one.object one.act) seen =
    sum_by-cons (λ (one : Seen). cond (test one.object one.act) 1 0) one seen in
    omega (arith, here, rest, parts)

seen-none : (test : ℕ → AccessAct → Bool) (blocks : List OwnBlock) → NoneSees test blocks → count_seen test blocks ≡ 0
seen-none test [] none = refl
seen-none test (block ∷ blocks) none =
    let here = counted-none test block.seen none.0 in
    let rest = seen-none test blocks none.1 in
    omega (arith, here, rest)

count-joined : (test : ℕ → AccessAct → Bool) (blocks : List OwnBlock) (block : OwnBlock) →
    count_seen test (blocks ++ block ∷ []) ≡ count_seen test blocks + count_by (λ (one : Seen). test one.object one.act) block.seen
count-joined test [] block = omega arith
count-joined test (first ∷ blocks) block = let rest = count-joined test blocks block in omega (arith, rest)

-- what is neither read nor written isn't touched
touching-parts : (act : AccessAct) → is_reading act ≡ false → is_write act ≡ false → is_touching act ≡ false
touching-parts act unread unwritten = sym (touching-is act) ∙ (λ i. unread i || unwritten i)

untouched : (object other : ℕ) (act : AccessAct) → reads object other act ≡ false → writes object other act ≡ false → touches object other act ≡ false
untouched object other act unread unwritten = go (nat_eq other object) refl
  where
    go : (b : Bool) → nat_eq other object ≡ b → touches object other act ≡ false
    go false e = ap (λ b. b && is_touching act) e
    go true e =
        ap (λ b. b && is_touching act) e
        ∙ touching-parts act (sym (ap (λ b. b && is_reading act) e) ∙ unread) (sym (ap (λ b. b && is_write act) e) ∙ unwritten)

none-touched : (object : ℕ) (seen : List Seen) → NoneSeen (reads object) seen → NoneSeen (writes object) seen → NoneSeen (touches object) seen
none-touched object [] unread unwritten = tt
none-touched object (one ∷ seen) unread unwritten = (untouched object one.object one.act unread.0 unwritten.0, none-touched object seen unread.1 unwritten.1)

none-touches : (object : ℕ) (blocks : List OwnBlock) → NoneSees (reads object) blocks → NoneSees (writes object) blocks → NoneSees (touches object) blocks
none-touches object [] unread unwritten = tt
none-touches object (block ∷ blocks) unread unwritten = (none-touched object block.seen unread.0 unwritten.0, none-touches object blocks unread.1 unwritten.1)

-- so often some blocks read or write an object, by its note
blocks-count : (blocks : List OwnBlock) (object : ℕ) (note : ObjectNote) → IsNoteOf blocks object note → note.again ≡ false → count_seen (touches object) blocks ≤ number_if (is_touched note)
blocks-count blocks object note is once = go note.read refl note.written refl
  where
    go : (r : Bool) → note.read ≡ r → (w : Bool) → note.written ≡ w → count_seen (touches object) blocks ≤ number_if (is_touched note)
    go true e w f = let set : number_if (is_touched note) ≡ 1 = ap (λ b. number_if (b || note.written)) e in let most = is.once once in omega (arith, set, most)
    go false e true f = let set : number_if (is_touched note) ≡ 1 = (λ i. number_if (e i || f i)) in let most = is.once once in omega (arith, set, most)
    go false e false f =
        let none = seen-none (touches object) blocks (none-touches object blocks (is.unread e) (is.unwritten f)) in omega (arith, none)

-- One block more

module _ (has_like : Seen → Type 0) (block : OwnBlock) where
  note-more : (blocks : List OwnBlock) (old new : ℕ → ObjectNote) (object : ℕ) → AreNoted has_like block.begins block.seen old new → IsNoteOf blocks object (old object) →
      IsNoteOf (blocks ++ block ∷ []) object (new object)
  note-more blocks old new object noted is = record {
    unread = λ unset.
        all-joined (λ (b : OwnBlock). NoneSeen (reads object) b.seen) blocks (block ∷ []) (is.unread (kept (λ (n : ObjectNote). n.read) (grows.read) unset))
        (unread-none has_like block.begins block.seen old new object noted unset, tt);
    unwritten = λ unset.
        all-joined (λ (b : OwnBlock). NoneSeen (writes object) b.seen) blocks (block ∷ []) (is.unwritten (kept (λ (n : ObjectNote). n.written) (grows.written) unset))
        (unwritten-none has_like block.begins block.seen old new object noted unset, tt);
    once = λ unset.
        let here = touch-count has_like block.begins block.seen old new object noted unset in
        let before = blocks-count blocks object (old object) is (kept (λ (n : ObjectNote). n.again) (grows.again) unset) in
        let all = count-joined (touches object) blocks block in
        omega (arith, here, before, all);
    since = since-more (old object).since refl;
  }
    where
      grows : Grows (old object) (new object)
      grows = all-grow has_like block.begins block.seen old new noted object

      kept : (flag : ObjectNote → Bool) → (flag (old object) ≡ true → flag (new object) ≡ true) → flag (new object) ≡ false → flag (old object) ≡ false
      kept flag f e = not-false (flag (old object)) (flag (new object)) f e

      extended : (moment : ℕ) → IsSince blocks object (Some moment) → IsSince (blocks ++ block ∷ []) object (Some moment)
      extended moment s = (s.0, s.1, s.2 ++ block ∷ [], ap (λ l. l ++ block ∷ []) s.3 ∙ append_assoc s.0 (s.1 ∷ s.2) (block ∷ []), s.4, s.5)

      from-none : NoneSees (is_of object) blocks → (((new object).since ≡ None) × NoneSeen (is_of object) block.seen) ⊎ ((new object).since ≡ Some block.begins) →
          IsSince (blocks ++ block ∷ []) object (new object).since
      from-none none (inl h) =
          subst (IsSince (blocks ++ block ∷ []) object) (sym h.0) (all-joined (λ (b : OwnBlock). NoneSeen (is_of object) b.seen) blocks (block ∷ []) none (h.1, tt))
      from-none none (inr h) = subst (IsSince (blocks ++ block ∷ []) object) (sym h) (blocks, block, [], refl, refl, none)

      since-more : (o : Option ℕ) → (old object).since ≡ o → IsSince (blocks ++ block ∷ []) object (new object).since
      since-more None e = from-none (subst (IsSince blocks object) e is.since) (since-told has_like block.begins block.seen old new object noted e)
      since-more (Some moment) e =
          subst (IsSince (blocks ++ block ∷ []) object) (sym (since-stays has_like block.begins block.seen old new object moment noted e))
          (extended moment (subst (IsSince blocks object) e is.since))

-- What is written

-- where all that some accesses write stands in a list, none writes beside it
writes-listed : (objects : List ℕ) (seen : List Seen) → ((object : ℕ) → has (written_in seen) object ≡ true → has objects object ≡ true) → NoneSeen (writes_beside objects) seen
writes-listed objects [] listed = tt
writes-listed objects (one ∷ seen) listed =
    (here (is_write one.act) refl, writes-listed objects seen (λ object e. listed object (later (is_write one.act) object e)))
  where
    later : (b : Bool) (object : ℕ) → has (written_in seen) object ≡ true → has (cond b (one.object ∷ written_in seen) (written_in seen)) object ≡ true
    later true object e = or-right (nat_eq one.object object) (has (written_in seen) object) e
    later false object e = e

    here : (b : Bool) → is_write one.act ≡ b → (is_write one.act && not (has objects one.object)) ≡ false
    here false e = ap (λ b. b && not (has objects one.object)) e
    here true e =
        let first : has (written_in (one ∷ seen)) one.object ≡ true =
        ap (λ b. has (cond b (one.object ∷ written_in seen) (written_in seen)) one.object) e ∙ or-left (nat_eq one.object one.object) (has (written_in seen) one.object) (eq-eqb one.object one.object refl) in
        (λ i. e i && not (listed one.object first i))

-- and none does beside a longer list
beside-longer : (old new : List ℕ) → ((object : ℕ) → has old object ≡ true → has new object ≡ true) → (blocks : List OwnBlock) → NoneSees (writes_beside old) blocks →
    NoneSees (writes_beside new) blocks
beside-longer old new longer blocks none =
    all-weaker (λ (b : OwnBlock). NoneSeen (writes_beside old) b.seen) (λ (b : OwnBlock). NoneSeen (writes_beside new) b.seen) blocks
    (λ b h. all-weaker (λ (s : Seen). writes_beside old s.object s.act ≡ false) (λ (s : Seen). writes_beside new s.object s.act ≡ false) b.seen (λ s e. weaker s (is_write s.act) (has old s.object) refl (has new s.object) refl e) h)
    none
  where
    weaker : (s : Seen) (w h : Bool) → has old s.object ≡ h → (k : Bool) → has new s.object ≡ k → (w && not (has old s.object)) ≡ false → (w && not (has new s.object)) ≡ false
    weaker s false h e k f none = refl
    weaker s true h e true f none = ap not f
    weaker s true true e false f none = let z : true ≡ false = sym (longer s.object e) ∙ f in cc
    weaker s true false e false f none = let z : true ≡ false = sym (ap not e) ∙ none in cc

-- An access more

pub listed-more : (old mid new : ℕ → ObjectNote) (listed kept later : List ℕ) (object : ℕ) (note : ObjectNote) → KeepsListed old mid listed kept → ListsNoted object (mid object) kept later →
    ((other : ℕ) → new other ≡ updated mid object note other) → KeepsListed old new listed later
listed-more old mid new listed kept later object note before lists more = record {
  stays = λ other e. before.stays other (neither (has kept other) (is_none (mid object).since && nat_eq object other) (sym (lists other) ∙ e)).0;
  others = λ other e fresh.
      let parts = neither (has kept other) (is_none (mid object).since && nat_eq object other) (sym (lists other) ∙ e) in
      let same : mid other ≡ old other = before.others other parts.0 fresh in
      apart other parts.1 same fresh (nat_eq object other) refl;
}
  where
    apart : (other : ℕ) → (is_none (mid object).since && nat_eq object other) ≡ false → mid other ≡ old other → is_none (old other).since ≡ true → (b : Bool) → nat_eq object other ≡ b →
        new other ≡ old other
    apart other fails same fresh false e = more other ∙ ap (λ b. cond b note (mid other)) e ∙ same
    apart other fails same fresh true e =
        let here : is_none (mid object).since ≡ true = ap (λ o. is_none (mid o).since) (eqb-true object other e) ∙ ap (λ (n : ObjectNote). is_none n.since) same ∙ fresh in
        let z : true ≡ false = sym (λ i. here i && e i) ∙ fails in
        cc

-- All of it

-- what is noted of a block's accesses, where its objects are listed, and what both machines wrote is put behind the objects that were written before
pub record IsNoted (has_like : Seen → Type 0) (written : List ℕ) (block : OwnBlock) (old new : NotesKept) : Type 0 where
  pub first_is : new.first ≡ old.first
  pub objects : AreNoted has_like block.begins block.seen (note_at old.objects) (note_at new.objects)
  pub listed : KeepsListed (note_at old.objects) (note_at new.objects) old.noted new.noted
  pub changed : new.changed ≡ (old.changed ++ written_in block.seen) ++ written
  pub spans : new.spans ≡ old.spans ++ span_of block ∷ []

pub notes_block : (has_like : Seen → Type 0) (written : List ℕ) (block : OwnBlock) (old new : NotesKept) → IsNoted has_like written block old new → NotesBlock has_like written block old new
notes_block has_like written block old new is = record {
  grow = record {
    first_is = is.first_is;
    suspect = suspect-stays has_like block.begins block.seen (note_at old.objects) (note_at new.objects) is.objects;
    met = met-stays has_like block.begins block.seen (note_at old.objects) (note_at new.objects) is.objects;
    changed = old-changed;
  };
  accesses = all-taken has_like block.begins block.seen (note_at old.objects) (note_at new.objects) is.objects;
  own_written = writes-listed new.changed block.seen own-changed;
  good_written = λ object e. among object ∙ or-right (has (old.changed ++ written_in block.seen) object) (has written object) e;
  notes = λ blocks of. record {
    spans = is.spans ∙ ap (λ l. l ++ span_of block ∷ []) of.spans ∙ sym (map-append span_of blocks (block ∷ []));
    objects = λ object. note-more has_like block blocks (note_at old.objects) (note_at new.objects) object is.objects (of.objects object);
    others = λ object e.
        let was : note_at old.objects object ≡ empty_note = of.others object (is.listed.stays object e) in
        is.listed.others object e (ap (λ (n : ObjectNote). is_none n.since) was) ∙ was;
    written =
        all-joined (λ (b : OwnBlock). NoneSeen (writes_beside new.changed) b.seen) blocks (block ∷ []) (beside-longer old.changed new.changed old-changed blocks of.written)
        (writes-listed new.changed block.seen own-changed, tt);
  };
}
  where
    among : (object : ℕ) → has new.changed object ≡ (has (old.changed ++ written_in block.seen) object || has written object)
    among object = ap (λ l. has l object) is.changed ∙ has-append (old.changed ++ written_in block.seen) written object

    old-changed : (object : ℕ) → has old.changed object ≡ true → has new.changed object ≡ true
    old-changed object e =
        among object
        ∙ or-left (has (old.changed ++ written_in block.seen) object) (has written object)
        (has-append old.changed (written_in block.seen) object ∙ or-left (has old.changed object) (has (written_in block.seen) object) e)

    own-changed : (object : ℕ) → has (written_in block.seen) object ≡ true → has new.changed object ≡ true
    own-changed object e =
        among object
        ∙ or-left (has (old.changed ++ written_in block.seen) object) (has written object)
        (has-append old.changed (written_in block.seen) object ∙ or-right (has old.changed object) (has (written_in block.seen) object) e)
