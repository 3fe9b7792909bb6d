-- The faulty log has no conflict: each pair of its accesses is of a suspect object, is left, or has its like in the good log and is ordered as there.
use Rattle.std.proofs.Common.{◌≡◌, ℕ, ◌<◌, ◌≤◌, List, length, Bool, true, false, not, ◌&&◌, refl, sym, ap, subst, ◌∙◌, ◌⊎◌, inl, inr, arith}
use Rattle.std.specs.Prelude.{Option, Some, None, slice_get}
use Rattle.std.proofs.lemmas.Bool.{and_parts, cases_lt, cases_Bool}
use Rattle.vf_base.specs.Lists.{has}
use Rattle.v_design.specs.Designs.{FlatDesign}
use Rattle.v_design.specs.Paths.{net_pieces, is_wild}
use Rattle.v_design.specs.States.{found_or}
use Rattle.v_design.specs.Accesses.{ObjectAccess}
use Rattle.v_design.specs.Logs.{LoggedEvent, LoggedPhase, PhaseAccess, change_of, phase_changes, is_write, counts, orders_others, orders}
use Rattle.v_design.specs.Logs.{events_ordered, access_orders, acts_clash, least_pair, log_accesses}
use Rattle.block_filter.specs.Likes.{Marks, IsLike}
use Rattle.block_filter.specs.Suffice.{IsAwaited}
use Rattle.order_laws.proofs.Conflicts.{In}
use Rattle.order_laws.proofs.FreeWithoutNodes.{tagged, carried}
use Rattle.order_laws.proofs.Ordered.{settling, in_joined}
use Rattle.order_laws.proofs.PathLaws.{true-false}
use Rattle.block_filter.proofs.Places.{in-joined_back, at-in}
use Rattle.block_filter.proofs.Reaches.{Reaches, orders-reaches, GoBack, reaches-orders, orders-self, reaches-back}
use Rattle.block_filter.proofs.Parts.{Part, good_log, faulty_log, Beside, InKind, kind-beside, beside-within, one-beside, earlier-good, AreParts, follow-steps, HasLikeBeside, liked}
use Rattle.block_filter.proofs.Parts.{ChangesBeside, changed, flags, flagged}
use Rattle.block_filter.proofs.Clashes.{like-write, like-orders, self-clash, self-orders, likes-clash, IsClear, clear-turned, clear-pair, clear-none, orders-parts, parts-orders}
use Rattle.block_filter.proofs.Counted.{counted-back, IsSettling, IsOfEvent, log-back, held-in, counted-in, settled-in, wild-alike}

-- a log with what is held from its beginning
abbrev pub whole : List ObjectAccess → List LoggedEvent → LoggedPhase
whole held events = record { held = held; events = events }

-- what is known of the logs of both machines
pub record AreLogs (design : FlatDesign) (marks : Marks) (parts : List Part) (good_held faulty_held : List ObjectAccess) : Type 0 where
  pub parts_are : AreParts design marks parts
  pub held_read : (access : ObjectAccess) → In access good_held → is_write access.act ≡ false
  pub held_alike : (access : ObjectAccess) → In access faulty_held → marks.suspect access.object ≡ false → In access good_held
  pub awaited : (access : PhaseAccess) → In access (log_accesses design (whole faulty_held (faulty_log parts))) → marks.suspect access.access.object ≡ false →
      IsAwaited marks.awaited access.access.act
  pub good_back : GoBack (whole good_held (good_log parts))
  pub faulty_back : GoBack (whole faulty_held (faulty_log parts))
  pub good_none : least_pair design (whole good_held (good_log parts)) ≡ None
  pub suspects : (first second : PhaseAccess) → In first (log_accesses design (whole faulty_held (faulty_log parts))) →
      In second (log_accesses design (whole faulty_held (faulty_log parts))) → marks.suspect first.access.object ≡ true → IsClear (whole faulty_held (faulty_log parts)) first second
  pub left : (first second : PhaseAccess) → In first (log_accesses design (whole faulty_held (faulty_log parts))) →
      In second (log_accesses design (whole faulty_held (faulty_log parts))) → marks.met first.access.object ≡ true → first.access.object ≡ second.access.object →
      (one other : ℕ) → first.event ≡ Some one → second.event ≡ Some other → slice_get (flags parts) one ≡ Some true → one ≤ other →
      IsClear (whole faulty_held (faulty_log parts)) first second

-- Likes in the good log

-- two events, one of each log: of the beginning, of a stretch that both machines take, or of a block with events of their own
pub data EventsMatch (parts : List Part) (met : Bool) (one other : Option ℕ) : Type 0 where
  AreHeld : (none : one ≡ None) (nothing : other ≡ None) → EventsMatch parts met one other
  AreAlike : (g f : ℕ) (good : one ≡ Some g) (faulty : other ≡ Some f) (beside : InKind false parts g f) → EventsMatch parts met one other
  AreMet : (g f : ℕ) (good : one ≡ Some g) (faulty : other ≡ Some f) (known : met ≡ true) (beside : InKind true parts g f) → EventsMatch parts met one other

-- an access of the faulty log has its like among those of the good log
pub record HasLikeInLog (design : FlatDesign) (marks : Marks) (parts : List Part) (good_held : List ObjectAccess) (access : PhaseAccess) : Type 0 where
  pub one : PhaseAccess
  pub stands : In one (log_accesses design (whole good_held (good_log parts)))
  pub like : IsLike marks.awaited one.access access.access
  pub events : EventsMatch parts (marks.met access.access.object) one.event access.event

-- the like of an access that counts does
counts-alike : (design : FlatDesign) (marks : Marks) (parts : List Part) (good_held faulty_held : List ObjectAccess) → AreParts design marks parts → (one other : ObjectAccess) →
    IsLike marks.awaited one other → marks.suspect other.object ≡ false → counts design (phase_changes design (whole faulty_held (faulty_log parts))) other ≡ true →
    counts design (phase_changes design (whole good_held (good_log parts))) one ≡ true
counts-alike design marks parts good_held faulty_held o one other l tame c =
    (λ i. not
    (like-write marks.awaited one other l i
    && (ap (λ object. has (net_pieces design) object && is_wild design (phase_changes design (whole good_held (good_log parts))) object) l.object
    ∙ wild-alike design marks parts o other.object tame) i))
    ∙ c

module _ (design : FlatDesign) (marks : Marks) (parts : List Part) (good_held faulty_held : List ObjectAccess) (k : AreLogs design marks parts good_held faulty_held) where
  like_beside : (access : PhaseAccess) (kind : Bool) (number : ℕ) (l : HasLikeBeside marks parts kind number access.access) → marks.suspect access.access.object ≡ false →
      counts design (phase_changes design (whole faulty_held (faulty_log parts))) access.access ≡ true →
      EventsMatch parts (marks.met access.access.object) (Some l.good) access.event → HasLikeInLog design marks parts good_held access
  like_beside access kind number l tame c m = record {
    one = tagged l.good l.one;
    stands = counted-in design (whole good_held (good_log parts)) l.good l.event l.one l.stands l.among
        (counts-alike design marks parts good_held faulty_held k.parts_are l.one access.access l.like tame c);
    like = l.like;
    events = m;
  }

  like_settling : (access : PhaseAccess) (number : ℕ) (changes : List ℕ) (accesses : List ObjectAccess) (s : IsSettling design changes accesses access.access) →
      changes ≡ phase_changes design (whole faulty_held (faulty_log parts)) → marks.suspect access.access.object ≡ false → access.event ≡ Some number →
      ChangesBeside design parts number s.changed → HasLikeInLog design marks parts good_held access
  like_settling access number changes accesses s same tame at c =
      let w = in-joined_back (λ (a : ObjectAccess). change_of design a.act a.object) c.event.accesses s.changed c.change in
      let wild : (has (net_pieces design) access.access.object && is_wild design (phase_changes design (whole good_held (good_log parts))) access.access.object) ≡ true =
      wild-alike design marks parts k.parts_are access.access.object tame ∙ (λ i. s.piece i && (ap (λ cs. is_wild design cs access.access.object) (sym same) ∙ s.wild) i) in
      record {
        one = tagged c.good (settling w.1 access.access.object);
        stands = settled-in design (whole good_held (good_log parts)) c.good c.event w.1 s.changed access.access.object c.stands (at-in c.event.accesses w.0 w.1 w.2) w.3 s.piece
            (and_parts (has (net_pieces design) access.access.object) (is_wild design (phase_changes design (whole good_held (good_log parts))) access.access.object) wild).1 s.reaches;
        like = record { object = refl; act = inl (sym s.act) };
        events = AreAlike c.good number refl at c.beside;
      }

  -- an access of an object that isn't suspect has its like
  like_in_log : (access : PhaseAccess) → In access (log_accesses design (whole faulty_held (faulty_log parts))) → marks.suspect access.access.object ≡ false →
      HasLikeInLog design marks parts good_held access
  like_in_log access i tame = elim (log-back design (whole faulty_held (faulty_log parts)) access i) [
    | inl h ↦ record {
      one = carried access.access;
      stands = held-in design (whole good_held (good_log parts)) access.access (k.held_alike access.access h.1 tame);
      like = record { object = refl; act = inl refl };
      events = AreHeld refl h.0;
    }
    | inr e ↦ of_event e
        (counted-back design (phase_changes design (whole faulty_held (faulty_log parts))) e.event.accesses access.access e.counted)
  ]
    where
      of_event : (e : IsOfEvent design (whole faulty_held (faulty_log parts)) access) →
          (In access.access e.event.accesses × (counts design (phase_changes design (whole faulty_held (faulty_log parts))) access.access ≡ true))
          ⊎ IsSettling design (phase_changes design (whole faulty_held (faulty_log parts))) e.event.accesses access.access → HasLikeInLog design marks parts good_held access
      of_event e (inl c) = elim (liked design marks parts k.parts_are e.number e.event access.access e.stands c.0) [
        | inl s ↦ true-false (marks.suspect access.access.object) s tame
        | inr (inl l) ↦ like_beside access false e.number l tame c.1 (AreAlike l.good e.number refl e.at l.beside)
        | inr (inr m) ↦ like_beside access true e.number m.1 tame c.1 (AreMet m.1.good e.number refl e.at m.0 m.1.beside)
      ]
      of_event e (inr s) =
          elim
          (changed design marks parts k.parts_are e.number s.changed e.event e.stands
          (in_joined (λ (a : ObjectAccess). change_of design a.act a.object) e.event.accesses s.writer s.changed s.stands s.change)) [
            | inl r ↦ true-false (marks.suspect access.access.object) (r access.access.object s.piece s.reaches) tame
            | inr c ↦ like_settling access e.number (phase_changes design (whole faulty_held (faulty_log parts))) e.event.accesses s refl tame e.at c
          ]

  -- Orders

  -- the events of two accesses that are ordered
  ordered-events : (log : LoggedPhase) (u v : PhaseAccess) (g h : ℕ) → u.event ≡ Some g → v.event ≡ Some h → access_orders log u v ≡ true → orders log g h ≡ true
  ordered-events log u v g h eu ev a = (λ i. events_ordered log (sym eu i) (sym ev i)) ∙ (orders-parts log u v a).1

  ordering : (log : LoggedPhase) (u v : PhaseAccess) (g h : ℕ) → u.event ≡ Some g → v.event ≡ Some h → orders_others u.access.act ≡ true → orders log g h ≡ true → access_orders log u v ≡ true
  ordering log u v g h eu ev a r = parts-orders log u v a ((λ i. events_ordered log (eu i) (ev i)) ∙ r)

  -- what is held from the beginning is ordered with nothing
  held-first : {A : Type 0} (log : LoggedPhase) (u v : PhaseAccess) → u.event ≡ None → access_orders log u v ≡ true → A
  held-first log u v e a = let f : events_ordered log None v.event ≡ true = ap (λ o. events_ordered log o v.event) (sym e) ∙ (orders-parts log u v a).1 in cc

  held-second : {A : Type 0} (log : LoggedPhase) (u v : PhaseAccess) → v.event ≡ None → access_orders log u v ≡ true → A
  held-second log u v e a = go u.event (ap (events_ordered log u.event) (sym e) ∙ (orders-parts log u v a).1)
    where
      go : {A : Type 0} (o : Option ℕ) → events_ordered log o None ≡ true → A
      go None f = cc
      go (Some g) f = cc

  -- where the like of an access of a stretch that both take orders a like, the access orders the other
  carry-order : (x y : PhaseAccess) (u : HasLikeInLog design marks parts good_held x) (v : PhaseAccess) (g f h e : ℕ) → u.one.event ≡ Some g → x.event ≡ Some f → InKind false parts g f →
      v.event ≡ Some h → y.event ≡ Some e → Beside parts h e → access_orders (whole good_held (good_log parts)) u.one v ≡ true →
      access_orders (whole faulty_held (faulty_log parts)) x y ≡ true
  carry-order x y u v g f h e eu ex a ev ey b order =
      let good : LoggedPhase = whole good_held (good_log parts) in
      let c : Reaches (good_log parts) h g = orders-reaches good h g (ordered-events good u.one v g h eu ev order) in
      let r = follow-steps design marks parts k.parts_are c.0 h e g b c.1 in
      let there : Reaches (faulty_log parts) e f = subst (λ n. Reaches (faulty_log parts) e n) (one-beside parts g f r.0 a r.2) r.1 in
      ordering (whole faulty_held (faulty_log parts)) x y f e ex ey (sym (like-orders marks.awaited u.one.access x.access u.like) ∙ (orders-parts good u.one v order).0)
      (reaches-orders (whole faulty_held (faulty_log parts)) k.faulty_back e f
      (let w : e < length (faulty_log parts) = (beside-within parts h e b).1 in omega (arith, w)) there)

  -- Pairs of likes

  -- the likes are one access, or ordered one way or the other
  abbrev AreInOrder : PhaseAccess → PhaseAccess → Type 0
  AreInOrder u v =
      (u ≡ v) ⊎ ((access_orders (whole good_held (good_log parts)) u v ≡ true) ⊎ (access_orders (whole good_held (good_log parts)) v u ≡ true))

  abbrev IsDecided : PhaseAccess → PhaseAccess → Type 0
  IsDecided x y = (access_orders (whole faulty_held (faulty_log parts)) x y ≡ true) ⊎ (access_orders (whole faulty_held (faulty_log parts)) y x ≡ true)

  -- a held access of the good log writes nothing
  held_reads : {A : Type 0} (u : PhaseAccess) → In u (log_accesses design (whole good_held (good_log parts))) → u.event ≡ None → is_write u.access.act ≡ true → A
  held_reads u i e w = elim (log-back design (whole good_held (good_log parts)) u i) [
    | inl h ↦ true-false (is_write u.access.act) w (k.held_read u.access h.1)
    | inr n ↦ (let f : None ≡ Some n.number = sym e ∙ n.at in cc)
  ]

  -- likes that are one access and clash are writes of one event
  one-clash : (u v : PhaseAccess) → u ≡ v → acts_clash u.access.object u.access.act v.access.act ≡ true → acts_clash u.access.object u.access.act u.access.act ≡ true
  one-clash u v same c = ap (λ (w : PhaseAccess). acts_clash u.access.object u.access.act w.access.act) same ∙ c

  both-held : {A : Type 0} (u v : PhaseAccess) → In u (log_accesses design (whole good_held (good_log parts))) → u.event ≡ None → v.event ≡ None →
      acts_clash u.access.object u.access.act v.access.act ≡ true → AreInOrder u v → A
  both-held u v i eu ev c (inl same) = held_reads u i eu (self-clash u.access.object u.access.act (one-clash u v same c))
  both-held u v i eu ev c (inr (inl a)) = held-first (whole good_held (good_log parts)) u v eu a
  both-held u v i eu ev c (inr (inr a)) = held-first (whole good_held (good_log parts)) v u ev a

  one-held : {A : Type 0} (u v : PhaseAccess) (h : ℕ) → u.event ≡ None → v.event ≡ Some h → AreInOrder u v → A
  one-held u v h eu ev (inl same) = let f : None ≡ Some h = sym eu ∙ ap (λ (w : PhaseAccess). w.event) same ∙ ev in cc
  one-held u v h eu ev (inr (inl a)) = held-first (whole good_held (good_log parts)) u v eu a
  one-held u v h eu ev (inr (inr a)) = held-second (whole good_held (good_log parts)) v u eu a

  turned : (u v : PhaseAccess) → AreInOrder u v → AreInOrder v u
  turned u v (inl same) = inl (sym same)
  turned u v (inr (inl a)) = inr (inr a)
  turned u v (inr (inr a)) = inr (inl a)

  -- both are of stretches that both machines take
  both-alike : (x y : PhaseAccess) (u : HasLikeInLog design marks parts good_held x) (v : HasLikeInLog design marks parts good_held y) (g f h e : ℕ) →
      u.one.event ≡ Some g → x.event ≡ Some f → InKind false parts g f → v.one.event ≡ Some h → y.event ≡ Some e → InKind false parts h e →
      acts_clash u.one.access.object u.one.access.act v.one.access.act ≡ true → AreInOrder u.one v.one → IsDecided x y
  both-alike x y u v g f h e eu ex a ev ey b c (inl same) =
      let at : g ≡ h = ap (found_or g) (sym eu ∙ ap (λ (w : PhaseAccess). w.event) same ∙ ev) in
      let one : e ≡ f = one-beside parts g f e a (subst (λ n. Beside parts n e) (sym at) (kind-beside false parts h e b)) in
      inl
      (ordering (whole faulty_held (faulty_log parts)) x y f e ex ey
      (sym (like-orders marks.awaited u.one.access x.access u.like) ∙ self-orders u.one.access.object u.one.access.act (one-clash u.one v.one same c))
      (subst (λ n. orders (whole faulty_held (faulty_log parts)) f n ≡ true) (sym one) (orders-self (whole faulty_held (faulty_log parts)) f)))
  both-alike x y u v g f h e eu ex a ev ey b c (inr (inl o)) = inl (carry-order x y u v.one g f h e eu ex a ev ey (kind-beside false parts h e b) o)
  both-alike x y u v g f h e eu ex a ev ey b c (inr (inr o)) = inr (carry-order y x v u.one h e g f ev ey b eu ex (kind-beside false parts g f a) o)

  -- the first is met in an unlike part, and the second stands before it in a stretch that both take
  met-later : (x y : PhaseAccess) (u : HasLikeInLog design marks parts good_held x) (v : HasLikeInLog design marks parts good_held y) (g f h e : ℕ) →
      u.one.event ≡ Some g → x.event ≡ Some f → InKind true parts g f → v.one.event ≡ Some h → y.event ≡ Some e → InKind false parts h e → e < f →
      AreInOrder u.one v.one → IsDecided x y
  met-later x y u v g f h e eu ex a ev ey b less order = go order
    where
      before : h < g
      before = earlier-good parts h e g f b a less

      go : AreInOrder u.one v.one → IsDecided x y
      go (inl same) = let at : g ≡ h = ap (found_or g) (sym eu ∙ ap (λ (w : PhaseAccess). w.event) same ∙ ev) in absurd (omega (arith, at, before))
      go (inr (inl o)) =
          let c : Reaches (good_log parts) h g = orders-reaches (whole good_held (good_log parts)) h g (ordered-events (whole good_held (good_log parts)) u.one v.one g h eu ev o) in
          let r : g ≤ h = reaches-back (whole good_held (good_log parts)) k.good_back c.0 h g c.1 in
          absurd (omega (arith, r, before))
      go (inr (inr o)) = inr (carry-order y x v u.one h e g f ev ey b eu ex (kind-beside true parts g f a) o)

  module _ (x y : PhaseAccess) (i : In x (log_accesses design (whole faulty_held (faulty_log parts)))) (j : In y (log_accesses design (whole faulty_held (faulty_log parts))))
      (same : x.access.object ≡ y.access.object) (clash : acts_clash x.access.object x.access.act y.access.act ≡ true) where
    -- what is left
    left-first : (g f e : ℕ) → x.event ≡ Some f → y.event ≡ Some e → marks.met x.access.object ≡ true → InKind true parts g f → f ≤ e → IsDecided x y
    left-first g f e ex ey m a b = k.left x y i j m same f e ex ey (flagged parts g f a) b same clash

    left-second : (h f e : ℕ) → x.event ≡ Some f → y.event ≡ Some e → marks.met y.access.object ≡ true → InKind true parts h e → e ≤ f → IsDecided x y
    left-second h f e ex ey m a b =
        clear-turned (whole faulty_held (faulty_log parts)) y x (k.left y x j i m (sym same) e f ey ex (flagged parts h e a) b) same clash

    pair : (u : HasLikeInLog design marks parts good_held x) (v : HasLikeInLog design marks parts good_held y) →
        acts_clash u.one.access.object u.one.access.act v.one.access.act ≡ true → AreInOrder u.one v.one →
        EventsMatch parts (marks.met x.access.object) u.one.event x.event → EventsMatch parts (marks.met y.access.object) v.one.event y.event → IsDecided x y
    pair u v c order (AreHeld eu ex) (AreHeld ev ey) = both-held u.one v.one u.stands eu ev c order
    pair u v c order (AreHeld eu ex) (AreAlike h e ev ey b) = one-held u.one v.one h eu ev order
    pair u v c order (AreHeld eu ex) (AreMet h e ev ey m b) = one-held u.one v.one h eu ev order
    pair u v c order (AreAlike g f eu ex a) (AreHeld ev ey) = one-held v.one u.one g ev eu (turned u.one v.one order)
    pair u v c order (AreMet g f eu ex m a) (AreHeld ev ey) = one-held v.one u.one g ev eu (turned u.one v.one order)
    pair u v c order (AreAlike g f eu ex a) (AreAlike h e ev ey b) = both-alike x y u v g f h e eu ex a ev ey b c order
    pair u v c order (AreMet g f eu ex m a) (AreAlike h e ev ey b) = elim (cases_lt e f) [
      | inl less ↦ met-later x y u v g f h e eu ex a ev ey b less order
      | inr more ↦ left-first g f e ex ey m a more
    ]
    pair u v c order (AreAlike g f eu ex a) (AreMet h e ev ey m b) = elim (cases_lt f e) [
      | inl less ↦ elim (met-later y x v u h e g f ev ey b eu ex a less (turned u.one v.one order)) [ inl o ↦ inr o | inr o ↦ inl o ]
      | inr more ↦ left-second h f e ex ey m b more
    ]
    pair u v c order (AreMet g f eu ex m a) (AreMet h e ev ey n b) = elim (cases_lt f e) [
      | inl less ↦ left-first g f e ex ey m a (omega (arith, less))
      | inr more ↦ left-second h f e ex ey n b more
    ]

  -- two accesses of the faulty log are clear
  clear : (x y : PhaseAccess) → In x (log_accesses design (whole faulty_held (faulty_log parts))) → In y (log_accesses design (whole faulty_held (faulty_log parts))) →
      IsClear (whole faulty_held (faulty_log parts)) x y
  clear x y i j same clash = elim (cases_Bool (marks.suspect x.access.object)) [
    | inl s ↦ k.suspects x y i j s same clash
    | inr tame ↦ go tame (ap marks.suspect (sym same) ∙ tame)
  ]
    where
      go : marks.suspect x.access.object ≡ false → marks.suspect y.access.object ≡ false → IsDecided x y
      go tx ty =
          let u : HasLikeInLog design marks parts good_held x = like_in_log x i tx in
          let v : HasLikeInLog design marks parts good_held y = like_in_log y j ty in
          let c : acts_clash u.one.access.object u.one.access.act v.one.access.act ≡ true =
          likes-clash marks.awaited u.one.access v.one.access x.access y.access u.like v.like (k.awaited x i tx) (k.awaited y j ty) same clash in
          pair x y i j same clash u v c (order u v c) u.events v.events
        where
          order : (u : HasLikeInLog design marks parts good_held x) (v : HasLikeInLog design marks parts good_held y) →
              acts_clash u.one.access.object u.one.access.act v.one.access.act ≡ true → AreInOrder u.one v.one
          order u v c = elim (clear-pair design (whole good_held (good_log parts)) k.good_none u.one v.one u.stands v.stands) [
            | inl e ↦ inl e
            | inr h ↦ inr (h (u.like.object ∙ same ∙ sym v.like.object) c)
          ]

  -- and so the faulty log has no conflict
  pub faulty_none : least_pair design (whole faulty_held (faulty_log parts)) ≡ None
  faulty_none = clear-none design (whole faulty_held (faulty_log parts)) clear
