-- The logs of both machines by blocks, the latest first: where a chain of causes goes in the good log, one goes in the faulty log beside it.
use Rattle.std.proofs.Common.{◌≡◌, ℕ, zero, suc, ◌+◌, ◌<◌, ◌≤◌, List, [], ◌∷◌, ◌++◌, map, length, Bool, true, false, refl, sym, ap, subst, ◌∙◌, ◌⊎◌, inl, inr, arith, length-append}
use Rattle.std.specs.Prelude.{Option, Some, None, slice_get}
use Rattle.std.proofs.lemmas.Option.{slice_get_within}
use Rattle.v_design.specs.States.{found_or}
use Rattle.v_design.specs.Designs.{FlatDesign}
use Rattle.v_design.specs.Accesses.{ObjectAccess}
use Rattle.v_design.specs.Logs.{LoggedEvent, changes_of}
use Rattle.block_filter.specs.Likes.{Marks, IsLike}
use Rattle.block_filter.specs.Blocks.{ReachesSuspects}
use Rattle.order_laws.proofs.Conflicts.{In}
use Rattle.order_laws.proofs.PathLaws.{true-false}
use Rattle.block_filter.proofs.Places.{get-left, get-right, get-parts}
use Rattle.block_filter.proofs.Reaches.{cause_in, cause-within, cause-right, Steps, Reaches, join-steps, one-step, reaches-left}

-- a block in the logs of both machines, and whether it has events of each machine's own
pub record Part : Type 0 where
  pub good : List LoggedEvent
  pub faulty : List LoggedEvent
  pub unlike : Bool

abbrev pub good_log : List Part → List LoggedEvent
good_log [] = []
good_log (part ∷ parts) = good_log parts ++ part.good

abbrev pub faulty_log : List Part → List LoggedEvent
faulty_log [] = []
faulty_log (part ∷ parts) = faulty_log parts ++ part.faulty

-- Events side by side

-- two events of one part, in its logs from these numbers on; of a stretch that both machines take they have one place
pub record InPart (part : Part) (good_start faulty_start good faulty : ℕ) : Type 0 where
  pub good_place : ℕ
  pub faulty_place : ℕ
  pub good_is : good ≡ good_start + good_place
  pub faulty_is : faulty ≡ faulty_start + faulty_place
  pub good_within : good_place < length part.good
  pub faulty_within : faulty_place < length part.faulty
  pub one_place : part.unlike ≡ false → good_place ≡ faulty_place

abbrev pub Beside : List Part → ℕ → ℕ → Type 0
Beside [] good faulty = ⊥
Beside (part ∷ parts) good faulty = InPart part (length (good_log parts)) (length (faulty_log parts)) good faulty ⊎ Beside parts good faulty

-- the same of parts with events of their own, or of the others
abbrev pub InKind : Bool → List Part → ℕ → ℕ → Type 0
InKind kind [] good faulty = ⊥
InKind kind (part ∷ parts) good faulty = ((part.unlike ≡ kind) × InPart part (length (good_log parts)) (length (faulty_log parts)) good faulty) ⊎ InKind kind parts good faulty

pub kind-beside : (kind : Bool) (parts : List Part) (g f : ℕ) → InKind kind parts g f → Beside parts g f
kind-beside kind [] g f b = absurd b
kind-beside kind (part ∷ parts) g f (inl i) = inl i.1
kind-beside kind (part ∷ parts) g f (inr b) = inr (kind-beside kind parts g f b)

pub beside-within : (parts : List Part) (g f : ℕ) → Beside parts g f → (g < length (good_log parts)) × (f < length (faulty_log parts))
beside-within [] g f b = absurd b
beside-within (part ∷ parts) g f (inl i) = (
  omega (arith, i.good_is, i.good_within, length-append (good_log parts) part.good),
  omega (arith, i.faulty_is, i.faulty_within, length-append (faulty_log parts) part.faulty),
)
beside-within (part ∷ parts) g f (inr b) = (
  (let r : g < length (good_log parts) = (beside-within parts g f b).0 in omega (arith, r, length-append (good_log parts) part.good)),
  (let r : f < length (faulty_log parts) = (beside-within parts g f b).1 in omega (arith, r, length-append (faulty_log parts) part.faulty)),
)

-- an event of a stretch that both take has one event beside it
pub one-beside : (parts : List Part) (g f other : ℕ) → InKind false parts g f → Beside parts g other → other ≡ f
one-beside [] g f other l b = absurd l
one-beside (part ∷ parts) g f other (inl l) (inl b) =
    let i : InPart part (length (good_log parts)) (length (faulty_log parts)) g f = l.1 in
    let p : i.good_place ≡ i.faulty_place = i.one_place l.0 in
    let q : b.good_place ≡ b.faulty_place = b.one_place l.0 in
    omega (arith, p, q, i.good_is, i.faulty_is, b.good_is, b.faulty_is)
one-beside (part ∷ parts) g f other (inl l) (inr b) =
    let i : InPart part (length (good_log parts)) (length (faulty_log parts)) g f = l.1 in
    let r : g < length (good_log parts) = (beside-within parts g other b).0 in
    absurd (omega (arith, i.good_is, r))
one-beside (part ∷ parts) g f other (inr l) (inl b) =
    let r : g < length (good_log parts) = (beside-within parts g f (kind-beside false parts g f l)).0 in
    absurd (omega (arith, b.good_is, r))
one-beside (part ∷ parts) g f other (inr l) (inr b) = one-beside parts g f other l b

-- what stands before an event of an unlike part in the faulty log stands before it in the good log
pub earlier-good : (parts : List Part) (h e g f : ℕ) → InKind false parts h e → InKind true parts g f → e < f → h < g
earlier-good [] h e g f l m less = absurd l
earlier-good (part ∷ parts) h e g f (inl l) (inl m) less = true-false part.unlike m.0 l.0
earlier-good (part ∷ parts) h e g f (inl l) (inr m) less =
    let i : InPart part (length (good_log parts)) (length (faulty_log parts)) h e = l.1 in
    let r : f < length (faulty_log parts) = (beside-within parts g f (kind-beside true parts g f m)).1 in
    absurd (omega (arith, i.faulty_is, r, less))
earlier-good (part ∷ parts) h e g f (inr l) (inl m) less =
    let i : InPart part (length (good_log parts)) (length (faulty_log parts)) g f = m.1 in
    let r : h < length (good_log parts) = (beside-within parts h e (kind-beside false parts h e l)).0 in
    omega (arith, i.good_is, r)
earlier-good (part ∷ parts) h e g f (inr l) (inr m) less = earlier-good parts h e g f l m less

-- What is known of a part

-- two causes: neither is there, or they stand side by side
abbrev pub CausesBeside : List Part → Option ℕ → Option ℕ → Type 0
CausesBeside parts None None = Unit {0}
CausesBeside parts None (Some faulty) = ⊥
CausesBeside parts (Some good) None = ⊥
CausesBeside parts (Some good) (Some faulty) = Beside parts good faulty

-- every event of a part's log but the first has its cause in the part
abbrev pub StaysWithin : ℕ → List LoggedEvent → Type 0
StaysWithin start events = (k : ℕ) → 0 < k → k < length events → (j : ℕ) × (cause_in events k ≡ Some (start + j)) × (j < k)

-- an access has its like among some of the good machine's
abbrev pub HasLikeIn : Marks → List ObjectAccess → ObjectAccess → Type 0
HasLikeIn marks ones access = (one : ObjectAccess) × In one ones × IsLike marks.awaited one access

-- a stretch that both machines take, behind some parts
pub record AlikePart (design : FlatDesign) (marks : Marks) (parts : List Part) (part : Part) : Type 0 where
  pub lengths : length part.good ≡ length part.faulty
  pub causes : (k : ℕ) → k < length part.good → CausesBeside (part ∷ parts) (cause_in part.good k) (cause_in part.faulty k)
  pub likes : (k : ℕ) (x y : LoggedEvent) → slice_get part.good k ≡ Some x → slice_get part.faulty k ≡ Some y → (access : ObjectAccess) → In access y.accesses →
      (marks.suspect access.object ≡ true) ⊎ HasLikeIn marks x.accesses access
  pub changes : (k : ℕ) (x y : LoggedEvent) → slice_get part.good k ≡ Some x → slice_get part.faulty k ≡ Some y → changes_of design x.accesses ≡ changes_of design y.accesses

-- an access has its like in a log
pub record HasLikeAt (marks : Marks) (events : List LoggedEvent) (access : ObjectAccess) : Type 0 where
  pub place : ℕ
  pub event : LoggedEvent
  pub stands : slice_get events place ≡ Some event
  pub one : ObjectAccess
  pub among : In one event.accesses
  pub like : IsLike marks.awaited one access

-- what a log changes reaches suspect net pieces alone
abbrev pub AllReachSuspects : FlatDesign → Marks → List LoggedEvent → Type 0
AllReachSuspects design marks events =
    (k : ℕ) (x : LoggedEvent) → slice_get events k ≡ Some x → (changed : ℕ) → In changed (changes_of design x.accesses) → ReachesSuspects design marks changed

-- a block with events of each machine's own
pub record UnlikePart (design : FlatDesign) (marks : Marks) (parts : List Part) (part : Part) : Type 0 where
  pub first : CausesBeside parts (cause_in part.good 0) (cause_in part.faulty 0)
  pub good_inner : StaysWithin (length (good_log parts)) part.good
  pub faulty_inner : StaysWithin (length (faulty_log parts)) part.faulty
  pub likes : (k : ℕ) (y : LoggedEvent) → slice_get part.faulty k ≡ Some y → (access : ObjectAccess) → In access y.accesses →
      (marks.suspect access.object ≡ true) ⊎ ((marks.met access.object ≡ true) × HasLikeAt marks part.good access)
  pub good_reaches : AllReachSuspects design marks part.good
  pub faulty_reaches : AllReachSuspects design marks part.faulty

abbrev pub IsPart : FlatDesign → Marks → List Part → Bool → Part → Type 0
IsPart design marks parts true part = UnlikePart design marks parts part
IsPart design marks parts false part = AlikePart design marks parts part

abbrev pub AreParts : FlatDesign → Marks → List Part → Type 0
AreParts design marks [] = Unit {0}
AreParts design marks (part ∷ parts) = IsPart design marks parts part.unlike part × AreParts design marks parts

-- Chains of causes

pub cause_beside : (parts : List Part) (one other : Option ℕ) (h : ℕ) → CausesBeside parts one other → one ≡ Some h → (e : ℕ) × (other ≡ Some e) × Beside parts h e
cause_beside parts None other h b e = cc
cause_beside parts (Some g) None h b e = absurd b
cause_beside parts (Some g) (Some f) h b e = (f, refl, subst (λ n. Beside parts n f) (ap (found_or g) e) b)

pub causes-more : (part : Part) (parts : List Part) (one other : Option ℕ) → CausesBeside parts one other → CausesBeside (part ∷ parts) one other
causes-more part parts None None b = tt
causes-more part parts None (Some f) b = absurd b
causes-more part parts (Some g) None b = absurd b
causes-more part parts (Some g) (Some f) b = inr b

-- within a part whose events have their causes there, each leads to the first one
to_first : (before events : List LoggedEvent) → StaysWithin (length before) events → (fuel k n : ℕ) → k ≤ fuel → k < length events → n ≡ length before + k →
    Reaches (before ++ events) n (length before + 0)
to_first before events inner fuel zero n b w e = (zero, e)
to_first before events inner zero (suc k) n b w e = absurd (omega (arith, b))
to_first before events inner (suc fuel) (suc k) n b w e =
    let m = inner (suc k) (omega arith) w in
    let less : m.0 < suc k = m.2 in
    let rest = to_first before events inner fuel m.0 (length before + m.0) (omega (arith, less, b)) (omega (arith, less, w)) refl in
    (suc rest.0, (length before + m.0, cause-right before events (suc k) n e ∙ m.1, rest.1))

-- what a chain of causes leads to, and what stands beside it
abbrev pub Follows : List Part → ℕ → ℕ → Type 0
Follows parts f h = (e : ℕ) × Reaches (faulty_log parts) f e × Beside parts h e

follow-alike : (design : FlatDesign) (marks : Marks) (part : Part) (parts : List Part) (g f h : ℕ) → AlikePart design marks parts part → part.unlike ≡ false →
    InPart part (length (good_log parts)) (length (faulty_log parts)) g f → cause_in (good_log (part ∷ parts)) g ≡ Some h → Follows (part ∷ parts) f h
follow-alike design marks part parts g f h a u i c =
    let r = cause_beside (part ∷ parts) (cause_in part.good i.good_place) (cause_in part.faulty i.good_place) h (a.causes i.good_place i.good_within)
    (sym (cause-right (good_log parts) part.good i.good_place g i.good_is) ∙ c) in (
      r.0,
      one-step (faulty_log parts ++ part.faulty) f r.0
          (cause-right (faulty_log parts) part.faulty i.faulty_place f i.faulty_is ∙ ap (cause_in part.faulty) (sym (i.one_place u)) ∙ r.1),
      r.2,
    )

follow-unlike : (design : FlatDesign) (marks : Marks) (part : Part) (parts : List Part) (g f h : ℕ) → UnlikePart design marks parts part → part.unlike ≡ true →
    InPart part (length (good_log parts)) (length (faulty_log parts)) g f → cause_in (good_log (part ∷ parts)) g ≡ Some h → Follows (part ∷ parts) f h
follow-unlike design marks part parts g f h a u i c = go i.good_place refl
  where
    cause : cause_in part.good i.good_place ≡ Some h
    cause = sym (cause-right (good_log parts) part.good i.good_place g i.good_is) ∙ c

    first : Reaches (faulty_log parts ++ part.faulty) f (length (faulty_log parts) + 0)
    first = to_first (faulty_log parts) part.faulty a.faulty_inner i.faulty_place i.faulty_place f (omega arith) i.faulty_within i.faulty_is

    go : (k : ℕ) → i.good_place ≡ k → Follows (part ∷ parts) f h
    go zero e =
        let r = cause_beside parts (cause_in part.good 0) (cause_in part.faulty 0) h a.first (ap (cause_in part.good) (sym e) ∙ cause) in (
          r.0,
          join-steps (faulty_log parts ++ part.faulty) first.0 f (length (faulty_log parts) + 0) r.0 first.1
              (one-step (faulty_log parts ++ part.faulty) (length (faulty_log parts) + 0) r.0
              (cause-right (faulty_log parts) part.faulty 0 (length (faulty_log parts) + 0) refl ∙ r.1)),
          inr r.2,
        )
    go (suc k) e =
        let m = a.good_inner (suc k) (omega arith) (let w : i.good_place < length part.good = i.good_within in omega (arith, w, e)) in
        let less : m.0 < suc k = m.2 in
        let at : length (good_log parts) + m.0 ≡ h = ap (found_or h) (sym m.1 ∙ ap (cause_in part.good) (sym e) ∙ cause) in (
          f,
          (zero, refl),
          inl
              (record {
                good_place = m.0;
                faulty_place = i.faulty_place;
                good_is = sym at;
                faulty_is = i.faulty_is;
                good_within = (let w : i.good_place < length part.good = i.good_within in omega (arith, w, e, less));
                faulty_within = i.faulty_within;
                one_place = λ v. true-false part.unlike u v;
              }),
        )

-- from an event beside a good one, causes lead to an event beside that one's cause
pub follow : (design : FlatDesign) (marks : Marks) (parts : List Part) → AreParts design marks parts → (g f h : ℕ) → Beside parts g f → cause_in (good_log parts) g ≡ Some h → Follows parts f h
follow design marks [] o g f h b c = absurd b
follow design marks (part ∷ parts) o g f h (inl i) c = go part.unlike refl o.0
  where
    go : (kind : Bool) → part.unlike ≡ kind → IsPart design marks parts kind part → Follows (part ∷ parts) f h
    go true u a = follow-unlike design marks part parts g f h a u i c
    go false u a = follow-alike design marks part parts g f h a u i c
follow design marks (part ∷ parts) o g f h (inr b) c =
    let r = follow design marks parts o.1 g f h b (cause-within (good_log parts) part.good g h (beside-within parts g f b).0 c) in
    (r.0, reaches-left (faulty_log parts) part.faulty f r.0 r.1, inr r.2)

-- and so for whole chains
pub follow-steps : (design : FlatDesign) (marks : Marks) (parts : List Part) → AreParts design marks parts → (depth g f h : ℕ) → Beside parts g f → Steps (good_log parts) depth g h →
    Follows parts f h
follow-steps design marks parts o zero g f h b s = (f, (zero, refl), subst (λ n. Beside parts n f) s b)
follow-steps design marks parts o (suc depth) g f h b s =
    let r = follow design marks parts o g f s.0 b s.1 in
    let t = follow-steps design marks parts o depth s.0 r.0 h r.2 s.2 in
    (t.0, join-steps (faulty_log parts) r.1.0 f r.0 t.0 r.1.1 t.1, t.2)

-- Accesses by parts

-- an access of the faulty log has its like in the good log, in a part of its kind
pub record HasLikeBeside (marks : Marks) (parts : List Part) (kind : Bool) (number : ℕ) (access : ObjectAccess) : Type 0 where
  pub good : ℕ
  pub event : LoggedEvent
  pub stands : slice_get (good_log parts) good ≡ Some event
  pub one : ObjectAccess
  pub among : In one event.accesses
  pub like : IsLike marks.awaited one access
  pub beside : InKind kind parts good number

-- it has one in a stretch that both take, or is met in another part and has one there
abbrev pub IsLiked : Marks → List Part → ℕ → ObjectAccess → Type 0
IsLiked marks parts number access = HasLikeBeside marks parts false number access ⊎ ((marks.met access.object ≡ true) × HasLikeBeside marks parts true number access)

like-more : (marks : Marks) (part : Part) (parts : List Part) (kind : Bool) (number : ℕ) (access : ObjectAccess) → HasLikeBeside marks parts kind number access →
    HasLikeBeside marks (part ∷ parts) kind number access
like-more marks part parts kind number access l = record {
  good = l.good;
  event = l.event;
  stands = get-left (good_log parts) part.good l.good l.event l.stands;
  one = l.one;
  among = l.among;
  like = l.like;
  beside = inr l.beside;
}

there_below : {A : Type 0} (xs : List A) (k : ℕ) → k < length xs → (x : A) × (slice_get xs k ≡ Some x)
there_below [] k b = absurd (omega (arith, b))
there_below (x ∷ xs) zero b = (x, refl)
there_below (x ∷ xs) (suc k) b = there_below xs k (omega (arith, b))

liked-here : (design : FlatDesign) (marks : Marks) (part : Part) (parts : List Part) (kind : Bool) → part.unlike ≡ kind → IsPart design marks parts kind part →
    (k number : ℕ) (y : LoggedEvent) (access : ObjectAccess) → slice_get part.faulty k ≡ Some y → number ≡ length (faulty_log parts) + k → In access y.accesses →
    (marks.suspect access.object ≡ true) ⊎ IsLiked marks (part ∷ parts) number access
liked-here design marks part parts true u a k number y access e n i = elim (a.likes k y e access i) [
  | inl s ↦ inl s
  | inr m ↦ (let l : HasLikeAt marks part.good access = m.1 in
      inr
      (inr (
        m.0,
        record {
          good = length (good_log parts) + l.place;
          event = l.event;
          stands = get-right (good_log parts) part.good l.place (length (good_log parts) + l.place) refl ∙ l.stands;
          one = l.one;
          among = l.among;
          like = l.like;
          beside =
              inl (
                u,
                record {
                  good_place = l.place;
                  faulty_place = k;
                  good_is = refl;
                  faulty_is = n;
                  good_within = slice_get_within part.good l.place l.event l.stands;
                  faulty_within = slice_get_within part.faulty k y e;
                  one_place = λ v. true-false part.unlike u v;
                },
              );
        },
      )))
]
liked-here design marks part parts false u a k number y access e n i =
    let below : k < length part.faulty = slice_get_within part.faulty k y e in
    let x = there_below part.good k (omega (arith, below, a.lengths)) in
    elim (a.likes k x.0 y x.1 e access i) [
      | inl s ↦ inl s
      | inr l ↦ inr
          (inl
          (record {
            good = length (good_log parts) + k;
            event = x.0;
            stands = get-right (good_log parts) part.good k (length (good_log parts) + k) refl ∙ x.1;
            one = l.0;
            among = l.1;
            like = l.2;
            beside =
                inl (
                  u,
                  record {
                    good_place = k;
                    faulty_place = k;
                    good_is = refl;
                    faulty_is = n;
                    good_within = slice_get_within part.good k x.0 x.1;
                    faulty_within = below;
                    one_place = λ v. refl;
                  },
                );
          }))
    ]

-- each access of the faulty log is of a suspect object or has its like
pub liked : (design : FlatDesign) (marks : Marks) (parts : List Part) → AreParts design marks parts → (number : ℕ) (y : LoggedEvent) (access : ObjectAccess) →
    slice_get (faulty_log parts) number ≡ Some y → In access y.accesses → (marks.suspect access.object ≡ true) ⊎ IsLiked marks parts number access
liked design marks [] o number y access e i = cc
liked design marks (part ∷ parts) o number y access e i =
    elim (get-parts (faulty_log parts) part.faulty number y e) [
      | inl there ↦ more (liked design marks parts o.1 number y access there i)
      | inr r ↦ liked-here design marks part parts part.unlike refl o.0 r.0 number y access r.2 r.1 i
    ]
  where
    more : (marks.suspect access.object ≡ true) ⊎ IsLiked marks parts number access → (marks.suspect access.object ≡ true) ⊎ IsLiked marks (part ∷ parts) number access
    more (inl s) = inl s
    more (inr (inl l)) = inr (inl (like-more marks part parts false number access l))
    more (inr (inr m)) = inr (inr (m.0, like-more marks part parts true number access m.1))

-- a change of the faulty log is one of the good log in a stretch that both take
pub record ChangesBeside (design : FlatDesign) (parts : List Part) (number changed : ℕ) : Type 0 where
  pub good : ℕ
  pub event : LoggedEvent
  pub stands : slice_get (good_log parts) good ≡ Some event
  pub change : In changed (changes_of design event.accesses)
  pub beside : InKind false parts good number

change-here : (design : FlatDesign) (marks : Marks) (part : Part) (parts : List Part) (kind : Bool) → part.unlike ≡ kind → IsPart design marks parts kind part →
    (k number changed : ℕ) (y : LoggedEvent) → slice_get part.faulty k ≡ Some y → number ≡ length (faulty_log parts) + k → In changed (changes_of design y.accesses) →
    ReachesSuspects design marks changed ⊎ ChangesBeside design (part ∷ parts) number changed
change-here design marks part parts true u a k number changed y e n i = inl (a.faulty_reaches k y e changed i)
change-here design marks part parts false u a k number changed y e n i =
    let below : k < length part.faulty = slice_get_within part.faulty k y e in
    let x = there_below part.good k (omega (arith, below, a.lengths)) in
    inr
    (record {
      good = length (good_log parts) + k;
      event = x.0;
      stands = get-right (good_log parts) part.good k (length (good_log parts) + k) refl ∙ x.1;
      change = subst (λ cs. In changed cs) (sym (a.changes k x.0 y x.1 e)) i;
      beside =
          inl (
            u,
            record {
              good_place = k;
              faulty_place = k;
              good_is = refl;
              faulty_is = n;
              good_within = slice_get_within part.good k x.0 x.1;
              faulty_within = below;
              one_place = λ v. refl;
            },
          );
    })

-- each change of the faulty log reaches suspect net pieces alone or is one of the good log
pub changed : (design : FlatDesign) (marks : Marks) (parts : List Part) → AreParts design marks parts → (number object : ℕ) (y : LoggedEvent) →
    slice_get (faulty_log parts) number ≡ Some y → In object (changes_of design y.accesses) → ReachesSuspects design marks object ⊎ ChangesBeside design parts number object
changed design marks [] o number object y e i = cc
changed design marks (part ∷ parts) o number object y e i =
    elim (get-parts (faulty_log parts) part.faulty number y e) [
      | inl there ↦ more (changed design marks parts o.1 number object y there i)
      | inr r ↦ change-here design marks part parts part.unlike refl o.0 r.0 number object y r.2 r.1 i
    ]
  where
    more : ReachesSuspects design marks object ⊎ ChangesBeside design parts number object → ReachesSuspects design marks object ⊎ ChangesBeside design (part ∷ parts) number object
    more (inl s) = inl s
    more (inr c) =
        inr (record { good = c.good; event = c.event; stands = get-left (good_log parts) part.good c.good c.event c.stands; change = c.change; beside = inr c.beside })

-- Flags

-- for each event of the faulty log, whether its part has events of each machine's own
abbrev pub flags : List Part → List Bool
flags [] = []
flags (part ∷ parts) = flags parts ++ map (λ (event : LoggedEvent). part.unlike) part.faulty

length-flags : (parts : List Part) → length (flags parts) ≡ length (faulty_log parts)
length-flags [] = refl
length-flags (part ∷ parts) =
    let a : length (flags parts ++ map (λ (event : LoggedEvent). part.unlike) part.faulty) ≡ length (flags parts) + length (map (λ (event : LoggedEvent). part.unlike) part.faulty) =
    length-append (flags parts) (map (λ (event : LoggedEvent). part.unlike) part.faulty) in
    let b : length (faulty_log parts ++ part.faulty) ≡ length (faulty_log parts) + length part.faulty = length-append (faulty_log parts) part.faulty in
    let c : length (flags parts) ≡ length (faulty_log parts) = length-flags parts in
    let d : length (map (λ (event : LoggedEvent). part.unlike) part.faulty) ≡ length part.faulty = mapped part.faulty in
    omega (arith, a, b, c, d)
  where
    mapped : (events : List LoggedEvent) → length (map (λ (event : LoggedEvent). part.unlike) events) ≡ length events
    mapped [] = refl
    mapped (event ∷ events) = ap suc (mapped events)

pub flagged : (parts : List Part) (g f : ℕ) → InKind true parts g f → slice_get (flags parts) f ≡ Some true
flagged [] g f b = absurd b
flagged (part ∷ parts) g f (inr b) =
    get-left (flags parts) (map (λ (event : LoggedEvent). part.unlike) part.faulty) f true (flagged parts g f b)
flagged (part ∷ parts) g f (inl i) =
    let p : InPart part (length (good_log parts)) (length (faulty_log parts)) g f = i.1 in
    get-right (flags parts) (map (λ (event : LoggedEvent). part.unlike) part.faulty) p.faulty_place f
    (let l : length (flags parts) ≡ length (faulty_log parts) = length-flags parts in omega (arith, l, p.faulty_is))
    ∙ one part.faulty p.faulty_place p.faulty_within
    ∙ ap Some i.0
  where
    one : (events : List LoggedEvent) (k : ℕ) → k < length events → slice_get (map (λ (event : LoggedEvent). part.unlike) events) k ≡ Some part.unlike
    one [] k b = absurd (omega (arith, b))
    one (event ∷ events) zero b = refl
    one (event ∷ events) (suc k) b = one events k (omega (arith, b))
