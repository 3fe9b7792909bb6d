-- The accesses of a log, from what its events access: those that count, and the settlings of wild net pieces. Both logs have the same wild net pieces, suspect ones aside.
use Rattle.std.proofs.Common.{◌≡◌, ℕ, zero, suc, ◌+◌, ◌<◌, List, [], ◌∷◌, ◌++◌, map, length, Bool, true, false, ◌&&◌, refl}
use Rattle.std.proofs.Common.{sym, ap, subst, ◌∙◌, ◌⊎◌, inl, inr, arith, filter}
use Rattle.std.specs.Prelude.{Some, None, slice_get, nat_lt}
use Rattle.std.proofs.lemmas.Bool.{ltb-true, and_parts}
use Rattle.vf_base.specs.Lists.{has, joined, map_numbered}
use Rattle.v_design.specs.Designs.{FlatDesign}
use Rattle.v_design.specs.States.{found_or}
use Rattle.v_design.specs.Paths.{paths, net_pieces, class_of_paths, is_wild_class, is_wild}
use Rattle.v_design.specs.Accesses.{Settling, ObjectAccess}
use Rattle.v_design.specs.Logs.{LoggedEvent, LoggedPhase, PhaseAccess, change_of, changes_of, phase_changes, counts, settles_of, counted_accesses, event_accesses, log_accesses}
use Rattle.block_filter.specs.Likes.{Marks}
use Rattle.block_filter.specs.Blocks.{ReachesSuspects}
use Rattle.order_laws.proofs.Conflicts.{In, In-left, In-map}
use Rattle.order_laws.proofs.FreeLogs.{In-append}
use Rattle.order_laws.proofs.FreeWithoutNodes.{tagged, carried, In-map-back, has-in}
use Rattle.order_laws.proofs.SwappedLogs.{accesses_at}
use Rattle.order_laws.proofs.Ordered.{in_log, counts_in, settles_in, settling}
use Rattle.order_laws.proofs.PathLaws.{decided, true-false, reached, reached-append, sum-nothing}
use Rattle.block_filter.proofs.Places.{get-map, in-filter-back, in-joined_back, joined-append, at-in}
use Rattle.block_filter.proofs.Parts.{Part, good_log, faulty_log, AllReachSuspects, IsPart, AreParts}

-- Accesses that count

-- a settling of a wild net piece, by a change of some access
pub record IsSettling (design : FlatDesign) (changes : List ℕ) (accesses : List ObjectAccess) (access : ObjectAccess) : Type 0 where
  pub writer : ObjectAccess
  pub changed : ℕ
  pub stands : In writer accesses
  pub change : In changed (change_of design writer.act writer.object)
  pub piece : has (net_pieces design) access.object ≡ true
  pub wild : is_wild design changes access.object ≡ true
  pub reaches : 0 < paths design changed access.object
  pub act : access.act ≡ Settling

pub counted-back : (design : FlatDesign) (changes : List ℕ) (accesses : List ObjectAccess) (access : ObjectAccess) → In access (counted_accesses design changes accesses) →
    (In access accesses × (counts design changes access ≡ true)) ⊎ IsSettling design changes accesses access
counted-back design changes accesses access i =
    elim (In-append access (filter (counts design changes) accesses) (joined (map (settles_of design changes) accesses)) i) [
      | inl j ↦ inl (in-filter-back (counts design changes) accesses access j)
      | inr j ↦ inr (settled (in-joined_back (settles_of design changes) accesses access j))
    ]
  where
    by_change : (writer : ObjectAccess) → In writer accesses →
        (k : ℕ) × (changed : ℕ) × (slice_get (change_of design writer.act writer.object) k ≡ Some changed)
        × In access (map (settling writer) (filter (λ net. is_wild design changes net && nat_lt 0 (paths design changed net)) (net_pieces design))) →
        IsSettling design changes accesses access
    by_change writer stands c =
        let n = In-map-back (settling writer) access (filter (λ net. is_wild design changes net && nat_lt 0 (paths design c.1 net)) (net_pieces design)) c.3 in
        let f = in-filter-back (λ net. is_wild design changes net && nat_lt 0 (paths design c.1 net)) (net_pieces design) n.0 n.1 in
        let p : (is_wild design changes n.0 ≡ true) × (nat_lt 0 (paths design c.1 n.0) ≡ true) = and_parts (is_wild design changes n.0) (nat_lt 0 (paths design c.1 n.0)) f.1 in
        let same : access.object ≡ n.0 = ap (λ (a : ObjectAccess). a.object) n.2 in
        record {
          writer = writer;
          changed = c.1;
          stands = stands;
          change = at-in (change_of design writer.act writer.object) c.0 c.1 c.2;
          piece = ap (has (net_pieces design)) same ∙ has-in n.0 (net_pieces design) f.0;
          wild = ap (is_wild design changes) same ∙ p.0;
          reaches = subst (λ net. 0 < paths design c.1 net) (sym same) (ltb-true 0 (paths design c.1 n.0) p.1);
          act = ap (λ (a : ObjectAccess). a.act) n.2;
        }

    settled : (k : ℕ) × (writer : ObjectAccess) × (slice_get accesses k ≡ Some writer) × In access (settles_of design changes writer) → IsSettling design changes accesses access
    settled w =
        by_change w.1 (at-in accesses w.0 w.1 w.2)
        (in-joined_back (λ changed. map (settling w.1) (filter (λ net. is_wild design changes net && nat_lt 0 (paths design changed net)) (net_pieces design)))
        (change_of design w.1.act w.1.object) access w.3)

-- Accesses of a log

-- an access of an event of a log
pub record IsOfEvent (design : FlatDesign) (log : LoggedPhase) (access : PhaseAccess) : Type 0 where
  pub number : ℕ
  pub event : LoggedEvent
  pub stands : slice_get log.events number ≡ Some event
  pub at : access.event ≡ Some number
  pub counted : In access.access (counted_accesses design (phase_changes design log) event.accesses)

numbered-back : (design : FlatDesign) (changes : List ℕ) (start : ℕ) (events : List LoggedEvent) (access : PhaseAccess) →
    In access (joined (map_numbered (event_accesses design changes) start events)) →
    (k : ℕ) × (event : LoggedEvent) × (slice_get events k ≡ Some event) × (access.event ≡ Some (start + k)) × In access.access (counted_accesses design changes event.accesses)
numbered-back design changes start [] access i = absurd i
numbered-back design changes start (event ∷ events) access i =
    elim (In-append access (event_accesses design changes start event) (joined (map_numbered (event_accesses design changes) (start + 1) events)) i) [
      | inl j ↦
          (let r = In-map-back (tagged start) access (counted_accesses design changes event.accesses) j in (
            zero,
            event,
            refl,
            ap (λ (u : PhaseAccess). u.event) r.2 ∙ ap Some (let e : start ≡ start + zero = omega arith in e),
            subst (λ a. In a (counted_accesses design changes event.accesses)) (sym (ap (λ (u : PhaseAccess). u.access) r.2)) r.1,
          ))
      | inr j ↦
          (let r = numbered-back design changes (start + 1) events access j in (
            suc r.0,
            r.1,
            r.2,
            r.3 ∙ ap Some (let e : start + 1 + r.0 ≡ start + suc r.0 = omega arith in e),
            r.4,
          ))
    ]

-- an access of a log is held from the beginning, or is one of an event
pub log-back : (design : FlatDesign) (log : LoggedPhase) (access : PhaseAccess) → In access (log_accesses design log) →
    ((access.event ≡ None) × In access.access log.held) ⊎ IsOfEvent design log access
log-back design log access i =
    elim (In-append access (map carried log.held) (joined (map_numbered (event_accesses design (phase_changes design log)) 0 log.events)) i) [
      | inl j ↦
          (let r = In-map-back carried access log.held j in
          inl (ap (λ (u : PhaseAccess). u.event) r.2, subst (λ a. In a log.held) (sym (ap (λ (u : PhaseAccess). u.access) r.2)) r.1))
      | inr j ↦
          (let r = numbered-back design (phase_changes design log) 0 log.events access j in
          inr
          (record { number = r.0; event = r.1; stands = r.2; at = r.3 ∙ ap Some (let e : 0 + r.0 ≡ r.0 = omega arith in e); counted = r.4 }))
    ]

pub held-in : (design : FlatDesign) (log : LoggedPhase) (access : ObjectAccess) → In access log.held → In (carried access) (log_accesses design log)
held-in design log access i =
    In-left (carried access) (map carried log.held) (joined (map_numbered (event_accesses design (phase_changes design log)) 0 log.events)) (In-map carried access log.held i)

accesses-there : (log : LoggedPhase) (number : ℕ) (event : LoggedEvent) → slice_get log.events number ≡ Some event → accesses_at log number ≡ event.accesses
accesses-there log number event e = ap (found_or []) (get-map (λ (x : LoggedEvent). x.accesses) log.events number event e)

pub counted-in : (design : FlatDesign) (log : LoggedPhase) (number : ℕ) (event : LoggedEvent) (access : ObjectAccess) → slice_get log.events number ≡ Some event → In access event.accesses →
    counts design (phase_changes design log) access ≡ true → In (tagged number access) (log_accesses design log)
counted-in design log number event access e i c =
    in_log design log number access (counts_in design log number access (subst (λ xs. In access xs) (sym (accesses-there log number event e)) i) c)

pub settled-in : (design : FlatDesign) (log : LoggedPhase) (number : ℕ) (event : LoggedEvent) (writer : ObjectAccess) (changed net : ℕ) → slice_get log.events number ≡ Some event →
    In writer event.accesses → In changed (change_of design writer.act writer.object) → has (net_pieces design) net ≡ true →
    is_wild design (phase_changes design log) net ≡ true → 0 < paths design changed net → In (tagged number (settling writer net)) (log_accesses design log)
settled-in design log number event writer changed net e i c piece wild reach =
    in_log design log number (settling writer net)
    (settles_in design log number writer changed net (subst (λ xs. In writer xs) (sym (accesses-there log number event e)) i) c piece wild reach)

-- Wild net pieces

-- the changes of a log
abbrev pub changes_in : FlatDesign → List LoggedEvent → List ℕ
changes_in design events = joined (map (λ (event : LoggedEvent). changes_of design event.accesses) events)

same-changes : (design : FlatDesign) (xs ys : List LoggedEvent) → length xs ≡ length ys →
    ((k : ℕ) (x y : LoggedEvent) → slice_get xs k ≡ Some x → slice_get ys k ≡ Some y → changes_of design x.accesses ≡ changes_of design y.accesses) → changes_in design xs ≡ changes_in design ys
same-changes design [] [] l h = refl
same-changes design [] (y ∷ ys) l h = absurd (omega (arith, l))
same-changes design (x ∷ xs) [] l h = absurd (omega (arith, l))
same-changes design (x ∷ xs) (y ∷ ys) l h = λ i. h zero x y refl refl i ++ same-changes design xs ys (omega (arith, l)) (λ k. h (suc k)) i

module _ (design : FlatDesign) (marks : Marks) (net : ℕ) (piece : has (net_pieces design) net ≡ true) (tame : marks.suspect net ≡ false) where
  -- a change that reaches suspect net pieces alone doesn't reach this one
  pub unreached : (changed : ℕ) → ReachesSuspects design marks changed → paths design changed net ≡ 0
  unreached changed r = go (paths design changed net) refl
    where
      go : (n : ℕ) → paths design changed net ≡ n → paths design changed net ≡ 0
      go zero e = e
      go (suc n) e = true-false (marks.suspect net) (r net piece (omega (arith, e))) tame

  none-reached : (events : List LoggedEvent) → AllReachSuspects design marks events → reached design (changes_in design events) net ≡ 0
  none-reached events h =
      sum-nothing (λ source. paths design source net) (changes_in design events)
      (λ n changed e.
      let r = in-joined_back (λ (event : LoggedEvent). changes_of design event.accesses) events changed (at-in (changes_in design events) n changed e) in
      unreached changed (h r.0 r.1 r.2 changed r.3))

  reached-part : (parts : List Part) (part : Part) (kind : Bool) → IsPart design marks parts kind part →
      reached design (changes_in design part.good) net ≡ reached design (changes_in design part.faulty) net
  reached-part parts part true a = none-reached part.good a.good_reaches ∙ sym (none-reached part.faulty a.faulty_reaches)
  reached-part parts part false a = ap (λ cs. reached design cs net) (same-changes design part.good part.faulty a.lengths a.changes)

  -- a net piece that isn't suspect is reached as often in both logs
  pub reached-alike : (parts : List Part) → AreParts design marks parts → reached design (changes_in design (good_log parts)) net ≡ reached design (changes_in design (faulty_log parts)) net
  reached-alike [] o = refl
  reached-alike (part ∷ parts) o =
      split (good_log parts) part.good ∙ (λ i. reached-alike parts o.1 i + reached-part parts part part.unlike o.0 i) ∙ sym (split (faulty_log parts) part.faulty)
    where
      split : (xs ys : List LoggedEvent) → reached design (changes_in design (xs ++ ys)) net ≡ reached design (changes_in design xs) net + reached design (changes_in design ys) net
      split xs ys =
          ap (λ cs. reached design cs net) (joined-append (λ (event : LoggedEvent). changes_of design event.accesses) xs ys)
          ∙ reached-append design (changes_in design xs) (changes_in design ys) net

-- an object that isn't suspect is a wild net piece in both logs or in neither
pub wild-alike : (design : FlatDesign) (marks : Marks) (parts : List Part) → AreParts design marks parts → (object : ℕ) → marks.suspect object ≡ false →
    (has (net_pieces design) object && is_wild design (changes_in design (good_log parts)) object)
    ≡ (has (net_pieces design) object && is_wild design (changes_in design (faulty_log parts)) object)
wild-alike design marks parts o object tame = elim (decided (has (net_pieces design) object)) [
  | inl piece ↦ ap (λ n. has (net_pieces design) object && is_wild_class (class_of_paths n)) (reached-alike design marks object piece tame parts o)
  | inr other ↦ ap (λ b. b && is_wild design (changes_in design (good_log parts)) object) other ∙ sym (ap (λ b. b && is_wild design (changes_in design (faulty_log parts)) object) other)
]
