-- In a log without a least pair two accesses that clash are ordered one way or the other.
use Rattle.std.proofs.Common.{◌≡◌, ℕ, zero, suc, ◌+◌, ◌<◌, List, [], ◌∷◌, map, Bool, true, false, not, ◌&&◌, refl, sym, ap, subst, ◌∙◌, ◌⊎◌, inl, inr, arith, filter}
use Rattle.std.specs.Prelude.{◌≢◌, Some, None, slice_get, nat_eq, nat_lt, cond}
use Rattle.std.proofs.lemmas.Bool.{eqb-true, eq-eqb, lt-ltb}
use Rattle.vf_base.specs.Lists.{has, joined, map_numbered}
use Rattle.v_design.specs.Designs.{FlatDesign}
use Rattle.v_design.specs.Paths.{paths, net_pieces, is_wild}
use Rattle.v_design.specs.States.{found_or}
use Rattle.v_design.specs.Accesses.{Settling, ObjectAccess}
use Rattle.v_design.specs.Logs.{LoggedEvent, LoggedPhase, PhaseAccess, change_of, phase_changes, is_write, counts, settles_of, counted_accesses, event_accesses, log_accesses, orders, acts_clash}
use Rattle.v_design.specs.Logs.{orders_others, access_orders, conflict, least_pair}
use Rattle.order_laws.proofs.Conflicts.{In, In-left, In-right, In-map}
use Rattle.order_laws.proofs.SwappedLogs.{accesses_at}
use Rattle.order_laws.proofs.FreeLogs.{Before-or, none-free, clash-symmetric}
use Rattle.order_laws.proofs.FreeWithoutNodes.{tagged, carried}
use Rattle.order_laws.proofs.Clash.{true_is_false}
use Rattle.order_laws.proofs.PathLaws.{decided, or-either}

makes_conflict : (log : LoggedPhase) (u v : PhaseAccess) → u.access.object ≡ v.access.object → acts_clash u.access.object u.access.act v.access.act ≡ true →
    access_orders log u v ≡ false → access_orders log v u ≡ false → conflict log u v ≡ true
makes_conflict log u v same clash one other = λ i. eq-eqb u.access.object v.access.object same i && clash i && not (one i) && not (other i)

pub free_pair : (design : FlatDesign) (log : LoggedPhase) → least_pair design log ≡ None → (u v : PhaseAccess) → u ≢ v → In u (log_accesses design log) → In v (log_accesses design log) →
    u.access.object ≡ v.access.object → acts_clash u.access.object u.access.act v.access.act ≡ true → (access_orders log u v ≡ true) ⊎ (access_orders log v u ≡ true)
free_pair design log none u v d i j same clash = elim (decided (access_orders log u v)) [
  | inl o ↦ inl o
  | inr f ↦ elim (decided (access_orders log v u)) [
    | inl o ↦ inr o
    | inr g ↦ elim (Before-or u v (log_accesses design log) d i j) [
      | inl b ↦ true_is_false (sym (makes_conflict log u v same clash f g) ∙ none-free log [] (log_accesses design log) none u v b)
      | inr b ↦ true_is_false
          (sym (makes_conflict log v u (sym same) (ap (λ o. acts_clash o v.access.act u.access.act) (sym same) ∙ clash-symmetric u.access.object v.access.act u.access.act ∙ clash) g f)
          ∙ none-free log [] (log_accesses design log) none v u b)
    ]
  ]
]

-- the accesses of an event that count, with the settlings that follow from its write
abbrev pub counted_at : FlatDesign → LoggedPhase → ℕ → List ObjectAccess
counted_at design log number = counted_accesses design (phase_changes design log) (accesses_at log number)

in_events : (design : FlatDesign) (changes : List ℕ) (start : ℕ) (events : List LoggedEvent) (n : ℕ) (x : ObjectAccess) →
    In x (counted_accesses design changes (found_or [] (slice_get (map (λ (event : LoggedEvent). event.accesses) events) n))) →
    In (tagged (start + n) x) (joined (map_numbered (event_accesses design changes) start events))
in_events design changes start [] n x i = absurd i
in_events design changes start (event ∷ events) zero x i =
    subst (λ k. In (tagged k x) (joined (map_numbered (event_accesses design changes) start (event ∷ events)))) (let e : start ≡ start + 0 = omega arith in e)
    (In-left (tagged start x) (event_accesses design changes start event) (joined (map_numbered (event_accesses design changes) (start + 1) events))
    (In-map (tagged start) x (counted_accesses design changes event.accesses) i))
in_events design changes start (event ∷ events) (suc n) x i =
    subst (λ k. In (tagged k x) (joined (map_numbered (event_accesses design changes) start (event ∷ events)))) (let e : start + 1 + n ≡ start + suc n = omega arith in e)
    (In-right (tagged (start + 1 + n) x) (event_accesses design changes start event) (joined (map_numbered (event_accesses design changes) (start + 1) events))
    (in_events design changes (start + 1) events n x i))

pub in_log : (design : FlatDesign) (log : LoggedPhase) (n : ℕ) (x : ObjectAccess) → In x (counted_at design log n) → In (tagged n x) (log_accesses design log)
in_log design log n x i =
    In-right (tagged n x) (map carried log.held) (joined (map_numbered (event_accesses design (phase_changes design log)) 0 log.events))
    (subst (λ k. In (tagged k x) (joined (map_numbered (event_accesses design (phase_changes design log)) 0 log.events))) (let e : 0 + n ≡ n = omega arith in e)
    (in_events design (phase_changes design log) 0 log.events n x i))

-- two events' accesses that clash
pub events_clash : (design : FlatDesign) (log : LoggedPhase) → least_pair design log ≡ None → (m n : ℕ) (x y : ObjectAccess) → m ≢ n → In x (counted_at design log m) → In y (counted_at design log n) →
    x.object ≡ y.object → acts_clash x.object x.act y.act ≡ true → ((orders_others x.act && orders log m n) ≡ true) ⊎ ((orders_others y.act && orders log n m) ≡ true)
events_clash design log none m n x y d i j same clash =
    free_pair design log none (tagged m x) (tagged n y) (λ e. d (numbers (ap (λ (u : PhaseAccess). u.event) e))) (in_log design log m x i) (in_log design log n y j) same clash
  where
    numbers : Some m ≡ Some n → m ≡ n
    numbers e = ap (found_or m) e

-- what is held clashes with nothing
pub held_clash : (design : FlatDesign) (log : LoggedPhase) → least_pair design log ≡ None → (n : ℕ) (x y : ObjectAccess) → In x log.held → In y (counted_at design log n) →
    x.object ≡ y.object → acts_clash x.object x.act y.act ≡ true → ⊥
held_clash design log none n x y i j same clash = elim
    (free_pair design log none (carried x) (tagged n y) (λ e. differ (ap (λ (u : PhaseAccess). u.event) e))
    (In-left (carried x) (map carried log.held) (joined (map_numbered (event_accesses design (phase_changes design log)) 0 log.events)) (In-map carried x log.held i))
    (in_log design log n y j) same clash) [
      | inl o ↦ true_is_false (sym o ∙ falls (orders_others x.act))
      | inr o ↦ true_is_false (sym o ∙ falls (orders_others y.act))
    ]
  where
    falls : (b : Bool) → (b && false) ≡ false
    falls true = refl
    falls false = refl

    differ : None ≡ Some n → ⊥
    differ e = cc

-- What counts

pub in-filter : {A : Type 0} (test : A → Bool) (xs : List A) (x : A) → In x xs → test x ≡ true → In x (filter test xs)
in-filter test [] x i t = absurd i
in-filter test (y ∷ xs) x (inl e) t = subst (λ b. In x (cond b (y ∷ filter test xs) (filter test xs))) (sym (ap test (sym e) ∙ t)) (inl e)
in-filter test (y ∷ xs) x (inr i) t = go (test y) (in-filter test xs x i t)
  where
    go : (b : Bool) → In x (filter test xs) → In x (cond b (y ∷ filter test xs) (filter test xs))
    go true j = inr j
    go false j = j

pub in_joined : {A B : Type 0} (f : A → List B) (xs : List A) (x : A) (y : B) → In x xs → In y (f x) → In y (joined (map f xs))
in_joined f [] x y i j = absurd i
in_joined f (z ∷ xs) x y (inl e) j = In-left y (f z) (joined (map f xs)) (subst (λ w. In y (f w)) e j)
in_joined f (z ∷ xs) x y (inr i) j = In-right y (f z) (joined (map f xs)) (in_joined f xs x y i j)

pub has_in : (xs : List ℕ) (x : ℕ) → has xs x ≡ true → In x xs
has_in [] x h = cc
has_in (y ∷ xs) x h = elim (or-either (nat_eq y x) (has xs x) h) [ inl same ↦ inl (sym (eqb-true y x same)) | inr there ↦ inr (has_in xs x there) ]

pub counts_in : (design : FlatDesign) (log : LoggedPhase) (n : ℕ) (x : ObjectAccess) → In x (accesses_at log n) → counts design (phase_changes design log) x ≡ true → In x (counted_at design log n)
counts_in design log n x i c =
    In-left x (filter (counts design (phase_changes design log)) (accesses_at log n)) (joined (map (settles_of design (phase_changes design log)) (accesses_at log n)))
    (in-filter (counts design (phase_changes design log)) (accesses_at log n) x i c)

-- an access that isn't a write of a wild net counts
pub counts-other : (design : FlatDesign) (changes : List ℕ) (x : ObjectAccess) → is_write x.act ≡ false → counts design changes x ≡ true
counts-other design changes x h = ap (λ b. not (b && (has (net_pieces design) x.object && is_wild design changes x.object))) h

pub counts-tame : (design : FlatDesign) (changes : List ℕ) (x : ObjectAccess) → (has (net_pieces design) x.object && is_wild design changes x.object) ≡ false → counts design changes x ≡ true
counts-tame design changes x h = ap (λ b. not (is_write x.act && b)) h ∙ ap not (falls (is_write x.act))
  where
    falls : (b : Bool) → (b && false) ≡ false
    falls true = refl
    falls false = refl

-- a change settles each wild net that it reaches
abbrev pub settling : ObjectAccess → ℕ → ObjectAccess
settling x net = record { act = Settling; object = net; process = x.process; line = x.line }

pub settles_in : (design : FlatDesign) (log : LoggedPhase) (n : ℕ) (x : ObjectAccess) (changed net : ℕ) → In x (accesses_at log n) → In changed (change_of design x.act x.object) →
    has (net_pieces design) net ≡ true → is_wild design (phase_changes design log) net ≡ true → 0 < paths design changed net → In (settling x net) (counted_at design log n)
settles_in design log n x changed net i c piece wild reach =
    In-right (settling x net) (filter (counts design (phase_changes design log)) (accesses_at log n)) (joined (map (settles_of design (phase_changes design log)) (accesses_at log n)))
    (in_joined (settles_of design (phase_changes design log)) (accesses_at log n) x (settling x net) i
    (in_joined (λ changed. map (λ net. settling x net) (filter (λ net. is_wild design (phase_changes design log) net && nat_lt 0 (paths design changed net)) (net_pieces design)))
    (change_of design x.act x.object) changed (settling x net) c
    (In-map (settling x) net (filter (λ net. is_wild design (phase_changes design log) net && nat_lt 0 (paths design changed net)) (net_pieces design))
    (in-filter (λ net. is_wild design (phase_changes design log) net && nat_lt 0 (paths design changed net)) (net_pieces design) net (has_in (net_pieces design) net piece)
    (λ k. wild k && lt-ltb 0 (paths design changed net) reach k)))))
