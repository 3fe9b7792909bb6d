-- Where causes lead, step by step, and that this is what an order of events says.
use Rattle.std.proofs.Common.{◌≡◌, ℕ, zero, suc, ◌+◌, ◌<◌, ◌≤◌, List, [], ◌∷◌, ◌++◌, map, length, true, false, ◌||◌, refl, sym, ap, subst, ◌∙◌, ◌⊎◌, inl, inr, arith}
use Rattle.std.specs.Prelude.{Option, Some, None, slice_get, nat_eq}
use Rattle.std.proofs.lemmas.Bool.{eqb-true, eq-eqb}
use Rattle.vf_base.specs.Lists.{has}
use Rattle.v_design.specs.States.{found_or}
use Rattle.v_design.specs.Logs.{LoggedEvent, LoggedPhase, cause_at, causes_from, orders}
use Rattle.order_laws.proofs.PathLaws.{or-either, or-second}

-- the cause of an event of a log
abbrev pub cause_in : List LoggedEvent → ℕ → Option ℕ
cause_in events number = found_or None (slice_get (map (λ (event : LoggedEvent). event.cause) events) number)

-- Causes in longer logs

pub cause-left : (xs ys : List LoggedEvent) (n c : ℕ) → cause_in xs n ≡ Some c → cause_in (xs ++ ys) n ≡ Some c
cause-left [] ys n c e = cc
cause-left (x ∷ xs) ys zero c e = e
cause-left (x ∷ xs) ys (suc n) c e = cause-left xs ys n c e

pub cause-within : (xs ys : List LoggedEvent) (n c : ℕ) → n < length xs → cause_in (xs ++ ys) n ≡ Some c → cause_in xs n ≡ Some c
cause-within [] ys n c b e = absurd (omega (arith, b))
cause-within (x ∷ xs) ys zero c b e = e
cause-within (x ∷ xs) ys (suc n) c b e = cause-within xs ys n c (omega (arith, b)) e

pub cause-right : (xs ys : List LoggedEvent) (k n : ℕ) → n ≡ length xs + k → cause_in (xs ++ ys) n ≡ cause_in ys k
cause-right [] ys k n e = ap (cause_in ys) (let z : n ≡ k = omega (arith, e) in z)
cause-right (x ∷ xs) ys k zero e = absurd (omega (arith, e))
cause-right (x ∷ xs) ys k (suc n) e = cause-right xs ys k n (omega (arith, e))

pub cause-there : (xs : List LoggedEvent) (k : ℕ) (x : LoggedEvent) → slice_get xs k ≡ Some x → cause_in xs k ≡ x.cause
cause-there [] k x e = cc
cause-there (y ∷ xs) zero x e = ap (λ (z : LoggedEvent). z.cause) (ap (found_or y) e)
cause-there (y ∷ xs) (suc k) x e = cause-there xs k x e

-- Steps

-- so many causes lead from an event to one
abbrev pub Steps : List LoggedEvent → ℕ → ℕ → ℕ → Type 0
Steps events zero from to = from ≡ to
Steps events (suc depth) from to = (cause : ℕ) × (cause_in events from ≡ Some cause) × Steps events depth cause to

-- some causes do
abbrev pub Reaches : List LoggedEvent → ℕ → ℕ → Type 0
Reaches events from to = (depth : ℕ) × Steps events depth from to

pub join-steps : (events : List LoggedEvent) (depth m n k : ℕ) → Steps events depth m n → Reaches events n k → Reaches events m k
join-steps events zero m n k s r = subst (λ l. Reaches events l k) (sym s) r
join-steps events (suc depth) m n k s r = let rest = join-steps events depth s.0 n k s.2 r in (suc rest.0, (s.0, s.1, rest.1))

pub one-step : (events : List LoggedEvent) (m n : ℕ) → cause_in events m ≡ Some n → Reaches events m n
one-step events m n e = (suc zero, (n, e, refl))

steps-left : (xs ys : List LoggedEvent) (depth m n : ℕ) → Steps xs depth m n → Steps (xs ++ ys) depth m n
steps-left xs ys zero m n s = s
steps-left xs ys (suc depth) m n s = (s.0, cause-left xs ys m s.0 s.1, steps-left xs ys depth s.0 n s.2)

pub reaches-left : (xs ys : List LoggedEvent) (m n : ℕ) → Reaches xs m n → Reaches (xs ++ ys) m n
reaches-left xs ys m n r = (r.0, steps-left xs ys r.0 m n r.1)

-- Orders

chain-reaches : (log : LoggedPhase) (depth m n : ℕ) → has (causes_from depth log (Some m)) n ≡ true → Reaches log.events m n
chain-reaches log zero m n h = elim (or-either (nat_eq m n) false h) [ inl e ↦ (zero, eqb-true m n e) | inr f ↦ cc ]
chain-reaches log (suc depth) m n h =
    go (or-either (nat_eq m n) (has (causes_from depth log (cause_at log m)) n) h) (cause_at log m) refl (λ c k. chain-reaches log depth c n k)
  where
    go : (nat_eq m n ≡ true) ⊎ (has (causes_from depth log (cause_at log m)) n ≡ true) → (cause : Option ℕ) → cause_at log m ≡ cause →
        ((c : ℕ) → has (causes_from depth log (Some c)) n ≡ true → Reaches log.events c n) → Reaches log.events m n
    go (inl e) cause c rest = (zero, eqb-true m n e)
    go (inr k) None c rest = let f : has (causes_from depth log None) n ≡ true = ap (λ o. has (causes_from depth log o) n) (sym c) ∙ k in cc
    go (inr k) (Some next) c rest = let r = rest next (ap (λ o. has (causes_from depth log o) n) (sym c) ∙ k) in (suc r.0, (next, c, r.1))

pub orders-reaches : (log : LoggedPhase) (m n : ℕ) → orders log n m ≡ true → Reaches log.events m n
orders-reaches log m n h = chain-reaches log (length log.events) m n h

-- causes go back
abbrev pub GoBack : LoggedPhase → Type 0
GoBack log = (n c : ℕ) → cause_at log n ≡ Some c → c < n

self : (log : LoggedPhase) (room m : ℕ) → has (causes_from room log (Some m)) m ≡ true
self log zero m = ap (λ b. b || false) (eq-eqb m m refl)
self log (suc room) m = ap (λ b. b || has (causes_from room log (cause_at log m)) m) (eq-eqb m m refl)

steps-chain : (log : LoggedPhase) → GoBack log → (depth room m n : ℕ) → m ≤ room → Steps log.events depth m n → has (causes_from room log (Some m)) n ≡ true
steps-chain log back zero room m n b s = subst (λ l. has (causes_from room log (Some m)) l ≡ true) s (self log room m)
steps-chain log back (suc depth) room m n b s = go room b (λ room' b'. steps-chain log back depth room' s.0 n b' s.2)
  where
    less : s.0 < m
    less = back m s.0 s.1

    go : (room : ℕ) → m ≤ room → ((room' : ℕ) → s.0 ≤ room' → has (causes_from room' log (Some s.0)) n ≡ true) → has (causes_from room log (Some m)) n ≡ true
    go zero b rest = absurd (omega (arith, b, less))
    go (suc room) b rest =
        or-second (nat_eq m n) (has (causes_from room log (cause_at log m)) n) (ap (λ o. has (causes_from room log o) n) s.1 ∙ rest room (omega (arith, b, less)))

pub reaches-orders : (log : LoggedPhase) → GoBack log → (m n : ℕ) → m ≤ length log.events → Reaches log.events m n → orders log n m ≡ true
reaches-orders log back m n b r = steps-chain log back r.0 (length log.events) m n b r.1

pub orders-self : (log : LoggedPhase) (m : ℕ) → orders log m m ≡ true
orders-self log m = self log (length log.events) m

-- what is reached is no later
pub reaches-back : (log : LoggedPhase) → GoBack log → (depth m n : ℕ) → Steps log.events depth m n → n ≤ m
reaches-back log back zero m n s = omega (arith, s)
reaches-back log back (suc depth) m n s =
    let r : n ≤ s.0 = reaches-back log back depth s.0 n s.2 in
    let less : s.0 < m = back m s.0 s.1 in
    omega (arith, r, less)
