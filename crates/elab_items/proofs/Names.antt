-- Names that are the same, and what is kept of the first of a name.
use Rattle.std.proofs.Common.{◌≡◌, Bool, true, false, cond, ◌&&◌, ◌||◌, List, [], ◌∷◌, ◌++◌, Option, Some, None, option_map, is_some, refl, sym, ap, ap₂, ◌∙◌, nat_eq}
use Rattle.std.specs.Option.{option_or}
use Rattle.std.proofs.lemmas.Bool.{eq-eqb, eqb-true}
use Rattle.v_tree.specs.Trees.{Identifier, same_name, has_name}
use Rattle.v_names.specs.SizedLaws.{and-left, and-right}
use Rattle.v_elab.specs.Parts.{Joining}
use Rattle.v_elab.specs.Connections.{PortJoined}
use Rattle.v_elab.specs.Walk.{joining_if, joining_of}

pub equal-name : (one other : Identifier) → same_name one other ≡ true → one ≡ other
equal-name [] [] e = refl
equal-name [] (b ∷ other) e = absurd (cc)
equal-name (a ∷ one) [] e = absurd (cc)
equal-name (a ∷ one) (b ∷ other) e =
    ap₂ (λ n (l : Identifier). n ∷ l) (eqb-true a b (and-left (nat_eq a b) (same_name one other) e)) (equal-name one other (and-right (nat_eq a b) (same_name one other) e))

both-true : (a b : Bool) → a ≡ true → b ≡ true → (a && b) ≡ true
both-true true b e d = d
both-true false b e d = absurd (cc)

pub name-same : (name : Identifier) → same_name name name ≡ true
name-same [] = refl
name-same (a ∷ name) = both-true (nat_eq a a) (same_name name name) (eq-eqb a a refl) (name-same name)

-- a name that isn't the same isn't the same turned round
pub turned-apart : (a b : Identifier) → same_name a b ≡ false → same_name b a ≡ false
turned-apart a b e = step (same_name b a) refl
  where
    step : (s : Bool) → same_name b a ≡ s → same_name b a ≡ false
    step false f = f
    step true f =
        let same : true ≡ false = sym (name-same a) ∙ ap (same_name a) (sym (equal-name b a f)) ∙ e in
        absurd (let z : ⊥ = cc in z)

pub or-none : {A : Type 0} (o : Option A) → option_or o None ≡ o
or-none None = refl
or-none (Some x) = refl

-- How ports are joined

if-joined : (o : Option Joining) (b : Bool) (j : Joining) (rest : Option Joining) → option_or (option_or o (joining_if b j None)) rest ≡ option_or o (joining_if b j rest)
if-joined None true j rest = refl
if-joined None false j rest = refl
if-joined (Some x) b j rest = refl

-- one port more is looked at
pub joined-turn : (o : Option Joining) (x : PortJoined) (xs : List PortJoined) (name : Identifier) →
    option_or (option_or o (joining_of (x ∷ []) name)) (joining_of xs name) ≡ option_or o (joining_of (x ∷ xs) name)
joined-turn o x xs name = if-joined o (same_name x.port name) x.joining (joining_of xs name)

-- where a port of the name is kept, a later one changes nothing
pub joined-there : (f : Identifier → Option Joining) (x : PortJoined) (j : Joining) → f x.port ≡ Some j → (name : Identifier) → f name ≡ option_or (f name) (joining_of (x ∷ []) name)
joined-there f x j e name = step (same_name x.port name) refl
  where
    kept : (o : Option Joining) (rest : Option Joining) → o ≡ Some j → o ≡ option_or o rest
    kept (Some k) rest h = refl
    kept None rest h = absurd (cc)

    step : (b : Bool) → same_name x.port name ≡ b → f name ≡ option_or (f name) (joining_if b x.joining None)
    step true s = kept (f name) (Some x.joining) (ap f (sym (equal-name x.port name s)) ∙ e)
    step false s = sym (or-none (f name))

-- where none is kept, it is kept
pub joined-new : (f g : Identifier → Option Joining) (x : PortJoined) → f x.port ≡ None → ((name : Identifier) → g name ≡ cond (same_name x.port name) (Some x.joining) (f name)) →
    (name : Identifier) → g name ≡ option_or (f name) (joining_of (x ∷ []) name)
joined-new f g x e h name = h name ∙ step (same_name x.port name) refl
  where
    step : (b : Bool) → same_name x.port name ≡ b → cond b (Some x.joining) (f name) ≡ option_or (f name) (joining_if b x.joining None)
    step true s = ap (λ o. option_or o (Some x.joining)) (sym (ap f (sym (equal-name x.port name s)) ∙ e))
    step false s = sym (or-none (f name))

-- what a map keeps of a name after it is seen
pub seen-cond : {A B : Type 0} (f : A → B) (b : Bool) (x : A) (o : Option A) → option_map f (cond b (Some x) o) ≡ cond b (Some (f x)) (option_map f o)
seen-cond f true x o = refl
seen-cond f false x o = refl

-- Names in two lists

pub has-append : (a b : List Identifier) (name : Identifier) → has_name (a ++ b) name ≡ (has_name a name || has_name b name)
has-append [] b name = refl
has-append (x ∷ a) b name = ap (λ r. same_name x name || r) (has-append a b name) ∙ grouped (same_name x name) (has_name a name) (has_name b name)
  where
    grouped : (p q r : Bool) → (p || (q || r)) ≡ ((p || q) || r)
    grouped true q r = refl
    grouped false q r = refl

-- a name more is kept
pub kept-turn : {A : Type 0} (b : Bool) (x : A) (o : Option A) (rest : Bool) → (is_some (cond b (Some x) o) || rest) ≡ (is_some o || (b || rest))
kept-turn true x None rest = refl
kept-turn true x (Some y) rest = refl
kept-turn false x o rest = refl

pub or-false : (b : Bool) → (b || false) ≡ b
or-false true = refl
or-false false = refl
