-- Every spelled parameter, port, net and variable is read.
use Rattle.std.proofs.Common.{◌≡◌, ℕ, ◌≤◌, Bool, true, false, List, [], ◌∷◌, ◌++◌, Option, Some, None, Ok, Err, refl, sym, ◌∙◌, ap, subst, arith, append_assoc, length-append, inl, inr}
use Rattle.std.proofs.lemmas.List.{append-nil}
use Rattle.vf_base.specs.Base.{SourcePlace}
use Rattle.v_tree.specs.Tokens.{SourceToken}
use Rattle.v_tree.specs.declared.item.Direction.{Direction}
use Rattle.v_tree.specs.declared.item.Direction.TheVariants.{Input, Output}
use Rattle.v_tree.specs.Trees.{SourceExpression, NamedPlace, SourceRange, SourceParameter, SourceParameters, SourcePorts, SourceWire, SourceContent, NoContent, FirstContent, MemoryBounds, SourceReg}
use Rattle.v_tree.specs.Trees.{SourceHeads, PlainHeads, DeclaredHeads}
use Rattle.v_readers.specs.declared.class.Class.{Class}
use Rattle.v_readers.specs.declared.class.Class.TheVariants as classes
use Rattle.v_readers.specs.Classes.{same_class, token_of}
use Rattle.v_readers.specs.ClassLaws.{same_class-same, class_of-kind_of}
use Rattle.v_readers.specs.Reading.{Reading, Reader, ◌>>=◌, followed, give, next_class, is_class, expect, repeat}
use Rattle.v_readers.specs.Separated.{SpellsBehind, SpellsList}
use Rattle.v_readers.specs.Exact.{Language}
use Rattle.v_readers.specs.Branches.{nowhere}
use Rattle.v_readers.specs.SeparatedLaws.{EachFits}
use Rattle.v_readers.specs.Reads.{next-class, expect-reads, name-reads, turn-is, last-is, separated-reads}
use Rattle.v_expr.specs.Heights.{height_of, range_height}
use Rattle.v_expr.specs.ExpressionReads.{EndsBefore, expression-reads}
use Rattle.v_expr.specs.PartLaws.{range-reads}
use Rattle.v_parse.specs.Spelling.{SpellsNamed, SpellsSigned, SpellsWidth, SpellsValue, SpellsParameter, SpellsParameters, parameter_word, SpellsGroup, SpellsParameterList, direction_word}
use Rattle.v_parse.specs.Spelling.{SpellsSort, SpellsPorts, SpellsHeads, SpellsWire, SpellsContent, SpellsReg}
use Rattle.v_parse.specs.Heights.{greatest, height_if_there, parameters_height, ports_height, heads_height, wire_height, content_height, reg_height}
use Rattle.v_parse.specs.Items.{named, signed_by, signed, width_by, width, value_by, value, parameter, parameters, group, with_last, add_parameter, group_by, groups_by, groups_turn, groups}
use Rattle.v_parse.specs.Items.{parameter_list_by, parameter_list, sort_by, sort, ports_head, with_names, ports, port, add_name, another_port, port_by, ports_by, ports_turn, declared_ports}
use Rattle.v_parse.specs.Items.{heads_inside, heads_by, heads, wire, content_by, content, reg}
use Rattle.v_parse.specs.DeclarationExact.{Any, ParameterWithin}

-- What stands behind an element

abbrev pub is_closer : Option Class → Bool
is_closer (Some classes.Comma) = true
is_closer (Some classes.Semicolon) = true
is_closer (Some classes.RightParen) = true
is_closer _ = false

-- a comma, a semicolon or a closing parenthesis stands behind an element
abbrev pub Closes : Option Class → Type 0
Closes class = is_closer class ≡ true

pub closer-ends : (class : Option Class) → Closes class → EndsBefore 11 class
closer-ends (Some classes.Comma) h = omega arith
closer-ends (Some classes.Semicolon) h = omega arith
closer-ends (Some classes.RightParen) h = omega arith
closer-ends _ h = absurd (let p : false ≡ true = h in cc)

pub not-class : (a b : Class) (class : Option Class) → same_class a b ≡ false → class ≡ Some a → class ≡ Some b → ⊥
not-class a b class h e f = let same : a ≡ b = cc in let p : true ≡ false = sym (same_class-same a) ∙ ap (same_class a) same ∙ h in cc

pub each-fits : {A : Type 0} (height : A → ℕ) (k : ℕ) (xs : List A) → greatest height xs ≤ k → EachFits (λ x. height x ≤ k) xs
each-fits height k [] h = tt
each-fits height k (x ∷ xs) h = (omega (arith, h), each-fits height k xs (omega (arith, h)))

pub each-any : {A : Type 0} (xs : List A) → EachFits Any xs
each-any [] = tt
each-any (x ∷ xs) = (tt, each-any xs)

-- a list begins as its elements do
pub list-first : {A : Type 0} (L : Language A) (m class : Class) → ((x : A) (ts rest : List SourceToken) → L x ts → next_class (ts ++ rest) ≡ Some class)
    → (xs : List A) (ts rest : List SourceToken) → SpellsList L m xs ts → next_class (ts ++ rest) ≡ Some class
list-first L m class each [] ts rest h = absurd h
list-first L m class each (x ∷ xs) ts rest h =
    ap (λ f. next_class (f ++ rest)) h.4 ∙ ap next_class (append_assoc h.0 h.1 rest) ∙ each x h.0 (h.1 ++ rest) h.2

-- Parts of declarations

pub named-reads : (n : NamedPlace) (ts rest : List SourceToken) → SpellsNamed n ts → named (ts ++ rest) ≡ Ok (n, rest)
unfolding named
named-reads n ts rest h = ap (λ f. named (f ++ rest)) h.1 ∙ rw (name-reads n.name n.place rest h.0) refl

pub named-first : (n : NamedPlace) (ts rest : List SourceToken) → SpellsNamed n ts → next_class (ts ++ rest) ≡ Some classes.Name
named-first n ts rest h = ap (λ f. next_class (f ++ rest)) h.1 ∙ ap (λ (c : Class). Some c) h.0

signed_by-other : (class : Option Class) (tokens : List SourceToken) → (class ≡ Some classes.Signed → ⊥) → signed_by class tokens ≡ Ok (false, tokens)
signed_by-other (Some classes.Signed) tokens h = absurd (h refl)
signed_by-other _ tokens h = refl

pub signed-reads : (s : Bool) (ts tail : List SourceToken) → SpellsSigned s ts → (next_class tail ≡ Some classes.Signed → ⊥) → signed (ts ++ tail) ≡ Ok (s, tail)
unfolding signed
signed-reads false ts tail h other = ap (λ f. signed (f ++ tail)) h ∙ signed_by-other (next_class tail) tail other
signed-reads true ts tail h other = ap (λ f. signed (f ++ tail)) h.1 ∙ rw (class_of-kind_of classes.Signed) refl

width_by-other : (k : ℕ) (class : Option Class) (tokens : List SourceToken) → (class ≡ Some classes.LeftBracket → ⊥) → width_by k class tokens ≡ Ok (None, tokens)
width_by-other k (Some classes.LeftBracket) tokens h = absurd (h refl)
width_by-other k _ tokens h = refl

pub width-reads : (k : ℕ) (w : Option SourceRange) (ts tail : List SourceToken) → SpellsWidth w ts → height_if_there range_height w ≤ k → (next_class tail ≡ Some classes.LeftBracket → ⊥)
    → width k (ts ++ tail) ≡ Ok (w, tail)
unfolding width
width-reads k None ts tail h low other = ap (λ f. width k (f ++ tail)) h ∙ width_by-other k (next_class tail) tail other
width-reads k (Some r) ts tail h low other =
    ap (λ c. width_by k c (ts ++ tail)) (ap (λ f. next_class (f ++ tail)) h.6 ∙ refl)
    ∙ ap (λ w. followed w (λ r. give (Some r))) (range-reads k r ts tail h low)

-- before a name no range and no `signed` is left out
width-first : (w : Option SourceRange) (ts tail : List SourceToken) → SpellsWidth w ts → next_class tail ≡ Some classes.Name → next_class (ts ++ tail) ≡ Some classes.Signed → ⊥
width-first None ts tail h name e = not-class classes.Name classes.Signed (next_class tail) refl name (sym (ap (λ f. next_class (f ++ tail)) h) ∙ e)
width-first (Some r) ts tail h name e = not-class classes.LeftBracket classes.Signed (next_class (ts ++ tail)) refl (ap (λ f. next_class (f ++ tail)) h.6) e

-- `signed` and a range, before a name
pub signs-read : (k : ℕ) (s : Bool) (w : Option SourceRange) (sign width_tokens tail : List SourceToken) → SpellsSigned s sign → SpellsWidth w width_tokens → height_if_there range_height w ≤ k
    → next_class tail ≡ Some classes.Name
    → (signed (sign ++ (width_tokens ++ tail)) ≡ Ok (s, width_tokens ++ tail)) × (width k (width_tokens ++ tail) ≡ Ok (w, tail))
signs-read k s w sign width_tokens tail h g low name = (
  signed-reads s sign (width_tokens ++ tail) h (width-first w width_tokens tail g name),
  width-reads k w width_tokens tail g low (not-class classes.Name classes.LeftBracket (next_class tail) refl name),
)

value_by-closer : (k : ℕ) (class : Option Class) (tokens : List SourceToken) → Closes class → value_by k class tokens ≡ Ok (None, tokens)
value_by-closer k (Some classes.Assign) tokens h = absurd (let p : false ≡ true = h in cc)
value_by-closer k _ tokens h = refl

pub value-reads : (k : ℕ) (v : Option SourceExpression) (ts rest : List SourceToken) → SpellsValue v ts → height_if_there height_of v ≤ k → Closes (next_class rest) →
    value k (ts ++ rest) ≡ Ok (v, rest)
unfolding value
value-reads k None ts rest h low ends = ap (λ f. value k (f ++ rest)) h ∙ value_by-closer k (next_class rest) rest ends
value-reads k (Some e) ts rest h low ends =
    ap (λ f. value k (f ++ rest)) h.3 ∙ ap (λ w. followed w (λ e. give (Some e))) (expression-reads k e h.1 rest h.2 low (closer-ends (next_class rest) ends))

-- Parameters

pub parameter-reads : (k : ℕ) (p : SourceParameter) (ts rest : List SourceToken) → SpellsParameter p ts → height_of p.value ≤ k → Closes (next_class rest) → parameter k (ts ++ rest) ≡ Ok (p, rest)
unfolding parameter
parameter-reads k p ts rest h low ends =
    let read = expression-reads k p.value h.2 rest h.3 low (closer-ends (next_class rest) ends) in
    ap (λ f. parameter k (f ++ rest)) h.4
    ∙ rw (name-reads p.name p.place (token_of classes.Assign h.1 ∷ (h.2 ++ rest)) h.0, read) refl

pub parameter-first : (p : SourceParameter) (ts rest : List SourceToken) → SpellsParameter p ts → next_class (ts ++ rest) ≡ Some classes.Name
parameter-first p ts rest h = ap (λ f. next_class (f ++ rest)) h.4 ∙ ap (λ (c : Class). Some c) h.0

pub parameters-reads : (k : ℕ) (g : SourceParameters) (ts rest : List SourceToken) → SpellsParameters (parameter_word g.is_local) g ts → parameters_height g ≤ k
    → Closes (next_class rest) → is_class classes.Comma (next_class rest) ≡ false → parameters k g.is_local (ts ++ rest) ≡ Ok (g, rest)
unfolding parameters
parameters-reads k g ts rest h low ends other =
    let word = token_of (parameter_word g.is_local) g.place in
    let tail = h.2 ++ rest in
    let first = list-first SpellsParameter classes.Comma classes.Name parameter-first g.parameters h.2 rest h.5 in
    let signs = signs-read k g.signed g.range h.0 h.1 tail h.3 h.4 (omega (arith, low)) first in
    let all = separated-reads (parameter k) SpellsParameter (ParameterWithin k) Closes classes.Comma refl (parameter-reads k) g.parameters h.2 rest h.5
    (each-fits (λ (p : SourceParameter). height_of p.value) k g.parameters (omega (arith, low))) ends other in
    ap (λ f. parameters k g.is_local (f ++ rest)) h.6
    ∙ ap (λ f. parameters k g.is_local (word ∷ f)) (append_assoc h.0 (h.1 ++ h.2) rest ∙ ap (λ f. h.0 ++ f) (append_assoc h.1 h.2 rest))
    ∙ rw (expect-reads (parameter_word g.is_local) g.place (h.0 ++ (h.1 ++ tail)), signs.0, signs.1, all) refl

-- Lists of groups

-- a group with more elements, one behind the other
abbrev pub adds : {G P : Type 0} → (G → P → G) → G → List P → G
adds add g [] = g
adds add g (p ∷ ps) = adds add (add g p) ps

pub with_last-append : {G P : Type 0} (add : G → P → G) (done : List G) (g : G) (p : P) → with_last add (done ++ g ∷ []) p ≡ done ++ add g p ∷ []
with_last-append add [] g p = refl
with_last-append add (d ∷ []) g p = refl
with_last-append add (d ∷ e ∷ done) g p = ap (λ gs. d ∷ gs) (with_last-append add (e ∷ done) g p)

behind-closes : {A : Type 0} (L : Language A) (xs : List A) (ts rest : List SourceToken) → SpellsBehind L classes.Comma xs ts → Closes (next_class rest) → Closes (next_class (ts ++ rest))
behind-closes L [] ts rest h c = subst (λ f. Closes (next_class (f ++ rest))) (sym h) c
behind-closes L (x ∷ xs) ts rest h c = subst (λ f. Closes (next_class (f ++ rest))) (sym h.5) refl

-- a loop over groups, each read as its first element is and then one element more at each turn
module _ {G P : Type 0} (L : Language G) (M : Language P) (add : G → P → G) (F : P → Type 0) (fits : G → Type 0)
    (turn : List G → Reader (Option (List G)))
    (one : (gs : List G) (p : P) (place : SourcePlace) (inside rest : List SourceToken) → M p inside → F p → Closes (next_class rest)
    → turn gs (token_of classes.Comma place ∷ (inside ++ rest)) ≡ Ok (Some (with_last add gs p), rest))
    (another : (gs : List G) (place : SourcePlace) (g : G) (ts : List SourceToken) → L g ts → fits g →
    (first : G) × (ps : List P) × (head behind : List SourceToken) × (ts ≡ head ++ behind) × SpellsBehind M classes.Comma ps behind × EachFits F ps × (adds add first ps ≡ g)
    × ((rest : List SourceToken) → Closes (next_class rest) → turn gs (token_of classes.Comma place ∷ (head ++ rest)) ≡ Ok (Some (gs ++ first ∷ []), rest)))
    (last : (gs : List G) (rest : List SourceToken) → is_class classes.Comma (next_class rest) ≡ false → turn gs rest ≡ Ok (None, rest)) where
  elements : (ps : List P) (done : List G) (g : G) (ts rest : List SourceToken) → SpellsBehind M classes.Comma ps ts → EachFits F ps → Closes (next_class rest)
      → repeat turn (done ++ g ∷ []) (ts ++ rest) ≡ repeat turn (done ++ adds add g ps ∷ []) rest
  elements [] done g ts rest h f c = ap (λ e. repeat turn (done ++ g ∷ []) (e ++ rest)) h
  elements (p ∷ ps) done g ts rest h f c =
      let tokens = token_of classes.Comma h.0 ∷ (h.1 ++ (h.2 ++ rest)) in
      ap (λ e. repeat turn (done ++ g ∷ []) (e ++ rest)) h.5
      ∙ ap (λ e. repeat turn (done ++ g ∷ []) (token_of classes.Comma h.0 ∷ e)) (append_assoc h.1 h.2 rest)
      ∙ turn-is turn (done ++ g ∷ []) (done ++ add g p ∷ []) tokens (h.2 ++ rest)
      (one (done ++ g ∷ []) p h.0 h.1 (h.2 ++ rest) h.3 f.0 (behind-closes M ps h.2 rest h.4 c) ∙ ap (λ gs. Ok (Some gs, h.2 ++ rest)) (with_last-append add done g p))
      (omega (arith, length-append h.1 (h.2 ++ rest)))
      ∙ elements ps done (add g p) h.2 rest h.4 f.1 c

  more_groups : (gs done : List G) (ts rest : List SourceToken) → SpellsBehind L classes.Comma gs ts → EachFits fits gs → Closes (next_class rest) → is_class classes.Comma (next_class rest) ≡ false
      → repeat turn done (ts ++ rest) ≡ Ok (done ++ gs, rest)
  more_groups [] done ts rest h f c other =
      ap (λ e. repeat turn done (e ++ rest)) h ∙ last-is turn done rest (last done rest other) ∙ ap (λ w. Ok (w, rest)) (sym (append-nil done))
  more_groups (g ∷ gs) done ts rest h f c other =
      let a = another done h.0 g h.1 h.3 f.0 in
      let back = a.3 ++ (h.2 ++ rest) in
      let tokens = token_of classes.Comma h.0 ∷ (a.2 ++ back) in
      let closes = behind-closes L gs h.2 rest h.4 c in
      ap (λ e. repeat turn done (e ++ rest)) h.5
      ∙ ap (λ e. repeat turn done (token_of classes.Comma h.0 ∷ e)) (append_assoc h.1 h.2 rest ∙ ap (λ e. e ++ (h.2 ++ rest)) a.4 ∙ append_assoc a.2 a.3 (h.2 ++ rest))
      ∙ turn-is turn done (done ++ a.0 ∷ []) tokens back (a.8 back (behind-closes M a.1 a.3 (h.2 ++ rest) a.5 closes)) (omega (arith, length-append a.2 back))
      ∙ elements a.1 done a.0 a.3 (h.2 ++ rest) a.5 a.6 closes
      ∙ ap (λ e. repeat turn (done ++ e ∷ []) (h.2 ++ rest)) a.7
      ∙ more_groups gs (done ++ g ∷ []) h.2 rest h.4 f.1 c other
      ∙ ap (λ w. Ok (w, rest)) (append_assoc done (g ∷ []) gs)

  -- the groups of a list are read, the first by a reader of its own
  module _ (group_reader : Reader G) (Good : G → Type 0)
      (begins : (g : G) (ts : List SourceToken) (s : L g ts) (f : fits g) → Good g → (rest : List SourceToken) → Closes (next_class rest)
      → group_reader ((another [] nowhere g ts s f).2 ++ rest) ≡ Ok ((another [] nowhere g ts s f).0, rest)) where
    pub groups-read : (g : G) (gs : List G) (ts rest : List SourceToken) → SpellsList L classes.Comma (g ∷ gs) ts → EachFits fits (g ∷ gs) → Good g → Closes (next_class rest)
        → is_class classes.Comma (next_class rest) ≡ false → followed (group_reader (ts ++ rest)) (λ g. repeat turn (g ∷ [])) ≡ Ok (g ∷ gs, rest)
    groups-read g gs ts rest h f good c other =
        let a = another [] nowhere g h.0 h.2 f.0 in
        let closes = behind-closes L gs h.1 rest h.3 c in
        let back = a.3 ++ (h.1 ++ rest) in
        ap (λ e. followed (group_reader (e ++ rest)) (λ g. repeat turn (g ∷ []))) h.4
        ∙ ap (λ e. followed (group_reader e) (λ g. repeat turn (g ∷ []))) (append_assoc h.0 h.1 rest ∙ ap (λ e. e ++ (h.1 ++ rest)) a.4 ∙ append_assoc a.2 a.3 (h.1 ++ rest))
        ∙ ap (λ e. followed e (λ g. repeat turn (g ∷ []))) (begins g h.0 h.2 f.0 good back (behind-closes M a.1 a.3 (h.1 ++ rest) a.5 closes))
        ∙ elements a.1 [] a.0 a.3 (h.1 ++ rest) a.5 a.6 closes
        ∙ ap (λ e. repeat turn (e ∷ []) (h.1 ++ rest)) a.7
        ∙ more_groups gs (g ∷ []) h.1 rest h.3 f.1 c other

-- Lists of parameters

abbrev made : SourcePlace → Bool → Option SourceRange → List SourceParameter → SourceParameters
made place s range ps = record { place = place; is_local = false; signed = s; range = range; parameters = ps }

adds-made : (place : SourcePlace) (s : Bool) (range : Option SourceRange) (ps qs : List SourceParameter) → adds add_parameter (made place s range qs) ps ≡ made place s range (qs ++ ps)
adds-made place s range [] qs = ap (made place s range) (sym (append-nil qs))
adds-made place s range (p ∷ ps) qs = adds-made place s range ps (qs ++ p ∷ []) ∙ ap (made place s range) (append_assoc qs (p ∷ []) ps)

group-reads : (k : ℕ) (place : SourcePlace) (s : Bool) (range : Option SourceRange) (p : SourceParameter) (sign width_tokens before rest : List SourceToken)
    → SpellsSigned s sign → SpellsWidth range width_tokens → height_if_there range_height range ≤ k → SpellsParameter p before → height_of p.value ≤ k → Closes (next_class rest)
    → group k (token_of classes.Parameter place ∷ (sign ++ (width_tokens ++ (before ++ rest)))) ≡ Ok (made place s range (p ∷ []), rest)
unfolding group
group-reads k place s range p sign width_tokens before rest h g low spelled fits c =
    let signs = signs-read k s range sign width_tokens (before ++ rest) h g low (parameter-first p before rest spelled) in
    rw (expect-reads classes.Parameter place (sign ++ (width_tokens ++ (before ++ rest))), signs.0, signs.1, parameter-reads k p before rest spelled fits c) refl

parameter_one : (k : ℕ) (gs : List SourceParameters) (p : SourceParameter) (place : SourcePlace) (inside rest : List SourceToken) → SpellsParameter p inside → ParameterWithin k p →
    Closes (next_class rest)
    → groups_turn k gs (token_of classes.Comma place ∷ (inside ++ rest)) ≡ Ok (Some (with_last add_parameter gs p), rest)
parameter_one k gs p place inside rest s f c =
    ap (λ class. group_by k gs class (inside ++ rest)) (parameter-first p inside rest s)
    ∙ ap (λ w. followed w (λ p. give (Some (with_last add_parameter gs p)))) (parameter-reads k p inside rest s f c)

abbrev GroupParts : ℕ → List SourceParameters → SourcePlace → SourceParameters → List SourceToken → Type 0
GroupParts k gs place g ts =
    (first : SourceParameters) × (ps : List SourceParameter) × (head behind : List SourceToken) × (ts ≡ head ++ behind) × SpellsBehind SpellsParameter classes.Comma ps behind
    × EachFits (ParameterWithin k) ps × (adds add_parameter first ps ≡ g)
    × ((rest : List SourceToken) → Closes (next_class rest) → group k (head ++ rest) ≡ Ok (first, rest))
    × ((rest : List SourceToken) → Closes (next_class rest) → groups_turn k gs (token_of classes.Comma place ∷ (head ++ rest)) ≡ Ok (Some (gs ++ first ∷ []), rest))

group_parts : (k : ℕ) (gs : List SourceParameters) (place : SourcePlace) (g : SourceParameters) (ts : List SourceToken) → SpellsGroup g ts → parameters_height g ≤ k → GroupParts k gs place g ts
group_parts k gs place g ts h low = by g.parameters h.1.5 refl (each-fits (λ (p : SourceParameter). height_of p.value) k g.parameters (omega (arith, low)))
  where
    by : (all : List SourceParameter) → SpellsList SpellsParameter classes.Comma all h.1.2 → g.parameters ≡ all → EachFits (ParameterWithin k) all → GroupParts k gs place g ts
    by [] listing same fits = absurd listing
    by (p ∷ ps) listing same fits =
        let head = token_of classes.Parameter g.place ∷ (h.1.0 ++ (h.1.1 ++ listing.0)) in
        let whole : made g.place g.signed g.range g.parameters ≡ g = ap (λ b. record { place = g.place; is_local = b; signed = g.signed; range = g.range; parameters = g.parameters }) (sym h.0) in
        let regrouped : (rest : List SourceToken) → head ++ rest ≡ token_of classes.Parameter g.place ∷ (h.1.0 ++ (h.1.1 ++ (listing.0 ++ rest))) =
        λ rest. ap (λ f. token_of classes.Parameter g.place ∷ f) (append_assoc h.1.0 (h.1.1 ++ listing.0) rest ∙ ap (λ f. h.1.0 ++ f) (append_assoc h.1.1 listing.0 rest)) in
        let reads : (rest : List SourceToken) → Closes (next_class rest) → group k (head ++ rest) ≡ Ok (made g.place g.signed g.range (p ∷ []), rest) =
        λ rest c. ap (group k) (regrouped rest) ∙ group-reads k g.place g.signed g.range p h.1.0 h.1.1 listing.0 rest h.1.3 h.1.4 (omega (arith, low)) listing.2 fits.0 c in (
          made g.place g.signed g.range (p ∷ []),
          ps,
          head,
          listing.1,
          h.1.6 ∙ ap (λ f. token_of classes.Parameter g.place ∷ (h.1.0 ++ (h.1.1 ++ f))) listing.4 ∙ sym (regrouped listing.1),
          listing.3,
          fits.1,
          adds-made g.place g.signed g.range ps (p ∷ []) ∙ ap (made g.place g.signed g.range) (sym same) ∙ whole,
          reads,
          λ rest c.
              ap (λ class. group_by k gs class (head ++ rest)) (next-class classes.Parameter g.place ((h.1.0 ++ (h.1.1 ++ listing.0)) ++ rest))
              ∙ ap (λ w. followed w (λ g. give (Some (gs ++ g ∷ [])))) (reads rest c),
        )

pub groups_last : (k : ℕ) (gs : List SourceParameters) (rest : List SourceToken) → is_class classes.Comma (next_class rest) ≡ false → groups_turn k gs rest ≡ Ok (None, rest)
groups_last k gs rest h = by (next_class rest) h
  where
    by : (class : Option Class) → is_class classes.Comma class ≡ false → groups_by k gs class rest ≡ Ok (None, rest)
    by (Some classes.Comma) e = absurd (let p : true ≡ false = e in cc)
    by _ e = refl

pub groups-reads : (k : ℕ) (gs : List SourceParameters) (ts rest : List SourceToken) → SpellsList SpellsGroup classes.Comma gs ts → greatest parameters_height gs ≤ k
    → Closes (next_class rest) → is_class classes.Comma (next_class rest) ≡ false → groups k (ts ++ rest) ≡ Ok (gs, rest)
unfolding groups
groups-reads k [] ts rest h low c other = absurd h
groups-reads k (g ∷ gs) ts rest h low c other =
    groups-read SpellsGroup SpellsParameter add_parameter (ParameterWithin k) (λ g. parameters_height g ≤ k) (groups_turn k) (parameter_one k)
    (λ gs place g ts s f. let a = group_parts k gs place g ts s f in (a.0, a.1, a.2, a.3, a.4, a.5, a.6, a.7, a.9)) (groups_last k)
    (group k) Any (λ g ts s f good. (group_parts k [] nowhere g ts s f).8)
    g gs ts rest h (each-fits parameters_height k (g ∷ gs) low) tt c other

parameter_list_by-other : (k : ℕ) (class : Option Class) (tokens : List SourceToken) → (class ≡ Some classes.Hash → ⊥) → parameter_list_by k class tokens ≡ Ok ([], tokens)
parameter_list_by-other k (Some classes.Hash) tokens h = absurd (h refl)
parameter_list_by-other k _ tokens h = refl

pub parameter_list-reads : (k : ℕ) (gs : List SourceParameters) (ts rest : List SourceToken) → SpellsParameterList gs ts → greatest parameters_height gs ≤ k → (next_class rest ≡ Some classes.Hash → ⊥)
    → parameter_list k (ts ++ rest) ≡ Ok (gs, rest)
unfolding parameter_list
parameter_list-reads k [] ts rest h low other = ap (λ f. parameter_list k (f ++ rest)) h ∙ parameter_list_by-other k (next_class rest) rest other
parameter_list-reads k (g ∷ gs) ts rest h low other =
    let close = token_of classes.RightParen h.2 ∷ rest in
    let read = groups-reads k (g ∷ gs) h.3 close h.4 low refl refl in
    ap (λ f. parameter_list k (f ++ rest)) h.5
    ∙ ap (λ f. parameter_list k (token_of classes.Hash h.0 ∷ token_of classes.LeftParen h.1 ∷ f)) (append_assoc h.3 (token_of classes.RightParen h.2 ∷ []) rest)
    ∙ rw read refl

-- Ports

abbrev goes_on : Option Class → Bool
goes_on (Some classes.Signed) = true
goes_on (Some classes.LeftBracket) = true
goes_on (Some classes.Name) = true
goes_on _ = false

width-goes_on : (w : Option SourceRange) (ts tail : List SourceToken) → SpellsWidth w ts → next_class tail ≡ Some classes.Name → goes_on (next_class (ts ++ tail)) ≡ true
width-goes_on None ts tail h name = ap (λ f. goes_on (next_class (f ++ tail))) h ∙ ap goes_on name
width-goes_on (Some r) ts tail h name = ap (λ f. goes_on (next_class (f ++ tail))) h.6

signs-go_on : (s : Bool) (w : Option SourceRange) (sign width_tokens tail : List SourceToken) → SpellsSigned s sign → SpellsWidth w width_tokens → next_class tail ≡ Some classes.Name
    → goes_on (next_class (sign ++ (width_tokens ++ tail))) ≡ true
signs-go_on false w sign width_tokens tail h g name = ap (λ f. goes_on (next_class (f ++ (width_tokens ++ tail)))) h ∙ width-goes_on w width_tokens tail g name
signs-go_on true w sign width_tokens tail h g name =
    ap (λ f. goes_on (next_class (f ++ (width_tokens ++ tail)))) h.1 ∙ ap goes_on (next-class classes.Signed h.0 (width_tokens ++ tail))

sort_by-other : (direction : Direction) (class : Option Class) (tokens : List SourceToken) → goes_on class ≡ true → sort_by direction class tokens ≡ Ok (false, tokens)
sort_by-other Input (Some classes.Signed) tokens h = refl
sort_by-other Input (Some classes.LeftBracket) tokens h = refl
sort_by-other Input (Some classes.Name) tokens h = refl
sort_by-other Output (Some classes.Signed) tokens h = refl
sort_by-other Output (Some classes.LeftBracket) tokens h = refl
sort_by-other Output (Some classes.Name) tokens h = refl
sort_by-other direction _ tokens h = absurd (let p : false ≡ true = h in cc)

sort-wire : (direction : Direction) (place : SourcePlace) (tail : List SourceToken) → sort direction (token_of classes.Wire place ∷ tail) ≡ Ok (false, tail)
unfolding sort
sort-wire Input place tail = rw (class_of-kind_of classes.Wire) refl
sort-wire Output place tail = rw (class_of-kind_of classes.Wire) refl

pub sort-reads : (direction : Direction) (r : Bool) (ts tail : List SourceToken) → SpellsSort direction r ts → goes_on (next_class tail) ≡ true → sort direction (ts ++ tail) ≡ Ok (r, tail)
unfolding sort
sort-reads direction false ts tail (inl e) h = ap (λ f. sort direction (f ++ tail)) e ∙ sort_by-other direction (next_class tail) tail h
sort-reads direction false ts tail (inr s) h = ap (λ f. sort direction (f ++ tail)) s.1 ∙ sort-wire direction s.0 tail
sort-reads Input true ts tail s h = absurd s
sort-reads Output true ts tail s h = ap (λ f. sort Output (f ++ tail)) s.1 ∙ rw (class_of-kind_of classes.Reg) refl

ports_head-reads : (k : ℕ) (direction : Direction) (place : SourcePlace) (r s : Bool) (range : Option SourceRange) (sort_tokens sign width_tokens tail : List SourceToken)
    → SpellsSort direction r sort_tokens → SpellsSigned s sign → SpellsWidth range width_tokens → height_if_there range_height range ≤ k → next_class tail ≡ Some classes.Name
    → ports_head k direction (token_of (direction_word direction) place ∷ (sort_tokens ++ (sign ++ (width_tokens ++ tail))))
    ≡ Ok (record { place = place; direction = direction; is_reg = r; signed = s; range = range; names = [] }, tail)
unfolding ports_head
ports_head-reads k direction place r s range sort_tokens sign width_tokens tail sorting signing ranging low name =
    let signs = signs-read k s range sign width_tokens tail signing ranging low name in
    let sorted = sort-reads direction r sort_tokens (sign ++ (width_tokens ++ tail)) sorting (signs-go_on s range sign width_tokens tail signing ranging name) in
    rw (expect-reads (direction_word direction) place (sort_tokens ++ (sign ++ (width_tokens ++ tail))), sorted, signs.0, signs.1) refl

ports-regrouped : (word : SourceToken) (a b c d rest : List SourceToken) → (word ∷ (a ++ (b ++ (c ++ d)))) ++ rest ≡ word ∷ (a ++ (b ++ (c ++ (d ++ rest))))
ports-regrouped word a b c d rest =
    ap (λ f. word ∷ f) (append_assoc a (b ++ (c ++ d)) rest ∙ ap (λ f. a ++ f) (append_assoc b (c ++ d) rest ∙ ap (λ f. b ++ f) (append_assoc c d rest)))

pub ports-reads : (k : ℕ) (g : SourcePorts) (ts rest : List SourceToken) → SpellsPorts g ts → ports_height g ≤ k → Closes (next_class rest) → is_class classes.Comma (next_class rest) ≡ false
    → ports k g.direction (ts ++ rest) ≡ Ok (g, rest)
unfolding ports
ports-reads k g ts rest h low c other =
    let word = token_of (direction_word g.direction) g.place in
    let first = list-first SpellsNamed classes.Comma classes.Name named-first g.names h.3 rest h.7 in
    let head = ports_head-reads k g.direction g.place g.is_reg g.signed g.range h.0 h.1 h.2 (h.3 ++ rest) h.4 h.5 h.6 low first in
    let all = separated-reads named SpellsNamed Any Closes classes.Comma refl (λ n ts rest s f c. named-reads n ts rest s) g.names h.3 rest h.7 (each-any g.names) c other in
    ap (λ f. ports k g.direction (f ++ rest)) h.8
    ∙ ap (ports k g.direction) (ports-regrouped word h.0 h.1 h.2 h.3 rest)
    ∙ rw (head, all) refl

adds-names : (g : SourcePorts) (ns done : List NamedPlace) → adds add_name (with_names g done) ns ≡ with_names g (done ++ ns)
adds-names g [] done = ap (with_names g) (sym (append-nil done))
adds-names g (n ∷ ns) done = adds-names g ns (done ++ n ∷ []) ∙ ap (with_names g) (append_assoc done (n ∷ []) ns)

name_one : (k : ℕ) (gs : List SourcePorts) (n : NamedPlace) (place : SourcePlace) (inside rest : List SourceToken) → SpellsNamed n inside → Any n → Closes (next_class rest)
    → ports_turn k gs (token_of classes.Comma place ∷ (inside ++ rest)) ≡ Ok (Some (with_last add_name gs n), rest)
name_one k gs n place inside rest s f c =
    ap (λ class. port_by k gs class (inside ++ rest)) (named-first n inside rest s)
    ∙ ap (λ w. followed w (λ n. give (Some (with_last add_name gs n)))) (named-reads n inside rest s)

port_by-word : (k : ℕ) (gs : List SourcePorts) (direction : Direction) (tokens : List SourceToken) → port_by k gs (Some (direction_word direction)) tokens ≡ another_port k gs direction tokens
port_by-word k gs Input tokens = refl
port_by-word k gs Output tokens = refl

abbrev PortParts : ℕ → List SourcePorts → SourcePlace → SourcePorts → List SourceToken → Type 0
PortParts k gs place g ts =
    (first : SourcePorts) × (ns : List NamedPlace) × (head behind : List SourceToken) × (ts ≡ head ++ behind) × SpellsBehind SpellsNamed classes.Comma ns behind
    × EachFits Any ns × (adds add_name first ns ≡ g)
    × ((rest : List SourceToken) → Closes (next_class rest) → port k g.direction (head ++ rest) ≡ Ok (first, rest))
    × ((rest : List SourceToken) → Closes (next_class rest) → ports_turn k gs (token_of classes.Comma place ∷ (head ++ rest)) ≡ Ok (Some (gs ++ first ∷ []), rest))

port_parts : (k : ℕ) (gs : List SourcePorts) (place : SourcePlace) (g : SourcePorts) (ts : List SourceToken) → SpellsPorts g ts → ports_height g ≤ k → PortParts k gs place g ts
unfolding port
port_parts k gs place g ts h low = by g.names h.7 refl
  where
    by : (all : List NamedPlace) → SpellsList SpellsNamed classes.Comma all h.3 → g.names ≡ all → PortParts k gs place g ts
    by [] listing same = absurd listing
    by (n ∷ ns) listing same =
        let word = token_of (direction_word g.direction) g.place in
        let head = word ∷ (h.0 ++ (h.1 ++ (h.2 ++ listing.0))) in
        let reads : (rest : List SourceToken) → Closes (next_class rest) → port k g.direction (head ++ rest) ≡ Ok (with_names g (n ∷ []), rest) =
        λ rest c.
        let begun = ports_head-reads k g.direction g.place g.is_reg g.signed g.range h.0 h.1 h.2 (listing.0 ++ rest) h.4 h.5 h.6 low (named-first n listing.0 rest listing.2) in
        ap (port k g.direction) (ports-regrouped word h.0 h.1 h.2 listing.0 rest) ∙ rw (begun, named-reads n listing.0 rest listing.2) refl in (
          with_names g (n ∷ []),
          ns,
          head,
          listing.1,
          h.8 ∙ ap (λ f. word ∷ (h.0 ++ (h.1 ++ (h.2 ++ f)))) listing.4 ∙ sym (ports-regrouped word h.0 h.1 h.2 listing.0 listing.1),
          listing.3,
          each-any ns,
          adds-names g ns (n ∷ []) ∙ ap (with_names g) (sym same),
          reads,
          λ rest c.
              ap (λ class. port_by k gs class (head ++ rest)) (next-class (direction_word g.direction) g.place ((h.0 ++ (h.1 ++ (h.2 ++ listing.0))) ++ rest))
              ∙ port_by-word k gs g.direction (head ++ rest)
              ∙ ap (λ w. followed w (λ p. give (Some (gs ++ p ∷ [])))) (reads rest c),
        )

pub ports_last : (k : ℕ) (gs : List SourcePorts) (rest : List SourceToken) → is_class classes.Comma (next_class rest) ≡ false → ports_turn k gs rest ≡ Ok (None, rest)
ports_last k gs rest h = by (next_class rest) h
  where
    by : (class : Option Class) → is_class classes.Comma class ≡ false → ports_by k gs class rest ≡ Ok (None, rest)
    by (Some classes.Comma) e = absurd (let p : true ≡ false = e in cc)
    by _ e = refl

-- what stands behind the opening parenthesis of a list of declared ports
inside_by-word : (k : ℕ) (direction : Direction) (tokens : List SourceToken) → heads_inside k (Some (direction_word direction)) tokens ≡ declared_ports k direction tokens
inside_by-word k Input tokens = refl
inside_by-word k Output tokens = refl

-- the first group of ports tells which way its ports go
ports-first : (g : SourcePorts) (gs : List SourcePorts) (ts rest : List SourceToken) → SpellsList SpellsPorts classes.Comma (g ∷ gs) ts → next_class (ts ++ rest) ≡ Some (direction_word g.direction)
ports-first g gs ts rest h =
    ap (λ f. next_class (f ++ rest)) h.4 ∙ ap next_class (append_assoc h.0 h.1 rest) ∙ ap (λ f. next_class (f ++ (h.1 ++ rest))) h.2.8
    ∙ next-class (direction_word g.direction) g.place ((h.2.0 ++ (h.2.1 ++ (h.2.2 ++ h.2.3))) ++ (h.1 ++ rest))

declared_ports-reads : (k : ℕ) (g : SourcePorts) (gs : List SourcePorts) (ts : List SourceToken) (close : SourcePlace) (rest : List SourceToken) → SpellsList SpellsPorts classes.Comma (g ∷ gs) ts
    → greatest ports_height (g ∷ gs) ≤ k → declared_ports k g.direction (ts ++ token_of classes.RightParen close ∷ rest) ≡ Ok (DeclaredHeads (g ∷ gs), rest)
unfolding declared_ports
declared_ports-reads k g gs ts close rest h low =
    let back = token_of classes.RightParen close ∷ rest in
    let read = groups-read SpellsPorts SpellsNamed add_name Any (λ g. ports_height g ≤ k) (ports_turn k) (name_one k)
    (λ gs place g ts s f. let a = port_parts k gs place g ts s f in (a.0, a.1, a.2, a.3, a.4, a.5, a.6, a.7, a.9)) (ports_last k)
    (port k g.direction) (λ d. d.direction ≡ g.direction)
    (λ d ts s f good rest c.
    let a = port_parts k [] nowhere d ts s f in
    ap (λ (w : Direction). port k w (a.2 ++ rest)) (sym good) ∙ a.8 rest c)
    g gs ts back h (each-fits ports_height k (g ∷ gs) low) refl refl refl in
    bound (port k g.direction) (λ p. repeat (ports_turn k) (p ∷ [])) (λ ps. expect classes.RightParen >>= λ closing. give (DeclaredHeads ps)) (ts ++ back) (g ∷ gs) back read
  where
    bound : {A B D : Type 0} (first : Reader A) (second : A → Reader B) (third : B → Reader D) (tokens : List SourceToken) (x : B) (rest : List SourceToken)
        → followed (first tokens) second ≡ Ok (x, rest) → followed (first tokens) (λ a. second a >>= third) ≡ third x rest
    bound {A} first second third tokens x rest e = sym (again (first tokens)) ∙ ap (λ r. followed r third) e
      where
        again : (r : Reading A) → followed (followed r second) third ≡ followed r (λ a. second a >>= third)
        again (Ok y) = refl
        again (Err stop) = refl

pub heads-reads : (k : ℕ) (hs : SourceHeads) (ts rest : List SourceToken) → SpellsHeads hs ts → heads_height hs ≤ k → (next_class rest ≡ Some classes.LeftParen → ⊥) →
    heads k (ts ++ rest) ≡ Ok (hs, rest)
unfolding heads
heads-reads k (PlainHeads []) ts rest (inl e) low other = ap (λ f. heads k (f ++ rest)) e ∙ none (next_class rest) other
  where
    none : (class : Option Class) → (class ≡ Some classes.LeftParen → ⊥) → heads_by k class rest ≡ Ok (PlainHeads [], rest)
    none (Some classes.LeftParen) h = absurd (h refl)
    none _ h = refl
heads-reads k (PlainHeads []) ts rest (inr h) low other =
    ap (λ f. heads k (f ++ rest)) (h.4 ∙ ap (λ f. token_of classes.LeftParen h.0 ∷ (f ++ token_of classes.RightParen h.1 ∷ [])) h.3)
heads-reads k (PlainHeads (n ∷ names)) ts rest h low other =
    let close = token_of classes.RightParen h.1 ∷ rest in
    let read = separated-reads named SpellsNamed Any Closes classes.Comma refl (λ n ts rest s f c. named-reads n ts rest s) (n ∷ names) h.2 close h.3 (each-any (n ∷ names)) refl refl in
    ap (λ f. heads k (f ++ rest)) h.4
    ∙ ap (λ f. heads k (token_of classes.LeftParen h.0 ∷ f)) (append_assoc h.2 (token_of classes.RightParen h.1 ∷ []) rest)
    ∙ ap (λ class. heads_inside k class (h.2 ++ close)) (list-first SpellsNamed classes.Comma classes.Name named-first (n ∷ names) h.2 close h.3)
    ∙ rw read refl
heads-reads k (DeclaredHeads []) ts rest h low other = absurd h.3
heads-reads k (DeclaredHeads (g ∷ gs)) ts rest h low other =
    let close = token_of classes.RightParen h.1 ∷ rest in
    ap (λ f. heads k (f ++ rest)) h.4
    ∙ ap (λ f. heads k (token_of classes.LeftParen h.0 ∷ f)) (append_assoc h.2 (token_of classes.RightParen h.1 ∷ []) rest)
    ∙ ap (λ class. heads_inside k class (h.2 ++ close)) (ports-first g gs h.2 close h.3)
    ∙ inside_by-word k g.direction (h.2 ++ close)
    ∙ declared_ports-reads k g gs h.2 h.1 rest h.3 low

-- Nets and variables

pub wire-reads : (k : ℕ) (w : SourceWire) (ts rest : List SourceToken) → SpellsWire w ts → wire_height w ≤ k → Closes (next_class rest) → wire k (ts ++ rest) ≡ Ok (w, rest)
unfolding wire
wire-reads k w ts rest h low c =
    ap (λ f. wire k (f ++ rest)) h.3 ∙ rw (name-reads w.name w.place (h.1 ++ rest) h.0, value-reads k w.value h.1 rest h.2 low c) refl

pub wire-first : (w : SourceWire) (ts rest : List SourceToken) → SpellsWire w ts → next_class (ts ++ rest) ≡ Some classes.Name
wire-first w ts rest h = ap (λ f. next_class (f ++ rest)) h.3 ∙ ap (λ (c : Class). Some c) h.0

content_by-closer : (k : ℕ) (class : Option Class) (tokens : List SourceToken) → Closes class → content_by k class tokens ≡ Ok (NoContent, tokens)
content_by-closer k (Some classes.Assign) tokens h = absurd (let p : false ≡ true = h in cc)
content_by-closer k (Some classes.LeftBracket) tokens h = absurd (let p : false ≡ true = h in cc)
content_by-closer k _ tokens h = refl

pub content-reads : (k : ℕ) (c : SourceContent) (ts rest : List SourceToken) → SpellsContent c ts → content_height c ≤ k → Closes (next_class rest) → content k (ts ++ rest) ≡ Ok (c, rest)
unfolding content
content-reads k NoContent ts rest h low ends = ap (λ f. content k (f ++ rest)) h ∙ content_by-closer k (next_class rest) rest ends
content-reads k (FirstContent e) ts rest h low ends =
    ap (λ f. content k (f ++ rest)) h.3 ∙ ap (λ w. followed w (λ e. give (FirstContent e))) (expression-reads k e h.1 rest h.2 low (closer-ends (next_class rest) ends))
content-reads k (MemoryBounds r) ts rest h low ends =
    ap (λ c. content_by k c (ts ++ rest)) (ap (λ f. next_class (f ++ rest)) h.6)
    ∙ ap (λ w. followed w (λ r. give (MemoryBounds r))) (range-reads k r ts rest h low)

pub reg-reads : (k : ℕ) (r : SourceReg) (ts rest : List SourceToken) → SpellsReg r ts → reg_height r ≤ k → Closes (next_class rest) → reg k (ts ++ rest) ≡ Ok (r, rest)
unfolding reg
reg-reads k r ts rest h low c =
    ap (λ f. reg k (f ++ rest)) h.3 ∙ rw (name-reads r.name r.place (h.1 ++ rest) h.0, content-reads k r.content h.1 rest h.2 low c) refl

pub reg-first : (r : SourceReg) (ts rest : List SourceToken) → SpellsReg r ts → next_class (ts ++ rest) ≡ Some classes.Name
reg-first r ts rest h = ap (λ f. next_class (f ++ rest)) h.3 ∙ ap (λ (c : Class). Some c) h.0
