-- A unit is read exactly where the tokens spell one within the levels, and reading stops where it must.
use Rattle.std.proofs.Common.{◌≡◌, ℕ, ◌≤◌, max, List, [], ◌∷◌, ◌++◌, Ok, Err, refl, sym, ◌∙◌, ap, subst, arith, append_assoc, ◌⊎◌, inl, inr}
use Rattle.v_tree.specs.Tokens.{SourceToken}
use Rattle.v_tree.specs.Trees.{SourceModule, SourceUnit}
use Rattle.v_readers.specs.Reading.{Why, Wrong, Deep, Stopped, Reading, followed, ◌>>=◌, give, wrong, deep, end, repeat}
use Rattle.v_readers.specs.Exact.{SameNext, Stops, Tells}
use Rattle.v_readers.specs.Repeat.{append-nil}
use Rattle.v_parse.specs.Spelling.{SpellsUnit}
use Rattle.v_parse.specs.Heights.{unit_height}
use Rattle.v_parse.specs.Items.{modules_turn, unit_reader}
use Rattle.v_parse.specs.ItemExact.{UnitWithin, unit-exact}
use Rattle.v_parse.specs.ItemReads.{unit-reads}
use Rattle.v_parse.specs.Verdict.{BeginsWithin, NoneThrough, IsFirstWrong, IsFirstDeep}

-- nothing is left behind a unit
unit-rest : (levels : ℕ) (tokens : List SourceToken) (u : SourceUnit) (rest : List SourceToken) → unit_reader levels tokens ≡ Ok (u, rest) → rest ≡ []
unfolding unit_reader
unit-rest levels tokens u rest e = after (repeat (modules_turn levels) [] tokens) e
  where
    ended : (ms : List SourceModule) (ts : List SourceToken) → followed (end ts) (λ nothing. give (record { modules = ms })) ≡ Ok (u, rest) → rest ≡ []
    ended ms [] e =
        let x : SourceUnit × List SourceToken = (record { modules = ms }, []) in
        let y : SourceUnit × List SourceToken = (u, rest) in
        let p : ◌≡◌ {A = Reading SourceUnit} (Ok x) (Ok y) = e in
        let q : x ≡ y = cc in
        sym (ap (λ (z : SourceUnit × List SourceToken). z.1) q)
    ended ms (t ∷ ts) e = absurd (let p : ◌≡◌ {A = Reading SourceUnit} (wrong (t ∷ ts)) (Ok (u, rest)) = e in cc)

    after : (r : Reading (List SourceModule)) → followed r (λ ms. end >>= λ nothing. give (record { modules = ms })) ≡ Ok (u, rest) → rest ≡ []
    after (Ok x) e = ended x.0 x.1 e
    after (Err stop) e = absurd (let p : ◌≡◌ {A = Reading SourceUnit} (Err stop) (Ok (u, rest)) = e in cc)

-- what reading a unit says of the tokens
abbrev pub StoppedAt : ℕ → List SourceToken → Why → List SourceToken → Type 0
StoppedAt levels tokens Wrong rest = IsFirstWrong levels tokens rest
StoppedAt levels tokens Deep rest = IsFirstDeep levels tokens rest

abbrev pub Judged : ℕ → List SourceToken → Reading SourceUnit → Type 0
Judged levels tokens (Ok x) = SpellsUnit x.0 tokens × (unit_height x.0 ≤ levels)
Judged levels tokens (Err stop) = StoppedAt levels tokens stop.why stop.rest

no_wrong : (levels : ℕ) (u : SourceUnit) (front rest more : List SourceToken) → SpellsUnit u (front ++ more) → SameNext rest more
    → ((m : ℕ) → levels ≤ m → (more : List SourceToken) → SameNext rest more → unit_reader m (front ++ more) ≡ wrong more) → ⊥
no_wrong levels u front rest more s same again =
    let m = max levels (unit_height u) in
    let p : ◌≡◌ {A = Reading SourceUnit} (Ok (u, [])) (wrong more) = sym (unit-reads m u (front ++ more) s (omega arith)) ∙ again m (omega arith) more same in cc

pub unit-judged : (levels : ℕ) (tokens : List SourceToken) → Judged levels tokens (unit_reader levels tokens)
unit-judged levels tokens = by (unit_reader levels tokens) refl ((unit-exact {C = Unit {0}} levels).tells tt tokens)
  where
    none_through : (front rest : List SourceToken) → ((m : ℕ) → levels ≤ m → (more : List SourceToken) → SameNext rest more → unit_reader m (front ++ more) ≡ wrong more) → NoneThrough front rest
    none_through front [] again = λ u s. no_wrong levels u front [] [] (subst (SpellsUnit u) (sym (append-nil front)) s) tt again
    none_through front (token ∷ rest) again =
        λ b. no_wrong levels b.0 front (token ∷ rest) (token ∷ b.1) (subst (SpellsUnit b.0) (append_assoc front (token ∷ []) b.1) b.2) refl again

    begun : {front : List SourceToken} → (front ≡ []) ⊎ ((x : SourceUnit) × (ts : List SourceToken) × SpellsUnit x (front ++ ts) × UnitWithin levels x) → BeginsWithin levels front
    begun (inl e) = (record { modules = [] }, [], ap (λ f. f ++ []) e, omega arith)
    begun (inr b) = (b.0, b.1, b.2, b.3)

    stopped : (why : Why) (rest : List SourceToken) → Stops unit_reader levels SpellsUnit (UnitWithin levels) tokens why rest → StoppedAt levels tokens why rest
    stopped Wrong rest p = record {
      front = p.front;
      whole = p.whole;
      goes = (p.value, p.tail, p.spelled, p.fits);
      stops = none_through p.front rest p.again;
    }
    stopped Deep rest p = record {
      front = p.front;
      token = p.token;
      after = p.after;
      next = p.next;
      whole = p.whole;
      before = begun p.before;
      goes = (p.value, p.tail, subst (SpellsUnit p.value) (sym (append_assoc p.front (p.token ∷ []) p.tail)) p.spelled);
      stops = λ b.
          let s : SpellsUnit b.0 (p.front ++ p.token ∷ b.1) = subst (SpellsUnit b.0) (append_assoc p.front (p.token ∷ []) b.1) b.2 in
          let q : ◌≡◌ {A = Reading SourceUnit} (Ok (b.0, [])) (deep (p.token ∷ b.1)) = sym (unit-reads levels b.0 (p.front ++ p.token ∷ b.1) s b.3) ∙ p.again b.1 in cc;
    }

    by : (r : Reading SourceUnit) → unit_reader levels tokens ≡ r → Tells unit_reader levels SpellsUnit (UnitWithin levels) tokens r → Judged levels tokens r
    by (Ok x) e p =
        let none_left : x.1 ≡ [] = unit-rest levels tokens x.0 x.1 e in
        (subst (SpellsUnit x.0) (sym (p.whole ∙ ap (λ f. p.front ++ f) none_left ∙ append-nil p.front)) p.spelled, p.fits)
    by (Err stop) e p = stopped stop.why stop.rest p

-- what was read is spelled
pub unit-found : (levels : ℕ) (tokens : List SourceToken) (u : SourceUnit) (rest : List SourceToken) → unit_reader levels tokens ≡ Ok (u, rest) → SpellsUnit u tokens × (unit_height u ≤ levels)
unit-found levels tokens u rest e = subst (Judged levels tokens) e (unit-judged levels tokens)

pub unit-wrong : (levels : ℕ) (tokens rest : List SourceToken) → unit_reader levels tokens ≡ wrong rest → IsFirstWrong levels tokens rest
unit-wrong levels tokens rest e = subst (Judged levels tokens) e (unit-judged levels tokens)

pub unit-deep : (levels : ℕ) (tokens rest : List SourceToken) → unit_reader levels tokens ≡ deep rest → IsFirstDeep levels tokens rest
unit-deep levels tokens rest e = subst (Judged levels tokens) e (unit-judged levels tokens)

-- what is spelled is read, and nothing else is
pub unit-only : (levels : ℕ) (tokens : List SourceToken) (u read : SourceUnit) (rest : List SourceToken) → SpellsUnit u tokens → unit_height u ≤ levels →
    unit_reader levels tokens ≡ Ok (read, rest) → read ≡ u
unit-only levels tokens u read rest s h e =
    let x : SourceUnit × List SourceToken = (u, []) in
    let y : SourceUnit × List SourceToken = (read, rest) in
    let p : ◌≡◌ {A = Reading SourceUnit} (Ok x) (Ok y) = sym (unit-reads levels u tokens s h) ∙ e in
    let q : x ≡ y = cc in
    ap (λ (z : SourceUnit × List SourceToken). z.0) (sym q)

pub unit-no_stop : (levels : ℕ) (tokens : List SourceToken) (u : SourceUnit) (stop : Stopped) → SpellsUnit u tokens → unit_height u ≤ levels → unit_reader levels tokens ≡ Err stop → ⊥
unit-no_stop levels tokens u stop s h e = let p : ◌≡◌ {A = Reading SourceUnit} (Ok (u, [])) (Err stop) = sym (unit-reads levels u tokens s h) ∙ e in cc

-- tokens spell one unit at most
pub one-unit : (tokens : List SourceToken) (one other : SourceUnit) → SpellsUnit one tokens → SpellsUnit other tokens → one ≡ other
one-unit tokens one other s t =
    let m = max (unit_height one) (unit_height other) in
    sym (unit-only m tokens one other [] s (omega arith) (unit-reads m other tokens t (omega arith)))
