-- A text falls into pieces in one way, and stops in one way.
use Rattle.std.proofs.Common.{◌≡◌, ℕ, Bool, true, false, List, [], ◌∷◌, ◌++◌, refl, sym, ◌∙◌, ap, subst, arith, append_assoc, inl, inr, ◌⊎◌, Result, Ok, Err, MatchResult, IfOk, IfErr, Vec, Global}
use Rattle.std.proofs.lemmas.List.{append-nil}
use Rattle.vf_base.specs.declared.ids.Place.{Place}
use Rattle.v_tree.specs.Tokens.{SourceToken}
use Rattle.v_scan.specs.declared.fault.ScanFault.{ScanFault}
use Rattle.v_scan.specs.declared.fault.ScanFault.TheVariants.{BadByte, BadNumber, Unclosed, TooLong, NoMemory}
use Rattle.v_scan.specs.declared.pieces.Part.{Part}
use Rattle.v_scan.specs.declared.pieces.Part.TheVariants as parts
use Rattle.v_scan.specs.Words.{Numeral, word_bytes}
use Rattle.v_scan.specs.Texts.{Piece, Blank, LineComment, BlockComment, Timescale, Token, piece_bytes, IsPiece, ArePieces, spelled, leads_behind, leads_after, next_place, place_behind, start}
use Rattle.v_scan.specs.Texts.{tokens_from, AreTokens, StopsAt, IsFault, BeginsNothing, BeginsRefused, BeginsUnclosed}
use Rattle.v_scan.specs.Reading.{Front, Stands, Refused, Open, Nothing, front_at, IsFront, IsRead, part_of}
use Rattle.v_scan.proofs.Spans.{heads, tails, no_cons, cancel, cancel_back}
use Rattle.v_scan.proofs.WordLaws.{first-byte}
use Rattle.v_scan.proofs.FrontLaws.{piece-only, refused-only, unclosed-only, begins-nothing}

-- One way

-- a piece has a first byte
piece-head : (leading : Bool) (piece : Piece) (rest : List ℕ) → IsPiece leading piece rest → (b : ℕ) × (more : List ℕ) × (piece_bytes piece ++ rest ≡ b ∷ more)
piece-head leading (Blank b) rest h = (b, rest, refl)
piece-head leading (LineComment body) rest h = (47, 47 ∷ (body ++ rest), refl)
piece-head leading (BlockComment body) rest h = (47, 42 ∷ ((body ++ 42 ∷ 47 ∷ []) ++ rest), refl)
piece-head leading (Timescale body) rest h = (_, _, refl)
piece-head leading (Token word kind) rest h = let f = first-byte word h.0 in (f.byte, f.others ++ rest, ap (λ w. w ++ rest) f.whole)

-- no piece begins these bytes
abbrev Halts : Bool → List ℕ → Type 0
Halts leading [] = Unit {0}
Halts leading (b ∷ rest) = (piece : Piece) → front_at leading b rest ≡ Stands piece → ⊥

no-piece : (leading : Bool) (text : List ℕ) → Halts leading text → (piece : Piece) (back : List ℕ) → IsPiece leading piece back → piece_bytes piece ++ back ≡ text → ⊥
no-piece leading [] halts piece back h e = let f = piece-head leading piece back h in no_cons f.0 f.1 (sym e ∙ f.2)
no-piece leading (b ∷ rest) halts piece back h e = halts piece (piece-only leading piece back b rest h e)

some_piece : (p q : Piece) → ◌≡◌ {A = Front} (Stands p) (Stands q) → p ≡ q
some_piece p q e = cc

same-piece : (leading : Bool) (p q : Piece) (r s : List ℕ) → IsPiece leading p r → IsPiece leading q s → piece_bytes p ++ r ≡ piece_bytes q ++ s → p ≡ q
same-piece leading p q r s h g e =
    let f = piece-head leading p r h in
    let one = piece-only leading p r f.0 f.1 h f.2 in
    let two = piece-only leading q s f.0 f.1 g (sym e ∙ f.2) in
    some_piece p q (sym one ∙ two)

-- up to where no piece begins, the pieces are these and no others
pub pieces-one : (leading : Bool) (ps qs : List Piece) (r s : List ℕ) → ArePieces leading ps r → ArePieces leading qs s → Halts (leads_after leading ps) r → Halts (leads_after leading qs) s
    → spelled ps ++ r ≡ spelled qs ++ s → ps ≡ qs
pieces-one leading [] [] r s h g halt_r halt_s e = refl
pieces-one leading [] (q ∷ qs) r s h g halt_r halt_s e = absurd (no-piece leading r halt_r q (spelled qs ++ s) g.0 (sym (e ∙ append_assoc (piece_bytes q) (spelled qs) s)))
pieces-one leading (p ∷ ps) [] r s h g halt_r halt_s e = absurd (no-piece leading s halt_s p (spelled ps ++ r) h.0 (sym (append_assoc (piece_bytes p) (spelled ps) r) ∙ e))
pieces-one leading (p ∷ ps) (q ∷ qs) r s h g halt_r halt_s e =
    let whole : piece_bytes p ++ (spelled ps ++ r) ≡ piece_bytes q ++ (spelled qs ++ s) = sym (append_assoc (piece_bytes p) (spelled ps) r) ∙ e ∙ append_assoc (piece_bytes q) (spelled qs) s in
    let first = same-piece leading p q (spelled ps ++ r) (spelled qs ++ s) h.0 g.0 whole in
    let rest : spelled ps ++ r ≡ spelled qs ++ s = cancel (piece_bytes p) _ _ (whole ∙ ap (λ w. piece_bytes w ++ (spelled qs ++ s)) (sym first)) in
    let same_lead : leads_behind leading q ≡ leads_behind leading p = ap (leads_behind leading) (sym first) in
    let stand : ArePieces (leads_behind leading p) qs s = subst (λ l. ArePieces l qs s) same_lead g.1 in
    let halt : Halts (leads_after (leads_behind leading p) qs) s = subst (λ l. Halts (leads_after l qs) s) same_lead halt_s in
    ap (λ w. w ∷ ps) first ∙ ap (λ w. q ∷ w) (pieces-one (leads_behind leading p) ps qs r s h.1 stand halt_r halt rest)

-- no other tokens are the text's
pub tokens-one : (text : List ℕ) (one two : List SourceToken) → AreTokens text one → AreTokens text two → one ≡ two
tokens-one text one two a b =
    let whole : spelled a.pieces ++ [] ≡ spelled b.pieces ++ [] = ap (λ t. t ++ []) (sym a.whole ∙ b.whole) in
    a.found ∙ ap (tokens_from start) (pieces-one true a.pieces b.pieces [] [] a.stand b.stand tt tt whole) ∙ sym b.found

-- a text that stops somewhere, and what begins there
record Halted (text : List ℕ) (place : Place) (front : Front) : Type 0 where
  pieces : List Piece
  byte : ℕ
  more : List ℕ
  whole : text ≡ spelled pieces ++ byte ∷ more
  stand : ArePieces true pieces (byte ∷ more)
  reached : place ≡ place_behind start (spelled pieces)
  begins : front_at (leads_after true pieces) byte more ≡ front

abbrev Stops_at : Front → Type 0
Stops_at front = (piece : Piece) → front ≡ Stands piece → ⊥

halts : (text : List ℕ) (place : Place) (front : Front) (h : Halted text place front) → Stops_at front → Halts (leads_after true h.pieces) (h.byte ∷ h.more)
halts text place front h stops piece e = stops piece (sym h.begins ∙ e)

halted-one : (text : List ℕ) (p q : Place) (f g : Front) → Halted text p f → Halted text q g → Stops_at f → Stops_at g → (p ≡ q) × (f ≡ g)
halted-one text p q f g h k stop_f stop_g =
    let same = pieces-one true h.pieces k.pieces (h.byte ∷ h.more) (k.byte ∷ k.more) h.stand k.stand (halts text p f h stop_f) (halts text q g k stop_g) (sym h.whole ∙ k.whole) in
    let rest : h.byte ∷ h.more ≡ k.byte ∷ k.more = cancel (spelled h.pieces) _ _ (sym h.whole ∙ k.whole ∙ ap (λ w. spelled w ++ k.byte ∷ k.more) (sym same)) in
    let byte = heads h.byte k.byte h.more k.more rest in
    let more = tails h.byte k.byte h.more k.more rest in (
      h.reached ∙ ap (λ w. place_behind start (spelled w)) same ∙ sym k.reached,
      sym h.begins ∙ ap (λ w. front_at (leads_after true w) h.byte h.more) same ∙ ap (λ d. front_at (leads_after true k.pieces) d h.more) byte
          ∙ ap (front_at (leads_after true k.pieces) k.byte) more ∙ k.begins,
    )

-- a text that has tokens stops nowhere
tokens-halted : (text : List ℕ) (tokens : List SourceToken) (p : Place) (f : Front) → AreTokens text tokens → Halted text p f → Stops_at f → ⊥
tokens-halted text tokens p f a h stop =
    let whole : spelled a.pieces ++ [] ≡ spelled h.pieces ++ h.byte ∷ h.more = append-nil (spelled a.pieces) ∙ sym a.whole ∙ h.whole in
    let same = pieces-one true a.pieces h.pieces [] (h.byte ∷ h.more) a.stand h.stand tt (halts text p f h stop) whole in
    let rest : [] ≡ h.byte ∷ h.more = cancel (spelled a.pieces) _ _ (whole ∙ ap (λ w. spelled w ++ h.byte ∷ h.more) (sym same)) in
    no_cons h.byte h.more rest

-- Faults

nothing-stops : Stops_at Nothing
nothing-stops piece e = cc

refused-stops : Stops_at Refused
refused-stops piece e = cc

open-stops : Stops_at Open
open-stops piece e = cc

-- what begins where a text stops
halted-at : (text : List ℕ) (place : Place) (Begins : Bool → List ℕ → Type 0) (front : Front) → ((leading : Bool) (b : ℕ) (more : List ℕ) → Begins leading (b ∷ more) → front_at leading b more ≡ front)
    → ((leading : Bool) → Begins leading [] → ⊥) → StopsAt text place Begins → Halted text place front
halted-at text place Begins front at none s = by s.rest refl
  where
    by : (rest : List ℕ) → s.rest ≡ rest → Halted text place front
    by [] e = absurd (none (leads_after true s.pieces) (subst (Begins (leads_after true s.pieces)) e s.begins))
    by (b ∷ more) e =
        record {
          pieces = s.pieces;
          byte = b;
          more = more;
          whole = s.whole ∙ ap (λ w. spelled s.pieces ++ w) e;
          stand = subst (ArePieces true s.pieces) e s.stand;
          reached = s.reached;
          begins = at (leads_after true s.pieces) b more (subst (Begins (leads_after true s.pieces)) e s.begins);
        }

nothing-halted : (text : List ℕ) (place : Place) → StopsAt text place BeginsNothing → Halted text place Nothing
nothing-halted text place s = halted-at text place BeginsNothing Nothing begins-nothing (λ leading n. let some = n.some in omega arith) s

refused-halted : (text : List ℕ) (place : Place) → StopsAt text place (λ leading rest. BeginsRefused rest) → Halted text place Refused
refused-halted text place s = halted-at text place (λ leading rest. BeginsRefused rest) Refused refused-only (λ leading r. nothing-begins r) s
  where
    nothing-begins : BeginsRefused [] → ⊥
    nothing-begins r = let f = first-byte (Numeral r.number) r.is_number in no_cons f.byte (f.others ++ r.back) (r.whole ∙ ap (λ w. w ++ r.back) f.whole)

unclosed-halted : (text : List ℕ) (place : Place) → StopsAt text place (λ leading rest. BeginsUnclosed rest) → Halted text place Open
unclosed-halted text place s = halted-at text place (λ leading rest. BeginsUnclosed rest) Open unclosed-only (λ leading u. nothing-begins u) s
  where
    nothing-begins : BeginsUnclosed [] → ⊥
    nothing-begins (inl (body, whole, none)) = no_cons 47 (42 ∷ body) whole
    nothing-begins (inr (body, whole, none)) = no_cons 34 body whole

-- no text has both tokens and a fault
pub tokens-no_fault : (text : List ℕ) (tokens : List SourceToken) (fault : ScanFault) → AreTokens text tokens → IsFault text fault → fault ≡ NoMemory
tokens-no_fault text tokens (BadByte place) a f = absurd (tokens-halted text tokens place Nothing a (nothing-halted text place f) nothing-stops)
tokens-no_fault text tokens (BadNumber place) a f = absurd (tokens-halted text tokens place Refused a (refused-halted text place f) refused-stops)
tokens-no_fault text tokens (Unclosed place) a f = absurd (tokens-halted text tokens place Open a (unclosed-halted text place f) open-stops)
tokens-no_fault text tokens TooLong a f = let short = a.short in absurd (omega (arith, f))
tokens-no_fault text tokens NoMemory a f = refl

differ : {P : Type 0} → (f g : Front) → f ≡ g → (f ≡ g → ⊥) → P
differ f g e no_way = absurd (no_way e)

-- no text has two faults
pub fault-one : (text : List ℕ) (fault other : ScanFault) → IsFault text fault → IsFault text other → (fault ≡ NoMemory → ⊥) → (other ≡ fault) ⊎ (other ≡ NoMemory)
fault-one text fault NoMemory f g some = inr refl
fault-one text NoMemory other f g some = absurd (some refl)
fault-one text TooLong TooLong f g some = inl refl
fault-one text TooLong (BadByte q) f g some = let short = g.short in absurd (omega (arith, f))
fault-one text TooLong (BadNumber q) f g some = let short = g.short in absurd (omega (arith, f))
fault-one text TooLong (Unclosed q) f g some = let short = g.short in absurd (omega (arith, f))
fault-one text (BadByte p) TooLong f g some = let short = f.short in absurd (omega (arith, g))
fault-one text (BadNumber p) TooLong f g some = let short = f.short in absurd (omega (arith, g))
fault-one text (Unclosed p) TooLong f g some = let short = f.short in absurd (omega (arith, g))
fault-one text (BadByte p) (BadByte q) f g some =
    inl (ap BadByte (halted-one text q p Nothing Nothing (nothing-halted text q g) (nothing-halted text p f) nothing-stops nothing-stops).0)
fault-one text (BadByte p) (BadNumber q) f g some =
    let e = (halted-one text p q Nothing Refused (nothing-halted text p f) (refused-halted text q g) nothing-stops refused-stops).1 in absurd (cc)
fault-one text (BadByte p) (Unclosed q) f g some =
    let e = (halted-one text p q Nothing Open (nothing-halted text p f) (unclosed-halted text q g) nothing-stops open-stops).1 in absurd (cc)
fault-one text (BadNumber p) (BadByte q) f g some =
    let e = (halted-one text p q Refused Nothing (refused-halted text p f) (nothing-halted text q g) refused-stops nothing-stops).1 in absurd (cc)
fault-one text (BadNumber p) (BadNumber q) f g some =
    inl (ap BadNumber (halted-one text q p Refused Refused (refused-halted text q g) (refused-halted text p f) refused-stops refused-stops).0)
fault-one text (BadNumber p) (Unclosed q) f g some =
    let e = (halted-one text p q Refused Open (refused-halted text p f) (unclosed-halted text q g) refused-stops open-stops).1 in absurd (cc)
fault-one text (Unclosed p) (BadByte q) f g some =
    let e = (halted-one text p q Open Nothing (unclosed-halted text p f) (nothing-halted text q g) open-stops nothing-stops).1 in absurd (cc)
fault-one text (Unclosed p) (BadNumber q) f g some =
    let e = (halted-one text p q Open Refused (unclosed-halted text p f) (refused-halted text q g) open-stops refused-stops).1 in absurd (cc)
fault-one text (Unclosed p) (Unclosed q) f g some =
    inl (ap Unclosed (halted-one text q p Open Open (unclosed-halted text q g) (unclosed-halted text p f) open-stops open-stops).0)

-- What an answer that is right says of all others

module _ (text : List ℕ) (result : Result (Vec SourceToken Global) ScanFault) (right : IfOk result (λ tokens. AreTokens text tokens.items)) (fault : IfErr result (IsFault text)) where
  pub every-tokens : (tokens : List SourceToken) → AreTokens text tokens → MatchResult result (λ found. found.items ≡ tokens) (λ told. told ≡ NoMemory)
  every-tokens tokens a = by result right fault
    where
      by : (r : Result (Vec SourceToken Global) ScanFault) → IfOk r (λ found. AreTokens text found.items) → IfErr r (IsFault text) →
          MatchResult r (λ found. found.items ≡ tokens) (λ told. told ≡ NoMemory)
      by (Ok found) is f = tokens-one text found.items tokens is a
      by (Err told) is f = tokens-no_fault text tokens told a f

  pub every-fault : (known : ScanFault) → IsFault text known → (known ≡ NoMemory → ⊥) → MatchResult result (λ found. ⊥) (λ told. (told ≡ known) ⊎ (told ≡ NoMemory))
  every-fault known k some = by result right fault
    where
      by : (r : Result (Vec SourceToken Global) ScanFault) → IfOk r (λ found. AreTokens text found.items) → IfErr r (IsFault text) →
          MatchResult r (λ found. ⊥) (λ told. (told ≡ known) ⊎ (told ≡ NoMemory))
      by (Ok found) is f = some (tokens-no_fault text found.items known is k)
      by (Err told) is f = fault-one text known told k f some

-- One more piece behind those before

pub spelled-append : (ps : List Piece) (p : Piece) → spelled (ps ++ p ∷ []) ≡ spelled ps ++ piece_bytes p
spelled-append [] p = append-nil (piece_bytes p)
spelled-append (q ∷ ps) p = ap (λ w. piece_bytes q ++ w) (spelled-append ps p) ∙ sym (append_assoc (piece_bytes q) (spelled ps) (piece_bytes p))

pub behind-append : (place : Place) (a b : List ℕ) → place_behind place (a ++ b) ≡ place_behind (place_behind place a) b
behind-append place [] b = refl
behind-append place (c ∷ a) b = behind-append (next_place place c) a b

pieces-append : (leading : Bool) (ps : List Piece) (p : Piece) (rest : List ℕ) → ArePieces leading ps (piece_bytes p ++ rest) → IsPiece (leads_after leading ps) p rest →
    ArePieces leading (ps ++ p ∷ []) rest
pieces-append leading [] p rest h g = (g, tt)
pieces-append leading (q ∷ ps) p rest h g =
    (subst (IsPiece leading q) (sym (ap (λ w. w ++ rest) (spelled-append ps p) ∙ append_assoc (spelled ps) (piece_bytes p) rest)) h.0, pieces-append (leads_behind leading q) ps p rest h.1 g)

leads-append : (leading : Bool) (ps : List Piece) (p : Piece) → leads_after leading (ps ++ p ∷ []) ≡ leads_behind (leads_after leading ps) p
leads-append leading [] p = refl
leads-append leading (q ∷ ps) p = leads-append (leads_behind leading q) ps p

-- the tokens of one piece
abbrev pub tokens_in : Place → Part → List SourceToken
tokens_in place parts.Gap = []
tokens_in place parts.Directive = []
tokens_in place (parts.Token kind) = record { kind = kind; place = place } ∷ []

-- whether a directive may still stand behind a piece
abbrev pub leads_on : Bool → Part → Bool
leads_on leading parts.Gap = leading
leads_on leading parts.Directive = false
leads_on leading (parts.Token kind) = false

leads-part : (leading : Bool) (p : Piece) → leads_behind leading p ≡ leads_on leading (part_of p)
leads-part leading (Blank b) = refl
leads-part leading (LineComment body) = refl
leads-part leading (BlockComment body) = refl
leads-part leading (Timescale body) = refl
leads-part leading (Token word kind) = refl

one-token : (place : Place) (p : Piece) → tokens_from place (p ∷ []) ≡ tokens_in place (part_of p)
one-token place (Blank b) = refl
one-token place (LineComment body) = refl
one-token place (BlockComment body) = refl
one-token place (Timescale body) = refl
one-token place (Token word kind) = refl

later : (place : Place) (bytes : List ℕ) (ps : List Piece) (p : Piece)
    → tokens_from (place_behind place bytes) ps ++ tokens_in (place_behind (place_behind place bytes) (spelled ps)) (part_of p)
    ≡ tokens_from (place_behind place bytes) ps ++ tokens_in (place_behind place (bytes ++ spelled ps)) (part_of p)
later place bytes ps p = ap (λ q. tokens_from (place_behind place bytes) ps ++ tokens_in q (part_of p)) (sym (behind-append place bytes (spelled ps)))

tokens-append : (place : Place) (ps : List Piece) (p : Piece) → tokens_from place (ps ++ p ∷ []) ≡ tokens_from place ps ++ tokens_in (place_behind place (spelled ps)) (part_of p)
tokens-append place [] p = one-token place p
tokens-append place (Blank b ∷ ps) p = tokens-append (place_behind place (b ∷ [])) ps p ∙ later place (b ∷ []) ps p
tokens-append place (LineComment body ∷ ps) p = tokens-append (place_behind place (piece_bytes (LineComment body))) ps p ∙ later place (piece_bytes (LineComment body)) ps p
tokens-append place (BlockComment body ∷ ps) p = tokens-append (place_behind place (piece_bytes (BlockComment body))) ps p ∙ later place (piece_bytes (BlockComment body)) ps p
tokens-append place (Timescale body ∷ ps) p = tokens-append (place_behind place (piece_bytes (Timescale body))) ps p ∙ later place (piece_bytes (Timescale body)) ps p
tokens-append place (Token word kind ∷ ps) p =
    ap (λ ts. record { kind = kind; place = place } ∷ ts) (tokens-append (place_behind place (word_bytes word)) ps p ∙ later place (word_bytes word) ps p)

-- what was read of a text, with one more piece
pub read-more : (start : Place) (text rest back : List ℕ) (leading : Bool) (place : Place) (tokens : List SourceToken) (part : Part) (bytes : List ℕ)
    → IsRead start text rest leading place tokens → IsFront leading rest part back → rest ≡ bytes ++ back
    → IsRead start text back (leads_on leading part) (place_behind place bytes) (tokens ++ tokens_in place part)
read-more start text rest back leading place tokens part bytes r f w =
    let same : piece_bytes f.piece ≡ bytes = cancel_back (piece_bytes f.piece) bytes back (sym f.whole ∙ w) in
    let here : rest ≡ piece_bytes f.piece ++ back = f.whole in record {
      pieces = r.pieces ++ f.piece ∷ [];
      whole = r.whole ∙ ap (λ t. spelled r.pieces ++ t) here ∙ sym (append_assoc (spelled r.pieces) (piece_bytes f.piece) back) ∙ ap (λ t. t ++ back) (sym (spelled-append r.pieces f.piece));
      stand = pieces-append true r.pieces f.piece back (subst (ArePieces true r.pieces) here r.stand) (subst (λ l. IsPiece l f.piece back) r.leads f.stands);
      leads = ap (leads_on leading) f.told ∙ sym (leads-part leading f.piece) ∙ ap (λ l. leads_behind l f.piece) r.leads ∙ sym (leads-append true r.pieces f.piece);
      reached = ap (λ q. place_behind q bytes) r.reached ∙ ap (place_behind (place_behind start (spelled r.pieces))) (sym same)
          ∙ sym (behind-append start (spelled r.pieces) (piece_bytes f.piece)) ∙ ap (place_behind start) (sym (spelled-append r.pieces f.piece));
      found = ap (λ ts. ts ++ tokens_in place part) r.found ∙ ap (λ o. tokens_from start r.pieces ++ tokens_in place o) f.told
          ∙ ap (λ q. tokens_from start r.pieces ++ tokens_in q (part_of f.piece)) r.reached ∙ sym (tokens-append start r.pieces f.piece);
    }
