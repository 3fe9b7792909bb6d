-- What the code gives, against what reading gives.
use Rattle.std.specs.Prelude.{◌≡◌, List, Result, Ok, Err}
use Rattle.v_tree.specs.Tokens.{SourceToken}
use Rattle.v_readers.specs.declared.stop.Stop.{Stop}
use Rattle.v_readers.specs.declared.stop.Stop.TheVariants as stops
use Rattle.v_readers.specs.Reading.{Wrong, Deep, Reading}

-- The code stops for want of memory, or as reading does.
abbrev pub Fails : {A : Type 0} → Stop → Reading A → Type 0
Fails stops.Memory read = Unit {0}
Fails (stops.Wrong rest) read = read ≡ Err (record { why = Wrong; rest = rest.now })
Fails (stops.Deep rest) read = read ≡ Err (record { why = Deep; rest = rest.now })

-- What the code gives, seen by view, is what reading gives, unless memory runs out.
abbrev pub Gives : {A B : Type 0} → (A → B × List SourceToken) → Result A Stop → Reading B → Type 0
Gives view (Ok x) read = read ≡ Ok (view x)
Gives view (Err stop) read = Fails stop read
