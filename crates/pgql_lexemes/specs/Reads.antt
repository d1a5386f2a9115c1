-- What a function that reads ensures, and one that makes something of what was read.
use Rattle.std.specs.Prelude.{◌≡◌, List, Result, Ok, Err}
use Rattle.pgql_lexemes.specs.Lexemes.{Lexeme}
use Rattle.pgql_lexemes.specs.Parsers.{unexpected, deep, Outcome}
use Rattle.pgql_lexemes.specs.declared.input.Stop.{Stop}
use Rattle.pgql_lexemes.specs.declared.input.Stop.TheVariants as stop

-- what reading gives, with the tokens that are left, unless memory runs out
abbrev pub Reads : {A : Type 0} → Outcome A → Result A Stop → List Lexeme → Type 0
Reads outcome (Ok x) new = outcome ≡ Ok (x, new)
Reads outcome (Err stop.Unexpected) new = outcome ≡ Err (unexpected, new)
Reads outcome (Err stop.Deep) new = outcome ≡ Err (deep, new)
Reads outcome (Err stop.NoMemory) new = Unit {0}

-- what is made of what was read, which takes no token, unless memory runs out
abbrev pub Makes : {A : Type 0} → A → Result A Stop → Type 0
Makes x result = (ts : List Lexeme) → Reads (Ok (x, ts)) result ts
