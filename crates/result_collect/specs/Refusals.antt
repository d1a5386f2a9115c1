-- The text of a refusal.
use Rattle.std.specs.Prelude.{ℕ, ◌==◌, ◌&&◌, ◌||◌, not, IsTrue, if◌then◌else◌, List, [], ◌∷◌, ◌++◌, codes, nat_le, nat_lt}
use Rattle.std.specs.Fmt.{decimal}
use Rattle.result_collect.specs.declared.refusal.Refusal.{Refusal}
use Rattle.result_collect.specs.declared.refusal.Refusal.TheVariants.{At, TooWide, NeedsMore}

-- the names of the refusals 10 to 15
abbrev pub syntax_name : ℕ → List ℕ
syntax_name code =
    if code == 10 then codes "BadCharacter"
    else (if code == 11 then codes "OpenText"
    else (if code == 12 then codes "OpenComment"
    else (if code == 13 then codes "WideNumber"
    else (if code == 14 then codes "Unexpected"
    else codes "Deep"))))

-- the names of the refusals 40 to 49
abbrev pub typing_name : ℕ → List ℕ
typing_name code =
    if code == 40 then codes "UnknownName"
    else (if code == 41 then codes "UnknownProperty"
    else (if code == 42 then codes "KindMismatch"
    else (if code == 43 then codes "DoubleName"
    else (if code == 44 then codes "TooManyVariables"
    else (if code == 45 then codes "Disconnected"
    else (if code == 46 then codes "VariableKind"
    else (if code == 48 then codes "KeyNotSelected"
    else codes "BadDate")))))))

-- the name of a refusal's number
abbrev pub name_of : ℕ → List ℕ
name_of code = if nat_lt code 40 then syntax_name code else typing_name code

-- It is a refusal of the table: one at a place has a number from 10 to 15, or from 40 to 49 and not 47. The names above are those of these numbers alone.
abbrev pub IsNamed : Refusal → Type 0
IsNamed (At code at) = IsTrue (nat_le 10 code && nat_le code 15 || nat_le 40 code && nat_le code 49 && not (code == 47))
IsNamed (TooWide words) = Unit {0}
IsNamed (NeedsMore need pool) = Unit {0}

-- which query isn't answered
abbrev pub refused : ℕ → List ℕ → List ℕ
refused number why = codes "query " ++ (decimal number ++ (codes " refused " ++ why))

-- the line that tells why the query of this number isn't answered
abbrev pub refusal_text : ℕ → Refusal → List ℕ
refusal_text number (At code at) = refused number (decimal code ++ (codes " " ++ (name_of code ++ (codes " at " ++ (decimal at ++ 10 ∷ [])))))
refusal_text number (TooWide words) = refused number (codes "47 TooWide words " ++ (decimal words ++ 10 ∷ []))
refusal_text number (NeedsMore need pool) = refused number (codes "52 NeedsMore need " ++ (decimal need ++ (codes " pool " ++ (decimal pool ++ 10 ∷ []))))
