-- What an owner file says.
use Rattle.std.specs.Prelude.{ℕ, ◌+◌, ◌-◌, ◌^◌, min, ◌==◌, ◌&&◌, ◌||◌, not, nat_lt, Bool, false, if◌then◌else◌, List, [], ◌∷◌, length, replicate, codes, Option, Some, None, is_some, option_and_then, Result, Ok, Err, slice_index_or, slice_set}
use Rattle.std.specs.Char.{is_ascii_digit}
use Rattle.std.specs.List.{after_first, before_first, list_all}
use Rattle.std.specs.Option.{option_map}
use Rattle.std.specs.Result.{result_ok}
use Rattle.std.specs.Str.{bytes_eq}
use Rattle.std.specs.Str.Lines.{lines}
use Rattle.std.specs.Str.Parse.{digits_value}
use Rattle.graph_tables.specs.Graph.{Vertex, vertex_of}
use Rattle.text_lines.specs.Words.{is_space}
use Rattle.value_text.specs.Numbers.{int_cell}
use Rattle.partition.specs.Faults.{◌>>=◌}
use Rattle.partition.specs.declared.fault.PartFault.{PartFault}
use Rattle.partition.specs.declared.fault.PartFault.TheVariants as fault
use Rattle.partition.specs.declared.owner.Owner.{Owner}
use Rattle.partition.specs.declared.owner.Owner.TheVariants as owner

-- decimal digits without a leading zero, at least one
abbrev pub is_plain : List ℕ → Bool
is_plain [] = false
is_plain (digit ∷ rest) = list_all is_ascii_digit (digit ∷ rest) && (not (digit == 48) || (length rest == 0))

-- plain digits, or the same after a minus, where they aren't 0
abbrev pub is_key : List ℕ → Bool
is_key [] = false
is_key (byte ∷ rest) = if byte == 45 then is_plain rest && not (bytes_eq rest (codes "0")) else is_plain (byte ∷ rest)

-- the number of the vertex whose key a text is
abbrev pub vertex_named : List Vertex → List ℕ → Option ℕ
vertex_named vertices text = if is_key text then option_and_then (vertex_of vertices) (result_ok (int_cell text)) else None

-- the vertex and the machine that a line names
abbrev pub named_by : List Vertex → List ℕ → Option (ℕ × ℕ)
named_by vertices line =
    if is_plain (after_first is_space line)
    then option_map (λ vertex. (vertex, digits_value 10 (after_first is_space line))) (vertex_named vertices (before_first is_space line))
    else None

-- the same, with a machine that 32 bits hold
abbrev pub capped : ℕ × ℕ → ℕ × ℕ
capped named = (named.0, min named.1 (2 ^ 32 - 1))

-- The machine of each vertex that has one so far, with that of one vertex more: one that had none.
abbrev pub with_owner : ℕ → ℕ → List (Option ℕ) → Option (ℕ × ℕ) → Result (List (Option ℕ)) PartFault
with_owner number machines owners None = Err (fault.BadOwnerLine number)
with_owner number machines owners (Some named) =
    if is_some (slice_index_or owners named.0 None) then Err (fault.BadOwnerLine number)
    else if nat_lt named.1 machines then Ok (slice_set owners named.0 (Some named.1))
    else Err (fault.OwnerOutOfRange number)

-- the same with that of a line, which may be empty
abbrev pub with_line : ℕ → ℕ → List Vertex → List (Option ℕ) → List ℕ → Result (List (Option ℕ)) PartFault
with_line number machines vertices owners line =
    if length line == 0 then Ok owners else with_owner number machines owners (named_by vertices line)

-- the same with those of the lines from this number on
unfoldable pub with_lines : ℕ → ℕ → List Vertex → List (List ℕ) → List (Option ℕ) → Result (List (Option ℕ)) PartFault
with_lines number machines vertices [] owners = Ok owners
with_lines number machines vertices (line ∷ rest) owners =
    with_line number machines vertices owners line >>= with_lines (number + 1) machines vertices rest

-- the machines, where each vertex has one, or the first vertex that has none
abbrev pub each_owned : List Vertex → List (Option ℕ) → Result (List ℕ) PartFault
each_owned [] owners = Ok []
each_owned (vertex ∷ vertices) [] = Err (fault.OwnerMissing vertex.key)
each_owned (vertex ∷ vertices) (None ∷ owners) = Err (fault.OwnerMissing vertex.key)
each_owned (vertex ∷ vertices) (Some machine ∷ owners) = each_owned vertices owners >>= λ machines. Ok (machine ∷ machines)

-- the machines that an owner file lists, a machine for each vertex
abbrev pub machines_of : List ℕ → List Vertex → ℕ → Result (List ℕ) PartFault
machines_of bytes vertices machines =
    with_lines 1 machines vertices (lines bytes) (replicate (length vertices) None) >>= each_owned vertices

-- the owner that a file says
abbrev pub owners_of : List ℕ → List Vertex → ℕ → Result Owner PartFault
owners_of bytes vertices machines = machines_of bytes vertices machines >>= λ list. Ok (owner.Listed list)
