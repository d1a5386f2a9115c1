-- Lines of an owner file, and what they leave.
use Rattle.std.proofs.Common.{◌≡◌, ◌∙◌, sym, ap, refl, arith, ℕ, zero, suc, ◌+◌, ◌-◌, ◌^◌, ◌<◌, ◌≤◌, min, nat_lt, ◌==◌, Bool, true, false, cond}
use Rattle.std.proofs.Common.{ℤ, pos, int_eq, List, [], ◌∷◌, length, map, take, replicate, slice_get, slice_set, slice_index_or, Option, Some, None, is_some, IfSome, Result, Ok, Err}
use Rattle.std.specs.List.{AllByRecursion}
use Rattle.std.specs.Option.{option_map}
use Rattle.std.proofs.lemmas.Bool.Decides.{nat_tests}
use Rattle.std.proofs.lemmas.List.{length-map}
use Rattle.std.proofs.Math.ListN.{length-set}
use Rattle.std.proofs.lemmas.List.Quantifiers.{position-Some}
use Rattle.element_store.specs.Elements.{Element, keys_in}
use Rattle.graph_tables.specs.Graph.{Vertex, vertex_of}
use Rattle.std.specs.Str.Lines.{lines}
use Rattle.value_text.specs.Numbers.{int_cell}
use Rattle.partition.specs.Faults.{◌>>=◌, GivesFault}
use Rattle.partition.specs.OwnerFile.{capped, each_owned, is_key, machines_of, named_by, vertex_named, with_line, with_lines, with_owner}
use Rattle.partition.specs.declared.fault.PartFault.{PartFault}
use Rattle.partition.specs.declared.fault.PartFault.TheVariants as fault
use Rattle.partition.proofs.FaultFacts.{carried}

-- ---- one line

pub vertex_is : (vertices : List Vertex) (text : List ℕ) (key : ℤ) (found : Option ℕ) → is_key text ≡ true → Ok key ≡ int_cell text → found ≡ vertex_of vertices key
    → found ≡ vertex_named vertices text
vertex_is vertices text key found form reads is = is ∙ rw (form, ← reads) refl

pub vertex_within : (vertices : List Vertex) (key : ℤ) (found : Option ℕ) → found ≡ vertex_of vertices key → IfSome found (λ vertex. vertex < length vertices)
vertex_within vertices key None is = tt
vertex_within vertices key (Some vertex) is =
    let at = position-Some (int_eq key) (keys_in vertices) vertex (pos 0) (sym is) in
    simp length-map at at.0

-- a machine that doesn't fit is none of the machines
pub owner_capped : (number machines : ℕ) (owners : List (Option ℕ)) (named found : Option (ℕ × ℕ)) → machines < 2 ^ 32 → found ≡ option_map capped named
    → with_owner number machines owners found ≡ with_owner number machines owners named
owner_capped number machines owners None None few e = refl
owner_capped number machines owners None (Some f) few e = cc e
owner_capped number machines owners (Some n) None few e = cc e
owner_capped number machines owners (Some n) (Some f) few e = by (nat_lt n.1 machines) refl
  where
    vertex : f.0 ≡ n.0
    vertex = let same : f ≡ (n.0, min n.1 (2 ^ 32 - 1)) = cc e in ap (λ (p : ℕ × ℕ). p.0) same

    machine : f.1 ≡ min n.1 (2 ^ 32 - 1)
    machine = let same : f ≡ (n.0, min n.1 (2 ^ 32 - 1)) = cc e in ap (λ (p : ℕ × ℕ). p.1) same

    by : (b : Bool) → nat_lt n.1 machines ≡ b → with_owner number machines owners (Some f) ≡ with_owner number machines owners (Some n)
    by true t =
        let less : n.1 < machines = grind (arith, nat_tests) in
        let same : f.1 ≡ n.1 = omega (arith, machine) in
        rw (vertex, same) refl
    by false t =
        let past : machines ≤ n.1 = grind (arith, nat_tests) in
        let beyond : machines ≤ f.1 = omega (arith, machine) in
        let none : nat_lt f.1 machines ≡ false = grind (arith, nat_tests) in
        rw (vertex, none, t) refl

-- ---- one line of many

module _ (n machines : ℕ) (vertices : List Vertex) (lines rest : List (List ℕ)) (line : List ℕ) (owners : List (Option ℕ)) (start : Result (List (Option ℕ)) PartFault)
    (took : lines ≡ line ∷ rest) (was : with_lines n machines vertices lines owners ≡ start) where
  lines_begun : (with_line n machines vertices owners line >>= with_lines (n + 1) machines vertices rest) ≡ start
  unfolding with_lines
  lines_begun = rw took at was

  pub lines_kept : (owners2 : List (Option ℕ)) → with_line n machines vertices owners line ≡ Ok owners2 → with_lines (n + 1) machines vertices rest owners2 ≡ start
  lines_kept owners2 is = rw is at lines_begun

  pub lines_failed : (e : PartFault) → GivesFault e (with_line n machines vertices owners line) → GivesFault e start
  lines_failed e h = carried e (with_line n machines vertices owners line) start (λ w. sym lines_begun ∙ rw w refl) h

pub lines_done : (n machines : ℕ) (vertices : List Vertex) (lines : List (List ℕ)) (owners : List (Option ℕ)) (start : Result (List (Option ℕ)) PartFault)
    → lines ≡ [] → with_lines n machines vertices lines owners ≡ start → start ≡ Ok owners
unfolding with_lines
lines_done n machines vertices lines owners start none was = sym was ∙ rw none refl

-- ---- each vertex's machine

pub owned_missing : (vertices : List Vertex) (owners : List (Option ℕ)) (machines : List ℕ) (key : ℤ) → take (length machines) owners ≡ map Some machines
    → slice_get owners (length machines) ≡ Some None → option_map (λ (v : Element). v.key) (slice_get vertices (length machines)) ≡ Some key
    → each_owned vertices owners ≡ Err (fault.OwnerMissing key)
owned_missing [] owners machines key front none at = cc at
owned_missing (v ∷ vs) [] machines key front none at = cc none
owned_missing (v ∷ vs) (o ∷ os) [] key front none at =
    let is : o ≡ None = cc none in let same : v.key ≡ key = cc at in rw (is, same) refl
owned_missing (v ∷ vs) (o ∷ os) (m ∷ ms) key front none at =
    let is : o ≡ Some m = cc front in
    let more : take (length ms) os ≡ map Some ms = cc front in
    rw (is, owned_missing vs os ms key more none at) refl

pub owned_done : (vertices : List Vertex) (owners : List (Option ℕ)) (machines : List ℕ) → length owners ≡ length vertices → owners ≡ map Some machines
    → each_owned vertices owners ≡ Ok machines
owned_done [] [] [] size is = refl
owned_done [] [] (m ∷ ms) size is = cc is
owned_done [] (o ∷ os) machines size is = absurd (omega (arith, size))
owned_done (v ∷ vs) [] machines size is = absurd (omega (arith, size))
owned_done (v ∷ vs) (o ∷ os) [] size is = cc is
owned_done (v ∷ vs) (o ∷ os) (m ∷ ms) size is =
    let here : o ≡ Some m = cc is in
    let more : os ≡ map Some ms = cc is in
    rw (here, owned_done vs os ms (omega (arith, size)) more) refl

-- the key of a vertex, by what is read of it
pub key_read : (vertices : List Vertex) (i : ℕ) (read : ℤ × ℕ) → option_map {U = ℤ × ℕ} (λ (v : Element). (v.key, v.label)) (slice_get vertices i) ≡ Some read
    → option_map (λ (v : Element). v.key) (slice_get vertices i) ≡ Some read.0
key_read vertices i read is = by (slice_get vertices i) is
  where
    by : (o : Option Element) → option_map {U = ℤ × ℕ} (λ (v : Element). (v.key, v.label)) o ≡ Some read → option_map (λ (v : Element). v.key) o ≡ Some read.0
    by None e = cc e
    by (Some v) e = let same : ◌≡◌ {A = ℤ × ℕ} (v.key, v.label) read = cc e in ap (λ (p : ℤ × ℕ). Some p.0) same

-- ---- the machines are there

-- a machine that is noted is below the number of machines
abbrev pub IsBelow : ℕ → Option ℕ → Type 0
IsBelow machines None = Unit {0}
IsBelow machines (Some machine) = machine < machines

none_below : (machines n : ℕ) → AllByRecursion (IsBelow machines) (replicate n None)
none_below machines zero = tt
none_below machines (suc n) = (tt, none_below machines n)

set_below : (machines : ℕ) (owners : List (Option ℕ)) (vertex machine : ℕ) → machine < machines → AllByRecursion (IsBelow machines) owners
    → AllByRecursion (IsBelow machines) (slice_set owners vertex (Some machine))
set_below machines [] vertex machine less all = tt
set_below machines (o ∷ os) zero machine less all = (less, all.1)
set_below machines (o ∷ os) (suc vertex) machine less all = (all.0, set_below machines os vertex machine less all.1)

owner_below : (number machines : ℕ) (owners after : List (Option ℕ)) (named : Option (ℕ × ℕ)) → AllByRecursion (IsBelow machines) owners
    → with_owner number machines owners named ≡ Ok after → AllByRecursion (IsBelow machines) after × (length after ≡ length owners)
owner_below number machines owners after None all is = cc is
owner_below number machines owners after (Some n) all is = by (is_some (slice_index_or owners n.0 None)) (nat_lt n.1 machines) refl is
  where
    by : (a b : Bool) → nat_lt n.1 machines ≡ b → cond a (Err (fault.BadOwnerLine number)) (cond b (Ok (slice_set owners n.0 (Some n.1))) (Err (fault.OwnerOutOfRange number))) ≡ Ok after
        → AllByRecursion (IsBelow machines) after × (length after ≡ length owners)
    by true b t e = cc e
    by false false t e = cc e
    by false true t e =
        let same : slice_set owners n.0 (Some n.1) ≡ after = cc e in
        rw (← same, length-set) (set_below machines owners n.0 n.1 (grind (arith, nat_tests)) all, refl)

line_below : (number machines : ℕ) (vertices : List Vertex) (owners after : List (Option ℕ)) (line : List ℕ) → AllByRecursion (IsBelow machines) owners
    → with_line number machines vertices owners line ≡ Ok after → AllByRecursion (IsBelow machines) after × (length after ≡ length owners)
line_below number machines vertices owners after [] all is = let same : owners ≡ after = cc is in rw (← same) (all, refl)
line_below number machines vertices owners after (b ∷ bs) all is =
    owner_below number machines owners after (named_by vertices (b ∷ bs)) all (rw filled at is)
  where
    filled : (length (b ∷ bs) == 0) ≡ false
    filled = grind (arith, nat_tests)

lines_below : (number machines : ℕ) (vertices : List Vertex) (lines : List (List ℕ)) (owners after : List (Option ℕ)) → AllByRecursion (IsBelow machines) owners
    → with_lines number machines vertices lines owners ≡ Ok after → AllByRecursion (IsBelow machines) after × (length after ≡ length owners)
unfolding with_lines
lines_below number machines vertices [] owners after all is = let same : owners ≡ after = cc is in rw (← same) (all, refl)
lines_below number machines vertices (line ∷ rest) owners after all is =
    by (with_line number machines vertices owners line) refl is (λ next. lines_below (number + 1) machines vertices rest next after)
  where
    by : (r : Result (List (Option ℕ)) PartFault) → with_line number machines vertices owners line ≡ r → (r >>= with_lines (number + 1) machines vertices rest) ≡ Ok after
        → ((next : List (Option ℕ)) → AllByRecursion (IsBelow machines) next → with_lines (number + 1) machines vertices rest next ≡ Ok after
        → AllByRecursion (IsBelow machines) after × (length after ≡ length next))
        → AllByRecursion (IsBelow machines) after × (length after ≡ length owners)
    by (Err e) w h more = cc h
    by (Ok next) w h more =
        let here = line_below number machines vertices owners next line all w in
        let there = more next here.0 h in
        (there.0, there.1 ∙ here.1)

owned_below : (machines : ℕ) (vertices : List Vertex) (owners : List (Option ℕ)) (list : List ℕ) → AllByRecursion (IsBelow machines) owners
    → each_owned vertices owners ≡ Ok list → (length list ≡ length vertices) × AllByRecursion (λ machine. machine < machines) list
owned_below machines [] owners list all is = let none : [] ≡ list = cc is in rw (← none) (refl, tt)
owned_below machines (v ∷ vs) [] list all is = cc is
owned_below machines (v ∷ vs) (None ∷ os) list all is = cc is
owned_below machines (v ∷ vs) (Some m ∷ os) list all is = by (each_owned vs os) refl is (λ rest. owned_below machines vs os rest all.1)
  where
    by : (r : Result (List ℕ) PartFault) → each_owned vs os ≡ r → (r >>= λ rest. Ok (m ∷ rest)) ≡ Ok list
        → ((rest : List ℕ) → each_owned vs os ≡ Ok rest → (length rest ≡ length vs) × AllByRecursion (λ machine. machine < machines) rest)
        → (length list ≡ length (v ∷ vs)) × AllByRecursion (λ machine. machine < machines) list
    by (Err e) w h more = cc h
    by (Ok rest) w h more =
        let same : m ∷ rest ≡ list = cc h in
        let there = more rest w in
        rw (← same) (ap suc there.0, (all.0, there.1))

-- a file's machines are those of the vertices, and are there
pub machines_fit : (bytes : List ℕ) (vertices : List Vertex) (machines : ℕ) (list : List ℕ) → machines_of bytes vertices machines ≡ Ok list
    → (length list ≡ length vertices) × AllByRecursion (λ machine. machine < machines) list
machines_fit bytes vertices machines list is = by (with_lines 1 machines vertices (lines bytes) (replicate (length vertices) None)) refl is
  where
    by : (r : Result (List (Option ℕ)) PartFault) → with_lines 1 machines vertices (lines bytes) (replicate (length vertices) None) ≡ r → (r >>= each_owned vertices) ≡ Ok list
        → (length list ≡ length vertices) × AllByRecursion (λ machine. machine < machines) list
    by (Err e) w h = cc h
    by (Ok owners) w h =
        owned_below machines vertices owners list
        (lines_below 1 machines vertices (lines bytes) (replicate (length vertices) None) owners (none_below machines (length vertices)) w).0 h
