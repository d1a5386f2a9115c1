-- A query of the grammar is read.
use Rattle.std.proofs.lemmas.List.{append-nil}
use Rattle.std.proofs.Common.{◌≡◌, ℕ, ◌≤◌, ◌<◌, Bool, true, false, List, [], ◌∷◌, ◌++◌, length, length-append, Option, Ok, Err, refl, sym, ap, ◌∙◌, subst, append_assoc, arith}
use Rattle.pgql_lexemes.specs.declared.kind.Kind.{Kind}
use Rattle.pgql_lexemes.specs.declared.kind.Kind.TheVariants as k
use Rattle.pgql_tree.specs.declared.ast.AstExpr.{AstExpr}
use Rattle.pgql_tree.specs.declared.ast.Placed.{Placed}
use Rattle.pgql_tree.specs.declared.ast.Item.{Item}
use Rattle.pgql_tree.specs.declared.ast.Key.{Key}
use Rattle.pgql_tree.specs.declared.ast.Path.{Path}
use Rattle.pgql_tree.specs.declared.ast.Ast.{Ast}
use Rattle.pgql_syntax.specs.declared.query.Tail.{Tail}
use Rattle.pgql_expr.specs.declared.found.Found.{Found}
use Rattle.pgql_tree.specs.declared.level.Level.TheVariants.{Or}
use Rattle.pgql_lexemes.specs.Lexemes.{Lexeme, value_of}
use Rattle.pgql_syntax.specs.Grammar.{IsName, Separated, alone, followed, Optional, absent, present, IsWhole, IsItem, IsKey, IsDirection, no_word, up, down, IsPath}
use Rattle.pgql_syntax.specs.Grammar.{IsDistinct, every, distinct, AreKeys, no_order, ordered, IsLimit, IsSelection, IsPattern, IsTail, IsQuery, at_of}
use Rattle.pgql_syntax.specs.Grammar as g
use Rattle.pgql_expr.specs.Reading.{Refusal, unexpected, Outcome, and_then, ◌>>=◌, ◌>>◌, pure, take_token, expect, same_kind, read_expr, nested, read_level, chained}
use Rattle.pgql_expr.specs.Reading.{read_not, read_test, read_sign, read_primary}
use Rattle.pgql_lexemes.specs.Lists.{choose, separated, optional}
use Rattle.pgql_syntax.specs.Patterns.{read_placed, begins_edge, read_path}
use Rattle.pgql_syntax.specs.Queries.{read_whole_expr, read_item, direction_by, read_direction, read_key, read_distinct, read_keys, read_number, read_selection}
use Rattle.pgql_syntax.specs.Queries.{read_pattern, read_tail, whole_of, read_query, finished, read_whole}
use Rattle.pgql_lexemes.proofs.SameKind.{same_is}
use Rattle.pgql_syntax.proofs.Complete.{stops, Stops, reads, some_token, expect_goes}
use Rattle.pgql_lexemes.proofs.SameKind.{same_itself}
use Rattle.pgql_syntax.proofs.Lists.{IsNot, separated_reads}
use Rattle.pgql_syntax.proofs.Many.{NoneBegins}
use Rattle.pgql_syntax.proofs.Options.{optional_reads}
use Rattle.pgql_syntax.proofs.Paths.{path_some}
use Rattle.pgql_syntax.proofs.PathsRead.{anything, placed_reads, path_reads}
use Rattle.pgql_syntax.proofs.Whole.{lift_query}

-- ---- what comes next

-- the next token is of such a kind, or there is none
abbrev Next : (Kind → Bool) → List Lexeme → Type 0
Next allowed [] = Unit {0}
Next allowed (t ∷ ts) = allowed t.kind ≡ true

next_append : (allowed : Kind → Bool) (a b : List Lexeme) → Next allowed a → Next allowed b → Next allowed (a ++ b)
next_append allowed [] b x y = y
next_append allowed (t ∷ a) b x y = x

next_up : (p q : Kind → Bool) → ((kind : Kind) → p kind ≡ true → q kind ≡ true) → (ts : List Lexeme) → Next p ts → Next q ts
next_up p q f [] s = tt
next_up p q f (t ∷ ts) s = f t.kind s

is_not : (p : Kind → Bool) (mark : Kind) → ((kind : Kind) → p kind ≡ true → same_kind kind mark ≡ false) → (ts : List Lexeme) → Next p ts → IsNot mark ts
is_not p mark f [] s = tt
is_not p mark f (t ∷ ts) s = f t.kind s

or_stops : (p : Kind → Bool) → ((kind : Kind) → p kind ≡ true → stops Or kind ≡ true) → (ts : List Lexeme) → Next p ts → Stops Or ts
or_stops p f [] s = tt
or_stops p f (t ∷ ts) s = f t.kind s

no_edge : (p : Kind → Bool) → ((kind : Kind) → p kind ≡ true → begins_edge kind ≡ false) → (ts : List Lexeme) → Next p ts → NoneBegins begins_edge ts
no_edge p f [] s = tt
no_edge p f (t ∷ ts) s = f t.kind s

-- what may stand after the items, the paths, the condition, the keys
abbrev only_match : Kind → Bool
only_match k.Match = true
only_match kind = false

abbrev in_tail : Kind → Bool
in_tail k.Where = true
in_tail k.Order = true
in_tail k.Limit = true
in_tail kind = false

abbrev in_order : Kind → Bool
in_order k.Order = true
in_order k.Limit = true
in_order kind = false

abbrev only_limit : Kind → Bool
only_limit k.Limit = true
only_limit kind = false

match_stops : (kind : Kind) → only_match kind ≡ true → stops Or kind ≡ true
match_stops k.Match s = refl
match_stops kind s = absurd cc

match_no_as : (kind : Kind) → only_match kind ≡ true → same_kind kind k.As ≡ false
unfolding same_kind
match_no_as k.Match s = refl
match_no_as kind s = absurd cc

match_no_comma : (kind : Kind) → only_match kind ≡ true → same_kind kind k.Comma ≡ false
unfolding same_kind
match_no_comma k.Match s = refl
match_no_comma kind s = absurd cc

tail_no_edge : (kind : Kind) → in_tail kind ≡ true → begins_edge kind ≡ false
tail_no_edge k.Where s = refl
tail_no_edge k.Order s = refl
tail_no_edge k.Limit s = refl
tail_no_edge kind s = absurd cc

tail_no_comma : (kind : Kind) → in_tail kind ≡ true → same_kind kind k.Comma ≡ false
unfolding same_kind
tail_no_comma k.Where s = refl
tail_no_comma k.Order s = refl
tail_no_comma k.Limit s = refl
tail_no_comma kind s = absurd cc

order_stops : (kind : Kind) → in_order kind ≡ true → stops Or kind ≡ true
order_stops k.Order s = refl
order_stops k.Limit s = refl
order_stops kind s = absurd cc

order_no_where : (kind : Kind) → in_order kind ≡ true → same_kind kind k.Where ≡ false
unfolding same_kind
order_no_where k.Order s = refl
order_no_where k.Limit s = refl
order_no_where kind s = absurd cc

order_in_tail : (kind : Kind) → in_order kind ≡ true → in_tail kind ≡ true
order_in_tail k.Order s = refl
order_in_tail k.Limit s = refl
order_in_tail kind s = absurd cc

limit_in_order : (kind : Kind) → only_limit kind ≡ true → in_order kind ≡ true
limit_in_order k.Limit s = refl
limit_in_order kind s = absurd cc

limit_stops : (kind : Kind) → only_limit kind ≡ true → stops Or kind ≡ true
limit_stops k.Limit s = refl
limit_stops kind s = absurd cc

limit_no_asc : (kind : Kind) → only_limit kind ≡ true → same_kind kind k.Asc ≡ false
unfolding same_kind
limit_no_asc k.Limit s = refl
limit_no_asc kind s = absurd cc

limit_no_desc : (kind : Kind) → only_limit kind ≡ true → same_kind kind k.Desc ≡ false
unfolding same_kind
limit_no_desc k.Limit s = refl
limit_no_desc kind s = absurd cc

limit_no_comma : (kind : Kind) → only_limit kind ≡ true → same_kind kind k.Comma ≡ false
unfolding same_kind
limit_no_comma k.Limit s = refl
limit_no_comma kind s = absurd cc

limit_no_order : (kind : Kind) → only_limit kind ≡ true → same_kind kind k.Order ≡ false
unfolding same_kind
limit_no_order k.Limit s = refl
limit_no_order kind s = absurd cc

comma_no_as : same_kind k.Comma k.As ≡ false
unfolding same_kind
comma_no_as = refl

comma_no_asc : same_kind k.Comma k.Asc ≡ false
unfolding same_kind
comma_no_asc = refl

comma_no_desc : same_kind k.Comma k.Desc ≡ false
unfolding same_kind
comma_no_desc = refl

-- ---- expressions, items and keys

whole_reads : (m : ℕ) (a : List Lexeme) (x : AstExpr) → IsWhole m a x → (rest : List Lexeme) → Stops Or rest → read_whole_expr m (a ++ rest) ≡ Ok (x, rest)
unfolding read_whole_expr
whole_reads m a x d rest s = let w = reads m d (omega arith) rest s in ap (λ o. and_then o (λ x. pure x.expr)) w.2

placed_reads' : (a : List Lexeme) (p : Placed) → IsName a p → (rest : List Lexeme) → anything rest → read_placed (a ++ rest) ≡ Ok (p, rest)
placed_reads' a p d rest s = placed_reads a p d rest

as_stops : {b : List Lexeme} {p : Option Placed} → Optional IsName k.As b p → (rest : List Lexeme) → Stops Or rest → Stops Or (b ++ rest)
as_stops absent rest s = s
as_stops (present t ts is d) rest s = ap (stops Or) is

abbrev EndsItem : List Lexeme → Type 0
EndsItem rest = Stops Or rest × IsNot k.As rest

abbrev item_of : AstExpr → Option Placed → Item
item_of x name = record { expr = x; name = name; at = at_of x }

item_reads : (m : ℕ) (a : List Lexeme) (x : Item) → IsItem m a x → (rest : List Lexeme) → EndsItem rest → read_item m (a ++ rest) ≡ Ok (x, rest)
unfolding read_item
item_reads m _ _ (g.item a b {x = x} d e) rest s =
    ap (read_item m) (append_assoc a b rest)
    ∙ ap (λ o. and_then o (λ x. optional read_placed k.As >>= λ name. pure (item_of x name))) (whole_reads m a x d (b ++ rest) (as_stops e rest s.0))
    ∙ ap (λ o. and_then o (λ name. pure (item_of x name))) (optional_reads IsName k.As read_placed anything placed_reads' e rest tt s.1)

direction_ends : (kind : Kind) (ts : List Lexeme) → same_kind kind k.Asc ≡ false → same_kind kind k.Desc ≡ false → direction_by kind ts ≡ Ok (false, ts)
unfolding same_kind
direction_ends k.Asc ts s d = absurd cc
direction_ends k.Desc ts s d = absurd cc
direction_ends kind ts s d = refl

direction_reads : {b : List Lexeme} {turned : Bool} → IsDirection b turned → (rest : List Lexeme) → IsNot k.Asc rest → IsNot k.Desc rest → read_direction (b ++ rest) ≡ Ok (turned, rest)
unfolding read_direction
direction_reads no_word [] s d = refl
direction_reads no_word (t ∷ rest) s d = direction_ends t.kind (t ∷ rest) s d
direction_reads (up t is) rest s d = ap (λ v. direction_by v (t ∷ rest)) is
direction_reads (down t is) rest s d = ap (λ v. direction_by v (t ∷ rest)) is

direction_stops : {b : List Lexeme} {turned : Bool} → IsDirection b turned → (rest : List Lexeme) → Stops Or rest → Stops Or (b ++ rest)
direction_stops no_word rest s = s
direction_stops (up t is) rest s = ap (stops Or) is
direction_stops (down t is) rest s = ap (stops Or) is

abbrev EndsKey : List Lexeme → Type 0
EndsKey rest = Stops Or rest × IsNot k.Asc rest × IsNot k.Desc rest

abbrev key_of : AstExpr → Bool → Key
key_of x turned = record { expr = x; down = turned; at = at_of x }

key_reads : (m : ℕ) (a : List Lexeme) (x : Key) → IsKey m a x → (rest : List Lexeme) → EndsKey rest → read_key m (a ++ rest) ≡ Ok (x, rest)
unfolding read_key
key_reads m _ _ (g.key a b {x = x} d e) rest s =
    ap (read_key m) (append_assoc a b rest)
    ∙ ap (λ o. and_then o (λ x. read_direction >>= λ turned. pure (key_of x turned))) (whole_reads m a x d (b ++ rest) (direction_stops e rest s.0))
    ∙ ap (λ o. and_then o (λ turned. pure (key_of x turned))) (direction_reads e rest s.1 s.2)

front_some : {m : ℕ} {a : List Lexeme} {x : AstExpr} (b : List Lexeme) → IsWhole m a x → 0 < length (a ++ b)
front_some {a = a} b d = let lt = some_token d in omega (arith, length-append a b)

item_some : (m : ℕ) (a : List Lexeme) (x : Item) → IsItem m a x → 0 < length a
item_some m _ _ (g.item a b d e) = front_some b d

key_some : (m : ℕ) (a : List Lexeme) (x : Key) → IsKey m a x → 0 < length a
key_some m _ _ (g.key a b d e) = front_some b d

items_read : (m : ℕ) {ts : List Lexeme} {xs : List Item} → Separated (IsItem m) k.Comma ts xs → (rest : List Lexeme) → EndsItem rest → IsNot k.Comma rest → separated (read_item m) k.Comma (ts ++ rest) ≡ Ok (xs, rest)
items_read m d rest s e = separated_reads (IsItem m) k.Comma (read_item m) EndsItem (item_reads m) (λ t ts is. (ap (stops Or) is, ap (λ v. same_kind v k.As) is ∙ comma_no_as)) (item_some m) d rest s e

key_list_reads : (m : ℕ) {ts : List Lexeme} {xs : List Key} → Separated (IsKey m) k.Comma ts xs → (rest : List Lexeme) → EndsKey rest → IsNot k.Comma rest → separated (read_key m) k.Comma (ts ++ rest) ≡ Ok (xs, rest)
key_list_reads m d rest s e = separated_reads (IsKey m) k.Comma (read_key m) EndsKey (key_reads m)
    (λ t ts is. (ap (stops Or) is, ap (λ v. same_kind v k.Asc) is ∙ comma_no_asc, ap (λ v. same_kind v k.Desc) is ∙ comma_no_desc)) (key_some m) d rest s e

-- ---- the selection

-- no expression begins with DISTINCT
refused_word : (m : ℕ) (bytes : List ℕ) (at : ℕ) (us : List Lexeme) → let t : Lexeme = record { kind = k.Distinct; bytes = bytes; at = at } in read_expr m Or (t ∷ us) ≡ Err (unexpected, t ∷ us)
unfolding nested read_level chained read_not read_test read_sign read_primary
refused_word m bytes at us = refl

apart : (o : Outcome Found) (x : Found) (r : List Lexeme) (why : Refusal × List Lexeme) → o ≡ Ok (x, r) → o ≡ Err why → ⊥
apart o x r why e f = cc

no_distinct : (m : ℕ) (t : Lexeme) (us : List Lexeme) (x : AstExpr) → IsWhole m (t ∷ us) x → t.kind ≡ k.Distinct → ⊥
no_distinct m t us x d is =
    let w = reads m d (omega arith) [] tt in
    let t' : Lexeme = record { kind = k.Distinct; bytes = t.bytes; at = t.at } in
    let same : t ≡ t' = ap (λ v. record { kind = v; bytes = t.bytes; at = t.at }) is in
    let e : read_expr m Or (t ∷ us ++ []) ≡ Err (unexpected, t' ∷ us ++ []) = ap (λ v. read_expr m Or (v ∷ us ++ [])) same ∙ refused_word m t.bytes t.at (us ++ []) in
    apart (read_expr m Or (t ∷ us ++ [])) (record { expr = x; height = w.0 }) [] (unexpected, t' ∷ us ++ []) w.2 e

whole_not_distinct : (m : ℕ) (a : List Lexeme) (x : AstExpr) → IsWhole m a x → (rest : List Lexeme) → IsNot k.Distinct (a ++ rest)
whole_not_distinct m [] x d rest = let lt = some_token d in absurd (omega arith)
whole_not_distinct m (t ∷ us) x d rest = by_bool (same_kind t.kind k.Distinct) refl
  where
    by_bool : (b : Bool) → same_kind t.kind k.Distinct ≡ b → same_kind t.kind k.Distinct ≡ false
    by_bool true e = absurd (no_distinct m t us x d (same_is t.kind k.Distinct e))
    by_bool false e = e

not_front : (mark : Kind) (a b rest : List Lexeme) → IsNot mark (a ++ (b ++ rest)) → IsNot mark ((a ++ b) ++ rest)
not_front mark a b rest s = let P : List Lexeme → Type 0 = IsNot mark in subst P (sym (append_assoc a b rest)) s

item_not_distinct : (m : ℕ) (a : List Lexeme) (x : Item) → IsItem m a x → (rest : List Lexeme) → IsNot k.Distinct (a ++ rest)
item_not_distinct m _ _ (g.item a b {x = x} d e) rest = not_front k.Distinct a b rest (whole_not_distinct m a x d (b ++ rest))

items_not_distinct : (m : ℕ) {ts : List Lexeme} {xs : List Item} → Separated (IsItem m) k.Comma ts xs → (rest : List Lexeme) → IsNot k.Distinct (ts ++ rest)
items_not_distinct m (alone {ts = ts} {x = x} d) rest = item_not_distinct m ts x d rest
items_not_distinct m (followed a b t {x = x} d is e) rest = not_front k.Distinct a (t ∷ b) rest (item_not_distinct m a x d (t ∷ b ++ rest))

distinct_reads : {a : List Lexeme} {only : Bool} → IsDistinct a only → (rest : List Lexeme) → IsNot k.Distinct rest → read_distinct (a ++ rest) ≡ Ok (only, rest)
unfolding read_distinct
distinct_reads every [] s = refl
distinct_reads every (t ∷ rest) s = rw s refl
distinct_reads (distinct t is) rest s = ap (λ b. choose (take_token >> pure true) (pure false) b (t ∷ rest)) (ap (λ v. same_kind v k.Distinct) is ∙ same_itself k.Distinct)

selection_reads : (m : ℕ) (a : List Lexeme) (s : Bool × List Item) → IsSelection m a s → (rest : List Lexeme) → Next only_match rest → read_selection m (a ++ rest) ≡ Ok (s, rest)
unfolding read_selection
selection_reads m _ _ (g.selection s a b {only = only} {items = items} is d e) rest n =
    ap (λ v. read_selection m (s ∷ v)) (append_assoc a b rest)
    ∙ expect_goes k.Select s (a ++ (b ++ rest)) (λ _. read_distinct >>= λ only. separated (read_item m) k.Comma >>= λ items. pure (only, items)) is
    ∙ ap (λ o. and_then o (λ only. separated (read_item m) k.Comma >>= λ items. pure (only, items))) (distinct_reads d (b ++ rest) (items_not_distinct m e rest))
    ∙ ap (λ o. and_then o (λ items. pure (only, items))) (items_read m e rest (or_stops only_match match_stops rest n, is_not only_match k.As match_no_as rest n) (is_not only_match k.Comma match_no_comma rest n))

-- ---- the pattern

pattern_reads : (b : List Lexeme) (paths : List Path) → IsPattern b paths → (rest : List Lexeme) → Next in_tail rest → read_pattern (b ++ rest) ≡ Ok (paths, rest)
unfolding read_pattern
pattern_reads _ _ (g.pattern m ts is d) rest n =
    expect_goes k.Match m (ts ++ rest) (λ _. separated read_path k.Comma) is
    ∙ separated_reads IsPath k.Comma read_path (NoneBegins begins_edge) path_reads (λ t ts q. ap begins_edge q) path_some d rest (no_edge in_tail tail_no_edge rest n) (is_not in_tail k.Comma tail_no_comma rest n)

-- ---- the tail

keys_read : (m : ℕ) (b : List Lexeme) (keys : List Key) → AreKeys m b keys → (rest : List Lexeme) → Next only_limit rest → read_keys m (b ++ rest) ≡ Ok (keys, rest)
unfolding read_keys
keys_read m _ _ no_order [] n = refl
keys_read m _ _ no_order (t ∷ rest) n = let s : same_kind t.kind k.Order ≡ false = limit_no_order t.kind n in rw s refl
keys_read m _ _ (ordered o b ts is by d) rest n =
    ap (λ v. choose (take_token >> (expect k.By >> separated (read_key m) k.Comma)) (pure []) v (o ∷ b ∷ ts ++ rest)) (ap (λ v. same_kind v k.Order) is ∙ same_itself k.Order)
    ∙ expect_goes k.By b (ts ++ rest) (λ _. separated (read_key m) k.Comma) by
    ∙ key_list_reads m d rest (or_stops only_limit limit_stops rest n, is_not only_limit k.Asc limit_no_asc rest n, is_not only_limit k.Desc limit_no_desc rest n) (is_not only_limit k.Comma limit_no_comma rest n)

number_reads : (a : List Lexeme) (n : ℕ) → IsLimit a n → (rest : List Lexeme) → anything rest → read_number (a ++ rest) ≡ Ok (n, rest)
unfolding read_number
number_reads a n d rest s = ap (λ v. read_number (v ++ rest)) d.1 ∙ expect_goes k.Number d.0 rest (λ t. pure (value_of t)) d.2 ∙ ap (λ v. Ok (v, rest)) (sym d.3)

limit_next : {c : List Lexeme} {limit : Option ℕ} → Optional IsLimit k.Limit c limit → Next only_limit c
limit_next absent = tt
limit_next (present t ts is d) = ap only_limit is

keys_next : {m : ℕ} {b : List Lexeme} {keys : List Key} → AreKeys m b keys → Next in_order b
keys_next no_order = tt
keys_next (ordered o b ts is by d) = ap in_order is

condition_next : {m : ℕ} {a : List Lexeme} {condition : Option AstExpr} → Optional (IsWhole m) k.Where a condition → Next in_tail a
condition_next absent = tt
condition_next (present t ts is d) = ap in_tail is

after_condition : {m : ℕ} {b c : List Lexeme} {keys : List Key} {limit : Option ℕ} → AreKeys m b keys → Optional IsLimit k.Limit c limit → Next in_order (b ++ c)
after_condition {b = b} {c = c} e f = next_append in_order b c (keys_next e) (next_up only_limit in_order limit_in_order c (limit_next f))

abbrev tail_of : Option AstExpr → List Key → Option ℕ → Tail
tail_of condition keys limit = record { condition = condition; keys = keys; limit = limit }

tail_reads : (m : ℕ) (ts : List Lexeme) (t : Tail) → IsTail m ts t → read_tail m ts ≡ Ok (t, [])
unfolding read_tail
tail_reads m _ _ (g.tail a b c {condition = condition} {keys = keys} {limit = limit} d e f) =
    let n = after_condition e f in
    ap (read_tail m) (append_assoc a b c)
    ∙ ap (λ o. and_then o (λ c. read_keys m >>= λ keys. optional read_number k.Limit >>= λ limit. pure (tail_of c keys limit)))
    (optional_reads (IsWhole m) k.Where (read_whole_expr m) (Stops Or) (whole_reads m) d (b ++ c) (or_stops in_order order_stops (b ++ c) n) (is_not in_order k.Where order_no_where (b ++ c) n))
    ∙ ap (λ o. and_then o (λ keys. optional read_number k.Limit >>= λ limit. pure (tail_of condition keys limit))) (keys_read m b keys e c (limit_next f))
    ∙ ap (λ v. and_then (optional read_number k.Limit v) (λ limit. pure (tail_of condition keys limit))) (sym (append-nil c))
    ∙ ap (λ o. and_then o (λ limit. pure (tail_of condition keys limit))) (optional_reads IsLimit k.Limit read_number anything number_reads f [] tt tt)

tail_next : {m : ℕ} {ts : List Lexeme} {t : Tail} → IsTail m ts t → Next in_tail ts
tail_next (g.tail a b c d e f) =
    next_append in_tail (a ++ b) c (next_append in_tail a b (condition_next d) (next_up in_order in_tail order_in_tail b (keys_next e)))
    (next_up in_order in_tail order_in_tail c (next_up only_limit in_order limit_in_order c (limit_next f)))

-- ---- the whole

pattern_next : {b : List Lexeme} {paths : List Path} → IsPattern b paths → (rest : List Lexeme) → Next only_match (b ++ rest)
pattern_next (g.pattern m ts is d) rest = ap only_match is

query_reads : (m : ℕ) (ts : List Lexeme) (q : Ast) → IsQuery m ts q → read_query m ts ≡ Ok (q, [])
unfolding read_query
query_reads m _ _ (g.query a b c only items paths t d e f) =
    ap (read_query m) (append_assoc a b c)
    ∙ ap (λ o. and_then o (λ s. read_pattern >>= λ paths. read_tail m >>= λ t. pure (whole_of s paths t))) (selection_reads m a (only, items) d (b ++ c) (pattern_next e c))
    ∙ ap (λ o. and_then o (λ paths. read_tail m >>= λ t. pure (whole_of (only, items) paths t))) (pattern_reads b paths e c (tail_next f))
    ∙ ap (λ o. and_then o (λ t. pure (whole_of (only, items) paths t))) (tail_reads m c t f)

pub whole_query_reads : (j m : ℕ) (ts : List Lexeme) (q : Ast) → j ≤ m → IsQuery j ts q → read_whole m ts ≡ Ok (q, [])
unfolding read_whole
whole_query_reads j m ts q le d = ap (λ o. and_then o (λ q. finished >> pure q)) (query_reads m ts q (lift_query j m ts q le d))
