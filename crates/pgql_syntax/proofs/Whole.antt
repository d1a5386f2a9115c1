-- Reading a whole query follows the grammar.
use Rattle.std.proofs.lemmas.List.{append-nil}
use Rattle.std.proofs.Common.{◌≡◌, ℕ, max, ◌≤◌, Bool, true, false, List, [], ◌∷◌, ◌++◌, Option, None, refl, subst, arith}
use Rattle.pgql_lexemes.specs.declared.kind.Kind.TheVariants as k
use Rattle.pgql_tree.specs.declared.ast.AstExpr.{AstExpr}
use Rattle.pgql_tree.specs.declared.ast.Item.{Item}
use Rattle.pgql_tree.specs.declared.ast.Key.{Key}
use Rattle.pgql_tree.specs.declared.ast.Path.{Path}
use Rattle.pgql_tree.specs.declared.ast.Ast.{Ast}
use Rattle.pgql_syntax.specs.declared.query.Tail.{Tail}
use Rattle.pgql_lexemes.specs.Lexemes.{Lexeme, value_of}
use Rattle.pgql_syntax.specs.Grammar.{Separated, alone, Optional, absent, IsWhole, IsItem, IsKey, IsPath, IsDistinct, every, distinct, AreKeys, no_order, ordered}
use Rattle.pgql_syntax.specs.Grammar.{IsLimit, IsSelection, IsPattern, IsTail, IsQuery}
use Rattle.pgql_syntax.specs.Grammar as g
use Rattle.pgql_expr.specs.Reading.{◌>>=◌, ◌>>◌, pure, take_token, expect, same_kind}
use Rattle.pgql_lexemes.specs.Lists.{choose, separated, optional}
use Rattle.pgql_syntax.specs.Patterns.{read_path}
use Rattle.pgql_syntax.specs.Queries.{read_whole_expr, read_item, read_key, read_distinct, read_keys, read_number, read_selection, read_pattern, read_tail, whole_of, read_query, finished, read_whole}
use Rattle.pgql_syntax.proofs.Samples.{sample}
use Rattle.pgql_syntax.proofs.Follows.{Says, Follows, ends_with, Follows-pure, Follows-then, Follows-by_next, Follows-expect, said-pure, said-unexpected, said-after}
use Rattle.pgql_lexemes.proofs.SameKind.{same_is}
use Rattle.pgql_syntax.proofs.Ends.{one, one_expr}
use Rattle.pgql_syntax.proofs.Lists.{Follows-separated}
use Rattle.pgql_syntax.proofs.Options.{Follows-optional}
use Rattle.pgql_syntax.proofs.Parts.{Follows-behind}
use Rattle.pgql_syntax.proofs.Paths.{path_of, empty_path, path_follows}
use Rattle.pgql_syntax.proofs.Items.{Any, lift_separated, gather_separated, lift_optional, gather_optional, lift_whole, lift_item, lift_key, whole_follows, item_of}
use Rattle.pgql_syntax.proofs.Items.{item_follows, key_of, key_follows, one_item, one_key}

-- ---- a greater height will do

lift_selection : (h h' : ℕ) (ts : List Lexeme) (x : Bool × List Item) → h ≤ h' → IsSelection h ts x → IsSelection h' ts x
lift_selection h h' _ _ le (g.selection s a b is d e) = g.selection s a b is d (lift_separated IsItem lift_item h h' k.Comma le e)

lift_keys : (h h' : ℕ) (ts : List Lexeme) (x : List Key) → h ≤ h' → AreKeys h ts x → AreKeys h' ts x
lift_keys h h' _ _ le no_order = no_order
lift_keys h h' _ _ le (ordered o b ts is by d) = ordered o b ts is by (lift_separated IsKey lift_key h h' k.Comma le d)

lift_tail : (h h' : ℕ) (ts : List Lexeme) (x : Tail) → h ≤ h' → IsTail h ts x → IsTail h' ts x
lift_tail h h' _ _ le (g.tail a b c {keys = keys} d e f) = g.tail a b c (lift_optional IsWhole lift_whole h h' k.Where le d) (lift_keys h h' b keys le e) f

pub lift_query : (h h' : ℕ) (ts : List Lexeme) (x : Ast) → h ≤ h' → IsQuery h ts x → IsQuery h' ts x
lift_query h h' _ _ le (g.query a b c only items paths t d e f) = g.query a b c only items paths t (lift_selection h h' a (only, items) le d) e (lift_tail h h' c t le f)

-- ---- the parts

distinct_follows : Follows IsDistinct IsDistinct [] read_distinct
unfolding read_distinct
distinct_follows = Follows-by_next IsDistinct IsDistinct [] (pure false) (λ t. choose (take_token >> pure true) (pure false) (same_kind t.kind k.Distinct))
    (Follows-pure IsDistinct IsDistinct [] false every) (λ t ts. by_bool t ts (same_kind t.kind k.Distinct) (same_is t.kind k.Distinct))
  where
    by_bool : (t : Lexeme) (ts : List Lexeme) (b : Bool) → (b ≡ true → t.kind ≡ k.Distinct) → Says IsDistinct IsDistinct [] (t ∷ ts) (choose (take_token >> pure true) (pure false) b (t ∷ ts))
    by_bool t ts true is = said-after IsDistinct IsDistinct [] t ts (pure true ts) (said-pure IsDistinct IsDistinct (t ∷ []) ts true (distinct t (is refl)))
    by_bool t ts false is = said-pure IsDistinct IsDistinct [] (t ∷ ts) false every

number_follows : Follows IsLimit IsLimit [] read_number
unfolding read_number
number_follows = Follows-expect IsLimit IsLimit [] k.Number (λ t. pure (value_of t)) (k.Number ∷ [], value_of one, (one, refl, refl, refl))
    (λ t is. Follows-pure IsLimit IsLimit (t ∷ []) (value_of t) (t, refl, is, refl))

abbrev Items : ℕ → List Lexeme → List Item → Type 0
Items m = Separated (IsItem m) k.Comma

abbrev AnyItems : List Lexeme → List Item → Type 0
AnyItems = Separated (Any IsItem) k.Comma

items_follows : (m : ℕ) → Follows (Items m) AnyItems [] (separated (read_item m) k.Comma)
items_follows m = Follows-separated (IsItem m) (Any IsItem) k.Comma (read_item m) (item_follows m) (k.Number ∷ [], item_of one_expr None, one_item m) (λ a x r. (m, r))

selection_follows : (m : ℕ) → Follows (IsSelection m) (Any IsSelection) [] (read_selection m)
unfolding read_selection
selection_follows m =
    Follows-expect (IsSelection m) (Any IsSelection) [] k.Select (λ _. read_distinct >>= λ only. separated (read_item m) k.Comma >>= λ items. pure (only, items))
    (k.Select ∷ k.Number ∷ [], (false, item_of one_expr None ∷ []), one_selection (sample k.Select) [] false refl every)
    (λ s is. Follows-then IsDistinct IsDistinct (IsSelection m) (Any IsSelection) (s ∷ []) read_distinct (λ only. separated (read_item m) k.Comma >>= λ items. pure (only, items)) distinct_follows
    ((λ a only d. (k.Number ∷ [], (only, item_of one_expr None ∷ []), one_selection s a only is d)), (λ a only d. (k.Number ∷ [], (only, item_of one_expr None ∷ []), (m, one_selection s a only is d))))
    (λ a only d. Follows-then (Items m) AnyItems (IsSelection m) (Any IsSelection) (s ∷ a) (separated (read_item m) k.Comma) (λ items. pure (only, items)) (items_follows m) (
      (λ b items e. ends_with (IsSelection m) (Any IsSelection) (s ∷ a ++ b) (only, items) (g.selection s a b is d e)),
      (λ b items e. let w = gather_separated IsItem lift_item e in ends_with (Any IsSelection) (Any IsSelection) (s ∷ a ++ b) (only, items) (w.0, g.selection s a b is d w.1)),
    )
    (λ b items e. Follows-pure (IsSelection m) (Any IsSelection) (s ∷ a ++ b) (only, items) (g.selection s a b is d e))))
  where
    one_selection : (s : Lexeme) (a : List Lexeme) (only : Bool) → s.kind ≡ k.Select → IsDistinct a only → IsSelection m (s ∷ a ++ one ∷ []) (only, item_of one_expr None ∷ [])
    one_selection s a only is d = g.selection s a (one ∷ []) is d (alone (one_item m))

abbrev Paths : List Lexeme → List Path → Type 0
Paths = Separated IsPath k.Comma

empty_pattern : (m : Lexeme) → m.kind ≡ k.Match → IsPattern (m ∷ sample k.Open ∷ sample k.Close ∷ []) (path_of (record { name = None; labels = []; at = 0 }) [] ∷ [])
empty_pattern m is = g.pattern m (sample k.Open ∷ sample k.Close ∷ []) is (alone empty_path)

pattern_follows : Follows IsPattern IsPattern [] read_pattern
unfolding read_pattern
pattern_follows = Follows-expect IsPattern IsPattern [] k.Match (λ _. separated read_path k.Comma)
    (k.Match ∷ k.Open ∷ k.Close ∷ [], path_of (record { name = None; labels = []; at = 0 }) [] ∷ [], empty_pattern (sample k.Match) refl)
    (λ m is. Follows-behind Paths Paths IsPattern IsPattern (m ∷ []) (λ a v d. g.pattern m a is d) (λ a v d. g.pattern m a is d) (separated read_path k.Comma)
    (Follows-separated IsPath IsPath k.Comma read_path path_follows (k.Open ∷ k.Close ∷ [], path_of (record { name = None; labels = []; at = 0 }) [], empty_path) (λ a x r. r)))

abbrev Keys : ℕ → List Lexeme → List Key → Type 0
Keys m = Separated (IsKey m) k.Comma

abbrev AnyKeys : List Lexeme → List Key → Type 0
AnyKeys = Separated (Any IsKey) k.Comma

key_list_follows : (m : ℕ) → Follows (Keys m) AnyKeys [] (separated (read_key m) k.Comma)
key_list_follows m = Follows-separated (IsKey m) (Any IsKey) k.Comma (read_key m) (key_follows m) (k.Number ∷ [], key_of one_expr false, one_key m) (λ a x r. (m, r))

keys_follows : (m : ℕ) → Follows (AreKeys m) (Any AreKeys) [] (read_keys m)
unfolding read_keys
keys_follows m = Follows-by_next (AreKeys m) (Any AreKeys) [] (pure []) (λ t. choose (take_token >> (expect k.By >> separated (read_key m) k.Comma)) (pure []) (same_kind t.kind k.Order))
    (Follows-pure (AreKeys m) (Any AreKeys) [] [] no_order) (λ t ts. by_bool t ts (same_kind t.kind k.Order) (same_is t.kind k.Order))
  where
    behind : (o b : Lexeme) → o.kind ≡ k.Order → b.kind ≡ k.By → Follows (AreKeys m) (Any AreKeys) (o ∷ b ∷ []) (separated (read_key m) k.Comma)
    behind o b is by = Follows-behind (Separated (IsKey m) k.Comma) (Separated (Any IsKey) k.Comma) (AreKeys m) (Any AreKeys) (o ∷ b ∷ []) (λ a v d. ordered o b a is by d)
        (λ a v d. let w = gather_separated IsKey lift_key d in (w.0, ordered o b a is by w.1)) (separated (read_key m) k.Comma) (key_list_follows m)

    by_bool : (t : Lexeme) (ts : List Lexeme) (b : Bool) → (b ≡ true → t.kind ≡ k.Order)
        → Says (AreKeys m) (Any AreKeys) [] (t ∷ ts) (choose (take_token >> (expect k.By >> separated (read_key m) k.Comma)) (pure []) b (t ∷ ts))
    by_bool t ts true is = said-after (AreKeys m) (Any AreKeys) [] t ts ((expect k.By >> separated (read_key m) k.Comma) ts)
        ((Follows-expect (AreKeys m) (Any AreKeys) (t ∷ []) k.By (λ _. separated (read_key m) k.Comma)
        (k.By ∷ k.Number ∷ [], key_of one_expr false ∷ [], ordered t (sample k.By) (one ∷ []) (is refl) refl (alone (one_key m)))
        (λ b by. behind t b (is refl) by)).says ts)
    by_bool t ts false is = said-pure (AreKeys m) (Any AreKeys) [] (t ∷ ts) [] no_order

abbrev tail_of : Option AstExpr → List Key → Option ℕ → Tail
tail_of condition keys limit = record { condition = condition; keys = keys; limit = limit }

abbrev Condition : ℕ → List Lexeme → Option AstExpr → Type 0
Condition m = Optional (IsWhole m) k.Where

abbrev AnyCondition : List Lexeme → Option AstExpr → Type 0
AnyCondition = Optional (Any IsWhole) k.Where

abbrev Limit : List Lexeme → Option ℕ → Type 0
Limit = Optional IsLimit k.Limit

only_condition : (h : ℕ) (a : List Lexeme) (c : Option AstExpr) → Optional (IsWhole h) k.Where a c → IsTail h (a ++ []) (tail_of c [] None)
only_condition h a c d =
    let P : List Lexeme → Type 0 = λ v. IsTail h v (tail_of c [] None) in
    subst P (append-nil (a ++ [])) (g.tail a [] [] d no_order absent)

tail_follows : (m : ℕ) → Follows (IsTail m) (Any IsTail) [] (read_tail m)
unfolding read_tail
tail_follows m =
    Follows-then (Condition m) AnyCondition (IsTail m) (Any IsTail) [] (optional (read_whole_expr m) k.Where)
    (λ c. read_keys m >>= λ keys. optional read_number k.Limit >>= λ limit. pure (tail_of c keys limit)) (Follows-optional (IsWhole m) (Any IsWhole) k.Where (read_whole_expr m) (whole_follows m))
    ((λ a c d. ([], tail_of c [] None, only_condition m a c d)), (λ a c d. let w = gather_optional IsWhole lift_whole d in ([], tail_of c [] None, (w.0, only_condition w.0 a c w.1))))
    (λ a c d. Follows-then (AreKeys m) (Any AreKeys) (IsTail m) (Any IsTail) a (read_keys m) (λ keys. optional read_number k.Limit >>= λ limit. pure (tail_of c keys limit)) (keys_follows m) (
      (λ b keys e. ([], tail_of c keys None, g.tail a b [] d e absent)),
      (λ b keys e. let h = max m e.0 in ([], tail_of c keys None, (h, g.tail a b [] (lift_optional IsWhole lift_whole m h k.Where (omega arith) d) (lift_keys e.0 h b keys (omega arith) e.1) absent))),
    )
    (λ b keys e. Follows-then Limit Limit (IsTail m) (Any IsTail) (a ++ b) (optional read_number k.Limit) (λ limit. pure (tail_of c keys limit)) (Follows-optional IsLimit IsLimit k.Limit read_number number_follows) (
      (λ l limit f. ends_with (IsTail m) (Any IsTail) ((a ++ b) ++ l) (tail_of c keys limit) (g.tail a b l d e f)),
      (λ l limit f. ends_with (Any IsTail) (Any IsTail) ((a ++ b) ++ l) (tail_of c keys limit) (m, g.tail a b l d e f)),
    )
    (λ l limit f. Follows-pure (IsTail m) (Any IsTail) ((a ++ b) ++ l) (tail_of c keys limit) (g.tail a b l d e f))))

no_tail : (h : ℕ) → IsTail h [] (tail_of None [] None)
no_tail h = g.tail [] [] [] absent no_order absent

-- ---- the whole

only_selection : (h : ℕ) (a : List Lexeme) (s : Bool × List Item) → IsSelection h a s
    → IsQuery h (a ++ sample k.Match ∷ sample k.Open ∷ sample k.Close ∷ []) (whole_of s (path_of (record { name = None; labels = []; at = 0 }) [] ∷ []) (tail_of None [] None))
only_selection h a s d =
    let b : List Lexeme = sample k.Match ∷ sample k.Open ∷ sample k.Close ∷ [] in
    let P : List Lexeme → Type 0 = λ v. IsQuery h v (whole_of s (path_of (record { name = None; labels = []; at = 0 }) [] ∷ []) (tail_of None [] None)) in
    subst P (append-nil (a ++ b)) (g.query a b [] s.0 s.1 (path_of (record { name = None; labels = []; at = 0 }) [] ∷ []) (tail_of None [] None) d (empty_pattern (sample k.Match) refl) (no_tail h))

pub query_follows : (m : ℕ) → Follows (IsQuery m) (Any IsQuery) [] (read_query m)
unfolding read_query
query_follows m =
    Follows-then (IsSelection m) (Any IsSelection) (IsQuery m) (Any IsQuery) [] (read_selection m) (λ s. read_pattern >>= λ paths. read_tail m >>= λ t. pure (whole_of s paths t)) (selection_follows m) (
      (λ a s d. (k.Match ∷ k.Open ∷ k.Close ∷ [], whole_of s (path_of (record { name = None; labels = []; at = 0 }) [] ∷ []) (tail_of None [] None), only_selection m a s d)),
      (λ a s d. (k.Match ∷ k.Open ∷ k.Close ∷ [], whole_of s (path_of (record { name = None; labels = []; at = 0 }) [] ∷ []) (tail_of None [] None), (d.0, only_selection d.0 a s d.1))),
    )
    (λ a s d. Follows-then IsPattern IsPattern (IsQuery m) (Any IsQuery) a read_pattern (λ paths. read_tail m >>= λ t. pure (whole_of s paths t)) pattern_follows (
      (λ b paths e. ([], whole_of s paths (tail_of None [] None), g.query a b [] s.0 s.1 paths (tail_of None [] None) d e (no_tail m))),
      (λ b paths e. ([], whole_of s paths (tail_of None [] None), (m, g.query a b [] s.0 s.1 paths (tail_of None [] None) d e (no_tail m)))),
    )
    (λ b paths e. Follows-then (IsTail m) (Any IsTail) (IsQuery m) (Any IsQuery) (a ++ b) (read_tail m) (λ t. pure (whole_of s paths t)) (tail_follows m) (
      (λ c t f. ends_with (IsQuery m) (Any IsQuery) ((a ++ b) ++ c) (whole_of s paths t) (g.query a b c s.0 s.1 paths t d e f)),
      (λ c t f. let h = max m f.0 in
          ends_with (Any IsQuery) (Any IsQuery) ((a ++ b) ++ c) (whole_of s paths t) (h, g.query a b c s.0 s.1 paths t (lift_selection m h a s (omega arith) d) e (lift_tail f.0 h c t (omega arith) f.1))),
    )
    (λ c t f. Follows-pure (IsQuery m) (Any IsQuery) ((a ++ b) ++ c) (whole_of s paths t) (g.query a b c s.0 s.1 paths t d e f))))

pub whole_follows_query : (m : ℕ) → Follows (IsQuery m) (Any IsQuery) [] (read_whole m)
unfolding read_whole
whole_follows_query m = Follows-then (IsQuery m) (Any IsQuery) (IsQuery m) (Any IsQuery) [] (read_query m) (λ q. finished >> pure q) (query_follows m)
    ((λ a q d. ends_with (IsQuery m) (Any IsQuery) a q d), (λ a q d. ends_with (Any IsQuery) (Any IsQuery) a q d))
    (λ a q d. record { says = after a q d })
  where
    after : (a : List Lexeme) (q : Ast) → IsQuery m a q → (ts : List Lexeme) → Says (IsQuery m) (Any IsQuery) a ts ((finished >> pure q) ts)
    after a q d [] = said-pure (IsQuery m) (Any IsQuery) a [] q d
    after a q d (t ∷ ts) = said-unexpected (IsQuery m) (Any IsQuery) a (t ∷ ts) (ends_with (IsQuery m) (Any IsQuery) a q d)
