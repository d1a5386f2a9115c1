-- Reading items and keys follows the grammar.
use Rattle.std.proofs.Common.{◌≡◌, ℕ, suc, max, ◌≤◌, Bool, true, false, List, [], ◌∷◌, ◌++◌, Option, None, Err, refl, arith}
use Rattle.pgql_lexemes.specs.declared.kind.Kind.{Kind}
use Rattle.pgql_lexemes.specs.declared.kind.Kind.TheVariants as k
use Rattle.pgql_tree.specs.declared.ast.AstExpr.{AstExpr}
use Rattle.pgql_tree.specs.declared.ast.Placed.{Placed}
use Rattle.pgql_tree.specs.declared.ast.Item.{Item}
use Rattle.pgql_tree.specs.declared.ast.Key.{Key}
use Rattle.pgql_expr.specs.declared.found.Found.{Found}
use Rattle.pgql_tree.specs.declared.level.Level.TheVariants.{Or}
use Rattle.pgql_lexemes.specs.Lexemes.{Lexeme}
use Rattle.pgql_syntax.specs.Grammar.{IsName, Separated, alone, followed, Optional, absent, present, IsWhole, IsItem, IsKey, IsDirection, no_word, up, down, at_of}
use Rattle.pgql_syntax.specs.Grammar as g
use Rattle.pgql_expr.specs.Reading.{unexpected, ◌>>=◌, pure, read_expr, nested, read_level, chained, read_not}
use Rattle.pgql_lexemes.specs.Lists.{optional, Shrinks}
use Rattle.pgql_syntax.specs.Patterns.{read_placed}
use Rattle.pgql_syntax.specs.Queries.{read_whole_expr, read_item, direction_by, read_direction, read_key}
use Rattle.pgql_syntax.proofs.Follows.{Says, Follows, ends_with, Follows-pure, Follows-then, Follows-by_next, said-pure, said-after}
use Rattle.pgql_syntax.proofs.Ends.{higher, one, one_expr, one_is, Low, High}
use Rattle.pgql_syntax.proofs.Primaries.{expr_follows}
use Rattle.pgql_syntax.proofs.Options.{Follows-optional}
use Rattle.pgql_syntax.proofs.Parts.{Shrinks-from}
use Rattle.pgql_syntax.proofs.Paths.{placed_follows}

-- of some height
abbrev pub Any : {A : Type 0} → (ℕ → List Lexeme → A → Type 0) → List Lexeme → A → Type 0
Any R ts x = (h : ℕ) × R h ts x

-- a greater height will do
abbrev pub Lifts : {A : Type 0} → (ℕ → List Lexeme → A → Type 0) → Type 0
Lifts {A} R = (h h' : ℕ) (ts : List Lexeme) (x : A) → h ≤ h' → R h ts x → R h' ts x

module _ {A : Type 0} (R : ℕ → List Lexeme → A → Type 0) (lift : Lifts R) where
  pub lift_separated : (h h' : ℕ) (mark : Kind) → h ≤ h' → {ts : List Lexeme} {xs : List A} → Separated (R h) mark ts xs → Separated (R h') mark ts xs
  lift_separated h h' mark le (alone {ts = ts} {x = x} r) = alone (lift h h' ts x le r)
  lift_separated h h' mark le (followed a b t {x = x} r is d) = followed a b t (lift h h' a x le r) is (lift_separated h h' mark le d)

  pub gather_separated : {mark : Kind} {ts : List Lexeme} {xs : List A} → Separated (Any R) mark ts xs → (h : ℕ) × Separated (R h) mark ts xs
  gather_separated (alone r) = (r.0, alone r.1)
  gather_separated {mark} (followed a b t {x = x} r is d) =
      let w = gather_separated d in
      let h = max r.0 w.0 in
      (h, followed a b t (lift r.0 h a x (omega arith) r.1) is (lift_separated w.0 h mark (omega arith) w.1))

  pub lift_optional : (h h' : ℕ) (mark : Kind) → h ≤ h' → {ts : List Lexeme} {o : Option A} → Optional (R h) mark ts o → Optional (R h') mark ts o
  lift_optional h h' mark le absent = absent
  lift_optional h h' mark le (present t ts {x = x} is r) = present t ts is (lift h h' ts x le r)

  pub gather_optional : {mark : Kind} {ts : List Lexeme} {o : Option A} → Optional (Any R) mark ts o → (h : ℕ) × Optional (R h) mark ts o
  gather_optional absent = (0, absent)
  gather_optional (present t ts is r) = (r.0, present t ts is r.1)

pub lift_whole : Lifts IsWhole
lift_whole h h' ts x le d = higher h' d le

pub lift_item : Lifts IsItem
lift_item h h' _ _ le (g.item a b d e) = g.item a b (higher h' d le) e

pub lift_key : Lifts IsKey
lift_key h h' _ _ le (g.key a b d e) = g.key a b (higher h' d le) e

pub whole_follows : (m : ℕ) → Follows (IsWhole m) (Any IsWhole) [] (read_whole_expr m)
unfolding read_whole_expr
whole_follows m = Follows-then (Low Or (suc m)) (High Or) (IsWhole m) (Any IsWhole) [] (read_expr m Or) (λ x. pure x.expr) (expr_follows m Or)
    ((λ a x d. ends_with (IsWhole m) (Any IsWhole) a x.expr (low a x d)), (λ a x d. ends_with (Any IsWhole) (Any IsWhole) a x.expr (x.height, d)))
    (λ a x d. Follows-pure (IsWhole m) (Any IsWhole) a x.expr (low a x d))
  where
    low : (a : List Lexeme) (x : Found) → Low Or (suc m) a x → IsWhole m a x.expr
    low a x d = let lt = d.1 in higher m d.0 (omega arith)

abbrev pub item_of : AstExpr → Option Placed → Item
item_of x name = record { expr = x; name = name; at = at_of x }

abbrev NameAs : List Lexeme → Option Placed → Type 0
NameAs = Optional IsName k.As

pub item_follows : (m : ℕ) → Follows (IsItem m) (Any IsItem) [] (read_item m)
unfolding read_item
item_follows m = Follows-then (IsWhole m) (Any IsWhole) (IsItem m) (Any IsItem) [] (read_whole_expr m) (λ x. optional read_placed k.As >>= λ name. pure (item_of x name)) (whole_follows m)
    ((λ a x d. ([], item_of x None, g.item a [] d absent)), (λ a x d. ([], item_of x None, (d.0, g.item a [] d.1 absent))))
    (λ a x d. Follows-then NameAs NameAs (IsItem m) (Any IsItem) a (optional read_placed k.As) (λ name. pure (item_of x name)) (Follows-optional IsName IsName k.As read_placed placed_follows)
    ((λ b n e. ends_with (IsItem m) (Any IsItem) (a ++ b) (item_of x n) (g.item a b d e)), (λ b n e. ends_with (Any IsItem) (Any IsItem) (a ++ b) (item_of x n) (m, g.item a b d e)))
    (λ b n e. Follows-pure (IsItem m) (Any IsItem) (a ++ b) (item_of x n) (g.item a b d e)))

direction_follows : Follows IsDirection IsDirection [] read_direction
unfolding read_direction
direction_follows = Follows-by_next IsDirection IsDirection [] (pure false) (λ t. direction_by t.kind) (Follows-pure IsDirection IsDirection [] false no_word) (λ t ts. by_kind t ts t.kind refl)
  where
    by_kind : (t : Lexeme) (ts : List Lexeme) (kind : Kind) → t.kind ≡ kind → Says IsDirection IsDirection [] (t ∷ ts) (direction_by kind (t ∷ ts))
    by_kind t ts k.Asc is = said-after IsDirection IsDirection [] t ts (pure false ts) (said-pure IsDirection IsDirection (t ∷ []) ts false (up t is))
    by_kind t ts k.Desc is = said-after IsDirection IsDirection [] t ts (pure true ts) (said-pure IsDirection IsDirection (t ∷ []) ts true (down t is))
    by_kind t ts kind is = said-pure IsDirection IsDirection [] (t ∷ ts) false no_word

abbrev pub key_of : AstExpr → Bool → Key
key_of x turned = record { expr = x; down = turned; at = at_of x }

pub key_follows : (m : ℕ) → Follows (IsKey m) (Any IsKey) [] (read_key m)
unfolding read_key
key_follows m = Follows-then (IsWhole m) (Any IsWhole) (IsKey m) (Any IsKey) [] (read_whole_expr m) (λ x. read_direction >>= λ turned. pure (key_of x turned)) (whole_follows m)
    ((λ a x d. ([], key_of x false, g.key a [] d no_word)), (λ a x d. ([], key_of x false, (d.0, g.key a [] d.1 no_word))))
    (λ a x d. Follows-then IsDirection IsDirection (IsKey m) (Any IsKey) a read_direction (λ turned. pure (key_of x turned)) direction_follows
    ((λ b n e. ends_with (IsKey m) (Any IsKey) (a ++ b) (key_of x n) (g.key a b d e)), (λ b n e. ends_with (Any IsKey) (Any IsKey) (a ++ b) (key_of x n) (m, g.key a b d e)))
    (λ b n e. Follows-pure (IsKey m) (Any IsKey) (a ++ b) (key_of x n) (g.key a b d e)))

item_at_end : (m : ℕ) → read_item m [] ≡ Err (unexpected, [])
unfolding read_item read_whole_expr nested read_level chained read_not
item_at_end m = refl

pub item_shrinks : (m : ℕ) → Shrinks (read_item m)
item_shrinks m = Shrinks-from (IsItem m) (Any IsItem) (read_item m) (item_follows m) (item_at_end m)

key_at_end : (m : ℕ) → read_key m [] ≡ Err (unexpected, [])
unfolding read_key read_whole_expr nested read_level chained read_not
key_at_end m = refl

pub key_shrinks : (m : ℕ) → Shrinks (read_key m)
key_shrinks m = Shrinks-from (IsKey m) (Any IsKey) (read_key m) (key_follows m) (key_at_end m)

pub one_item : (m : ℕ) → IsItem m (one ∷ []) (item_of one_expr None)
one_item m = g.item (one ∷ []) [] (one_is Or m) absent

pub one_key : (m : ℕ) → IsKey m (one ∷ []) (key_of one_expr false)
one_key m = g.key (one ∷ []) [] (one_is Or m) no_word
