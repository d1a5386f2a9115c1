-- Parts after a mark by whether the mark comes next, and what is read in two steps.
use Rattle.std.proofs.Common.{◌≡◌, ℕ, Bool, true, false, List, [], ◌∷◌, Option, Some, None, Ok, Err, refl, sym, ap, ◌∙◌}
use Rattle.pgql_lexemes.specs.declared.kind.Kind.{Kind}
use Rattle.pgql_lexemes.specs.declared.kind.Kind.TheVariants as k
use Rattle.pgql_lexemes.specs.Lexemes.{Lexeme}
use Rattle.pgql_lexemes.specs.Lists.{choose, separated, optional, sees, after, after_by}
use Rattle.pgql_tree.specs.declared.ast.AstExpr.{AstExpr}
use Rattle.pgql_tree.specs.declared.ast.Path.{Path}
use Rattle.pgql_tree.specs.declared.ast.Key.{Key}
use Rattle.pgql_tree.specs.declared.ast.Item.{Item}
use Rattle.pgql_syntax.specs.declared.query.Head.{Head}
use Rattle.pgql_syntax.specs.declared.query.Tail.{Tail}
use Rattle.pgql_syntax.specs.Grammar.{edge_of}
use Rattle.pgql_expr.specs.Reading.{Outcome, Parser, and_then, ◌>>=◌, ◌>>◌, pure, by_next, take_token, expect, same_kind}
use Rattle.pgql_syntax.specs.Patterns.{read_label, read_labels, read_enclosed, read_out}
use Rattle.pgql_syntax.specs.Queries.{read_whole_expr, read_key, read_keys, read_number, read_distinct, direction_by, read_direction, read_selection, read_pattern}
use Rattle.pgql_syntax.specs.Queries.{read_order, read_tail, read_head, read_query, query_with}

module _ {B : Type 0} (mark : Kind) (p q : Parser B) where
  by_mark : (ts : List Lexeme) → by_next q (λ t. choose (take_token >> p) q (same_kind t.kind mark)) ts ≡ choose p q (sees mark ts) (after mark ts)
  by_mark [] = refl
  by_mark (t ∷ ts) = by_bool (same_kind t.kind mark)
    where
      by_bool : (b : Bool) → choose (take_token >> p) q b (t ∷ ts) ≡ choose p q b (after_by b (t ∷ ts))
      by_bool true = refl
      by_bool false = refl

pub optional_is : {A : Type 0} (item : Parser A) (mark : Kind) (ts : List Lexeme)
    → optional item mark ts ≡ choose (item >>= λ x. pure (Some x)) (pure None) (sees mark ts) (after mark ts)
unfolding optional
optional_is item mark ts = by_mark mark (item >>= λ x. pure (Some x)) (pure None) ts

pub labels_is : (ts : List Lexeme) → read_labels ts ≡ choose (separated read_label k.Bar) (pure []) (sees k.Colon ts) (after k.Colon ts)
unfolding read_labels
labels_is ts = by_mark k.Colon (separated read_label k.Bar) (pure []) ts

pub keys_is : (most : ℕ) (ts : List Lexeme) → read_keys most ts ≡ choose (expect k.By >> separated (read_key most) k.Comma) (pure []) (sees k.Order ts) (after k.Order ts)
unfolding read_keys
keys_is most ts = by_mark k.Order (expect k.By >> separated (read_key most) k.Comma) (pure []) ts

pub distinct_is : (ts : List Lexeme) → read_distinct ts ≡ Ok (sees k.Distinct ts, after k.Distinct ts)
unfolding read_distinct
distinct_is ts = by_mark k.Distinct (pure true) (pure false) ts ∙ by_bool (sees k.Distinct ts) (after k.Distinct ts)
  where
    by_bool : (b : Bool) (rest : List Lexeme) → choose (pure true) (pure false) b rest ≡ Ok (b, rest)
    by_bool true rest = refl
    by_bool false rest = refl

then_assoc : {A B C : Type 0} (o : Outcome A) (f : A → Parser B) (g : B → Parser C) → and_then (and_then o f) g ≡ and_then o (λ x. f x >>= g)
then_assoc (Ok p) f g = refl
then_assoc (Err e) f g = refl

then_same : {A B : Type 0} (o : Outcome A) (f g : A → Parser B) → ((x : A) (ts : List Lexeme) → f x ts ≡ g x ts) → and_then o f ≡ and_then o g
then_same (Ok p) f g same = same p.0 p.1
then_same (Err e) f g same = refl

abbrev tail_with : Option AstExpr → List Key × Option ℕ → Tail
tail_with condition order = record { condition = condition; keys = order.0; limit = order.1 }

pub tail_is : (most : ℕ) (ts : List Lexeme)
    → read_tail most ts ≡ and_then (optional (read_whole_expr most) k.Where ts) (λ condition. read_order most >>= λ order. pure (record { condition = condition; keys = order.0; limit = order.1 }))
unfolding read_tail read_order
tail_is most ts = then_same (optional (read_whole_expr most) k.Where ts) _ _
    (λ condition us. sym (then_assoc (read_keys most us) (λ keys. optional read_number k.Limit >>= λ limit. pure (keys, limit)) (λ order. pure (tail_with condition order))
    ∙ then_same (read_keys most us) _ _ (λ keys vs. then_assoc (optional read_number k.Limit vs) (λ limit. pure (keys, limit)) (λ order. pure (tail_with condition order)))))

abbrev head_of : Bool × List Item → List Path → Head
head_of selected paths = record { distinct = selected.0; items = selected.1; paths = paths }

pub query_is : (most : ℕ) (ts : List Lexeme) → read_query most ts ≡ and_then (read_head most ts) (λ head. read_tail most >>= λ tail. pure (query_with head tail))
unfolding read_query read_head
query_is most ts = sym (then_assoc (read_selection most ts) (λ selected. read_pattern >>= λ paths. pure (head_of selected paths)) (λ head. read_tail most >>= λ tail. pure (query_with head tail))
    ∙ then_same (read_selection most ts) _ _ (λ selected us. then_assoc (read_pattern us) (λ paths. pure (head_of selected paths)) (λ head. read_tail most >>= λ tail. pure (query_with head tail))))

pub out_is : (at : ℕ) (ts : List Lexeme)
    → read_out at ts ≡ and_then (read_enclosed k.OpenBracket k.CloseBracket ts) (λ s. (expect k.Minus >> expect k.Greater) >>= λ end. pure (edge_of true s.0 at))
unfolding read_out
out_is at ts = then_same (read_enclosed k.OpenBracket k.CloseBracket ts) _ _ (λ s us. sym (then_assoc (expect k.Minus us) (λ end. expect k.Greater) (λ end. pure (edge_of true s.0 at))))

-- ---- ASC and DESC

abbrev direction_at : Bool → Bool → Lexeme → List Lexeme → Outcome Bool
direction_at true up t ts = Ok (true, ts)
direction_at false true t ts = Ok (false, ts)
direction_at false false t ts = Ok (false, t ∷ ts)

by_kind : (kind : Kind) (t : Lexeme) (ts : List Lexeme) → direction_by kind (t ∷ ts) ≡ direction_at (same_kind kind k.Desc) (same_kind kind k.Asc) t ts
unfolding same_kind
by_kind k.Asc t ts = refl
by_kind k.Desc t ts = refl
by_kind kind t ts = refl

pub desc_read : (ts : List Lexeme) → sees k.Desc ts ≡ true → read_direction ts ≡ Ok (true, after k.Desc ts)
unfolding read_direction
desc_read [] is = cc
desc_read (t ∷ ts) is =
    by_kind t.kind t ts ∙ ap (λ b. direction_at b (same_kind t.kind k.Asc) t ts) is ∙ ap (λ b. Ok (true, after_by b (t ∷ ts))) (sym is)

pub other_read : (ts : List Lexeme) → sees k.Desc ts ≡ false → read_direction ts ≡ Ok (false, after k.Asc ts)
unfolding read_direction
other_read [] is = refl
other_read (t ∷ ts) is = by_kind t.kind t ts ∙ ap (λ b. direction_at b (same_kind t.kind k.Asc) t ts) is ∙ by_up (same_kind t.kind k.Asc)
  where
    by_up : (b : Bool) → direction_at false b t ts ≡ Ok (false, after_by b (t ∷ ts))
    by_up true = refl
    by_up false = refl
