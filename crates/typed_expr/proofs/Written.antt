-- Expressions that are the same are written alike.
use Rattle.std.proofs.Common.{◌≡◌, ◌∙◌, refl, sym, ap, ℕ, zero, suc, Bool, true, false, List, [], ◌∷◌, ◌++◌, codes, length, map, Some, None, arith}
use Rattle.std.specs.Prelude.{◌||◌, is_some, nat_lt, position}
use Rattle.std.specs.Bool.{OnTrue}
use Rattle.std.specs.List.{AllByRecursion, list_any, position_or_len, slice_get}
use Rattle.std.proofs.lemmas.Bool.Decides.{nat_tests}
use Rattle.std.specs.Str.{bytes_eq}
use Rattle.std.proofs.lemmas.Slice.Eq.{bytes_eq-Decides}
use Rattle.pgql_tree.specs.declared.ast.AstExpr.{AstExpr}
use Rattle.pgql_tree.specs.declared.ast.Item.{Item}
use Rattle.pgql_tree.specs.declared.level.Level.{Level}
use Rattle.pgql_tree.specs.declared.level.Level.TheVariants.{Or, Not, Test, Sum, Sign}
use Rattle.pgql_tree.specs.Levels.{tighter}
use Rattle.pgql_tree.specs.Same.{bare, bare_name}
use Rattle.pgql_tree.proofs.Bare as bare
use Rattle.pgql_print.specs.Printing.{left_of, level_of, null_test, sign_of, spelled, wrapped}
use Rattle.pgql_print.proofs.Spelling as spelling
use Rattle.pattern_scope.proofs.Added.{IsIn, all-added, position-within}
use Rattle.typed_expr.specs.Printed.{printed}
use Rattle.typed_expr.specs.Same.{same}
use Rattle.typed_expr.specs.Typed.{written}
use Rattle.typed_expr.proofs.AstByParts.{by_parts}
use Rattle.typed_expr.proofs.SameLaw.{is_told}

-- places have no part in what is written
spelled-bare : (a : AstExpr) (level : Level) → spelled (bare a) level ≡ spelled a level
spelled-bare = by_parts (λ a. (level : Level) → spelled (bare a) level ≡ spelled a level) (record {
  int = λ number at level. ap (λ x. spelled x level) (bare.bare-Int number at) ∙ spelling.spelled-Int number 0 level ∙ sym (spelling.spelled-Int number at level);
  text = λ content at level. ap (λ x. spelled x level) (bare.bare-Text content at) ∙ spelling.spelled-Text content 0 level ∙ sym (spelling.spelled-Text content at level);
  date = λ content at level. ap (λ x. spelled x level) (bare.bare-Date content at) ∙ spelling.spelled-Date content 0 level ∙ sym (spelling.spelled-Date content at level);
  bool = λ truth at level. ap (λ x. spelled x level) (bare.bare-Bool truth at) ∙ spelling.spelled-Bool truth 0 level ∙ sym (spelling.spelled-Bool truth at level);
  name = λ name at level. ap (λ x. spelled x level) (bare.bare-Name name at) ∙ spelling.spelled-Name name 0 level ∙ sym (spelling.spelled-Name name at level);
  property = λ variable property at level.
      ap (λ x. spelled x level) (bare.bare-Property variable property at) ∙ spelling.spelled-Property variable property 0 level
      ∙ sym (spelling.spelled-Property variable property at level);
  id = λ variable at level. ap (λ x. spelled x level) (bare.bare-Id variable at) ∙ spelling.spelled-Id (bare_name variable) 0 level ∙ sym (spelling.spelled-Id variable at level);
  label = λ variable at level. ap (λ x. spelled x level) (bare.bare-Label variable at) ∙ spelling.spelled-Label (bare_name variable) 0 level ∙ sym (spelling.spelled-Label variable at level);
  not = λ inside at within level.
      ap (λ x. spelled x level) (bare.bare-Not inside at) ∙ spelling.spelled-Not (bare inside) 0 level
      ∙ ap (λ text. wrapped level Not (codes "NOT " ++ text)) (within Not)
      ∙ sym (spelling.spelled-Not inside at level);
  neg = λ inside at within level.
      ap (λ x. spelled x level) (bare.bare-Neg inside at) ∙ spelling.spelled-Neg (bare inside) 0 level
      ∙ ap (λ text. wrapped level Sign (codes "-" ++ text)) (within Sign)
      ∙ sym (spelling.spelled-Neg inside at level);
  is_null = λ inside negated at within level.
      ap (λ x. spelled x level) (bare.bare-IsNull inside negated at) ∙ spelling.spelled-IsNull (bare inside) negated 0 level
      ∙ ap (λ text. wrapped level Test (text ++ null_test negated)) (within Sum)
      ∙ sym (spelling.spelled-IsNull inside negated at level);
  binary = λ op left right at first second level.
      ap (λ x. spelled x level) (bare.bare-Binary op left right at) ∙ spelling.spelled-Binary op (bare left) (bare right) 0 level
      ∙ ap (λ text. wrapped level (level_of op) (text ++ (sign_of op ++ spelled (bare right) (tighter (level_of op))))) (first (left_of op))
      ∙ ap (λ text. wrapped level (level_of op) (spelled left (left_of op) ++ (sign_of op ++ text))) (second (tighter (level_of op)))
      ∙ sym (spelling.spelled-Binary op left right at level);
})

same-printed : (a b : AstExpr) → same a b ≡ true → printed a ≡ printed b
same-printed a b is = sym (spelled-bare a Or) ∙ ap (λ x. spelled x Or) ((is_told a b).0 is) ∙ spelled-bare b Or

text-itself : (text : List ℕ) → bytes_eq text text ≡ true
text-itself text = (bytes_eq-Decides text text).1 refl

not_found : {X : Type 0} (p : X → Bool) (xs : List X) → position p xs ≡ None → list_any p xs ≡ false
not_found p xs none = by_test (list_any p xs) refl
  where
    is_there : list_any p xs ≡ true → is_some (position p xs) ≡ true
    is_there any = let below = position-within p xs any in rw (let lt : nat_lt (position_or_len p xs) (length xs) ≡ true = grind (arith, nat_tests) in lt) refl

    by_test : (t : Bool) → list_any p xs ≡ t → t ≡ false
    by_test true any = absurd (let both : true ≡ false = sym (is_there any) ∙ ap is_some none in cc)
    by_test false any = refl

-- where none of the texts is that of the expression, no item has it
none-written : (expr : AstExpr) (texts : List (List ℕ)) (items : List Item) → list_any (bytes_eq (printed expr)) texts ≡ false
    → AllByRecursion (IsIn bytes_eq text-itself texts) (map (λ item. printed item.expr) items) → list_any (λ item. same expr item.expr) items ≡ false
none-written expr texts [] none all = refl
none-written expr texts (item ∷ items) none all = by_test (same expr item.expr) refl (none-written expr texts items none all.1)
  where
    by_test : (t : Bool) → same expr item.expr ≡ t → list_any (λ item. same expr item.expr) items ≡ false → list_any (λ item. same expr item.expr) (item ∷ items) ≡ false
    by_test true is more = absurd (let both : true ≡ false = sym all.0 ∙ ap (λ text. list_any (bytes_eq text) texts) (sym (same-printed expr item.expr is)) ∙ none in cc)
    by_test false is more = rw is more

pub unwritten : (expr : AstExpr) (items : List Item) → position (bytes_eq (printed expr)) (written items) ≡ None → list_any (λ item. same expr item.expr) items ≡ false
unwritten expr items none =
    none-written expr (written items) items (not_found (bytes_eq (printed expr)) (written items) none) (all-added bytes_eq text-itself [] (map (λ item. printed item.expr) items))

-- what is in some place is somewhere
pub any-at : {X : Type 0} (p : X → Bool) (xs : List X) (place : ℕ) (x : X) → slice_get xs place ≡ Some x → p x ≡ true → list_any p xs ≡ true
any-at p [] place x is holds = absurd cc
any-at p (y ∷ xs) zero x is holds = let same : Some y ≡ Some x = is in let e : y ≡ x = cc in rw e (rw holds refl)
any-at p (y ∷ xs) (suc place) x is holds = by_test (p y) (any-at p xs place x is holds)
  where
    by_test : (t : Bool) → list_any p xs ≡ true → (t || list_any p xs) ≡ true
    by_test true more = refl
    by_test false more = more

pub any-on_true : (expr : AstExpr) (items : List Item) (place : ℕ) (item : Item) (t : Bool) → slice_get items place ≡ Some item → t ≡ same expr item.expr
    → OnTrue t (list_any (λ item. same expr item.expr) items ≡ true)
any-on_true expr items place item true there is = any-at (λ item. same expr item.expr) items place item there (sym is)
any-on_true expr items place item false there is = tt
