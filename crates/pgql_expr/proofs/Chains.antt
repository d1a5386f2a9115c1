-- A chain goes on by one operator and operand.
use Rattle.std.proofs.Common.{◌≡◌, ℕ, zero, suc, ◌+◌, ◌-◌, ◌≤◌, ◌<◌, false, List, [], ◌∷◌, Some, None, Ok, Err, refl, sym, ap, ◌∙◌, arith}
use Rattle.std.specs.Prelude.{nat_lt}
use Rattle.std.proofs.lemmas.Bool.Decides.{nat_tests}
use Rattle.pgql_lexemes.specs.Lexemes.{Lexeme}
use Rattle.pgql_tree.specs.declared.ast.Op.{Op}
use Rattle.pgql_expr.specs.declared.found.Found.{Found}
use Rattle.pgql_tree.specs.declared.level.Level.{Level}
use Rattle.pgql_lexemes.specs.declared.input.Stop.{Stop}
use Rattle.pgql_lexemes.specs.declared.input.Stop.TheVariants as stop
use Rattle.pgql_tree.specs.Levels.{tighter}
use Rattle.pgql_expr.specs.Reading.{Refusal, unexpected, deep, Outcome, Parser, and_then, ◌>>=◌, ◌>>◌, pure, first, take_token, deeper, next_operator, joined, longer, more}
use Rattle.pgql_lexemes.specs.Reads.{Reads}

apart : (o : Outcome Found) (x : Found) (r : List Lexeme) (why : Refusal × List Lexeme) → o ≡ Ok (x, r) → o ≡ Err why → ⊥
apart o x r why e f = cc

then_assoc : {A B C : Type 0} (o : Outcome A) (f : A → Parser B) (g : B → Parser C) → and_then (and_then o f) g ≡ and_then o (λ x. f x >>= g)
then_assoc (Ok p) f g = refl
then_assoc (Err e) f g = refl

module _ (m : ℕ) (inner : Level → Parser Found) (level : Level) (at : ℕ) where
  -- the step, and then what goes on from it
  on_from : (left : Found) (op : Op) (f : Found → Parser Found) (ts : List Lexeme)
      → and_then (longer m inner level at left op ts) f ≡ (deeper m left.height >> (take_token >> (inner (tighter level) >>= λ right. f (joined m inner op at left right)))) ts
  unfolding longer
  on_from left op f ts = third (deeper m left.height ts)
    where
      first_part : (o : Outcome Found) → and_then (and_then o (λ right. pure (joined m inner op at left right))) f ≡ and_then o (λ right. f (joined m inner op at left right))
      first_part (Ok p) = refl
      first_part (Err e) = refl

      second : (o : Outcome Lexeme) → and_then (and_then o (λ _. inner (tighter level) >>= λ right. pure (joined m inner op at left right))) f
          ≡ and_then o (λ _. inner (tighter level) >>= λ right. f (joined m inner op at left right))
      second (Ok p) = first_part (inner (tighter level) p.1)
      second (Err e) = refl

      third : (o : Outcome (Unit {0})) → and_then (and_then o (λ _. take_token >> (inner (tighter level) >>= λ right. pure (joined m inner op at left right)))) f
          ≡ and_then o (λ _. take_token >> (inner (tighter level) >>= λ right. f (joined m inner op at left right)))
      third (Ok p) = second (take_token p.1)
      third (Err e) = refl

  pub stays : (n : ℕ) (left : Found) (ts : List Lexeme) → next_operator level (first ts) ≡ None → more m inner level at n left ts ≡ Ok (left, ts)
  unfolding more
  stays zero left [] e = refl
  stays (suc n) left [] e = refl
  stays zero left (t ∷ ts) e = rw e refl
  stays (suc n) left (t ∷ ts) e = rw e refl

  goes : (n : ℕ) (left : Found) (op : Op) (ts : List Lexeme) → next_operator level (first ts) ≡ Some op
      → more m inner level at (suc n) left ts ≡ and_then (longer m inner level at left op ts) (more m inner level at n)
  unfolding more
  goes n left op [] e = cc
  goes n left op (t ∷ ts) e = rw e (sym (on_from left op (more m inner level at n) (t ∷ ts)))

  lt_false : (h : ℕ) → m ≤ h → nat_lt h m ≡ false
  lt_false h le = grind (arith, nat_tests)

  ends : (left : Found) (op : Op) (ts : List Lexeme) → next_operator level (first ts) ≡ Some op → m ≤ left.height
      → (more m inner level at zero left ts ≡ Err (deep, ts)) × (longer m inner level at left op ts ≡ Err (deep, ts))
  unfolding more longer deeper
  ends left op [] e le = absurd cc
  ends left op (t ∷ ts) e le = (rw e refl, rw (lt_false left.height le) refl)

  pub goes_err : (n : ℕ) (left : Found) (op : Op) (ts : List Lexeme) (why : Refusal × List Lexeme) → m ≤ left.height + n → next_operator level (first ts) ≡ Some op
      → longer m inner level at left op ts ≡ Err why → more m inner level at n left ts ≡ Err why
  goes_err zero left op ts why le e s = let w = ends left op ts e (omega arith) in w.0 ∙ sym w.1 ∙ s
  goes_err (suc n) left op ts why le e s = goes n left op ts e ∙ ap (λ o. and_then o (more m inner level at n)) s

  pub goes_ok : (n : ℕ) (left x : Found) (op : Op) (ts r : List Lexeme) → m ≤ left.height + n → left.height < x.height → next_operator level (first ts) ≡ Some op
      → longer m inner level at left op ts ≡ Ok (x, r) → (n' : ℕ) × (m ≤ x.height + n') × (more m inner level at n left ts ≡ more m inner level at n' x r)
  goes_ok zero left x op ts r le lt e s = let w = ends left op ts e (omega arith) in absurd (apart (longer m inner level at left op ts) x r (deep, ts) s w.1)
  goes_ok (suc n) left x op ts r le lt e s = (n, omega arith, goes n left op ts e ∙ ap (λ o. and_then o (more m inner level at n)) s)

  -- where the step stops, the chain stops
  pub stops_there : (whole : Outcome Found) (n : ℕ) (left : Found) (op : Op) (ts new : List Lexeme) (why : Stop) → whole ≡ more m inner level at n left ts → m ≤ left.height + n
      → next_operator level (first ts) ≡ Some op → Reads {A = Found} (longer m inner level at left op ts) (Err why) new → Reads {A = Found} whole (Err why) new
  stops_there whole n left op ts new stop.Unexpected same le e s = same ∙ goes_err n left op ts (unexpected, new) le e s
  stops_there whole n left op ts new stop.Deep same le e s = same ∙ goes_err n left op ts (deep, new) le e s
  stops_there whole n left op ts new stop.NoMemory same le e s = tt

-- a number that is not 0 follows another
pub deeper_by_one : {A : Type 0} (f : ℕ → A) (n : ℕ) → 0 < n → f n ≡ f (suc (n - 1))
deeper_by_one f n lt = ap f (omega arith)
