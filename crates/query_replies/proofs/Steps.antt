-- A reply from what the text of its query came to.
use Rattle.std.proofs.Common.{◌≡◌, ◌≢◌, ℕ, ◌+◌, ◌||◌, Bool, true, false, List, [], ◌∷◌, ◌++◌, Result, Ok, Err, IfOk, OnOk, refl, sym, ap, subst, ◌∙◌, append-nil, append_assoc}
use Rattle.graph_tables.specs.Properties.{SchemaLists}
use Rattle.pgql_syntax.specs.Places.{IsFault, IsTree}
use Rattle.pgql_syntax.specs.declared.tree.SyntaxFault.{SyntaxFault}
use Rattle.pgql_tree.specs.declared.ast.Ast.{Ast}
use Rattle.result_collect.specs.Refusals.{refusal_text}
use Rattle.result_collect.specs.declared.refusal.Refusal.{Refusal}
use Rattle.typed_expr.specs.Typed.{Gives, typed}
use Rattle.typed_expr.specs.declared.fault.TypeFault.{TypeFault}
use Rattle.typed_expr.specs.declared.fault.TypeFault.TheVariants as typing
use Rattle.query_replies.specs.Faults.{refusal_of_syntax, refusal_of_typing}
use Rattle.query_replies.specs.Replies.{AreAnswers, Answering, IsAnswer, Meaningless, Unread, piece_of}

-- what holds anyhow
pub on_ok : {X E : Type 0} (result : Result X E) (P : Type 0) → P → OnOk result P
on_ok (Ok x) P holds = holds
on_ok (Err e) P holds = tt

pub on_ok_so : {X E : Type 0} (result : Result X E) (P Q : Type 0) → (P → Q) → OnOk result P → OnOk result Q
on_ok_so (Ok x) P Q leads holds = leads holds
on_ok_so (Err e) P Q leads holds = tt

-- a fault that is told leaves the texts as they were
pub faulty : (schema : SchemaLists) (old new : List (List ℕ)) (tree : Ast) (e : TypeFault) → e ≢ typing.NoMemory → Gives old new (Err e) (typed schema old tree) → (typed schema old tree ≡ Err e) × (new ≡ old)
faulty schema old new tree (typing.UnknownName at) other gives = gives
faulty schema old new tree (typing.UnknownProperty at) other gives = gives
faulty schema old new tree (typing.KindMismatch at) other gives = gives
faulty schema old new tree (typing.DoubleName at) other gives = gives
faulty schema old new tree (typing.TooManyVariables at) other gives = gives
faulty schema old new tree (typing.Disconnected at) other gives = gives
faulty schema old new tree (typing.VariableKind at) other gives = gives
faulty schema old new tree (typing.KeyNotSelected at) other gives = gives
faulty schema old new tree (typing.BadDate at) other gives = gives
faulty schema old new tree typing.NoMemory other gives = absurd (other refl)

module _ (answering : Answering) (schema : SchemaLists) (number base : ℕ) (text : List ℕ) where
  -- the fault of a tree, unless memory ran out
  pub of_tree : (old new : List (List ℕ)) (tree : Ast) (e : TypeFault) (refusal : Refusal) (reply : List ℕ) (refused : Bool) → IsTree 64 base text tree → e ≢ typing.NoMemory
      → Gives old new (Err e) (typed schema old tree) → refusal ≡ refusal_of_typing e → reply ≡ refusal_text number refusal → refused ≡ true
      → IsAnswer answering schema number base text old new reply refused
  of_tree old new tree e refusal reply refused is_tree other gives is_refusal is_reply is_refused =
      let told = faulty schema old new tree e other gives in
      record { reading = Meaningless tree e; is_reading = (is_tree, told.0, told.1); reply_is = is_reply ∙ ap (refusal_text number) is_refusal; refused_is = is_refused }

  pub of_text : (old : List (List ℕ)) (e : SyntaxFault) (refusal : Refusal) (reply : List ℕ) (refused : Bool) → IsFault 64 base text e
      → refusal ≡ refusal_of_syntax e → reply ≡ refusal_text number refusal → refused ≡ true → IsAnswer answering schema number base text old old reply refused
  of_text old e refusal reply refused is_fault is_refusal is_reply is_refused =
      record { reading = Unread e; is_reading = (is_fault, refl); reply_is = is_reply ∙ ap (refusal_text number) is_refusal; refused_is = is_refused }

-- ---- query by query

or_assoc : (a b c : Bool) → (a || (b || c)) ≡ ((a || b) || c)
or_assoc true b c = refl
or_assoc false b c = refl

-- one query more was answered
pub one_more : (answering : Answering) (schema : SchemaLists) (file : List ℕ) (number : ℕ) (piece : ℕ × ℕ) (others rest pieces : List (ℕ × ℕ)) (first now next found : List (List ℕ)) (reply : List ℕ) (one here : Bool)
    → rest ≡ piece ∷ others → IsAnswer answering schema number piece.0 (piece_of file piece) now next reply here
    → ((new later : List (List ℕ)) (refused : Bool) → AreAnswers answering schema file number rest now new later refused → AreAnswers answering schema file 1 pieces first new (found ++ later) (one || refused))
    → (new later : List (List ℕ)) (refused : Bool) → AreAnswers answering schema file (number + 1) others next new later refused
    → AreAnswers answering schema file 1 pieces first new ((found ++ reply ∷ []) ++ later) ((one || here) || refused)
one_more answering schema file number piece others rest pieces first now next found reply one here is is_reply goes_on new later refused that =
    let step : AreAnswers answering schema file number (piece ∷ others) now new (reply ∷ later) (here || refused) = (next, here, refused, is_reply, that, refl) in
    let whole = goes_on new (reply ∷ later) (here || refused) (subst (λ ps. AreAnswers answering schema file number ps now new (reply ∷ later) (here || refused)) (sym is) step) in
    subst (λ replies. AreAnswers answering schema file 1 pieces first new replies ((one || here) || refused)) (sym (append_assoc found (reply ∷ []) later))
    (subst (λ r. AreAnswers answering schema file 1 pieces first new (found ++ reply ∷ later) r) (or_assoc one here refused) whole)

-- all were answered
pub all_answered : (answering : Answering) (schema : SchemaLists) (file : List ℕ) (number : ℕ) (rest pieces : List (ℕ × ℕ)) (first now found : List (List ℕ)) (one : Bool) → rest ≡ []
    → ((new later : List (List ℕ)) (refused : Bool) → AreAnswers answering schema file number rest now new later refused → AreAnswers answering schema file 1 pieces first new (found ++ later) (one || refused))
    → AreAnswers answering schema file 1 pieces first now found one
all_answered answering schema file number rest pieces first now found one is goes_on =
    let whole = goes_on now [] false (subst (λ ps. AreAnswers answering schema file number ps now now [] false) (sym is) (refl, refl)) in
    subst (λ replies. AreAnswers answering schema file 1 pieces first now replies one) (append-nil found) (subst (λ r. AreAnswers answering schema file 1 pieces first now (found ++ []) r) (or_false one) whole) where
      or_false : (a : Bool) → (a || false) ≡ a
      or_false true = refl
      or_false false = refl
