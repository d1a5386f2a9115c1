-- The queries of a file have one answer: a text has one tree or one fault, and all else is a function.
use Rattle.std.proofs.Common.{◌≡◌, ◌≢◌, ◌+◌, ◌||◌, ℕ, Bool, List, [], ◌∷◌, length, map, Result, Ok, Err, refl, sym, ap, subst, ◌∙◌}
use Rattle.graph_tables.specs.Properties.{SchemaLists}
use Rattle.pgql_lexer.specs.Tokens.{Lexed, tokens}
use Rattle.pgql_lexemes.specs.Seen.{seen}
use Rattle.pgql_expr.specs.Reading.{Outcome, deep, unexpected}
use Rattle.pgql_syntax.specs.Answers.{Gives, answer, answer_of, answered}
use Rattle.pgql_syntax.specs.Places.{IsFault, IsTree}
use Rattle.pgql_syntax.specs.Queries.{read_whole}
use Rattle.pgql_syntax.specs.declared.tree.SyntaxFault.{SyntaxFault}
use Rattle.pgql_syntax.specs.declared.tree.SyntaxFault.TheVariants as syntax
use Rattle.pgql_syntax.proofs.Answered.{only_this, only_tree}
use Rattle.pgql_tree.specs.declared.ast.Ast.{Ast}
use Rattle.typed_expr.specs.Typed.{typed}
use Rattle.typed_expr.specs.declared.fault.TypeFault.{TypeFault}
use Rattle.typed_query.specs.declared.query.Query.{Query}
use Rattle.query_replies.specs.Laws.{AnswersAreOne}
use Rattle.query_replies.specs.Replies.{AreAnswers, Answering, IsAnswer, IsReading, Meaningful, Meaningless, Reading, Unread, is_refused, piece_of, text_of}

-- ---- a text has one tree or one fault

module _ (most base : ℕ) (text : List ℕ) where
  -- that memory ran out is no answer
  never_memory : answer most base text ≡ Err syntax.NoMemory → ⊥
  unfolding answer
  never_memory = by_tokens (tokens base text) where
    by_reading : (end : ℕ) (o : Outcome Ast) → answer_of end o ≡ Err syntax.NoMemory → ⊥
    by_reading end (Ok found) is = cc
    by_reading end (Err (unexpected, rest)) is = cc
    by_reading end (Err (deep, rest)) is = cc

    by_tokens : (o : Lexed) → answered most base text o ≡ Err syntax.NoMemory → ⊥
    by_tokens (Err e) is = cc
    by_tokens (Ok found) is = by_reading (base + length text) (read_whole most (map (seen text base) found)) is

  gives : (r : Result Ast SyntaxFault) → answer most base text ≡ r → Gives r (answer most base text)
  gives (Ok tree) is = is
  gives (Err e) is = λ other. is

  no_memory : (e : SyntaxFault) → answer most base text ≡ Err e → e ≢ syntax.NoMemory
  no_memory e is same = never_memory (is ∙ ap Err same)

  one_tree : (tree tree' : Ast) → IsTree most base text tree → IsTree most base text tree' → tree ≡ tree'
  one_tree tree tree' is is' = by (answer most base text) refl where
    by : (r : Result Ast SyntaxFault) → answer most base text ≡ r → tree ≡ tree'
    by (Ok found) told = sym (only_tree most base text (Ok found) (gives (Ok found) told) tree is) ∙ only_tree most base text (Ok found) (gives (Ok found) told) tree' is'
    by (Err e) told = absurd (no_memory e told (only_tree most base text (Err e) (gives (Err e) told) tree is))

  one_fault : (fault fault' : SyntaxFault) → IsFault most base text fault → IsFault most base text fault' → fault ≡ fault'
  one_fault fault fault' is is' = by (answer most base text) refl where
    by : (r : Result Ast SyntaxFault) → answer most base text ≡ r → fault ≡ fault'
    by (Ok found) told = absurd (only_this most base text (Ok found) (gives (Ok found) told) fault is)
    by (Err e) told =
        sym (only_this most base text (Err e) (gives (Err e) told) fault is (no_memory e told))
        ∙ only_this most base text (Err e) (gives (Err e) told) fault' is' (no_memory e told)

  not_both : (tree : Ast) (fault : SyntaxFault) → IsTree most base text tree → IsFault most base text fault → ⊥
  not_both tree fault is is' = by (answer most base text) refl where
    by : (r : Result Ast SyntaxFault) → answer most base text ≡ r → ⊥
    by (Ok found) told = only_this most base text (Ok found) (gives (Ok found) told) fault is'
    by (Err e) told = no_memory e told (only_tree most base text (Err e) (gives (Err e) told) tree is)

-- ---- a query's text comes to one thing

module _ (schema : SchemaLists) (base : ℕ) (text : List ℕ) (old : List (List ℕ)) where
  one_reading : (new new' : List (List ℕ)) (reading reading' : Reading) → IsReading schema base text old new reading → IsReading schema base text old new' reading'
      → (reading ≡ reading') × (new ≡ new')
  one_reading new new' (Unread e) (Unread e') is is' = (ap Unread (one_fault 64 base text e e' is.0 is'.0), is.1 ∙ sym is'.1)
  one_reading new new' (Unread e) (Meaningless tree e') is is' = absurd (not_both 64 base text tree e is'.0 is.0)
  one_reading new new' (Unread e) (Meaningful tree query) is is' = absurd (not_both 64 base text tree e is'.0 is.0)
  one_reading new new' (Meaningless tree e) (Unread e') is is' = absurd (not_both 64 base text tree e' is.0 is'.0)
  one_reading new new' (Meaningful tree query) (Unread e') is is' = absurd (not_both 64 base text tree e' is.0 is'.0)
  one_reading new new' (Meaningless tree e) (Meaningless tree' e') is is' =
      let same = one_tree 64 base text tree tree' is.0 is'.0 in
      let told : typed schema old tree ≡ Err e' = subst (λ t. typed schema old t ≡ Err e') (sym same) is'.1 in
      let faults : ◌≡◌ {A = Result (Query × List (List ℕ)) TypeFault} (Err e) (Err e') = sym is.1 ∙ told in
      let fault : e ≡ e' = cc in
      (ap (λ t. Meaningless t e) same ∙ ap (Meaningless tree') fault, is.2 ∙ sym is'.2)
  one_reading new new' (Meaningless tree e) (Meaningful tree' query) is is' =
      let same = one_tree 64 base text tree tree' is.0 is'.0 in
      let told : typed schema old tree ≡ Ok (query, new') = subst (λ t. typed schema old t ≡ Ok (query, new')) (sym same) is'.1 in
      absurd (cc (told, is.1))
  one_reading new new' (Meaningful tree query) (Meaningless tree' e) is is' =
      let same = one_tree 64 base text tree tree' is.0 is'.0 in
      let told : typed schema old tree ≡ Err e = subst (λ t. typed schema old t ≡ Err e) (sym same) is'.1 in
      absurd (cc (told, is.1))
  one_reading new new' (Meaningful tree query) (Meaningful tree' query') is is' =
      let same = one_tree 64 base text tree tree' is.0 is'.0 in
      let told : typed schema old tree ≡ Ok (query', new') = subst (λ t. typed schema old t ≡ Ok (query', new')) (sym same) is'.1 in
      let results : ◌≡◌ {A = Result (Query × List (List ℕ)) TypeFault} (Ok (query, new)) (Ok (query', new')) = sym is.1 ∙ told in
      let both : ◌≡◌ {A = Query × List (List ℕ)} (query, new) (query', new') = cc in
      (ap (λ t. Meaningful t query) same ∙ ap (λ (p : Query × List (List ℕ)). Meaningful tree' p.0) both, ap (λ (p : Query × List (List ℕ)). p.1) both)

  module _ (answering : Answering) (number : ℕ) where
    one_answer : (new new' : List (List ℕ)) (reply reply' : List ℕ) (refused refused' : Bool)
        → IsAnswer answering schema number base text old new reply refused → IsAnswer answering schema number base text old new' reply' refused'
        → (new ≡ new') × (reply ≡ reply') × (refused ≡ refused')
    one_answer new new' reply reply' refused refused' is is' =
        let one = one_reading new new' is.reading is'.reading is.is_reading is'.is_reading in
        let same : text_of answering new number is.reading ≡ text_of answering new' number is'.reading =
        ap (text_of answering new number) one.0 ∙ ap (λ texts. text_of answering texts number is'.reading) one.1 in
        (one.1, is.reply_is ∙ same ∙ sym is'.reply_is, is.refused_is ∙ ap is_refused one.0 ∙ sym is'.refused_is)

-- ---- query by query

pub answers_are_one : AnswersAreOne
answers_are_one answering schema file number [] old new new' [] [] refused refused' are are' = (are.0 ∙ sym are'.0, refl, are.1 ∙ sym are'.1)
answers_are_one answering schema file number [] old new new' (reply ∷ replies) replies' refused refused' are are' = absurd are
answers_are_one answering schema file number [] old new new' [] (reply ∷ replies) refused refused' are are' = absurd are'
answers_are_one answering schema file number (piece ∷ pieces) old new new' [] replies' refused refused' are are' = absurd are
answers_are_one answering schema file number (piece ∷ pieces) old new new' (reply ∷ replies) [] refused refused' are are' = absurd are'
answers_are_one answering schema file number (piece ∷ pieces) old new new' (reply ∷ replies) (reply' ∷ replies') refused refused' are are' =
    let first = one_answer schema piece.0 (piece_of file piece) old answering number are.0 are'.0 reply reply' are.1 are'.1 are.3 are'.3 in
    let later' = subst (λ texts. AreAnswers answering schema file (number + 1) pieces texts new' replies' are'.2) (sym first.0) are'.4 in
    let rest = answers_are_one answering schema file (number + 1) pieces are.0 new new' replies replies' are.2 are'.2 are.4 later' in
    (rest.0, ap (λ r. r ∷ replies) first.1 ∙ ap (λ rs. reply' ∷ rs) rest.1, are.5 ∙ ap (λ b. b || are.2) first.2 ∙ ap (λ b. are'.1 || b) rest.2 ∙ sym are'.5)
