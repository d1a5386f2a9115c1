use Rattle.std.proofs.Common.{◌≡◌, ◌+◌, Bool, ◌∷◌, ◌++◌, ◌||◌, [], ℕ, All, Global, List, Vec, length, map, refl, sym, subst, ap, arith, rules, ◌∙◌}
use Rattle.std.proofs.lemmas.Grind.{common_steps}
use Rattle.std.proofs.lemmas.List.{map-append}
use Rattle.std.proofs.lemmas.List.Elements.{All-tail}
use Rattle.graph_tables.specs.Graph.{PropertyGraph}
use Rattle.pgql_lexer.specs.Places.{LiesBetween}
use Rattle.query_replies.specs.Asked.{IsMeant, IsMeantOfSome, answering}
use Rattle.query_replies.specs.Replies.{AreAnswers, IsAnswer, piece_of}
use Rattle.query_replies.proofs.Growing.{meant_after, meant_of_some-after}
use Rattle.query_replies.proofs.Steps.{all_answered, one_more}
use Rattle.query_replies.proofs.answers.answer_queries.Goals as goal

pub loop-piece-preserved : goal.loop-piece-preserved
loop-piece-preserved c =
    let is : c.loop-piece.rest.now ≡ c.in-Some.piece.now ∷ c.in-Some.others.now = search rules in
    let bytes = λ (texts : List (Vec ℕ Global)). map (λ text. text.items) texts in
    let added : bytes c.push.new.self.items ≡ bytes c.loop-piece.found.items ++ c.in_ok-reply.reply.text.items ∷ []
    = ap bytes c.in_ok-push.ensures.items ∙ map-append (λ text. text.items) c.loop-piece.found.items (c.in_ok-reply.reply.text ∷ []) in
    let kept : c.reply_to_text.new.asked ≡ c.loop-piece.asked = c.reply_to_text.ensures.kept in
    let schema = c.args.schema.now in
    let asked = c.args.asked.now in
    let is_reply : (graph : PropertyGraph) → IsMeant c.args.texts.now schema graph asked
    → IsAnswer (answering graph asked) schema c.loop-piece.number c.in-Some.piece.now.0 (piece_of c.args.file.now c.in-Some.piece.now) c.loop-piece.texts c.reply_to_text.new.texts c.in_ok-reply.reply.text.items c.in_ok-reply.reply.refused
    = λ graph meant. rw (← c.piece_of-text.ensures.text, ← c.loop-piece.invariant.same) (c.in_ok-reply.ensures.reply graph (c.loop-piece.invariant.meant graph meant)) in
    let goes_on : (graph : PropertyGraph) → IsMeant c.args.texts.now schema graph asked → (new later : List (List ℕ)) (refused : Bool)
    → AreAnswers (answering graph asked) schema c.args.file.now (c.loop-piece.number + 1) c.in-Some.others.now c.reply_to_text.new.texts new later refused
    → AreAnswers (answering graph asked) schema c.args.file.now 1 c.args.pieces.now c.args.texts.now new ((bytes c.loop-piece.found.items ++ c.in_ok-reply.reply.text.items ∷ []) ++ later) ((c.loop-piece.one_refused || c.in_ok-reply.reply.refused) || refused)
    = λ graph meant. one_more (answering graph asked) schema c.args.file.now c.loop-piece.number c.in-Some.piece.now c.in-Some.others.now c.loop-piece.rest.now c.args.pieces.now
    c.args.texts.now c.loop-piece.texts c.reply_to_text.new.texts (bytes c.loop-piece.found.items) c.in_ok-reply.reply.text.items c.loop-piece.one_refused c.in_ok-reply.reply.refused
    is (is_reply graph meant) (c.loop-piece.invariant.goes_on graph meant) in
    record {
      goes_on = λ graph meant new later refused that.
          subst (λ found. AreAnswers (answering graph c.args.asked.now) schema c.args.file.now 1 c.args.pieces.now c.args.texts.now new (found ++ later) (c.either-one_refused.result || refused)) (sym added)
          (subst (λ one. AreAnswers (answering graph c.args.asked.now) schema c.args.file.now 1 c.args.pieces.now c.args.texts.now new ((bytes c.loop-piece.found.items ++ c.in_ok-reply.reply.text.items ∷ []) ++ later) (one || refused))
          (sym c.either-one_refused.ensures) (goes_on graph meant new later refused that));
      meant = λ graph meant. subst (λ asked. IsMeant c.reply_to_text.new.texts schema graph asked) (sym kept)
          (meant_after c.loop-piece.texts c.reply_to_text.new.texts schema graph c.loop-piece.asked c.in_ok-reply.ensures.numbers (c.loop-piece.invariant.meant graph meant));
      of_some = subst (λ asked. IsMeantOfSome c.reply_to_text.new.texts schema asked) (sym kept)
          (meant_of_some-after c.loop-piece.texts c.reply_to_text.new.texts schema c.loop-piece.asked c.in_ok-reply.ensures.numbers c.loop-piece.invariant.of_some);
      same = kept ∙ c.loop-piece.invariant.same;
      within = All-tail (LiesBetween 0 (length c.args.file.now)) c.in-Some.piece.now c.in-Some.others.now (subst (All (LiesBetween 0 (length c.args.file.now))) is c.loop-piece.invariant.within);
      counted = omega (arith, c.loop-piece.invariant.counted, ap length is);
    }

pub returns : goal.returns
returns c =
    let nothing : c.loop-piece.rest.now ≡ [] = grind (arith, common_steps) in
    λ graph meant.
    all_answered (answering graph c.args.asked.now) c.args.schema.now c.args.file.now c.loop-piece.number c.loop-piece.rest.now c.args.pieces.now c.args.texts.now c.loop-piece.texts (map (λ text. text.items) c.loop-piece.found.items)
    c.loop-piece.one_refused nothing (c.loop-piece.invariant.goes_on graph meant)
