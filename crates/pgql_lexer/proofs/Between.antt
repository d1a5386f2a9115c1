-- Stretches in order: one more, more room, and each of them by itself.
use Rattle.std.proofs.Common.{◌≡◌, ◌≤◌, ◌<◌, ℕ, List, [], ◌∷◌, ◌++◌, map, All, sym, subst, arith}
use Rattle.std.proofs.lemmas.List.{map-append}
use Rattle.std.proofs.lemmas.List.Elements.{All-nil, All-cons}
use Rattle.pgql_lexer.specs.declared.token.Token.{Token}
use Rattle.pgql_lexer.specs.Places.{StandBetween, LiesBetween}
use Rattle.pgql_lexer.specs.Tokens.{stretch_of, TokensBetween, TokenBetween}

pub StandBetween-widen : (from to more : ℕ) (stretches : List (ℕ × ℕ)) → to ≤ more → StandBetween from to stretches → StandBetween from more stretches
StandBetween-widen from to more [] wider stand = omega arith
StandBetween-widen from to more (stretch ∷ stretches) wider stand = (stand.0, stand.1, StandBetween-widen stretch.1 to more stretches wider stand.2)

StandBetween-within : (from to : ℕ) (stretches : List (ℕ × ℕ)) → StandBetween from to stretches → from ≤ to
StandBetween-within from to [] stand = stand
StandBetween-within from to (stretch ∷ stretches) stand = let rest = StandBetween-within stretch.1 to stretches stand.2 in omega arith

pub StandBetween-push : (from place to : ℕ) (stretches : List (ℕ × ℕ)) (last : ℕ × ℕ) → StandBetween from place stretches → place ≤ last.0 → last.0 < last.1 → last.1 ≤ to → StandBetween from to (stretches ++ last ∷ [])
StandBetween-push from place to [] last stand after some within = (let le : from ≤ last.0 = omega arith in le, some, within)
StandBetween-push from place to (stretch ∷ stretches) last stand after some within = (stand.0, stand.1, StandBetween-push stretch.1 place to stretches last stand.2 after some within)

LiesBetween-earlier : (from later to : ℕ) (stretch : ℕ × ℕ) → from ≤ later → LiesBetween later to stretch → LiesBetween from to stretch
LiesBetween-earlier from later to stretch earlier lies = (let le : from ≤ stretch.0 = omega arith in le, lies.1, lies.2)

pub LiesBetween-StandBetween : (from to : ℕ) (stretches : List (ℕ × ℕ)) → StandBetween from to stretches → All (LiesBetween from to) stretches
LiesBetween-StandBetween from to [] stand = All-nil (LiesBetween from to)
LiesBetween-StandBetween from to (stretch ∷ stretches) stand =
    All-cons (LiesBetween from to) stretch stretches
    (stand.0, stand.1, StandBetween-within stretch.1 to stretches stand.2)
    (λ k d below. LiesBetween-earlier from stretch.1 to _ (omega arith) (LiesBetween-StandBetween stretch.1 to stretches stand.2 k d below))

pub TokensBetween-push : (from place to : ℕ) (tokens all : List Token) (last : Token) → all ≡ tokens ++ last ∷ [] → TokensBetween from place tokens → place ≤ last.at → last.at < last.end → last.end ≤ to → TokensBetween from to all
TokensBetween-push from place to tokens all last same stand after some within =
    subst (TokensBetween from to) (sym same)
    (subst (StandBetween from to) (sym (map-append stretch_of tokens (last ∷ []))) (StandBetween-push from place to (map stretch_of tokens) (stretch_of last) stand after some within))

pub TokenBetween-TokensBetween : (from to : ℕ) (tokens : List Token) → TokensBetween from to tokens → All (TokenBetween from to) tokens
TokenBetween-TokensBetween from to [] stand = All-nil (TokenBetween from to)
TokenBetween-TokensBetween from to (token ∷ tokens) stand =
    All-cons (TokenBetween from to) token tokens
    (stand.0, stand.1, StandBetween-within token.end to (map stretch_of tokens) stand.2)
    (λ k d below. LiesBetween-earlier from token.end to _ (omega arith) (TokenBetween-TokensBetween token.end to tokens stand.2 k d below))
