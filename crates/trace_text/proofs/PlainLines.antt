-- Lines without control bytes, as they stand in a text: each is a line of it.
use Rattle.std.proofs.Common.{◌≡◌, ◌∙◌, ap, refl, arith, cond, ℕ, zero, suc, ◌+◌, ◌-◌, ◌<◌, ◌^◌, ◌==◌, ◌&&◌, Bool, true, false, List, [], ◌∷◌, ◌++◌, append_assoc, length, get_or, take, drop, position, Some, None}
use Rattle.std.specs.Prelude.{nat_le, nat_lt}
use Rattle.std.proofs.Math.Seq.{drop-append-add, take-append_seam}
use Rattle.std.proofs.lemmas.Bool.Decides.{nat_tests}
use Rattle.std.proofs.lemmas.Fmt.{digits_decimal}
use Rattle.std.proofs.lemmas.Grind.{common_steps}
use Rattle.std.proofs.lemmas.List.Folds.{list_all-append}
use Rattle.std.specs.Char.{is_ascii_digit}
use Rattle.std.specs.Fmt.{decimal}
use Rattle.std.specs.List.{AllByRecursion, list_all, position_or_len}
use Rattle.std.specs.Str.Lines.{lines, strip_carriage_return}
use Rattle.dfs_worker.specs.declared.event.Event.{Event}
use Rattle.dfs_worker.specs.declared.event.Event.TheVariants.{Claim, Retire, Advance, Descend, Append, Charge, Fetch, Post, Push, Pop, Pick, Restore, Discharge, Mark, Close}
use Rattle.text_lines.proofs.LineFacts.{lines_some}
use Rattle.trace_text.specs.EventLines.{IsEvent, event_line}
use Rattle.trace_text.specs.Headers.{with_feeds}
use Rattle.trace_text.proofs.Numerals.{both, own}

-- no byte is below 32
abbrev pub is_plain_line : List ℕ → Bool
is_plain_line line = list_all (λ b. nat_le 32 b) line

pub append-plain : (a b : List ℕ) → is_plain_line a ≡ true → is_plain_line b ≡ true → is_plain_line (a ++ b) ≡ true
append-plain a b first second = list_all-append (λ b. nat_le 32 b) a b ∙ ap (λ t. t && is_plain_line b) first ∙ second

digits-plain : (ds : List ℕ) → list_all is_ascii_digit ds ≡ true → is_plain_line ds ≡ true
digits-plain [] h = refl
digits-plain (d ∷ ds) h = let b = both (is_ascii_digit d) (list_all is_ascii_digit ds) h in grind (arith, nat_tests, b.0, digits-plain ds b.1)

pub decimal-plain : (n : ℕ) → n < 2 ^ 32 → is_plain_line (decimal n) ≡ true
decimal-plain n small = digits-plain (decimal n) (digits_decimal own n (omega (arith, small)))

pair-plain : (a b : ℕ) → a < 2 ^ 32 → b < 2 ^ 32 → is_plain_line (decimal a ++ 32 ∷ decimal b) ≡ true
pair-plain a b small less = append-plain (decimal a) (32 ∷ decimal b) (decimal-plain a small) (decimal-plain b less)

triple-plain : (a b c : ℕ) → a < 2 ^ 32 → b < 2 ^ 32 → c < 2 ^ 32 → is_plain_line (decimal a ++ 32 ∷ (decimal b ++ 32 ∷ decimal c)) ≡ true
triple-plain a b c small less low = append-plain (decimal a) (32 ∷ (decimal b ++ 32 ∷ decimal c)) (decimal-plain a small) (pair-plain b c less low)

pub event-plain : (event : Event) → IsEvent event → is_plain_line (event_line event) ≡ true
event-plain (Claim w) fits = decimal-plain w fits
event-plain (Retire w) fits = decimal-plain w fits
event-plain (Advance w) fits = decimal-plain w fits
event-plain (Descend w) fits = decimal-plain w fits
event-plain (Append w) fits = decimal-plain w fits
event-plain (Charge w) fits = decimal-plain w fits
event-plain (Fetch w) fits = decimal-plain w fits
event-plain (Post w stage to) fits = triple-plain w stage to fits.0 fits.1 fits.2
event-plain (Push w) fits = decimal-plain w fits
event-plain (Pop w stage) fits = pair-plain w stage fits.0 fits.1
event-plain (Pick w) fits = decimal-plain w fits
event-plain (Restore w) fits = decimal-plain w fits
event-plain (Discharge w) fits = decimal-plain w fits
event-plain (Mark w a b) fits = triple-plain w a b fits.0 fits.1 fits.2
event-plain (Close w) fits = decimal-plain w fits

-- ---- a line in its text
first-feed : (line rest : List ℕ) → is_plain_line line ≡ true → position_or_len (λ b. b == 10) (line ++ 10 ∷ rest) ≡ length line
first-feed [] rest plain = refl
first-feed (c ∷ cs) rest plain =
    let b = both (nat_le 32 c) (is_plain_line cs) plain in
    let other : (c == 10) ≡ false = let low = b.0 in grind (arith, nat_tests, low) in
    grind (arith, nat_tests, common_steps, other, first-feed cs rest b.1)

feed-found : (line rest : List ℕ) → is_plain_line line ≡ true → position (λ b. b == 10) (line ++ 10 ∷ rest) ≡ Some (length line)
feed-found line rest plain =
    let text = line ++ 10 ∷ rest in
    let at = first-feed line rest plain in
    let less : position_or_len (λ b. b == 10) text < length text = grind (arith, common_steps, at) in
    let within : nat_lt (position_or_len (λ b. b == 10) text) (length text) ≡ true = grind (arith, nat_tests, less) in
    ap (λ b. cond b (Some (position_or_len (λ b. b == 10) text)) None) within ∙ ap (λ n. Some n) at

last-plain : (line : List ℕ) (i : ℕ) → is_plain_line line ≡ true → (get_or line i 0 == 13) ≡ false
last-plain [] i plain = refl
last-plain (c ∷ cs) zero plain = let b = both (nat_le 32 c) (is_plain_line cs) plain in let low = b.0 in grind (arith, nat_tests, low)
last-plain (c ∷ cs) (suc i) plain = last-plain cs i (both (nat_le 32 c) (is_plain_line cs) plain).1

no-return : (line : List ℕ) → is_plain_line line ≡ true → strip_carriage_return line ≡ line
no-return line plain = ap (λ b. cond b (take (length line - 1) line) line) (last-plain line (length line - 1) plain)

pub line-of-text : (line rest : List ℕ) → is_plain_line line ≡ true → lines (line ++ 10 ∷ rest) ≡ line ∷ lines rest
line-of-text line rest plain =
    let text = line ++ 10 ∷ rest in
    let front : take (length line) text ≡ line = take-append_seam line (10 ∷ rest) in
    let back : drop (length line + 1) text ≡ rest = drop-append-add line (10 ∷ rest) 1 in
    lines_some text (length line) (feed-found line rest plain)
    ∙ ap (λ t. strip_carriage_return t ∷ lines (drop (length line + 1) text)) front
    ∙ ap (λ t. t ∷ lines (drop (length line + 1) text)) (no-return line plain)
    ∙ ap (λ t. line ∷ lines t) back

abbrev pub ArePlain : List (List ℕ) → Type 0
ArePlain all = AllByRecursion (λ line. is_plain_line line ≡ true) all

-- what was written line by line is read so
pub lines-of-text : (all : List (List ℕ)) (rest : List ℕ) → ArePlain all → lines (with_feeds all ++ rest) ≡ all ++ lines rest
lines-of-text [] rest plain = refl
lines-of-text (line ∷ all) rest plain =
    ap lines (append_assoc line (10 ∷ with_feeds all) rest) ∙ line-of-text line (with_feeds all ++ rest) plain.0
    ∙ ap (λ lines. line ∷ lines) (lines-of-text all rest plain.1)
