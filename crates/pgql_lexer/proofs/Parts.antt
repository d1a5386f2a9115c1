-- The pieces of a file, read mark by mark.
use Rattle.std.proofs.Common.{◌≡◌, ◌≤◌, ◌<◌, ℕ, zero, suc, ◌+◌, ◌-◌, Bool, true, false, List, [], ◌∷◌, ◌++◌, take, drop, length, length-drop, refl, sym, ap, subst, ◌∙◌, append_assoc, arith}
use Rattle.std.specs.List.{list_any}
use Rattle.std.proofs.Math.Bool.{or-true}
use Rattle.std.proofs.Math.Bool.{or-false}
use Rattle.std.proofs.lemmas.List.{append-nil, length-append}
use Rattle.std.proofs.lemmas.List.Folds.{list_any-append}
use Rattle.pgql_lexer.specs.declared.pieces.Mark.{Mark}
use Rattle.pgql_lexer.specs.declared.pieces.Mark.TheVariants as mark
use Rattle.pgql_lexer.specs.declared.pieces.Part.{Part}
use Rattle.pgql_lexer.specs.Fronts.{Bytes}
use Rattle.pgql_lexer.specs.Parts.{part_after, ended_by}
use Rattle.pgql_lexer.specs.Pieces.{marked_front, marks_from, marks, onto_first, parts, is_matter, kept, placed, pieces}
use Rattle.pgql_lexer.specs.Places.{StandBetween}
use Rattle.pgql_lexer.proofs.Between.{StandBetween-widen, StandBetween-push}
use Rattle.pgql_lexer.proofs.Steps.{drop-one, place-step, take-drop_rest}

-- the pieces from a part on that was begun, whose further marks are these
abbrev pub pieces_on : ℕ → ℕ → Bool → List Mark → List (ℕ × ℕ)
pieces_on start end is_query [] = kept start end is_query
pieces_on start end is_query (mark.Blank ∷ marks) = pieces_on start (end + 1) is_query marks
pieces_on start end is_query (mark.Matter ∷ marks) = pieces_on start (end + 1) true marks
pieces_on start end is_query (mark.End ∷ marks) = kept start end is_query ++ pieces_on (end + 1) (end + 1) false marks

-- the parts, the first of them after these marks
abbrev onto : List Mark → List (List Mark) → List (List Mark)
onto front [] = front ∷ []
onto front (part ∷ parts) = (front ++ part) ∷ parts

onto-nil_first : (mark : Mark) (parts : List (List Mark)) → onto [] (onto_first mark parts) ≡ onto_first mark parts
onto-nil_first mark [] = refl
onto-nil_first mark (part ∷ parts) = refl

onto-nil : (marks : List Mark) → onto [] (parts marks) ≡ parts marks
onto-nil [] = refl
onto-nil (mark.Blank ∷ marks) = onto-nil_first mark.Blank (parts marks)
onto-nil (mark.Matter ∷ marks) = onto-nil_first mark.Matter (parts marks)
onto-nil (mark.End ∷ marks) = refl

onto-onto_first : (front : List Mark) (mark : Mark) (parts : List (List Mark)) → onto front (onto_first mark parts) ≡ onto (front ++ mark ∷ []) parts
onto-onto_first front mark [] = refl
onto-onto_first front mark (part ∷ parts) = ap (λ first. first ∷ parts) (sym (append_assoc front (mark ∷ []) part))

length-push : (front : List Mark) (mark : Mark) → length (front ++ mark ∷ []) ≡ length front + 1
length-push front mark = length-append front (mark ∷ [])

pieces_on-placed : (start : ℕ) (front marks : List Mark) → pieces_on start (start + length front) (list_any is_matter front) marks ≡ placed start (onto front (parts marks))
pieces_on-placed start front [] =
    ap (λ part. kept start (start + length part) (list_any is_matter part)) (sym (append-nil front))
    ∙ sym (append-nil (kept start (start + length (front ++ [])) (list_any is_matter (front ++ []))))
pieces_on-placed start front (mark.Blank ∷ marks) =
    let place : (start + length front) + 1 ≡ start + length (front ++ mark.Blank ∷ []) = omega (arith, length-push front mark.Blank) in
    let same : list_any is_matter front ≡ list_any is_matter (front ++ mark.Blank ∷ []) = sym (list_any-append is_matter front (mark.Blank ∷ []) ∙ or-false (list_any is_matter front)) in
    ap (λ end. pieces_on start end (list_any is_matter front) marks) place
    ∙ ap (λ is_query. pieces_on start (start + length (front ++ mark.Blank ∷ [])) is_query marks) same
    ∙ pieces_on-placed start (front ++ mark.Blank ∷ []) marks
    ∙ ap (placed start) (sym (onto-onto_first front mark.Blank (parts marks)))
pieces_on-placed start front (mark.Matter ∷ marks) =
    let place : (start + length front) + 1 ≡ start + length (front ++ mark.Matter ∷ []) = omega (arith, length-push front mark.Matter) in
    let same : true ≡ list_any is_matter (front ++ mark.Matter ∷ []) = sym (list_any-append is_matter front (mark.Matter ∷ []) ∙ or-true (list_any is_matter front)) in
    ap (λ end. pieces_on start end true marks) place
    ∙ ap (λ is_query. pieces_on start (start + length (front ++ mark.Matter ∷ [])) is_query marks) same
    ∙ pieces_on-placed start (front ++ mark.Matter ∷ []) marks
    ∙ ap (placed start) (sym (onto-onto_first front mark.Matter (parts marks)))
pieces_on-placed start front (mark.End ∷ marks) =
    let next = (start + length front) + 1 in
    let here : next ≡ next + 0 = omega arith in
    ap (λ rest. kept start (start + length front) (list_any is_matter front) ++ rest)
    (ap (λ end. pieces_on next end false marks) here ∙ pieces_on-placed next [] marks ∙ ap (placed next) (onto-nil marks))
    ∙ ap (λ part. kept start (start + length part) (list_any is_matter part) ++ placed (start + length part + 1) (parts marks)) (sym (append-nil front))

-- none is found at first
pub pieces-start : (text : Bytes) (none : List (ℕ × ℕ)) → none ≡ [] → pieces text ≡ none ++ pieces_on 0 0 false (marks_from mark.Blank 0 text)
unfolding pieces
pieces-start text none same =
    sym (ap (λ found. found ++ pieces_on 0 0 false (marks text)) same ∙ pieces_on-placed 0 [] (marks text) ∙ ap (placed 0) (onto-nil (marks text)))

marks_from-front : (text : Bytes) → 0 < length text → marks_from mark.Blank 0 text ≡ (marked_front text).0 ∷ marks_from (marked_front text).0 ((marked_front text).1 - 1) (drop 1 text)
marks_from-front [] some = absurd (omega arith)
marks_from-front (byte ∷ text) some = refl

marks_from-any : (any : Mark) (text : Bytes) → marks_from any 0 text ≡ marks_from mark.Blank 0 text
marks_from-any any [] = refl
marks_from-any any (byte ∷ text) = refl

pieces_on-blank : (start end count : ℕ) (is_query : Bool) (text : Bytes) → count ≤ length text
    → pieces_on start end is_query (marks_from mark.Blank count text) ≡ pieces_on start (end + count) is_query (marks_from mark.Blank 0 (drop count text))
pieces_on-blank start end zero is_query text within = let same : end ≡ end + 0 = omega arith in ap (λ end. pieces_on start end is_query (marks_from mark.Blank 0 text)) same
pieces_on-blank start end (suc count) is_query [] within = absurd (omega arith)
pieces_on-blank start end (suc count) is_query (byte ∷ text) within =
    let same : (end + 1) + count ≡ end + suc count = omega arith in
    pieces_on-blank start (end + 1) count is_query text (omega arith) ∙ ap (λ end. pieces_on start end is_query (marks_from mark.Blank 0 (drop count text))) same

pieces_on-matter : (start end count : ℕ) (text : Bytes) → count ≤ length text
    → pieces_on start end true (marks_from mark.Matter count text) ≡ pieces_on start (end + count) true (marks_from mark.Blank 0 (drop count text))
pieces_on-matter start end zero text within =
    let same : end ≡ end + 0 = omega arith in
    ap (pieces_on start end true) (marks_from-any mark.Matter text) ∙ ap (λ end. pieces_on start end true (marks_from mark.Blank 0 text)) same
pieces_on-matter start end (suc count) [] within = absurd (omega arith)
pieces_on-matter start end (suc count) (byte ∷ text) within =
    let same : (end + 1) + count ≡ end + suc count = omega arith in
    pieces_on-matter start (end + 1) count text (omega arith) ∙ ap (λ end. pieces_on start end true (marks_from mark.Blank 0 (drop count text))) same

-- the pieces from a part on
abbrev pub part_on : Part → List Mark → List (ℕ × ℕ)
part_on part marks = pieces_on part.start part.end part.is_query marks

part_on-step : (front : Mark) (count : ℕ) (part : Part) (text : Bytes) → 1 ≤ count → count ≤ length text → (front ≡ mark.End → count ≡ 1)
    → part_on part (front ∷ marks_from front (count - 1) (drop 1 text)) ≡ ended_by front part ++ part_on (part_after front count part) (marks_from mark.Blank 0 (drop count text))
part_on-step mark.Blank count part text some within single =
    let place : (part.end + 1) + (count - 1) ≡ part.end + count = omega arith in
    pieces_on-blank part.start (part.end + 1) (count - 1) part.is_query (drop 1 text) (omega (arith, length-drop 1 text))
    ∙ ap (λ end. pieces_on part.start end part.is_query (marks_from mark.Blank 0 (drop (count - 1) (drop 1 text)))) place
    ∙ ap (λ rest. pieces_on part.start (part.end + count) part.is_query (marks_from mark.Blank 0 rest)) (drop-one count text some)
part_on-step mark.Matter count part text some within single =
    let place : (part.end + 1) + (count - 1) ≡ part.end + count = omega arith in
    pieces_on-matter part.start (part.end + 1) (count - 1) (drop 1 text) (omega (arith, length-drop 1 text))
    ∙ ap (λ end. pieces_on part.start end true (marks_from mark.Blank 0 (drop (count - 1) (drop 1 text)))) place
    ∙ ap (λ rest. pieces_on part.start (part.end + count) true (marks_from mark.Blank 0 rest)) (drop-one count text some)
part_on-step mark.End count part text some within single =
    let one : count ≡ 1 = single refl in
    ap (λ rest. kept part.start part.end part.is_query ++ rest)
    (ap (λ n. pieces_on (part.end + 1) (part.end + 1) false (marks_from mark.End (n - 1) (drop 1 text))) one
    ∙ ap (pieces_on (part.end + 1) (part.end + 1) false) (marks_from-any mark.End (drop 1 text))
    ∙ ap (λ n. pieces_on (part.end + n) (part.end + n) false (marks_from mark.Blank 0 (drop n text))) (sym one))

-- the pieces found so far, and those from the part on that is read after the next front
pub pieces-step : (whole old new : List (ℕ × ℕ)) (front : Mark × ℕ) (part next : Part) (text : Bytes) → 0 < length text
    → whole ≡ old ++ part_on part (marks_from mark.Blank 0 text) → front ≡ marked_front text → 1 ≤ front.1 → front.1 ≤ length text → (front.0 ≡ mark.End → front.1 ≡ 1)
    → new ≡ old ++ ended_by front.0 part → next ≡ part_after front.0 front.1 part
    → whole ≡ new ++ part_on next (marks_from mark.Blank 0 (take (length text - front.1) (drop front.1 text)))
pieces-step whole old new front part next text some so_far is moves within single found read =
    so_far
    ∙ ap (λ marks. old ++ part_on part marks) (marks_from-front text some ∙ ap (λ f. f.0 ∷ marks_from f.0 (f.1 - 1) (drop 1 text)) (sym is))
    ∙ ap (λ rest. old ++ rest) (part_on-step front.0 front.1 part text moves within single)
    ∙ sym (append_assoc old (ended_by front.0 part) (part_on (part_after front.0 front.1 part) (marks_from mark.Blank 0 (drop front.1 text))))
    ∙ ap (λ items. items ++ part_on (part_after front.0 front.1 part) (marks_from mark.Blank 0 (drop front.1 text))) (sym found)
    ∙ ap (λ p. new ++ part_on p (marks_from mark.Blank 0 (drop front.1 text))) (sym read)
    ∙ ap (λ rest. new ++ part_on next (marks_from mark.Blank 0 rest)) (sym (take-drop_rest front.1 text))

-- What is known of a part that is being read, before which these pieces were found.
pub record IsBegun (found : List (ℕ × ℕ)) (part : Part) : Type 0 where
  pub pieces_before : StandBetween 0 part.start found
  pub goes_on : part.start ≤ part.end
  pub some_matter : part.is_query ≡ true → part.start < part.end

StandBetween-kept : (from start end : ℕ) (found : List (ℕ × ℕ)) (is_query : Bool) → StandBetween from start found → start ≤ end → (is_query ≡ true → start < end)
    → StandBetween from end (found ++ kept start end is_query)
StandBetween-kept from start end found false before on some = subst (StandBetween from end) (sym (append-nil found)) (StandBetween-widen from start end found on before)
StandBetween-kept from start end found true before on some = StandBetween-push from start end found (start, end) before (omega arith) (some refl) (omega arith)

IsBegun-after : (mark : Mark) (count : ℕ) (found : List (ℕ × ℕ)) (part : Part) → 1 ≤ count → IsBegun found part → IsBegun (found ++ ended_by mark part) (part_after mark count part)
IsBegun-after mark.Blank count found part some begun = record {
  pieces_before = subst (StandBetween 0 part.start) (sym (append-nil found)) begun.pieces_before;
  goes_on = let on = begun.goes_on in omega arith;
  some_matter = λ is. let matter = begun.some_matter is in omega arith;
}
IsBegun-after mark.Matter count found part some begun = record {
  pieces_before = subst (StandBetween 0 part.start) (sym (append-nil found)) begun.pieces_before;
  goes_on = let on = begun.goes_on in omega arith;
  some_matter = λ is. let on = begun.goes_on in omega arith;
}
IsBegun-after mark.End count found part some begun = record {
  pieces_before = StandBetween-widen 0 part.end (part.end + count) (found ++ kept part.start part.end part.is_query) (omega arith)
      (StandBetween-kept 0 part.start part.end found part.is_query begun.pieces_before begun.goes_on begun.some_matter);
  goes_on = omega arith;
  some_matter = λ is. absurd cc;
}

pub IsBegun-step : (old new : List (ℕ × ℕ)) (mark : Mark) (count : ℕ) (part next : Part) → 1 ≤ count → IsBegun old part → new ≡ old ++ ended_by mark part → next ≡ part_after mark count part → IsBegun new next
IsBegun-step old new mark count part next some begun found read = rw (found, read) (IsBegun-after mark count old part some begun)

pub StandBetween-last : (size : ℕ) (old new : List (ℕ × ℕ)) (part : Part) → IsBegun old part → part.end ≤ size → new ≡ old ++ kept part.start part.end part.is_query → StandBetween 0 size new
StandBetween-last size old new part begun within found =
    rw found (StandBetween-widen 0 part.end size (old ++ kept part.start part.end part.is_query) within
    (StandBetween-kept 0 part.start part.end old part.is_query begun.pieces_before begun.goes_on begun.some_matter))

end-part_after : (mark : Mark) (count : ℕ) (part : Part) → (part_after mark count part).end ≡ part.end + count
end-part_after mark.Blank count part = refl
end-part_after mark.Matter count part = refl
end-part_after mark.End count part = refl

pub end-step : (mark : Mark) (count size : ℕ) (part next : Part) (text : Bytes) → next ≡ part_after mark count part → part.end + length text ≡ size → count ≤ length text
    → next.end + length (take (length text - count) (drop count text)) ≡ size
end-step mark count size part next text read so_far within =
    rw (ap (λ p. p.end) read ∙ end-part_after mark count part) (place-step part.end count size text so_far within)

pub IsBegun-start : (none : List (ℕ × ℕ)) → none ≡ [] → IsBegun none (record { start = 0; end = 0; is_query = false })
IsBegun-start none same = record { pieces_before = rw same (omega arith); goes_on = omega arith; some_matter = λ is. absurd cc }
