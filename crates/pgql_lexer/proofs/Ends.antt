-- Where a comment and a literal end.
use Rattle.std.proofs.Common.{◌≡◌, ◌<◌, ℕ, zero, suc, ◌+◌, Bool, true, false, not, [], ◌∷◌, ◌++◌, length, Option, Some, None, refl, sym, ap, ◌∙◌, arith}
use Rattle.std.specs.Prelude.{◌&&◌, slice_index, if◌then◌else◌}
use Rattle.std.proofs.lemmas.Bool.Decides.{nat_tests}
use Rattle.pgql_lexer.specs.Fronts.{Bytes, is_quote, closes_comment, comment_end, literal_end}
use Rattle.pgql_lexer.specs.Laws.{ClosesAt, IsFirstClose, CommentsEndAtTheFirstClose, IsContent, nothing, plain, doubled, IsClosed, LiteralsEndAtTheFirstLoneQuote}

clash : (b : Bool) → b ≡ true → b ≡ false → ⊥
clash b x y = cc

some_of : ℕ → Option ℕ → ℕ
some_of n None = n
some_of n (Some end) = end

same_end : (a b : ℕ) → Some a ≡ Some b → a ≡ b
unfolding some_of
same_end a b e = ap (some_of a) e

-- ---- comments

abbrev closes_at : Bytes → ℕ → Bool
closes_at content place = closes_comment (slice_index content place) (slice_index content (place + 1))

next_closes : (byte : ℕ) (bytes : Bytes) (n : ℕ) → closes_at (byte ∷ bytes) (suc n) ≡ closes_at bytes n
next_closes byte bytes n = let next : suc n + 1 ≡ suc (n + 1) = omega arith in ap (λ k. closes_comment (slice_index bytes n) (slice_index (byte ∷ bytes) k)) next

none_closes : (n : ℕ) → closes_at [] n ≡ true → ⊥
none_closes n e = cc

-- the first close of the bytes after one that doesn't begin a close
pushed : (byte : ℕ) (bytes : Bytes) (n : ℕ) → closes_at (byte ∷ bytes) 0 ≡ false → IsFirstClose bytes n → IsFirstClose (byte ∷ bytes) (suc n)
pushed byte bytes n isnt f = record { closes = next_closes byte bytes n ∙ f.closes; first = none_earlier }
  where
    none_earlier : (earlier : ℕ) → earlier < suc n → ClosesAt (byte ∷ bytes) earlier → ⊥
    none_earlier zero lt is = clash (closes_at (byte ∷ bytes) 0) is isnt
    none_earlier (suc k) lt is = f.first k (omega arith) (sym (next_closes byte bytes k) ∙ is)

behind : (byte : ℕ) (bytes : Bytes) (n : ℕ) → IsFirstClose (byte ∷ bytes) (suc n) → IsFirstClose bytes n
behind byte bytes n f = record {
  closes = sym (next_closes byte bytes n) ∙ f.closes;
  first = λ k lt is. f.first (suc k) (omega arith) (next_closes byte bytes k ∙ is);
}

pub closed_there : (place : ℕ) (content : Bytes) (end : ℕ) → comment_end place content ≡ Some end → (n : ℕ) × IsFirstClose content n × (end ≡ place + n + 2)
closed_there place [] end e = absurd cc
closed_there place (byte ∷ bytes) end e = by_test (λ later. closed_there (place + 1) bytes end later) (closes_comment byte (slice_index bytes 0)) refl e
  where
    by_test : (comment_end (place + 1) bytes ≡ Some end → (n : ℕ) × IsFirstClose bytes n × (end ≡ (place + 1) + n + 2)) → (b : Bool) → closes_comment byte (slice_index bytes 0) ≡ b → (if b then Some (place + 2) else comment_end (place + 1) bytes) ≡ Some end
        → (n : ℕ) × IsFirstClose (byte ∷ bytes) n × (end ≡ place + n + 2)
    by_test go true is e = (0, record { closes = is; first = λ k lt closes. absurd (omega arith) }, (let same = same_end (place + 2) end e in omega arith))
    by_test go false is e =
        let w = go e in
        (suc w.0, pushed byte bytes w.0 is w.1, (let same = w.2 in omega arith))

ends_there : (place : ℕ) (content : Bytes) (n : ℕ) → IsFirstClose content n → comment_end place content ≡ Some (place + n + 2)
ends_there place [] n f = absurd (none_closes n f.closes)
ends_there place (byte ∷ bytes) zero f =
    let here : closes_comment byte (slice_index bytes 0) ≡ true = f.closes in
    let same : place + 2 ≡ place + 0 + 2 = omega arith in
    ap (λ b. if b then Some (place + 2) else comment_end (place + 1) bytes) here ∙ ap Some same
ends_there place (byte ∷ bytes) (suc n) f =
    let later : closes_comment byte (slice_index bytes 0) ≡ false = no_close (closes_comment byte (slice_index bytes 0)) refl in
    let same : (place + 1) + n + 2 ≡ place + suc n + 2 = omega arith in
    ap (λ b. if b then Some (place + 2) else comment_end (place + 1) bytes) later ∙ ends_there (place + 1) bytes n (behind byte bytes n f) ∙ ap Some same
  where
    no_close : (b : Bool) → closes_comment byte (slice_index bytes 0) ≡ b → b ≡ false
    no_close true is = absurd (f.first 0 (omega arith) is)
    no_close false is = refl

pub comment_ends : CommentsEndAtTheFirstClose
comment_ends content end = (
  λ e. let w = closed_there 2 content end e in (w.0, w.1, (let same = w.2 in omega arith)),
  λ w. let same : 2 + w.0 + 2 ≡ end = (let e = w.2 in omega arith) in ends_there 2 content w.0 w.1 ∙ ap Some same,
)

-- ---- literals

is_39 : (byte : ℕ) → is_quote byte ≡ true → byte ≡ 39
is_39 byte e = grind (arith, nat_tests)

abbrev Closes : ℕ → Bytes → ℕ → Type 0
Closes place text end = (content rest : Bytes) × IsClosed text content rest × (end ≡ place + length content + 1)

pushed_plain : (place : ℕ) (byte : ℕ) (bytes : Bytes) (end : ℕ) → is_quote byte ≡ false → Closes (place + 1) bytes end → Closes place (byte ∷ bytes) end
pushed_plain place byte bytes end isnt w = (
  byte ∷ w.0,
  w.1,
  record { parts = ap (λ z. byte ∷ z) w.2.parts; is_content = plain byte w.0 isnt w.2.is_content; alone = w.2.alone },
  (let same = w.3 in omega arith),
)

pushed_double : (place : ℕ) (one other : ℕ) (bytes : Bytes) (end : ℕ) → is_quote one ≡ true → is_quote other ≡ true → Closes ((place + 1) + 1) bytes end → Closes place (one ∷ other ∷ bytes) end
pushed_double place one other bytes end a b w = (
  39 ∷ 39 ∷ w.0,
  w.1,
  record {
    parts = ap (λ z. z ∷ other ∷ bytes) (is_39 one a) ∙ ap (λ z. 39 ∷ z ∷ bytes) (is_39 other b) ∙ ap (λ z. 39 ∷ 39 ∷ z) w.2.parts;
    is_content = doubled w.0 w.2.is_content;
    alone = w.2.alone;
  },
  (let same = w.3 in omega arith),
)

pub closed_so : (place : ℕ) (text : Bytes) (end : ℕ) → literal_end false place text ≡ Some end → Closes place text end
closed_so place [] end e = absurd cc
closed_so place (byte ∷ []) end e = by_quote (is_quote byte) refl e
  where
    by_quote : (q : Bool) → is_quote byte ≡ q → (if q && not (is_quote (slice_index [] 0)) then Some (place + 1) else literal_end q (place + 1) []) ≡ Some end → Closes place (byte ∷ []) end
    by_quote true is e = (
      [],
      [],
      record { parts = ap (λ z. z ∷ []) (is_39 byte is); is_content = nothing; alone = refl },
      (let same = same_end (place + 1) end e in omega arith),
    )
    by_quote false is e = absurd cc
closed_so place (byte ∷ next ∷ bytes) end e =
    by_quote (λ later. closed_so ((place + 1) + 1) bytes end later) (λ later. closed_so (place + 1) (next ∷ bytes) end later) (is_quote byte) refl (is_quote next) refl e
  where
    by_quote : (literal_end false ((place + 1) + 1) bytes ≡ Some end → Closes ((place + 1) + 1) bytes end)
        → (literal_end false (place + 1) (next ∷ bytes) ≡ Some end → Closes (place + 1) (next ∷ bytes) end) → (q : Bool) → is_quote byte ≡ q → (r : Bool) → is_quote next ≡ r
        → (if q && not r then Some (place + 1) else literal_end q (place + 1) (next ∷ bytes)) ≡ Some end → Closes place (byte ∷ next ∷ bytes) end
    by_quote two one true is true nis e = pushed_double place byte next bytes end is nis (two e)
    by_quote two one true is false nis e = (
      [],
      next ∷ bytes,
      record { parts = ap (λ z. z ∷ next ∷ bytes) (is_39 byte is); is_content = nothing; alone = nis },
      (let same = same_end (place + 1) end e in omega arith),
    )
    by_quote two one false is r nis e = pushed_plain place byte (next ∷ bytes) end is (one e)

ends_so : (place : ℕ) {content : Bytes} (rest : Bytes) → IsContent content → is_quote (slice_index rest 0) ≡ false → literal_end false place (content ++ 39 ∷ rest) ≡ Some (place + length content + 1)
ends_so place rest nothing alone =
    let same : place + 1 ≡ place + 0 + 1 = omega arith in
    ap (λ r. if not r then Some (place + 1) else literal_end true (place + 1) rest) alone ∙ ap Some same
ends_so place rest (plain byte more isnt d) alone =
    let same : (place + 1) + length more + 1 ≡ place + length (byte ∷ more) + 1 = omega arith in
    ap (λ q. if q && not (is_quote (slice_index (more ++ 39 ∷ rest) 0)) then Some (place + 1) else literal_end q (place + 1) (more ++ 39 ∷ rest)) isnt
    ∙ ends_so (place + 1) rest d alone ∙ ap Some same
ends_so place rest (doubled more d) alone =
    let same : ((place + 1) + 1) + length more + 1 ≡ place + length (39 ∷ 39 ∷ more) + 1 = omega arith in
    ends_so ((place + 1) + 1) rest d alone ∙ ap Some same

pub literal_ends : LiteralsEndAtTheFirstLoneQuote
literal_ends text end = (
  λ e. let w = closed_so 1 text end e in (w.0, w.1, w.2, (let same = w.3 in omega arith)),
  λ w.
      let same : 1 + length w.0 + 1 ≡ end = (let e = w.3 in omega arith) in
      ap (literal_end false 1) w.2.parts ∙ ends_so 1 w.1 w.2.is_content w.2.alone ∙ ap Some same,
)
