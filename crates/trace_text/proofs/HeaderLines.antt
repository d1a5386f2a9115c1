-- The lines of a header say that header.
use Rattle.std.proofs.Common.{◌≡◌, ◌∙◌, ap, refl, cond, rules, arith, ℕ, ◌<◌, ◌^◌, ◌==◌, ◌&&◌, true, not, nat_le, List, ◌∷◌, ◌++◌, codes, length, Option, Some, None, Ok}
use Rattle.std.proofs.lemmas.Bool.Decides.{nat_tests}
use Rattle.std.proofs.lemmas.Slice.Eq.{bytes_eq-Decides}
use Rattle.std.specs.Fmt.{decimal}
use Rattle.std.specs.List.{after_first, before_first, list_all}
use Rattle.std.specs.Option.{ok_or, option_and_then, option_map}
use Rattle.std.specs.Str.{bytes_eq, is_utf8}
use Rattle.std.specs.Str.Lines.{lines}
use Rattle.adfs_base.specs.declared.part_word.PartWord.{PartWord}
use Rattle.adfs_base.specs.declared.part_word.PartWord.TheVariants as part
use Rattle.trace_text.specs.declared.fault.ReplayFault.TheVariants as fault
use Rattle.trace_text.specs.declared.header.Header.{Header}
use Rattle.trace_text.specs.declared.said.Sizes.{Sizes}
use Rattle.trace_text.specs.Faults.{◌>>=◌}
use Rattle.trace_text.specs.Headers.{IsHeader, after_word, are_in_limits, file_of, first_of, header_lines, header_of, header_with, is_between, is_file_text, is_part, limited, name_on, numbers_in, numbers_of, part_of, part_on, part_text, shape_on, shape_text, with_two}
use Rattle.trace_text.specs.Laws.{HeadersAreReadAgain}
use Rattle.text_lines.specs.Words.{is_space}
use Rattle.trace_text.specs.Numbers.{number_of, triple_of}
use Rattle.trace_text.proofs.Cuts.{after_space, before_space, is_word, space_found}
use Rattle.trace_text.proofs.Lines.{triple_decimals}
use Rattle.trace_text.proofs.Numerals.{both, decimal_word, number_decimal}
use Rattle.trace_text.proofs.PlainLines.{ArePlain, append-plain, decimal-plain, is_plain_line, lines-of-text}

-- ---- a word and what follows it
same-word : (word : List ℕ) → bytes_eq word word ≡ true
same-word word = search (rules, bytes_eq-Decides word word)

after-word : (word rest : List ℕ) → is_word word ≡ true → after_word word (word ++ 32 ∷ rest) ≡ Some rest
after-word word rest is =
    let line = word ++ 32 ∷ rest in
    let same : bytes_eq (before_first is_space line) word ≡ true = ap (λ w. bytes_eq w word) (before_space word rest is) ∙ same-word word in
    ap (λ t. cond (t && bytes_eq (before_first is_space line) word) (Some (after_first is_space line)) None) (space_found word rest is)
    ∙ ap (λ t. cond t (Some (after_first is_space line)) None) same ∙ ap (λ t. Some t) (after_space word rest is)

file-of : (file : List ℕ) → is_file_text file ≡ true → file_of file ≡ Some file
file-of file good = ap (λ b. cond b (Some file) None) good

name-on : (word file : List ℕ) → is_word word ≡ true → is_file_text file ≡ true → name_on word (word ++ 32 ∷ file) ≡ Some file
name-on word file is good = ap (option_and_then file_of) (after-word word file is) ∙ file-of file good

-- ---- the numbers of a shape
pub record AreSmall (n : Sizes) : Type 0 where
  pub machines : n.machines < 2 ^ 32
  pub workers : n.workers < 2 ^ 32
  pub credits : n.credits < 2 ^ 32
  pub broad : n.broad < 2 ^ 32
  pub buffer : n.buffer < 2 ^ 32

below : (least most n : ℕ) → most < 2 ^ 32 → is_between least most n ≡ true → n < 2 ^ 32
below least most n small is = let within = (both (nat_le least n) (nat_le n most) is).1 in grind (arith, nat_tests, within, small)

small : (n : Sizes) → are_in_limits n ≡ true → AreSmall n
small n is =
    let a = both (is_between 1 8 n.machines) _ is in
    let b = both (is_between 1 8 n.workers) _ a.1 in
    let c = both (is_between 1 8 n.credits) _ b.1 in
    let d = both (is_between 0 16 n.broad) (is_between 1 64 n.buffer) c.1 in
    record {
      machines = below 1 8 n.machines (omega arith) a.0;
      workers = below 1 8 n.workers (omega arith) b.0;
      credits = below 1 8 n.credits (omega arith) c.0;
      broad = below 0 16 n.broad (omega arith) d.0;
      buffer = below 1 64 n.buffer (omega arith) d.1;
    }

first-of : (n : ℕ) (rest : List ℕ) → n < 2 ^ 32 → first_of (decimal n ++ 32 ∷ rest) ≡ Some (n, rest)
first-of n rest fits =
    let text = decimal n ++ 32 ∷ rest in
    let word = decimal_word n fits in
    let number : number_of (before_first is_space text) ≡ Some n = ap number_of (before_space (decimal n) rest word) ∙ number_decimal n fits in
    ap (λ t. cond t (option_map (λ n. (n, after_first is_space text)) (number_of (before_first is_space text))) None) (space_found (decimal n) rest word)
    ∙ ap (option_map (λ n. (n, after_first is_space text))) number ∙ ap (λ t. Some (n, t)) (after_space (decimal n) rest word)

abbrev then_three : ℕ → ℕ × List ℕ → Option Sizes
then_three machines w = option_map (with_two machines w.0) (triple_of w.1)

numbers-of : (n : Sizes) → AreSmall n
    → numbers_of (decimal n.machines ++ 32 ∷ (decimal n.workers ++ 32 ∷ (decimal n.credits ++ 32 ∷ (decimal n.broad ++ 32 ∷ decimal n.buffer)))) ≡ Some n
numbers-of n fits =
    let three = decimal n.credits ++ 32 ∷ (decimal n.broad ++ 32 ∷ decimal n.buffer) in
    let four = decimal n.workers ++ 32 ∷ three in
    ap (option_and_then (λ m. option_and_then (then_three m.0) (first_of m.1))) (first-of n.machines four fits.machines)
    ∙ ap (option_and_then (then_three n.machines)) (first-of n.workers three fits.workers)
    ∙ ap (option_map (with_two n.machines n.workers)) (triple_decimals n.credits n.broad n.buffer fits.credits fits.broad fits.buffer)

shape-on : (h : Header) → are_in_limits (numbers_in h) ≡ true → shape_on (codes "shape" ++ shape_text h) ≡ Some (numbers_in h)
shape-on h is =
    let rest = decimal h.machines ++ 32 ∷ (decimal h.workers ++ 32 ∷ (decimal h.credits ++ 32 ∷ (decimal h.broad ++ 32 ∷ decimal h.buffer))) in
    ap (λ text. option_and_then limited (option_and_then numbers_of text)) (after-word (codes "shape") rest refl)
    ∙ ap (option_and_then limited) (numbers-of (numbers_in h) (small (numbers_in h) is))
    ∙ ap (λ b. cond b (Some (numbers_in h)) None) is

-- ---- how the vertices are dealt out
part-of : (word : PartWord) → is_part word ≡ true → part_of (part_text word) ≡ Some word
part-of part.Modulo is = refl
part-of part.Block is = refl
part-of (part.Listed file) is = ap (option_map (λ file. part.Listed file)) (file-of file is)

part-on : (word : PartWord) → is_part word ≡ true → part_on (codes "part" ++ 32 ∷ part_text word) ≡ Some word
part-on word is = ap (option_and_then part_of) (after-word (codes "part") (part_text word) refl) ∙ part-of word is

-- ---- the five lines
all-read : (h : Header) (version : Option (Unit {0})) (manifest queries : Option (List ℕ)) (numbers : Option Sizes) (word : Option PartWord)
    → version ≡ Some tt → manifest ≡ Some h.manifest → queries ≡ Some h.queries → numbers ≡ Some (numbers_in h) → word ≡ Some h.part
    → (ok_or version (fault.BadLine 1) >>= λ version. (ok_or manifest (fault.BadLine 2) >>= λ manifest. (ok_or queries (fault.BadLine 3)
    >>= λ queries. (ok_or numbers (fault.BadLine 4) >>= λ numbers. (ok_or word (fault.BadLine 5) >>= λ word. Ok (header_with manifest queries numbers word))))))
    ≡ Ok h
all-read h version manifest queries numbers word a b c d e = rw (a, b, c, d, e) refl

lines-read : (h : Header) (more : List (List ℕ)) → IsHeader h → header_of (header_lines h ++ more) ≡ Ok h
lines-read h more is =
    all-read h (Some tt) (name_on (codes "manifest") (codes "manifest" ++ 32 ∷ h.manifest)) (name_on (codes "queries") (codes "queries" ++ 32 ∷ h.queries))
    (shape_on (codes "shape" ++ shape_text h)) (part_on (codes "part" ++ 32 ∷ part_text h.part)) refl
    (name-on (codes "manifest") h.manifest refl is.manifest) (name-on (codes "queries") h.queries refl is.queries) (shape-on h is.numbers) (part-on h.part is.part)

-- ---- none of them has a control byte
file-plain : (file : List ℕ) → is_file_text file ≡ true → is_plain_line file ≡ true
file-plain file good = (both (list_all (λ b. nat_le 32 b) file) (is_utf8 file) (both (not (length file == 0)) _ good).1).0

shape-plain : (n : Sizes) → AreSmall n
    → is_plain_line (decimal n.machines ++ 32 ∷ (decimal n.workers ++ 32 ∷ (decimal n.credits ++ 32 ∷ (decimal n.broad ++ 32 ∷ decimal n.buffer)))) ≡ true
shape-plain n fits =
    let one = decimal n.broad ++ 32 ∷ decimal n.buffer in
    let two = decimal n.credits ++ 32 ∷ one in
    let three = decimal n.workers ++ 32 ∷ two in
    append-plain (decimal n.machines) (32 ∷ three) (decimal-plain n.machines fits.machines)
    (append-plain (decimal n.workers) (32 ∷ two) (decimal-plain n.workers fits.workers)
    (append-plain (decimal n.credits) (32 ∷ one) (decimal-plain n.credits fits.credits)
    (append-plain (decimal n.broad) (32 ∷ decimal n.buffer) (decimal-plain n.broad fits.broad) (decimal-plain n.buffer fits.buffer))))

part-plain : (word : PartWord) → is_part word ≡ true → is_plain_line (part_text word) ≡ true
part-plain part.Modulo is = refl
part-plain part.Block is = refl
part-plain (part.Listed file) is = file-plain file is

pub header-plain : (h : Header) → IsHeader h → ArePlain (header_lines h)
header-plain h is =
    (refl, (file-plain h.manifest is.manifest, (file-plain h.queries is.queries, (shape-plain (numbers_in h) (small (numbers_in h) is.numbers), (part-plain h.part is.part, tt)))))

pub read_again : HeadersAreReadAgain
read_again h rest is = ap header_of (lines-of-text (header_lines h) rest (header-plain h is)) ∙ lines-read h (lines rest) is
