-- Words that say different things may be taken in any order.
use Rattle.std.proofs.Common.{◌≡◌, ◌∙◌, ◌++◌, ◌*◌, ◌-◌, ◌^◌, cond, refl, sym, ap, ℕ, Bool, true, false, List, [], ◌∷◌, Option, Some, None}
use Rattle.std.specs.Prelude.{option_and_then, option_map}
use Rattle.adfs_base.specs.declared.part_word.PartWord.{PartWord}
use Rattle.adfs_base.specs.declared.part_word.PartWord.TheVariants as part
use Rattle.cli_words.specs.FormOnly.{only_vertices}
use Rattle.cli_words.specs.Line.{long_name}
use Rattle.cli_words.specs.Values.{is_file_text, number_in, part_of, with_file_word, with_setting}
use Rattle.cli_words.specs.declared.options.Options.{Options}
use Rattle.cli_words.specs.declared.file_word.FileWord.{FileWord}
use Rattle.cli_words.specs.declared.file_word.FileWord.TheVariants as file
use Rattle.cli_words.specs.declared.setting.Setting.{Setting}
use Rattle.cli_words.specs.declared.setting.Setting.TheVariants as setting
use Rattle.cli_words.proofs.LineRules.{has_name}

-- what a word says: a number, or a part word, or a file's name
record Meaning : Type 0 where
  number : ℕ
  part : PartWord
  name : List ℕ

abbrev a_number : ℕ → Meaning
a_number n = record { number = n; part = part.Modulo; name = [] }

abbrev a_part : PartWord → Meaning
a_part p = record { number = 0; part = p; name = [] }

abbrev a_name : List ℕ → Meaning
a_name text = record { number = 0; part = part.Modulo; name = text }

-- ---- options

abbrev put : Setting → Meaning → Options → Options
put setting.Machines x o = record o { machines = x.number }
put setting.Workers x o = record o { workers = x.number }
put setting.Threads x o = record o { threads = x.number }
put setting.Credits x o = record o { credits = x.number }
put setting.Broad x o = record o { broad = x.number }
put setting.Buffer x o = record o { buffer = x.number }
put setting.Part x o = record o { part = x.part }
put setting.Lanes x o = record o { lanes = x.number }
put setting.Pool x o = record o { pool = x.number }
put setting.Schedule x o = record o { seed = x.number }

abbrev meaning_of : Setting → List ℕ → Option Meaning
meaning_of setting.Machines word = option_map a_number (number_in 1 8 word)
meaning_of setting.Workers word = option_map a_number (number_in 1 8 word)
meaning_of setting.Threads word = option_map a_number (number_in 0 64 word)
meaning_of setting.Credits word = option_map a_number (number_in 1 8 word)
meaning_of setting.Broad word = option_map a_number (number_in 0 16 word)
meaning_of setting.Buffer word = option_map a_number (number_in 1 64 word)
meaning_of setting.Part word = option_map a_part (part_of word)
meaning_of setting.Lanes word = option_map a_number (number_in 1 8 word)
meaning_of setting.Pool word = option_map a_number (number_in 1 115200 word)
meaning_of setting.Schedule word = option_map a_number (number_in 0 (2 ^ 64 - 1) word)

mapped-twice : {X Y Z : Type 0} (f : X → Y) (g : Y → Z) (o : Option X) → option_map (λ x. g (f x)) o ≡ option_map g (option_map f o)
mapped-twice f g None = refl
mapped-twice f g (Some x) = refl

with-put : (s : Setting) (word : List ℕ) (o : Options) → with_setting s word o ≡ option_map (λ x. put s x o) (meaning_of s word)
with-put setting.Machines word o = mapped-twice a_number (λ x. put setting.Machines x o) (number_in 1 8 word)
with-put setting.Workers word o = mapped-twice a_number (λ x. put setting.Workers x o) (number_in 1 8 word)
with-put setting.Threads word o = mapped-twice a_number (λ x. put setting.Threads x o) (number_in 0 64 word)
with-put setting.Credits word o = mapped-twice a_number (λ x. put setting.Credits x o) (number_in 1 8 word)
with-put setting.Broad word o = mapped-twice a_number (λ x. put setting.Broad x o) (number_in 0 16 word)
with-put setting.Buffer word o = mapped-twice a_number (λ x. put setting.Buffer x o) (number_in 1 64 word)
with-put setting.Part word o = mapped-twice a_part (λ x. put setting.Part x o) (part_of word)
with-put setting.Lanes word o = mapped-twice a_number (λ x. put setting.Lanes x o) (number_in 1 8 word)
with-put setting.Pool word o = mapped-twice a_number (λ x. put setting.Pool x o) (number_in 1 115200 word)
with-put setting.Schedule word o = mapped-twice a_number (λ x. put setting.Schedule x o) (number_in 0 (2 ^ 64 - 1) word)

-- two values of one option: the later one stays
put-swap : (s t : Setting) (x y : Meaning) (o : Options) → put s x (put t y o) ≡ cond (has_name (long_name s) t) (put s x o) (put t y (put s x o))
put-swap setting.Machines setting.Machines x y o = refl
put-swap setting.Machines t x y o = refl
put-swap setting.Workers setting.Machines x y o = refl
put-swap setting.Workers t x y o = refl
put-swap setting.Threads setting.Machines x y o = refl
put-swap setting.Threads t x y o = refl
put-swap setting.Credits setting.Machines x y o = refl
put-swap setting.Credits t x y o = refl
put-swap setting.Broad setting.Machines x y o = refl
put-swap setting.Broad t x y o = refl
put-swap setting.Buffer setting.Machines x y o = refl
put-swap setting.Buffer t x y o = refl
put-swap setting.Part setting.Machines x y o = refl
put-swap setting.Part t x y o = refl
put-swap setting.Lanes setting.Machines x y o = refl
put-swap setting.Lanes t x y o = refl
put-swap setting.Pool setting.Machines x y o = refl
put-swap setting.Pool t x y o = refl
put-swap setting.Schedule setting.Machines x y o = refl
put-swap setting.Schedule t x y o = refl

swapped : (s t : Setting) (a b : Option Meaning) (o : Options) → has_name (long_name s) t ≡ false
    → option_and_then (λ p. option_map (λ y. put t y p) b) (option_map (λ x. put s x o) a)
    ≡ option_and_then (λ p. option_map (λ x. put s x p) a) (option_map (λ y. put t y o) b)
swapped s t None None o apart = refl
swapped s t None (Some y) o apart = refl
swapped s t (Some x) None o apart = refl
swapped s t (Some x) (Some y) o apart =
    let swap : put s x (put t y o) ≡ put t y (put s x o) = put-swap s t x y o ∙ ap (λ b. cond b (put s x o) (put t y (put s x o))) apart in
    ap (λ p. Some p) (sym swap)

-- the values of two options
pub settings_swap : (s t : Setting) (word other : List ℕ) (o : Options) → has_name (long_name s) t ≡ false
    → option_and_then (with_setting t other) (with_setting s word o) ≡ option_and_then (with_setting s word) (with_setting t other o)
settings_swap s t word other o apart =
    (λ i. option_and_then (λ p. with-put t other p i) (with-put s word o i))
    ∙ (swapped s t (meaning_of s word) (meaning_of t other) o apart
    ∙ sym (λ i. option_and_then (λ p. with-put s word p i) (with-put t other o i)))

-- ---- file words

abbrev put_file : FileWord → Meaning → Options → Options
put_file file.Manifest x o = record o { files = o.files ++ x.name ∷ [] }
put_file file.Queries x o = record o { files = o.files ++ x.name ∷ [] }
put_file file.Trace x o = record o { files = o.files ++ x.name ∷ [] }
put_file file.Seed x o = record o { seed = x.number }
put_file file.Vertices x o = record o { vertices = x.number }
put_file file.Edges x o = record o { edges = x.number }

abbrev name_meant : List ℕ → Option Meaning
name_meant word = cond (is_file_text word) (Some (a_name word)) None

abbrev file_meaning : FileWord → ℕ → List ℕ → Option Meaning
file_meaning file.Manifest vertices word = name_meant word
file_meaning file.Queries vertices word = name_meant word
file_meaning file.Trace vertices word = name_meant word
file_meaning file.Seed vertices word = option_map a_number (number_in 0 (2 ^ 64 - 1) word)
file_meaning file.Vertices vertices word = option_map a_number (number_in 1 200000 word)
file_meaning file.Edges vertices word = option_map a_number (number_in 0 (8 * vertices) word)

name-put : (b : Bool) (word : List ℕ) (f : Meaning → Options) → cond b (Some (f (a_name word))) None ≡ option_map f (cond b (Some (a_name word)) None)
name-put true word f = refl
name-put false word f = refl

file-put : (f : FileWord) (word : List ℕ) (o : Options) → with_file_word f word o ≡ option_map (λ x. put_file f x o) (file_meaning f o.vertices word)
file-put file.Manifest word o = name-put (is_file_text word) word (λ x. put_file file.Manifest x o)
file-put file.Queries word o = name-put (is_file_text word) word (λ x. put_file file.Queries x o)
file-put file.Trace word o = name-put (is_file_text word) word (λ x. put_file file.Trace x o)
file-put file.Seed word o = mapped-twice a_number (λ x. put_file file.Seed x o) (number_in 0 (2 ^ 64 - 1) word)
file-put file.Vertices word o = mapped-twice a_number (λ x. put_file file.Vertices x o) (number_in 1 200000 word)
file-put file.Edges word o = mapped-twice a_number (λ x. put_file file.Edges x o) (number_in 0 (8 * o.vertices) word)

-- `gen` has a seed, and `trace` the number of a schedule: no command has both
abbrev pub clash : FileWord → Setting → Bool
clash file.Seed setting.Schedule = true
clash f s = false

file-swap : (f : FileWord) (s : Setting) (x y : Meaning) (o : Options) → put s x (put_file f y o) ≡ cond (clash f s) (put s x o) (put_file f y (put s x o))
file-swap file.Manifest setting.Machines x y o = refl
file-swap file.Manifest s x y o = refl
file-swap file.Queries setting.Machines x y o = refl
file-swap file.Queries s x y o = refl
file-swap file.Trace setting.Machines x y o = refl
file-swap file.Trace s x y o = refl
file-swap file.Seed setting.Machines x y o = refl
file-swap file.Seed s x y o = refl
file-swap file.Vertices setting.Machines x y o = refl
file-swap file.Vertices s x y o = refl
file-swap file.Edges setting.Machines x y o = refl
file-swap file.Edges s x y o = refl

put-vertices : (s : Setting) (x : Meaning) (o : Options) → (put s x o).vertices ≡ o.vertices
put-vertices setting.Machines x o = refl
put-vertices s x o = refl

file_swapped : (f : FileWord) (s : Setting) (word : List ℕ) (a b : Option Meaning) (o : Options) → clash f s ≡ false → file_meaning f o.vertices word ≡ b
    → option_and_then (λ p. option_map (λ x. put s x p) a) (option_map (λ y. put_file f y o) b)
    ≡ option_and_then (λ p. option_map (λ y. put_file f y p) (file_meaning f p.vertices word)) (option_map (λ x. put s x o) a)
file_swapped f s word None None o apart is = refl
file_swapped f s word None (Some y) o apart is = refl
file_swapped f s word (Some x) b o apart is =
    let same : file_meaning f (put s x o).vertices word ≡ b = ap (λ n. file_meaning f n word) (put-vertices s x o) ∙ is in
    by b ∙ ap (λ c. option_map (λ y. put_file f y (put s x o)) c) (sym same)
  where
    by : (c : Option Meaning) → option_and_then (λ p. option_map (λ z. put s z p) (Some x)) (option_map (λ y. put_file f y o) c) ≡ option_map (λ y. put_file f y (put s x o)) c
    by None = refl
    by (Some y) = ap (λ p. Some p) (file-swap f s x y o ∙ ap (λ b. cond b (put s x o) (put_file f y (put s x o))) apart)

-- a file word and the value of an option
pub file_swaps : (f : FileWord) (s : Setting) (word value : List ℕ) (o : Options) → clash f s ≡ false
    → option_and_then (with_setting s value) (with_file_word f word o) ≡ option_and_then (with_file_word f word) (with_setting s value o)
file_swaps f s word value o apart =
    (λ i. option_and_then (λ p. with-put s value p i) (file-put f word o i))
    ∙ (file_swapped f s word (meaning_of s value) (file_meaning f o.vertices word) o apart refl
    ∙ sym (λ i. option_and_then (λ p. file-put f word p i) (with-put s value o i)))

-- ---- the vertices

-- nothing is kept but the vertices
abbrev pub form_options : Options → Options
form_options o = only_vertices o.vertices

same-form : (a : Option Meaning) (f g : Meaning → Options) → ((x : Meaning) → form_options (f x) ≡ form_options (g x)) → option_map form_options (option_map f a) ≡ option_map form_options (option_map g a)
same-form None f g same = refl
same-form (Some x) f g same = ap (λ o. Some o) (same x)

-- the value of an option changes no vertices, and is in its range whatever the other values
pub form_options-with_setting : (s : Setting) (word : List ℕ) (o : Options) → option_map form_options (with_setting s word o) ≡ option_map form_options (with_setting s word (form_options o))
form_options-with_setting s word o =
    ap (option_map form_options) (with-put s word o)
    ∙ (same-form (meaning_of s word) (λ x. put s x o) (λ x. put s x (form_options o)) (λ x. ap only_vertices (put-vertices s x o ∙ sym (put-vertices s x (form_options o))))
    ∙ sym (ap (option_map form_options) (with-put s word (form_options o))))

file-vertices : (f : FileWord) (x : Meaning) (o : Options) → form_options (put_file f x o) ≡ form_options (put_file f x (form_options o))
file-vertices file.Manifest x o = refl
file-vertices f x o = refl

pub form_options-with_file_word : (f : FileWord) (word : List ℕ) (o : Options) → option_map form_options (with_file_word f word o) ≡ option_map form_options (with_file_word f word (form_options o))
form_options-with_file_word f word o =
    ap (option_map form_options) (file-put f word o)
    ∙ (same-form (file_meaning f o.vertices word) (λ x. put_file f x o) (λ x. put_file f x (form_options o)) (λ x. file-vertices f x o)
    ∙ sym (ap (option_map form_options) (file-put f word (form_options o))))
