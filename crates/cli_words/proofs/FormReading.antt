-- Which words go on is known without the values of the options.
use Rattle.std.proofs.Common.{◌≡◌, ◌∙◌, ◌+◌, ◌==◌, cond, refl, sym, ap, ℕ, Bool, true, false, List, [], ◌∷◌, Option, Some, None, Result, Ok, Err}
use Rattle.std.specs.List.{remove}
use Rattle.std.specs.Prelude.{IsOk, ok_or, option_and_then, option_map, slice_get, slice_index}
use Rattle.cli_words.specs.FormOnly.{form_only, place_refused}
use Rattle.cli_words.specs.Form.{finished, finished_by, place_of, read_at, read_by, read_cut, read_file, read_file_as, read_named, read_on, read_option, read_value, read_word}
use Rattle.cli_words.specs.Said.{Said}
use Rattle.cli_words.specs.Values.{cut_at, with_file_word, with_setting}
use Rattle.cli_words.specs.declared.options.Options.{Options}
use Rattle.cli_words.specs.declared.file_word.FileWord.{FileWord}
use Rattle.cli_words.specs.declared.setting.Setting.{Setting}
use Rattle.cli_words.proofs.Apart.{form_options-with_file_word, form_options-with_setting, form_options}
use Rattle.cli_words.proofs.Completions.{read_on-none, read_on-some}

-- a reading that goes on to the options of o, or to only_vertices ones with the same vertices
same-next : (o p : Option Options) (f g : Options → Said) → option_map form_options o ≡ option_map form_options p
    → ((x y : Options) → form_options x ≡ form_options y → form_only (f x) ≡ form_only (g y)) → option_map form_only (option_map f o) ≡ option_map form_only (option_map g p)
same-next None None f g e same = refl
same-next None (Some y) f g e same = cc
same-next (Some x) None f g e same = cc
same-next (Some x) (Some y) f g e same =
    let xy : form_options x ≡ form_options y = cc in
    ap (λ s. Some s) (same x y xy)

form_only-read_value : (asked : Setting) (word : List ℕ) (said : Said) → option_map form_only (read_value asked word (form_only said)) ≡ option_map form_only (read_value asked word said)
form_only-read_value asked word said =
    same-next (with_setting asked word (form_only said).options) (with_setting asked word said.options)
    (λ options. record (form_only said) { options = options; awaited = None }) (λ options. record said { options = options; awaited = None })
    (sym (form_options-with_setting asked word said.options)) (λ x y e. ap (λ o. record said { options = o; awaited = None }) e)

form_only-read_named : (value : Option (List ℕ)) (asked : Setting) (said : Said) → option_map form_only (read_named value asked (form_only said)) ≡ option_map form_only (read_named value asked said)
form_only-read_named None asked said = refl
form_only-read_named (Some value) asked said = form_only-read_value asked value said

form_only-read_cut : (parts : List ℕ × Option (List ℕ)) (said : Said) → option_map form_only (read_cut parts (form_only said)) ≡ option_map form_only (read_cut parts said)
form_only-read_cut parts said = by (place_of parts.0 said.left)
  where
    at : (place : ℕ) (o : Option Setting)
        → option_map form_only (option_and_then (λ s. read_named parts.1 s (record (form_only said) { left = remove said.left place })) o)
        ≡ option_map form_only (option_and_then (λ s. read_named parts.1 s (record said { left = remove said.left place })) o)
    at place None = refl
    at place (Some s) = form_only-read_named parts.1 s (record said { left = remove said.left place })

    by : (o : Option ℕ) → option_map form_only (option_and_then (read_at parts.1 (form_only said)) o) ≡ option_map form_only (option_and_then (read_at parts.1 said) o)
    by None = refl
    by (Some place) = at place (slice_get said.left place)

form_only-read_file_as : (missing : List FileWord) (word : List ℕ) (said : Said) → option_map form_only (read_file_as missing word (form_only said)) ≡ option_map form_only (read_file_as missing word said)
form_only-read_file_as [] word said = refl
form_only-read_file_as (f ∷ files) word said =
    same-next (with_file_word f word (form_only said).options) (with_file_word f word said.options)
    (λ options. record (form_only said) { options = options; missing = files }) (λ options. record said { options = options; missing = files })
    (sym (form_options-with_file_word f word said.options)) (λ x y e. ap (λ o. record said { options = o; missing = files }) e)

form_only-read_by : (awaited : Option Setting) (word : List ℕ) (said : Said) → option_map form_only (read_by awaited word (form_only said)) ≡ option_map form_only (read_by awaited word said)
form_only-read_by (Some asked) word said = form_only-read_value asked word said
form_only-read_by None word said = by (slice_index word 0 == 45)
  where
    by : (b : Bool) → option_map form_only (cond b (read_option word (form_only said)) (read_file word (form_only said))) ≡ option_map form_only (cond b (read_option word said) (read_file word said))
    by true = form_only-read_cut (cut_at 61 word) said
    by false = form_only-read_file_as said.missing word said

form_only-read_word : (word : List ℕ) (said : Said) → option_map form_only (read_word word (form_only said)) ≡ option_map form_only (read_word word said)
form_only-read_word word said = form_only-read_by said.awaited word said

form_only-finished : (awaited : Option Setting) (missing : List FileWord) (options other : Options) (place : ℕ)
    → place_refused (ok_or (finished_by awaited missing options) place) ≡ place_refused (ok_or (finished_by awaited missing other) place)
form_only-finished None [] options other place = refl
form_only-finished None (f ∷ files) options other place = refl
form_only-finished (Some s) missing options other place = refl

-- the words are refused at the same place whatever was said before, but for the vertices
pub same_refusal : (words : List (List ℕ)) (place : ℕ) (said other : Said) → form_only said ≡ form_only other → place_refused (read_on words place said) ≡ place_refused (read_on words place other)
same_refusal [] place said other e =
    form_only-finished said.awaited said.missing said.options (form_only said).options place
    ∙ (ap (λ (s : Said). place_refused (ok_or (finished s) place)) e
    ∙ form_only-finished other.awaited other.missing (form_only other).options other.options place)
same_refusal (word ∷ words) place said other e = by (λ a b f. same_refusal words (place + 1) a b f) (read_word word said) (read_word word other) refl refl
  where
    both : option_map form_only (read_word word said) ≡ option_map form_only (read_word word other)
    both = sym (form_only-read_word word said) ∙ (ap (λ s. option_map form_only (read_word word s)) e ∙ form_only-read_word word other)

    by : ((a b : Said) → form_only a ≡ form_only b → place_refused (read_on words (place + 1) a) ≡ place_refused (read_on words (place + 1) b))
        → (o p : Option Said) → read_word word said ≡ o → read_word word other ≡ p
        → place_refused (read_on (word ∷ words) place said) ≡ place_refused (read_on (word ∷ words) place other)
    by rest None None is at = ap place_refused (read_on-none word words place said is ∙ sym (read_on-none word words place other at))
    by rest None (Some b) is at =
        let bad : option_map form_only None ≡ option_map form_only (Some b) = sym (ap (option_map form_only) is) ∙ (both ∙ ap (option_map form_only) at) in
        cc
    by rest (Some a) None is at =
        let bad : option_map form_only (Some a) ≡ option_map form_only None = sym (ap (option_map form_only) is) ∙ (both ∙ ap (option_map form_only) at) in
        cc
    by rest (Some a) (Some b) is at =
        let some : Some (form_only a) ≡ Some (form_only b) = sym (ap (option_map form_only) is) ∙ (both ∙ ap (option_map form_only) at) in
        let same : form_only a ≡ form_only b = cc in
        ap place_refused (read_on-some word words place said a is) ∙ (rest a b same ∙ sym (ap place_refused (read_on-some word words place other b at)))

-- one more word, which goes on
pub goes_on : (word : List ℕ) (words : List (List ℕ)) (place : ℕ) (said next : Said) → Some next ≡ option_map form_only (read_word word said)
    → place_refused (read_on words (place + 1) next) ≡ place_refused (read_on (word ∷ words) place said)
goes_on word words place said next e = by (read_word word said) refl
  where
    by : (o : Option Said) → read_word word said ≡ o → place_refused (read_on words (place + 1) next) ≡ place_refused (read_on (word ∷ words) place said)
    by None is =
        let bad : Some next ≡ option_map form_only None = e ∙ ap (option_map form_only) is in
        cc
    by (Some after) is =
        let some : Some next ≡ Some (form_only after) = e ∙ ap (option_map form_only) is in
        let same : next ≡ form_only after = cc in
        same_refusal words (place + 1) next after (ap form_only same) ∙ sym (ap place_refused (read_on-some word words place said after is))

-- one more word, which doesn't
pub stops : (word : List ℕ) (words : List (List ℕ)) (place : ℕ) (said : Said) → None ≡ option_map form_only (read_word word said)
    → place_refused (read_on (word ∷ words) place said) ≡ Some place
stops word words place said e = by (read_word word said) refl
  where
    by : (o : Option Said) → read_word word said ≡ o → place_refused (read_on (word ∷ words) place said) ≡ Some place
    by None is = ap place_refused (read_on-none word words place said is)
    by (Some after) is =
        let bad : None ≡ option_map form_only (Some after) = e ∙ ap (option_map form_only) is in
        cc

-- ---- from the start

-- the words are refused there
pub refused_at : (words : List (List ℕ)) (place : ℕ) (said reading : Said) → reading ≡ form_only said → Some place ≡ place_refused (read_on words 1 reading) → read_on words 1 said ≡ Err place
refused_at words place said reading at e = by (read_on words 1 said) (e ∙ same_refusal words 1 reading said (ap form_only at))
  where
    by : (r : Result Options ℕ) → Some place ≡ place_refused r → r ≡ Err place
    by (Ok options) f = cc
    by (Err other) f = cc

-- they are refused nowhere
pub accepted : (words : List (List ℕ)) (said reading : Said) → reading ≡ form_only said → None ≡ place_refused (read_on words 1 reading) → IsOk (read_on words 1 said)
accepted words said reading at e = by (read_on words 1 said) (e ∙ same_refusal words 1 reading said (ap form_only at))
  where
    by : (r : Result Options ℕ) → None ≡ place_refused r → IsOk r
    by (Ok options) f = refl
    by (Err other) f = cc
