-- What the line of an event says is that event, and only such a line says one.
use Rattle.std.proofs.Common.{◌≡◌, ◌∙◌, subst, ◌<◌, ◌^◌, cond, sym, ap, refl, rules, ℕ, Bool, true, false, List, [], ◌∷◌, ◌++◌, codes, Option, Some, None}
use Rattle.std.proofs.lemmas.Slice.Eq.{bytes_eq-Decides}
use Rattle.std.specs.Fmt.{decimal}
use Rattle.std.specs.List.{after_first, before_first, find}
use Rattle.std.specs.Option.{option_and_then, option_map}
use Rattle.std.specs.Str.{bytes_eq}
use Rattle.dfs_worker.specs.declared.event.Event.{Event}
use Rattle.dfs_worker.specs.declared.event.Event.TheVariants.{Claim, Retire, Advance, Descend, Append, Charge, Fetch, Post, Push, Pop, Pick, Restore, Discharge, Mark, Close}
use Rattle.trace_text.specs.declared.kind.Kind.{Kind}
use Rattle.trace_text.specs.declared.kind.Kind.TheVariants as kind
use Rattle.trace_text.specs.EventLines.{IsEvent, event_line}
use Rattle.trace_text.specs.Kinds.{kind_named, kinds, word_of}
use Rattle.text_lines.specs.Words.{has_space, is_space}
use Rattle.trace_text.specs.Numbers.{number_of, pair_of, triple_of}
use Rattle.trace_text.specs.Reading.{event_of, event_said}
use Rattle.trace_text.proofs.Cuts.{after_space, before_space, is_word, space_found, text_cut}
use Rattle.trace_text.proofs.Numerals.{decimal_number, decimal_word, number_decimal}

-- ---- numbers with spaces between them
pub pair_decimals : (a b : ℕ) → a < 2 ^ 32 → b < 2 ^ 32 → pair_of (decimal a ++ 32 ∷ decimal b) ≡ Some (a, b)
pair_decimals a b is_a is_b =
    let text = decimal a ++ 32 ∷ decimal b in
    let word = decimal_word a is_a in
    let first : number_of (before_first is_space text) ≡ Some a = ap number_of (before_space (decimal a) (decimal b) word) ∙ number_decimal a is_a in
    let second : number_of (after_first is_space text) ≡ Some b = ap number_of (after_space (decimal a) (decimal b) word) ∙ number_decimal b is_b in
    ap (λ t. cond t (option_and_then (λ first. option_map (λ second. (first, second)) (number_of (after_first is_space text))) (number_of (before_first is_space text))) None)
    (space_found (decimal a) (decimal b) word)
    ∙ ap (option_and_then (λ first. option_map (λ second. (first, second)) (number_of (after_first is_space text)))) first
    ∙ ap (option_map (λ second. (a, second))) second

abbrev with_first : Option ℕ → ℕ × ℕ → Option (ℕ × ℕ × ℕ)
with_first first rest = option_map (λ first. (first, rest.0, rest.1)) first

pub triple_decimals : (a b c : ℕ) → a < 2 ^ 32 → b < 2 ^ 32 → c < 2 ^ 32 → triple_of (decimal a ++ 32 ∷ (decimal b ++ 32 ∷ decimal c)) ≡ Some (a, b, c)
triple_decimals a b c is_a is_b is_c =
    let rest = decimal b ++ 32 ∷ decimal c in
    let text = decimal a ++ 32 ∷ rest in
    let word = decimal_word a is_a in
    let first : number_of (before_first is_space text) ≡ Some a = ap number_of (before_space (decimal a) rest word) ∙ number_decimal a is_a in
    let others : pair_of (after_first is_space text) ≡ Some (b, c) = ap pair_of (after_space (decimal a) rest word) ∙ pair_decimals b c is_b is_c in
    ap (λ t. cond t (option_and_then (with_first (number_of (before_first is_space text))) (pair_of (after_first is_space text))) None) (space_found (decimal a) rest word)
    ∙ ap (option_and_then (with_first (number_of (before_first is_space text)))) others
    ∙ ap (λ first. with_first first (b, c)) first

-- ---- from an event to what its line says
said_after : (word rest : List ℕ) (kind : Kind) → is_word word ≡ true → kind_named word ≡ Some kind → event_of (word ++ 32 ∷ rest) ≡ event_said kind rest
said_after word rest kind is named =
    let line = word ++ 32 ∷ rest in
    ap (λ t. cond t (option_and_then (λ kind. event_said kind (after_first is_space line)) (kind_named (before_first is_space line))) None) (space_found word rest is)
    ∙ ap (option_and_then (λ kind. event_said kind (after_first is_space line))) (ap kind_named (before_space word rest is) ∙ named)
    ∙ ap (event_said kind) (after_space word rest is)

pub line_said : (event : Event) → IsEvent event → event_of (event_line event) ≡ Some event
line_said (Claim w) fits = said_after (codes "claim") (decimal w) kind.Claim refl refl ∙ ap (option_map (λ w. Claim w)) (number_decimal w fits)
line_said (Retire w) fits = said_after (codes "retire") (decimal w) kind.Retire refl refl ∙ ap (option_map (λ w. Retire w)) (number_decimal w fits)
line_said (Advance w) fits = said_after (codes "advance") (decimal w) kind.Advance refl refl ∙ ap (option_map (λ w. Advance w)) (number_decimal w fits)
line_said (Descend w) fits = said_after (codes "descend") (decimal w) kind.Descend refl refl ∙ ap (option_map (λ w. Descend w)) (number_decimal w fits)
line_said (Append w) fits = said_after (codes "append") (decimal w) kind.Append refl refl ∙ ap (option_map (λ w. Append w)) (number_decimal w fits)
line_said (Charge w) fits = said_after (codes "charge") (decimal w) kind.Charge refl refl ∙ ap (option_map (λ w. Charge w)) (number_decimal w fits)
line_said (Fetch w) fits = said_after (codes "fetch") (decimal w) kind.Fetch refl refl ∙ ap (option_map (λ w. Fetch w)) (number_decimal w fits)
line_said (Post w stage to) fits =
    said_after (codes "post") (decimal w ++ 32 ∷ (decimal stage ++ 32 ∷ decimal to)) kind.Post refl refl
    ∙ ap (option_map (λ n. Post n.0 n.1 n.2)) (triple_decimals w stage to fits.0 fits.1 fits.2)
line_said (Push w) fits = said_after (codes "push") (decimal w) kind.Push refl refl ∙ ap (option_map (λ w. Push w)) (number_decimal w fits)
line_said (Pop w stage) fits =
    said_after (codes "pop") (decimal w ++ 32 ∷ decimal stage) kind.Pop refl refl ∙ ap (option_map (λ n. Pop n.0 n.1)) (pair_decimals w stage fits.0 fits.1)
line_said (Pick w) fits = said_after (codes "pick") (decimal w) kind.Pick refl refl ∙ ap (option_map (λ w. Pick w)) (number_decimal w fits)
line_said (Restore w) fits = said_after (codes "restore") (decimal w) kind.Restore refl refl ∙ ap (option_map (λ w. Restore w)) (number_decimal w fits)
line_said (Discharge w) fits = said_after (codes "discharge") (decimal w) kind.Discharge refl refl ∙ ap (option_map (λ w. Discharge w)) (number_decimal w fits)
line_said (Mark w a b) fits =
    said_after (codes "mark") (decimal w ++ 32 ∷ (decimal a ++ 32 ∷ decimal b)) kind.Mark refl refl
    ∙ ap (option_map (λ n. Mark n.0 n.1 n.2)) (triple_decimals w a b fits.0 fits.1 fits.2)
line_said (Close w) fits = said_after (codes "close") (decimal w) kind.Close refl refl ∙ ap (option_map (λ w. Close w)) (number_decimal w fits)

-- ---- from what a line says to the line of an event
-- what was found in some value, and what was made of it
mapped : {A B : Type 0} (f : A → B) (o : Option A) (y : B) → option_map f o ≡ Some y → (x : A) × ((o ≡ Some x) × (f x ≡ y))
mapped f (Some x) y said = (x, (refl, search (rules, said)))
mapped f None y said = search (rules, said)

chained : {A B : Type 0} (f : A → Option B) (o : Option A) (y : B) → option_and_then f o ≡ Some y → (x : A) × ((o ≡ Some x) × (f x ≡ Some y))
chained f (Some x) y said = (x, (refl, said))
chained f None y said = search (rules, said)

if_so : {B : Type 0} (test : Bool) (o : Option B) (y : B) → cond test o None ≡ Some y → (test ≡ true) × (o ≡ Some y)
if_so true o y said = (refl, said)
if_so false o y said = search (rules, said)

pub pair_said : (text : List ℕ) (n : ℕ × ℕ) → pair_of text ≡ Some n → (n.0 < 2 ^ 32) × (n.1 < 2 ^ 32) × (text ≡ decimal n.0 ++ 32 ∷ decimal n.1)
pair_said text n said =
    let cut = if_so (has_space text) _ n said in
    let first = chained (λ first. option_map (λ second. (first, second)) (number_of (after_first is_space text))) (number_of (before_first is_space text)) n cut.1 in
    let second = mapped (λ second. (first.0, second)) (number_of (after_first is_space text)) n first.1.1 in
    let a = decimal_number (before_first is_space text) first.0 first.1.0 in
    let b = decimal_number (after_first is_space text) second.0 second.1.0 in
    pair_from text n first.0 second.0 second.1.1 a.0 b.0 (text_cut text cut.0 ∙ ap (λ t. t ++ 32 ∷ after_first is_space text) a.1 ∙ ap (λ t. decimal first.0 ++ 32 ∷ t) b.1)
  where
    pair_from : (text : List ℕ) (n : ℕ × ℕ) (a b : ℕ) → (a, b) ≡ n → a < 2 ^ 32 → b < 2 ^ 32 → text ≡ decimal a ++ 32 ∷ decimal b
        → (n.0 < 2 ^ 32) × (n.1 < 2 ^ 32) × (text ≡ decimal n.0 ++ 32 ∷ decimal n.1)
    pair_from text n a b is is_a is_b line =
        subst (λ n. (n.0 < 2 ^ 32) × (n.1 < 2 ^ 32) × (text ≡ decimal n.0 ++ 32 ∷ decimal n.1)) is (is_a, is_b, line)

pub triple_said : (text : List ℕ) (n : ℕ × ℕ × ℕ) → triple_of text ≡ Some n
    → (n.0 < 2 ^ 32) × (n.1 < 2 ^ 32) × (n.2 < 2 ^ 32) × (text ≡ decimal n.0 ++ 32 ∷ (decimal n.1 ++ 32 ∷ decimal n.2))
triple_said text n said =
    let cut = if_so (has_space text) _ n said in
    let rest = chained (with_first (number_of (before_first is_space text))) (pair_of (after_first is_space text)) n cut.1 in
    let first = mapped (λ first. (first, rest.0.0, rest.0.1)) (number_of (before_first is_space text)) n rest.1.1 in
    let a = decimal_number (before_first is_space text) first.0 first.1.0 in
    let others = pair_said (after_first is_space text) rest.0 rest.1.0 in
    triple_from text n first.0 rest.0.0 rest.0.1 first.1.1 a.0 others.0 others.1
    (text_cut text cut.0 ∙ ap (λ t. t ++ 32 ∷ after_first is_space text) a.1 ∙ ap (λ t. decimal first.0 ++ 32 ∷ t) others.2)
  where
    triple_from : (text : List ℕ) (n : ℕ × ℕ × ℕ) (a b c : ℕ) → (a, b, c) ≡ n → a < 2 ^ 32 → b < 2 ^ 32 → c < 2 ^ 32
        → text ≡ decimal a ++ 32 ∷ (decimal b ++ 32 ∷ decimal c)
        → (n.0 < 2 ^ 32) × (n.1 < 2 ^ 32) × (n.2 < 2 ^ 32) × (text ≡ decimal n.0 ++ 32 ∷ (decimal n.1 ++ 32 ∷ decimal n.2))
    triple_from text n a b c is is_a is_b is_c line =
        subst (λ n. (n.0 < 2 ^ 32) × (n.1 < 2 ^ 32) × (n.2 < 2 ^ 32) × (text ≡ decimal n.0 ++ 32 ∷ (decimal n.1 ++ 32 ∷ decimal n.2))) is (is_a, is_b, is_c, line)

-- a kind that was found is that of the word
found_first : (word : List ℕ) (k kind : Kind) (rest : Option Kind) (b : Bool) → bytes_eq (word_of k) word ≡ b → (rest ≡ Some kind → word ≡ word_of kind)
    → cond b (Some k) rest ≡ Some kind → word ≡ word_of kind
found_first word k kind rest true same later is =
    let here : word_of k ≡ word = search (rules, bytes_eq-Decides (word_of k) word, same) in
    let kind_is : k ≡ kind = search (rules, is) in
    sym here ∙ ap word_of kind_is
found_first word k kind rest false other later is = later is

found_in : (word : List ℕ) (kind : Kind) (list : List Kind) → find (λ kind. bytes_eq (word_of kind) word) list ≡ Some kind → word ≡ word_of kind
found_in word kind [] is = search (rules, is)
found_in word kind (k ∷ list) is =
    found_first word k kind (find (λ kind. bytes_eq (word_of kind) word) list) (bytes_eq (word_of k) word) refl (found_in word kind list) is

kind_found : (word : List ℕ) (kind : Kind) → kind_named word ≡ Some kind → word ≡ word_of kind
kind_found word kind named = found_in word kind kinds named

-- The numbers that follow the word are those of an event, whose line this is.
abbrev Says : Kind → List ℕ → Event → Type 0
Says kind text event = IsEvent event × (word_of kind ++ 32 ∷ text ≡ event_line event)

said_one : (kind : Kind) (text : List ℕ) (make : ℕ → Event) (event : Event) → ((w : ℕ) → w < 2 ^ 32 → Says kind (decimal w) (make w))
    → option_map make (number_of text) ≡ Some event → Says kind text event
said_one kind text make event made said =
    let w = mapped make (number_of text) event said in
    let number = decimal_number text w.0 w.1.0 in
    subst (λ text. Says kind text event) (sym number.1) (subst (λ event. Says kind (decimal w.0) event) w.1.1 (made w.0 number.0))

said_three : (kind : Kind) (text : List ℕ) (make : ℕ × ℕ × ℕ → Event) (event : Event)
    → ((a b c : ℕ) → a < 2 ^ 32 → b < 2 ^ 32 → c < 2 ^ 32 → Says kind (decimal a ++ 32 ∷ (decimal b ++ 32 ∷ decimal c)) (make (a, b, c)))
    → option_map make (triple_of text) ≡ Some event → Says kind text event
said_three kind text make event made said =
    let n = mapped make (triple_of text) event said in
    let numbers = triple_said text n.0 n.1.0 in
    subst (λ text. Says kind text event) (sym numbers.3)
    (subst (λ event. Says kind (decimal n.0.0 ++ 32 ∷ (decimal n.0.1 ++ 32 ∷ decimal n.0.2)) event) n.1.1 (made n.0.0 n.0.1 n.0.2 numbers.0 numbers.1 numbers.2))

said_two : (kind : Kind) (text : List ℕ) (make : ℕ × ℕ → Event) (event : Event)
    → ((a b : ℕ) → a < 2 ^ 32 → b < 2 ^ 32 → Says kind (decimal a ++ 32 ∷ decimal b) (make (a, b)))
    → option_map make (pair_of text) ≡ Some event → Says kind text event
said_two kind text make event made said =
    let n = mapped make (pair_of text) event said in
    let numbers = pair_said text n.0 n.1.0 in
    subst (λ text. Says kind text event) (sym numbers.2)
    (subst (λ event. Says kind (decimal n.0.0 ++ 32 ∷ decimal n.0.1) event) n.1.1 (made n.0.0 n.0.1 numbers.0 numbers.1))

said_line : (kind : Kind) (text : List ℕ) (event : Event) → event_said kind text ≡ Some event → Says kind text event
said_line kind.Claim text event = said_one kind.Claim text (λ w. Claim w) event (λ w fits. (fits, refl))
said_line kind.Retire text event = said_one kind.Retire text (λ w. Retire w) event (λ w fits. (fits, refl))
said_line kind.Advance text event = said_one kind.Advance text (λ w. Advance w) event (λ w fits. (fits, refl))
said_line kind.Descend text event = said_one kind.Descend text (λ w. Descend w) event (λ w fits. (fits, refl))
said_line kind.Append text event = said_one kind.Append text (λ w. Append w) event (λ w fits. (fits, refl))
said_line kind.Charge text event = said_one kind.Charge text (λ w. Charge w) event (λ w fits. (fits, refl))
said_line kind.Fetch text event = said_one kind.Fetch text (λ w. Fetch w) event (λ w fits. (fits, refl))
said_line kind.Post text event = said_three kind.Post text (λ n. Post n.0 n.1 n.2) event (λ w stage to is_w is_stage is_to. ((is_w, is_stage, is_to), refl))
said_line kind.Push text event = said_one kind.Push text (λ w. Push w) event (λ w fits. (fits, refl))
said_line kind.Pop text event = said_two kind.Pop text (λ n. Pop n.0 n.1) event (λ w stage is_w is_stage. ((is_w, is_stage), refl))
said_line kind.Pick text event = said_one kind.Pick text (λ w. Pick w) event (λ w fits. (fits, refl))
said_line kind.Restore text event = said_one kind.Restore text (λ w. Restore w) event (λ w fits. (fits, refl))
said_line kind.Discharge text event = said_one kind.Discharge text (λ w. Discharge w) event (λ w fits. (fits, refl))
said_line kind.Mark text event = said_three kind.Mark text (λ n. Mark n.0 n.1 n.2) event (λ w a b is_w is_a is_b. ((is_w, is_a, is_b), refl))
said_line kind.Close text event = said_one kind.Close text (λ w. Close w) event (λ w fits. (fits, refl))

pub line_of_said : (line : List ℕ) (event : Event) → event_of line ≡ Some event → IsEvent event × (line ≡ event_line event)
line_of_said line event said =
    let cut = if_so (has_space line) _ event said in
    let kind = chained (λ kind. event_said kind (after_first is_space line)) (kind_named (before_first is_space line)) event cut.1 in
    let says = said_line kind.0 (after_first is_space line) event kind.1.1 in
    let word = kind_found (before_first is_space line) kind.0 kind.1.0 in
    (says.0, text_cut line cut.0 ∙ ap (λ t. t ++ 32 ∷ after_first is_space line) word ∙ says.1)
