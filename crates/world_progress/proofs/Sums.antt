-- Sums over the words of credits, and over machines.
use Rattle.std.proofs.Common.{◌≡◌, ◌≢◌, ◌⊎◌, inl, inr, ℕ, ◌+◌, ◌-◌, ◌*◌, ◌<◌, ◌≤◌, Bool, true, false, cond, ◌&&◌, eqb, List, [], ◌∷◌, length, refl, sym, ap, ◌∙◌, arith, zero, suc, Some}
use Rattle.std.specs.Prelude.{slice_get}
use Rattle.std.proofs.lemmas.Bool.{eqb-true, eq-eqb, ne_eqb}
use Rattle.match_context.specs.Bags.{total}
use Rattle.dfs_worker.specs.Census.{one, is_word}
use Rattle.world_core.specs.Owed.{total_below}
use Rattle.world_core.proofs.Weighs.{below-same, below-change}
use Rattle.world_core.proofs.Words.{word-tells}

-- ---- over the first numbers
pub below-zero : (n : ℕ) → total_below n (λ k. 0) ≡ 0
below-zero zero = refl
below-zero (suc n) = let a = below-zero n in omega arith

pub below-const : (n c : ℕ) → total_below n (λ k. c) ≡ n * c
below-const zero c = omega arith
below-const (suc n) c = let a = below-const n c in let b : suc n * c ≡ n * c + c = grind arith in omega arith

pub below-add : (n : ℕ) (f g : ℕ → ℕ) → total_below n (λ k. f k + g k) ≡ total_below n f + total_below n g
below-add zero f g = refl
below-add (suc n) f g = let a = below-add n f g in omega arith

pub below-le : (n : ℕ) (f g : ℕ → ℕ) → ((k : ℕ) → k < n → f k ≤ g k) → total_below n f ≤ total_below n g
below-le zero f g less = omega arith
below-le (suc n) f g less = let a = below-le n f g (λ k low. less k (omega arith)) in let b = less n (omega arith) in omega arith

pub below-total : {A : Type 0} (n : ℕ) (f : ℕ → A → ℕ) (xs : List A) → total_below n (λ k. total (f k) xs) ≡ total (λ x. total_below n (λ k. f k x)) xs
below-total n f [] = below-zero n
below-total n f (x ∷ xs) =
    let a = below-total n f xs in
    let b = below-add n (λ k. f k x) (λ k. total (f k) xs) in
    omega arith

-- where all but one are 0
pub below-at : (n i : ℕ) (f : ℕ → ℕ) → i < n → ((k : ℕ) → k ≢ i → f k ≡ 0) → total_below n f ≡ f i
below-at n i f low none =
    let a = below-change n i f (λ k. 0) low (λ k ne. none k ne) in
    let b = below-zero n in
    omega arith

row-more : (n c : ℕ) → 0 < n → n * c ≡ (n - 1) * c + c
row-more zero c some = absurd (omega arith)
row-more (suc n) c some = let e : suc n - 1 ≡ n = omega arith in let b : suc n * c ≡ n * c + c = grind arith in rw e b

-- one number differs from the others
pub below-limit : (n i b c : ℕ) → i < n → total_below n (λ k. cond (eqb i k) b c) ≡ b + (n - 1) * c
below-limit n i b c low =
    let a = below-change n i (λ k. cond (eqb i k) b c) (λ k. c) low (λ k ne. ap (λ t. cond t b c) (ne_eqb i k (λ e. ne (sym e)))) in
    let here : cond (eqb i i) b c ≡ b = ap (λ t. cond t b c) (eq-eqb i i refl) in
    let all = below-const n c in
    let more = row-more n c (omega arith) in
    omega arith

pub below-limit_to : (n i b c : ℕ) → i < n → total_below n (λ k. cond (eqb k i) b c) ≡ b + (n - 1) * c
below-limit_to n i b c low =
    let a = below-change n i (λ k. cond (eqb k i) b c) (λ k. c) low (λ k ne. ap (λ t. cond t b c) (ne_eqb k i ne)) in
    let here : cond (eqb i i) b c ≡ b = ap (λ t. cond t b c) (eq-eqb i i refl) in
    let all = below-const n c in
    let more = row-more n c (omega arith) in
    omega arith

-- ---- over lists
pub total-alike_at : {A : Type 0} (f g : A → ℕ) (xs : List A) → ((i : ℕ) (x : A) → slice_get xs i ≡ Some x → f x ≡ g x) → total f xs ≡ total g xs
total-alike_at f g [] same = refl
total-alike_at f g (x ∷ xs) same = let a = same 0 x refl in let b = total-alike_at f g xs (λ i y e. same (suc i) y e) in omega arith

pub total-le_at : {A : Type 0} (f g : A → ℕ) (xs : List A) → ((i : ℕ) (x : A) → slice_get xs i ≡ Some x → f x ≤ g x) → total f xs ≤ total g xs
total-le_at f g [] less = omega arith
total-le_at f g (x ∷ xs) less = let a = less 0 x refl in let b = total-le_at f g xs (λ i y e. less (suc i) y e) in omega arith

-- and strictly less at one
pub total-less_at : {A : Type 0} (f g : A → ℕ) (xs : List A) (i : ℕ) (x : A) → ((j : ℕ) (y : A) → slice_get xs j ≡ Some y → f y ≤ g y) → slice_get xs i ≡ Some x → f x + 1 ≤ g x → total f xs + 1 ≤ total g xs
total-less_at f g [] i x less e low = cc
total-less_at f g (y ∷ ys) zero x less e low =
    let same : y ≡ x = cc in
    let b = total-le_at f g ys (λ j z at. less (suc j) z at) in
    rw same (omega arith)
total-less_at f g (y ∷ ys) (suc i) x less e low =
    let a = less 0 y refl in
    let b = total-less_at f g ys i x (λ j z at. less (suc j) z at) e low in
    omega arith

pub total-add : {A : Type 0} (f g : A → ℕ) (xs : List A) → total (λ x. f x + g x) xs ≡ total f xs + total g xs
total-add f g [] = refl
total-add f g (x ∷ xs) = let a = total-add f g xs in omega arith

pub total-length : {A : Type 0} (xs : List A) → total (λ x. 1) xs ≡ length xs
total-length [] = refl
total-length (x ∷ xs) = let a = total-length xs in omega arith

-- ---- over the words of a sender: stages 1 up to `stages`, and all machines
abbrev pub over_words : ℕ → ℕ → (ℕ → ℕ → ℕ) → ℕ
over_words stages machines f = total_below stages (λ k. total_below machines (λ n. f (k + 1) n))

pub words-zero : (stages machines : ℕ) → over_words stages machines (λ k n. 0) ≡ 0
words-zero stages machines =
    below-same stages (λ k. total_below machines (λ n. 0)) (λ k. 0) (λ k low. below-zero machines) ∙ below-zero stages

pub words-add : (stages machines : ℕ) (f g : ℕ → ℕ → ℕ) → over_words stages machines (λ k n. f k n + g k n) ≡ over_words stages machines f + over_words stages machines g
words-add stages machines f g =
    below-same stages (λ k. total_below machines (λ n. f (k + 1) n + g (k + 1) n)) (λ k. total_below machines (λ n. f (k + 1) n) + total_below machines (λ n. g (k + 1) n))
    (λ k low. below-add machines (λ n. f (k + 1) n) (λ n. g (k + 1) n))
    ∙ below-add stages (λ k. total_below machines (λ n. f (k + 1) n)) (λ k. total_below machines (λ n. g (k + 1) n))

pub words-le : (stages machines : ℕ) (f g : ℕ → ℕ → ℕ) → ((k n : ℕ) → 0 < k → k ≤ stages → n < machines → f k n ≤ g k n) → over_words stages machines f ≤ over_words stages machines g
words-le stages machines f g less =
    below-le stages (λ k. total_below machines (λ n. f (k + 1) n)) (λ k. total_below machines (λ n. g (k + 1) n))
    (λ k low. below-le machines (λ n. f (k + 1) n) (λ n. g (k + 1) n) (λ n here. less (k + 1) n (omega arith) (omega arith) here))

pub words-same : (stages machines : ℕ) (f g : ℕ → ℕ → ℕ) → ((k n : ℕ) → 0 < k → k ≤ stages → n < machines → f k n ≡ g k n) → over_words stages machines f ≡ over_words stages machines g
words-same stages machines f g same =
    below-same stages (λ k. total_below machines (λ n. f (k + 1) n)) (λ k. total_below machines (λ n. g (k + 1) n))
    (λ k low. below-same machines (λ n. f (k + 1) n) (λ n. g (k + 1) n) (λ n here. same (k + 1) n (omega arith) (omega arith) here))

pub words-total : {A : Type 0} (stages machines : ℕ) (f : ℕ → ℕ → A → ℕ) (xs : List A) →
    over_words stages machines (λ k n. total (f k n) xs) ≡ total (λ x. over_words stages machines (λ k n. f k n x)) xs
words-total stages machines f xs =
    below-same stages (λ k. total_below machines (λ n. total (f (k + 1) n) xs)) (λ k. total (λ x. total_below machines (λ n. f (k + 1) n x)) xs)
    (λ k low. below-total machines (λ n. f (k + 1) n) xs)
    ∙ below-total stages (λ k x. total_below machines (λ n. f (k + 1) n x)) xs

word-off : (m k n a j q : ℕ) → (j ≡ k → q ≡ n → ⊥) → one (is_word m k n a j q) ≡ 0
word-off m k n a j q other = elim (word-tells m k n a j q) [ inl y ↦ absurd (other y.2 y.3) | inr z ↦ ap one z.0 ]

word-on : (m k n a : ℕ) → one (is_word m k n a k n) ≡ one (eqb a m)
word-on m k n a = go (eqb a m)
  where
    go : (b : Bool) → one (b && (eqb k k && eqb n n)) ≡ one b
    go false = refl
    go true = let e = eq-eqb k k refl in let e' = eq-eqb n n refl in rw (e, e') refl

-- a word that there is counts once
pub words-one : (stages machines m a j q : ℕ) → 0 < j → j ≤ stages → q < machines → over_words stages machines (λ k n. one (is_word m k n a j q)) ≡ one (eqb a m)
words-one stages machines m a j q some low here =
    let at : (j - 1) + 1 ≡ j = omega arith in
    below-at stages (j - 1) (λ k. total_below machines (λ n. one (is_word m (k + 1) n a j q))) (omega arith)
    (λ k ne. below-same machines (λ n. one (is_word m (k + 1) n a j q)) (λ n. 0) (λ n lt. word-off m (k + 1) n a j q (λ e e'. ne (omega arith))) ∙ below-zero machines)
    ∙ ap (λ k. total_below machines (λ n. one (is_word m k n a j q))) at
    ∙ below-at machines q (λ n. one (is_word m j n a j q)) here (λ n ne. word-off m j n a j q (λ e e'. ne (sym e')))
    ∙ word-on m j q a

-- ---- over the senders of a word
pub senders-one : (machines k n a : ℕ) → a < machines → total_below machines (λ m. one (is_word m k n a k n)) ≡ 1
senders-one machines k n a here =
    below-at machines a (λ m. one (is_word m k n a k n)) here (λ m ne. word-on m k n a ∙ ap one (ne_eqb a m (λ e. ne (sym e))))
    ∙ word-on a k n a ∙ ap one (eq-eqb a a refl)
