-- Words that may be missing, as they grow and shrink.
use Rattle.std.proofs.Common.{◌≡◌, ◌≢◌, ap, refl, arith, ◌<◌, ℕ, zero, suc, Bool, true, false, cond, List, [], ◌∷◌, ◌++◌, length, take, slice_get, slice_index_or, Option, Some, None, is_some, unwrap_or}
use Rattle.std.proofs.lemmas.Option.{slice_get-get_or}
use Rattle.element_store.specs.Cells.{AreMarked, words_where}

pub length-words_where : (bs : List Bool) (ws : List ℕ) → length bs ≡ length ws → length (words_where bs ws) ≡ length ws
length-words_where [] ws e = e
length-words_where (b ∷ bs) [] e = absurd (omega arith)
length-words_where (b ∷ bs) (w ∷ ws) e = ap suc (length-words_where bs ws (omega arith))

pub words_where-push : (bs : List Bool) (ws : List ℕ) (b : Bool) (w : ℕ) → length bs ≡ length ws
    → words_where (bs ++ b ∷ []) (ws ++ w ∷ []) ≡ words_where bs ws ++ cond b (Some w) None ∷ []
words_where-push [] [] b w e = refl
words_where-push [] (v ∷ ws) b w e = absurd (omega arith)
words_where-push (a ∷ bs) [] b w e = absurd (omega arith)
words_where-push (a ∷ bs) (v ∷ ws) b w e = ap (λ t. cond a (Some v) None ∷ t) (words_where-push bs ws b w (omega arith))

pub words_where-get : (bs : List Bool) (ws : List ℕ) (i : ℕ) (b : Bool) → length bs ≡ length ws → slice_get bs i ≡ Some b
    → slice_get (words_where bs ws) i ≡ Some (cond b (Some (slice_index_or ws i 0)) None)
words_where-get [] ws i b e h = cc h
words_where-get (a ∷ bs) [] i b e h = absurd (omega arith)
words_where-get (a ∷ bs) (w ∷ ws) zero b e h = let same : a ≡ b = cc h in rw same refl
words_where-get (a ∷ bs) (w ∷ ws) (suc i) b e h = words_where-get bs ws i b (omega arith) h

pub words_where-take : (n : ℕ) (bs : List Bool) (ws : List ℕ) → words_where (take n bs) (take n ws) ≡ take n (words_where bs ws)
words_where-take zero bs ws = refl
words_where-take (suc n) [] ws = refl
words_where-take (suc n) (b ∷ bs) [] = refl
words_where-take (suc n) (b ∷ bs) (w ∷ ws) = ap (λ t. cond b (Some w) None ∷ t) (words_where-take n bs ws)

-- a word that may be missing, by whether it is there and what it is
pub there_or_not : (o : Option ℕ) (d : ℕ) → cond (is_some o) (Some (unwrap_or o d)) None ≡ o
there_or_not None d = refl
there_or_not (Some w) d = refl

-- marks of the words that are missing
pub marked-push : (bs : List Bool) (ws : List ℕ) (o : Option ℕ) → length bs ≡ length ws → AreMarked bs ws
    → AreMarked (bs ++ is_some o ∷ []) (ws ++ unwrap_or o 18446744071562067968 ∷ [])
marked-push [] [] None e h = (refl, tt)
marked-push [] [] (Some w) e h = tt
marked-push [] (v ∷ ws) o e h = absurd (omega arith)
marked-push (b ∷ bs) [] o e h = absurd (omega arith)
marked-push (true ∷ bs) (v ∷ ws) o e h = marked-push bs ws o (omega arith) h
marked-push (false ∷ bs) (v ∷ ws) o e h = (h.0, marked-push bs ws o (omega arith) h.1)

pub marked-take : (n : ℕ) (bs : List Bool) (ws : List ℕ) → AreMarked bs ws → AreMarked (take n bs) (take n ws)
marked-take zero bs ws h = tt
marked-take (suc n) [] ws h = tt
marked-take (suc n) (b ∷ bs) [] h = tt
marked-take (suc n) (true ∷ bs) (w ∷ ws) h = marked-take n bs ws h
marked-take (suc n) (false ∷ bs) (w ∷ ws) h = (h.0, marked-take n bs ws h.1)

marked-get : (bs : List Bool) (ws : List ℕ) (i : ℕ) → AreMarked bs ws → i < length ws → slice_get bs i ≡ Some false → slice_index_or ws i 0 ≡ 18446744071562067968
marked-get [] ws i h less e = cc e
marked-get (b ∷ bs) [] i h less e = absurd (omega arith)
marked-get (true ∷ bs) (w ∷ ws) zero h less e = cc e
marked-get (false ∷ bs) (w ∷ ws) zero h less e = h.0
marked-get (true ∷ bs) (w ∷ ws) (suc i) h less e = marked-get bs ws i h (omega arith) e
marked-get (false ∷ bs) (w ∷ ws) (suc i) h less e = marked-get bs ws i h.1 (omega arith) e

-- a word that isn't the one of missing words is there
pub unmarked_there : (bs : List Bool) (ws : List ℕ) (i : ℕ) → length bs ≡ length ws → AreMarked bs ws → i < length ws → slice_index_or ws i 0 ≢ 18446744071562067968
    → slice_get (words_where bs ws) i ≡ Some (Some (slice_index_or ws i 0))
unmarked_there bs ws i e h less other = by (slice_index_or bs i true) (slice_get-get_or bs i true (omega arith))
  where
    by : (b : Bool) → slice_get bs i ≡ Some b → slice_get (words_where bs ws) i ≡ Some (Some (slice_index_or ws i 0))
    by true at = words_where-get bs ws i true e at
    by false at = absurd (other (marked-get bs ws i h less at))
