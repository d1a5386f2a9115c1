-- The last of a list is the first of its reverse, and so for the frames of a stack.
use Rattle.std.proofs.Common.{◌≡◌, ℕ, ◌+◌, List, [], ◌∷◌, ◌++◌, length, get_or, take, drop, reverse, Some, None, refl, sym, ap, ◌∙◌, arith, suc}
use Rattle.std.specs.Prelude.{slice_set}
use Rattle.std.proofs.lemmas.List.{take_more, reverse-append, set_split, drop_all}
use Rattle.std.proofs.Math.Seq.{take-length}
use Rattle.match_context.specs.declared.frame.Frame.{Frame}
use Rattle.match_context.specs.Tree.{Tree, after}
use Rattle.dfs_worker.specs.Own.{stepped, answer_at, frames_after}
use Rattle.dfs_worker.specs.Tower.{Tower, with_frames, without_child}

reverse-push : {A : Type 0} (xs : List A) (y : A) → reverse (xs ++ y ∷ []) ≡ y ∷ reverse xs
reverse-push xs y = reverse-append xs (y ∷ [])

pub reverse-top : {A : Type 0} (xs : List A) (n : ℕ) (d : A) → n + 1 ≡ length xs → reverse xs ≡ get_or xs n d ∷ reverse (take n xs)
reverse-top xs n d last =
    let whole : take (n + 1) xs ≡ xs = rw last (take-length xs) in
    let parts = take_more xs n d (omega arith) in
    ap reverse (sym whole ∙ parts) ∙ reverse-push (take n xs) (get_or xs n d)

pub reverse-set_top : {A : Type 0} (xs : List A) (n : ℕ) (z : A) → n + 1 ≡ length xs → reverse (slice_set xs n z) ≡ z ∷ reverse (take n xs)
reverse-set_top xs n z last =
    let split = set_split xs n z (omega arith) in
    let none : drop (suc n) xs ≡ [] = drop_all (suc n) xs (omega arith) in
    ap reverse (split ∙ ap (λ rest. take n xs ++ z ∷ rest) none) ∙ reverse-push (take n xs) z

-- the frames with the top's child taken
pub taken-child : (room : ℕ) (xs : List Frame) (n : ℕ) (frame d : Frame) (now : Tower) → record { room = room; frames = reverse xs } ≡ now →
    n + 1 ≡ length xs → frame ≡ get_or xs n d →
    record { room = room; frames = reverse (slice_set xs n (record frame { wait = None })) } ≡ with_frames now (without_child now.frames)
taken-child room xs n frame d now is last top =
    let same : record frame { wait = None } ∷ reverse (take n xs) ≡ without_child (reverse xs) =
    rw (reverse-top xs n d last, ← top) refl in
    rw (reverse-set_top xs n (record frame { wait = None }) last, same) (ap (λ (t : Tower). with_frames t (without_child t.frames)) is)

-- the frames when the top has given an answer and stays
pub advanced-kept : (room : ℕ) (xs : List Frame) (n : ℕ) (frame top d : Frame) (now : Tower) (tree : Tree) (machine : ℕ) →
    record { room = room; frames = reverse xs } ≡ now → n + 1 ≡ length xs → top ≡ get_or xs n d →
    stepped tree machine (after tree machine top) (answer_at tree machine top) ≡ Some frame →
    record { room = room; frames = reverse (slice_set xs n frame) } ≡ with_frames now (frames_after tree machine now.frames)
advanced-kept room xs n frame top d now tree machine is last top_is step =
    let same : frame ∷ reverse (take n xs) ≡ frames_after tree machine (reverse xs) =
    rw (reverse-top xs n d last, ← top_is, step) refl in
    rw (reverse-set_top xs n frame last, same) (ap (λ (t : Tower). with_frames t (frames_after tree machine t.frames)) is)
