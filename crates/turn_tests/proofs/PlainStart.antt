-- Plain tables at the start of a run agree with a worker that holds nothing.
use Rattle.std.proofs.Common.{◌≡◌, ℕ, ◌+◌, ◌*◌, ◌/◌, ◌<◌, Bool, true, false, cond, ◌&&◌, List, [], length, get_or, replicate, Some, None, refl, sym, ap, ◌∙◌, arith, zero, suc}
use Rattle.std.specs.Prelude.{slice_get, nat_lt, nat_eq}
use Rattle.std.proofs.lemmas.List.{get_or-replicate}
use Rattle.std.proofs.lemmas.Nat.{div_below}
use Rattle.std.proofs.lemmas.Option.{none-some}
use Rattle.adfs_base.specs.Shape.{Extents, IsShape, pool_of}
use Rattle.fabric.specs.Plain.{PlainAgrees, buffers_in}
use Rattle.fabric.specs.Shared.{start, inbox_at}
use Rattle.fabric.proofs.Starts.{start-shared, alike}
use Rattle.match_context.specs.declared.message.Message.{Message}
use Rattle.dfs_worker.proofs.Fresh.{fresh_holding}

zero-at : (n i : ℕ) → get_or {A = ℕ} (replicate n 0) i 0 ≡ zero
zero-at zero i = refl
zero-at (suc n) zero = refl
zero-at (suc n) (suc i) = zero-at n i

none-held : (a b : Bool) → cond a 0 0 + cond b 0 0 ≡ 0
none-held true true = refl
none-held true false = refl
none-held false true = refl
none-held false false = refl

no-buffers : (home n : ℕ) → buffers_in home (replicate n []) ≡ 0
no-buffers home zero = refl
no-buffers home (suc n) = let rest = no-buffers home n in omega arith

-- an inbox at the start is empty
empty-inbox : (shape : Extents) (roots : List ℕ) (machine stage i : ℕ) (messages : List Message) (message : Message) → inbox_at (start shape roots) machine stage ≡ Some messages → slice_get messages i ≡ Some message → ⊥
empty-inbox shape roots machine stage i messages message is at = go (nat_lt 0 stage && nat_lt stage shape.stages) refl
  where
    go : (b : Bool) → (nat_lt 0 stage && nat_lt stage shape.stages) ≡ b → ⊥
    go false e = none-some messages (sym (ap (λ b. cond b (slice_get (replicate (shape.machines * shape.stages) []) (machine * shape.stages + stage)) None) e) ∙ is)
    go true e =
        let there = sym (ap (λ b. cond b (slice_get (replicate (shape.machines * shape.stages) []) (machine * shape.stages + stage)) None) e) ∙ is in
        let none = alike (shape.machines * shape.stages) [] (machine * shape.stages + stage) messages there in
        none-some message (sym (ap (λ ms. slice_get ms i) none) ∙ at)

pub start-agrees : (shape : Extents) (roots : List ℕ) (w : ℕ) → IsShape shape → length roots ≡ shape.machines → w < shape.machines * shape.workers → PlainAgrees (start shape roots) w fresh_holding
start-agrees shape roots w is count within = record {
  shared = start-shared shape roots is count;
  worker_in = within;
  credits = λ from stage to unit.
      let at = (from * shape.stages + stage) * shape.machines + to in
      let a = zero-at (shape.machines * shape.stages * shape.machines) at in
      let b = none-held (nat_eq from (w / shape.workers)) (nat_eq to (w / shape.workers)) in
      omega arith;
  enrolled = λ e.
      let some = is.some_worker in
      let a = get_or-replicate shape.machines (w / shape.workers) shape.workers 0 (div_below w shape.workers shape.machines some within) in
      omega arith;
  buffers = λ home low.
      let a = get_or-replicate shape.machines home (pool_of shape) 0 low in
      let b = no-buffers home (shape.machines * shape.stages) in
      omega arith;
  messages = λ machine stage i waiting message there at. absurd (empty-inbox shape roots machine stage i waiting message there at);
  cursors = λ machine. let a = zero-at shape.machines machine in omega arith;
  ended = λ e. cc;
  closed = omega arith;
  looked = λ e. cc;
}
