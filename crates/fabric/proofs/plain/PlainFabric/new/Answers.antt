use Rattle.std.proofs.Common.{rules, ◌≡◌, ◌*◌, ap, ◌∙◌, refl, replicate}
use Rattle.fabric.specs.Queue.{empty_queue}
use Rattle.fabric.specs.Shared.{room_of}
use Rattle.fabric.proofs.Starts.{IsNew, new-is, new-kept}
use Rattle.fabric.proofs.plain.PlainFabric.new.Goals as goal

made : (c : goal.After-result-1) → IsNew (record {
  shape = c.args.shape.now;
  roots = c.in_ok-roots.roots;
  pools = c.in_ok-pools.pools;
  inboxes = c.in_ok-inboxes.inboxes;
  used = c.in_ok-used.used;
  flying = c.in_ok-flying.flying;
  cursors = c.in_ok-cursors.cursors;
  enrolled = c.in_ok-enrolled.enrolled;
  closed = 0;
}) c.args.roots.now
made c =
    let machines = c.machines-machines.ensures.number in
    let stages = c.stages.ensures.number in
    let rows : c.machines-machines.result * c.stages.result ≡ c.args.shape.now.machines * c.args.shape.now.stages = ap (λ n. n * c.stages.result) machines ∙ ap (λ n. c.args.shape.now.machines * n) stages in
    let words : c.machines-machines.result * c.stages.result * c.machines-machines.result ≡ c.args.shape.now.machines * c.args.shape.now.stages * c.args.shape.now.machines =
    ap (λ n. n * c.machines-machines.result) rows ∙ ap (λ n. c.args.shape.now.machines * c.args.shape.now.stages * n) machines in
    let room : c.max-room.result ≡ room_of c.args.shape.now = search rules in
    let inboxes : c.in_ok-inboxes.inboxes.items ≡ replicate (c.machines-machines.result * c.stages.result) (empty_queue c.max-room.result) = search rules in
    let used : c.in_ok-used.used.items ≡ replicate (c.machines-machines.result * c.stages.result * c.machines-machines.result) 0 = search rules in
    let flying : c.in_ok-flying.flying.items ≡ replicate (c.machines-machines.result * c.stages.result * c.machines-machines.result) 0 = search rules in
    let cursors : c.in_ok-cursors.cursors.items ≡ replicate c.machines-machines.result 0 = search rules in
    let enrolled : c.in_ok-enrolled.enrolled.items ≡ replicate c.machines-machines.result c.workers.result = search rules in
    record {
      shape = c.machines-machines.ensures.sound;
      some_roots = c.requires;
      same_roots = search rules;
      pool_count = search rules;
      pools = search rules;
      inboxes = inboxes ∙ ap (λ n. replicate n (empty_queue c.max-room.result)) rows ∙ ap (λ n. replicate (c.args.shape.now.machines * c.args.shape.now.stages) (empty_queue n)) room;
      used = used ∙ ap (λ n. replicate n 0) words;
      flying = flying ∙ ap (λ n. replicate n 0) words;
      cursors = cursors ∙ ap (λ n. replicate n 0) machines;
      enrolled = enrolled ∙ ap (λ n. replicate n c.workers.result) machines ∙ ap (λ n. replicate c.args.shape.now.machines n) c.workers.ensures.number;
      closed = refl;
    }

pub invariant_of-result : goal.invariant_of-result
invariant_of-result c = new-kept _ _ (made c)

pub returns : goal.returns
returns c = new-is _ _ (made c)
