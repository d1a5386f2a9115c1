use Rattle.std.proofs.Common.{◌≡◌, map, drop}
use Rattle.adfs_base.specs.Files.{file_of}
use Rattle.adfs_base.proofs.mem_store.find.Given as goal

-- the file is among those that are left
abbrev pub invariant-loop-file : goal.invariant-loop-file
invariant-loop-file l =
    file_of l.name (map (λ f. (f.0, f.1.items)) (drop l.file-index l.files)) ≡ file_of l.name (map (λ f. (f.0, f.1.items)) l.files)
