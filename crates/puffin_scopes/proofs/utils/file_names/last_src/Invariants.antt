-- The last `src` of the parts so far.
use Rattle.std.proofs.Common.{◌≡◌, ◌<◌, map, take, IfSome}
use Rattle.puffin_scopes.specs.Names.Files.{last_src}
use Rattle.puffin_scopes.proofs.utils.file_names.last_src.Given as goal

abbrev pub invariant-loop-i : goal.invariant-loop-i
invariant-loop-i l = record {
  place : l.last ≡ last_src (map (λ part. part.now) (take l.i l.parts));
  below : IfSome l.last (λ place. place < l.i);
}
