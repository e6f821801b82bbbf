-- The frames so far were added.
use Rattle.std.proofs.Common.{◌≡◌, ◌≤◌, ◌*◌, ◌^◌, take}
use Rattle.puffin_threads.specs.Thread.ThreadKey.{key_of}
use Rattle.puffin_merge.specs.Merge.FrameBytes.{most_tries}
use Rattle.puffin_merge.specs.Merge.Scopes.{frames_bytes}
use Rattle.puffin_merge.proofs.AllAdded.{AddedFirst}
use Rattle.puffin_merge.proofs.merge.merge_scopes_counted.Given as goal

abbrev pub invariant-loop-frame : goal.invariant-loop-frame
invariant-loop-frame l = record {
  info : key_of l.merger.info.now ≡ key_of l.info;
  added : AddedFirst (frames_bytes (key_of l.info) l.frames) l.frame-index l.merger l.tries;
  few : l.tries ≤ most_tries (take l.frame-index (frames_bytes (key_of l.info) l.frames));
  low : l.tries ≤ l.frame-index * 2 ^ 64;
}
