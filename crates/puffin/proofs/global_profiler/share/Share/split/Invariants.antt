-- So many shares are made, each with a part of both ledgers and an author; the others' parts are left.
use Rattle.std.specs.Prelude.{◌≡◌, ◌+◌, ◌≤◌, [], vec_len, vec_capacity, All}
use Rattle.puffin.specs.Members.{IsNewMember}
use Rattle.puffin.proofs.global_profiler.share.Share.split.Given as goal

abbrev pub invariant-loop-i : goal.invariant-loop-i
invariant-loop-i g l = record {
  reported_parts : l.reported.parts + l._i ≡ l.n;
  handed_parts : l.handed.parts + l._i ≡ l.n;
  reported : l.reported.amount ≡ 0;
  handed : l.handed.amount ≡ 0;
  authors : l.log.authors ≡ l._i;
  entries : l.log.entries ≡ [];
  room : l.n ≤ vec_capacity l.shares;
  made : vec_len l.shares ≡ l._i;
  new : All IsNewMember l.shares.items;
}
