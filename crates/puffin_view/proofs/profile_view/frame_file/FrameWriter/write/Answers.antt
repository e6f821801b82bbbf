-- The packet has the details of all frames so far if it is the first. After a refusal with `Io` a prefix of it may be written.
use Rattle.std.proofs.Common.{rules, ◌≡◌, ℕ, List, Option, Err, refl, ap, subst, ◌∙◌}
use Rattle.std.specs.Prelude.{IfErr, IsTrue}
use Rattle.std.specs.List.{list_any}
use Rattle.std.proofs.lemmas.Result.{err_from_is_err_and}
use Rattle.puffin_data.specs.Device.{is_io}
use Rattle.puffin_data.specs.declared.error.Error.{Error}
use Rattle.puffin_threads.specs.Details.{shared_details, lacks_id}
use Rattle.puffin_threads.specs.Details.Collection.{Collection, with_all_details}
use Rattle.puffin_frames.specs.Packet.Stored.{PacketFields}
use Rattle.puffin_view.specs.View.FrameDevices.{next_fields}
use Rattle.puffin_view.specs.View.FrameFile.{HoldsFile, HoldsBegun, HoldsSoFar, fields_if, written_after}
use Rattle.puffin_view.proofs.FilesWritten.{packet_begun, packet_so_far, nothing_begun, refused_ids}
use Rattle.puffin_view.proofs.profile_view.frame_file.FrameWriter.write.Goals as goal

pub returns-clause-so_far : goal.returns-clause-so_far
returns-clause-so_far g c =
    let w = c.write_packet-written.ensures.written in
    let broke : c.match-matches.self ≡ is_io c.write_packet-written.result = search rules in
    let learnt = c.in_ok-insert_all.ensures.ok
    ∙ ap (λ ds. with_all_details c.args.self.now.scopes (shared_details ds)) c.deref.ensures.value in
    let same = ap (λ (s : Collection). fields_if c.args.self.now.is_first s c.args.frame.now) learnt in
    λ old cs h.
    subst (λ (p : PacketFields). HoldsSoFar c.match-matches.self old
    (g.D.Drain.contents c.write_packet-written.new.drain) (written_after c.write_packet-written.result cs p)) same
    (packet_so_far g.D.Drain.contents c.args.self.now.drain c.write_packet-written.new.drain
    _ c.args.self.now.is_broken c.match-matches.self c.write_packet-written.result c.if-self.false broke w.ok
    w.begun w.untouched w.cause old cs h)

pub returns-clause-begun : goal.returns-clause-begun
returns-clause-begun g c =
    let w = c.write_packet-written.ensures.written in
    let learnt = c.in_ok-insert_all.ensures.ok
    ∙ ap (λ ds. with_all_details c.args.self.now.scopes (shared_details ds)) c.deref.ensures.value in
    let same = ap (λ (s : Collection). fields_if c.args.self.now.is_first s c.args.frame.now) learnt in
    subst (λ (p : PacketFields). IfErr c.write_packet-written.result (λ e.
    (old : Option (List ℕ)) (cs : List PacketFields) → HoldsFile old (g.D.Drain.contents c.args.self.now.drain) cs
    → HoldsBegun old (g.D.Drain.contents c.write_packet-written.new.drain) cs p)) same
    (packet_begun g.D.Drain.contents c.args.self.now.drain c.write_packet-written.new.drain _
    c.write_packet-written.result w.begun w.untouched w.cause)

pub returns-in_err-insert_all-clause-begun : goal.returns-in_err-insert_all-clause-begun
returns-in_err-insert_all-clause-begun g c =
    let p = err_from_is_err_and c.from_residual.result c.from_residual.ensures.1 in
    rw p.1 (λ old cs h. nothing_begun old _ _ cs (next_fields c.args.self.now c.args.frame.now) h refl)

pub returns-in_err-insert_all-clause-missing : goal.returns-in_err-insert_all-clause-missing
returns-in_err-insert_all-clause-missing g c =
    let p = err_from_is_err_and c.from_residual.result c.from_residual.ensures.1 in
    let e = c.in_err-insert_all.field-0.0 in
    rw (p.1, p.2) (λ is. refused_ids e is c.in_err-insert_all.ensures.cause (λ missing.
    let refused = c.in_err-insert_all.was ∙ ap (λ (x : Error). Err x) missing in (
      subst (λ ds. IsTrue (list_any lacks_id (shared_details ds)))
          c.deref.ensures.value (c.in_err-insert_all.ensures.missing.0 (ap (λ (x : Error). Err x) missing)),
      c.insert_all.ensures.unchanged refused,
    )))
