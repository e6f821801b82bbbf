-- A run of a script writes its file and lines; or nothing, a prefix of the file, or the file and a prefix of the lines.
use Rattle.std.proofs.Common.{List, ℕ, Err, map, string_bytes, refl, sym, subst, ap, ◌∙◌, inl}
use Rattle.std.proofs.lemmas.Result.{err_from_is_err_and, on_ok_weaker}
use Rattle.puffin_session.specs.declared.command.Reply.{Reply}
use Rattle.puffin_session.specs.Session.{SessionState, new_session}
use Rattle.puffin_replay.specs.Program.Recording.{IsBroken}
use Rattle.puffin_replay.specs.Promise.{EmitsDue}
use Rattle.puffin_view.specs.View.{View}
use Rattle.puffin_view.specs.View.File.{fields_held}
use Rattle.puffin_replay.specs.Program.ReplyLines.{reply_lines}
use Rattle.puffin_report.specs.Summary.{NoneLacksIds}
use Rattle.puffin_report.proofs.lemmas.WrittenLines.{told-cut}
use Rattle.puffin_replay.proofs.Recording.{unfinished, no_lines, cut_lines, replayed}
use Rattle.puffin_replay.proofs.replay.recording.run_script.Goals as goal

pub returns-in_err-replies-clause-fails : goal.returns-in_err-replies-clause-fails
returns-in_err-replies-clause-fails g c =
    let p = err_from_is_err_and c.from_residual-in_err-replies.result c.from_residual-in_err-replies.ensures.1 in
    let script = c.args.script.now in
    let threads = map (λ t. (string_bytes t.0, t.1)) c.in_ok-threads.threads.items in
    let said = c.in_ok-threads.ensures in
    let commands = c.deref.result.now in
    let given = c.deref.ensures.value in
    let empty = c.loose_view-view.result in
    let is_empty = c.loose_view-view.ensures.frames in
    let view = c.record_session.new.view in
    let end = c.record_session.new.session in
    let file_before = g.D.Drain.contents c.args.out.now in
    let file_after = g.D.Drain.contents c.record_session.new.drain in
    let lines_before = g.E.Drain.contents c.args.lines.now in
    let fault = c.in_err-replies.field-0.0 in
    let broken = subst (λ (start : SessionState). IsBroken start end commands empty view file_before file_after fault)
    c.in_ok-session.ensures.new c.in_err-replies.ensures.broken in
    rw (p.1, p.2)
    (unfinished script threads commands said given empty view is_empty fault file_before file_after lines_before
    (end, broken)
    (λ e. c.in_err-replies.ensures.too_long (ap Err e)))

pub returns-in_err-text-clause-fails : goal.returns-in_err-text-clause-fails
returns-in_err-text-clause-fails g c =
    let p = err_from_is_err_and c.from_residual-in_err-text.result c.from_residual-in_err-text.ensures.1 in
    let script = c.args.script.now in
    let threads = map (λ t. (string_bytes t.0, t.1)) c.in_ok-threads.threads.items in
    let said = c.in_ok-threads.ensures in
    let commands = c.deref.result.now in
    let given = c.deref.ensures.value in
    let empty = c.loose_view-view.result in
    let is_empty = c.loose_view-view.ensures.frames in
    let view = c.record_session.new.view in
    let end = c.record_session.new.session in
    let file_before = g.D.Drain.contents c.args.out.now in
    let file_after = g.D.Drain.contents c.record_session.new.drain in
    let lines_before = g.E.Drain.contents c.args.lines.now in
    let recorded = c.in_ok-replies.ensures.recorded in
    let ran = recorded.taken in
    let replies = c.in_ok-replies.replies.items in
    let run : (last : SessionState) × EmitsDue (new_session threads) last commands replies =
    (end, subst (λ (start : SessionState). EmitsDue start end commands replies) c.in_ok-session.ensures.new ran.run) in
    let ids = ran.ids (subst (λ (v : View). NoneLacksIds (fields_held v)) (sym is_empty) refl) in
    rw p.1
    (no_lines script threads commands said given empty view is_empty replies run ran.view file_before file_after
    recorded.written ids p.0 lines_before p.2)

pub returns-clause-ok : goal.returns-clause-ok
returns-clause-ok g c =
    let script = c.args.script.now in
    let threads = map (λ t. (string_bytes t.0, t.1)) c.in_ok-threads.threads.items in
    let said = c.in_ok-threads.ensures in
    let commands = c.deref.result.now in
    let given = c.deref.ensures.value in
    let empty = c.loose_view-view.result in
    let is_empty = c.loose_view-view.ensures.frames in
    let view = c.record_session.new.view in
    let end = c.record_session.new.session in
    let file_before = g.D.Drain.contents c.args.out.now in
    let file_after = g.D.Drain.contents c.record_session.new.drain in
    let lines_before = g.E.Drain.contents c.args.lines.now in
    let recorded = c.in_ok-replies.ensures.recorded in
    let ran = recorded.taken in
    let replies = c.in_ok-replies.replies.items in
    let run : (last : SessionState) × EmitsDue (new_session threads) last commands replies =
    (end, subst (λ (start : SessionState). EmitsDue start end commands replies) c.in_ok-session.ensures.new ran.run) in
    let ids = ran.ids (subst (λ (v : View). NoneLacksIds (fields_held v)) (sym is_empty) refl) in
    let lines_after = g.E.Drain.contents c.write_all.new.drain in
    let bytes = c.as_bytes.result.now in
    let lines = c.as_bytes.ensures.value
    ∙ c.in_ok-text.ensures
    ∙ ap (λ (numbers : List ℕ). reply_lines numbers c.deref-3.result.now) c.deref-2.ensures.value
    ∙ ap (λ (rs : List Reply). reply_lines script.lines.items rs) c.deref-3.ensures.value in
    on_ok_weaker c.write_all.result
    (replayed script threads commands said given empty view is_empty replies run ran.view file_before file_after
    recorded.written ids bytes lines_before lines_after ran.took c.loose_view-view.ensures.took lines recorded.packed)
    c.write_all.ensures.ok

pub returns-clause-fails : goal.returns-clause-fails
returns-clause-fails g c =
    let script = c.args.script.now in
    let threads = map (λ t. (string_bytes t.0, t.1)) c.in_ok-threads.threads.items in
    let said = c.in_ok-threads.ensures in
    let commands = c.deref.result.now in
    let given = c.deref.ensures.value in
    let empty = c.loose_view-view.result in
    let is_empty = c.loose_view-view.ensures.frames in
    let view = c.record_session.new.view in
    let end = c.record_session.new.session in
    let file_before = g.D.Drain.contents c.args.out.now in
    let file_after = g.D.Drain.contents c.record_session.new.drain in
    let lines_before = g.E.Drain.contents c.args.lines.now in
    let recorded = c.in_ok-replies.ensures.recorded in
    let ran = recorded.taken in
    let replies = c.in_ok-replies.replies.items in
    let run : (last : SessionState) × EmitsDue (new_session threads) last commands replies =
    (end, subst (λ (start : SessionState). EmitsDue start end commands replies) c.in_ok-session.ensures.new ran.run) in
    let ids = ran.ids (subst (λ (v : View). NoneLacksIds (fields_held v)) (sym is_empty) refl) in
    let lines_after = g.E.Drain.contents c.write_all.new.drain in
    let bytes = c.as_bytes.result.now in
    let lines = c.as_bytes.ensures.value
    ∙ c.in_ok-text.ensures
    ∙ ap (λ (numbers : List ℕ). reply_lines numbers c.deref-3.result.now) c.deref-2.ensures.value
    ∙ ap (λ (rs : List Reply). reply_lines script.lines.items rs) c.deref-3.ensures.value in
    told-cut _ _ c.write_all.result
    (λ fault io part.
    cut_lines script threads commands said given empty view is_empty replies run ran.view file_before file_after
    recorded.written ids fault bytes lines_before lines_after lines part (inl io))
    c.write_all.ensures.err c.write_all.ensures.io
