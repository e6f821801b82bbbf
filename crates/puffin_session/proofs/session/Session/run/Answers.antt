-- Nothing has run yet; and what a command did is added to what the commands before it did.
use Rattle.std.proofs.Common.{◌≡◌, ◌+◌, [], ◌∷◌, ◌++◌, take, sym, ap, ◌∙◌, subst, arith}
use Rattle.std.proofs.lemmas.List.{take_more}
use Rattle.std.proofs.lemmas.List.Elements.{All-nil, All-push}
use Rattle.puffin_session.specs.Session.Runs.{HasIds}
use Rattle.puffin_session.specs.declared.command.Command.{Command}
use Rattle.puffin_session.specs.Session.{SessionState}
use Rattle.puffin_frames.specs.Frame.Contents.{AreHonest}
use Rattle.puffin_session.proofs.Openings.{StandsAfter-opening}
use Rattle.puffin_session.proofs.Running.{RunsTo-none, RunsTo-more}
use Rattle.puffin_session.proofs.DueSums.{SumsTo-opening}
use Rattle.puffin_session.proofs.session.Session.run.Goals as goal

pub loop-command-init : goal.loop-command-init
loop-command-init c =
    let now = c.args.self.now in
    let honest : AreHonest now.collected.streams =
    subst (λ (s : SessionState). AreHonest s.collected.streams) c.self.view_is c.totals.ensures.honest in
    record {
      ran = rw c.in_ok-replies.ensures.items (RunsTo-none now (StandsAfter-opening now honest) (SumsTo-opening now honest));
      ids = rw c.in_ok-replies.ensures.items (All-nil HasIds);
      room = c.in_ok-replies.ensures.capacity;
      filled = c.in_ok-replies.ensures.len;
    }

pub loop-command-preserved : goal.loop-command-preserved
loop-command-preserved c =
    let i = c.loop-command.command-index in
    let commands = c.args.commands.now in
    let command = c.command-item.result in
    let before = c.loop-command.invariant in
    let more : take (i + 1) commands ≡ take i commands ++ (command ∷ []) =
    take_more commands i command (omega (arith, c.loop-command-test.true))
    ∙ ap (λ (x : Command). take i commands ++ (x ∷ [])) (sym c.command-item.is) in
    record {
      ran = rw (more, c.push_reserved.ensures.items)
          (RunsTo-more c.args.self.now c.loop-command.self c.serve-reply.new.self (take i commands)
          c.loop-command.replies.items command c.serve-reply.result before.ran c.serve-reply.ensures.continues);
      ids = rw c.push_reserved.ensures.items
          (All-push HasIds c.loop-command.replies.items c.serve-reply.result before.ids c.serve-reply.ensures.ids);
      room = omega (arith, before.room, c.push_reserved.ensures.capacity);
      filled = omega (arith, before.filled, c.push_reserved.ensures.len);
    }
