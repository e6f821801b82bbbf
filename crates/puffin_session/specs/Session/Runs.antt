-- A run of commands with their replies, from one state of a session to another.
use Rattle.std.specs.Prelude.{◌≡◌, ℕ, List, [], ◌∷◌, ◌++◌, length, Option, Some, None}
use Rattle.std.specs.Arc.{arc_value}
use Rattle.std.specs.declared.sync.Arc.{Arc}
use Rattle.std.specs.declared.alloc.Global.{Global}
use Rattle.puffin_data.specs.declared.data.form.Form.{Form}
use Rattle.puffin_frames.specs.declared.frame_data.frame.FrameData.{FrameData}
use Rattle.puffin_frames.specs.Frame.Contents.{packet_fields}
use Rattle.puffin_threads.specs.Details.{Details, AllHaveIds}
use Rattle.puffin_session.specs.declared.command.Command.{Command}
use Rattle.puffin_session.specs.declared.command.Reply.{Reply}
use Rattle.puffin_session.specs.declared.command.Reply.TheVariants as reply
use Rattle.puffin_session.specs.Session.History.{Opening, Action}
use Rattle.puffin_session.specs.Session.{SessionState, new_session, opening_of, StandsAfter}
use Rattle.puffin_session.specs.Session.Actions.{action_of, actions_of}
use Rattle.puffin_session.specs.Session.Replies.{MayReply}

-- Each command may get its reply and make these details known, after `done` and the commands before it. Callers state that the
-- three lists have equal lengths.
abbrev pub EachReply : Opening → List Action → List Command → List Reply → List (List Details) →
    Type 0
EachReply opening done (command ∷ commands) (reply ∷ replies) (details ∷ learnt) =
    MayReply opening done command reply details
    × EachReply opening (done ++ (action_of command reply details ∷ [])) commands replies learnt
EachReply opening done _ _ _ = Unit {0}

-- These commands, with these replies, lead from `old` to `new`.
pub record LeadsTo (old new : SessionState) (commands : List Command) (replies : List Reply) :
    Type 0 where
  pub num_replies : length replies ≡ length commands
  -- the details that became known by each command
  pub learnt : List (List Details)
  pub num_learnt : length learnt ≡ length commands
  -- before the first command, `old` is in the state of its opening: each stream spells the word that is due under its info
  pub opened : StandsAfter (opening_of old) [] old
  pub replies_stand : EachReply (opening_of old) [] commands replies learnt
  pub stands : StandsAfter (opening_of old) (actions_of commands replies learnt) new

-- These are the replies of a run of the commands in a new session of these threads, which ends in this state.
abbrev pub AreReplies : List (List ℕ × Form) → List Command → List Reply → SessionState → Type 0
AreReplies threads commands replies end = LeadsTo (new_session threads) end commands replies

-- the details that a frame lists, if there is one
abbrev pub details_listed : Option (Arc FrameData Global) → List Details
details_listed None = []
details_listed (Some frame) = (packet_fields (arc_value frame)).details

-- the details that a reply's frame lists, if it has one
abbrev pub details_of_reply : Reply → List Details
details_of_reply (reply.Frame emitted) = details_listed emitted.frame
details_of_reply _ = []

-- all details that a reply's frame lists have ids
abbrev pub HasIds : Reply → Type 0
HasIds reply = AllHaveIds (details_of_reply reply)
