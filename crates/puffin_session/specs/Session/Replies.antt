-- Which replies a command may get after the actions before it.
use Rattle.std.specs.Prelude.{◌≡◌, ◌≢◌, ℕ, ℤ, pos, ◌+◌, ◌-◌, ◌^◌, ◌<◌, ◌≤◌, ◌⊎◌, List, [], ◌++◌, length, Some, None, Bool, MatchOption}
use Rattle.std.specs.String.{string_bytes}
use Rattle.std.specs.List.{flat_map, sum_by}
use Rattle.std.specs.Arc.{arc_value}
use Rattle.std.specs.FinMap.{values}
use Rattle.puffin_data.specs.declared.error.Error.{Error}
use Rattle.puffin_data.specs.declared.error.Error.TheVariants.{UnlikeForms, TooLarge, RangeTooLong, MismatchedEnd, IdsExhausted, IndexExhausted, NoThread, Memory}
use Rattle.puffin_data.specs.Forest.{Forest}
use Rattle.puffin_data.specs.Forest.Spelling.{Spells}
use Rattle.puffin_data.specs.Forest.Tour.{Event, tour}
use Rattle.puffin_data.specs.Walk.{IsFault}
use Rattle.puffin_data.specs.Forest.Words.{word_size, num_begun, open_after, least_open, greatest_close}
use Rattle.std.specs.Int.{int_max}
use Rattle.puffin_threads.specs.Thread.Calls.{after_end, key_of_thread, begun_place}
use Rattle.puffin_threads.specs.Thread.ThreadKey.{ThreadKey, key_of}
use Rattle.puffin_frames.specs.Frame.Sums.{meta_of}
use Rattle.puffin_frames.specs.Frame.Contents.{Streams, holding_of, frame_meta}
use Rattle.puffin_frames.specs.declared.frame_data.frame.FrameData.{FrameData}
use Rattle.puffin_threads.specs.declared.thread_profiler.reporter.Closed.{Closed}
use Rattle.puffin_threads.specs.declared.thread_profiler.reporter.Closed.TheVariants as closed
use Rattle.puffin_threads.specs.Details.{Details, shared_details}
use Rattle.puffin_threads.specs.Details.Collection.{Collection, IsPrefix}
use Rattle.puffin_collector.specs.Collector.State.{IsTooLong, delta_of}
use Rattle.puffin_collector.specs.Collector.Registering.{Registers, RegistersSome}
use Rattle.puffin_collector.specs.declared.emitted.Emitted.{Emitted}
use Rattle.puffin_session.specs.declared.command.Command.{Command}
use Rattle.puffin_session.specs.declared.command.Command.TheVariants.{Begin, End, Register, RegisterUser, ReportUser, Snapshot, NewFrame}
use Rattle.puffin_session.specs.declared.command.Reply.{Reply}
use Rattle.puffin_session.specs.declared.command.Reply.TheVariants as reply
use Rattle.puffin_threads.specs.Thread.Events.{events_in}
use Rattle.puffin_session.specs.Session.History.{Word, Opening, Action}
use Rattle.puffin_session.specs.Session.Deliveries.{Delivery, unreported}
use Rattle.puffin_session.specs.Session.Due.{due, IsUnlikeDue, events_of, bytes_delivered, scopes_delivered, index_after, reported_after, NoneDue}
use Rattle.puffin_session.specs.Session.Notes.{due_details, known_after, is_wanted}
use Rattle.puffin_session.specs.Session.{thread_after, word_of_thread, SpellsDue}
use Rattle.puffin_session.specs.Session.Actions.{user_details}

-- The frame with this index spells what was handed over, and its meta is that of its streams, which have at least one scope. It
-- is held unpacked only.
pub record SpellsFrame (frame : FrameData) (index : ℕ) (handed : List Delivery) : Type 0 where
  pub streams : Streams
  pub held : holding_of frame ≡ record { packed = None; unpacked = Some streams }
  pub spelled : SpellsDue streams handed
  pub meta : frame_meta frame ≡ meta_of index (values streams)
  pub some : 0 < (frame_meta frame).num_scopes

-- The frame lists exactly these new details, in order, and then, if a snapshot was wanted, all known ones; and it states whether
-- it was wanted.
pub record TellsScopes (frame : FrameData) (known : Collection) (new : List Details)
    (wanted : Bool) : Type 0 where
  pub delta : shared_details frame.scope_delta.items ≡ delta_of known new wanted
  pub full : frame.full_delta ≡ wanted

module _ (opening : Opening) (done : List Action) where
  -- a thread has this number
  abbrev pub HasThread : ℕ → Type 0
  HasThread thread = thread < length opening.threads

  -- the cause is that no thread has this number
  abbrev pub IsNoThread : ℕ → Error → Type 0
  IsNoThread thread cause = (cause ≡ NoThread) × (length opening.threads ≤ thread)

  -- how many scopes of a thread are open
  abbrev pub num_open : ℕ → ℕ
  num_open thread = open_after 0 (unreported opening thread done)

  -- the info and the word of a thread's report, if its last open scope ends at this time
  abbrev pub ending_key : ℕ → ThreadKey
  ending_key thread = key_of_thread (thread_after opening done thread)

  abbrev pub ending_word : ℕ → ℤ → Word
  ending_word thread at =
      word_of_thread (after_end (thread_after opening done thread) (int_max (pos 0) at))

  -- with this word added, the sums over all that is due fit 64 bits, and so does the sum over all that was ever reported
  pub record DueFits (word : Word) : Type 0 where
    pub bytes :
        sum_by bytes_delivered (due opening done) + word_size word.form word.events < 2 ^ 64
    pub scopes : sum_by scopes_delivered (due opening done) + num_begun word.events < 2 ^ 64
    pub reported : reported_after opening done + num_begun word.events < 2 ^ 64

  -- all events that are due, and this word's
  abbrev pub due_with : Word → List Event
  due_with word = flat_map events_of (due opening done) ++ word.events

  -- with this word added, the range of all that is due isn't reversed, and its duration doesn't fit i64
  abbrev pub DueIsTooLong : Word → Type 0
  DueIsTooLong word = IsTooLong (least_open (due_with word), greatest_close (due_with word))

  -- scopes are due under this info in another form than this word's
  abbrev pub HasOtherForm : ThreadKey → Word → Type 0
  HasOtherForm info word = IsUnlikeDue (due opening done) info word

  -- a report of this word under this info may be accepted
  abbrev pub MayReport : ThreadKey → Word → Type 0
  MayReport info word = (¬ HasOtherForm info word) × DueFits word × ¬ DueIsTooLong word

  -- why a report of this word under this info is refused: the first cause that applies
  abbrev pub IsDueRefusal : ThreadKey → Word → Error → Type 0
  IsDueRefusal info word cause =
      ((cause ≡ UnlikeForms) × HasOtherForm info word)
      ⊎ ((cause ≡ TooLarge) × (¬ HasOtherForm info word) × ¬ DueFits word)
      ⊎ ((cause ≡ RangeTooLong) × (¬ HasOtherForm info word) × DueFits word × DueIsTooLong word)
      ⊎ ((cause ≡ Memory) × MayReport info word)

  -- The innermost of `depth` open scopes was ended. If it was the last one, a report of this word under this info was accepted,
  -- or refused with this cause.
  abbrev pub MayClose : ℕ → ThreadKey → Word → Closed → Type 0
  MayClose depth info word closed.Inner = 1 < depth
  MayClose depth info word closed.Reported = (depth ≡ 1) × MayReport info word
  MayClose depth info word (closed.Kept cause) = (depth ≡ 1) × IsDueRefusal info word cause

  -- an emitted frame spells what was due and lists the details that were due; without a frame no scope was due
  abbrev pub FrameIsDue : Emitted → Type 0
  FrameIsDue emitted =
      MatchOption emitted.frame (NoneDue (due opening done)) (λ frame.
      SpellsFrame (arc_value frame) (index_after opening done) (due opening done)
      × TellsScopes (arc_value frame) (known_after opening done) (due_details opening done)
      (is_wanted opening done))

  -- After these actions a command may get this reply, with these details becoming known; no other pair is possible. A session
  -- sets no limits of bytes, so `Memory` means that memory ran out.
  abbrev pub MayReply : Command → Reply → List Details → Type 0
  MayReply (Begin thread at id text) (reply.Began offset) learnt =
      HasThread thread
      × (offset ≡ begun_place (thread_after opening done thread) (string_bytes text))
  MayReply (Begin thread at id text) (reply.Refused cause) learnt =
      IsNoThread thread cause ⊎ ((cause ≡ Memory) × HasThread thread)
  MayReply (End thread at back) (reply.Ended closed) learnt =
      HasThread thread
      × (back ≡ 0)
      × MayClose (num_open thread) (ending_key thread) (ending_word thread at) closed
  MayReply (End thread at back) (reply.Refused cause) learnt =
      IsNoThread thread cause
      ⊎ ((cause ≡ MismatchedEnd) × HasThread thread × ((0 < back) ⊎ (num_open thread ≡ 0)))
  MayReply (Register thread name function file line) (reply.Registered id) learnt =
      HasThread thread
  MayReply (Register thread name function file line) (reply.Refused cause) learnt =
      IsNoThread thread cause
      ⊎ (((cause ≡ IdsExhausted) ⊎ (cause ≡ Memory)) × HasThread thread)
  MayReply (RegisterUser names) (reply.RegisteredUser ids) learnt =
      Registers (known_after opening done) (user_details names.items) ids.items learnt
  MayReply (RegisterUser names) (reply.Refused cause) learnt =
      RegistersSome (known_after opening done) (user_details names.items) cause learnt
  MayReply (ReportUser info stream) reply.Reported learnt =
      (forest : Forest)
      × Spells stream.form stream.bytes forest
      × (events_in stream.form stream.bytes ≡ tour forest)
      × MayReport (key_of info) (record { form = stream.form; events = tour forest })
  MayReply (ReportUser info stream) (reply.Refused cause) learnt =
      (cause ≡ Memory)
      ⊎ IsFault stream.form stream.bytes cause
      ⊎ ((forest : Forest)
      × Spells stream.form stream.bytes forest
      × IsDueRefusal (key_of info) (record { form = stream.form; events = tour forest }) cause)
  MayReply Snapshot reply.Snapshot learnt = Unit {0}
  MayReply NewFrame (reply.Frame emitted) learnt =
      (emitted.refused ≡ 0)
      × (index_after opening done ≢ 2 ^ 64 - 1)
      × FrameIsDue emitted
  MayReply NewFrame (reply.Refused cause) learnt =
      ((cause ≡ IndexExhausted) × (index_after opening done ≡ 2 ^ 64 - 1) × (learnt ≡ []))
      ⊎ ((cause ≡ Memory) × IsPrefix learnt (due_details opening done))
  MayReply _ _ learnt = ⊥
