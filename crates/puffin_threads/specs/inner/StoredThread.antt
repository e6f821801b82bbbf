-- How a thread stores its scopes, and the invariant of its state.
use Rattle.std.specs.Prelude.{◌≡◌, ◌≢◌, ℕ, ◌*◌, ◌≤◌, ℤ, pos, ◌≤ℤ◌, List, [], ◌∷◌, fold, Option, Some, None, string_bytes}
use Rattle.std.specs.Option.{option_map, option_or, IfSome}
use Rattle.puffin_data.specs.declared.data.form.Form.{Form}
use Rattle.puffin_data.specs.Forest.Spelling.{end_size}
use Rattle.puffin_data.specs.declared.data.info.StreamInfo.{StreamInfo}
use Rattle.puffin_data.specs.Forest.{Forest, IsForest, empty}
use Rattle.puffin_data.specs.Forest.Tour.{Event, Open, Close}
use Rattle.puffin_data.specs.Forest.Open.{Opened, IsOpened, open_spelling, size_place, with_ended}
use Rattle.puffin_data.specs.Forest.Words.{num_begun, open_after, most_open, least_open, greatest_close}
use Rattle.puffin_threads.specs.declared.thread_profiler.thread_state.ThreadState.TheInside.{Inside}
use Rattle.puffin_threads.specs.Details.{details_seen}
use Rattle.puffin_threads.specs.Thread.Events.{events_in}
use Rattle.puffin_threads.specs.Thread.Calls.{Thread, open_offsets}
use Rattle.puffin_threads.specs.inner.FirstStart.{first_open}
use Rattle.puffin_threads.specs.inner.Supplied.{IsSupplied}

-- the offsets of the open scopes' sizes, the innermost first
abbrev pub size_places : Form → List Opened → List ℕ
size_places form [] = []
size_places form (scope ∷ outer) = size_place form scope outer ∷ size_places form outer

-- the innermost of these offsets, or 0
abbrev pub innermost_place : List ℕ → ℕ
innermost_place [] = 0
innermost_place (place ∷ places) = place

-- what a word says of its scopes: the open ones, the innermost first, and the closed siblings of the next scope to begin
pub record WordScopes : Type 0 where
  pub opened : List Opened
  pub closed : Forest

-- before the first event
abbrev pub none_yet : WordScopes
none_yet = record { opened = []; closed = empty }

-- after the innermost of these open scopes, with these closed children, has ended
abbrev pub scopes_closed : List Opened → Forest → ℤ → WordScopes
scopes_closed [] closed stop = record { opened = []; closed = closed }
scopes_closed (scope ∷ outer) closed stop =
    record { opened = outer; closed = with_ended scope closed stop }

-- after one more event; a scope that begins stores the offset of the scope around it as its size
abbrev pub scopes_with : Form → WordScopes → Event → WordScopes
scopes_with form sofar (Open id text start) = record {
  opened =
      record {
        before = sofar.closed;
        id = id;
        start = start;
        text = text;
        size = innermost_place (size_places form sofar.opened);
      }
      ∷ sofar.opened;
  closed = empty;
}
scopes_with form sofar (Close stop) = scopes_closed sofar.opened sofar.closed stop

-- after all events of a word
unfoldable pub scopes_in : Form → List Event → WordScopes
scopes_in form word = fold (scopes_with form) none_yet word

-- the scopes that bytes hold
abbrev pub scopes_of : Form → List ℕ → WordScopes
scopes_of form bytes = scopes_in form (events_in form bytes)

-- Open scopes that can be written, with starts from 0 up to this time. Until one ends, the offset of the size of the scope around
-- it stands in the place of its size.
abbrev pub AreOpenBy : Form → ℤ → List Opened → Type 0
AreOpenBy form latest [] = Unit {0}
AreOpenBy form latest (scope ∷ outer) =
    IsOpened form scope × (pos 0 ≤ℤ scope.start) × (scope.start ≤ℤ latest)
    × (scope.size ≡ innermost_place (size_places form outer)) × AreOpenBy form latest outer

-- the bytes are those of a stream with the scopes of their word, which can be written
pub record HoldsScopes (form : Form) (bytes : List ℕ) (latest : ℤ) : Type 0 where
  pub whole : bytes ≡ open_spelling form (scopes_of form bytes).opened (scopes_of form bytes).closed
  pub opened : AreOpenBy form latest (scopes_of form bytes).opened
  pub closed : IsForest form (scopes_of form bytes).closed
  pub places : open_offsets form (events_in form bytes)
      ≡ size_places form (scopes_of form bytes).opened

-- the counts of a stream's scopes, open ones included; without scopes, also their range
pub record IsCounted (info : StreamInfo) (word : List Event) : Type 0 where
  pub num_scopes : info.num_scopes ≡ num_begun word
  pub depth : info.depth ≡ most_open 0 word
  pub range : word ≡ [] → info.range_ns ≡ (least_open [], greatest_close [])

-- The times of a word never fall: its first start is the least one, and once all scopes have ended its latest time is the greatest
-- stop.
pub record IsInOrder (word : List Event) (latest : ℤ) : Type 0 where
  pub least : IfSome (first_open word) (λ start. (least_open word ≡ start) × (start ≤ℤ latest))
  pub greatest : greatest_close word ≤ℤ latest
  pub last : open_after 0 word ≡ 0 → word ≢ [] → greatest_close word ≡ latest

-- a stored state as contracts see it
abbrev pub thread_in : Inside → Thread
thread_in state = record {
  name = string_bytes state.name;
  form = state.info.stream.form;
  first_start =
      option_or state.first_start
      (first_open (events_in state.info.stream.form state.info.stream.bytes));
  latest = state.latest;
  word = events_in state.info.stream.form state.info.stream.bytes;
  details = details_seen state.details.items;
}

-- the copy of the name, if there is one
abbrev pub spare_name : Inside → Option (List ℕ)
spare_name state = option_map (λ name. string_bytes name) state.supply.copy

-- the invariant of a thread's state in this form
pub record IsThreadStateIn (form : Form) (state : Inside) : Type 0 where
  pub latest : pos 0 ≤ℤ state.latest
  pub scopes : ∥ HoldsScopes form state.info.stream.bytes state.latest ∥₁
  pub counted : IsCounted state.info (events_in form state.info.stream.bytes)
  pub in_order : IsInOrder (events_in form state.info.stream.bytes) state.latest
  pub num_open : state.num_open ≡ open_after 0 (events_in form state.info.stream.bytes)
  pub innermost : state.innermost
      ≡ innermost_place (open_offsets form (events_in form state.info.stream.bytes))
  -- each open scope can end without an allocation, and while one is open a copy of the name is ready for the report
  pub room : end_size * state.num_open ≤ state.info.stream.room
  pub has_spare : spare_name state ≡ None → state.num_open ≡ 0
  pub supplied : IsSupplied state.supply state.info.stream
  pub spare : (name : List ℕ) → spare_name state ≡ Some name → name ≡ string_bytes state.name

-- the invariant, in the form of the thread's stream
abbrev pub IsThreadState : Inside → Type 0
IsThreadState state = IsThreadStateIn state.info.stream.form state
