-- When a scope begins without an allocation.
use Rattle.std.specs.Prelude.{◌≡◌, ◌≢◌, ℕ, ◌+◌, ◌*◌, ◌<◌, ◌≤◌, ◌⊎◌, List, String, length, Option, Some, None, Result, OnOk, OnErr, IsOkUnless, string_bytes, unwrap_or, option_map}
use Rattle.std.specs.Global.{Global}
use Rattle.puffin_data.specs.declared.error.Error.{Error}
use Rattle.puffin_data.specs.Forest.Spelling.{head_size, end_size}
use Rattle.puffin_data.specs.Stream.{StreamState}
use Rattle.puffin_data.specs.Text.{cut_text}
use Rattle.puffin_threads.specs.declared.thread_profiler.supply.Supply.{Supply}

-- While the stream is shorter than this, its room takes 158 bytes, for the beginning and the end of a scope with a short text, and
-- 9 bytes for the end of each open scope, whose beginning takes at least 22.
abbrev pub IsReady : ℕ → StreamState → Type 0
IsReady ready stream = 31 * ready + 22 * 158 ≤ 22 * (length stream.bytes + stream.room)

-- What a supply says of its stream is so.
pub record IsSupplied (supply : Supply) (stream : StreamState) : Type 0 where
  pub ready : 0 < supply.ready → IsReady supply.ready stream × (supply.copy ≢ None)
  pub limit : 0 < supply.limit → IsReady supply.limit stream

-- There is a copy of the name: the one that was there, or a new one.
abbrev pub HasCopy : Option (String Global) → Option (String Global) → String Global → Type 0
HasCopy old new name =
    option_map (λ copy. string_bytes copy) new
    ≡ Some (unwrap_or (option_map (λ copy. string_bytes copy) old) (string_bytes name))

-- There are a copy of the name and room for the beginning of a scope with this text, its end and the ends of the open scopes; or
-- memory is missing. The bytes don't change. `stream` is the stream before the call, and `stream'` after it.
pub record Prepares (old new : Supply) (name : String Global) (stream stream' : StreamState)
    (num_open : ℕ) (text : List ℕ) (result : Result (Unit {0}) Error) : Type 0 where
  pub enough : OnOk result (
      head_size stream.form (cut_text stream.form text) + end_size * (num_open + 1) ≤ stream'.room)
  pub copied : OnOk result (HasCopy old.copy new.copy name)
  pub err : OnErr result ((new.copy ≡ old.copy) ⊎ HasCopy old.copy new.copy name)
  pub supplied : IsSupplied new stream'
  pub bytes : stream'.bytes ≡ stream.bytes
  pub form : stream'.form ≡ stream.form
  pub room : stream.room ≤ stream'.room
  pub memory : IsOkUnless result Error.Memory
