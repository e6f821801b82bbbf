-- A stream that is ready has enough room for a scope with a short text.
use Rattle.std.proofs.Common.{◌≢◌, ◌≤◌, ◌<◌, ℕ, ◌*◌, List, String, Global, length, Option, Some, None, Ok, refl, arith}
use Rattle.puffin_data.specs.Stream.{StreamState}
use Rattle.puffin_data.proofs.lemmas.Cuts.{most_of_one_byte}
use Rattle.puffin_threads.specs.inner.Supplied.{IsReady, IsSupplied, HasCopy, Prepares}
use Rattle.puffin_threads.specs.declared.thread_profiler.supply.Supply.{Supply}

pub prepares_short :
    (old new : Supply) (name : String Global) (stream : StreamState) (num_open : ℕ) (text : List ℕ) (ready : ℕ) →
    22 * num_open ≤ length stream.bytes → IsReady ready stream → length stream.bytes < ready → length text ≤ 127 →
    HasCopy old.copy new.copy name → IsSupplied new stream →
    Prepares old new name stream stream num_open text (Ok tt)
prepares_short old new name stream num_open text ready few is shorter small has supplied = record {
  enough = omega (arith, few, is, shorter, most_of_one_byte stream.form text small);
  copied = has;
  err = tt;
  supplied = supplied;
  bytes = refl;
  form = refl;
  room = omega arith;
  memory = tt;
}

-- a copy that is there stays
pub copy_stays : (copy : Option (String Global)) (name : String Global) → copy ≢ None → HasCopy copy copy name
copy_stays None name some = absurd (some refl)
copy_stays (Some it) name some = refl

pub copy_there : (old new : Option (String Global)) (name : String Global) → HasCopy old new name → new ≢ None
copy_there old None name has none = cc has
copy_there old (Some it) name has none = cc none
