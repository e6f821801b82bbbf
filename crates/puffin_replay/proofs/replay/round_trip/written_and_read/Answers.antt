-- What was written is the file of the view, and so what is read has its frames.
use Rattle.std.proofs.Common.{ℕ, List, Vec, Global, ◌++◌, ap, ◌∙◌, inl}
use Rattle.std.proofs.lemmas.Result.{IfOk-weaker, IfErr-weaker}
use Rattle.puffin_view.specs.View.Known.{view_of}
use Rattle.puffin_view.specs.View.File.{file_of, fields_in}
use Rattle.puffin_replay.specs.inner.InMemory.{IsFileOf}
use Rattle.puffin_replay.proofs.Promises.{write_fault}
use Rattle.puffin_replay.proofs.replay.round_trip.written_and_read.Goals as goal
use Rattle.puffin_replay.proofs.replay.round_trip.written_and_read.Goals.{After-drop-into_inner}

is_file : (c : After-drop-into_inner) → IsFileOf c.as_slice.result.now (view_of c.args.view.now)
is_file c =
    let items : Vec ℕ Global → List ℕ = λ v. v.items in
    record {
      file = c.as_slice.ensures.value ∙ ap items c.into_inner.ensures ∙ c.in-Ok.ensures.ok
          ∙ ap (λ (bs : List ℕ). bs ++ file_of (fields_in (view_of c.args.view.now)))
          (ap items c.new-file.ensures.device ∙ c.new.ensures.items);
      packed = c.in-Ok.ensures.packed;
    }

pub returns-in-Ok-clause-ok : goal.returns-in-Ok-clause-ok
returns-in-Ok-clause-ok c =
    IfOk-weaker c.read_file.result _ _ (λ read is. is (view_of c.args.view.now) (is_file c)) c.read_file.ensures.ok

pub returns-in-Ok-clause-fault : goal.returns-in-Ok-clause-fault
returns-in-Ok-clause-fault c =
    IfErr-weaker c.read_file.result _ _ (λ e is. inl (is (view_of c.args.view.now) (is_file c))) c.read_file.ensures.fault

pub returns-in-Err-clause-fault : goal.returns-in-Err-clause-fault
returns-in-Err-clause-fault c =
    write_fault (fields_in (view_of c.args.view.now)) c.in-Err.fault c.in_memory.result c.in-Err.ensures.cause
    c.in-Err.ensures.too_long c.in_memory.ensures.io c.in_memory.ensures.other
