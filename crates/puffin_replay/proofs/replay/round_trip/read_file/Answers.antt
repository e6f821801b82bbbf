-- What is read of a view's file are the view's frames; if it fails, that is memory, or details have no id.
use Rattle.std.proofs.Common.{rules, ◌≡◌, ℕ, List, ◌^◌, ◌<◌, length, arith, sym, subst}
use Rattle.puffin_frames.proofs.lemmas.Packets.{packet_again}
use Rattle.puffin_view.proofs.lemmas.FilesAgain.{frames_again, fault_again, view_again}
use Rattle.puffin_replay.specs.inner.InMemory.{IsFileOf}
use Rattle.puffin_replay.proofs.Promises.{read_again, read_fault}
use Rattle.puffin_replay.proofs.replay.round_trip.read_file.Goals as goal

pub returns-in-Ok-clause-ok : goal.returns-in-Ok-clause-ok
returns-in-Ok-clause-ok c = λ v of.
    let bytes = c.new.result.reader.now in
    let same : bytes ≡ c.args.bytes.now = search rules in
    let short : length c.args.bytes.now < 2 ^ 64 = omega arith in
    read_again (λ cs new frames all few h. frames_again cs new frames packet_again all few h)
    (λ w new view all few h. view_again w new view packet_again all few h) v bytes _ c.in-Ok.view
    (subst (λ (bs : List ℕ). IsFileOf bs v) (sym same) of)
    (subst (λ (bs : List ℕ). length bs < 2 ^ 64) (sym same) short) c.in-Ok.ensures.file

pub returns-in-Err-clause-fault : goal.returns-in-Err-clause-fault
returns-in-Err-clause-fault c = λ v of.
    let bytes = c.new.result.reader.now in
    let same : bytes ≡ c.args.bytes.now = search rules in
    let short : length c.args.bytes.now < 2 ^ 64 = omega arith in
    read_fault (λ cs new e all few h not_it. fault_again cs new e packet_again all few h not_it) v bytes _
    c.in-Err.fault c.in_memory.result c.in_memory.ensures.io c.in_memory.ensures.other
    (subst (λ (bs : List ℕ). IsFileOf bs v) (sym same) of)
    (subst (λ (bs : List ℕ). length bs < 2 ^ 64) (sym same) short) c.in-Err.ensures.file
