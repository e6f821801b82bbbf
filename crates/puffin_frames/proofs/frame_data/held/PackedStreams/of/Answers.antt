-- The bytes are the layout of the map's entries, and are read as the same map.
use Rattle.std.proofs.Common.{◌≡◌, Some, List, ap, sym, ◌∙◌}
use Rattle.puffin_data.specs.declared.data.form.Form.{Form}
use Rattle.puffin_frames.specs.declared.frame_data.kind.Kind.TheVariants.{Uncompressed}
use Rattle.puffin_data.specs.Honesty.{StreamFacts}
use Rattle.puffin_threads.specs.Thread.ThreadKey.{ThreadKey}
use Rattle.puffin_frames.proofs.FormsOfAll.{sorted_in}
use Rattle.std.specs.Option.{option_map}
use Rattle.std.specs.FinMap.{from_sorted}
use Rattle.puffin_data.specs.Value.Decoding.{whole}
use Rattle.puffin_data.proofs.lemmas.Readers.{whole_again}
use Rattle.puffin_frames.specs.inner.Pairs.{pairs_of}
use Rattle.puffin_frames.specs.Frame.Holding.{streams_in}
use Rattle.puffin_frames.specs.Packet.Structs.{form_of_all, AreStreams, streams_layout, streams_at}
use Rattle.puffin_frames.proofs.Structs.{streams_reader}
use Rattle.puffin_frames.proofs.Listed.{streams-listed, entries-listed}
use Rattle.puffin_frames.proofs.frame_data.held.PackedStreams.of.Goals as goal

pub returns-clause-ok : goal.returns-clause-ok
returns-clause-ok c =
    let es = c.args.streams.now.entries in
    let put = rw c.in_ok-bytes.ensures.items at c.in_ok-put_streams.ensures.ok in
    let form = c.packed_form-form.result in
    let listed = entries-listed es (sorted_in form (pairs_of es) c.in_ok-put_streams.ensures.fit.1) in
    c.new.ensures ∙ ap (λ bytes. record { form = form; kind = Uncompressed; bytes = bytes }) put
    ∙ ap (λ (f : Form). record { form = f; kind = Uncompressed; bytes = streams_layout f (pairs_of es) })
    c.packed_form-form.ensures
    ∙ ap (λ (xs : List (ThreadKey × StreamFacts)).
    record { form = form_of_all xs; kind = Uncompressed; bytes = streams_layout (form_of_all xs) xs }) (sym listed)

pub returns-clause-content : goal.returns-clause-content
returns-clause-content c =
    let es = c.args.streams.now.entries in
    let put = rw c.in_ok-bytes.ensures.items at c.in_ok-put_streams.ensures.ok in
    let form = c.packed_form-form.result in
    let read : whole (streams_at form) c.put_streams.new.out.items ≡ Some (pairs_of es) =
    ap (whole (streams_at form)) put
    ∙ whole_again (AreStreams form) (streams_layout form) (streams_at form) (streams_reader form) (pairs_of es)
    c.in_ok-put_streams.ensures.fit in
    ap streams_in c.new.ensures
    ∙ ap (option_map from_sorted) read
    ∙ ap Some (streams-listed es (sorted_in form (pairs_of es) c.in_ok-put_streams.ensures.fit.1))
