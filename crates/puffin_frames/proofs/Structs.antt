-- The structs that packets hold are read back, and nothing else is read: each is read field by field.
use Rattle.std.proofs.Common.{◌≡◌, Bool, true, false, List, ◌++◌, ℕ, Some, refl, sym, ap}
use Rattle.std.proofs.lemmas.Option.{same_Some}
use Rattle.puffin_data.specs.declared.data.form.Form.{Form}
use Rattle.puffin_data.specs.declared.data.form.Form.TheVariants.{Short, Long}
use Rattle.puffin_data.specs.Text.Flags.{is_long, form_of_flag, flag_of_form}
use Rattle.std.specs.Prelude.{nat_lt}
use Rattle.puffin_data.specs.Value.Layout.{number}
use Rattle.puffin_data.proofs.lemmas.Readers.{IsReader, pair_reader, form_reader, checked_reader, optional_reader, items_reader}
use Rattle.puffin_data.proofs.lemmas.ValueReaders.{number_reader, word_reader, signed_reader, flag_reader, bytes_reader, text_reader}
use Rattle.puffin_frames.specs.Packet.Structs.{meta_layout, IsMeta, made_meta, meta_at, key_layout, IsThreadKey, made_key, key_at, form_layout, IsFormIn, form_in_at, facts_layout, AreStreamFacts, made_facts, facts_at, are_ordered, streams_layout, AreStreams, streams_at, IsId, id_at, detail_layout, IsDetail, made_detail, detail_at, details_layout, AreDetails, details_at, legacy_layout, IsLegacy, made_legacy, legacy_at}

pub meta_reader : IsReader IsMeta meta_layout meta_at
unfolding meta_at
meta_reader =
    let fields =
    pair_reader _ _ _ _ _ _ number_reader
    (pair_reader _ _ _ _ _ _ signed_reader
    (pair_reader _ _ _ _ _ _ signed_reader (pair_reader _ _ _ _ _ _ number_reader number_reader))) in
    form_reader _ _ _ made_meta (λ meta.
    (meta.frame_index, (meta.range_ns.0, (meta.range_ns.1, (meta.num_bytes, meta.num_scopes)))))
    (λ _. refl) (λ _. refl) fields

pub thread_reader : IsReader IsThreadKey key_layout key_at
unfolding key_at
thread_reader =
    let fields = pair_reader _ _ _ _ _ _ (optional_reader _ _ _ signed_reader) text_reader in
    form_reader _ _ _ made_key (λ thread. (thread.start, thread.name)) (λ _. refl) (λ _. refl) fields

-- ---- forms

flag_back : (b : Bool) → is_long (form_of_flag b) ≡ b
flag_back true = refl
flag_back false = refl

short_taken : (bytes : List ℕ) (form : Form) (rest : List ℕ) →
    form_in_at Short bytes ≡ Some (form, rest) →
    IsFormIn Short form × (bytes ≡ form_layout Short form ++ rest)
short_taken bytes form rest read =
    let same = same_Some (Short, bytes) (form, rest) read in
    (ap (λ (got : Form × List ℕ). got.0) (sym same), ap (λ (got : Form × List ℕ). got.1) same)

pub form_reader_in : (packed : Form) → IsReader (IsFormIn packed) (form_layout packed) (form_in_at packed)
form_reader_in Short = record {
  again = λ form rest short. ap (λ (form : Form). Some (form, rest)) (sym short);
  taken = λ bytes form rest are_bytes read. short_taken bytes form rest read;
}
form_reader_in Long = form_reader _ _ _ form_of_flag is_long flag_back flag_of_form flag_reader

pub facts_reader : (packed : Form) → IsReader (AreStreamFacts packed) (facts_layout packed) (facts_at packed)
unfolding facts_at
facts_reader packed =
    let fields =
    pair_reader _ _ _ _ _ _ (form_reader_in packed)
    (pair_reader _ _ _ _ _ _ bytes_reader
    (pair_reader _ _ _ _ _ _ number_reader
    (pair_reader _ _ _ _ _ _ number_reader (pair_reader _ _ _ _ _ _ signed_reader signed_reader)))) in
    form_reader _ _ _ made_facts (λ info. (info.form, (info.bytes, (info.num_scopes, (info.depth, info.range_ns)))))
    (λ _. refl) (λ _. refl) fields

pub streams_reader : (packed : Form) → IsReader (AreStreams packed) (streams_layout packed) (streams_at packed)
unfolding streams_at
streams_reader packed =
    checked_reader _ _ _ (are_ordered packed)
    (items_reader _ _ _ _ number_reader (pair_reader _ _ _ _ _ _ thread_reader (facts_reader packed)))

id_reader : IsReader IsId number id_at
id_reader = checked_reader _ _ _ (λ id. nat_lt 0 id) word_reader

pub detail_reader : IsReader IsDetail detail_layout detail_at
unfolding detail_at
detail_reader =
    let fields =
    pair_reader _ _ _ _ _ _ (optional_reader _ _ _ id_reader)
    (pair_reader _ _ _ _ _ _ (optional_reader _ _ _ text_reader)
    (pair_reader _ _ _ _ _ _ text_reader (pair_reader _ _ _ _ _ _ text_reader word_reader))) in
    form_reader _ _ _ made_detail (λ details.
    (details.id, (details.scope_name, (details.function_name, (details.file_path, details.line_nr))))) (λ _. refl)
    (λ _. refl) fields

pub details_reader : IsReader AreDetails details_layout details_at
unfolding details_at
details_reader = items_reader _ _ _ _ number_reader detail_reader

pub legacy_reader : IsReader IsLegacy legacy_layout legacy_at
unfolding legacy_at
legacy_reader =
    let fields =
    pair_reader _ _ _ _ _ _ number_reader
    (pair_reader _ _ _ _ _ _ (streams_reader Short)
    (pair_reader _ _ _ _ _ _ signed_reader
    (pair_reader _ _ _ _ _ _ signed_reader (pair_reader _ _ _ _ _ _ number_reader number_reader)))) in
    form_reader _ _ _ made_legacy (λ frame. (
      frame.meta.frame_index,
      (
        frame.streams,
        (frame.meta.range_ns.0, (frame.meta.range_ns.1, (frame.meta.num_bytes, frame.meta.num_scopes))),
      ),
    ))
    (λ _. refl) (λ _. refl) fields
