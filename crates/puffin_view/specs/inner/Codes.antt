-- Frames and views as plain data: each is coded as the nested pairs of its fields, and made from them again.
use Rattle.std.specs.Prelude.{ℕ, ℤ, Bool, List, Option, refl}
use Rattle.std.specs.Coded.{Coded, code_by, coded×, coded_option, coded_list, coded_ℕ, coded_ℤ, coded_bool}
use Rattle.puffin_data.specs.declared.data.form.Form.{Form}
use Rattle.puffin_data.specs.Text.Flags.{form_code}
use Rattle.puffin_frames.specs.declared.frame_data.kind.Kind.{Kind}
use Rattle.puffin_frames.specs.declared.frame_data.meta.FrameMeta.{FrameMeta}
use Rattle.puffin_threads.specs.Details.{Details, details_code}
use Rattle.puffin_frames.specs.Packet.Kinds.{kind_code}
use Rattle.puffin_threads.specs.Details.Collection.{Collection, collection_code}
use Rattle.puffin_frames.specs.Packet.Stored.{PacketFields}
use Rattle.puffin_view.specs.View.ViewedFrames.{Frame}
use Rattle.puffin_view.specs.View.{View}
use Rattle.puffin_view.specs.View.Known.{KnownView}

abbrev pub meta_code : Coded FrameMeta
meta_code =
    code_by (ℕ × ((ℤ × ℤ) × (ℕ × ℕ))) (
    coded× coded_ℕ (coded× (coded× coded_ℤ coded_ℤ) (coded× coded_ℕ coded_ℕ)))
    (λ meta. (meta.frame_index, (meta.range_ns, (meta.num_bytes, meta.num_scopes))))
    (λ parts. record {
      frame_index = parts.0;
      range_ns = parts.1.0;
      num_bytes = parts.1.1.0;
      num_scopes = parts.1.1.1;
    })
    (λ _. refl)

abbrev pub fields_code : Coded PacketFields
fields_code =
    code_by (FrameMeta × (Form × (Kind × (List ℕ × List Details)))) (
    coded× meta_code (
    coded× form_code (coded× kind_code (coded× (coded_list coded_ℕ) (coded_list details_code)))))
    (λ fields. (fields.meta, (fields.form, (fields.kind, (fields.streams, fields.details)))))
    (λ parts. record {
      meta = parts.0;
      form = parts.1.0;
      kind = parts.1.1.0;
      streams = parts.1.1.1.0;
      details = parts.1.1.1.1;
    })
    (λ _. refl)

abbrev pub frame_code : Coded Frame
frame_code = code_by (PacketFields × (Bool × Bool)) (coded× fields_code (coded× coded_bool coded_bool))
    (λ frame. (frame.fields, (frame.is_unpacked, frame.is_packed)))
    (λ parts. record { fields = parts.0; is_unpacked = parts.1.0; is_packed = parts.1.1 })
    (λ _. refl)

abbrev pub view_code : Coded View
view_code =
    code_by (List Frame × (List Frame × (Option ℕ × (ℕ × (ℕ × Bool))))) (
    coded× (coded_list frame_code) (
    coded× (coded_list frame_code) (
    coded× (coded_option coded_ℕ) (coded× coded_ℕ (coded× coded_ℕ coded_bool)))))
    (λ view.
    (view.recent, (view.slow, (view.last, (view.max_recent, (view.max_slow, view.packs))))))
    (λ parts. record {
      recent = parts.0;
      slow = parts.1.0;
      last = parts.1.1.0;
      max_recent = parts.1.1.1.0;
      max_slow = parts.1.1.1.1.0;
      packs = parts.1.1.1.1.1;
    })
    (λ _. refl)

abbrev pub known_code : Coded KnownView
known_code = code_by (View × Collection) (coded× view_code collection_code)
    (λ view. (view.frames, view.scope_collection))
    (λ parts. record { frames = parts.0; scope_collection = parts.1 })
    (λ _. refl)
