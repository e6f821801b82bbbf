-- Streams by thread info, and adding a report to them.
use Rattle.std.specs.Prelude.{◌≡◌, Some, ℕ, ℤ, ◌-◌, ◌^◌, pos, negsuc, List, [], map, unwrap_or, refl}
use Rattle.std.specs.FinMap as map
use Rattle.std.specs.Coded.{Coded, code_by, coded×, coded_list, coded_ℕ, coded_ℤ}
use Rattle.std.specs.Arc.{arc_value}
use Rattle.std.specs.BTreeMap.{BTreeMap, values}
use Rattle.std.specs.declared.sync.Arc.{Arc}
use Rattle.puffin_data.specs.declared.data.form.Form.{Form}
use Rattle.puffin_data.specs.declared.data.form.Form.TheVariants.{Short}
use Rattle.puffin_data.specs.Text.Flags.{form_code}
use Rattle.puffin_data.specs.Honesty.{StreamFacts, facts_of, joined_facts, AreHonestFacts}
use Rattle.puffin_data.specs.Forest.{Forest}
use Rattle.puffin_data.specs.declared.data.info.StreamInfo.{StreamInfo}
use Rattle.puffin_threads.specs.declared.thread_profiler.thread_info.ThreadInfo.{ThreadInfo}
use Rattle.puffin_threads.specs.Thread.ThreadKey.{ThreadKey, key_cmp, key_code, by_key}

-- what threads recorded: an info of scopes for each thread
abbrev pub Streams : Type 0
Streams = map.FinMap key_cmp StreamFacts

-- an info as the tuple of its fields, and back: two infos are equal if their tuples are
abbrev pub facts_code : Coded StreamFacts
facts_code =
    code_by (Form × (List ℕ × (ℕ × (ℕ × (ℤ × ℤ)))))
    (coded× form_code (
    coded× (coded_list coded_ℕ) (coded× coded_ℕ (coded× coded_ℕ (coded× coded_ℤ coded_ℤ)))))
    (λ info. (info.form, (info.bytes, (info.num_scopes, (info.depth, info.range_ns)))))
    (λ fields. record {
      form = fields.0;
      bytes = fields.1.0;
      num_scopes = fields.1.1.0;
      depth = fields.1.1.1.0;
      range_ns = fields.1.1.1.1;
    })
    (λ _. refl)

-- the same for streams: the list of their entries
abbrev pub streams_code : Coded Streams
streams_code = map.code key_code facts_code

-- the entries of a map, each with its thread and the facts of its info
abbrev pub records : List (ThreadInfo × StreamInfo) → List (ThreadInfo × StreamFacts)
records entries = map (λ entry. (entry.0, facts_of entry.1)) entries

-- the facts of all infos in a map, in the order of their threads
abbrev pub all_facts : BTreeMap ThreadInfo StreamInfo → List StreamFacts
all_facts streams = map facts_of (values streams)

-- the streams of a map's entries
abbrev pub streams_of : List (ThreadInfo × StreamInfo) → Streams
streams_of entries = by_key (records entries)

-- the entries of a map of shared streams, without the sharing
abbrev pub without_sharing : {A : Type 0} → List (ThreadInfo × Arc StreamInfo A) →
    List (ThreadInfo × StreamInfo)
without_sharing entries = map (λ entry. (entry.0, arc_value entry.1)) entries

-- the streams of a map of shared streams
abbrev pub shared_streams : {A : Type 0} → List (ThreadInfo × Arc StreamInfo A) → Streams
shared_streams entries = streams_of (without_sharing entries)

-- an info without scopes
abbrev pub no_scopes : StreamFacts
no_scopes = record {
  form = Short;
  bytes = [];
  num_scopes = 0;
  depth = 0;
  range_ns = (pos (2 ^ 63 - 1), negsuc (2 ^ 63 - 1));
}

-- the info under a thread, or one without scopes
abbrev pub stream_under : Streams → ThreadKey → StreamFacts
stream_under streams thread = unwrap_or (map.get streams thread) no_scopes

-- appends a report to the stream under its thread
abbrev pub reported_to : Streams → ThreadKey → StreamFacts → Streams
reported_to streams thread report =
    map.insert streams thread (joined_facts (stream_under streams thread) report)

-- each stream spells a forest, and its counts are that forest's measures
abbrev pub AreHonest : Streams → Type 0
AreHonest streams =
    (thread : ThreadKey) (info : StreamFacts) → map.get streams thread ≡ Some info →
    ∥ ((forest : Forest) × AreHonestFacts info forest) ∥₁
