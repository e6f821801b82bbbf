-- The data of a page: elements of HTML, each with an array in JSON.
use Rattle.std.specs.Prelude.{◌≡◌, ℕ, ℤ, ◌-ℤ◌, Bool, not, ◌==◌, nat_eq, List, [], ◌∷◌, ◌++◌, length, codes, Option, Some, None, if◌then◌else◌}
use Rattle.std.specs.Fmt.{decimal, signed_decimal}
use Rattle.std.specs.FinMap.{values}
use Rattle.std.specs.List.{flat_map, list_any}
use Rattle.json.specs.Print.{quoted}
use Rattle.puffin_data.specs.Forest.{Span, Forest}
use Rattle.puffin_data.specs.Text.{text_in}
use Rattle.puffin_data.specs.Walk.PlacedScopes.{ScopeInContext, nested_in}
use Rattle.puffin_threads.specs.Details.{Details, name_of}
use Rattle.puffin_threads.specs.Details.Collection.{Collection}
use Rattle.puffin_threads.specs.Thread.ThreadKey.{ThreadKey}
use Rattle.puffin_frames.specs.declared.frame_data.meta.FrameMeta.{FrameMeta}
use Rattle.puffin_view.specs.View.Stats.{cut}
use Rattle.puffin_look.specs.OpenFrame.{OpenFrame}
use Rattle.puffin_look.specs.Trees.{Tree, TreeFrame, Pick, AreRead, all_streams}
use Rattle.puffin_look.specs.Wanted.{is_within}
use Rattle.puffin_look.specs.ThreadLines.{start_text}
use Rattle.puffin_look.specs.FrameTree.{time_of}
use Rattle.puffin_look.specs.declared.page.PageFrames.{PageFrames}
use Rattle.puffin_look.specs.declared.page.PageFrames.TheVariants.{Within, These}

-- ---- an element

-- a `<` as an escape of JSON, so that nothing ends the element
abbrev pub embedded_byte : ℕ → List ℕ
embedded_byte byte = if byte == 60 then codes "\\u003c" else byte ∷ []

abbrev pub embedded : List ℕ → List ℕ
embedded json = flat_map embedded_byte json

-- whether a byte begins no tag
abbrev pub begins_none : ℕ → Bool
begins_none byte = not (byte == 60)

abbrev pub element : List ℕ → List ℕ → List ℕ
element class json =
    codes "<script type=\"application/json\" class=\""
    ++ (class ++ (codes "\">" ++ (embedded json ++ codes "</script>\n")))

-- ---- the details of a scope: its id, name, file and line

abbrev pub id_json : Option ℕ → List ℕ
id_json None = codes "null"
id_json (Some id) = decimal id

abbrev pub details_json : Details → List ℕ
details_json details =
    codes "["
    ++ (id_json details.id
    ++ ((codes "," ++ quoted (name_of details))
    ++ ((codes "," ++ quoted details.file_path)
    ++ ((codes "," ++ decimal details.line_nr) ++ codes "]"))))

abbrev pub details_element : Details → List ℕ
details_element details = element (codes "details") (details_json details)

-- in ascending order of id
abbrev pub details_elements : Collection → List ℕ
details_elements known = flat_map details_element (values known.by_id)

-- ---- a scope: its depth and id; its start in the frame and its duration; its text

abbrev pub times_json : ℤ → Span → List ℕ
times_json begin span =
    (codes "," ++ signed_decimal (span.start -ℤ begin)) ++ (codes "," ++ decimal (time_of span))

abbrev pub row_json : ℤ → ℕ → Span → List ℕ
row_json begin level span =
    (codes ",[" ++ decimal level)
    ++ ((codes "," ++ decimal span.id)
    ++ (times_json begin span ++ ((codes "," ++ quoted (text_in span.text)) ++ codes "]")))

abbrev pub scope_json : ℤ → ScopeInContext → List ℕ
scope_json begin scope = row_json begin (cut (length scope.around)) scope.span

-- each scope of a forest, before the scopes in it
abbrev pub rows_json : ℤ → Forest → List ℕ
rows_json begin forest = flat_map (scope_json begin) (nested_in [] forest)

-- ---- a thread: its start and name, and then each of its scopes

abbrev pub key_json : ThreadKey → List ℕ
key_json key = codes ",[\"" ++ (start_text key.start ++ (codes "\"," ++ quoted key.name))

abbrev pub thread_json : ℤ → Tree → List ℕ
thread_json begin tree = key_json tree.0 ++ (rows_json begin tree.1 ++ codes "]")

-- ---- a frame: its index, start and stop, and then each of its threads

abbrev pub head_json : FrameMeta → List ℕ
head_json meta =
    (codes "[" ++ decimal meta.frame_index)
    ++ ((codes ",\"" ++ signed_decimal meta.range_ns.0)
    ++ ((codes "\",\"" ++ signed_decimal meta.range_ns.1) ++ codes "\""))

abbrev pub frame_json : TreeFrame → List ℕ
frame_json frame =
    head_json frame.meta ++ (flat_map (thread_json frame.meta.range_ns.0) frame.trees ++ codes "]")

-- ---- which frames

abbrev pub is_chosen : PageFrames → ℕ → Bool
is_chosen (Within indices) index = is_within (Some indices) index
is_chosen (These indices) index = list_any (λ i. nat_eq i index) indices.items

abbrev pub chosen_streams : PageFrames → Pick
chosen_streams frames frame =
    if is_chosen frames frame.meta.frame_index then all_streams frame else []

abbrev pub frame_element : PageFrames → TreeFrame → List ℕ
frame_element frames frame =
    if is_chosen frames frame.meta.frame_index then element (codes "frame") (frame_json frame)
    else []

-- the details of all scopes, and the frames of the page in the order of the file
abbrev pub IsPageData : Collection → PageFrames → List OpenFrame → List ℕ → Type 0
IsPageData known chosen frames text =
    (trees : List TreeFrame)
    × AreRead (chosen_streams chosen) frames trees
    × (text ≡ details_elements known ++ flat_map (frame_element chosen) trees)
