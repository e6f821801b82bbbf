-- The details that a place in the code registers.
use Rattle.std.specs.Prelude.{◌≡◌, ℕ, ◌⊎◌, List, Some}
use Rattle.puffin_threads.specs.Thread.Calls.{Thread, after_registering}
use Rattle.puffin_threads.specs.Details.{Details, default_details, with_id}
use Rattle.puffin_scopes.specs.Names.Files.{short_file}
use Rattle.puffin_scopes.specs.Names.Functions.{clean}
use Rattle.puffin_scopes.specs.declared.site.Site.{Site}

-- where a site stands: its file and its line
abbrev pub site_place : Site → List ℕ × ℕ
site_place site = (site.file.now, site.line)

-- the details of a function with this name: short names, and no id yet
abbrev pub function_details : Site → List ℕ → Details
function_details site function = record default_details {
  function_name = clean function;
  file_path = short_file site.file.now;
  line_nr = site.line;
}

-- the details of a scope with this name in a function
abbrev pub named_details : Site → List ℕ → List ℕ → Details
named_details site function name =
    record (function_details site function) { scope_name = Some name }

-- the thread didn't change, or these details were registered with it under some id
abbrev pub IsKnownOrNew : Details → Thread → Thread → Type 0
IsKnownOrNew details old new =
    (new ≡ old) ⊎ ((id : ℕ) × (new ≡ after_registering old (with_id details id)))
