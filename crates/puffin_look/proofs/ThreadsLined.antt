-- The lines of threads.
use Rattle.std.proofs.Common.{◌≡◌, ℕ, List, [], ◌∷◌, ◌++◌, map, ap, subst, sym, ◌∙◌}
use Rattle.std.specs.FinMap as tree
use Rattle.std.specs.Map.{keys_of}
use Rattle.std.specs.List.Sorted.{IsStrictlySortedBy}
use Rattle.puffin_threads.specs.declared.thread_profiler.thread_info.ThreadInfo.{ThreadInfo}
use Rattle.puffin_threads.specs.Thread.ThreadKey.{key_of, thread_cmp, by_key, key_entries}
use Rattle.puffin_frames.proofs.lemmas.Keyed.{entries-by_key}
use Rattle.puffin_view.specs.declared.thread_totals.ThreadTotals.{ThreadTotals}
use Rattle.puffin_look.specs.Forms.{opening, closing, lines_text}
use Rattle.puffin_look.specs.ThreadLines.{thread_line, column_names, thread_list}
use Rattle.puffin_look.specs.declared.lines.Form.{Form}
use Rattle.puffin_look.specs.declared.lines.Lines.{Lines}
use Rattle.puffin_look.specs.inner.Lining.{Adds}
use Rattle.puffin_look.proofs.Lined.{Lists, lists_more, lists_done, list_closed}

abbrev Entry : Type 0
Entry = ThreadInfo × ThreadTotals

-- the line of the next thread was added
pub line_more : (form : Form) (old new : Lines) (k : ThreadInfo) (t : ThreadTotals) (rest it : List Entry) (total : List ℕ)
    → it ≡ (k, t) ∷ rest → Adds old new (thread_line form (key_of k, t))
    → Lists old (map (thread_line form) (key_entries it)) total → Lists new (map (thread_line form) (key_entries rest)) total
line_more form old new k t rest it total left added so_far =
    lists_more old new (thread_line form (key_of k, t)) (map (thread_line form) (key_entries rest)) total added
    (subst (λ (es : List Entry). Lists old (map (thread_line form) (key_entries es)) total) left so_far)

-- no thread is left, so the lines are the list of all
pub lines_done : (form : Form) (lines : Lines) (text : List ℕ) (all it : List Entry) → it ≡ []
    → Lists lines (map (thread_line form) (key_entries it))
    (opening form column_names ++ lines_text form (map (thread_line form) (key_entries all)))
    → text ≡ lines.text.items ++ closing form → IsStrictlySortedBy thread_cmp (keys_of all)
    → text ≡ thread_list form (tree.entries (by_key all))
lines_done form lines text all it none so_far is sorted =
    list_closed form column_names (map (thread_line form) (key_entries all)) lines text
    (lists_done lines _ _ (ap (λ (es : List Entry). map (thread_line form) (key_entries es)) none) so_far) is
    ∙ ap (thread_list form) (sym (entries-by_key all sorted))
