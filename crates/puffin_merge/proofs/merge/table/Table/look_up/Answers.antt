-- The number of the text is looked up first, and then the number of the node.
use Rattle.std.proofs.Common.{◌≡◌, Option, Some, None, ◌∙◌, sym}
use Rattle.std.specs.Prelude.{IfSome, IfNone, string_bytes}
use Rattle.std.specs.declared.cmp.Ordering.TheVariants.{Equal}
use Rattle.std.specs.declared.string.String.{String}
use Rattle.std.specs.declared.alloc.Global.{Global}
use Rattle.std.specs.Ordering.{nat_cmp}
use Rattle.std.specs.Cmp.Lexicographic.{slice_cmp}
use Rattle.puffin_merge.specs.declared.merge.table.KeyRef.{KeyRef}
use Rattle.puffin_merge.specs.declared.merge.table.TextNumber.{TextNumber}
use Rattle.puffin_merge.specs.declared.merge.table.NodeNumber.{NodeNumber}
use Rattle.puffin_merge.specs.inner.Found.{TableParts, ref_label, node_number_in, IsNodeOfKey, HasNoNode, IsIndexed}
use Rattle.puffin_merge.proofs.Finding.{parts_of, numbered_ref, number_by, no_text, no_numbered, some_numbered}
use Rattle.puffin_merge.proofs.merge.table.Table.look_up.Goals as goal

found_node : (t : TableParts) (asked : KeyRef) (own : String Global) (text : TextNumber) (r : Option NodeNumber)
    → IsIndexed t → number_by t asked.text.now ≡ Some text
    → slice_cmp nat_cmp asked.text.now (string_bytes own) ≡ Equal
    → r ≡ node_number_in t (numbered_ref asked text) → IfSome r (IsNodeOfKey t.nodes asked)
found_node t asked own text None f some same e = tt
found_node t asked own text (Some x) f some same e = some_numbered t asked own text x f some same (sym e)

found_none : (t : TableParts) (asked : KeyRef) (text : TextNumber) (r : Option NodeNumber) → IsIndexed t
    → number_by t asked.text.now ≡ Some text → r ≡ node_number_in t (numbered_ref asked text)
    → IfNone r (HasNoNode t.nodes asked)
found_none t asked text (Some x) f some e = tt
found_none t asked text None f some e = no_numbered t asked text f some (sym e)

pub returns-in-None-clause-none : goal.returns-in-None-clause-none
returns-in-None-clause-none c = no_text (parts_of c.args.self.now) _ (ref_label c.args.key.now) c.args.self.now.found
    (sym c.in-None.ensures.value)

pub returns-in-Some-clause-some : goal.returns-in-Some-clause-some
returns-in-Some-clause-some c =
    found_node (parts_of c.args.self.now) c.args.key.now c.in-Some._text.now c.in-Some.number.now
    c.copied.result c.args.self.now.found (sym c.in-Some.ensures.value) c.in-Some.ensures.same_key
    (c.copied.ensures ∙ c.get.ensures.value)

pub returns-in-Some-clause-none : goal.returns-in-Some-clause-none
returns-in-Some-clause-none c =
    found_none (parts_of c.args.self.now) c.args.key.now c.in-Some.number.now c.copied.result c.args.self.now.found
    (sym c.in-Some.ensures.value) (c.copied.ensures ∙ c.get.ensures.value)
