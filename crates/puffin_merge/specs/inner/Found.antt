-- How a node of a table is found by its parent's number and its label.
use Rattle.std.specs.Prelude.{◌≡◌, ℕ, ◌+◌, ◌-◌, ◌<◌, ◌≤◌, List, slice_index_or, vec_len, string_bytes, string_cmp, Option, None, Some}
use Rattle.std.specs.declared.cmp.Ordering.{Ordering}
use Rattle.std.specs.declared.string.String.{String}
use Rattle.std.specs.declared.alloc.Global.{Global}
use Rattle.std.specs.Global.{Vec}
use Rattle.std.specs.Ordering.{nat_cmp, on, then_cmp}
use Rattle.std.specs.Map.{lookup}
use Rattle.std.specs.BTreeMap.{BTreeMap, is_at, btree_map_len}
use Rattle.puffin_merge.specs.declared.merge.table.Node.{Node}
use Rattle.puffin_merge.specs.declared.merge.table.Key.{Key}
use Rattle.puffin_merge.specs.declared.merge.table.KeyRef.{KeyRef}
use Rattle.puffin_merge.specs.declared.merge.table.NumberedKey.{NumberedKey}
use Rattle.puffin_merge.specs.declared.merge.table.TextNumber.{TextNumber}
use Rattle.puffin_merge.specs.declared.merge.table.NodeNumber.{NodeNumber}
use Rattle.puffin_merge.specs.Merge.Occurrences.{Label}

-- ---- keys

-- a key's id and the bytes of its text
abbrev pub key_label : Key → Label
key_label key = record { id = key.id; text = string_bytes key.text }

-- the same of a key that borrows its text
abbrev pub ref_label : KeyRef → Label
ref_label key = record { id = key.id; text = key.text.now }

-- the key has this parent's number and this label
pub record IsKeyOf (key : Key) (parent_number : ℕ) (its_label : Label) : Type 0 where
  pub parent : key.parent.number ≡ parent_number
  pub label : key_label key ≡ its_label

-- keys with the same parent and label
abbrev pub IsSameKey : Key → Key → Type 0
IsSameKey key other = IsKeyOf key other.parent.number (key_label other)

-- the node at place k has this parent's number and this label (`default` would stand for a node beyond the list)
abbrev pub HasLabel : List Node → ℕ → ℕ → Label → Type 0
HasLabel nodes k parent label =
    (default : Node) → IsKeyOf (slice_index_or nodes k default).key parent label

-- the node at place k has this key
abbrev pub HasKey : List Node → ℕ → Key → Type 0
HasKey nodes k key = (default : Node) → IsSameKey (slice_index_or nodes k default).key key

-- the number is that of a node with this key
abbrev pub IsNodeOfKey : Vec Node → KeyRef → NodeNumber → Type 0
IsNodeOfKey nodes key found =
    (0 < found.number)
    × (found.number ≤ vec_len nodes)
    × HasLabel nodes.items (found.number - 1) key.parent.number (ref_label key)

-- no node has this key
abbrev pub HasNoNode : Vec Node → KeyRef → Type 0
HasNoNode nodes key =
    (k : ℕ) → k < vec_len nodes → HasLabel nodes.items k key.parent.number (ref_label key) → ⊥

-- the same for a key that owns its text
abbrev pub IsNewKey : Vec Node → Key → Type 0
IsNewKey nodes key = (k : ℕ) → k < vec_len nodes → HasKey nodes.items k key → ⊥

-- ---- the maps

-- by parent's number, then id, then text's number
abbrev pub numbered_key_cmp : NumberedKey → NumberedKey → Ordering
numbered_key_cmp =
    then_cmp (on (λ key. key.parent.number) nat_cmp) (
    then_cmp (on (λ key. key.id) nat_cmp) (on (λ key. key.text.number) nat_cmp))

-- the key, with this number in place of its text
abbrev pub numbered_key_of : Key → TextNumber → NumberedKey
numbered_key_of key text = record { parent = key.parent; id = key.id; text = text }

-- the parts of a table by which a node is found: the nodes, the number of each text and the number of each node
pub record TableParts : Type 0 where
  pub nodes : Vec Node
  pub texts : BTreeMap (String Global) TextNumber
  pub numbers : BTreeMap NumberedKey NodeNumber

-- the number of a text, if it has one
abbrev pub text_number_in : TableParts → String Global → Option TextNumber
text_number_in t text = lookup (is_at (string_cmp text)) t.texts.entries

-- the number of the node with this key, if there is one
abbrev pub node_number_in : TableParts → NumberedKey → Option NodeNumber
node_number_in t key = lookup (is_at (numbered_key_cmp key)) t.numbers.entries

-- the same for a key with its text, whose number is given; none if the text has no number
abbrev pub number_in : TableParts → Key → Option TextNumber → Option NodeNumber
number_in t key None = None
number_in t key (Some text) = node_number_in t (numbered_key_of key text)

-- the number under which a key is found: by its text's number, which is looked up first
abbrev pub found_in : TableParts → Key → Option NodeNumber
found_in t key = number_in t key (text_number_in t key.text)

-- Looking up a key finds the node with that key, each node is found, and each text has its own number.
pub record IsIndexed (t : TableParts) : Type 0 where
  -- what is found is a node with that key
  pub found : (key : Key) (number : NodeNumber) → found_in t key ≡ Some number →
      (0 < number.number)
      × (number.number ≤ vec_len t.nodes)
      × HasKey t.nodes.items (number.number - 1) key
  -- the node at place k is found by its key, under the number k + 1
  pub all_found : (k : ℕ) (default : Node) → k < vec_len t.nodes →
      found_in t (slice_index_or t.nodes.items k default).key ≡ Some (record { number = k + 1 })
  -- texts have the numbers below the number of texts
  pub counted : (text : String Global) (number : TextNumber) →
      text_number_in t text ≡ Some number → number.number < btree_map_len t.texts
  -- no two texts have the same number
  pub own : (text other : String Global) (number : TextNumber) →
      text_number_in t text ≡ Some number → text_number_in t other ≡ Some number →
      string_bytes text ≡ string_bytes other
  -- the map of nodes has only numbers of texts
  pub used : (key : NumberedKey) (number : NodeNumber) →
      node_number_in t key ≡ Some number → key.text.number < btree_map_len t.texts

-- the same of a table's parts, one by one
abbrev pub FindsNodes :
    Vec Node → BTreeMap (String Global) TextNumber → BTreeMap NumberedKey NodeNumber → Type 0
FindsNodes nodes texts numbers =
    IsIndexed (record { nodes = nodes; texts = texts; numbers = numbers })
