-- How many scopes of code begin, and a thread before its first round.
pub use Rattle.puffin.specs.Code.{Code, nothing, scope, Runs, AreScopesOf, AreAllOf, num_scopes_of, followed_by, repeated}
use Rattle.std.specs.Prelude.{◌≡◌, ℕ, ◌≤◌, List, length, Some}
use Rattle.std.specs.List.{Contains}
use Rattle.puffin_data.specs.declared.data.form.Form.{Form}
use Rattle.puffin_data.specs.declared.data.form.Form.TheVariants.{Short}
use Rattle.puffin_data.specs.Forest.{Forest}
use Rattle.puffin_data.specs.Forest.Measures.{scope_count}
use Rattle.puffin_threads.specs.Thread.Calls.{new_thread}
use Rattle.puffin_threads.specs.Details.{Details}
use Rattle.puffin_threads.specs.Details.Collection.{first_with_id}
use Rattle.puffin_collector.specs.Collector.State.{nothing_collected, after_learning, after_wanting}
use Rattle.puffin_accounts.specs.Moments.{Moment}
use Rattle.puffin_accounts.specs.Showing.{listed_next}

-- no more scopes began than the code has; and if as many began, then all of them
abbrev pub AllBegan : Type 0
AllBegan =
    (known : ℕ) (form : Form) (code : Code) (began : Forest) → AreScopesOf known form code began →
    (scope_count began ≤ num_scopes_of code)
    × (scope_count began ≡ num_scopes_of code → AreAllOf form code began)

-- a new thread with this name and clock, and a new profiler that was told these details
abbrev pub at_first : {C : Type 0} → List ℕ → C → List Details → Moment C
at_first name clock details = record {
  clock = clock;
  known = length details;
  thread = new_thread name Short;
  collected = after_wanting (after_learning (nothing_collected 0) details);
}

-- the first frame of a new thread lists all places that its profiler was told: under each id, the first details with that id
abbrev pub ListsPlaces : Type 0 → Type 0
ListsPlaces C =
    (name : List ℕ) (clock : C) (details : List Details) (id : ℕ) (listed : Details) →
    first_with_id id details ≡ Some listed → Contains (listed_next (at_first name clock details)) listed
