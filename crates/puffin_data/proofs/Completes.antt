-- A walk that completes has gone over the spelling of a forest, and met no fault.
use Rattle.std.proofs.Common.{◌≡◌, ℕ, suc, ◌+◌, ◌-◌, ◌≤◌, ◌^◌, List, [], ◌∷◌, ◌++◌, length, take, drop, max, refl, sym, ap, subst, ◌∙◌, arith, Ok, ℤ, pos, negsuc, ◌≤ℤ◌}
use Rattle.std.proofs.lemmas.Int.{ints, clamps}
use Rattle.std.proofs.lemmas.List.{length-append}
use Rattle.std.specs.Int.{int_min, int_max}
use Rattle.puffin_data.specs.declared.data.form.Form.{Form}
use Rattle.puffin_data.specs.declared.error.Error.{Error}
use Rattle.puffin_data.specs.declared.data.walk.Walk.{Walk}
use Rattle.puffin_data.specs.Forest.{Span, Forest, empty, node, IsForest}
use Rattle.puffin_data.specs.Forest.Measures.{scope_count, height, least_start, greatest_stop}
use Rattle.puffin_data.specs.Forest.Spelling.{spelling, begin_bytes, end_bytes}
use Rattle.puffin_data.specs.Walk.Reading.{FoundScope}
use Rattle.puffin_data.specs.Walk.{region, IsSoundAt, IsFaultAt, Reaches, here, child, sibling, Sounds, no_more, one_more}
use Rattle.puffin_data.specs.inner.Walking.{with_scope, WalksTo, ends, goes_on}
use Rattle.puffin_data.proofs.lemmas.Numbers.{IsBytes, IsBytes-drop, IsBytes-take}
use Rattle.puffin_data.proofs.Spelled.{is_spelled}
use Rattle.puffin_data.proofs.Resuming.{found_places}
use Rattle.puffin_data.proofs.Regions.{length-region, part_of_region, rest_of_region, empty_region, sound_is_no_fault, nothing_is_no_fault, nothing_is_not_sound, one_sound}

-- a walk's numbers after a forest within so many open scopes
abbrev pub tallied : ℕ → Walk → Forest → Walk
tallied level walk empty = walk
tallied level walk (node first children others) = tallied level (tallied (suc level) (with_scope walk (suc level) first) children) others

-- what a completed walk of a region shows: the forest that the region spells, with its numbers
pub record Completed (form : Form) (bytes : List ℕ) (level : ℕ) (old new : Walk) (begin limit : ℕ) : Type 0 where
  pub forest : Forest
  pub fits : IsForest form forest
  pub spelled : region bytes begin limit ≡ spelling form forest
  pub numbers : new ≡ tallied level old forest
  pub places : List ℕ
  pub sounds : Sounds form bytes begin limit places
  pub number_of_places : length places ≡ scope_count forest
  pub faultless : (to to_end : ℕ) (fault : Error) → Reaches form bytes begin limit to to_end → IsFaultAt form bytes to to_end fault → ⊥

-- no fault is reached in an empty region
pub nothing_reached : (form : Form) (bytes : List ℕ) (begin limit to to_end : ℕ) (fault : Error) → region bytes begin limit ≡ []
    → Reaches form bytes begin limit to to_end → IsFaultAt form bytes to to_end fault → ⊥
nothing_reached form bytes begin limit to to_end fault none here at = nothing_is_no_fault form (region bytes begin limit) fault none at
nothing_reached form bytes begin limit to to_end fault none (child {found = found} sound reach) at =
    nothing_is_not_sound form (region bytes begin limit) found none sound
nothing_reached form bytes begin limit to to_end fault none (sibling {found = found} sound reach) at =
    nothing_is_not_sound form (region bytes begin limit) found none sound

-- a fault that is reached from a sound scope's place is reached from its children or from its next sibling
pub after_sound : (form : Form) (bytes : List ℕ) (begin limit to to_end : ℕ) (found : FoundScope) (fault : Error)
    → IsSoundAt form bytes begin limit found
    → (Reaches form bytes (begin + found.child_begin) (begin + found.child_end) to to_end → ⊥)
    → (Reaches form bytes (begin + found.next_sibling) limit to to_end → ⊥) → Reaches form bytes begin limit to to_end
    → IsFaultAt form bytes to to_end fault → ⊥
after_sound form bytes begin limit to to_end found fault sound inner later here at =
    sound_is_no_fault form (region bytes begin limit) found fault sound at
after_sound form bytes begin limit to to_end found fault sound inner later (child {found = again} other reach) at =
    inner (subst (λ (any : FoundScope). Reaches form bytes (begin + any.child_begin) (begin + any.child_end) to to_end)
    (one_sound form (region bytes begin limit) again found other sound) reach)
after_sound form bytes begin limit to to_end found fault sound inner later (sibling {found = again} other reach) at =
    later (subst (λ (any : FoundScope). Reaches form bytes (begin + any.next_sibling) limit to to_end)
    (one_sound form (region bytes begin limit) again found other sound) reach)

-- the spelling of a scope with its children and what follows it, from those of the parts
pub joined : (form : Form) (part inner rest : List ℕ) (span : Span) (size : ℕ) (children others : Forest)
    → part ≡ begin_bytes form span.id span.start span.text size ++ (inner ++ (end_bytes span.stop ++ rest)) → length inner ≡ size
    → inner ≡ spelling form children → rest ≡ spelling form others → part ≡ spelling form (node span children others)
joined form part inner rest span size children others whole sized inner_is rest_is =
    whole
    ∙ ap (λ (any : ℕ). begin_bytes form span.id span.start span.text any ++ (inner ++ (end_bytes span.stop ++ rest))) (sym sized)
    ∙ ap (λ (any : List ℕ). begin_bytes form span.id span.start span.text (length any) ++ (any ++ (end_bytes span.stop ++ rest)))
    inner_is
    ∙ ap (λ (any : List ℕ). begin_bytes form span.id span.start span.text (length (spelling form children))
    ++ (spelling form children ++ (end_bytes span.stop ++ any))) rest_is

-- By induction over how the walk went: the scope that it entered is the node, and its two parts are the forests.
pub completed : (form : Form) (bytes : List ℕ) (level : ℕ) (old new : Walk) (begin limit : ℕ) → IsBytes bytes → begin ≤ limit
    → limit ≤ length bytes → WalksTo form bytes level old begin limit (Ok new) → Completed form bytes level old new begin limit
completed form bytes level old new begin limit fits ordered bounded ends =
    record {
      forest = empty;
      fits = tt;
      spelled = empty_region bytes begin;
      numbers = refl;
      places = [];
      sounds = no_more (λ found sound. nothing_is_not_sound form (region bytes begin begin) found (empty_region bytes begin) sound);
      number_of_places = refl;
      faultless = λ to to_end fault reach at. nothing_reached form bytes begin begin to to_end fault (empty_region bytes begin) reach at;
    }
completed form bytes level old new begin limit fits ordered bounded (goes_on {inner = between} {found = found} sound inner later) =
    let at = found_places form bytes begin limit found sound ordered bounded in
    let children =
    completed form bytes (suc level) (with_scope old (suc level) found.span) between (begin + found.child_begin)
    (begin + found.child_end) fits (omega (arith, at)) (omega (arith, at)) inner in
    let others = completed form bytes level between new (begin + found.next_sibling) limit fits (omega (arith, at)) bounded later in
    let part = region bytes begin limit in
    let spell = is_spelled form part found (IsBytes-take (limit - begin) (drop begin bytes) (IsBytes-drop begin bytes fits)) sound in
    let inner_is : take (found.child_end - found.child_begin) (drop found.child_begin part)
    ≡ region bytes (begin + found.child_begin) (begin + found.child_end) =
    sym (part_of_region bytes begin limit found.child_begin found.child_end at.inside (omega (arith, at))) in
    let rest_is : drop found.next_sibling part ≡ region bytes (begin + found.next_sibling) limit =
    sym (rest_of_region bytes begin limit found.next_sibling (omega (arith, at))) in
    let size : length (take (found.child_end - found.child_begin) (drop found.child_begin part))
    ≡ found.child_end - found.child_begin =
    ap length inner_is
    ∙ length-region bytes (begin + found.child_begin) (begin + found.child_end) (omega (arith, at))
    ∙ omega arith in
    record {
      forest = node found.span children.forest others.forest;
      fits = (spell.fits, children.fits, others.fits);
      spelled =
          joined form part _ _ found.span (found.child_end - found.child_begin) children.forest others.forest spell.whole size
          (inner_is ∙ children.spelled) (rest_is ∙ others.spelled);
      numbers = others.numbers ∙ ap (λ (one : Walk). tallied level one others.forest) children.numbers;
      places = begin ∷ (children.places ++ others.places);
      sounds = one_more sound children.sounds others.sounds;
      number_of_places = omega (arith, length-append children.places others.places, children.number_of_places, others.number_of_places);
      faultless =
          λ to to_end fault reach faulty.
          after_sound form bytes begin limit to to_end found fault sound (λ way. children.faultless to to_end fault way faulty)
          (λ way. others.faultless to to_end fault way faulty) reach faulty;
    }

-- ---- the numbers are the forest's

least_assoc : (old own inner later : ℤ) → int_min (int_min (int_min old own) inner) later ≡ int_min old (int_min own (int_min inner later))
least_assoc old own inner later = omega (arith, ints, clamps)

greatest_assoc : (old own inner later : ℤ)
    → int_max (int_max (int_max old own) inner) later ≡ int_max old (int_max own (int_max inner later))
greatest_assoc old own inner later = omega (arith, ints, clamps)

least_of_none : (time : ℤ) → time ≤ℤ pos (2 ^ 63 - 1) → int_min time (pos (2 ^ 63 - 1)) ≡ time
least_of_none time within = omega (arith, ints, clamps)

greatest_of_none : (time : ℤ) → negsuc (2 ^ 63 - 1) ≤ℤ time → int_max time (negsuc (2 ^ 63 - 1)) ≡ time
greatest_of_none time within = omega (arith, ints, clamps)

least_low : (one other bound : ℤ) → one ≤ℤ bound → int_min one other ≤ℤ bound
least_low one other bound within = omega (arith, ints, clamps)

greatest_high : (one other bound : ℤ) → bound ≤ℤ one → bound ≤ℤ int_max one other
greatest_high one other bound within = omega (arith, ints, clamps)

-- numbers within their types' ranges, within so many open scopes
pub record IsOpen (level : ℕ) (walk : Walk) : Type 0 where
  pub depth : level ≤ walk.depth
  pub start : walk.range_ns.0 ≤ℤ pos (2 ^ 63 - 1)
  pub stop : negsuc (2 ^ 63 - 1) ≤ℤ walk.range_ns.1

-- numbers after a forest, from those before it and the forest's measures
pub record Tallies (level : ℕ) (old new : Walk) (forest : Forest) : Type 0 where
  pub num_scopes : new.num_scopes ≡ old.num_scopes + scope_count forest
  pub depth : new.depth ≡ max old.depth (level + height forest)
  pub start : new.range_ns.0 ≡ int_min old.range_ns.0 (least_start forest)
  pub stop : new.range_ns.1 ≡ int_max old.range_ns.1 (greatest_stop forest)

pub tallies : (level : ℕ) (walk : Walk) (forest : Forest) → IsOpen level walk → Tallies level walk (tallied level walk forest) forest
tallies level walk empty in_range = record {
  num_scopes = omega arith;
  depth = omega (arith, in_range.depth);
  start = sym (least_of_none walk.range_ns.0 in_range.start);
  stop = sym (greatest_of_none walk.range_ns.1 in_range.stop);
}
tallies level walk (node first children others) in_range =
    let with_first = with_scope walk (suc level) first in
    let with_children = tallied (suc level) with_first children in
    let inner =
    tallies (suc level) with_first children
    (record {
      depth = omega arith;
      start = least_low walk.range_ns.0 first.start _ in_range.start;
      stop = greatest_high
          walk.range_ns.1 first.stop _ in_range.stop;
    }) in
    let children_in_range : IsOpen level with_children = record {
      depth = omega (arith, inner.depth);
      start =
          subst (λ (any : ℤ). any ≤ℤ pos (2 ^ 63 - 1)) (sym inner.start)
          (least_low _ _ _ (least_low walk.range_ns.0 first.start _ in_range.start));
      stop =
          subst (λ (any : ℤ). negsuc (2 ^ 63 - 1) ≤ℤ any) (sym inner.stop)
          (greatest_high _ _ _ (greatest_high walk.range_ns.1 first.stop _ in_range.stop));
    } in
    let later = tallies level with_children others children_in_range in
    record {
      num_scopes = omega (arith, inner.num_scopes, later.num_scopes);
      depth = omega (arith, inner.depth, later.depth);
      start =
          later.start
          ∙ ap (λ (any : ℤ). int_min any (least_start others)) inner.start
          ∙ least_assoc walk.range_ns.0 first.start (least_start children) (least_start others);
      stop =
          later.stop
          ∙ ap (λ (any : ℤ). int_max any (greatest_stop others)) inner.stop
          ∙ greatest_assoc walk.range_ns.1 first.stop (greatest_stop children) (greatest_stop others);
    }
