-- The frames of a history and what it leaves pending spell what was reported.
use Rattle.std.proofs.Common.{◌≡◌, ℕ, Bool, true, false, cond, List, [], ◌∷◌, ◌++◌, Some, refl, ap, sym, subst, ◌∙◌}
use mathlib.Core.Logic.{∥∥₁_elim, ∥∥₁_map, ∥∥₁_prop}
use Rattle.std.specs.FinMap as fm
use Rattle.std.specs.FinMap.{get-empty, get-insert}
use Rattle.std.specs.Option.{unwrap_or}
use Rattle.std.proofs.lemmas.Grind.{merely}
use Rattle.std.proofs.lemmas.List.Elements.{All-contains}
use Rattle.puffin_data.specs.Forest.{Forest, empty, node, append}
use Rattle.puffin_data.specs.Honesty.{StreamFacts, AreHonestFacts, AreUnlike, joined_facts}
use Rattle.puffin_data.proofs.lemmas.Extended.{honest_joined}
use Rattle.puffin_threads.specs.Thread.ThreadKey.{ThreadKey, key_cmp, has_same_key}
use Rattle.puffin_threads.proofs.lemmas.ThreadKeys.{key_cmp_total, key_cmp-one}
use Rattle.puffin_frames.specs.Frame.Contents.{Streams, no_scopes, stream_under, reported_to}
use Rattle.history.specs.Entries.{events, entries_by, AreAllAuthors}
use Rattle.history.proofs.lemmas.AllAuthors.{only_one}
use Rattle.puffin.specs.Happenings.{Happening, reported, framed, marked, History, pending_after, due_after, frame_of, frames_in}
use Rattle.puffin.specs.Happenings.{AreReports, report_under, reports_under, Stands, AreSeen}
use Rattle.puffin.specs.Recounted.{SpellInTurn, streams_under, SpellReports, Recounts}

pub append_append : (f g h : Forest) → append (append f g) h ≡ append f (append g h)
append_append empty g h = refl
append_append (node streams c o) g h = ap (λ (x : Forest). node streams c x) (append_append o g h)

none_honest : AreHonestFacts no_scopes empty
none_honest = record {
  stream = record { whole = refl; fits = tt };
  counts = record { num_scopes = refl; depth = refl; least_start = refl; greatest_stop = refl };
}

-- what is in a map after a report
under_report : (streams : Streams) (key other : ThreadKey) (report : StreamFacts)
    → stream_under (reported_to streams other report) key ≡ unwrap_or
    (cond (has_same_key key other) (Some (joined_facts (stream_under streams other) report)) (fm.get streams key)) no_scopes
under_report streams key other report =
    ap (λ o. unwrap_or o no_scopes) (get-insert key_cmp_total streams other (joined_facts (stream_under streams other) report) key)

same_key : (key other : ThreadKey) → has_same_key key other ≡ true → key ≡ other
same_key key other e = equal_by (key_cmp key other) refl e
  where
    equal_by : (o : _) → key_cmp key other ≡ o → Rattle.std.specs.Ordering.is_eq o ≡ true → key ≡ other
    equal_by Rattle.std.specs.declared.cmp.Ordering.TheVariants.Less is e = absurd cc
    equal_by Rattle.std.specs.declared.cmp.Ordering.TheVariants.Equal is e = key_cmp-one key other is
    equal_by Rattle.std.specs.declared.cmp.Ordering.TheVariants.Greater is e = absurd cc

honest_empty : (key : ThreadKey) → AreHonestFacts (stream_under fm.empty key) empty
honest_empty key = subst (λ (report : StreamFacts). AreHonestFacts report empty)
    (sym (ap (λ o. unwrap_or o no_scopes) (get-empty {X = StreamFacts} key_cmp key))) none_honest

-- what is pending under a thread spells f, and the frames and what is pending at the end spell g more
abbrev After : ThreadKey → Streams → List Happening → Forest → Forest → Type 0
After key streams happenings f g = SpellInTurn
    (streams_under key (due_after streams happenings ++ pending_after streams happenings ∷ [])) (append f g)
    × SpellInTurn (reports_under key happenings) g

abbrev Spelled : ThreadKey → Streams → List Happening → Forest → Type 0
Spelled key streams happenings f = ∥ ((g : Forest) × After key streams happenings f g) ∥₁

more_reported : (key other : ThreadKey) (report : StreamFacts) (streams : Streams) (happenings : List Happening) (f g : Forest)
    → AreHonestFacts (stream_under streams key) f → AreHonestFacts report g → (AreUnlike (stream_under streams other) report → ⊥)
    → ((h : Forest) → AreHonestFacts (stream_under (reported_to streams other report) key) h
    → AreReports (reported_to streams other report) happenings
    → Spelled key (reported_to streams other report) happenings h)
    → (b : Bool) → has_same_key key other ≡ b → AreReports (reported_to streams other report) happenings
    → Spelled key streams (reported other report ∷ happenings) f
more_reported key other report streams happenings f g honest its like rest true is later =
    let same : key ≡ other = same_key key other is in
    let there : stream_under (reported_to streams other report) key ≡ joined_facts (stream_under streams key) report =
    under_report streams key other report
    ∙ ap (λ (b : Bool). unwrap_or
    (cond b (Some (joined_facts (stream_under streams other) report)) (fm.get streams key)) no_scopes) is
    ∙ ap (λ (k : ThreadKey). joined_facts (stream_under streams k) report) (sym same) in
    let joined : AreHonestFacts (joined_facts (stream_under streams key) report) (append f g) =
    honest_joined (stream_under streams key) report f g
    (λ u. like (subst (λ (k : ThreadKey). AreUnlike (stream_under streams k) report) same u)) honest its in
    ∥∥₁_map (rest (append f g) (subst (λ (x : StreamFacts). AreHonestFacts x (append f g)) (sym there) joined) later) (λ t. (
      append g t.0,
      (
        subst (λ (x : Forest). SpellInTurn (streams_under key
            (due_after (reported_to streams other report) happenings ++ pending_after (reported_to streams other report) happenings
            ∷ [])) x) (append_append f g t.0) t.1.0,
        subst (λ (b : Bool). SpellInTurn ((cond b (report ∷ []) []) ++ reports_under key happenings) (append g t.0)) (sym is)
            (g, t.0, its, t.1.1, refl),
      ),
    ))
more_reported key other report streams happenings f g honest its like rest false is later =
    let there : stream_under (reported_to streams other report) key ≡ stream_under streams key =
    under_report streams key other report
    ∙ ap (λ (b : Bool). unwrap_or (cond b (Some (joined_facts (stream_under streams other) report)) (fm.get streams key)) no_scopes)
    is in
    ∥∥₁_map (rest f (subst (λ (x : StreamFacts). AreHonestFacts x f) (sym there) honest) later) (λ t. (
      t.0,
      (
        t.1.0,
        subst (λ (b : Bool). SpellInTurn ((cond b (report ∷ []) []) ++ reports_under key happenings) t.0)
            (sym is) t.1.1,
      ),
    ))

spells_after : (key : ThreadKey) (happenings : List Happening) (streams : Streams) (f : Forest)
    → AreHonestFacts (stream_under streams key) f
    → AreReports streams happenings → Spelled key streams happenings f
spells_after key [] streams f honest reports = merely (empty, ((f, empty, honest, refl, refl), refl))
spells_after key (reported other report ∷ happenings) streams f honest reports = ∥∥₁_elim reports.0.0 ∥∥₁_prop (λ its.
    more_reported key other report streams happenings f its.0 honest its.1 reports.0.1
    (λ h. spells_after key happenings (reported_to streams other report) h)
    (has_same_key key other) refl reports.1)
spells_after key (framed x ∷ happenings) streams f honest reports =
    ∥∥₁_map (spells_after key happenings fm.empty empty (honest_empty key) reports.1)
    (λ t. (t.0, ((f, t.0, honest, t.1.0, refl), t.1.1)))
spells_after key (marked mark ∷ happenings) streams f honest reports = spells_after key happenings streams f honest reports.1

whole : (key : ThreadKey) (pending : Streams) (happenings : List Happening) → Stands pending happenings
    → SpellReports key (frames_in happenings) pending (reports_under key happenings)
whole key pending happenings stands = ∥∥₁_elim (stands.none key) ∥∥₁_prop
    (λ none. ∥∥₁_map (spells_after key happenings stands.start empty none stands.reports) (λ t. (
      t.0,
      subst (λ (p : Streams). SpellInTurn (streams_under key (frames_in happenings ++ p ∷ [])) t.0) (sym stands.pending_is)
          (subst (λ (fs : List Streams). SpellInTurn (streams_under key (fs ++ pending_after stands.start happenings ∷ [])) t.0)
          (sym stands.frames_are) t.1.0),
      t.1.1,
    )))

-- what all shares know, once each has been given back
pub recounted : (n : ℕ) (accounts : List (ℕ × List Happening)) (log : History) (pending : Streams)
    → ∥ Stands pending (events log) ∥₁ → AreSeen 0 0 (events log) → AreAllAuthors n accounts log
    → Recounts n accounts log pending
recounted n accounts log pending stands seen all =
    let happenings : List Happening = events log in
    let spelled : (key : ThreadKey) → SpellReports key (frames_in happenings) pending (reports_under key happenings) =
    λ key. ∥∥₁_elim stands ∥∥₁_prop (λ its. whole key pending happenings its) in
    record {
      all = all;
      stands = stands;
      seen = seen;
      spelled = spelled;
      threads = λ key a taker there took alone takes.
          let its : frames_in happenings ≡ frames_in taker.1 = only_one frame_of n taker.0 accounts log all takes
          ∙ ap frames_in (sym (All-contains (λ b. b.1 ≡ entries_by b.0 log) accounts taker all.own took)) in
          let mine : reports_under key happenings ≡ reports_under key a.1 = only_one (report_under key) n a.0 accounts log all alone
          ∙ ap (reports_under key) (sym (All-contains (λ b. b.1 ≡ entries_by b.0 log) accounts a all.own there)) in
          subst (λ (fs : List Streams). SpellReports key fs pending (reports_under key a.1)) its
          (subst (λ (rs : List StreamFacts). SpellReports key (frames_in happenings) pending rs) mine (spelled key));
    }
