-- What the frames up to that of a round show of a program in rounds: the code of its first rounds.
use Rattle.std.proofs.Common.{◌≡◌, ◌≢◌, ℕ, zero, suc, ◌+◌, ◌*◌, ◌<◌, ◌≤◌, Bool, List, []}
use Rattle.std.proofs.Common.{◌∷◌, ◌++◌, Some, length, map, take, refl, ap, sym}
use Rattle.std.proofs.Common.{subst, ◌∙◌, append_assoc, length-append, arith}
use mathlib.Core.Logic.{∥∥₁_map}
use Rattle.std.specs.Prelude.{slice_get, sum_by}
use Rattle.std.specs.FinMap as fin_map
use Rattle.std.specs.List.{flat_map}
use Rattle.std.proofs.lemmas.List.Elements.{All-contains}
use Rattle.std.proofs.lemmas.List.Sums.{sum_by-cons}
use Rattle.std.proofs.lemmas.Grind.{flat_map-append}
use Rattle.std.proofs.lemmas.Option.{slice_get_within}
use Rattle.puffin_data.specs.declared.data.form.Form.TheVariants.{Short}
use Rattle.puffin_frames.specs.Frame.Contents.{Streams}
use Rattle.history.specs.Entries.{events, front_if, entries_by, AreAllAuthors}
use Rattle.history.proofs.lemmas.AllAuthors.{entries_by-append, events-append, only_one}
use Rattle.history.proofs.lemmas.Counting.{same_number}
use Rattle.puffin.specs.declared.light.outcome.ThreadCounts.{ThreadCounts}
use Rattle.puffin.specs.Code.{Code, AreTurns}
use Rattle.puffin.specs.Happenings.{Happening, reported, framed, marked, arrived, released, saw_arrived, saw_released, left, History}
use Rattle.puffin.specs.Happenings.{frame_of, frames_in, report_under, reports_under, if_marked, releases_of, num_arrived, num_released}
use Rattle.puffin.specs.Happenings.{AreSeen, Stands}
use Rattle.puffin.specs.Leaving.{accounts_of}
use Rattle.puffin.specs.Members.{Member, account_of}
use Rattle.puffin.specs.Recounted.{Recounts, ReportsNothing}
use Rattle.puffin.specs.Rounds.{until, KeepsStep, HasRunRounds, TakesInTurn}
use Rattle.puffin.specs.Shown.{ShowsEach}
use Rattle.puffin.specs.Telling.{HasRun}
use Rattle.puffin.proofs.CutHistory.{Split, FrameAt, cut, cut_authors, split_at, frame_at, stands_at, all_parts}
use Rattle.puffin.proofs.CutHistory as history
use Rattle.puffin.proofs.Growing.{released-both, arrived-both}
use Rattle.puffin.proofs.KeptSteps.{AllSeen, all_seen, seen_by, seen_front, steps_front, releases_none, few_parts, cut_there}
use Rattle.puffin.proofs.KeptSteps.{Gathered, gathered, each_full}
use Rattle.puffin.proofs.ShownCode.{frames_show, at_most_one, contained, every}
use Rattle.puffin.proofs.ShownPools.{chosen}
use Rattle.puffin.proofs.ShownRuns.{there}
use Rattle.puffin.proofs.SpelledThreads.{recounted}

-- each thread ran its rounds under its name, through its share
abbrev pub RanRoundsEach : (known rounds : ℕ) → (is : ℕ → ℕ → Code → Type 0) → (names : List (List ℕ))
    → (shares : List Member) → Type 0
RanRoundsEach known rounds is names shares =
    (k : ℕ) (name : List ℕ) → slice_get names k ≡ Some name → (share : Member) × (waiting : ℕ)
    × (slice_get shares k ≡ Some share) × HasRunRounds (is k) rounds name known share.own waiting

cut_in : (log : History) (members : List Member) (k : ℕ) (m : Member) → slice_get members k ≡ Some m
    → slice_get (map (cut log) members) k ≡ Some (cut log m)
cut_in log [] k m e = absurd cc
cut_in log (x ∷ members) zero m e = let same : x ≡ m = cc in ap (λ (y : Member). Some (cut log y)) same
cut_in log (x ∷ members) (suc k) m e = cut_in log members k m e

long_cut : (log : History) (members : List Member) → length (map (cut log) members) ≡ length members
long_cut log [] = refl
long_cut log (x ∷ members) = ap suc (long_cut log members)

parts_cut : (log : History) (members : List Member)
    → sum_by (λ (a : ℕ × List Happening). num_arrived (entries_by a.0 log))
    (accounts_of members) ≡ sum_by (λ (m : Member). num_arrived (entries_by m.number log)) members
parts_cut log [] = refl
parts_cut log (m ∷ members) =
    sum_by-cons (λ (a : ℕ × List Happening). num_arrived (entries_by a.0 log)) (account_of m) (accounts_of members)
    ∙ ap (λ (n : ℕ). num_arrived (entries_by m.number log) + n) (parts_cut log members)
    ∙ sym (sum_by-cons (λ (x : Member). num_arrived (entries_by x.number log)) m members)

-- ---- the frame of a round

module _ (known rounds n : ℕ) (is : ℕ → ℕ → Code → Type 0) (names : List (List ℕ)) (shares : List Member)
    (taker : Member) (log : History) (pending : Streams)
    (did : RanRoundsEach known rounds is names shares) (long : length shares ≡ length names) (quiet : ReportsNothing taker.own)
    (takes : TakesInTurn (length shares) 0 0 0 taker.own)
    (recounts : Recounts n (accounts_of (taker ∷ shares)) log pending)
    (full : length (frames_in taker.own) ≡ num_released taker.own)
    (round : ℕ) (below : round < length (frames_in taker.own)) where
  abbrev all : List Member
  all = taker ∷ shares

  f : FrameAt round taker.own
  f = frame_at round taker.own below

  own_of : (j : ℕ) (m : Member) → slice_get all j ≡ Some m → m.own ≡ entries_by m.number log
  own_of j m e = All-contains (λ a. a.1 ≡ entries_by a.0 log) (accounts_of all) (account_of m) recounts.all.own
      (contained all j m e)

  s : Split taker.number log f.before (framed f.streams) f.later
  s = split_at taker.number log f.before (framed f.streams) f.later (sym (own_of 0 taker refl) ∙ f.whole)

  abbrev now : History
  now = s.before ++ (taker.number, framed f.streams) ∷ []

  whole : log ≡ now ++ s.later
  whole = s.whole ∙ sym (append_assoc s.before ((taker.number, framed f.streams) ∷ []) s.later)

  own_then : (j : ℕ) (m : Member) → slice_get all j ≡ Some m → m.own ≡ entries_by m.number now ++ entries_by m.number s.later
  own_then j m e = own_of j m e ∙ ap (entries_by m.number) whole ∙ entries_by-append m.number now s.later

  taken_then : entries_by taker.number now ≡ f.before ++ framed f.streams ∷ []
  taken_then = entries_by-append taker.number s.before ((taker.number, framed f.streams) ∷ [])
      ∙ ap (λ (happenings : List Happening). happenings ++ entries_by taker.number ((taker.number, framed f.streams) ∷ [])) s.own
      ∙ ap (λ (b : Bool). f.before ++ front_if b (framed f.streams) []) (same_number taker.number)

  events_now : events now ≡ events s.before ++ framed f.streams ∷ []
  events_now = events-append s.before ((taker.number, framed f.streams) ∷ [])

  authors : AreAllAuthors n (accounts_of (map (cut now) all)) now
  authors = cut_authors n all now s.later (subst (λ (l : History). AreAllAuthors n (accounts_of all) l) whole recounts.all)

  events_whole : events log ≡ (events s.before ++ framed f.streams ∷ []) ++ events s.later
  events_whole = ap events whole ∙ events-append now s.later
      ∙ ap (λ (happenings : List Happening). happenings ++ events s.later) events_now

  stands : ∥ Stands fin_map.empty (events now) ∥₁
  stands = ∥∥₁_map recounts.stands (λ (t : Stands pending (events log)).
      subst (λ (happenings : List Happening). Stands fin_map.empty happenings) (sym events_now)
      (stands_at pending (events s.before) f.streams (events s.later)
      (subst (λ (happenings : List Happening). Stands pending happenings) events_whole t)))

  -- each thread's name has its place among the shares
  named : (j : ℕ) (m : Member) → slice_get shares j ≡ Some m → (name : List ℕ) × (slice_get names j ≡ Some name)
  named j m e = there names j (subst (λ (k : ℕ). j < k) long (slice_get_within shares j m e))

  step_of : (j : ℕ) (m : Member) → slice_get shares j ≡ Some m → KeepsStep 0 0 m.own
  step_of j m e =
      let its = named j m e in let d = did j its.0 its.1 in
      subst (λ (x : Member). KeepsStep 0 0 x.own) (at_most_one (slice_get shares j) d.0 m d.2 e) d.3.step

  step_then : (j : ℕ) (m : Member) → slice_get shares j ≡ Some m → KeepsStep 0 0 (entries_by m.number now)
  step_then j m e = steps_front 0 0 (entries_by m.number now) (entries_by m.number s.later)
      (subst (KeepsStep 0 0) (own_then (suc j) m e) (step_of j m e))

  abbrev Unclosed : ℕ × List Happening → Type 0
  Unclosed a = a.0 ≢ taker.number → flat_map (if_marked releases_of) a.1 ≡ []

  unclosed : (j : ℕ) (m : Member) → slice_get (map (cut now) all) j ≡ Some m → Unclosed (account_of m)
  unclosed zero m e = λ other. let same : cut now taker ≡ m = cc in absurd (other (ap (λ (x : Member). x.number) (sym same)))
  unclosed (suc j) m e = λ other.
      let c = there shares j (subst (λ (k : ℕ). j < k) (long_cut now shares) (slice_get_within (map (cut now) shares) j m e)) in
      let same : cut now c.0 ≡ m = at_most_one (slice_get (map (cut now) shares) j) (cut now c.0) m
      (cut_in now shares j c.0 c.1) e in
      subst (λ (x : Member). flat_map (if_marked releases_of) x.own ≡ []) same
      (releases_none 0 0 (entries_by c.0.number now) (step_then j c.0 c.1))

  released_are : num_released (events now) ≡ num_released f.before
  released_are =
      let its_own : num_released (events now) ≡ num_released (entries_by taker.number now) =
      ap length (only_one (if_marked releases_of) n taker.number (accounts_of (map (cut now) all)) now authors
      (every Unclosed (map (cut now) all) unclosed)) in
      omega (arith, its_own, ap num_released taken_then, released-both f.before (framed f.streams ∷ []))

  seen_now : AreSeen 0 0 (events now)
  seen_now = history.seen_front 0 0 (events now) (events s.later)
      (subst (AreSeen 0 0) (ap events whole ∙ events-append now s.later) recounts.seen)

  seen : AllSeen (num_arrived (events now)) (num_released f.before) (events now)
  seen = all_seen 0 (num_arrived (events now)) 0 (num_released f.before) (events now) (omega arith)
      (omega (arith, released_are)) seen_now

  seen_in : (k : ℕ) → AllSeen (num_arrived (events now)) (num_released f.before) (entries_by k now)
  seen_in k = seen_by (num_arrived (events now)) (num_released f.before) k now seen

  its : Gathered (length shares) 0 0 (num_arrived (events now)) f.before f.later
  its = gathered (length shares) (num_arrived (events now)) (num_released f.before) 0 0 0 f.before f.streams f.later
      (subst (TakesInTurn (length shares) 0 0 0) f.whole takes)
      (seen_front (num_arrived (events now)) (num_released f.before) f.before
      (framed f.streams ∷ []) (subst (AllSeen (num_arrived (events now)) (num_released f.before)) taken_then
      (seen_in taker.number))) (omega arith) (omega arith)

  -- it is the frame of this round
  this_round : num_released f.before ≡ round
  this_round =
      let frames : length (frames_in taker.own) ≡ length (frames_in f.before) + suc (length (frames_in f.later)) =
      ap (λ happenings. length (frames_in happenings)) f.whole
      ∙ ap length (flat_map-append frame_of f.before (framed f.streams ∷ f.later))
      ∙ length-append (frames_in f.before) (f.streams ∷ frames_in f.later) in
      let closed : num_released taker.own ≡ num_released f.before + num_released f.later = ap num_released f.whole
      ∙ released-both f.before (framed f.streams ∷ f.later) in
      omega (arith, frames, closed, full, f.earlier, its.before, its.later)

  abbrev parts : ℕ → ℕ
  parts k = num_arrived (entries_by k now)

  most : (j : ℕ) (m : Member) → slice_get shares j ≡ Some m → parts m.number ≤ suc round
  most j m e = omega (
    arith,
    this_round,
    few_parts (num_arrived (events now)) (num_released f.before) 0 0 (entries_by m.number now)
        (step_then j m e) (seen_in m.number) (omega arith) (omega arith),
  )

  enough : length shares * suc round ≤ sum_by (λ (m : Member). parts m.number) shares
  enough =
      let sum = all_parts n now (accounts_of all) authors.has (λ k less. recounts.all.once k less) in
      let none : parts taker.number ≡ 0 = ap num_arrived taken_then
      ∙ takes_no_part (length shares) 0 0 0 f.before f.streams f.later
      (subst (TakesInTurn (length shares) 0 0 0) f.whole takes) in
      let split = sum_by-cons (λ (m : Member). parts m.number) taker shares in
      let all_of = parts_cut now all in
      let from_none : 0 + num_released f.before ≡ round = omega (arith, this_round) in
      let gathered_parts : length shares * suc round ≤ num_arrived (events now) =
      subst (λ (r : ℕ). length shares * suc r ≤ num_arrived (events now)) from_none its.parts in
      omega (arith, sum, none, split, all_of, gathered_parts)
    where
      takes_no_part : (threads r p frames : ℕ) (happenings : List Happening) (streams : Streams) (later : List Happening)
          → TakesInTurn threads r p frames (happenings ++ framed streams ∷ later)
          → num_arrived (happenings ++ framed streams ∷ []) ≡ 0
      takes_no_part threads r p frames [] streams later takes = refl
      takes_no_part threads r p frames (reported i x ∷ happenings) streams later takes = absurd takes.0
      takes_no_part threads r p frames (framed x ∷ happenings) streams later takes =
          takes_no_part threads (r + 0) p (suc frames) happenings streams later takes.1
      takes_no_part threads r p frames (marked arrived ∷ happenings) streams later takes = absurd takes.0
      takes_no_part threads r p frames (marked released ∷ happenings) streams later takes =
          takes_no_part threads (r + 1) p 0 happenings streams later takes.1
      takes_no_part threads r p frames (marked (saw_arrived m) ∷ happenings) streams later takes =
          takes_no_part threads (r + 0) m frames happenings streams later takes.1
      takes_no_part threads r p frames (marked (saw_released m) ∷ happenings) streams later takes = absurd takes.0
      takes_no_part threads r p frames (marked left ∷ happenings) streams later takes = absurd takes.0

  each_did : (j : ℕ) (m : Member) → slice_get shares j ≡ Some m → parts m.number ≡ suc round
  each_did = each_full (λ (m : Member). parts m.number) (suc round) shares most enough

  -- each thread had run just this and the earlier rounds
  ran : (k : ℕ) → k < length names → (count : ThreadCounts) × ((name : List ℕ) → slice_get names k ≡ Some name →
      (share : Member) × (code : Code) × (slice_get (map (cut now) shares) k ≡ Some share) × AreTurns (is k) (suc round) code
      × HasRun name Short known code [] share.own count.unreported)
  ran k within =
      let its_name = there names k within in
      let d = did k its_name.0 its_name.1 in
      let done = each_did k d.0 d.2 in
      let own : d.0.own ≡ entries_by d.0.number now ++ entries_by d.0.number s.later = own_then (suc k) d.0 d.2 in
      let e = d.3.each round (omega (
        arith,
        ap num_arrived own,
        arrived-both (entries_by d.0.number now) (entries_by d.0.number s.later),
        done,
      )) in
      let cut_is : entries_by d.0.number now ≡ until (suc round) d.0.own =
      cut_there (num_arrived (events now)) (num_released f.before) 0 0 (entries_by d.0.number now) (entries_by d.0.number s.later)
      (subst (KeepsStep 0 0) own (step_of k d.0 d.2)) (seen_in d.0.number) (omega arith) (omega (arith, done, this_round))
      ∙ ap (λ (m : ℕ). until m (entries_by d.0.number now ++ entries_by d.0.number s.later)) done
      ∙ ap (until (suc round)) (sym own) in (
        record { reported = 0; unreported = e.1; refused = 0; left_open = 0 },
        λ name at. (
          cut now d.0,
          e.0,
          cut_in now shares k d.0 d.2,
          e.2,
          subst (λ (happenings : List Happening). HasRun name Short known e.0 [] happenings e.1) (sym cut_is)
              (subst (λ (x : List ℕ). HasRun x Short known e.0 [] (until (suc round) d.0.own) e.1)
              (at_most_one (slice_get names k) its_name.0 name its_name.1 at) e.3),
        ),
      )

  pub shows_then : (counts : List ThreadCounts) × ShowsEach known (λ number. AreTurns (is number) (suc round)) names counts
      (take (suc round) (frames_in taker.own)) fin_map.empty
  shows_then =
      let c = chosen (λ k (count : ThreadCounts). (name : List ℕ) → slice_get names k ≡ Some name →
      (share : Member) × (code : Code) × (slice_get (map (cut now) shares) k ≡ Some share) × AreTurns (is k) (suc round) code
      × HasRun name Short known code [] share.own count.unreported) (length names) ran in (
        c.0,
        subst (λ (frames : List Streams). ShowsEach known
            (λ number. AreTurns (is number) (suc round)) names c.0 frames fin_map.empty) (ap frames_in taken_then ∙ sym f.first)
            (frames_show known n (λ number. AreTurns (is number) (suc round)) names (map (cut now) shares) c.0
            (cut now taker) now fin_map.empty
            (λ k name at.
            let at_k = there c.0 k (subst (λ (m : ℕ). k < m) (sym c.1) (slice_get_within names k name at)) in
            let its = c.2 k at_k.0 at_k.1 name at in
            record {
              share = its.0;
              count = at_k.0;
              code = its.1;
              share_is = its.2;
              count_is = at_k.1;
              right = its.3;
              ran = its.4;
            })
            (long_cut now shares ∙ long)
            (λ i. let parts : reports_under i taker.own ≡ reports_under i (entries_by taker.number now) ++ reports_under i
            (entries_by taker.number s.later) = ap (reports_under i) (own_then 0 taker refl)
            ∙ flat_map-append (report_under i) (entries_by taker.number now) (entries_by taker.number s.later) in
            omega (
              arith,
              quiet i,
              ap length parts,
              length-append (reports_under i (entries_by taker.number now))
                  (reports_under i (entries_by taker.number s.later)),
            ))
            (recounted n (accounts_of (map (cut now) all)) now fin_map.empty stands seen_now authors)),
      )
