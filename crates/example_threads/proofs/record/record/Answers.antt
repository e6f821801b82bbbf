-- Each share is new when its thread starts; in the end the frames show each of the three jobs.
use Rattle.std.proofs.Common.{rules, ◌≡◌, ◌++◌, ◌∷◌, [], List, vec_len, sym, subst}
use Rattle.puffin.specs.Members.{Member}
use Rattle.puffin.specs.Leaving.{accounts_of}
use Rattle.puffin.specs.Recounted.{Recounts}
use Rattle.example_threads.specs.declared.record.Job.{Job}
use Rattle.example_threads.specs.declared.record.Recorded.{Recorded}
use Rattle.example_threads.specs.Recorded.{HasDone, HasTaken, Show}
use Rattle.example_threads.proofs.Showing.{none_taken, last_new, all_shown}
use Rattle.example_threads.proofs.record.record.Given.{Over}
use Rattle.example_threads.proofs.record.record.Goals as goal

-- each share is new: the last, the one before it, ..
pub take-requires : goal.take-requires
take-requires g c =
    let last : c.in-Ok.opened.1.items ≡ c.pop.new.self.items ++ c.unwrap-own.result ∷ [] = search rules in
    let (_others_new, own_new) = last_new _ _ _ c.in-Ok.ensures.shares.1 last in
    subst (λ frames. HasTaken frames c.unwrap-own.result) (sym c.new.ensures.items) (none_taken _ own_new)

pub start-requires-after_bounds : goal.start-requires-after_bounds
start-requires-after_bounds g c κs within =
    let last : c.in-Ok.opened.1.items ≡ c.pop.new.self.items ++ c.unwrap-own.result ∷ [] = search rules in
    let third : c.pop.new.self.items ≡ c.pop-2.new.self.items ++ c.unwrap-a.result ∷ [] = search rules in
    let (three_new, _own_new) = last_new _ _ _ c.in-Ok.ensures.shares.1 last in
    let (_two_new, third_new) = last_new _ _ _ three_new third in
    third_new

pub start-requires-2-after_bounds : goal.start-requires-2-after_bounds
start-requires-2-after_bounds g c κs within =
    let last : c.in-Ok.opened.1.items ≡ c.pop.new.self.items ++ c.unwrap-own.result ∷ [] = search rules in
    let third : c.pop.new.self.items ≡ c.pop-2.new.self.items ++ c.unwrap-a.result ∷ [] = search rules in
    let second : c.pop-2.new.self.items ≡ c.pop-3.new.self.items ++ c.unwrap-b.result ∷ [] = search rules in
    let (three_new, _own_new) = last_new _ _ _ c.in-Ok.ensures.shares.1 last in
    let (two_new, _third_new) = last_new _ _ _ three_new third in
    let (_one_new, second_new) = last_new _ _ _ two_new second in
    second_new

pub start-requires-3-after_bounds : goal.start-requires-3-after_bounds
start-requires-3-after_bounds g c κs within =
    let last : c.in-Ok.opened.1.items ≡ c.pop.new.self.items ++ c.unwrap-own.result ∷ [] = search rules in
    let third : c.pop.new.self.items ≡ c.pop-2.new.self.items ++ c.unwrap-a.result ∷ [] = search rules in
    let second : c.pop-2.new.self.items ≡ c.pop-3.new.self.items ++ c.unwrap-b.result ∷ [] = search rules in
    let first : c.pop-3.new.self.items ≡ c.pop-4.new.self.items ++ c.unwrap-c.result ∷ [] = search rules in
    let (three_new, _own_new) = last_new _ _ _ c.in-Ok.ensures.shares.1 last in
    let (two_new, _third_new) = last_new _ _ _ three_new third in
    let (one_new, _second_new) = last_new _ _ _ two_new second in
    let (_none_new, first_new) = last_new _ _ _ one_new first in
    first_new

-- what comes back: the frames, and the counts at the end
abbrev recorded : (g : Over) → goal.After-drop-profiler-2 g → Recorded
recorded g c = record { frames = c.in_ok-own-2.frames; settled = c.in-Ok-settle.settled }

-- it shows each of the three jobs
all : (g : Over) (c : goal.After-drop-profiler-2 g) →
    Show (recorded g c) c.args.jobs.0 × Show (recorded g c) c.args.jobs.1 × Show (recorded g c) c.args.jobs.2
all g c =
    let a = c.in_ok-join.field-0 in
    let b = c.in_ok-join-2.field-0 in
    let d = c.in_ok-join-3.field-0 in
    let own = c.in_ok-own-2.own in
    let jobs = c.args.jobs in
    let one : HasDone jobs.0 a = subst (λ (job : Job). HasDone job a) c.in_ok-first.ensures c.in_ok-join.ensures in
    let two : HasDone jobs.1 b = subst (λ (job : Job). HasDone job b) c.in_ok-second.ensures c.in_ok-join-2.ensures in
    let three : HasDone jobs.2 d = subst (λ (job : Job). HasDone job d) c.in_ok-third.ensures c.in_ok-join-3.ensures in
    let shares : c.push-4.new.self.items ≡ a ∷ b ∷ d ∷ own ∷ [] = search rules in
    let (log, pending, recounts, count) = c.in-Ok-settle.ensures.history in
    let num_shares = vec_len c.push-4.new.self in
    let known = subst (λ (all : List Member). Recounts num_shares (accounts_of all) log pending) shares recounts in
    all_shown (recorded g c) num_shares log pending a b d own jobs.0 jobs.1 jobs.2 known count one two three
    c.in_ok-own-2.ensures c.requires.apart

pub returns-clause-first : goal.returns-clause-first
returns-clause-first g c = let (first, _second, _third) = all g c in first

pub returns-clause-second : goal.returns-clause-second
returns-clause-second g c = let (_first, second, _third) = all g c in second

pub returns-clause-third : goal.returns-clause-third
returns-clause-third g c = let (_first, _second, third) = all g c in third
