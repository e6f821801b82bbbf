-- What holds after some commands holds after one more.
use Rattle.std.proofs.Common.{◌≡◌, List, [], ◌∷◌, ◌++◌, length, refl, sym, ap, subst, append_assoc, append-nil, length-append, arith}
use Rattle.puffin_session.specs.declared.command.Command.{Command}
use Rattle.puffin_session.specs.declared.command.Reply.{Reply}
use Rattle.puffin_threads.specs.Details.{Details}
use Rattle.puffin_session.specs.Session.History.{Opening, Action}
use Rattle.puffin_session.specs.Session.Due.{due}
use Rattle.puffin_session.specs.Session.{SessionState, opening_of, StandsAfter}
use Rattle.puffin_session.specs.Session.Actions.{action_of, actions_of}
use Rattle.puffin_session.specs.Session.Replies.{MayReply}
use Rattle.puffin_session.specs.Session.Runs.{EachReply, LeadsTo}
use Rattle.puffin_session.specs.inner.Serving.{SumsTo, Continues}

-- The run so far leads here, and the sums over what is collected are those over what is due.
pub record RunsTo (old now : SessionState) (commands : List Command) (replies : List Reply) :
    Type 0 where
  pub leads : LeadsTo old now commands replies
  pub sums : SumsTo now.collected.streams (
      due (opening_of old) (actions_of commands replies leads.learnt))

-- one more command, reply and list of details make one more action
pub actions_of-more : (cs : List Command) (rs : List Reply) (ls : List (List Details)) (c : Command) (r : Reply)
    (l : List Details) → length rs ≡ length cs → length ls ≡ length cs
    → actions_of (cs ++ (c ∷ [])) (rs ++ (r ∷ [])) (ls ++ (l ∷ [])) ≡ actions_of cs rs ls ++ (action_of c r l ∷ [])
actions_of-more [] [] [] c r l e f = refl
actions_of-more [] [] (k ∷ ls) c r l e f = absurd (omega arith)
actions_of-more [] (q ∷ rs) ls c r l e f = absurd (omega arith)
actions_of-more (d ∷ cs) [] ls c r l e f = absurd (omega arith)
actions_of-more (d ∷ cs) (q ∷ rs) [] c r l e f = absurd (omega arith)
actions_of-more (d ∷ cs) (q ∷ rs) (k ∷ ls) c r l e f =
    ap (λ done. action_of d q k ∷ done) (actions_of-more cs rs ls c r l (omega arith) (omega arith))

-- one more command with a reply that it may get
pub EachReply-more : (o : Opening) (done : List Action) (cs : List Command) (rs : List Reply)
    (ls : List (List Details)) (c : Command) (r : Reply) (l : List Details) → length rs ≡ length cs
    → length ls ≡ length cs
    → EachReply o done cs rs ls → MayReply o (done ++ actions_of cs rs ls) c r l
    → EachReply o done (cs ++ (c ∷ [])) (rs ++ (r ∷ [])) (ls ++ (l ∷ []))
EachReply-more o done [] [] [] c r l e f each last = (subst (λ d. MayReply o d c r l) (append-nil done) last, tt)
EachReply-more o done [] [] (k ∷ ls) c r l e f each last = absurd (omega arith)
EachReply-more o done [] (q ∷ rs) ls c r l e f each last = absurd (omega arith)
EachReply-more o done (d ∷ cs) [] ls c r l e f each last = absurd (omega arith)
EachReply-more o done (d ∷ cs) (q ∷ rs) [] c r l e f each last = absurd (omega arith)
EachReply-more o done (d ∷ cs) (q ∷ rs) (k ∷ ls) c r l e f (first, others) last = (
  first,
  EachReply-more o (done ++ (action_of d q k ∷ [])) cs rs ls c r l (omega arith) (omega arith) others
      (subst (λ a. MayReply o a c r l) (sym (append_assoc done (action_of d q k ∷ []) (actions_of cs rs ls))) last),
)

-- A session that stands at its opening has run no command yet.
pub RunsTo-none : (s : SessionState) → StandsAfter (opening_of s) [] s
    → SumsTo s.collected.streams (due (opening_of s) []) → RunsTo s s [] []
RunsTo-none s stands sums = record {
  leads = record { num_replies = refl; learnt = []; num_learnt = refl; opened = stands; replies_stand = tt; stands = stands };
  sums = sums;
}

-- One more command that continues each history continues the run.
pub RunsTo-more : (old now new : SessionState) (cs : List Command) (rs : List Reply) (c : Command) (r : Reply)
    → RunsTo old now cs rs → Continues now new c r → RunsTo old new (cs ++ (c ∷ [])) (rs ++ (r ∷ []))
RunsTo-more old now new cs rs c r before continues =
    let led = before.leads in
    let (l, continues_each) = continues in
    let (continued, may_reply) = continues_each (opening_of old) (actions_of cs rs led.learnt)
    (record { stands = led.stands; sums = before.sums }) in
    let actions = actions_of-more cs rs led.learnt c r l led.num_replies led.num_learnt in
    record {
      leads = record {
        num_replies = omega (arith, led.num_replies, length-append rs (r ∷ []), length-append cs (c ∷ []));
        learnt = led.learnt ++ (l ∷ []);
        num_learnt = omega (arith, led.num_learnt, length-append led.learnt (l ∷ []), length-append cs (c ∷ []));
        opened = led.opened;
        replies_stand = EachReply-more (opening_of old) [] cs rs led.learnt c r l led.num_replies led.num_learnt
            led.replies_stand may_reply;
        stands = subst (λ done. StandsAfter (opening_of old) done new) (sym actions) continued.stands;
      };
      sums = subst (λ (done : List Action). SumsTo new.collected.streams (due (opening_of old) done)) (sym actions) continued.sums;
    }
