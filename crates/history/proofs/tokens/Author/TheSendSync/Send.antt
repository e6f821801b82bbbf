-- An author may be sent to another thread: what it owns is tied to none.
use denote.RattleType.{RattleType}
use denote.Param.Send.{IsSend}
use Rattle.history.specs.declared.tokens.History.{Ghosts}
use Rattle.history.specs.contracts.tokens.Author.{the_row}
use Rattle.history.proofs.Steps.{author_keyless}

pub send : (E L : RattleType) (g : Ghosts L.Denot) → IsSend (the_row E L g)
send E L g = record {
  owned = λ author vs. (
    (λ vss. (tt, ((λ uss. (tt, tt)), tt))),
    author_keyless E.coded.code g.history author.number author.own author.seen,
  );
  leaving = λ k f vs. tt;
}
