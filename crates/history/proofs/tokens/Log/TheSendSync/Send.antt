-- A log may be sent to another thread: what it owns is tied to none.
use denote.RattleType.{RattleType}
use denote.Param.Send.{IsSend}
use Rattle.history.specs.declared.tokens.History.{Ghosts}
use Rattle.history.specs.contracts.tokens.Log.{the_row}
use Rattle.history.proofs.Steps.{log_keyless}

pub send : (E L : RattleType) (g : Ghosts L.Denot) → IsSend (the_row E L g)
send E L g = record {
  owned = λ log vs. ((λ vss. (tt, ((λ uss. (tt, tt)), tt))), log_keyless E.coded.code g.history log.authors log.entries);
  leaving = λ k f vs. tt;
}
