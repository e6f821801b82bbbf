-- A new log may be sent to another thread: what it owns is tied to none.
use mathlib.Core.List.{[]}
use denote.RattleType.{RattleType}
use denote.Param.Send.{IsSend}
use Rattle.history.specs.contracts.tokens.NewLog.{the_row}
use Rattle.history.proofs.Steps.{log_keyless}

pub send : (E : RattleType) → IsSend (the_row E)
send E = record {
  owned = λ new vs. ((λ vss. (tt, ((λ uss. (tt, tt)), tt))), log_keyless E.coded.code new.name 0 []);
  leaving = λ k f vs. tt;
}
