-- A history's tokens may be sent to another thread.
use denote.RattleType.{RattleType}
use denote.Param.Send.{IsSend}
use Rattle.history.specs.declared.tokens.History.{Ghosts}
use Rattle.history.specs.contracts.tokens.Log as Log
use Rattle.history.specs.contracts.tokens.Author as Author
use Rattle.history.proofs.tokens.Log.TheSendSync as log
use Rattle.history.proofs.tokens.Author.TheSendSync as author

pub log_send : (E L : RattleType) (h : Ghosts L.Denot) → IsSend (Log.the_field E L h).row
log_send E L h = log.the_send E L h

pub author_send : (E L : RattleType) (h : Ghosts L.Denot) → IsSend (Author.the_field E L h).row
author_send E L h = author.the_send E L h
