-- What the run shows of its rounds shows the game.
use Rattle.std.proofs.Common.{length}
use Rattle.puffin.specs.Places.{details_in}
use Rattle.example_proved_rounds.proofs.Showing.{game_shown}
use Rattle.example_proved_rounds.proofs.play.Goals as goal

pub returns : goal.returns
returns g c =
    game_shown _ (length (details_in c.args.scopes.now)) c.args.game.now c.default.result.leader.now c.default.ensures.0
    c.run_rounds.result c.run_rounds.ensures.shows
