use Rattle.vr_cli.specs.Replays.{reached}
use Rattle.vr_cli.proofs.replaying.write_replay.Goals as goal

pub returns-clause-text : goal.returns-clause-text
returns-clause-text g c =
    let told = c.in_ok-_book.ensures.text in
    (told.0, (reached c.in_ok-_book._book, told.1), told.2)
