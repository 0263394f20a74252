use Rattle.std.proofs.Common.{map, Ok, refl}
use Rattle.std.specs.Prelude.{string_bytes}
use Rattle.vr_words.specs.Views.{task_of}
use Rattle.vr_cli.proofs.ServerWords.{answers_server, only_serve, same_refused, still_refused}
use Rattle.vr_cli.proofs.serving.parse_serve.Goals as goal

pub unreachable-requires : goal.unreachable-requires
unreachable-requires c =
    only_serve c.in-Ok.command (answers_server (Ok (task_of c.in-Ok.command)) (map string_bytes c.args.words.now) c.in-Ok.ensures.accepted) c.in_default.not-Serve

pub returns-in-Serve-clause-accepted : goal.returns-in-Serve-clause-accepted
returns-in-Serve-clause-accepted c = rw c.in-Serve.is at c.in-Ok.ensures.accepted

pub returns-in-Serve-clause-refused : goal.returns-in-Serve-clause-refused
returns-in-Serve-clause-refused c = still_refused c.in-Ok.command _ _ c.in-Ok.ensures.refused

pub returns-in-Serve-clause-workers : goal.returns-in-Serve-clause-workers
returns-in-Serve-clause-workers c =
    let server = answers_server (Ok (task_of c.in-Ok.command)) (map string_bytes c.args.words.now) c.in-Ok.ensures.accepted in
    rw c.in-Serve.is at server

pub returns-in-Err-clause-refused : goal.returns-in-Err-clause-refused
returns-in-Err-clause-refused c = same_refused _ _ c.in-Err.place _ refl refl c.in-Err.ensures.refused
