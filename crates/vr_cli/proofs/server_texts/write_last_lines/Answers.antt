use Rattle.vr_cli.proofs.GatheringLemmas.{Writes-gathered}
use Rattle.vr_cli.proofs.server_texts.write_last_lines.Goals as goal

pub returns-clause-text : goal.returns-clause-text
returns-clause-text g c =
    let before = g.O.Sink.written c.args.out.now in
    let after = g.O.Sink.written c.finish.new.out in
    let whole = Writes-gathered c.finish.result before _ after _ _ _ c.in_ok-text-2.ensures.text c.finish.ensures.text in
    rw (c.in_ok-push_slice.ensures.ok, c.in_ok-text.ensures, c.as_bytes.ensures.value, c.in_ok-line.ensures, c.journal.ensures.entries, c.files.ensures.files) at whole
