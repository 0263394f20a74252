use Rattle.std.proofs.Common.{ℕ, sym, ap}
use Rattle.std.proofs.lemmas.List.{length-map}
use Rattle.std.specs.FinMap.{len}
use Rattle.vr_core.specs.History.{replies_of}
use Rattle.vr_generator.specs.declared.summary.Summary.{Summary}
use Rattle.vr_cli.specs.Summaries.{reply_counts, total_size}
use Rattle.vr_cli.proofs.summing.sum_up.Goals as goal

pub returns : goal.returns
returns g c =
    let book = c.args.book.now in
    let summary : ℕ → Summary = λ calls. record {
      made = c.args.made;
      calls = calls;
      replies = reply_counts (replies_of book.journal);
      files = len book.files;
      bytes = total_size book.files;
      hash = c.args.hash;
    } in
    rw (c.count_replies.ensures, c.len.ensures, c.sum_sizes.ensures, c.journal-journal.ensures.entries, c.files-files.ensures.files)
    (ap summary (sym (length-map book.journal (λ entry. entry.reply))))
