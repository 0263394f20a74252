use Rattle.std.proofs.Common.{Some, ap, sym, ◌∙◌}
use Rattle.std.specs.Option.{option_map}
use Rattle.std.specs.FinMap.{entries}
use Rattle.std.specs.List.{slice_get}
use Rattle.std.proofs.lemmas.Bool.{ltb-false}
use Rattle.vr_files.specs.FileMaps.{FileTable}
use Rattle.vr_files.proofs.MapLemmas.{entry_there, entry_past}
use Rattle.vr_files.proofs.files.Files.entry.Goals as goal

pub returns-in_err-get : goal.returns-in_err-get
returns-in_err-get c =
    ap (λ r. option_map (λ entry. (entry.0.now, entry.1.now)) r) c.from_residual.ensures
    ∙ entry_past c.self.inside.entries.items c.deref.result.now c.args.k (ltb-false c.args.k _ (sym c.in_err-get.ensures.lookup.0)) c.deref.ensures.value c.self.invariant
    ∙ ap (λ (t : FileTable). slice_get (entries t.map) c.args.k) c.self.view_is

pub returns : goal.returns
returns c =
    let kept = c.in_ok-get.field-0.now in
    ap (λ path. Some (path, c.file.result.1.now)) c.file.ensures.path ∙ ap (λ body. Some (kept.0, body)) c.file.ensures.body
    ∙ entry_there c.self.inside.entries.items c.deref.result.now c.args.k kept c.in_ok-get.ensures.lookup.3.0 c.in_ok-get.ensures.lookup.1 c.deref.ensures.value c.self.invariant
    ∙ ap (λ (t : FileTable). slice_get (entries t.map) c.args.k) c.self.view_is
