use Rattle.std.proofs.Common.{ℕ, sym, ap, ◌∙◌, eqb→eq, eq-eqb, T, subst}
use Rattle.std.specs.FinMap.{len, empty_of_len, len-empty}
use Rattle.std.specs.Prelude.{List}
use Rattle.vr_files.specs.FileMaps.{path_cmp}
use Rattle.vr_files.proofs.files.Files.is_empty.Goals as goal

pub returns : goal.returns
returns c =
    let map = c.args.self.now.map in (
      λ t. empty_of_len map (sym c.len.ensures ∙ eqb→eq c.len.result 0 (subst T (sym t) tt)),
      λ e. eq-eqb c.len.result 0 (c.len.ensures ∙ ap len e ∙ len-empty path_cmp (List ℕ)),
    )
