use Rattle.std.proofs.Common.{◌≡◌, List, ℕ, min, ◌++◌, length, take, drop, sym, ap, subst, ◌∙◌}
use Rattle.std.specs.Io.KnownBytes.{Consumes}
use Rattle.vr_http.specs.Inboxes.{unread, stream}
use Rattle.vr_http.proofs.GatherLemmas.{body_taken}
use Rattle.vr_http.proofs.reading.read_body.Goals as goal

pub returns-clause-body : goal.returns-clause-body
returns-clause-body g c =
    let held = unread c.args.inbox.now in
    let size = c.args.size in
    let count = c.min-held.result in
    let before = g.S.Source.left c.args.source.now in
    let left = g.S.Source.left c.read_rest.new.source in
    let rest = c.in_ok-read_rest.ensures.rest in
    let more = rest.more in
    let start : c.extend_from_slice.new.self.items ≡ take count held =
    c.in_ok-extend_from_slice.ensures.items
    ∙ ap (λ (t : List ℕ). t ++ take count c.unread-2.result.now) c.in_ok-body.ensures.items
    ∙ ap (take count) c.unread-2.ensures.value in
    let body : c.of.result ≡ take count held ++ more =
    c.of.ensures ∙ rest.added ∙ ap (λ (t : List ℕ). t ++ more) start in
    let whole : length c.of.result ≡ size = ap length c.of.ensures ∙ rest.whole in
    let taken : count ≡ min (length held) size =
    c.min-held.ensures ∙ ap (λ (t : List ℕ). min (length t) size) c.unread.ensures.value in
    let P : List ℕ → Type 0 = λ bytes. Consumes (stream held before) (stream bytes left) c.of.result in
    let Q : List ℕ → Type 0 = λ bytes. Consumes (stream held before) (stream (drop count held) left) bytes in (
      subst P (sym c.skip.ensures)
          (subst Q (sym body)
          (body_taken held more count size before left taken (sym (ap length body) ∙ whole) rest.consumed)),
      whole,
    )
