use Rattle.std.proofs.Common.{◌-◌, ◌≤◌, List, ℕ, length, take, sym, subst, ◌∙◌, arith, length-append, length-take, length-drop}
use Rattle.std.specs.Io.KnownBytes.{Consumes}
use borrow.Rule.Slice.PartMut.{post_of}
use Rattle.vr_http.proofs.GatherLemmas.{Consumes-then}
use Rattle.vr_http.proofs.WindowLemmas.{front_more}
use Rattle.vr_http.proofs.reading.read_exact.Goals as goal

pub loop-at-preserved : goal.loop-at-preserved
loop-at-preserved g c =
    let at = c.loop-at.at in
    let into = c.loop-at.into in
    let n = c.in_ok-count.count in
    let within : at ≤ length into = c.loop-at.invariant.within in
    let fits : n ≤ length c.read.new.into = c.in_ok-count.ensures.given in
    let after = post_of at (length into - at) into in
    let before = g.S.Source.left c.args.source.now in
    let left = g.S.Source.left c.read.new.self in
    let P : List ℕ → Type 0 = λ bytes. Consumes before left bytes in
    record {
      within = omega (arith, length-append {A = ℕ}, length-take {A = ℕ}, length-drop {A = ℕ});
      filled =
          subst P (sym (front_more into c.read.new.into after at n within fits))
          (Consumes-then before (g.S.Source.left c.loop-at.source) left (take at into) (take n c.read.new.into)
          c.loop-at.invariant.filled c.in_ok-count.ensures.bytes.0);
      beside = c.in_ok-count.ensures.beside ∙ c.loop-at.invariant.beside;
      later = omega (arith, c.in_ok-count.ensures.cause.later);
    }
