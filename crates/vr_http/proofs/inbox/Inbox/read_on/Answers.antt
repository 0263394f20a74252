use Rattle.std.proofs.Common.{◌≡◌, ◌+◌, ◌-◌, ◌≤◌, List, ℕ, [], ◌++◌, length, take, slice_range, sym, ap, ◌∙◌, arith, length-append, length-take, length-drop}
use Rattle.std.proofs.lemmas.List.{append-nil, with_items_is}
use borrow.Rule.Slice.PartMut.{post_of}
use Rattle.vr_http.proofs.GatherLemmas.{Consumes-kept}
use Rattle.vr_http.proofs.WindowLemmas.{grown, kept}
use Rattle.vr_http.proofs.inbox.Inbox.read_on.Goals as goal

pub returns-in_err-count-clause-gathered : goal.returns-in_err-count-clause-gathered
returns-in_err-count-clause-gathered g c =
    let inbox = c.args.self.now in
    let bytes = c.deref_mut.result.now in
    let value = c.deref_mut.ensures.value in
    let within : inbox.end ≤ length bytes = omega (arith, ap length value) in
    let after = post_of inbox.end (length bytes - inbox.end) bytes in
    let written = take inbox.end bytes ++ (c.read.new.into ++ after) in
    let size : length written ≡ inbox.buffer.len =
    omega (arith, length-append {A = ℕ}, length-take {A = ℕ}, length-drop {A = ℕ}, ap length value, inbox.buffer.ok.0) in
    record {
      more = [];
      added =
          ap (λ (t : List ℕ). slice_range t inbox.start inbox.end) (with_items_is inbox.buffer written size)
          ∙ kept bytes c.read.new.into after inbox.start inbox.end inbox.ordered within
          ∙ ap (λ (t : List ℕ). slice_range t inbox.start inbox.end) value
          ∙ sym (append-nil _);
      consumed = Consumes-kept _ _ c.in_err-count.ensures.bytes;
    }

pub returns-clause-gathered : goal.returns-clause-gathered
returns-clause-gathered g c =
    let inbox = c.args.self.now in
    let bytes = c.deref_mut.result.now in
    let value = c.deref_mut.ensures.value in
    let within : inbox.end ≤ length bytes = omega (arith, ap length value) in
    let n = c.in_ok-count.count in
    let after = post_of inbox.end (length bytes - inbox.end) bytes in
    let written = take inbox.end bytes ++ (c.read.new.into ++ after) in
    let size : length written ≡ inbox.buffer.len =
    omega (arith, length-append {A = ℕ}, length-take {A = ℕ}, length-drop {A = ℕ}, ap length value, inbox.buffer.ok.0) in
    record {
      more = take n c.read.new.into;
      added =
          ap (λ (t : List ℕ). slice_range t inbox.start (inbox.end + n)) (with_items_is inbox.buffer written size)
          ∙ grown bytes c.read.new.into after inbox.start inbox.end n inbox.ordered within c.in_ok-count.ensures.given
          ∙ ap (λ (t : List ℕ). slice_range t inbox.start inbox.end ++ take n c.read.new.into) value;
      consumed = c.in_ok-count.ensures.bytes.0;
    }
