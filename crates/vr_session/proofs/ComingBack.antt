-- A book that comes back without calls.
use Rattle.std.proofs.Common.{◌≡◌, ◌≤◌, ℕ, Bool, [], Option, refl, arith}
use Rattle.std.proofs.lemmas.List.Elements.{All-nil}
use Rattle.vr_base.specs.declared.calls.Entry.{Entry}
use Rattle.vr_core.proofs.HistoryLemmas.{book_isolated}
use Rattle.vr_core.specs.History.{BookState, IsBook}
use Rattle.vr_files.specs.FileMaps.{FileMap}
use Rattle.vr_session.specs.Attendings.{ComesBack}

pub unmade_book : {K : Type 0} (rows : K → Option FileMap) (is_loaded : K → Bool) (faults : K → ℕ) (workers : ℕ) (book : BookState K) → IsBook rows is_loaded book → book.journal ≡ []
    → ComesBack rows is_loaded faults workers book book
unmade_book rows is_loaded faults workers book is none = record {
  book = is;
  origin = refl;
  isolated = book_isolated rows is_loaded book is;
  numbered = rw none (All-nil (λ (e : Entry). e.seat ≤ workers));
  alone = λ one. rw none (All-nil (λ (e : Entry). e.seat ≡ 1));
  keeper = omega arith;
}
