-- The calls of a replay, which are the machine's, and the parts of its text, which are gathered one after the other.
use Rattle.std.proofs.Common.{◌≡◌, ◌≤◌, ℕ, List, [], ◌∷◌, ◌++◌, length, Option, Result, Ok, Err, inl, inr, refl, sym, ap, ◌∙◌, subst, append_assoc, arith}
use Rattle.std.proofs.lemmas.List.{append-nil, map-append}
use Rattle.std.specs.Prelude.{IsTrue}
use Rattle.vr_base.specs.Causes.{Rose}
use Rattle.vr_base.specs.declared.calls.Call.{Call}
use Rattle.vr_base.specs.declared.calls.Reply.{Reply}
use Rattle.vr_base.specs.declared.calls.Reply.TheVariants.{Unavailable, OutOfMemory}
use Rattle.vr_base.specs.Outside.{AppendsPrefix}
use Rattle.vr_base.proofs.Written.{AppendsPrefix-none}
use Rattle.vr_files.specs.FileMaps.{FileMap}
use Rattle.vr_core.specs.History.{BookState, Steps, entry, replies_of}
use Rattle.vr_core.specs.Machine.{IsStep, Origin, Replay, Replays, effect, no_calls}
use Rattle.vr_core.specs.Replies.{IsUnkept}
use Rattle.vr_base.specs.Calls.{is_made}
use Rattle.vr_core.proofs.HistoryLemmas.{replays_isolated}
use Rattle.vr_core.proofs.StepIsolation.{step_isolated}
use Rattle.vr_core.proofs.StepLemmas.{replays_push}
use Rattle.vr_policy_check.specs.Checked.{IsChecked}
use Rattle.vr_report.specs.Script.{calls_of}
use Rattle.vr_report.specs.Texts.{call_line, call_lines, files_text, policy_line}
use Rattle.vr_report.specs.declared.script.Line.{Line}
use Rattle.vr_cli.specs.Gathering.{Gathers, HandsIn, HandsInLines, PutsPrefixOfOne, Writes, WritesOne}
use Rattle.vr_cli.specs.Replays.{AreCallLines, AreFirstLines, IsIsolatedReplay, IsReplaySoFar, TellsReplay, reached}
use Rattle.vr_cli.proofs.GatheringLemmas.{AppendsPrefix-added, AppendsPrefix-gathered, Gathers-added, Gathers-none, Gathers-then, Writes-gathered}

-- a call that was answered, and not for want of memory, was made, where the keeper never fails
was_made : (reply : Reply) (before now : ℕ) → (reply ≡ OutOfMemory → ⊥) → before ≡ 0 → now ≡ 0 → (reply ≡ Unavailable → Rose before now) → IsTrue (is_made reply)
was_made Unavailable before now has first last cause =
    absurd (let more : Rose 0 0 = rw (first, last) at (cause refl) in let none : 1 ≤ 0 = more in omega (arith, none))
was_made OutOfMemory before now has first last cause = absurd (has refl)
was_made reply before now has first last cause = refl

-- What a call that was made came to: a step of the machine, and its reply at the end of the journal.
pub record Answers (origin : Origin) (before : Replay) (line : Line) (reply : Reply) (after : Replay) : Type 0 where
  pub step : IsStep origin before.files line.who line.call (effect reply after.files)
  pub noted : after.replies ≡ before.replies ++ reply ∷ []

pub answered : {K : Type 0} (old new : BookState K) (seat : ℕ) (line : Line) (reply : Reply) (before now : ℕ) → Steps old new seat line.who line.call reply
    → (reply ≡ OutOfMemory → ⊥) → before ≡ 0 → now ≡ 0
    → (reply ≡ Unavailable → IsUnkept (IsStep old.origin old.files line.who line.call) old.files before now)
    → Answers old.origin (reached old) line reply (reached new)
answered old new seat line reply before now steps has first last cause =
    let made = was_made reply before now has first last (λ e. (cause e).rose) in
    record {
      step = steps.outcome made;
      noted = ap replies_of (steps.made made) ∙ map-append (λ e. e.reply) old.journal (entry seat line.who line.call reply ∷ []);
    }

-- ---- lines of calls

module _ (origin : Origin) (before : Replay) where
  -- no calls
  pub no_lines : AreCallLines origin before [] before []
  no_lines = record { replies = []; come = refl; noted = sym (append-nil before.replies); written = refl }

  -- of a script none was called yet
  pub first_none : (script : List Line) → AreFirstLines origin before script []
  first_none script = record { called = []; left = script; split = refl; after = before; are = no_lines }

  -- all of a script is its first calls
  pub first_all : (script : List Line) (after : Replay) (lines : List ℕ) → AreCallLines origin before script after lines → AreFirstLines origin before script lines
  first_all script after lines are = record { called = script; left = []; split = sym (append-nil script); after = after; are = are }

  -- one call
  pub one_line : (line : Line) (reply : Reply) (after : Replay) → Answers origin before line reply after
      → AreCallLines origin before (line ∷ []) after (call_line line.line line.who reply)
  one_line line reply after one = record {
    replies = reply ∷ [];
    come = (effect reply after.files, one.step, no_calls after.files, refl, refl);
    noted = one.noted;
    written = sym (append-nil (call_line line.line line.who reply));
  }

calls-push : (called : List Line) (line : Line) → calls_of (called ++ line ∷ []) ≡ calls_of called ++ (line.who, line.call) ∷ []
calls-push [] line = refl
calls-push (first ∷ called) line = ap (λ calls. (first.who, first.call) ∷ calls) (calls-push called line)

-- the lines of as many replies as there were calls, and one more
lines-push : (origin : Origin) (files : FileMap) (called : List Line) (line : Line) (replay : Replay) (reply : Reply) → Replays origin files (calls_of called) replay
    → call_lines (called ++ line ∷ []) (replay.replies ++ reply ∷ []) ≡ call_lines called replay.replies ++ call_line line.line line.who reply
lines-push origin files [] line replay reply h =
    ap (λ (r : Replay). call_lines (line ∷ []) (r.replies ++ reply ∷ [])) h ∙ append-nil (call_line line.line line.who reply)
lines-push origin files (first ∷ called) line replay reply (next, step, rest, others, is) =
    ap (λ (r : Replay). call_lines (first ∷ (called ++ line ∷ [])) (r.replies ++ reply ∷ [])) is
    ∙ ap (λ lines. call_line first.line first.who next.reply ++ lines) (lines-push origin next.files called line rest reply others)
    ∙ sym (append_assoc (call_line first.line first.who next.reply) (call_lines called rest.replies) (call_line line.line line.who reply))
    ∙ ap (λ (r : Replay). call_lines (first ∷ called) r.replies ++ call_line line.line line.who reply) (sym is)

-- one call more
pub one_more : (origin : Origin) (before : Replay) (called : List Line) (now : Replay) (lines : List ℕ) (line : Line) (after : Replay) (more : List ℕ)
    → AreCallLines origin before called now lines → AreCallLines origin now (line ∷ []) after more → AreCallLines origin before (called ++ line ∷ []) after (lines ++ more)
one_more origin before called now lines line after more are one = by_step one.come
  where
    so_far : Replay
    so_far = record { replies = are.replies; files = now.files }

    by_step : Replays origin now.files (calls_of (line ∷ [])) (record { replies = one.replies; files = after.files })
        → AreCallLines origin before (called ++ line ∷ []) after (lines ++ more)
    by_step (next, step, rest, ends, is) =
        let replies : one.replies ≡ next.reply ∷ [] = ap (λ (r : Replay). r.replies) is ∙ ap (λ (r : Replay). next.reply ∷ r.replies) ends in
        let left : after.files ≡ next.files = ap (λ (r : Replay). r.files) is ∙ ap (λ (r : Replay). r.files) ends in
        let pushed = replays_push origin before.files (calls_of called) (line.who, line.call) so_far next are.come step in
        let text : more ≡ call_line line.line line.who next.reply = one.written ∙ ap (call_lines (line ∷ [])) replies ∙ append-nil (call_line line.line line.who next.reply) in
        record {
          replies = are.replies ++ next.reply ∷ [];
          come = rw (calls-push called line, left) pushed;
          noted = one.noted ∙ ap (λ (r : List Reply). now.replies ++ r) replies ∙ ap (λ (r : List Reply). r ++ next.reply ∷ []) are.noted
              ∙ append_assoc before.replies are.replies (next.reply ∷ []);
          written = ap (λ (t : List ℕ). t ++ more) are.written ∙ ap (λ (t : List ℕ). call_lines called are.replies ++ t) text
              ∙ sym (lines-push origin before.files called line so_far next.reply are.come);
        }

-- the line of a call's reply was handed in
pub line_handed : {E : Type 0} (result : Result (List ℕ) E) (a b : Option (List ℕ)) (held : List ℕ) (origin : Origin) (before : Replay) (line : Line) (reply : Reply) (after : Replay)
    → Answers origin before line reply after → HandsIn result a b (held ++ call_line line.line line.who reply) []
    → HandsInLines result a b held (AreCallLines origin before (line ∷ []) after) (AreFirstLines origin before (line ∷ []))
line_handed (Ok rest) a b held origin before line reply after one h =
    (call_line line.line line.who reply, one_line origin before line reply after one, Gathers-added a b held rest (call_line line.line line.who reply) h)
line_handed (Err e) a b held origin before line reply after one h =
    let text = call_line line.line line.who reply in
    (text, first_all origin before (line ∷ []) after text (one_line origin before line reply after one), AppendsPrefix-added a b held text h)

-- ---- the calls of the script, one after the other

-- The first calls of a script were made, and their lines handed in.
pub record CalledSoFar (origin : Origin) (before : Replay) (script : List Line) (now : Replay) (left : List Line)
    (a b : Option (List ℕ)) (held rest : List ℕ) : Type 0 where
  pub called : List Line
  pub lines : List ℕ
  pub split : script ≡ called ++ left
  pub are : AreCallLines origin before called now lines
  pub handed : Gathers a b held rest lines

module _ (origin : Origin) (before : Replay) (script : List Line) (a : Option (List ℕ)) (held : List ℕ) where
  -- none was made yet
  pub called_none : (left : List Line) → left ≡ script → CalledSoFar origin before script before left a a held held
  called_none left e = record { called = []; lines = []; split = sym e; are = no_lines origin before; handed = Gathers-none a held }

  module _ (b : Option (List ℕ)) (rest : List ℕ) (now : Replay) where
    -- all were made
    pub called_all : (left : List Line) → length left ≡ 0 → CalledSoFar origin before script now left a b held rest
        → (lines : List ℕ) × AreCallLines origin before script now lines × Gathers a b held rest lines
    called_all (line ∷ left) none h = absurd (omega (arith, none))
    called_all [] none h =
        (h.lines, subst (λ (s : List Line). AreCallLines origin before s now h.lines) (sym (h.split ∙ append-nil h.called)) h.are, h.handed)

    module _ (line : Line) (left : List Line) (h : CalledSoFar origin before script now (line ∷ left) a b held rest) (c : Option (List ℕ)) where
      -- one more was made
      pub called_more : (kept : List ℕ) (after : Replay) → (lines : List ℕ) × AreCallLines origin now (line ∷ []) after lines × Gathers b c rest kept lines
          → CalledSoFar origin before script after left a c held kept
      called_more kept after (lines, one, more) = record {
        called = h.called ++ line ∷ [];
        lines = h.lines ++ lines;
        split = h.split ∙ sym (append_assoc h.called (line ∷ []) left);
        are = one_more origin before h.called now h.lines line after lines h.are one;
        handed = Gathers-then a b c held rest kept h.lines lines h.handed more;
      }

      -- the next was cut off
      pub called_cut : (lines : List ℕ) × AreFirstLines origin now (line ∷ []) lines × AppendsPrefix b c (rest ++ lines)
          → (lines : List ℕ) × AreFirstLines origin before script lines × AppendsPrefix a c (held ++ lines)
      called_cut (lines, first, cut) =
          (h.lines ++ lines, by_called first.called first.left first.split first.are, AppendsPrefix-gathered a b c held rest rest h.lines lines h.handed cut)
        where
          by_called : (called more : List Line) → line ∷ [] ≡ called ++ more → AreCallLines origin now called first.after lines → AreFirstLines origin before script (h.lines ++ lines)
          by_called [] more e are =
              let none : lines ≡ [] = are.written in
              let same : h.lines ++ lines ≡ h.lines = ap (λ (t : List ℕ). h.lines ++ t) none ∙ append-nil h.lines in
              record { called = h.called; left = line ∷ left; split = h.split; after = now; are = rw same h.are }
          by_called (other ∷ []) more e are =
              let same : line ≡ other = cc (e) in
              let one : AreCallLines origin now (line ∷ []) first.after lines = rw same are in
              record {
                called = h.called ++ line ∷ [];
                left = left;
                split = h.split ∙ sym (append_assoc h.called (line ∷ []) left);
                after = first.after;
                are = one_more origin before h.called now h.lines line first.after lines h.are one;
              }
          by_called (other ∷ (another ∷ called)) more e are = cc (e)

-- ---- the text of a replay

-- a replay under a checked policy is isolated
replay_isolated : (origin : Origin) → IsChecked origin.policy → (calls : List (ℕ × Call)) (replay : Replay) → Replays origin origin.opening calls replay → IsIsolatedReplay origin calls replay
replay_isolated origin checked calls replay comes caller ids regions closed opening twin agree h =
    replays_isolated origin (step_isolated origin checked) caller ids regions closed calls origin.opening opening replay twin agree comes h

module _ (origin : Origin) (script : List Line) where
  -- nothing of it
  pub replay_none : (o : Option (List ℕ)) → PutsPrefixOfOne o o (IsReplaySoFar origin script)
  replay_none o =
      (policy_line origin.hash ++ [], inl (record { lines = []; first = first_none origin (no_calls origin.opening) script; written = refl }), AppendsPrefix-none o (policy_line origin.hash ++ []))

  module _ (a b : Option (List ℕ)) where
    -- the calls' lines were begun
    pub replay_called : (lines : List ℕ) × AreFirstLines origin (no_calls origin.opening) script lines × AppendsPrefix a b (policy_line origin.hash ++ lines)
        → PutsPrefixOfOne a b (IsReplaySoFar origin script)
    replay_called (lines, first, cut) = (policy_line origin.hash ++ lines, inl (record { lines = lines; first = first; written = refl }), cut)

    module _ (checked : IsChecked origin.policy) (rest : List ℕ) (after : Replay) (lines : List ℕ) (are : AreCallLines origin (no_calls origin.opening) script after lines)
        (calls : Gathers a b (policy_line origin.hash) rest lines) where
      -- what is to be written then
      abbrev whole : List ℕ
      whole = policy_line origin.hash ++ (lines ++ files_text after.files)

      -- what was reached is the replay of the script
      all : Replays origin origin.opening (calls_of script) after
      all = subst (λ (r : List Reply). Replays origin origin.opening (calls_of script) (record { replies = r; files = after.files })) (sym are.noted) are.come

      whole_is : TellsReplay origin script after whole
      whole_is = record {
        comes = all;
        isolated = replay_isolated origin checked (calls_of script) after all;
        written = sym (append_assoc (policy_line origin.hash) lines (files_text after.files))
            ∙ ap (λ (t : List ℕ). policy_line origin.hash ++ t ++ files_text after.files) (are.written ∙ ap (call_lines script) (sym are.noted));
      }

      -- the calls' lines were gathered, and the files' lines were begun
      pub replay_listed : (c : Option (List ℕ)) → AppendsPrefix b c (rest ++ files_text after.files) → PutsPrefixOfOne a c (IsReplaySoFar origin script)
      replay_listed c h = (whole, inr (after, whole_is), AppendsPrefix-gathered a b c (policy_line origin.hash) rest rest lines (files_text after.files) calls h)

      -- all lines were gathered, and then what was held is written
      pub replay_written : {A E : Type 0} (result : Result A E) (c d : Option (List ℕ)) (left : List ℕ) → Gathers b c rest left (files_text after.files)
          → Writes result c d left → WritesOne result a d (λ _. TellsReplay origin script after) (IsReplaySoFar origin script)
      replay_written result c d left h k =
          by_result result (Writes-gathered result a c d (policy_line origin.hash) left _ (Gathers-then a b c (policy_line origin.hash) rest left _ _ calls h) k)
        where
          by_result : {A E : Type 0} (r : Result A E) → Writes r a d whole → WritesOne r a d (λ _. TellsReplay origin script after) (IsReplaySoFar origin script)
          by_result (Ok x) w = (whole, whole_is, w)
          by_result (Err e) w = (whole, inr (after, whole_is), w)
