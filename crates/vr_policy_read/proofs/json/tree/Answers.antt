-- The length was tested, and the JSON reader answers the tree of a text in UTF-8, or refuses it.
use Rattle.std.proofs.Common.{◌≡◌, true, false, refl, cond, None, Err}
use Rattle.std.proofs.lemmas.Bool.{le-ltb}
use Rattle.std.proofs.lemmas.Str.{IsUtf8-from_is_utf8, is_utf8-from_IsUtf8}
use Rattle.std.specs.Str.{is_utf8}
use Rattle.serde_json.specs.Read.{read}
use Rattle.vr_base.specs.Checks.{or_fault}
use Rattle.vr_policy_read.specs.declared.faults.ReadKind.TheVariants.{NotJson}
use Rattle.vr_policy_read.proofs.json.tree.Goals as goal

pub returns-in-Ok : goal.returns-in-Ok
returns-in-Ok c =
    let h = c.in-Ok.ensures.ok in
    rw (le-ltb _ _ c.if-bytes-gt-MOST_POLICY.false, is_utf8-from_IsUtf8 _ h.0, h.1) refl

pub returns-in_default : goal.returns-in_default
returns-in_default c =
    let refused = c.in-Err.ensures.err (λ m. c.in_default.not-Memory (c.classify.ensures.memory.1 m)) in
    rw (le-ltb _ _ c.if-bytes-gt-MOST_POLICY.false) (
    elim (is_utf8 c.args.bytes.now) as (λ b. is_utf8 c.args.bytes.now ≡ b → or_fault NotJson (cond b (read c.args.bytes.now) None) ≡ Err NotJson) [
      | true ↦ λ e. rw (refused (IsUtf8-from_is_utf8 _ e)) refl
      | false ↦ λ e. refl
    ] refl)
