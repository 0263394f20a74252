use Rattle.std.proofs.Common.{inl, inr, refl}
use Rattle.std.proofs.lemmas.Result.{err_from_is_err_and}
use Rattle.vr_cli.proofs.FileLemmas.{blames_named}
use Rattle.vr_cli.proofs.ServerFileLemmas.{both_read}
use Rattle.vr_words.specs.Views.{placed}
use Rattle.vr_cli.proofs.server_files.load_basis.Goals as goal

pub returns-clause-told : goal.returns-clause-told
returns-clause-told g c =
    let held = rw (c.policy-2.ensures.policy, c.in_ok-policy.ensures.same) at c.in_ok-keys.ensures.told in
    both_read _ _ _ (c.in_ok-policy.policy, c.in_ok-policy.hash) c.in_ok-keys.keys c.in_ok-policy.ensures.told held

pub returns-clause-said : goal.returns-clause-said
returns-clause-said g c = (c.in_ok-policy.ensures.said, rw c.policy-2.ensures.policy at c.in_ok-keys.ensures.said)

pub returns-in_err-policy-clause-word : goal.returns-in_err-policy-clause-word
returns-in_err-policy-clause-word g c =
    let same = err_from_is_err_and c.from_residual.result c.from_residual.ensures.1 in
    rw (same.1, same.2) (blames_named _ (placed c.args.policy) _ (inl refl) c.in_err-policy.ensures.word)

pub returns-in_err-keys-clause-word : goal.returns-in_err-keys-clause-word
returns-in_err-keys-clause-word g c =
    let same = err_from_is_err_and c.from_residual-in_err-keys.result c.from_residual-in_err-keys.ensures.1 in
    rw (same.1, same.2) (blames_named _ (placed c.args.keys) _ (inr refl) c.in_err-keys.ensures.word)
