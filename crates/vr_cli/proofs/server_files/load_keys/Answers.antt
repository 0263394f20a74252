use Rattle.std.proofs.lemmas.Result.{err_from_is_err_and}
use Rattle.vr_face.specs.Keys.{most_keys}
use Rattle.vr_policy_check.specs.Rules.{identity_ids}
use Rattle.vr_cli.specs.ServerFiles.{GivesHeld}
use Rattle.vr_cli.specs.Servings.{keys_in}
use Rattle.vr_words.specs.Views.{placed}
use Rattle.vr_cli.proofs.FileLemmas.{claim_reading, told_refusal, long_keys}
use Rattle.vr_cli.proofs.ServerFileLemmas.{keys_said, keys_unread, refused_keys_blame_none}
use Rattle.vr_cli.proofs.server_files.load_keys.Goals as goal

pub returns-clause-told : goal.returns-clause-told
returns-clause-told g c =
    let ids = identity_ids c.args.policy.now in
    claim_reading (keys_in ids) most_keys _ (long_keys ids most_keys) (GivesHeld c.parse_keys.result) _ _ _ c.in_ok-bytes.ensures.told
    (rw c.as_slice.ensures at c.parse_keys.ensures.answer)

pub returns-in_err-bytes-clause-told : goal.returns-in_err-bytes-clause-told
returns-in_err-bytes-clause-told g c =
    let ids = identity_ids c.args.policy.now in
    let same = err_from_is_err_and c.from_residual.result c.from_residual.ensures.1 in
    rw (same.1, same.2) (keys_unread _ ids _ _ (told_refusal (keys_in ids) most_keys _ (long_keys ids most_keys) _ _ _ c.in_err-bytes.ensures.told))

pub returns-clause-said : goal.returns-clause-said
returns-clause-said g c = keys_said (identity_ids c.args.policy.now) c.parse_keys.result c.as_slice.result.now c.parse_keys.ensures.answer

pub returns-clause-word : goal.returns-clause-word
returns-clause-word g c = refused_keys_blame_none c.parse_keys.result (placed c.args.word) c.parse_keys.ensures.refusal
