use Rattle.std.proofs.Common.{sym, ◌∙◌}
use Rattle.vr_pipe.specs.Tokens.{piece_of}
use Rattle.vr_pipe.proofs.PieceLemmas.{past_word_of, word_result}
use Rattle.vr_pipe.proofs.tokens.first_token.Goals as goal

pub returns-else-is_sign-clause-pieces : goal.returns-else-is_sign-clause-pieces
returns-else-is_sign-clause-pieces c =
    let at = c.args.at in
    let bytes = c.args.bytes.now in
    word_result at bytes c.word_length-length.result (piece_of c.word_token.result) c.split_at.result.0.now c.split_at.result.1.now
    c.word_length-length.ensures.length c.split_at.ensures.front c.split_at.ensures.back c.word_token.ensures
    (past_word_of at bytes c.requires.some c.requires.no_blank (sym c.is_sign.ensures ∙ c.if-is_sign.false))
