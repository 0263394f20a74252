use Rattle.std.proofs.Common.{◌∙◌, ◌+◌, sym}
use Rattle.std.proofs.lemmas.Bool.{eqb-true}
use Rattle.vr_pipe.proofs.PieceLemmas.{blank_result, no_pieces}
use Rattle.vr_pipe.proofs.tokens.next_token.Goals as goal

pub returns-then-is_empty-clause-pieces : goal.returns-then-is_empty-clause-pieces
returns-then-is_empty-clause-pieces c =
    blank_result c.args.at c.args.bytes.now c.blank_length-blanks.result c.blank_length-blanks.ensures.length
    ∙ no_pieces (c.args.at + c.blank_length-blanks.result) _ (eqb-true _ 0 (sym c.is_empty.ensures ∙ c.if-is_empty.true))

pub returns-clause-pieces : goal.returns-clause-pieces
returns-clause-pieces c =
    blank_result c.args.at c.args.bytes.now c.blank_length-blanks.result c.blank_length-blanks.ensures.length ∙ c.first_token.ensures.pieces
