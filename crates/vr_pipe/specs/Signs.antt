-- The codes of the characters that a pipeline's text gives a meaning (Unicode's names).
use Rattle.std.specs.Prelude.{ℕ}

abbrev pub tab : ℕ
tab = 9

abbrev pub semicolon : ℕ
semicolon = 59

abbrev pub left_brace : ℕ
left_brace = 123

abbrev pub vertical_line : ℕ
vertical_line = 124

abbrev pub right_brace : ℕ
right_brace = 125
