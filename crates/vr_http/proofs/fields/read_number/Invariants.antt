-- The number that the digits so far give, or one past the limit.
use Rattle.std.proofs.Common.{◌≡◌, min, take, true}
use Rattle.std.specs.Char.{is_ascii_digit}
use Rattle.std.specs.List.{list_all}
use Rattle.std.specs.Str.Parse.{digits_value}
use Rattle.vr_http.proofs.fields.read_number.Given as goal

abbrev pub invariant-loop-digit : goal.invariant-loop-digit
invariant-loop-digit l = record {
  number : l.number ≡ min (digits_value 10 (take l.digit-index l.digits)) 16777217;
  digits : list_all is_ascii_digit (take l.digit-index l.digits) ≡ true;
}
