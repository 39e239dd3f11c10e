use Rattle.std.proofs.Common.{◌≡◌, ◌<◌, ◌^◌, take, true}
use Rattle.std.specs.List.{list_all}
use Rattle.listing_reader.specs.Forms.{digits_after, is_digit}
use Rattle.listing_reader.proofs.form.number.Given as goal

abbrev pub invariant-loop-digit : goal.invariant-loop-digit
invariant-loop-digit l = record {
  digits : list_all is_digit (take l.digit-index l.digits) ≡ true;
  number : l.value ≡ digits_after 0 (take l.digit-index l.digits);
  below : l.value < 10 ^ l.digit-index;
}
