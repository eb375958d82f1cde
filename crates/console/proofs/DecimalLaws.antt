-- The digits of `all_digits` and the value of `value_of` are those that std's `parse` reads.
use Rattle.std.proofs.Common.{◌≡◌, ℕ, ◌^◌, ◌<◌, true, List, length, Result, Ok, Err, SomeIff, rules}
use Rattle.std.specs.Result.{OkIff, result_ok}
use Rattle.std.specs.Str.{IsUtf8}
use Rattle.std.specs.Str.Parse.{ParsesUnsigned}
use Rattle.std.proofs.lemmas.Fmt.{IsAscii-from_digits}
use Rattle.std.proofs.lemmas.Str.{IsUtf8-from_ascii}
use Rattle.std.proofs.lemmas.Str.Parse.{IsNumeralModel, numerals_by_fold, parse_digits}
use Rattle.console.specs.Decimal.{all_digits, continued, value_of}

pub numerals : IsNumeralModel (λ s. all_digits s ≡ true) value_of
unfolding continued
numerals = numerals_by_fold _ (search rules) continued (search rules)

pub digits_are_text : (s : List ℕ) → all_digits s ≡ true → IsUtf8 s
digits_are_text s h = IsUtf8-from_ascii s (IsAscii-from_digits s (numerals.to s h))

pub digits_parse : {E : Type 0} (s t : List ℕ) (r : Result ℕ E) → t ≡ s → ParsesUnsigned 64 10 t r → all_digits s ≡ true → 0 < length s → SomeIff (result_ok r) (value_of s < 2 ^ 64) (value_of s)
digits_parse s t r e h d some = fits r (parse_digits numerals 64 s r (rw e at h) d)
  where
    fits : {E : Type 0} (r : Result ℕ E) → OkIff r ((0 < length s) × (value_of s < 2 ^ 64)) (value_of s) → SomeIff (result_ok r) (value_of s < 2 ^ 64) (value_of s)
    fits (Ok n) h = (h.0.1, h.1)
    fits (Err _) h = λ l. h (some, l)
