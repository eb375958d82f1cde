-- Names: what a name says of the fields that have it, and where the name of a good record stands in its bytes.
-- The message begins behind the stored length, and is long enough to hold type and number.
use mathlib.Core.Bool.{Bool, true, not, ◌&&◌}
use mathlib.Core.List.{List}
use mathlib.Core.Path.{◌≡◌, refl, ap₂, sym, ◌∙◌}
use Prim.Native.Nat.{ℕ, ◌+◌, ◌<◌}
use native.Mathlib.Omega.{arith}
use borrow.Author.Tests.{eqb-true, eq-eqb}
use lib.Dec.{eqb}
use Rattle.envelope.proofs.BoolLaws.{both}
use Rattle.envelope.proofs.ReadingLaws.{accepted_type, accepted_number}
use Rattle.envelope.proofs.RuleLaws.{two_at_is, four_at_is}
use Rattle.envelope.specs.Fields.{Fields}
use Rattle.envelope.specs.Layout.{least_size, type_place, number_place}
use Rattle.envelope.specs.Numbers.{byte_at, two_bytes, two_at, four_bytes, four_at}
use Rattle.golden.specs.File.{record_at, judged_at}
use Rattle.golden.specs.Finding.{NameFields, has_name, name_of}
use Rattle.golden.specs.Helpers.{written_name, is_written}
use Rattle.golden.specs.Pairing.{is_named}
use Rattle.golden.specs.Record.{head_size, is_retired, message_of, good}
use Rattle.golden.specs.Theorems.{GoodAt}
use Rattle.golden.proofs.FileLaws.{message_place, good_at}
use Rattle.golden.proofs.RecordLaws.{Good}

pub has_its_own_name : (f : Fields) → has_name (name_of f) f ≡ true
has_its_own_name f = rw (eq-eqb f.header.message_type f.header.message_type refl, eq-eqb f.header.number f.header.number refl)

-- one type and one number make one name
same_name : (a b : NameFields) → (eqb a.message_type b.message_type && eqb a.number b.number) ≡ true → a ≡ b
same_name a b e =
    let p = both (eqb a.message_type b.message_type) (eqb a.number b.number) e in
    λ i. record { message_type = eqb-true a.message_type b.message_type p.0 i; number = eqb-true a.number b.number p.1 i }

pub named_so : (name : NameFields) (f : Fields) → has_name name f ≡ true → name_of f ≡ name
named_so name f e = same_name (name_of f) name e

pub written_so : (name : NameFields) (r : List ℕ) → is_written name r ≡ true → written_name r ≡ name
written_so name r e =
    same_name (written_name r) name
    (both (not (is_retired r)) (eqb (written_name r).message_type name.message_type && eqb (written_name r).number name.number) e).1

-- ---- where it stands

module _ (r : List ℕ) (retired : Bool) (fields : Fields) (g : Good r retired fields) where
  byte : (k : ℕ) → k < least_size → byte_at (message_of r) k ≡ byte_at r (head_size + k)
  byte k l = message_place r k (omega (arith, g.least))

  type_at : two_at (message_of r) type_place ≡ two_at r (head_size + type_place)
  type_at = two_at_is (message_of r) type_place ∙ ap₂ two_bytes (byte 1 (omega arith)) (byte 2 (omega arith)) ∙ sym (two_at_is r (head_size + type_place))

  number_at : four_at (message_of r) number_place ≡ four_at r (head_size + number_place)
  number_at =
      four_at_is (message_of r) number_place
      ∙ (λ i. four_bytes (byte 8 (omega arith) i) (byte 9 (omega arith) i) (byte 10 (omega arith) i) (byte 11 (omega arith) i))
      ∙ sym (four_at_is r (head_size + number_place))

  written : name_of fields ≡ written_name r
  written =
      let t = accepted_type (message_of r) fields g.accepts ∙ type_at in
      let n = accepted_number (message_of r) fields g.accepts ∙ number_at in
      λ i. record { message_type = t i; number = n i }

pub name_is_written : (f : List ℕ) (n : ℕ) (retired : Bool) (fields : Fields) → judged_at f n ≡ good retired fields → name_of fields ≡ written_name (record_at f n)
name_is_written f n retired fields e = written (record_at f n) retired fields (good_at f n retired fields e)

pub mark_is_written : (f : List ℕ) (n : ℕ) (retired : Bool) (fields : Fields) → judged_at f n ≡ good retired fields → retired ≡ is_retired (record_at f n)
mark_is_written f n retired fields e = (good_at f n retired fields e).mark

-- so of a good record the bytes tell whether it is live and has the name
pub named_by_bytes : (f : List ℕ) (name : NameFields) (k : ℕ) → GoodAt f k → is_named name (judged_at f k) ≡ is_written name (record_at f k)
named_by_bytes f name k g =
    let w = name_is_written f k g.retired g.fields g.judged in
    let m = mark_is_written f k g.retired g.fields g.judged in
    rw g.judged (λ i. not (m i) && (eqb (w i).message_type name.message_type && eqb (w i).number name.number))

-- ---- as the code reads it

pub name_read : (r : List ℕ) (t n : ℕ)
    → t ≡ two_bytes (byte_at r (head_size + type_place)) (byte_at r (head_size + type_place + 1))
    → n ≡ four_bytes (byte_at r (head_size + number_place)) (byte_at r (head_size + number_place + 1)) (byte_at r (head_size + number_place + 2)) (byte_at r (head_size + number_place + 3))
    → record { message_type = t; number = n } ≡ written_name r
name_read r t n e f = λ i. record {
  message_type = (e ∙ sym (two_at_is r (head_size + type_place))) i;
  number = (f ∙ sym (four_at_is r (head_size + number_place))) i;
}
