-- Meanings of the private helpers' answers. No promise to a user names them.
-- Beside `Judged` of specs/Record an opened record has its stored length with its mark and fields.
use Rattle.std.specs.Prelude.{ℕ, ◌+◌, ◌%◌, ◌<◌, Bool, true, false, cond, not, ◌&&◌, List, ◌≡◌, eqb, ltb, get_or, Result, Ok, Err}
use Rattle.std.specs.Simd.{first_chunks}
use Rattle.envelope.specs.Fields.{Fields}
use Rattle.envelope.specs.Layout.{type_place, number_place}
use Rattle.envelope.specs.Numbers.{two_at, four_at}
use Rattle.envelope.specs.Refusals.{Refused}
use Rattle.envelope.specs.Told.{told_envelope}
use Rattle.golden.specs.File.{count_of, record_at}
use Rattle.golden.specs.Finding.{NameFields, name_of}
use Rattle.golden.specs.Pairing.{any_below}
use Rattle.golden.specs.Record.{record_size, head_size, is_retired, stored_length, Judged, judging}
use Rattle.golden.specs.Record as judged
use Rattle.golden.specs.Refusal.{told_golden_refusal}
use Rattle.golden.specs.declared.record.GoodRecord.{GoodRecord}
use Rattle.golden.specs.declared.refusal.Refusal.{Refusal}
use Rattle.golden.specs.declared.refusal.Refusal.TheVariants.{NotAGoldenFile, NoRecord, BadLength, NotClear, RecordRefused, NameTaken, NotFound, RadioRefused, TooLong, MessageRefused, WrongBuffer, AlreadyRetired, WrongCopy, RecordRetired}

pub data Opened : Type 0 where
  holding : ℕ → (retired : Bool) → Fields → Opened
  bad : Refused → Opened

abbrev pub opened_as : ℕ → Judged → Opened
opened_as size (judged.good retired f) = holding size retired f
opened_as size (judged.bad r) = bad r

unfoldable pub opening : List ℕ → Opened
opening r = opened_as (stored_length r) (judging r)

abbrev pub told_opening : Result GoodRecord Refusal → Opened
told_opening (Ok g) = holding g.size g.retired (told_envelope g.envelope)
told_opening (Err r) = bad (told_golden_refusal r)

-- the records of a file, one after the other
abbrev pub records_of : List ℕ → List (List ℕ)
records_of f = first_chunks record_size (count_of f) f

-- ---- the name and the mark of a good record as they stand in the record's bytes, by which check looks back

abbrev pub written_name : List ℕ → NameFields
written_name r = record { message_type = two_at r (head_size + type_place); number = four_at r (head_size + number_place) }

abbrev pub is_written : NameFields → List ℕ → Bool
is_written name r =
    not (is_retired r) && (eqb (written_name r).message_type name.message_type && eqb (written_name r).number name.number)

-- a record before `end` is live by its bytes and has the name
abbrev pub written_before : List ℕ → NameFields → ℕ → Bool
written_before f name end = any_below (λ k. is_written name (record_at f k)) end

-- 26 of record n by the bytes of those before it, from what was opened of it
abbrev pub repeats_by : (retired : Bool) → Fields → List ℕ → ℕ → Bool
repeats_by retired fields f n = not retired && written_before f (name_of fields) n

-- the buckets by which check sees at once that a name is new: two of one name have one bucket
abbrev pub buckets : ℕ
buckets = 256

unfoldable pub bucket_of : NameFields → ℕ
bucket_of name = (name.message_type + name.number) % buckets

-- each record before `end` has used the bucket of its name
abbrev pub UsedBefore : List ℕ → List Bool → ℕ → Type 0
UsedBefore f used end = (k : ℕ) → k < end → get_or used (bucket_of (written_name (record_at f k))) false ≡ true

-- ---- the table of refusals, by rows; 25 apart

abbrev pub is_record_refused : Refusal → Bool
is_record_refused NotAGoldenFile = false
is_record_refused NoRecord = false
is_record_refused BadLength = false
is_record_refused NotClear = false
is_record_refused (RecordRefused r) = true
is_record_refused NameTaken = false
is_record_refused NotFound = false
is_record_refused (RadioRefused r) = false
is_record_refused TooLong = false
is_record_refused (MessageRefused r) = false
is_record_refused WrongBuffer = false
is_record_refused AlreadyRetired = false
is_record_refused WrongCopy = false
is_record_refused RecordRetired = false

abbrev pub row_of : Refusal → ℕ
row_of NotAGoldenFile = 0
row_of NoRecord = 1
row_of BadLength = 2
row_of NotClear = 3
row_of (RecordRefused r) = 4
row_of NameTaken = 5
row_of NotFound = 6
row_of (RadioRefused r) = 7
row_of TooLong = 8
row_of (MessageRefused r) = 9
row_of WrongBuffer = 10
row_of AlreadyRetired = 11
row_of WrongCopy = 12
row_of RecordRetired = 13

abbrev pub row_number : ℕ → ℕ
row_number row = cond (ltb row 7) (21 + row) (cond (ltb row 8) 31 (25 + row))
