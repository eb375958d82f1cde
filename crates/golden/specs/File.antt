-- A golden file: records of 512 bytes with no header, at most 128. RULES 5.
-- `f` is the list of the file's bytes, and records are numbered from 0.
use Rattle.std.specs.Prelude.{ℕ, ◌*◌, ◌/◌, ◌%◌, Bool, not, ◌||◌, List, eqb, leb, ltb, length, take, drop}
use Rattle.golden.specs.Record.{record_size, Judged, judging}

abbrev pub most_records : ℕ
most_records = 128

abbrev pub largest_file : ℕ
largest_file = record_size * most_records

-- 21
unfoldable pub bad_file : List ℕ → Bool
bad_file f = not (eqb (length f % record_size) 0) || ltb largest_file (length f)

abbrev pub count_of : List ℕ → ℕ
count_of f = length f / record_size

-- 22: the record asked for is not there
abbrev pub not_there : List ℕ → ℕ → Bool
not_there f n = leb (count_of f) n

abbrev pub record_at : List ℕ → ℕ → List ℕ
record_at f n = take record_size (drop (n * record_size) f)

-- record n, judged
unfoldable pub judged_at : List ℕ → ℕ → Judged
judged_at f n = judging (record_at f n)
