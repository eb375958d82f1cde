-- Find by halving (K9), for files in strictly ascending order of type, then number: it opens the record at half of first plus end, rounded down, and halves the range.
-- `end` is one past the range's last record. Refusals: 21, then those of each record opened; a good match that is retired ends the search with 27.
use Rattle.std.specs.Prelude.{ℕ, zero, suc, ◌+◌, ◌/◌, Bool, cond, ◌&&◌, ◌||◌, List, ◌≡◌, eqb, leb, ltb, Result}
use Rattle.golden.specs.File.{bad_file, count_of, judged_at}
use Rattle.golden.specs.Finding.{NameFields, has_name, FindAnswer, found, refused, name_of, told_name, told_finding}
use Rattle.golden.specs.declared.finder.Found.{Found}
use Rattle.golden.specs.declared.finder.Name.{Name}
use Rattle.golden.specs.declared.finder.RefusedAfter.{RefusedAfter}
use Rattle.envelope.specs.Refusals.{plainly}
use Rattle.golden.specs.Record.{Judged, good, bad}

-- the order of names: type, then number
unfoldable pub precedes : NameFields → NameFields → Bool
precedes a b = ltb a.message_type b.message_type || eqb a.message_type b.message_type && ltb a.number b.number

abbrev pub half : ℕ → ℕ → ℕ
half first end = (first + end) / 2

-- record n, the one just opened, decides; or the records after it do, or those before it
abbrev pub decides_half : NameFields → (n opened : ℕ) → Judged → (after before : FindAnswer) → FindAnswer
decides_half name n opened (bad r) after before = refused r opened
decides_half name n opened (good retired fields) after before =
    cond (has_name name fields) (cond retired (refused (plainly 27) opened) (found n opened))
    (cond (precedes (name_of fields) name) after before)

-- the records from first up to end, after so many openings; `most` bounds the halvings to come, and is never used up before the range is empty
unfoldable pub halving_from : List ℕ → NameFields → (most first end opened : ℕ) → FindAnswer
halving_from f name zero first end opened = refused (plainly 27) opened
halving_from f name (suc most) first end opened =
    cond (leb end first) (refused (plainly 27) opened)
    (decides_half name (half first end) (opened + 1) (judged_at f (half first end))
    (halving_from f name most (half first end + 1) end (opened + 1))
    (halving_from f name most first (half first end) (opened + 1)))

unfoldable pub halving : List ℕ → NameFields → FindAnswer
halving f name = cond (bad_file f) (refused (plainly 21) 0) (halving_from f name (count_of f) 0 (count_of f) 0)

-- what `find_by_halving` promises
abbrev pub Halves : List ℕ → Name → Result Found RefusedAfter → Type 0
Halves f name r = told_finding r ≡ halving f (told_name name)
