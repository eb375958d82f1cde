-- Why there is no refusal 32: of two accepted messages neither is a proper beginning of the other, since each states its length in its first 17 bytes. RULES 5.
-- Compare with that refusal in it is kept here beside these statements, and is no part of any promise. Proved in proofs/BeginningLaws.
use Rattle.std.specs.Prelude.{ℕ, Bool, true, false, cond, ◌&&◌, ◌||◌, List, [], ◌∷◌, ◌≡◌, eqb, ltb, length, Result}
use Rattle.envelope.specs.Fields.{Fields, Answer, accepted}
use Rattle.envelope.specs.Fields as read
use Rattle.envelope.specs.Reading.{reading}
use Rattle.envelope.specs.Refusals.{plainly, passing_on}
use Rattle.golden.specs.Comparing.{differing, CompareOutcome, positions, refused, comparing, told_comparison, Compares}
use Rattle.golden.specs.File.{bad_file, not_there, record_at, judged_at}
use Rattle.golden.specs.Record.{message_of, Judged, good, bad}
use Rattle.golden.specs.declared.refusal.Refusal.{Refusal}

unfoldable pub is_beginning : List ℕ → List ℕ → Bool
is_beginning [] t = true
is_beginning (x ∷ s) [] = false
is_beginning (x ∷ s) (y ∷ t) = eqb x y && is_beginning s t

-- one of the two is a proper beginning of the other
unfoldable pub is_proper_beginning : List ℕ → List ℕ → Bool
is_proper_beginning g r =
    ltb (length g) (length r) && is_beginning g r || ltb (length r) (length g) && is_beginning r g

abbrev pub NeverABeginning : Type 0
NeverABeginning = (g r : List ℕ) (fg fr : Fields) → reading g ≡ accepted fg → reading r ≡ accepted fr → is_proper_beginning g r ≡ false

-- ---- compare with 32, between 31 and the positions

unfoldable pub messages_and32 : List ℕ → List ℕ → CompareOutcome
messages_and32 g r = cond (is_proper_beginning g r) (refused (plainly 32)) (positions (differing g r))

abbrev pub with_radio_and32 : List ℕ → List ℕ → Answer → CompareOutcome
with_radio_and32 g r (read.refused x) = refused (passing_on 31 x)
with_radio_and32 g r (accepted fields) = messages_and32 g r

abbrev pub with_record_and32 : List ℕ → List ℕ → Judged → CompareOutcome
with_record_and32 g r (bad x) = refused x
with_record_and32 g r (good retired fields) = cond retired (refused (plainly 38)) (with_radio_and32 g r (reading r))

unfoldable pub comparing_with32 : List ℕ → ℕ → List ℕ → CompareOutcome
comparing_with32 f n radio =
    cond (bad_file f) (refused (plainly 21))
    (cond (not_there f n) (refused (plainly 22))
    (with_record_and32 (message_of (record_at f n)) radio (judged_at f n)))

-- for any file, record number and radio message 32 is not its outcome
abbrev pub Never32 : Type 0
Never32 = (f : List ℕ) (n : ℕ) (radio : List ℕ) → comparing_with32 f n radio ≡ refused (plainly 32) → ⊥

-- and without it every outcome is what it was: the answer, and the whole list afterwards
abbrev pub CompareIsUnchanged : Type 0
CompareIsUnchanged = (f : List ℕ) (n : ℕ) (radio : List ℕ) → comparing f n radio ≡ comparing_with32 f n radio

-- so no answer that keeps the promise of `compare` is 32
abbrev pub CompareNeverGives32 : Type 0
CompareNeverGives32 =
    (f : List ℕ) (n : ℕ) (radio entry exit : List ℕ) (a : Result ℕ Refusal) → Compares f n radio entry a exit
    → told_comparison a ≡ refused (plainly 32) → ⊥
