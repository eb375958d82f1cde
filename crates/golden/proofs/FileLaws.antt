-- A file and its records: what a whole file is, where its records and their bytes stand, and what a record's judgement says of them.
-- For crates above, which cite these and open no definition of a file or a record.
use mathlib.Core.Bool.{Bool, true, false, cond, not, ◌&&◌}
use mathlib.Core.List.{List, [], ◌∷◌}
use mathlib.Core.Path.{◌≡◌, refl, ap, ap₂, sym, ◌∙◌, subst}
use Prim.Native.Nat.{ℕ, zero, suc, ◌+◌, ◌*◌, ◌/◌, ◌%◌, ◌≤◌, ◌<◌}
use native.Mathlib.Decide.{dec_lt}
use native.Mathlib.Omega.{arith}
use borrow.Author.Tests.{eqb-true, eq-eqb, ltb-false, le-ltb, not-false}
use lib.Dec.{eqb, ltb}
use lib.ListN.{length, take, drop, get_or}
use lib.Seq.{drop-drop, ext_get_or, get_or-take, get_or-drop}
use Rattle.std.specs.Prelude.{Result, Ok, Err, MatchResult, nat_lt}
use Rattle.std.specs.Simd.{first_chunks}
use Rattle.std.proofs.lemmas.Bool.Decides.{nat_tests}
use Rattle.envelope.proofs.BoolLaws.{neither}
use Rattle.envelope.proofs.RuleLaws.{two_at_is}
use Rattle.envelope.specs.Fields.{Fields, Answer, accepted}
use Rattle.envelope.specs.Fields as envelope
use Rattle.envelope.specs.Numbers.{byte_at, two_bytes}
use Rattle.envelope.specs.Reading.{reading}
use Rattle.envelope.specs.Refusals.{Refused, plainly, among, Gives}
use Rattle.golden.specs.File.{most_records, largest_file, bad_file, count_of, not_there, record_at, judged_at}
use Rattle.golden.specs.Helpers.{Opened, opening, records_of}
use Rattle.golden.specs.Listing.{counted, refused, counting, told_counting}
use Rattle.golden.specs.declared.refusal.Refusal.{Refusal}
use Rattle.golden.specs.Record.{record_size, head_size, message_room, stored_word, retired_mark, is_retired, stored_length, message_of, bad_length, not_clear, Judged, good, bad, by_reading, judging}
use Rattle.golden.proofs.RecordLaws.{Good, good_record, record_good, record_long}

-- ---- whole files

pub record Whole (f : List ℕ) : Type 0 where
  pub full : length f ≡ count_of f * record_size
  pub few : count_of f ≤ most_records

pub whole_file : (f : List ℕ) → bad_file f ≡ false → Whole f
unfolding bad_file
whole_file f e =
    let p = neither (not (eqb (length f % record_size) 0)) (ltb largest_file (length f)) e in
    let even = eqb-true (length f % record_size) 0 (not-false _ p.0) in
    let most = ltb-false largest_file (length f) p.1 in
    record { full = omega (arith, even); few = omega (arith, most) }

pub file_whole : (f : List ℕ) → Whole f → bad_file f ≡ false
unfolding bad_file
file_whole f w =
    let even : length f % record_size ≡ 0 = omega (arith, w.full) in
    rw (eq-eqb (length f % record_size) 0 even, le-ltb largest_file (length f) (omega (arith, w.full, w.few)))

-- ---- the count, as it is answered

module _ (f : List ℕ) where
  pub counted_so : (n : ℕ) → counted n ≡ counting f → (bad_file f ≡ false) × (n ≡ count_of f)
  unfolding counting
  counted_so n e = by (bad_file f) e
    where
      by : (b : Bool) → counted n ≡ cond b (refused (plainly 21)) (counted (count_of f)) → (b ≡ false) × (n ≡ count_of f)
      by true e = (cc, cc)
      by false e = (refl, cc)

  pub uncounted_so : (r : Refused) → refused r ≡ counting f → (bad_file f ≡ true) × (r ≡ plainly 21)
  unfolding counting
  uncounted_so r e = by (bad_file f) e
    where
      by : (b : Bool) → refused r ≡ cond b (refused (plainly 21)) (counted (count_of f)) → (b ≡ true) × (r ≡ plainly 21)
      by true e = (refl, cc)
      by false e = (cc, cc)

pub has_record_lem : (f : List ℕ) (n : ℕ) (o : Result ℕ Refusal) (b : Bool) (below : ℕ → Type 0) → ((count : ℕ) → below count → b ≡ nat_lt n count)
    → told_counting o ≡ counting f → MatchResult o below (λ r. b ≡ false) → b ≡ (not (bad_file f) && not (not_there f n))
has_record_lem f n (Ok count) b below one e m =
    let k = counted_so f count e in
    rw (one count m, k.0, k.1) (grind (arith, nat_tests))
has_record_lem f n (Err r) b below one e m = rw (m, (uncounted_so f _ e).0)

-- ---- where records and their bytes stand

chunk_count : (k : ℕ) (xs : List ℕ) → length (first_chunks record_size k xs) ≡ k
chunk_count zero xs = refl
chunk_count (suc k) xs = ap (λ (j : ℕ). suc j) (chunk_count k (drop record_size xs))

chunk_in : (k n : ℕ) (xs d : List ℕ) → n < k → get_or (first_chunks record_size k xs) n d ≡ record_at xs n
chunk_in zero n xs d l = absurd (omega arith)
chunk_in (suc k) zero xs d l = refl
chunk_in (suc k) (suc n) xs d l =
    let e : record_size + n * record_size ≡ (suc n) * record_size = omega arith in
    chunk_in k n (drop record_size xs) d (omega arith)
    ∙ ap (take record_size) (drop-drop (n * record_size) record_size xs ∙ ap (λ (j : ℕ). drop j xs) e)

-- as many as the count says, and each in its place
pub records_count : (f : List ℕ) (rs : List (List ℕ)) → rs ≡ records_of f → length rs ≡ count_of f
records_count f rs e = ap (λ (x : List (List ℕ)). length x) e ∙ chunk_count (count_of f) f

pub record_there : (f : List ℕ) (rs : List (List ℕ)) (n : ℕ) → rs ≡ records_of f → n < length rs → n < count_of f
record_there f rs n e l = omega (arith, l, records_count f rs e)

pub records_end : (f : List ℕ) (rs : List (List ℕ)) (n : ℕ) → rs ≡ records_of f → length rs ≤ n → count_of f ≤ n
records_end f rs n e l = omega (arith, l, records_count f rs e)

pub record_in : (f : List ℕ) (rs : List (List ℕ)) (n : ℕ) (d : List ℕ) → rs ≡ records_of f → n < length rs → get_or rs n d ≡ record_at f n
record_in f rs n d e l =
    ap (λ (x : List (List ℕ)). get_or x n d) e ∙ chunk_in (count_of f) n f d (record_there f rs n e l)

-- what was opened is the record of that number
pub record_opened : (f : List ℕ) (rs : List (List ℕ)) (n : ℕ) (x : Opened) → rs ≡ records_of f → n < length rs → x ≡ opening (get_or rs n []) → x ≡ opening (record_at f n)
record_opened f rs n x e l o = o ∙ ap opening (record_in f rs n [] e l)

-- a record ends inside the file
pub record_ends : (f : List ℕ) (n : ℕ) → n < count_of f → n * record_size + record_size ≤ length f
record_ends f n l = omega arith

-- and every byte of a whole file is a record's
pub in_a_record : (f : List ℕ) (i : ℕ) → Whole f → i < length f → i / record_size < count_of f
in_a_record f i w l = omega (arith, w.full)

pub record_byte : (f : List ℕ) (n i : ℕ) → i < record_size → byte_at (record_at f n) i ≡ byte_at f (n * record_size + i)
record_byte f n i h = get_or-take record_size (drop (n * record_size) f) i 0 h ∙ get_or-drop (n * record_size) f i 0

-- the message stands behind its stored length, in its record and in the file
pub message_place : (r : List ℕ) (i : ℕ) → i < stored_length r → byte_at (message_of r) i ≡ byte_at r (head_size + i)
message_place r i h = get_or-take (stored_length r) (drop head_size r) i 0 h ∙ get_or-drop head_size r i 0

pub message_byte : (f : List ℕ) (n i : ℕ) → stored_length (record_at f n) ≤ message_room → i < stored_length (record_at f n)
    → byte_at (message_of (record_at f n)) i ≡ byte_at f (n * record_size + (head_size + i))
message_byte f n i short h = message_place (record_at f n) i h ∙ record_byte f n (head_size + i) (omega arith)

-- what holds of the records before k and of k holds before k + 1
pub one_more : (P : ℕ → Type 0) (k : ℕ) → ((i : ℕ) → i < k → P i) → P k → (i : ℕ) → i < k + 1 → P i
one_more P k before here i l = by (dec_lt i k)
  where
    by : Dec (i < k) → P i
    by (yes b) = before i b
    by (no b) = let e : i ≡ k = omega arith in rw e here

-- ---- the same records, of one file or of two

pub same_records : (f g : List ℕ) (n m : ℕ) → n < count_of f → m < count_of g
    → ((i : ℕ) → i < record_size → byte_at f (n * record_size + i) ≡ byte_at g (m * record_size + i)) → record_at f n ≡ record_at g m
same_records f g n m ln lm same =
    let a = record_long f n ln in
    ext_get_or 0 (record_at f n) (record_at g m) (a ∙ sym (record_long g m lm)) (λ i l. byte i (omega (arith, a)))
  where
    byte : (i : ℕ) → i < record_size → byte_at (record_at f n) i ≡ byte_at (record_at g m) i
    byte i l = record_byte f n i l ∙ same i l ∙ sym (record_byte g m i l)

pub same_judged : (f g : List ℕ) (n m : ℕ) → record_at f n ≡ record_at g m → judged_at f n ≡ judged_at g m
unfolding judged_at
same_judged f g n m e = ap judging e

-- files of the same records are the same
pub same_files : (f g : List ℕ) → Whole f → length f ≡ length g → ((n : ℕ) → n < count_of f → record_at f n ≡ record_at g n) → f ≡ g
same_files f g w e same = ext_get_or 0 f g e byte
  where
    byte : (i : ℕ) → i < length f → byte_at f i ≡ byte_at g i
    byte i l =
        let n = i / record_size in
        let k = i % record_size in
        let at : n * record_size + k ≡ i = omega arith in
        rw at at
        (sym (record_byte f n k (omega arith)) ∙ ap (λ (r : List ℕ). byte_at r k) (same n (in_a_record f i w l)) ∙ record_byte g n k (omega arith))

-- the first two bytes alone decide the stored length
pub same_stored : (r s : List ℕ) → byte_at r 0 ≡ byte_at s 0 → byte_at r 1 ≡ byte_at s 1 → stored_length r ≡ stored_length s
unfolding stored_length stored_word
same_stored r s a b = ap (λ (w : ℕ). w % retired_mark) (two_at_is r 0 ∙ ap₂ two_bytes a b ∙ sym (two_at_is s 0))

-- ---- what a judgement says

pub good_at : (f : List ℕ) (n : ℕ) (retired : Bool) (fields : Fields) → judged_at f n ≡ good retired fields → Good (record_at f n) retired fields
unfolding judged_at
good_at f n retired fields e = good_record (record_at f n) retired fields e

pub judged_at_lem : (f : List ℕ) (n : ℕ) (retired : Bool) (fields : Fields) → Good (record_at f n) retired fields → judged_at f n ≡ good retired fields
unfolding judged_at
judged_at_lem f n retired fields g = record_good (record_at f n) retired fields g

-- a bad record is refused as 23, 24 or 25, in whatever lists have them
module _ (plain passing : List ℕ) (h23 : among plain 23 ≡ true) (h24 : among plain 24 ≡ true) (h25 : among passing 25 ≡ true) where
  abbrev pub InJudged : Judged → Type 0
  InJudged (good retired f) = Unit
  InJudged (bad r) = Gives plain passing r

  by_rules : (a b mark : Bool) (x : Answer) → InJudged (cond a (bad (plainly 23)) (cond b (bad (plainly 24)) (by_reading mark x)))
  by_rules true b mark x = h23
  by_rules false true mark x = h24
  by_rules false false mark (accepted f) = tt
  by_rules false false mark (envelope.refused r) = h25

  pub judged_gives : (f : List ℕ) (n : ℕ) → InJudged (judged_at f n)
  unfolding judged_at judging
  judged_gives f n =
      let r = record_at f n in
      by_rules (bad_length (stored_length r)) (not_clear r) (is_retired r) (reading (message_of r))

pub bad_gives : (f : List ℕ) (n : ℕ) (r : Refused) → judged_at f n ≡ bad r → Gives (23 ∷ 24 ∷ []) (25 ∷ []) r
bad_gives f n r e = subst (InJudged (23 ∷ 24 ∷ []) (25 ∷ []) refl refl refl) e (judged_gives (23 ∷ 24 ∷ []) (25 ∷ []) refl refl refl f n)
