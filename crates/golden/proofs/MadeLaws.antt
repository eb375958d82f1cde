-- The file of one record that make writes: its parts are what was put in, so it checks, compares same and is found.
-- And 25 never carries 1, since a stored length below 21 is refused first.
use mathlib.Core.Bool.{Bool, true, false, cond, not}
use mathlib.Core.List.{List, [], ◌++◌}
use mathlib.Core.Path.{◌≡◌, refl, ap, sym, ◌∙◌}
use Prim.Native.Nat.{ℕ, zero, suc, ◌+◌, ◌-◌, ◌/◌, ◌≤◌, ◌<◌}
use native.Mathlib.Omega.{arith}
use borrow.Author.Tests.{eq-eqb, le-ltb, lt-leb, ltb-false}
use lib.Dec.{ltb}
use lib.ListN.{length, take, drop, get_or, replicate}
use lib.Seq.{take_all, take-append_seam, drop-append_seam, drop-append-add}
use Rattle.envelope.proofs.PlaceLaws.{long_not_1}
use Rattle.envelope.proofs.ReadingLaws.{accepted_least}
use Rattle.envelope.proofs.RuleLaws.{two_at_is}
use Rattle.envelope.proofs.WrittenLaws.{two_back}
use Rattle.envelope.specs.Fields.{Fields, Refusal, Answer, accepted}
use Rattle.envelope.specs.Fields as envelope
use Rattle.envelope.specs.Numbers.{in_two}
use Rattle.envelope.specs.Reading.{reading}
use Rattle.envelope.specs.Refusals.{plainly, passing_on}
use Rattle.golden.specs.Checking.{counted, checking}
use Rattle.golden.specs.Comparing.{differs_at, differing, positions, comparing, same, answer_to_comparing}
use Rattle.golden.specs.File.{bad_file, count_of, record_at, judged_at}
use Rattle.golden.specs.Finding.{name_of, found, finding}
use Rattle.golden.specs.Making.{record_of, MakeAnswer, made, refused, making_read, making, after_making}
use Rattle.golden.specs.Record.{record_size, head_size, message_room, stored_word, retired_mark, is_retired, stored_length, message_of, all_zero, bad_length, not_clear, good, bad, by_reading, judging}
use Rattle.golden.specs.Retiring.{done, retiring}
use Rattle.golden.specs.Theorems.{first_named_lem, MadeIsGood, NeverTooShort}
use Rattle.golden.proofs.CheckedLaws.{sound_are_checked}
use Rattle.golden.proofs.FileLaws.{file_whole, judged_at_lem}
use Rattle.golden.proofs.FoundLaws.{reason_settles_find}
use Rattle.golden.proofs.MakingLaws.{record_length}
use Rattle.golden.proofs.NameLaws.{has_its_own_name}
use Rattle.golden.proofs.RecordLaws.{length_least, length_most, clear_behind, message_long}
use Rattle.golden.proofs.SelectLaws.{select_none}

-- ---- the parts of a record that was made

word_back : (m : List ℕ) → stored_word (record_of m) ≡ length m
unfolding stored_word record_of
word_back m = two_at_is (record_of m) 0 ∙ two_back (length m)

stored_back : (m : List ℕ) → length m ≤ message_room → stored_length (record_of m) ≡ length m
unfolding stored_length
stored_back m short = omega (arith, word_back m)

-- and it is live
live_back : (m : List ℕ) → length m ≤ message_room → is_retired (record_of m) ≡ false
unfolding is_retired
live_back m short = lt-leb retired_mark (stored_word (record_of m)) (omega (arith, word_back m))

message_back : (m : List ℕ) → length m ≤ message_room → message_of (record_of m) ≡ m
unfolding record_of
message_back m short = ap (λ (n : ℕ). take n (drop head_size (record_of m))) (stored_back m short) ∙ take-append_seam m (replicate (message_room - length m) 0)

zeros_clear : (k : ℕ) → all_zero (replicate k 0) ≡ true
unfolding all_zero
zeros_clear zero = refl
zeros_clear (suc k) = zeros_clear k

after_message : (m : List ℕ) → drop (head_size + length m) (record_of m) ≡ replicate (message_room - length m) 0
unfolding record_of
after_message m =
    drop-append-add (in_two (length m)) (m ++ replicate (message_room - length m) 0) (length m)
    ∙ drop-append_seam m (replicate (message_room - length m) 0)

clear_back : (m : List ℕ) → length m ≤ message_room → not_clear (record_of m) ≡ false
clear_back m short =
    ap (λ (r : List ℕ). not (all_zero r)) (ap (λ (n : ℕ). drop (head_size + n) (record_of m)) (stored_back m short) ∙ after_message m)
    ∙ ap not (zeros_clear (message_room - length m))

-- ---- comparing a message with itself

no_difference : (m : List ℕ) (i : ℕ) → i < length m → differs_at m m i ≡ false
unfolding differs_at
no_difference m i h = rw (lt-leb (length m) i h, eq-eqb (get_or m i 0) (get_or m i 0) refl)

no_differences : (m : List ℕ) → differing m m ≡ []
unfolding differing
no_differences m =
    rw (le-ltb (length m) (length m) (omega arith))
    (select_none (differs_at m m) 0 (length m) (λ i a b. no_difference m i (omega arith)))

-- ---- the file of one record

module _ (m : List ℕ) (fields : Fields) (short : length m ≤ message_room) (accepts : reading m ≡ accepted fields) where
  abbrev file : List ℕ
  file = record_of m

  size : length file ≡ record_size
  size = record_length m short

  one : count_of file ≡ 1
  one = ap (λ (n : ℕ). n / record_size) size

  whole : bad_file file ≡ false
  whole = file_whole file (record { full = omega (arith, size, one); few = omega (arith, one) })

  first : record_at file 0 ≡ file
  first = take_all record_size file (omega (arith, size))

  pub message_made : message_of (record_at file 0) ≡ m
  message_made = rw first (message_back m short)

  judged : judged_at file 0 ≡ good false fields
  judged =
      judged_at_lem file 0 false fields
      (rw first
      (record {
        least = rw (stored_back m short) (accepted_least m fields accepts);
        most = rw (stored_back m short) short;
        clear = clear_behind file (clear_back m short);
        accepts = rw (message_back m short) accepts;
        mark = sym (live_back m short);
      }))

  pub checks : checking file ≡ counted 1
  checks =
      sound_are_checked file 1
      (record {
        whole = whole;
        count = sym one;
        sound =
            record {
              records = λ k l. let e : k ≡ 0 = omega arith in rw e (record { retired = false; fields = fields; judged = judged });
              apart = λ i k a l. absurd (omega arith);
            };
      })

  pub compared : comparing file 0 m ≡ positions []
  unfolding comparing
  compared = rw (whole, one, judged, accepts, first, message_back m short) (ap positions (no_differences m))

  pub compares : answer_to_comparing (comparing file 0 m) ≡ same
  unfolding answer_to_comparing
  compares = ap answer_to_comparing compared

  pub finds : finding file (name_of fields) ≡ found 0 1
  finds =
      reason_settles_find file (name_of fields) (found 0 1)
      (first_named_lem 0 fields whole (omega (arith, one)) judged (has_its_own_name fields) (λ i l. absurd (omega arith)))

  -- and it can be retired
  pub retires : retiring file 0 record_size ≡ done
  unfolding retiring
  retires = rw (whole, one, judged, size)

-- ---- what made a record: a message that is short enough and accepted

record Makeable (m : List ℕ) : Type 0 where
  fields : Fields
  short : length m ≤ message_room
  accepts : reading m ≡ accepted fields

makeable : (m : List ℕ) (room : ℕ) (b : Bool) (x : Answer) → ltb message_room (length m) ≡ b → reading m ≡ x
    → cond b (refused (plainly 33)) (making_read x room) ≡ made → Makeable m
makeable m room true x l e o = absurd (let z : ◌≡◌ {A = ℕ} 0 1 = cc in omega arith)
makeable m room false (envelope.refused r) l e o = absurd (let z : ◌≡◌ {A = ℕ} 0 1 = cc in omega arith)
makeable m room false (accepted f) l e o = record { fields = f; short = ltb-false message_room (length m) l; accepts = e }

was_makeable : (m : List ℕ) (room : ℕ) → making m room ≡ made → Makeable m
unfolding making
was_makeable m room o = makeable m room (ltb message_room (length m)) (reading m) refl refl o

pub made_is_good : MadeIsGood
made_is_good m entry exit a kept e =
    let o : making m (length entry) ≡ made = sym kept.0 ∙ e in
    let w = was_makeable m (length entry) o in
    let x : exit ≡ record_of m = kept.1 ∙ ap (λ (y : MakeAnswer). after_making y m entry) o in
    rw x
    (record {
      fields = w.fields;
      accepts = w.accepts;
      checks = checks m w.fields w.short w.accepts;
      compares = compares m w.fields w.short w.accepts;
      finds = finds m w.fields w.short w.accepts;
    })

-- ---- 25 never carries 1

bad_reading : (a b mark : Bool) (x : Answer) (r : Refusal) → cond a (bad (plainly 23)) (cond b (bad (plainly 24)) (by_reading mark x)) ≡ bad (passing_on 25 r)
    → (a ≡ false) × (x ≡ envelope.refused r)
bad_reading true b mark x r e = absurd (let z : ◌≡◌ {A = ℕ} 0 1 = cc in omega arith)
bad_reading false true mark x r e = absurd (let z : ◌≡◌ {A = ℕ} 0 1 = cc in omega arith)
bad_reading false false mark (accepted f) r e = absurd (let z : ◌≡◌ {A = ℕ} 0 1 = cc in omega arith)
bad_reading false false mark (envelope.refused q) r e = (refl, cc)

pub never_too_short : NeverTooShort
unfolding judged_at judging
never_too_short f n x l e one =
    let r = record_at f n in
    let b = bad_reading (bad_length (stored_length r)) (not_clear r) (is_retired r) (reading (message_of r)) x e in
    let low = length_least (stored_length r) b.0 in
    let high = length_most (stored_length r) b.0 in
    long_not_1 (message_of r) x (rw (message_long f n l high) low) b.1 one
