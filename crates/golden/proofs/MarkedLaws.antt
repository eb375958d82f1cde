-- A live record whose top bit is set: the same length and message, and retired. And a file in which one record is marked.
-- `marked` is one byte of the file set.
use mathlib.Core.Bool.{true, false}
use mathlib.Core.List.{List}
use mathlib.Core.Path.{◌≡◌, ap, ap₂, sym, ◌∙◌}
use Prim.Native.Nat.{ℕ, ◌+◌, ◌-◌, ◌*◌, ◌<◌}
use native.Mathlib.Decide.{dec_lt}
use native.Mathlib.Omega.{arith}
use borrow.Author.Tests.{le-leb, leb-false}
use lib.ListN.{length, take, drop, set, length-set}
use lib.Seq.{take-set-le, take-set-lt, drop-set-lt, drop-set-add, get_or-set_same, get_or-set_other}
use Rattle.envelope.proofs.RuleLaws.{two_at_is}
use Rattle.envelope.specs.Fields.{Fields}
use Rattle.envelope.specs.Numbers.{byte_at}
use Rattle.envelope.specs.Reading.{reading}
use Rattle.golden.specs.File.{count_of, record_at, judged_at}
use Rattle.golden.specs.Record.{record_size, head_size, stored_word, retired_mark, is_retired, stored_length, message_of, good}
use Rattle.golden.specs.Retired.{RetiredOne}
use Rattle.golden.specs.Retiring.{top_bit, marked}
use Rattle.golden.proofs.FileLaws.{record_byte, same_judged, good_at, judged_at_lem}
use Rattle.golden.proofs.RecordLaws.{Good, record_long}

-- ---- one record

module _ (r : List ℕ) (long : 0 < length r) (live : is_retired r ≡ false) where
  abbrev marked_record : List ℕ
  marked_record = set r 0 (top_bit + byte_at r 0)

  word_small : stored_word r < retired_mark
  unfolding is_retired
  word_small = leb-false retired_mark (stored_word r) live

  word_is : (s : List ℕ) → stored_word s ≡ byte_at s 0 * 256 + byte_at s 1
  unfolding stored_word
  word_is s = two_at_is s 0

  pub first_small : byte_at r 0 < top_bit
  first_small = omega (arith, word_small, word_is r)

  word_now : stored_word marked_record ≡ retired_mark + stored_word r
  word_now =
      let a = get_or-set_same r 0 (top_bit + byte_at r 0) 0 long in
      let b = get_or-set_other r 0 1 (top_bit + byte_at r 0) 0 (λ e. omega arith) in
      omega (arith, a, b, word_is marked_record, word_is r)

  length_now : stored_length marked_record ≡ stored_length r
  unfolding stored_length
  length_now = omega (arith, word_now, word_small)

  marked_now : is_retired marked_record ≡ true
  unfolding is_retired
  marked_now = le-leb retired_mark (stored_word marked_record) (omega (arith, word_now))

  pub message_now : message_of marked_record ≡ message_of r
  message_now = ap₂ take length_now (drop-set-lt head_size r 0 (top_bit + byte_at r 0) (omega arith))

  pub marked_good : (f : Fields) → Good r false f → Good marked_record true f
  marked_good f g =
      let l = length_now in
      record {
        least = rw l g.least;
        most = rw l g.most;
        clear = λ i h. get_or-set_other r 0 i (top_bit + byte_at r 0) 0 (λ e. omega (arith, l)) ∙ g.clear i (omega (arith, l));
        accepts = ap reading message_now ∙ g.accepts;
        mark = sym marked_now;
      }

-- ---- the file

module _ (f : List ℕ) (n : ℕ) where
  pub marked_long : length (marked f n) ≡ length f
  unfolding marked
  marked_long = length-set f (n * record_size) (top_bit + byte_at f (n * record_size))

  record_there : record_at (marked f n) n ≡ set (record_at f n) 0 (top_bit + byte_at f (n * record_size))
  unfolding marked
  record_there =
      let x = top_bit + byte_at f (n * record_size) in
      let z : n * record_size + 0 ≡ n * record_size = omega arith in
      ap (take record_size) (ap (λ (i : ℕ). drop (n * record_size) (set f i x)) (sym z) ∙ drop-set-add (n * record_size) f 0 x)
      ∙ take-set-lt record_size (drop (n * record_size) f) 0 x (omega arith)

  record_elsewhere : (k : ℕ) → (k ≡ n → ⊥) → record_at (marked f n) k ≡ record_at f k
  unfolding marked
  record_elsewhere k ne = by (dec_lt k n)
    where
      x : ℕ
      x = top_bit + byte_at f (n * record_size)

      by : Dec (k < n) → record_at (set f (n * record_size) x) k ≡ record_at f k
      by (yes l) =
          let j = n * record_size - k * record_size in
          let z : k * record_size + j ≡ n * record_size = omega arith in
          ap (take record_size) (ap (λ (i : ℕ). drop (k * record_size) (set f i x)) (sym z) ∙ drop-set-add (k * record_size) f j x)
          ∙ take-set-le record_size (drop (k * record_size) f) j x (omega arith)
      by (no l) =
          let m : n < k = omega (arith, ne) in
          ap (take record_size) (drop-set-lt (k * record_size) f (n * record_size) x (omega arith))

  module _ (l : n < count_of f) (fields : Fields) (live : judged_at f n ≡ good false fields) where
    was_good : Good (record_at f n) false fields
    was_good = good_at f n false fields live

    long : 0 < length (record_at f n)
    long = omega (arith, record_long f n l)

    first_byte : byte_at (record_at f n) 0 ≡ byte_at f (n * record_size)
    first_byte = record_byte f n 0 (omega arith) ∙ ap (byte_at f) (omega arith)

    record_now : record_at (marked f n) n ≡ set (record_at f n) 0 (top_bit + byte_at (record_at f n) 0)
    record_now = record_there ∙ ap (λ (b : ℕ). set (record_at f n) 0 (top_bit + b)) (sym first_byte)

    judged_now : judged_at (marked f n) n ≡ good true fields
    judged_now = judged_at_lem (marked f n) n true fields (rw record_now (marked_good (record_at f n) long (sym was_good.mark) fields was_good))

    message_kept : message_of (record_at (marked f n) n) ≡ message_of (record_at f n)
    message_kept = ap message_of record_now ∙ message_now (record_at f n) long (sym was_good.mark)

    pub not_set_before : byte_at f (n * record_size) < top_bit
    not_set_before = rw (← first_byte) (first_small (record_at f n) long (sym was_good.mark))

    bit-set : byte_at (marked f n) (n * record_size) ≡ top_bit + byte_at f (n * record_size)
    unfolding marked
    bit-set = get_or-set_same f (n * record_size) (top_bit + byte_at f (n * record_size)) 0 (omega arith)

    byte_kept : (i : ℕ) → (i ≡ n * record_size → ⊥) → byte_at (marked f n) i ≡ byte_at f i
    unfolding marked
    byte_kept i ne = get_or-set_other f (n * record_size) i (top_bit + byte_at f (n * record_size)) 0 ne

    pub marked_one : RetiredOne f n (marked f n)
    marked_one =
        record {
          fields = fields;
          was = live;
          is = judged_now;
          same_message = message_kept;
          others = λ k ne. same_judged (marked f n) f k k (record_elsewhere k ne);
          size = marked_long;
          not_set = not_set_before;
          set_now = bit-set;
          no_other = byte_kept;
        }
