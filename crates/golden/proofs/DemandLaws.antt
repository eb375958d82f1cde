-- Demand 3 and K11 for golden files: the stored lengths stand before what changed and agree, so the two messages meet the envelope's laws.
-- Their bytes are the file's bytes, and behind them both have zeros, so the files are the same.
use mathlib.Core.List.{List}
use mathlib.Core.Logic.{◌⊎◌, inl, inr}
use mathlib.Core.Path.{◌≡◌, refl, ap, ap₂, sym, ◌∙◌}
use Prim.Native.Nat.{ℕ, ◌+◌, ◌-◌, ◌*◌, ◌/◌, ◌≤◌, ◌<◌}
use native.Mathlib.Decide.{dec_lt}
use native.Mathlib.Nat.{add-zero}
use native.Mathlib.Omega.{arith}
use lib.Bits.{bit_xor}
use lib.ListN.{length, drop, get_or-eq_default}
use lib.Seq.{ext_get_or}
use Rattle.envelope.proofs.DemandLaws.{bytes_take, bytes_drop}
use Rattle.envelope.proofs.ReadingLaws.{accepted_least}
use Rattle.envelope.proofs.TwoBitsLaws.{two_bits_anywhere, three_bits_anywhere}
use Rattle.envelope.proofs.WindowLaws.{any_window, middle_window}
use Rattle.envelope.specs.AnyWindow.{TwoAndTwoAt, OneDifference}
use Rattle.envelope.specs.Demand3.{Window, before, field, SameOutside}
use Rattle.envelope.specs.Layout.{least_size}
use Rattle.envelope.specs.Numbers.{byte_at}
use Rattle.envelope.specs.Promise.{Bytes}
use Rattle.golden.specs.Checking.{counted, checking}
use Rattle.golden.specs.File.{count_of, record_at}
use Rattle.golden.specs.Record.{record_size, head_size, message_room, stored_length, message_of}
use Rattle.golden.specs.Theorems.{GoodAt, GoldenDemand3, SameButMessage, GoldenTwoBits, GoldenThreeBitsAnywhere, GoldenAnyWindow, GoldenMiddleWindow}
use Rattle.golden.proofs.CheckedLaws.{checked_are_sound}
use Rattle.golden.proofs.FileLaws.{record_byte, message_byte, same_stored, good_at}
use Rattle.golden.proofs.RecordLaws.{Good, message_long}

-- ---- where a record's bytes stand in the file

message_bytes : (f : List ℕ) (r : ℕ) → Bytes f → Bytes (message_of (record_at f r))
message_bytes f r b =
    bytes_take (stored_length (record_at f r)) (drop head_size (record_at f r))
    (bytes_drop head_size (record_at f r) (bytes_take record_size (drop (r * record_size) f) (bytes_drop (r * record_size) f b)))

as_judged : (f : List ℕ) (r : ℕ) (g : GoodAt f r) → Good (record_at f r) g.retired g.fields
as_judged f r g = good_at f r g.retired g.fields g.judged

stored_most : (f : List ℕ) (r : ℕ) → GoodAt f r → stored_length (record_at f r) ≤ message_room
stored_most f r g = (as_judged f r g).most

-- behind the message stand zeros
zero_behind : (f : List ℕ) (r i : ℕ) → GoodAt f r → stored_length (record_at f r) ≤ i → i < message_room
    → byte_at f (r * record_size + (head_size + i)) ≡ 0
zero_behind f r i g h l =
    sym (record_byte f r (head_size + i) (omega arith)) ∙ (as_judged f r g).clear (head_size + i) (omega arith)

-- ---- two files that are the same but from place lo to hi, in the message of record r

-- the same below lo and from hi on
abbrev SameBut : ℕ → ℕ → List ℕ → List ℕ → Type 0
SameBut lo hi f g = ((i : ℕ) → i < lo → byte_at f i ≡ byte_at g i) × ((i : ℕ) → hi ≤ i → byte_at f i ≡ byte_at g i)

module _ (f g : List ℕ) (r lo hi : ℕ) (lf : r < count_of f) (lg : r < count_of g) (gf : GoodAt f r) (gg : GoodAt g r)
    (starts : r * record_size + head_size ≤ lo) (same : SameBut lo hi f g) where
  abbrev s : List ℕ
  s = message_of (record_at f r)

  abbrev t : List ℕ
  t = message_of (record_at g r)

  same_head : (i : ℕ) → i < head_size → byte_at (record_at f r) i ≡ byte_at (record_at g r) i
  same_head i h = record_byte f r i (omega arith) ∙ same.0 (r * record_size + i) (omega arith) ∙ sym (record_byte g r i (omega arith))

  same_sizes : stored_length (record_at f r) ≡ stored_length (record_at g r)
  same_sizes = same_stored (record_at f r) (record_at g r) (same_head 0 (omega arith)) (same_head 1 (omega arith))

  long_s : length s ≡ stored_length (record_at f r)
  long_s = message_long f r lf (stored_most f r gf)

  long_t : length t ≡ stored_length (record_at f r)
  long_t = message_long g r lg (stored_most g r gg) ∙ sym same_sizes

  byte_s : (i : ℕ) → i < length s → byte_at s i ≡ byte_at f (r * record_size + (head_size + i))
  byte_s i h = message_byte f r i (stored_most f r gf) (omega (arith, long_s))

  byte_t : (i : ℕ) → i < length s → byte_at t i ≡ byte_at g (r * record_size + (head_size + i))
  byte_t i h = message_byte g r i (stored_most g r gg) (omega (arith, long_s, same_sizes))

  -- the same file byte, or past both ends
  same_byte : (i : ℕ) → byte_at f (r * record_size + (head_size + i)) ≡ byte_at g (r * record_size + (head_size + i)) → byte_at s i ≡ byte_at t i
  same_byte i e = by (dec_lt i (length s))
    where
      by : Dec (i < length s) → byte_at s i ≡ byte_at t i
      by (yes h) = byte_s i h ∙ e ∙ sym (byte_t i h)
      by (no h) =
          get_or-eq_default s 0 {n = i} (omega arith)
          ∙ sym (get_or-eq_default t 0 {n = i} (omega (arith, long_s, long_t)))

  same_messages : (k : ℕ) → lo ≡ r * record_size + head_size + k → hi ≡ lo + 4 → SameOutside k s t
  same_messages k b e = (λ i h. same_byte i (same.0 _ (omega arith)), λ i h. same_byte i (same.1 _ (omega arith)))

  -- equal messages leave no place of the record where the files differ
  file_byte : s ≡ t → hi ≤ r * record_size + record_size → (i : ℕ) → byte_at f i ≡ byte_at g i
  file_byte e h i = by (dec_lt i lo) (dec_lt i hi)
    where
      within : lo ≤ i → i < hi → byte_at f i ≡ byte_at g i
      within a b =
          let j = i - (r * record_size + head_size) in
          let p : r * record_size + (head_size + j) ≡ i = omega arith in
          rw p at (same_place j (omega arith) (dec_lt j (length s)))
        where
          same_place : (j : ℕ) → j < message_room → Dec (j < length s) → byte_at f (r * record_size + (head_size + j)) ≡ byte_at g (r * record_size + (head_size + j))
          same_place j l (yes k) = sym (byte_s j k) ∙ ap (λ (m : List ℕ). byte_at m j) e ∙ byte_t j k
          same_place j l (no k) =
              zero_behind f r j gf (omega (arith, long_s)) l ∙ sym (zero_behind g r j gg (omega (arith, long_s, same_sizes)) l)

      by : Dec (i < lo) → Dec (i < hi) → byte_at f i ≡ byte_at g i
      by (yes a) b = same.0 i a
      by (no a) (no b) = same.1 i (omega arith)
      by (no a) (yes b) = within (omega arith) b

-- ---- the same of two files that check

module _ (f g : List ℕ) (n m r lo hi : ℕ) (bf : Bytes f) (bg : Bytes g) (cf : checking f ≡ counted n) (cg : checking g ≡ counted m) (l : r < n)
    (e : length f ≡ length g) (starts : r * record_size + head_size ≤ lo) (same : SameBut lo hi f g) where
  in_f : r < count_of f
  in_f = omega (arith, (checked_are_sound f n cf).count)

  in_g : r < count_of g
  in_g = rw (← (ap (λ (x : ℕ). x / record_size) e)) in_f

  good_f : GoodAt f r
  good_f = (checked_are_sound f n cf).sound.records r l

  good_g : GoodAt g r
  good_g = (checked_are_sound g m cg).sound.records r (omega (arith, in_g, (checked_are_sound g m cg).count))

  lengths : length (message_of (record_at f r)) ≡ length (message_of (record_at g r))
  lengths =
      long_s f g r lo hi in_f in_g good_f good_g starts same ∙ sym (long_t f g r lo hi in_f in_g good_f good_g starts same)

  short : length (message_of (record_at f r)) ≤ message_room
  short = omega (arith, long_s f g r lo hi in_f in_g good_f good_g starts same, stored_most f r good_f)

  messages : (k : ℕ) → lo ≡ r * record_size + head_size + k → hi ≡ lo + 4 → SameOutside k (message_of (record_at f r)) (message_of (record_at g r))
  messages k b c = same_messages f g r lo hi in_f in_g good_f good_g starts same k b c

  files : message_of (record_at f r) ≡ message_of (record_at g r) → hi ≤ r * record_size + record_size → f ≡ g
  files p h = ext_get_or 0 f g e (λ i b. file_byte f g r lo hi in_f in_g good_f good_g starts same p h i)

  -- a byte of the message is one of the file
  apart : (i : ℕ) → i < length (message_of (record_at f r))
      → bit_xor (byte_at f (r * record_size + (head_size + i))) (byte_at g (r * record_size + (head_size + i)))
      ≡ bit_xor (byte_at (message_of (record_at f r)) i) (byte_at (message_of (record_at g r)) i)
  apart i h =
      ap₂ bit_xor (sym (byte_s f g r lo hi in_f in_g good_f good_g starts same i h)) (sym (byte_t f g r lo hi in_f in_g good_f good_g starts same i h))

-- ---- four neighbouring bytes

module _ (f g : List ℕ) (n m r k : ℕ) (bf : Bytes f) (bg : Bytes g) (cf : checking f ≡ counted n) (cg : checking g ≡ counted m) (l : r < n)
    (e : length f ≡ length g) (same : SameOutside (r * record_size + head_size + k) f g) where
  abbrev lo : ℕ
  lo = r * record_size + head_size + k

  window_lengths : length (message_of (record_at f r)) ≡ length (message_of (record_at g r))
  window_lengths = lengths f g n m r lo (lo + 4) bf bg cf cg l e (omega arith) same

  window_messages : SameOutside k (message_of (record_at f r)) (message_of (record_at g r))
  window_messages = messages f g n m r lo (lo + 4) bf bg cf cg l e (omega arith) same k refl refl

  window_files : k + 4 ≤ message_room → message_of (record_at f r) ≡ message_of (record_at g r) → f ≡ g
  window_files h p = files f g n m r lo (lo + 4) bf bg cf cg l e (omega arith) same p (omega arith)

  window_apart : (i v : ℕ) → k + i < length (message_of (record_at f r))
      → bit_xor (byte_at (message_of (record_at f r)) (k + i)) (byte_at (message_of (record_at g r)) (k + i)) ≡ v
      → bit_xor (byte_at f (lo + i)) (byte_at g (lo + i)) ≡ v
  window_apart i v h d =
      let p : r * record_size + (head_size + (k + i)) ≡ lo + i = omega arith in
      rw p at (apart f g n m r lo (lo + 4) bf bg cf cg l e (omega arith) same (k + i) h ∙ d)

pub golden_any_window : GoldenAnyWindow
golden_any_window f g n m r k bf bg cf cg l ds dt within other e same =
    window_files f g n m r k bf bg cf cg l e same within
    (any_window (message_of (record_at f r)) (message_of (record_at g r)) k (message_bytes f r bf) (message_bytes g r bg)
    (window_lengths f g n m r k bf bg cf cg l e same) ds dt other (window_messages f g n m r k bf bg cf cg l e same))

pub golden_middle_window : GoldenMiddleWindow
golden_middle_window f g n m r k bf bg cf cg l ds dt at e same =
    told
    (middle_window (message_of (record_at f r)) (message_of (record_at g r)) k (message_bytes f r bf) (message_bytes g r bg)
    (window_lengths f g n m r k bf bg cf cg l e same) ds dt at (window_messages f g n m r k bf bg cf cg l e same))
  where
    least : least_size ≤ length (message_of (record_at f r))
    least = accepted_least _ ds.fields ds.accepts

    most : length (message_of (record_at f r)) ≤ message_room
    most = short f g n m r (r * record_size + head_size + k) (r * record_size + head_size + k + 4) bf bg cf cg l e (omega arith) same

    told : (message_of (record_at f r) ≡ message_of (record_at g r)) ⊎ OneDifference k (message_of (record_at f r)) (message_of (record_at g r))
        → (f ≡ g) ⊎ OneDifference (r * record_size + head_size + k) f g
    told (inl p) = inl (window_files f g n m r k bf bg cf cg l e same (omega (arith, least, most)) p)
    told (inr d) =
        inr
        (record {
          first = rw add-zero at (window_apart f g n m r k bf bg cf cg l e same 0 0x61 (omega (arith, least)) (rw add-zero d.first));
          second = window_apart f g n m r k bf bg cf cg l e same 1 0xD8 (omega (arith, least)) d.second;
          third = window_apart f g n m r k bf bg cf cg l e same 2 0xF4 (omega (arith, least)) d.third;
          fourth = window_apart f g n m r k bf bg cf cg l e same 3 0xEE (omega (arith, least)) d.fourth;
        })

-- a window of demand 3 lies in the message, and has not two and two
inside : (k n : ℕ) → least_size ≤ n → Window k n → (k + 4 ≤ n) × (TwoAndTwoAt k n → ⊥)
inside k n h (before b) = (omega arith, λ e. omega arith)
inside k n h (field at) = (omega arith, λ e. omega arith)

pub golden_demand_3 : GoldenDemand3
golden_demand_3 f g n m r k bf bg cf cg l ds dt w e same =
    let (within, other) = inside k (length (message_of (record_at f r))) (accepted_least _ ds.fields ds.accepts) w in
    let most = short f g n m r (r * record_size + head_size + k) (r * record_size + head_size + k + 4) bf bg cf cg l e (omega arith) same in
    golden_any_window f g n m r k bf bg cf cg l ds dt (omega arith) other e same

-- ---- bits of one record's message

module _ (f g : List ℕ) (n m r : ℕ) (bf : Bytes f) (bg : Bytes g) (cf : checking f ≡ counted n) (cg : checking g ≡ counted m) (l : r < n)
    (e : length f ≡ length g) (same : SameButMessage r f g) where
  abbrev base : ℕ
  base = r * record_size + head_size

  abbrev last : ℕ
  last = base + length (message_of (record_at f r))

  equal_lengths : length (message_of (record_at f r)) ≡ length (message_of (record_at g r))
  equal_lengths = lengths f g n m r base last bf bg cf cg l e (omega arith) same

  short_enough : length (message_of (record_at f r)) ≤ message_room
  short_enough = short f g n m r base last bf bg cf cg l e (omega arith) same

  equal_files : message_of (record_at f r) ≡ message_of (record_at g r) → f ≡ g
  equal_files p = files f g n m r base last bf bg cf cg l e (omega arith) same p (omega (arith, short_enough))

pub golden_two_bits : GoldenTwoBits
golden_two_bits f g n m r bf bg cf cg l ds dt e same fields least most =
    two_bits_anywhere (message_of (record_at f r)) (message_of (record_at g r)) (message_bytes f r bf) (message_bytes g r bg)
    (equal_lengths f g n m r bf bg cf cg l e same) (short_enough f g n m r bf bg cf cg l e same) ds dt fields least most

pub golden_three_bits_anywhere : GoldenThreeBitsAnywhere
golden_three_bits_anywhere f g n m r bf bg cf cg l ds dt e same few =
    equal_files f g n m r bf bg cf cg l e same
    (three_bits_anywhere (message_of (record_at f r)) (message_of (record_at g r)) (message_bytes f r bf) (message_bytes g r bg)
    (equal_lengths f g n m r bf bg cf cg l e same) (short_enough f g n m r bf bg cf cg l e same) ds dt few)
