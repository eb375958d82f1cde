-- Two frames of one length carry messages of one length, whose bytes are the frames' bytes; so the laws of messages hold for frames.
-- Rests on the envelope's laws of demand 3 and of bits.
use mathlib.Core.List.{List}
use mathlib.Core.Path.{◌≡◌, ap, sym, subst, ◌∙◌}
use Prim.Native.Nat.{ℕ, ◌+◌, ◌-◌, ◌≤◌, ◌<◌}
use native.Mathlib.Decide.{dec_lt}
use native.Mathlib.Omega.{arith}
use lib.ListN.{length, drop, get_or-eq_default}
use lib.Seq.{ext_get_or, get_or-take, get_or-drop}
use Rattle.envelope.proofs.DemandLaws.{bytes_take, bytes_drop, demand_3}
use Rattle.envelope.proofs.ReadingLaws.{accepted_least}
use Rattle.envelope.proofs.TwoBitsLaws.{two_bits_anywhere, three_bits_anywhere}
use Rattle.envelope.specs.Demand3.{DeclaresCrc, Window, before, field}
use Rattle.envelope.specs.Fields.{Span, part_of}
use Rattle.envelope.specs.Layout as envelope
use Rattle.envelope.specs.Numbers.{byte_at}
use Rattle.envelope.specs.Promise.{Bytes}
use Rattle.envelope.specs.Reading.{reading}
use Rattle.frame.specs.Detecting.{CarriesCrc, carried_message, FrameDemand3, FrameTwoBits, FrameThreeBits}
use Rattle.frame.specs.Layout.{body_place, least_size}
use Rattle.frame.specs.Unwrapping.{type_of, data_length}
use Rattle.frame.proofs.RoundTripLaws.{body-length, Carried, carried}
use Rattle.frame.proofs.UnwrapLaws.{length_whole}

-- ---- one frame

module _ (s : List ℕ) (c : CarriesCrc s) where
  inside : Carried s c.commid c.span c.fields
  inside = carried s c.commid c.span c.fields c.unwraps

  declares : DeclaresCrc (carried_message s)
  declares =
      record {
        fields = c.fields;
        accepts = ap (λ (p : Span). reading (part_of s p)) inside.span_is ∙ inside.reads;
        declares = c.declares;
      }

message_bytes : (s : List ℕ) → Bytes s → Bytes (carried_message s)
message_bytes s b = bytes_take (data_length s) (drop body_place s) (bytes_drop body_place s b)

message_long : (s : List ℕ) → Bytes s → CarriesCrc s → least_size + length (carried_message s) ≡ length s
message_long s b c =
    let whole = (inside s c).whole in
    ap (λ (n : ℕ). least_size + n) (body-length s b whole) ∙ length_whole (type_of s) (data_length s) (length s) whole.whole_length

message_byte : (s : List ℕ) (i : ℕ) → Bytes s → CarriesCrc s → i < length (carried_message s) → byte_at (carried_message s) i ≡ byte_at s (body_place + i)
message_byte s i b c h =
    get_or-take (data_length s) (drop body_place s) i 0 (omega (arith, body-length s b (inside s c).whole)) ∙ get_or-drop body_place s i 0

-- ---- two frames of one length

-- the same below lo and from hi on
abbrev SameBut : ℕ → ℕ → List ℕ → List ℕ → Type 0
SameBut lo hi s t = ((i : ℕ) → i < lo → byte_at s i ≡ byte_at t i) × ((i : ℕ) → hi ≤ i → byte_at s i ≡ byte_at t i)

module _ (s t : List ℕ) (bs : Bytes s) (bt : Bytes t) (e : length s ≡ length t) (cs : CarriesCrc s) (ct : CarriesCrc t) where
  same_lengths : length (carried_message s) ≡ length (carried_message t)
  same_lengths = omega (arith, message_long s bs cs, message_long t bt ct, e)

  -- the same byte of the frames, or past both ends
  same_byte : (i : ℕ) → byte_at s (body_place + i) ≡ byte_at t (body_place + i) → byte_at (carried_message s) i ≡ byte_at (carried_message t) i
  same_byte i p = by (dec_lt i (length (carried_message s)))
    where
      by : Dec (i < length (carried_message s)) → byte_at (carried_message s) i ≡ byte_at (carried_message t) i
      by (yes h) = message_byte s i bs cs h ∙ p ∙ sym (message_byte t i bt ct (omega (arith, same_lengths)))
      by (no h) =
          get_or-eq_default (carried_message s) 0 {n = i} (omega arith)
          ∙ sym (get_or-eq_default (carried_message t) 0 {n = i} (omega (arith, same_lengths)))

  -- equal messages leave no place where the frames differ
  frames : (lo hi : ℕ) → body_place ≤ lo → hi ≤ body_place + length (carried_message s) → SameBut lo hi s t → carried_message s ≡ carried_message t → s ≡ t
  frames lo hi starts ends same p = ext_get_or 0 s t e (λ i h. by i (dec_lt i lo) (dec_lt i hi))
    where
      within : (i : ℕ) → lo ≤ i → i < hi → byte_at s i ≡ byte_at t i
      within i a b =
          let j = i - body_place in
          let at : body_place + j ≡ i = omega arith in
          subst (λ (n : ℕ). byte_at s n ≡ byte_at t n) at
          (sym (message_byte s j bs cs (omega arith)) ∙ ap (λ (m : List ℕ). byte_at m j) p ∙ message_byte t j bt ct (omega (arith, same_lengths)))

      by : (i : ℕ) → Dec (i < lo) → Dec (i < hi) → byte_at s i ≡ byte_at t i
      by i (yes a) b = same.0 i a
      by i (no a) (no b) = same.1 i (omega arith)
      by i (no a) (yes b) = within i (omega arith) b

-- a window of demand 3 lies in the message
inside_message : (k n : ℕ) → envelope.least_size ≤ n → Window k n → k + 4 ≤ n
inside_message k n h (before b) = omega arith
inside_message k n h (field at) = omega arith

pub frame_demand_3 : FrameDemand3
frame_demand_3 s t k bs bt e cs ct w same =
    let ds = declares s cs in
    let least = accepted_least (carried_message s) ds.fields ds.accepts in
    frames s t bs bt e cs ct (body_place + k) (body_place + k + 4) (omega arith)
    (omega (arith, inside_message k (length (carried_message s)) least w)) same
    (demand_3 (carried_message s) (carried_message t) k (message_bytes s bs) (message_bytes t bt) (same_lengths s t bs bt e cs ct) ds (declares t ct) w
    (λ i h. same_byte s t bs bt e cs ct i (same.0 _ (omega arith)), λ i h. same_byte s t bs bt e cs ct i (same.1 _ (omega arith))))

pub frame_two_bits : FrameTwoBits
frame_two_bits s t bs bt e short cs ct fields least most =
    two_bits_anywhere (carried_message s) (carried_message t) (message_bytes s bs) (message_bytes t bt) (same_lengths s t bs bt e cs ct) short
    (declares s cs) (declares t ct) fields least most

pub frame_three_bits : FrameThreeBits
frame_three_bits s t bs bt e short cs ct same few =
    frames s t bs bt e cs ct body_place (body_place + length (carried_message s)) (omega arith) (omega arith) same
    (three_bits_anywhere (carried_message s) (carried_message t) (message_bytes s bs) (message_bytes t bt) (same_lengths s t bs bt e cs ct) short
    (declares s cs) (declares t ct) few)
