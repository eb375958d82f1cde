-- Out and in again, in and out again, as specs/RoundTrips states them.
-- The fields of a frame that was put together are those that went in; bytes that are whole are the frame of their own fields.
use Rattle.std.specs.Prelude.{Result}
use mathlib.Core.Bool.{Bool, true, false, cond, not, ◌&&◌}
use mathlib.Core.List.{List, [], ◌∷◌, ◌++◌}
use mathlib.Core.Path.{◌≡◌, refl, ap, ap₂, sym, ◌∙◌}
use Prim.Native.Nat.{ℕ, suc, ◌+◌, ◌-◌}
use native.Mathlib.Omega.{arith}
use borrow.Author.Tests.{eqb-true, eq-eqb, not-false}
use lib.Dec.{eqb, ltb}
use lib.ListN.{length, take, drop, length-drop, take-append-drop, drop_of_length-le}
use lib.Seq.{length-take-le, take-append_seam, drop-cons, drop-drop, get_or-append-add, get_or-append_seam}
use Rattle.envelope.proofs.DemandLaws.{bytes_take, bytes_drop}
use Rattle.envelope.proofs.RebuiltLaws.{cells, front as cut, four_of_lem}
use Rattle.envelope.proofs.RuleLaws.{four_at_is}
use Rattle.envelope.proofs.WrittenLaws.{four_back}
use Rattle.envelope.specs.Fields.{Span, Fields, Answer, accepted, refused, part_of}
use Rattle.envelope.specs.Numbers.{byte_at, in_four}
use Rattle.envelope.specs.Promise.{Bytes}
use Rattle.envelope.specs.Reading.{reading}
use Rattle.envelope.specs.Refusals.{plainly}
use Rattle.envelope.specs.Told.{told_part, told_envelope}
use Rattle.frame.specs.Wrapping.{WrapOutcome, written, refused, wrapping, acknowledging, put_down, after_wrapping, wrote, answer_to_wrapping, told_wrapped, Answers}
use Rattle.frame.specs.Unwrapping as unwrap
use Rattle.frame.specs.Wrapping as wrap
use Rattle.frame.specs.Capturing.{is_frame}
use Rattle.frame.specs.Frames.{header_bytes, frame, data_frame, acknowledgment_frame}
use Rattle.frame.specs.Unwrapping.{type_of, commid_of, data_length, acknowledged_of, body_span, other_type, wrong_length, UnwrapAnswer, message, acknowledgment, unwrapping_read, carrying, unwrapping}
use Rattle.frame.specs.Layout.{etx, data_type, acknowledgment_type, body_place, least_size, commid_place, length_place, commid_size, largest_length}
use Rattle.frame.specs.RoundTrips.{UnwrapsAs, TellsMessage, WrappedThenUnwrapped, WrappedBufferThenUnwrapped, UnwrappedThenWrapped, UnwrappedThenWrappedBuffer, AcknowledgedThenUnwrapped, AcknowledgedBufferThenUnwrapped, UnwrappedThenAcknowledged, UnwrappedThenAcknowledgedBuffer, Kind, data_message, an_acknowledgment, OneOrTheOther, NeverBoth}
use Rattle.frame.specs.declared.refusal.Refusal.{Refusal}
use Rattle.frame.proofs.WrapLaws.{past_69, room_enough}
use Rattle.frame.proofs.UnwrapLaws.{length_whole, acknowledgment_whole, carries_message, carries_acknowledgment, Whole, Opened, opened, unwraps_whole}
use Rattle.frame.proofs.PutLaws.{frame-length}

-- ---- a frame that was put together

module _ (t commid : ℕ) (body : List ℕ) where
  type_back : type_of (frame t commid body) ≡ t
  unfolding frame
  type_back = refl

  commid_back : commid_of (frame t commid body) ≡ commid
  unfolding frame
  commid_back = four_at_is (frame t commid body) commid_place ∙ four_back commid

  length_back : data_length (frame t commid body) ≡ length body
  unfolding frame
  length_back = four_at_is (frame t commid body) length_place ∙ four_back (length body)

  body_back : take (length body) (drop body_place (frame t commid body)) ≡ body
  unfolding frame
  body_back = take-append_seam body (etx ∷ [])

  etx_back : byte_at (frame t commid body) (body_place + length body) ≡ etx
  unfolding frame
  etx_back =
      get_or-append-add (header_bytes t commid (length body)) (body ++ etx ∷ []) (length body) 0
      ∙ get_or-append_seam body etx [] 0

  frame-length_kept : (eqb t acknowledgment_type && not (eqb (length body) commid_size)) ≡ false → wrong_length t (length body) (length (frame t commid body)) ≡ false
  unfolding wrong_length
  frame-length_kept k = rw (eq-eqb _ _ (sym (frame-length t commid body)), k)

  frame_whole : other_type t ≡ false → (eqb t acknowledgment_type && not (eqb (length body) commid_size)) ≡ false → Whole (frame t commid body)
  unfolding frame
  frame_whole o k =
      record {
        long = omega (arith, frame-length t commid body);
        start = refl;
        protocol = refl;
        version = refl;
        known_type = o;
        whole_length = ap (λ (n : ℕ). wrong_length t n (length (frame t commid body))) length_back ∙ frame-length_kept k;
        last = ap (λ (n : ℕ). byte_at (frame t commid body) (body_place + n)) length_back ∙ etx_back;
      }

-- ---- a message out and in

is_data : other_type data_type ≡ false
unfolding other_type
is_data = refl

is_acknowledgment : other_type acknowledgment_type ≡ false
unfolding other_type
is_acknowledgment = refl

pub wrapped_frame : (m : List ℕ) (commid : ℕ) (f : Fields) → reading m ≡ accepted f
    → unwrapping (data_frame commid m) ≡ message commid (record { place = body_place; size = body_place + length m - body_place }) f
wrapped_frame m commid f e =
    let s = data_frame commid m in
    let n : body_place + length m - body_place ≡ length m = omega arith in
    unwraps_whole s (frame_whole data_type commid m is_data refl)
    ∙ ap (carrying s) (type_back data_type commid m)
    ∙ sym
    (carries_message s data_type commid (sym (commid_back data_type commid m)) (body_place + length m) (ap (λ (k : ℕ). body_place + k) (sym (length_back data_type commid m))) refl f
    (ap reading (ap (λ (k : ℕ). take k (drop body_place s)) n ∙ body_back data_type commid m) ∙ e))

unwraps_as : (m : List ℕ) (commid : ℕ) (f : Fields) → reading m ≡ accepted f → UnwrapsAs (data_frame commid m) commid m
unwraps_as m commid f e =
    let n : body_place + length m - body_place ≡ length m = omega arith in
    record {
      span = record { place = body_place; size = body_place + length m - body_place };
      fields = f;
      unwraps = wrapped_frame m commid f e;
      same = ap (λ (k : ℕ). take k (drop body_place (data_frame commid m))) n ∙ body_back data_type commid m;
      reads = e;
    }

-- what is written is the frame
only_frame : (b c : Bool) (frame s : List ℕ) → cond b (refused (plainly 69)) (cond c (refused (plainly 68)) (written frame)) ≡ written s → frame ≡ s
only_frame true c frame s e = cc
only_frame false true frame s e = cc
only_frame false false frame s e = cc

pub wrapped_then_unwrapped : WrappedThenUnwrapped
unfolding wrapping
wrapped_then_unwrapped m commid room s = go (reading m) refl
  where
    go : (a : Answer) → reading m ≡ a → wrap.wrapping_read a m commid room ≡ written s → UnwrapsAs s commid m
    go (refused r) e d = cc
    go (accepted f) e d =
        rw (← only_frame (ltb largest_length (length m)) (ltb room (length (data_frame commid m))) (data_frame commid m) s d) (unwraps_as m commid f e)

-- an outcome that the code answered with a length, and the front of the buffer
record Front (o : WrapOutcome) (n : ℕ) (exit : List ℕ) : Type 0 where
  bytes : List ℕ
  outcome : o ≡ written bytes
  front : take n exit ≡ bytes

front_of : (o : WrapOutcome) (entry exit : List ℕ) (r : Result ℕ Refusal) (n : ℕ) → Answers o entry r exit → told_wrapped r ≡ wrote n → Front o n exit
front_of (written s) entry exit r n w e =
    let k : n ≡ length s = same n (length s) (sym e ∙ w.0) in
    record {
      bytes = s;
      outcome = refl;
      front = (λ i. take (k i) (w.1 i)) ∙ take-append_seam s (drop (length s) entry);
    }
  where
    same : (m n : ℕ) → wrote m ≡ wrote n → m ≡ n
    same m n e = cc
front_of (refused x) entry exit r n w e = let z : wrote n ≡ refused x = sym e ∙ w.0 in cc

pub wrapped_buffer_then_unwrapped : WrappedBufferThenUnwrapped
wrapped_buffer_then_unwrapped m commid entry exit r n u w e h =
    let f = front_of (wrapping m commid (length entry)) entry exit r n w e in
    tells f.front (wrapped_then_unwrapped m commid (length entry) f.bytes f.outcome)
  where
    tells : {s : List ℕ} → take n exit ≡ s → UnwrapsAs s commid m → TellsMessage u (take n exit) commid m
    tells {s} at k =
        record {
          span = k.span;
          fields = k.fields;
          tells = h ∙ ap unwrapping at ∙ k.unwraps;
          same = ap (λ (x : List ℕ). part_of x k.span) at ∙ k.same;
          reads = k.reads;
        }

-- ---- an acknowledgment out and in

pub acknowledged_frame : (commid acknowledged : ℕ) → unwrapping (acknowledgment_frame commid acknowledged) ≡ acknowledgment commid acknowledged
unfolding frame
acknowledged_frame commid acknowledged =
    let s = acknowledgment_frame commid acknowledged in
    unwraps_whole s (frame_whole acknowledgment_type commid (in_four acknowledged) is_acknowledgment refl)
    ∙ sym
    (carries_acknowledgment s acknowledgment_type commid (sym (commid_back acknowledgment_type commid (in_four acknowledged))) acknowledged refl
    (sym (four_at_is s body_place ∙ four_back acknowledged)))

pub acknowledged_then_unwrapped : AcknowledgedThenUnwrapped
unfolding acknowledging
acknowledged_then_unwrapped commid acknowledged room s e =
    rw (← only_frame false (ltb room (length (acknowledgment_frame commid acknowledged))) (acknowledgment_frame commid acknowledged) s e) (acknowledged_frame commid acknowledged)

pub acknowledged_buffer_then_unwrapped : AcknowledgedBufferThenUnwrapped
acknowledged_buffer_then_unwrapped commid acknowledged entry exit r n u w e h =
    let f = front_of (acknowledging commid acknowledged (length entry)) entry exit r n w e in
    h ∙ ap unwrapping f.front ∙ acknowledged_then_unwrapped commid acknowledged (length entry) f.bytes f.outcome

-- ---- whole bytes are the frame of their own fields

module _ (s : List ℕ) (bytes : Bytes s) (w : Whole s) where
  size : least_size + data_length s ≡ length s
  size = length_whole (type_of s) (data_length s) (length s) w.whole_length

  pub body-length : length (part_of s (body_span s)) ≡ data_length s
  body-length = length-take-le (data_length s) (drop body_place s) (omega (arith, length-drop body_place s, size))

  header : header_bytes (type_of s) (commid_of s) (length (part_of s (body_span s))) ≡ cells 12 0 s
  header = λ i.
      sym w.start i
      ∷ sym w.protocol i
      ∷ (four_of_lem s bytes commid_place i ++ (type_of s ∷ sym w.version i ∷ (ap in_four body-length ∙ four_of_lem s bytes length_place) i))

  tail : drop (data_length s) (drop body_place s) ≡ etx ∷ []
  tail =
      drop-drop (data_length s) body_place s
      ∙ drop-cons s (body_place + data_length s) 0 (omega (arith, size))
      ∙ (λ i. w.last i ∷ drop_of_length-le s {i = suc (body_place + data_length s)} (omega (arith, size)) i)

  pub rebuilt : frame (type_of s) (commid_of s) (part_of s (body_span s)) ≡ s
  unfolding frame
  rebuilt =
      ap₂ (λ (x y : List ℕ). x ++ (part_of s (body_span s) ++ y)) header (sym tail)
      ∙ ap (λ (y : List ℕ). cells 12 0 s ++ y) (take-append-drop (data_length s) (drop body_place s))
      ∙ sym (cut 12 0 s (omega (arith, size)))

-- ---- a message in and out

pub record Carried (s : List ℕ) (commid : ℕ) (p : Span) (f : Fields) : Type 0 where
  pub whole : Whole s
  pub type_is : type_of s ≡ data_type
  pub commid_is : commid_of s ≡ commid
  pub span_is : body_span s ≡ p
  pub reads : reading (part_of s p) ≡ accepted f

-- one of the two types, and not the second
data_type_lem : (t : ℕ) → other_type t ≡ false → eqb t acknowledgment_type ≡ false → t ≡ data_type
unfolding other_type
data_type_lem t o e = eqb-true t data_type (not-false _ (go (eqb t data_type) (rw e at o)))
  where
    go : (b : Bool) → (not b && not false) ≡ false → not b ≡ false
    go true k = refl
    go false k = k

pub carried : (s : List ℕ) (commid : ℕ) (p : Span) (f : Fields) → unwrapping s ≡ message commid p f → Carried s commid p f
unfolding carrying
carried s commid p f e = go (eqb (type_of s) acknowledgment_type) refl (sym i.carries ∙ e)
  where
    i : Opened s
    i = opened s (ap is_frame e)

    read_as : (a : Answer) → reading (part_of s (body_span s)) ≡ a → eqb (type_of s) acknowledgment_type ≡ false → unwrapping_read a s ≡ message commid p f → Carried s commid p f
    read_as (refused r) ea et d = cc
    read_as (accepted g) ea et d =
        let ep : body_span s ≡ p = cc in
        let eg : g ≡ f = cc in
        record {
          whole = i.frame;
          type_is = data_type_lem (type_of s) i.frame.known_type et;
          commid_is = cc;
          span_is = ep;
          reads = ap (λ (x : Span). reading (part_of s x)) (sym ep) ∙ ea ∙ ap accepted eg;
        }

    go : (b : Bool) → eqb (type_of s) acknowledgment_type ≡ b → cond b (acknowledgment (commid_of s) (acknowledged_of s)) (unwrapping_read (reading (part_of s (body_span s))) s) ≡ message commid p f → Carried s commid p f
    go true et d = cc
    go false et d = read_as (reading (part_of s (body_span s))) refl et d

data_frame_of : (s : List ℕ) (commid : ℕ) (p : Span) (f : Fields) → Bytes s → unwrapping s ≡ message commid p f → data_frame commid (part_of s p) ≡ s
data_frame_of s commid p f bytes e =
    let k = carried s commid p f e in
    (λ i. frame (sym k.type_is i) (sym k.commid_is i) (part_of s (sym k.span_is i))) ∙ rebuilt s bytes k.whole

pub unwrapped_then_wrapped : UnwrappedThenWrapped
unwrapped_then_wrapped s commid p f room bytes e h =
    let k = carried s commid p f e in
    let m = part_of s p in
    let same = data_frame_of s commid p f bytes e in
    past_69 m commid room f (bytes_take p.size (drop p.place s) (bytes_drop p.place s bytes)) k.reads
    ∙ room_enough data_type commid m room (omega (arith, frame-length data_type commid m, ap length same))
    ∙ ap written same

-- an outcome that is written, as the code answers it
answered : (o : WrapOutcome) (s entry exit : List ℕ) (r : Result ℕ Refusal) → o ≡ written s → Answers o entry r exit → (told_wrapped r ≡ wrote (length s)) × (exit ≡ put_down s entry)
answered o s entry exit r e w = (w.0 ∙ ap answer_to_wrapping e, w.1 ∙ ap (λ (x : WrapOutcome). after_wrapping x entry) e)

pub unwrapped_then_wrapped_buffer : UnwrappedThenWrappedBuffer
unwrapped_then_wrapped_buffer s d entry exit r bytes e h w =
    answered (wrapping (part_of s (told_part d.message)) d.commid (length entry)) s entry exit r
    (unwrapped_then_wrapped s d.commid (told_part d.message) (told_envelope d.envelope) (length entry) bytes (sym e) h) w

-- ---- an acknowledgment in and out

record Heard (s : List ℕ) (commid acknowledged : ℕ) : Type 0 where
  whole : Whole s
  type_is : type_of s ≡ acknowledgment_type
  commid_is : commid_of s ≡ commid
  acknowledged_is : acknowledged_of s ≡ acknowledged

heard : (s : List ℕ) (commid acknowledged : ℕ) → unwrapping s ≡ acknowledgment commid acknowledged → Heard s commid acknowledged
unfolding carrying
heard s commid acknowledged e = go (eqb (type_of s) acknowledgment_type) refl (sym i.carries ∙ e)
  where
    i : Opened s
    i = opened s (ap is_frame e)

    not_message : (a : Answer) → unwrapping_read a s ≡ acknowledgment commid acknowledged → ⊥
    not_message (refused r) d = cc
    not_message (accepted g) d = cc

    go : (b : Bool) → eqb (type_of s) acknowledgment_type ≡ b → cond b (acknowledgment (commid_of s) (acknowledged_of s)) (unwrapping_read (reading (part_of s (body_span s))) s) ≡ acknowledgment commid acknowledged → Heard s commid acknowledged
    go true et d = record { whole = i.frame; type_is = eqb-true _ _ et; commid_is = cc; acknowledged_is = cc }
    go false et d = absurd (not_message (reading (part_of s (body_span s))) d)

-- the body of an acknowledgment is its number
acknowledged_body : (s : List ℕ) → Bytes s → Whole s → data_length s ≡ commid_size → part_of s (body_span s) ≡ in_four (acknowledged_of s)
acknowledged_body s bytes w n =
    let l = length_whole (type_of s) (data_length s) (length s) w.whole_length in
    (λ i. take (n i) (cut 4 body_place s (omega (arith, l)) i)) ∙ sym (four_of_lem s bytes body_place)

acknowledgment_frame_of : (s : List ℕ) (commid acknowledged : ℕ) → Bytes s → unwrapping s ≡ acknowledgment commid acknowledged
    → acknowledgment_frame commid acknowledged ≡ s
acknowledgment_frame_of s commid acknowledged bytes e =
    let k = heard s commid acknowledged e in
    let n = acknowledgment_whole (type_of s) (data_length s) (length s) k.whole.whole_length k.type_is in
    let b = acknowledged_body s bytes k.whole n ∙ ap in_four k.acknowledged_is in
    (λ i. frame (sym k.type_is i) (sym k.commid_is i) (sym b i)) ∙ rebuilt s bytes k.whole

pub unwrapped_then_acknowledged : UnwrappedThenAcknowledged
unfolding acknowledging
unwrapped_then_acknowledged s commid acknowledged room bytes e h =
    let same = acknowledgment_frame_of s commid acknowledged bytes e in
    room_enough acknowledgment_type commid (in_four acknowledged) room (omega (arith, frame-length acknowledgment_type commid (in_four acknowledged), ap length same))
    ∙ ap written same

pub unwrapped_then_acknowledged_buffer : UnwrappedThenAcknowledgedBuffer
unwrapped_then_acknowledged_buffer s a entry exit r bytes e h w =
    answered (acknowledging a.commid a.acknowledged (length entry)) s entry exit r
    (unwrapped_then_acknowledged s a.commid a.acknowledged (length entry) bytes (sym e) h) w

-- ---- one or the other

pub one_or_the_other : OneOrTheOther
one_or_the_other s bytes = go (unwrapping s) refl
  where
    go : (a : UnwrapAnswer) → unwrapping s ≡ a → is_frame (unwrapping s) ≡ true → Kind s
    go (message commid p f) e h = data_message commid (part_of s p) (data_frame_of s commid p f bytes e)
    go (acknowledgment commid acknowledged) e h = an_acknowledgment commid acknowledged (acknowledgment_frame_of s commid acknowledged bytes e)
    go (unwrap.refused r) e h = let x : false ≡ true = sym (ap is_frame e) ∙ h in cc

pub never_both : NeverBoth
unfolding frame
never_both commid own acknowledged m e =
    let z : ◌≡◌ {A = ℕ} 1 2 = ap type_of e in omega arith
