-- One answer alone keeps each promise of frames. A refusal is told back by its number, an envelope by what `read` promises of it.
use Rattle.std.specs.Prelude.{Result, Ok, Err}
use mathlib.Core.Bool.{cond}
use mathlib.Core.List.{List}
use mathlib.Core.Path.{◌≡◌, refl, ap, sym, ◌∙◌}
use Prim.Native.Nat.{ℕ}
use lib.Dec.{eqb}
use lib.ListN.{length}
use Rattle.envelope.proofs.OnlyLaws.{only_by_telling, untold_refusal, untold_refusal_lem, only_numbers, only_reads}
use Rattle.envelope.specs.Fields.{accepted, part_of}
use Rattle.envelope.specs.Promise.{Only₁, Only₂}
use Rattle.envelope.specs.Refusals.{Refused, plainly, passing_on}
use Rattle.envelope.specs.Told.{told_part, told_envelope}
use Rattle.envelope.specs.declared.reader.Refusal as reader
use Rattle.envelope.specs.declared.fields.Envelope.{Envelope}
use Rattle.frame.specs.Capturing.{MeasuresFirst}
use Rattle.frame.specs.Wrapping.{WrapOutcome, wrapping, acknowledging, WrapAnswer, wrote, refused, answer_to_wrapping, told_wrapped, Answers, Wraps, Acknowledges}
use Rattle.frame.specs.Unwrapping.{message, told_unwrapped, Unwraps}
use Rattle.frame.specs.Refusal.{told_frame_refusal, PassesMessageOn, NumbersFrameAlone, NumbersFrameRefusal}
use Rattle.frame.specs.Types.{NumbersType, TypeOfNumber}
use Rattle.frame.specs.declared.frame_type.FrameType.{FrameType}
use Rattle.frame.specs.declared.unwrapper.DataMessage.{DataMessage}
use Rattle.frame.specs.declared.refusal.Refusal.{Refusal}
use Rattle.frame.specs.declared.refusal.Refusal.TheVariants.{TooShort, NoStx, WrongVersion, OtherType, WrongLength, NoEtx, MessageRefused, NoRoom}
use Rattle.frame.specs.declared.unwrapper.Unwrapped.{Unwrapped}
use Rattle.frame.specs.declared.unwrapper.Unwrapped.TheVariants.{Data, Acknowledged}
use Rattle.frame.proofs.RoundTripLaws.{carried}

-- ---- refusals

abbrev untold_frame_refusal : Refused → Refusal
untold_frame_refusal (plainly n) =
    cond (eqb n 61) TooShort
    (cond (eqb n 62) NoStx
    (cond (eqb n 63) WrongVersion
    (cond (eqb n 64) OtherType
    (cond (eqb n 65) WrongLength
    (cond (eqb n 66) NoEtx
    NoRoom)))))
untold_frame_refusal (passing_on n r) = MessageRefused (untold_refusal r)

untold_frame_refusal_lem : (f : Refusal) → untold_frame_refusal (told_frame_refusal f) ≡ f
untold_frame_refusal_lem TooShort = refl
untold_frame_refusal_lem NoStx = refl
untold_frame_refusal_lem WrongVersion = refl
untold_frame_refusal_lem OtherType = refl
untold_frame_refusal_lem WrongLength = refl
untold_frame_refusal_lem NoEtx = refl
untold_frame_refusal_lem (MessageRefused r) = ap MessageRefused (untold_refusal_lem r)
untold_frame_refusal_lem NoRoom = refl

same_refusal : (f g : Refusal) → told_frame_refusal f ≡ told_frame_refusal g → f ≡ g
same_refusal f g e = sym (untold_frame_refusal_lem f) ∙ ap untold_frame_refusal e ∙ untold_frame_refusal_lem g

pub only_numbers_frame_refusal : (f : Refusal) → Only₁ (NumbersFrameRefusal f)
only_numbers_frame_refusal f = only_numbers (told_frame_refusal f)

pub only_passes_message_on : (r : reader.Refusal) → Only₁ (PassesMessageOn r)
only_passes_message_on r a b p q = p ∙ sym q

pub only_numbers_frame_alone : (f : Refusal) → Only₁ (NumbersFrameAlone f)
only_numbers_frame_alone f a b p q = p ∙ sym q

-- ---- types

pub only_numbers_type : (t : FrameType) → Only₁ (NumbersType t)
only_numbers_type t a b p q = p ∙ sym q

pub only_type_of_number : (number : ℕ) → Only₁ (TypeOfNumber number)
only_type_of_number number a b p q = p ∙ sym q

-- ---- unwrap

same_capture : (c d : DataMessage) (s : List ℕ) → Unwraps s (Ok (Data c))
    → message c.commid (told_part c.message) (told_envelope c.envelope) ≡ message d.commid (told_part d.message) (told_envelope d.envelope) → c ≡ d
same_capture c d s p e =
    let k = carried s c.commid (told_part c.message) (told_envelope c.envelope) (sym p) in
    let ec : c.commid ≡ d.commid = cc in
    let ep : told_part c.message ≡ told_part d.message = cc in
    let ef : told_envelope c.envelope ≡ told_envelope d.envelope = cc in
    let both : ◌≡◌ {A = Result Envelope reader.Refusal} (Ok c.envelope) (Ok d.envelope) =
    only_reads (part_of s (told_part c.message)) (Ok c.envelope) (Ok d.envelope) (sym k.reads) (ap accepted (sym ef) ∙ sym k.reads) in
    let ee : c.envelope ≡ d.envelope = cc in
    λ i. record { commid = ec i; message = record { place = (ep i).place; size = (ep i).size }; envelope = ee i }

pub only_unwraps : (s : List ℕ) → Only₁ (Unwraps s)
only_unwraps s a b p q = go a b p (p ∙ sym q)
  where
    go : (a b : Result Unwrapped Refusal) → Unwraps s a → told_unwrapped a ≡ told_unwrapped b → a ≡ b
    go (Ok (Data c)) (Ok (Data d)) p e = ap (λ (x : DataMessage). Ok (Data x)) (same_capture c d s p e)
    go (Ok (Data c)) (Ok (Acknowledged y)) p e = cc
    go (Ok (Data c)) (Err g) p e = cc
    go (Ok (Acknowledged x)) (Ok (Data d)) p e = cc
    go (Ok (Acknowledged x)) (Ok (Acknowledged y)) p e =
        let ec : x.commid ≡ y.commid = cc in
        let ea : x.acknowledged ≡ y.acknowledged = cc in
        λ i. Ok (Acknowledged (record { commid = ec i; acknowledged = ea i }))
    go (Ok (Acknowledged x)) (Err g) p e = cc
    go (Err f) (Ok (Data d)) p e = cc
    go (Err f) (Ok (Acknowledged y)) p e = cc
    go (Err f) (Err g) p e = let x : told_frame_refusal f ≡ told_frame_refusal g = cc in ap Err (same_refusal f g x)

-- ---- wrap and acknowledge: the answer and the whole buffer

abbrev untold_wrapped : WrapAnswer → Result ℕ Refusal
untold_wrapped (wrote n) = Ok n
untold_wrapped (refused r) = Err (untold_frame_refusal r)

untold_wrapping : (r : Result ℕ Refusal) → untold_wrapped (told_wrapped r) ≡ r
untold_wrapping (Ok n) = refl
untold_wrapping (Err f) = ap Err (untold_frame_refusal_lem f)

only_answers : (o : WrapOutcome) (entry : List ℕ) → Only₂ (Answers o entry)
only_answers o entry a b x y p q =
    (only_by_telling told_wrapped untold_wrapped untold_wrapping (answer_to_wrapping o) a b p.0 q.0, p.1 ∙ sym q.1)

pub only_wraps : (m : List ℕ) (commid : ℕ) (entry : List ℕ) → Only₂ (Wraps m commid entry)
only_wraps m commid entry = only_answers (wrapping m commid (length entry)) entry

pub only_acknowledges : (commid acknowledged : ℕ) (entry : List ℕ) → Only₂ (Acknowledges commid acknowledged entry)
only_acknowledges commid acknowledged entry = only_answers (acknowledging commid acknowledged (length entry)) entry

-- ---- captures

pub only_measures_first : (s : List ℕ) → Only₁ (MeasuresFirst s)
only_measures_first s a b p q = p ∙ sym q
