-- The layout of a message that reading accepts is made of the parts that reading hands out: a type, with its proof in proofs/AgreementLaws. RULES 1 and 2.
-- It is stated of any answers that keep the promises of `envelope::read` and of `layout_of`.
use Rattle.std.specs.Prelude.{ℕ, List, ◌≡◌, Ok}
use Rattle.envelope.specs.Fields.{Span, AddressingFields, present, Fields}
use Rattle.envelope.specs.Told.{told_envelope, Reads}
use Rattle.envelope.specs.declared.fields.Envelope.{Envelope}
use Rattle.layout.specs.Layout.{LaidOut}
use Rattle.layout.specs.declared.layout.Layout.{Layout}

-- where addresses are present, the destination begins where the layout says
abbrev pub HasDestination : Layout → AddressingFields → Type 0
HasDestination l a =
    (ttl qos : ℕ) (source destination : Span) → a ≡ present ttl qos source destination → l.destination ≡ destination.place

abbrev pub HasBody : Layout → Span → Type 0
HasBody l body = (l.body ≡ body.place) × (l.body_size ≡ body.size)

abbrev pub MadeOf : Layout → Fields → Type 0
MadeOf l f = HasDestination l f.addressing × HasBody l f.body

abbrev pub LayoutIsReadings : Type 0
LayoutIsReadings = (s : List ℕ) (e : Envelope) (l : Layout) → Reads s (Ok e) → LaidOut s l → MadeOf l (told_envelope e)
