-- The flags byte, by paragraph 3.2.1.4 of source document 000, bit 0 the lowest. RULES 1.
-- Bit 0 time format, 1 encryption, 2 compression, 3-4 integrity kind, 5-7 unassigned. Encryption and compression change no rule here.
use Rattle.std.specs.Prelude.{◌≡◌, ℕ, ◌/◌, ◌%◌, Bool, not, ◌||◌, ◌==◌}
use Rattle.envelope.specs.declared.fields.Kind.{Kind}
use Rattle.envelope.specs.declared.fields.Kind.TheVariants.{None, Crc, Application, Unassigned}

abbrev pub time_is_absolute : ℕ → Bool
time_is_absolute flags = flags % 2 == 1

abbrev pub is_encrypted : ℕ → Bool
is_encrypted flags = flags / 2 % 2 == 1

abbrev pub is_compressed : ℕ → Bool
is_compressed flags = flags / 4 % 2 == 1

abbrev pub kind_of : ℕ → ℕ
kind_of flags = flags / 8 % 4

abbrev pub kind_none : ℕ
kind_none = 0

abbrev pub kind_crc : ℕ
kind_crc = 1

abbrev pub kind_application : ℕ
kind_application = 2

abbrev pub kind_unassigned : ℕ
kind_unassigned = 3

-- rule 3: an unassigned bit is set, or the kind is unassigned
unfoldable pub bad_flags : ℕ → Bool
bad_flags flags = not (flags / 32 == 0) || kind_of flags == kind_unassigned

-- what `flags::time_is_absolute`, `is_encrypted`, `is_compressed` and `kind` promise
abbrev pub TellsTime : ℕ → Bool → Type 0
TellsTime flags r = r ≡ time_is_absolute flags

abbrev pub TellsEncryption : ℕ → Bool → Type 0
TellsEncryption flags r = r ≡ is_encrypted flags

abbrev pub TellsCompression : ℕ → Bool → Type 0
TellsCompression flags r = r ≡ is_compressed flags

abbrev pub told_kind : Kind → ℕ
told_kind None = kind_none
told_kind Crc = kind_crc
told_kind Application = kind_application
told_kind Unassigned = kind_unassigned

abbrev pub TellsKind : ℕ → Kind → Type 0
TellsKind flags r = told_kind r ≡ kind_of flags

-- what `u8::from` promises of a kind
abbrev pub NumbersKind : Kind → ℕ → Type 0
NumbersKind k r = r ≡ told_kind k
