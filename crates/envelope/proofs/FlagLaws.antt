-- What a kind's equality says of its number.
use Rattle.std.proofs.Common.{◌≡◌, eqb, refl}
use denote.Enum.Bare.{sameb}
use Rattle.envelope.specs.Flags.{told_kind, kind_unassigned}
use Rattle.envelope.specs.contracts.fields.Kind.{the_type}
use Rattle.envelope.specs.declared.fields.Kind.{Kind}
use Rattle.envelope.specs.declared.fields.Kind.TheVariants.{None, Crc, Application, Unassigned}

pub unassigned_is : (k : Kind) → sameb the_type k Unassigned ≡ eqb (told_kind k) kind_unassigned
unassigned_is None = refl
unassigned_is Crc = refl
unassigned_is Application = refl
unassigned_is Unassigned = refl
