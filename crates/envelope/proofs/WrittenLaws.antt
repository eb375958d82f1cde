-- Written then read: a message that writing makes is accepted, and what is handed out of it is what was given.
-- The header's 17 bytes are there to be read off; the two addresses are found again since neither has a zero.
use Rattle.std.proofs.Common.{◌≡◌, ℕ, suc, ◌+◌, ◌-◌, ◌*◌, ◌/◌, ◌%◌, ◌<◌, ◌≤◌, Bool, true, false, cond, not, ◌&&◌, ◌||◌, eqb, leb, List, [], ◌∷◌, ◌++◌, length, take, drop, sym, refl, ap, ◌∙◌, append_assoc, arith, length-append, drop-drop, take_at, get_or-append-add, ltb-false, le-ltb, eq-eqb, ne_eqb, eqb-true, le-leb, leb-false}
use borrow.Author.Tests.{not-false}
use lib.Seq.{get_or-append_seam, take-append_seam, drop-append-add, drop-append_seam}
use Rattle.sum.specs.Crc.{crc32}
use Rattle.envelope.specs.Addresses.{first_zero, source_size, destination_size, region_of, two_addresses, bad_addresses}
use Rattle.envelope.specs.Fields.{HeaderFields, AddressingFields, absent, present, none, crc, application, Fields, accepted}
use Rattle.envelope.specs.Flags.{kind_of, kind_none, kind_crc}
use Rattle.envelope.specs.Heading.{field_place, bad_variable_size}
use Rattle.envelope.specs.IntegrityField.{bad_integrity}
use Rattle.envelope.specs.Layout.{header_size, routing_size, addresses_place, field_size, largest_address, smallest_variable, largest_variable}
use Rattle.envelope.specs.Message.{RoutingFields, unaddressed, addressed, Given, header_bytes, variable_bytes, variable_of, before_field, field_number, message}
use Rattle.envelope.specs.Numbers.{two_at, three_at, four_at, in_four}
use Rattle.envelope.specs.Reading.{header_of, addressing_of, integrity_of, fields_of, reading}
use Rattle.envelope.specs.RoundTrips.{routing_of, source_bytes, destination_bytes, application_number, given_by, ReadsAs}
use Rattle.envelope.specs.Writing.{has_zero, bad_end, stray_ends, stray_integrity}
use Rattle.envelope.proofs.AddressLaws.{scanned_two}
use Rattle.envelope.proofs.BoolLaws.{neither}
use Rattle.envelope.proofs.HeadingLaws.{announced_is}
use Rattle.envelope.proofs.ReadingLaws.{accepts}
use Rattle.envelope.proofs.WriteLaws.{ends-length, ends_kept, stray_kept, Kept}
use Rattle.envelope.proofs.ZeroLaws.{zero_inside}

-- ---- numbers come back from their bytes

pub two_back : (n : ℕ) → n / 256 * 256 + n % 256 ≡ n
two_back n = omega arith

three_back : (n : ℕ) → n / 65536 * 65536 + n / 256 % 256 * 256 + n % 256 ≡ n
three_back n = omega arith

pub four_back : (n : ℕ) → n / 16777216 * 16777216 + n / 65536 % 256 * 65536 + n / 256 % 256 * 256 + n % 256 ≡ n
four_back n = omega arith

-- the field at the end of a message
pub field_back : (u : List ℕ) (n : ℕ) → four_at (u ++ in_four n) (length u) ≡ n
unfolding four_at
field_back u n =
    rw (get_or-append_seam, get_or-append-add u (in_four n) 1 0, get_or-append-add u (in_four n) 2 0, get_or-append-add u (in_four n) 3 0)
    (four_back n)

-- ---- two addresses come back from their region

-- an address that rule 12 lets pass
record Fine (a : List ℕ) : Type 0 where
  short : length a < largest_address
  whole : length a ≤ first_zero a

fine : (a : List ℕ) → bad_end a ≡ false → Fine a
unfolding bad_end
fine a e =
    let p = neither (leb largest_address (length a)) (has_zero a) e in
    record { short = leb-false largest_address (length a) p.0; whole = ltb-false (first_zero a) (length a) (sym (zero_inside a) ∙ p.1) }

one_more : (z : Bool) (n p q : ℕ) → suc n ≤ cond z 0 (suc p) → (n ≤ p → q ≡ n) → cond z 0 (suc q) ≡ suc n
one_more true n p q h f = omega arith
one_more false n p q h f = ap suc (f (omega arith))

-- with no zero of its own, an address ends at the zero that closes it
closes : (a rest : List ℕ) → length a ≤ first_zero a → first_zero (a ++ 0 ∷ rest) ≡ length a
unfolding first_zero
closes [] rest h = refl
closes (x ∷ a) rest h = one_more (eqb x 0) (length a) (first_zero a) (first_zero (a ++ 0 ∷ rest)) h (closes a rest)

after-zero : (a rest : List ℕ) → drop (length a + 1) (a ++ 0 ∷ rest) ≡ rest
after-zero a rest = drop-append-add a (0 ∷ rest) 1

abbrev ends : List ℕ → List ℕ → List ℕ
ends source destination = source ++ 0 ∷ (destination ++ 0 ∷ [])

module _ (source destination : List ℕ) (hs : Fine source) (hd : Fine destination) where
  source_back : source_size (ends source destination) ≡ length source
  source_back = closes source (destination ++ 0 ∷ []) hs.whole

  destination_back : destination_size (ends source destination) ≡ length destination
  unfolding destination_size
  destination_back = rw (source_back, after-zero source (destination ++ 0 ∷ [])) (closes destination [] hd.whole)

  ends_two : two_addresses (ends source destination) ≡ true
  ends_two =
      let a = source_back in
      let b = destination_back in
      let l = ends-length source destination in
      scanned_two (ends source destination)
      (record { source = omega (arith, hs.short); destination = omega (arith, hd.short); whole = omega arith })

-- ---- the fields of a message that was written

abbrev pub addressing_back : RoutingFields → ℕ → ℕ → AddressingFields
addressing_back unaddressed source destination = absent
addressing_back (addressed ttl qos) source destination =
    present ttl qos (record { place = addresses_place; size = source }) (record { place = addresses_place + source + 1; size = destination })

abbrev pub number_back : Given → ℕ
number_back g = field_number (kind_of g.header.flags) g.application (before_field g)

abbrev pub fields_back : Given → Fields
fields_back g =
    record {
      header = g.header;
      addressing = addressing_back g.routing (length g.source) (length g.destination);
      body = record { place = header_size + length (variable_of g); size = length g.body };
      integrity = integrity_of (kind_of g.header.flags) (number_back g);
    }

module _ (g : Given) (v d : ℕ) (tail : List ℕ) (hs : Fine g.source) (hd : Fine g.destination) where
  abbrev whole : RoutingFields → List ℕ
  whole routing = header_bytes g.header v d ++ (variable_bytes routing g.source g.destination ++ g.body ++ tail)

  region_back : (ttl qos : ℕ) → v ≡ length (variable_bytes (addressed ttl qos) g.source g.destination)
      → region_of (whole (addressed ttl qos)) v ≡ ends g.source g.destination
  region_back ttl qos e =
      rw (append_assoc (ends g.source g.destination) g.body tail)
      (take_at (ends g.source g.destination) (g.body ++ tail) (v - routing_size) (omega (arith, ends-length g.source g.destination)))

  addresses_back : (routing : RoutingFields) → v ≡ length (variable_bytes routing g.source g.destination)
      → (bad_addresses (whole routing) v ≡ false) × (addressing_of (whole routing) v ≡ addressing_back routing (length g.source) (length g.destination))
  unfolding bad_addresses addressing_of two_at
  addresses_back unaddressed e = (rw e, rw e)
  addresses_back (addressed ttl qos) e =
      let n : (v ≡ 0 → ⊥) = λ z. omega arith in
      let r = region_back ttl qos e in (
        rw (ne_eqb v 0 n, r, ends_two g.source g.destination hs hd),
        rw (ne_eqb v 0 n, r, source_back g.source g.destination hs hd, destination_back g.source g.destination hs hd)
            (λ i.
            present (two_back ttl i) (two_back qos i)
            (record { place = addresses_place; size = length g.source })
            (record { place = addresses_place + length g.source + 1; size = length g.destination })),
      )

variable_fine : (routing : RoutingFields) (source destination : List ℕ) → Fine source → Fine destination
    → bad_variable_size (length (variable_bytes routing source destination)) ≡ false
unfolding bad_variable_size
variable_fine unaddressed source destination hs hd = refl
variable_fine (addressed ttl qos) source destination hs hd =
    let l = ends-length source destination in
    let p = hs.short in
    let q = hd.short in
    let v = length (variable_bytes (addressed ttl qos) source destination) in
    simp (le-leb 1 v (omega arith), le-ltb v smallest_variable (omega arith), le-ltb largest_variable v (omega arith))

field_cases : (a b : Bool) (sum number : ℕ)
    → cond a (not (eqb (cond a 0 (cond b sum number)) 0)) (cond b (not (eqb (cond a 0 (cond b sum number)) sum)) false) ≡ false
field_cases true b sum number = refl
field_cases false true sum number = rw (eq-eqb sum sum refl)
field_cases false false sum number = refl

field_fine : (kind number : ℕ) (u : List ℕ) → bad_integrity (u ++ in_four (field_number kind number u)) kind (length u) ≡ false
unfolding bad_integrity field_number
field_fine kind number u =
    rw (field_back u (field_number kind number u), take-append_seam u (in_four (field_number kind number u)))
    (field_cases (eqb kind kind_none) (eqb kind kind_crc) (crc32 u) number)

pub read_back : (g : Given) (room : ℕ) → Kept g room → reading (message g) ≡ accepted (fields_back g)
unfolding message before_field fields_of header_of two_at three_at four_at
read_back g room k =
    let e = ends_kept g.routing g.source g.destination k.four.ends in
    let hs = fine g.source e.0 in
    let hd = fine g.destination e.1 in
    let u = before_field g in
    let n = number_back g in
    let m = u ++ in_four n in
    let v = length (variable_of g) in
    let lu : length u ≡ header_size + v + length g.body = rw (length-append (variable_of g) g.body) (omega arith) in
    let lm : length m ≡ header_size + v + length g.body + field_size = rw (length-append u (in_four n)) (omega arith) in
    let d = three_back (length g.body) in
    let place : field_place m ≡ length u = omega arith in
    let a = addresses_back g v (length g.body) (in_four n) hs hd g.routing refl in
    accepts m (omega arith) (record { version = refl; flags = k.four.flags; size = variable_fine g.routing g.source g.destination hs hd })
    (omega (arith, announced_is m)) a.0 (rw place (field_fine (kind_of g.header.flags) g.application u))
    ∙ (λ i.
    accepted
    (record {
      header =
          record {
            message_type = two_back g.header.message_type i;
            version = g.header.version;
            flags = g.header.flags;
            number = four_back g.header.number i;
            time = four_back g.header.time i;
          };
      addressing = a.1 i;
      body = record { place = header_size + v; size = d i };
      integrity = integrity_of (kind_of g.header.flags) ((ap (four_at m) place ∙ field_back u n) i);
    }))

-- ---- the parts that the fields name are the lists that were given

empty : (a : List ℕ) → eqb (length a) 0 ≡ true → [] ≡ a
empty [] e = refl
empty (x ∷ a) e = absurd (omega (arith, eqb-true (suc (length a)) 0 e))

stray_none : (s d : List ℕ) → stray_ends unaddressed s d ≡ false → ([] ≡ s) × ([] ≡ d)
stray_none s d e =
    let p = neither (not (eqb (length s) 0)) (not (eqb (length d) 0)) e in
    (empty s (not-false _ p.0), empty d (not-false _ p.1))

routing_back : (routing : RoutingFields) (m n : ℕ) → routing_of (addressing_back routing m n) ≡ routing
routing_back unaddressed m n = refl
routing_back (addressed ttl qos) m n = refl

-- of header, two ends, body and field, the ends
module _ (h : HeaderFields) (v d : ℕ) (s t body tail : List ℕ) where
  abbrev around : RoutingFields → List ℕ
  around routing = header_bytes h v d ++ (variable_bytes routing s t ++ body) ++ tail

  source_part : (routing : RoutingFields) → stray_ends routing s t ≡ false
      → source_bytes (around routing) (addressing_back routing (length s) (length t)) ≡ s
  source_part unaddressed e = (stray_none s t e).0
  source_part (addressed ttl qos) e =
      ap (take (length s)) (append_assoc (ends s t) body tail ∙ append_assoc s (0 ∷ (t ++ 0 ∷ [])) (body ++ tail)) ∙ take-append_seam s _

  destination_part : (routing : RoutingFields) → stray_ends routing s t ≡ false
      → destination_bytes (around routing) (addressing_back routing (length s) (length t)) ≡ t
  destination_part unaddressed e = (stray_none s t e).1
  destination_part (addressed ttl qos) e =
      let far : addresses_place + length s + 1 ≡ addresses_place + (length s + 1) = omega arith in
      ap (λ (k : ℕ). take (length t) (drop k (around (addressed ttl qos)))) far
      ∙ ap (take (length t))
      (sym (drop-drop (length s + 1) addresses_place (around (addressed ttl qos)))
      ∙ ap (drop (length s + 1)) (append_assoc (ends s t) body tail ∙ append_assoc s (0 ∷ (t ++ 0 ∷ [])) (body ++ tail))
      ∙ after-zero s ((t ++ 0 ∷ []) ++ (body ++ tail))
      ∙ append_assoc t (0 ∷ []) (body ++ tail))
      ∙ take-append_seam t _

body_part : (front var body tail : List ℕ) → take (length body) (drop (length front + length var) (front ++ (var ++ body) ++ tail)) ≡ body
body_part front var body tail =
    ap (take (length body))
    (ap (drop (length front + length var)) (append_assoc front (var ++ body) tail)
    ∙ drop-append-add front (var ++ body ++ tail) (length var)
    ∙ ap (drop (length var)) (append_assoc var body tail)
    ∙ drop-append_seam var (body ++ tail))
    ∙ take-append_seam body tail

-- the application's number, which is 0 where the kind is none or CRC
and_true_is : (b : Bool) → (b && true) ≡ false → b ≡ false
and_true_is true e = e
and_true_is false e = refl

number_cases : (a b : Bool) (sum number : ℕ) → (not (eqb number 0) && (a || b)) ≡ false
    → application_number (cond a none (cond b (crc (cond a 0 (cond b sum number))) (application (cond a 0 (cond b sum number))))) ≡ number
number_cases true b sum number e = sym (eqb-true number 0 (not-false _ (and_true_is _ e)))
number_cases false true sum number e = sym (eqb-true number 0 (not-false _ (and_true_is _ e)))
number_cases false false sum number e = refl

application_back : (kind number : ℕ) (u : List ℕ) → stray_integrity number kind ≡ false
    → application_number (integrity_of kind (field_number kind number u)) ≡ number
unfolding stray_integrity integrity_of field_number
application_back kind number u e = number_cases (eqb kind kind_none) (eqb kind kind_crc) (crc32 u) number e

pub given_back : (g : Given) (room : ℕ) → Kept g room → given_by (message g) (fields_back g) ≡ g
unfolding message before_field
given_back g room k =
    let tail = in_four (number_back g) in
    let v = length (variable_of g) in
    let d = length g.body in
    let stray = stray_kept g.routing g.source g.destination k.four.ends in
    let source = source_part g.header v d g.source g.destination g.body tail g.routing stray in
    let destination = destination_part g.header v d g.source g.destination g.body tail g.routing stray in
    let body = body_part (header_bytes g.header v d) (variable_of g) g.body tail in
    λ i.
    record {
      header = g.header;
      routing = routing_back g.routing (length g.source) (length g.destination) i;
      source = source i;
      destination = destination i;
      body = body i;
      application = application_back (kind_of g.header.flags) g.application (before_field g) k.four.integrity i;
    }

pub reads_as : (g : Given) (room : ℕ) → Kept g room → ReadsAs (message g) g
reads_as g room k = record { fields = fields_back g; accepts = read_back g room k; same = given_back g room k }
