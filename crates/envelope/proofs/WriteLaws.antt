-- How long a message is, what the writer's steps come to, and what an answer says of the rules before it.
-- `pasted` stands for the steps, `bufferAfter` for the promise.
use Rattle.std.proofs.Common.{◌≡◌, ℕ, ◌+◌, ◌<◌, ◌≤◌, Bool, true, false, cond, ◌||◌, ltb, leb, List, [], ◌∷◌, ◌++◌, length, take, drop, sym, refl, ap, ◌∙◌, append_assoc, zero-add, arith, length-append, ltb-false, leb-false}
use lib.Seq.{take-append_seam}
use Rattle.envelope.specs.Flags.{kind_of, bad_flags}
use Rattle.envelope.specs.Helpers.{pasted, variable_length, variable_of_length, Allowed}
use Rattle.envelope.specs.Layout.{header_size, field_size, largest_variable, largest_address, largest_body, largest_message}
use Rattle.envelope.specs.Message.{RoutingFields, unaddressed, addressed, Given, header_bytes, variable_bytes, variable_of, before_field, field_number, message}
use Rattle.envelope.specs.Numbers.{in_four}
use Rattle.envelope.specs.Writing.{has_zero, bad_end, stray_ends, bad_ends, body_too_long, stray_integrity, WriteOutcome, written, refused, writing, after_writing, wrote, answer_to_writing, wrote_length, WritesNoLonger, RefusalWritesNothing}
use Rattle.envelope.proofs.BoolLaws.{neither}
use Rattle.envelope.proofs.PastedLaws.{pasted_more}

-- ---- lengths

pub ends-length : (source destination : List ℕ) → length (source ++ 0 ∷ (destination ++ 0 ∷ [])) ≡ length source + 1 + (length destination + 1)
ends-length source destination = rw (length-append, length-append) (omega arith)

pub variable_length_lem : (routing : RoutingFields) (source destination : List ℕ)
    → length (variable_bytes routing source destination) ≡ variable_length routing (length source) (length destination)
variable_length_lem unaddressed source destination = refl
variable_length_lem (addressed ttl qos) source destination = omega (arith, ends-length source destination)

pub before-length : (g : Given) → length (before_field g) ≡ header_size + variable_of_length g + length g.body
unfolding before_field
before-length g =
    rw (length-append (variable_of g) g.body, variable_length_lem g.routing g.source g.destination) (omega arith)

pub message-length : (g : Given) → length (message g) ≡ header_size + variable_of_length g + length g.body + field_size
unfolding message
message-length g =
    rw (length-append (before_field g) (in_four (field_number (kind_of g.header.flags) g.application (before_field g))), before-length g)

-- ---- the writer's steps, from the front of the buffer

from_front : (buffer p q : List ℕ) → length p ≤ length buffer → pasted (pasted buffer 0 p) (length p) q ≡ pasted buffer 0 (p ++ q)
from_front buffer p q h = rw (← zero-add (length p)) (pasted_more buffer 0 p q (omega arith))

three_parts : (buffer p q r : List ℕ) → length p + length q ≤ length buffer
    → pasted (pasted (pasted buffer 0 p) (length p) q) (length p + length q) r ≡ pasted buffer 0 (p ++ (q ++ r))
three_parts buffer p q r h =
    rw (from_front buffer p q (omega arith), ← length-append p q, from_front buffer (p ++ q) r (rw length-append h), append_assoc p q r)

-- header, variable header and body, put one after the other
pub before_put : (buffer : List ℕ) (g : Given) (front x y z : List ℕ) (i j v : ℕ)
    → header_size + variable_of_length g ≤ length buffer
    → v ≡ variable_of_length g → front ≡ header_bytes g.header v (length g.body)
    → i ≡ header_size → x ≡ pasted buffer 0 front
    → j ≡ i + variable_of_length g → y ≡ pasted x i (variable_of g)
    → z ≡ pasted y j g.body → z ≡ pasted buffer 0 (before_field g)
unfolding before_field
before_put buffer g front x y z i j v h ev ef ei ex ej ey ez =
    let l = variable_length_lem g.routing g.source g.destination in
    rw (ez, ey, ex, ej, ei, ef, ev, ← l)
    (three_parts buffer (header_bytes g.header (length (variable_of g)) (length g.body)) (variable_of g) g.body (omega arith))

at_front : (buffer u : List ℕ) → take (length u) (pasted buffer 0 u) ≡ u
unfolding pasted
at_front buffer u = take-append_seam u (drop (0 + length u) buffer)

-- the field after what it covers
pub field_put : (buffer u x z field : List ℕ) (end n k kind application : ℕ) → length u ≤ length buffer → end ≡ length u → x ≡ pasted buffer 0 u
    → k ≡ kind → n ≡ field_number k application (take end x) → field ≡ in_four n → z ≡ pasted x end field
    → z ≡ pasted buffer 0 (u ++ in_four (field_number kind application u))
field_put buffer u x z field end n k kind application h ee ex ek en ef ez =
    rw (ez, ef, en, ek, ee, ex, at_front buffer u) (from_front buffer u (in_four (field_number kind application u)) h)

-- ---- from an answer back to the rules

end_short : (a : List ℕ) → bad_end a ≡ false → length a < largest_address
unfolding bad_end
end_short a e = leb-false largest_address (length a) (neither (leb largest_address (length a)) (has_zero a) e).0

pub ends_kept : (routing : RoutingFields) (s d : List ℕ) → bad_ends routing s d ≡ false → (bad_end s ≡ false) × (bad_end d ≡ false)
ends_kept routing s d e =
    let p = neither (bad_end s) (bad_end d || stray_ends routing s d) e in
    (p.0, (neither (bad_end d) (stray_ends routing s d) p.1).0)

pub stray_kept : (routing : RoutingFields) (s d : List ℕ) → bad_ends routing s d ≡ false → stray_ends routing s d ≡ false
stray_kept routing s d e =
    (neither (bad_end d) (stray_ends routing s d) (neither (bad_end s) (bad_end d || stray_ends routing s d) e).1).1

pub ends_short : (routing : RoutingFields) (s d : List ℕ) → bad_ends routing s d ≡ false
    → (length s < largest_address) × (length d < largest_address)
ends_short routing s d e = let k = ends_kept routing s d e in (end_short s k.0, end_short d k.1)

-- the rules of writing that do not look at the room, and all five
pub record FourKept (g : Given) : Type 0 where
  pub flags : bad_flags g.header.flags ≡ false
  pub ends : bad_ends g.routing g.source g.destination ≡ false
  pub body : body_too_long g.body ≡ false
  pub integrity : stray_integrity g.application (kind_of g.header.flags) ≡ false

pub record Kept (g : Given) (room : ℕ) : Type 0 where
  pub four : FourKept g
  pub fits : ltb room (length (message g)) ≡ false

pub four_writing : (g : Given) (room : ℕ) → FourKept g
    → writing g room ≡ cond (ltb room (length (message g))) (refused 15) (written (message g))
unfolding writing
four_writing g room k = rw (k.flags, k.ends, k.body, k.integrity)

pub kept_written : (g : Given) (room : ℕ) → Kept g room → writing g room ≡ written (message g)
kept_written g room k = four_writing g room k.four ∙ rw k.fits

-- a length was answered
passes : (b : Bool) (k n : ℕ) (w : WriteOutcome) → wrote n ≡ answer_to_writing (cond b (refused k) w) → (b ≡ false) × (wrote n ≡ answer_to_writing w)
passes true k n w e = (cc, cc)
passes false k n w e = (refl, e)

pub wrote_kept : (g : Given) (room n : ℕ) → wrote n ≡ answer_to_writing (writing g room) → Kept g room
unfolding writing
wrote_kept g room n e =
    let p1 = passes (bad_flags g.header.flags) 11 n _ e in
    let p2 = passes (bad_ends g.routing g.source g.destination) 12 n _ p1.1 in
    let p3 = passes (body_too_long g.body) 13 n _ p2.1 in
    let p4 = passes (stray_integrity g.application (kind_of g.header.flags)) 14 n _ p3.1 in
    let p5 = passes (ltb room (length (message g))) 15 n _ p4.1 in
    record { four = record { flags = p1.0; ends = p2.0; body = p3.0; integrity = p4.0 }; fits = p5.0 }

pub kept_allowed : (g : Given) (room : ℕ) → Kept g room → Allowed g room
kept_allowed g room k =
    let e = ends_short g.routing g.source g.destination k.four.ends in
    record {
      source_short = e.0;
      destination_short = e.1;
      body_short = ltb-false largest_body (length g.body) k.four.body;
      fits = omega (arith, ltb-false room (length (message g)) k.fits, message-length g);
    }

routing_most : (routing : RoutingFields) (s d : ℕ) → s < largest_address → d < largest_address → variable_length routing s d ≤ largest_variable
routing_most unaddressed s d hs hd = omega arith
routing_most (addressed ttl qos) s d hs hd = omega arith

message_most : (g : Given) (room : ℕ) → Kept g room → length (message g) ≤ largest_message
message_most g room k =
    let a = kept_allowed g room k in
    omega (arith, message-length g, a.body_short, routing_most g.routing (length g.source) (length g.destination) a.source_short a.destination_short)

pub writes_no_longer : WritesNoLonger
writes_no_longer g room = go (writing g room) refl
  where
    go : (w : WriteOutcome) → writing g room ≡ w → wrote_length (answer_to_writing w) ≤ largest_message
    go (refused n) e = omega arith
    go (written m) e =
        let k = wrote_kept g room (length m) (rw e) in
        let same : length (message g) ≡ length m = ap (λ (w : WriteOutcome). wrote_length (answer_to_writing w)) (sym (kept_written g room k) ∙ e) in
        omega (arith, same, message_most g room k)

-- ---- the buffer afterwards

pub refused_after : (w : WriteOutcome) (k : ℕ) (entry : List ℕ) → refused k ≡ answer_to_writing w → entry ≡ after_writing w entry
refused_after (written m) k entry e = cc
refused_after (refused n) k entry e = refl

pub refusal_writes_nothing : RefusalWritesNothing
refusal_writes_nothing g entry exit r n w e =
    w.1 ∙ sym (refused_after (writing g (length entry)) n entry (sym e ∙ w.0))

pub written_after : (entry m : List ℕ) → pasted entry 0 m ≡ after_writing (written m) entry
unfolding pasted
written_after entry m = rw zero-add
