-- Find by halving, as its loop meets it: how the search begins, and which half a name leaves.
use mathlib.Core.Bool.{true, false, ◌&&◌, ◌||◌}
use mathlib.Core.List.{List}
use mathlib.Core.Path.{◌≡◌, ap, ◌∙◌, subst}
use Prim.Native.Nat.{ℕ, ◌-◌}
use native.Mathlib.Omega.{arith}
use lib.Dec.{eqb, ltb}
use Rattle.std.proofs.lemmas.Bool.Decides.{nat_tests}
use Rattle.std.specs.Ordering.{nat_cmp, ordering_then}
use Rattle.std.specs.declared.cmp.Ordering.{Ordering}
use Rattle.std.specs.declared.cmp.Ordering.TheVariants.{Less, Equal, Greater}
use Rattle.envelope.specs.Fields.{Fields}
use Rattle.envelope.specs.Refusals.{Refused}
use Rattle.golden.specs.Finding.{NameFields, has_name, name_of, refused, told_name}
use Rattle.golden.specs.Halving.{precedes, halving_from, halving}
use Rattle.golden.specs.Listing.{counting}
use Rattle.golden.specs.Listing as list
use Rattle.golden.specs.declared.finder.Name.{Name}
use Rattle.golden.proofs.FileLaws.{counted_so, uncounted_so}
use Rattle.golden.proofs.HalvingLaws.{halving_21}

module _ (f : List ℕ) (name : NameFields) where
  pub halving_uncounted : (r : Refused) → list.refused r ≡ counting f → refused r 0 ≡ halving f name
  halving_uncounted r e = let u = uncounted_so f r e in ap (λ (x : Refused). refused x 0) u.1 ∙ halving_21 f name u.0

  pub halving_begin : (n : ℕ) → list.counted n ≡ counting f → halving f name ≡ halving_from f name (n - 0) 0 n 0
  unfolding halving
  halving_begin n e =
      let k = counted_so f n e in
      let z : n - 0 ≡ n = omega arith in
      rw (k.0, ← k.1, z)

-- ---- the order of names, by which a record ends the search or leaves a half

by_less : (a b c d : ℕ) → ordering_then (nat_cmp a b) (nat_cmp c d) ≡ Less → ((eqb a b && eqb c d) ≡ false) × ((ltb a b || (eqb a b && ltb c d)) ≡ true)
by_less a b c d e = (grind (arith, nat_tests), grind (arith, nat_tests))

by_equal : (a b c d : ℕ) → ordering_then (nat_cmp a b) (nat_cmp c d) ≡ Equal → (eqb a b && eqb c d) ≡ true
by_equal a b c d e = grind (arith, nat_tests)

by_greater : (a b c d : ℕ) → ordering_then (nat_cmp a b) (nat_cmp c d) ≡ Greater → ((eqb a b && eqb c d) ≡ false) × ((ltb a b || (eqb a b && ltb c d)) ≡ false)
by_greater a b c d e = (grind (arith, nat_tests), grind (arith, nat_tests))

module _ (own name : Name) (fields : Fields) (e : told_name own ≡ name_of fields) (o : Ordering)
    (h : o ≡ ordering_then (nat_cmp own.message_type name.message_type) (nat_cmp own.number name.number)) where
  pub goes_after : o ≡ Less → (has_name (told_name name) fields ≡ false) × (precedes (name_of fields) (told_name name) ≡ true)
  unfolding precedes
  goes_after q =
      subst (λ (x : NameFields). ((eqb x.message_type name.message_type && eqb x.number name.number) ≡ false) × ((ltb x.message_type name.message_type || (eqb x.message_type name.message_type && ltb x.number name.number)) ≡ true)) e
      (by_less own.message_type name.message_type own.number name.number (rw h at q))

  pub is_named_so : o ≡ Equal → has_name (told_name name) fields ≡ true
  is_named_so q =
      subst (λ (x : NameFields). (eqb x.message_type name.message_type && eqb x.number name.number) ≡ true) e
      (by_equal own.message_type name.message_type own.number name.number (rw h at q))

  pub goes_before : o ≡ Greater → (has_name (told_name name) fields ≡ false) × (precedes (name_of fields) (told_name name) ≡ false)
  unfolding precedes
  goes_before q =
      subst (λ (x : NameFields). ((eqb x.message_type name.message_type && eqb x.number name.number) ≡ false) × ((ltb x.message_type name.message_type || (eqb x.message_type name.message_type && ltb x.number name.number)) ≡ false)) e
      (by_greater own.message_type name.message_type own.number name.number (rw h at q))
