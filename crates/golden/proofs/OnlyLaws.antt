-- One answer alone keeps each promise of the golden file: what a function is told as can be told back.
-- A refusal's number tells its case, and a refusal that is passed on tells its fault.
use mathlib.Core.Bool.{cond}
use mathlib.Core.List.{List}
use mathlib.Core.Path.{◌≡◌, refl, ap, sym, ◌∙◌}
use Prim.Native.Nat.{ℕ, zero, suc}
use denote.Ref.{Bor}
use native.Mathlib.Omega.{arith}
use borrow.Author.Tests.{ne_eqb}
use lib.Dec.{eqb}
use lib.ListN.{length}
use Rattle.std.specs.Prelude.{Option, Some, None, Result, Ok, Err}
use Rattle.envelope.proofs.OnlyLaws.{only_by_telling, untold_refusal, untold_refusal_lem, only_numbers}
use Rattle.envelope.specs.Fields.{Span}
use Rattle.envelope.specs.Promise.{Only₁, Only₂}
use Rattle.envelope.specs.Refusals.{Refused, plainly, passing_on}
use Rattle.envelope.specs.Told.{told_part}
use Rattle.envelope.specs.declared.reader.Refusal as envelope
use Rattle.golden.specs.Checking as check
use Rattle.golden.specs.Comparing as compare
use Rattle.golden.specs.Finding as find
use Rattle.golden.specs.Halving.{halving, Halves}
use Rattle.golden.specs.Ordering as order
use Rattle.golden.specs.Listing as list
use Rattle.golden.specs.Making as make
use Rattle.golden.specs.Refusal.{told_golden_refusal, NumbersGoldenRefusal}
use Rattle.golden.specs.Retiring as retire
use Rattle.golden.specs.Stepping as step
use Rattle.golden.specs.Walking.{Begins, Walks}
use Rattle.golden.specs.declared.finder.Found.{Found}
use Rattle.golden.specs.declared.finder.Name.{Name}
use Rattle.golden.specs.declared.finder.RefusedAfter.{RefusedAfter}
use Rattle.golden.specs.declared.lister.Entry.{Entry}
use Rattle.golden.specs.declared.refusal.Refusal.{Refusal}
use Rattle.golden.specs.declared.refusal.Refusal.TheVariants.{NotAGoldenFile, NoRecord, BadLength, NotClear, RecordRefused, NameTaken, NotFound, RadioRefused, TooLong, MessageRefused, WrongBuffer, AlreadyRetired, WrongCopy, RecordRetired}
use Rattle.golden.specs.declared.refusal.RefusedAt.{RefusedAt}
use Rattle.golden.specs.declared.stepper.Stored.{Stored}
use Rattle.golden.specs.declared.walker.Walk.{Walk}

-- ---- a refusal

abbrev plain_of : ℕ → Refusal
plain_of n =
    cond (eqb n 21) NotAGoldenFile
    (cond (eqb n 22) NoRecord
    (cond (eqb n 23) BadLength
    (cond (eqb n 24) NotClear
    (cond (eqb n 26) NameTaken
    (cond (eqb n 27) NotFound
    (cond (eqb n 33) TooLong
    (cond (eqb n 35) WrongBuffer
    (cond (eqb n 36) AlreadyRetired
    (cond (eqb n 37) WrongCopy RecordRetired)))))))))

abbrev passed_of : ℕ → envelope.Refusal → Refusal
passed_of n r = cond (eqb n 25) (RecordRefused r) (cond (eqb n 31) (RadioRefused r) (MessageRefused r))

abbrev pub untold_golden_refusal : Refused → Refusal
untold_golden_refusal (plainly n) = plain_of n
untold_golden_refusal (passing_on n r) = passed_of n (untold_refusal r)

pub untold_golden_refusal_lem : (r : Refusal) → untold_golden_refusal (told_golden_refusal r) ≡ r
untold_golden_refusal_lem NotAGoldenFile = refl
untold_golden_refusal_lem NoRecord = refl
untold_golden_refusal_lem BadLength = refl
untold_golden_refusal_lem NotClear = refl
untold_golden_refusal_lem (RecordRefused r) = ap RecordRefused (untold_refusal_lem r)
untold_golden_refusal_lem NameTaken = refl
untold_golden_refusal_lem NotFound = refl
untold_golden_refusal_lem (RadioRefused r) = ap RadioRefused (untold_refusal_lem r)
untold_golden_refusal_lem TooLong = refl
untold_golden_refusal_lem (MessageRefused r) = ap MessageRefused (untold_refusal_lem r)
untold_golden_refusal_lem WrongBuffer = refl
untold_golden_refusal_lem AlreadyRetired = refl
untold_golden_refusal_lem WrongCopy = refl
untold_golden_refusal_lem RecordRetired = refl

pub only_numbers_golden_refusal : (r : Refusal) → Only₁ (NumbersGoldenRefusal r)
only_numbers_golden_refusal r = only_numbers (told_golden_refusal r)

-- ---- check

abbrev untold_checking : check.CheckAnswer → Result ℕ RefusedAt
untold_checking (check.counted n) = Ok n
untold_checking (check.refused n r) = Err (record { «record» = n; refusal = untold_golden_refusal r })

untold_checking_lem : (a : Result ℕ RefusedAt) → untold_checking (check.told_checking a) ≡ a
untold_checking_lem (Ok n) = refl
untold_checking_lem (Err at) = λ i. Err (record { «record» = at.record; refusal = untold_golden_refusal_lem at.refusal i })

pub only_checks : (f : List ℕ) → Only₁ (check.Checks f)
only_checks f = only_by_telling check.told_checking untold_checking untold_checking_lem (check.checking f)

-- ---- find

abbrev untold_finding : find.FindAnswer → Result Found RefusedAfter
untold_finding (find.found n opened) = Ok (record { «record» = n; opened = opened })
untold_finding (find.refused r opened) = Err (record { refusal = untold_golden_refusal r; opened = opened })

untold_finding_lem : (a : Result Found RefusedAfter) → untold_finding (find.told_finding a) ≡ a
untold_finding_lem (Ok found) = refl
untold_finding_lem (Err after) = λ i. Err (record { refusal = untold_golden_refusal_lem after.refusal i; opened = after.opened })

pub only_finds : (f : List ℕ) (name : Name) → Only₁ (find.Finds f name)
only_finds f name = only_by_telling find.told_finding untold_finding untold_finding_lem (find.finding f (find.told_name name))

pub only_halves : (f : List ℕ) (name : Name) → Only₁ (Halves f name)
only_halves f name = only_by_telling find.told_finding untold_finding untold_finding_lem (halving f (find.told_name name))

abbrev untold_ordering : order.OrderAnswer → Result (Option ℕ) RefusedAt
untold_ordering order.ascends = Ok None
untold_ordering (order.breaks n) = Ok (Some n)
untold_ordering (order.refused n r) = Err (record { «record» = n; refusal = untold_golden_refusal r })

untold_ordering_lem : (a : Result (Option ℕ) RefusedAt) → untold_ordering (order.told_ordering a) ≡ a
untold_ordering_lem (Ok None) = refl
untold_ordering_lem (Ok (Some n)) = refl
untold_ordering_lem (Err at) = λ i. Err (record { «record» = at.record; refusal = untold_golden_refusal_lem at.refusal i })

pub only_orders : (f : List ℕ) → Only₁ (order.Orders f)
only_orders f = only_by_telling order.told_ordering untold_ordering untold_ordering_lem (order.ordering f)

-- ---- step

abbrev untold_reached : step.StepAnswer → Result (Option Stored) Refusal
untold_reached (step.message retired p) = Ok (Some (record { part = record { place = p.place; size = p.size }; retired = retired }))
untold_reached (step.refused r) = Err (untold_golden_refusal r)
untold_reached step.end = Ok None

untold_reached_lem : (a : Result (Option Stored) Refusal) → untold_reached (step.told_reached a) ≡ a
untold_reached_lem (Ok (Some stored)) = refl
untold_reached_lem (Ok None) = refl
untold_reached_lem (Err r) = ap Err (untold_golden_refusal_lem r)

pub only_reached : (f : List ℕ) (n : ℕ) → Only₁ (λ (a : Result (Option Stored) Refusal). step.told_reached a ≡ step.step_at f n)
only_reached f n = only_by_telling step.told_reached untold_reached untold_reached_lem (step.step_at f n)

pub only_steps : (f : List ℕ) (n : ℕ) → Only₁ (step.Steps f n)
only_steps f n a b p q = λ i.
    record { answer = only_reached f n a.answer b.answer p.0 q.0 i; next = (p.1 ∙ sym q.1) i }

pub only_stores : (f : List ℕ) (n : ℕ) → Only₁ (step.Stores f n)
only_stores f n =
    only_by_telling told_part (λ (p : Span). record { place = p.place; size = p.size }) (λ a. refl) (step.stored_message f n)

-- ---- listing

abbrev untold_counting : list.CountAnswer → Result ℕ Refusal
untold_counting (list.counted n) = Ok n
untold_counting (list.refused r) = Err (untold_golden_refusal r)

untold_counting_lem : (a : Result ℕ Refusal) → untold_counting (list.told_counting a) ≡ a
untold_counting_lem (Ok n) = refl
untold_counting_lem (Err r) = ap Err (untold_golden_refusal_lem r)

pub only_counts : (f : List ℕ) → Only₁ (list.Counts f)
only_counts f = only_by_telling list.told_counting untold_counting untold_counting_lem (list.counting f)

pub only_counts_retired : (f : List ℕ) → Only₁ (list.CountsRetired f)
only_counts_retired f = only_by_telling list.told_counting untold_counting untold_counting_lem (list.counting_retired f)

abbrev untold_entry : list.EntryAnswer → Result Entry Refusal
untold_entry (list.line t n size retired) = Ok (record { name = record { message_type = t; number = n }; size = size; retired = retired })
untold_entry (list.refused r) = Err (untold_golden_refusal r)

untold_entry_lem : (a : Result Entry Refusal) → untold_entry (list.told_entry a) ≡ a
untold_entry_lem (Ok entry) = refl
untold_entry_lem (Err r) = ap Err (untold_golden_refusal_lem r)

pub only_enters : (f : List ℕ) (n : ℕ) → Only₁ (list.Enters f n)
only_enters f n = only_by_telling list.told_entry untold_entry untold_entry_lem (list.entry_at f n)

-- ---- compare: the answer and the whole list

abbrev untold_comparison : compare.CompareAnswer → Result ℕ Refusal
untold_comparison compare.same = Ok 0
untold_comparison (compare.different n) = Ok n
untold_comparison (compare.refused r) = Err (untold_golden_refusal r)

untold_comparison_lem : (a : Result ℕ Refusal) → untold_comparison (compare.told_comparison a) ≡ a
untold_comparison_lem (Ok zero) = refl
untold_comparison_lem (Ok (suc n)) = rw (ne_eqb (suc n) 0 (λ e. omega (arith, e)))
untold_comparison_lem (Err r) = ap Err (untold_golden_refusal_lem r)

pub only_compares : (f : List ℕ) (n : ℕ) (radio entry : List ℕ) → Only₂ (compare.Compares f n radio entry)
only_compares f n radio entry a b x y p q =
    (only_by_telling compare.told_comparison untold_comparison untold_comparison_lem (compare.answer_to_comparing (compare.comparing f n radio)) a b p.0 q.0, p.1 ∙ sym q.1)

-- ---- make: the answer and the whole buffer

abbrev untold_making : make.MakeAnswer → Result (Unit {0}) Refusal
untold_making make.made = Ok tt
untold_making (make.refused r) = Err (untold_golden_refusal r)

untold_making_lem : (a : Result (Unit {0}) Refusal) → untold_making (make.told_making a) ≡ a
untold_making_lem (Ok u) = refl
untold_making_lem (Err r) = ap Err (untold_golden_refusal_lem r)

pub only_makes : (m entry : List ℕ) → Only₂ (make.Makes m entry)
only_makes m entry a b x y p q =
    (only_by_telling make.told_making untold_making untold_making_lem (make.making m (length entry)) a b p.0 q.0, p.1 ∙ sym q.1)

-- ---- retire: the answer and the whole buffer

abbrev untold_retiring : retire.RetireAnswer → Result (Unit {0}) Refusal
untold_retiring retire.done = Ok tt
untold_retiring (retire.refused r) = Err (untold_golden_refusal r)

untold_retiring_lem : (a : Result (Unit {0}) Refusal) → untold_retiring (retire.told_retiring a) ≡ a
untold_retiring_lem (Ok u) = refl
untold_retiring_lem (Err r) = ap Err (untold_golden_refusal_lem r)

pub only_retires : (f : List ℕ) (n : ℕ) (entry : List ℕ) → Only₂ (retire.Retires f n entry)
only_retires f n entry a b x y p q =
    (only_by_telling retire.told_retiring untold_retiring untold_retiring_lem (retire.retiring f n (length entry)) a b p.0 q.0, p.1 ∙ sym q.1)

-- ---- the walk: the answer and the whole walk afterwards

pub only_begins : (file : Bor (List ℕ)) → Only₁ (Begins file)
only_begins file a b p q = λ i. record { file = (p.0 ∙ sym q.0) i; next = (p.1 ∙ sym q.1) i }

pub only_walks : (w : Walk) → Only₂ (Walks w)
only_walks w a b x y p q = (
  only_reached w.file.now w.next a b p.0 q.0,
  λ i. record { file = (p.1.0 ∙ sym q.1.0) i; next = (p.1.1 ∙ sym q.1.1) i },
)
