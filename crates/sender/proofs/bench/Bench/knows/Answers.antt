-- `Bench::knows`: in flight, or among those that wait.
use mathlib.Core.Bool.{Bool, ◌||◌}
use mathlib.Core.List.{List}
use mathlib.Core.Path.{◌≡◌, sym, ap, ◌∙◌}
use Prim.Native.Nat.{ℕ}
use lib.ListN.{take}
use Rattle.std.specs.Option.{is_some}
use Rattle.std.specs.Prelude.{Option, Some, None}
use Rattle.sender.specs.Helpers.{FindsFlight}
use Rattle.sender.specs.Queue.{among, is_in_flight, known}
use Rattle.sender.specs.Told.{told_flight}
use Rattle.sender.specs.declared.bench.Bench.{Bench}
use Rattle.sender.specs.declared.bench.Flight.{Flight}
use Rattle.sender.proofs.AmongLaws.{among_any, known_or}
use Rattle.sender.proofs.bench.Bench.knows.Goals as goal

found : (x : ℕ) (b : Bench) (o : Option Flight) → FindsFlight x b o → is_some o ≡ is_in_flight x (told_flight b.flight)
found x b None h = sym h
found x b (Some f) h = sym h.0

knows : (x : ℕ) (b : Bench) (ws : List ℕ) (o : Option Flight) → FindsFlight x b o
    → (is_some o || among x ws) ≡ among x (known (told_flight b.flight) ws)
knows x b ws o h = ap (λ (t : Bool). t || among x ws) (found x b o h) ∙ sym (known_or x (told_flight b.flight) ws)

pub returns-then-is_some : goal.returns-then-is_some
returns-then-is_some c =
    let known = knows c.args.commid c.args.self.now (take c.args.self.now.count c.args.waiting.now) c.in_flight.result c.in_flight.ensures in
    let some = sym c.is_some.ensures ∙ c.if-is_some.true in
    c.if-is_some.true ∙ rw some at known

pub returns-else-is_some : goal.returns-else-is_some
returns-else-is_some c =
    let ws = take c.args.self.now.count c.args.waiting.now in
    let known = knows c.args.commid c.args.self.now ws c.in_flight.result c.in_flight.ensures in
    let none = sym c.is_some.ensures ∙ c.if-is_some.false in
    c.contains.ensures.value ∙ among_any c.args.commid ws ∙ rw none at known
