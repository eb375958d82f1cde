-- The row of each verb in the table of commands. What a row says is no part of this.
use Rattle.std.specs.Prelude.{ℕ, ◌<◌, ◌≡◌, Result, Ok, Err}
use Rattle.wording.specs.declared.commands.Verb.{Verb}
use Rattle.wording.specs.declared.commands.Verb.TheVariants.{List, Check, Find, Compare, Read, Judge, Late, Sum, Make, Retire, Unwrap, Wrap, Acknowledge, Watch, Send, Help}
use Rattle.wording.specs.declared.rows.NoRow.{NoRow}

abbrev pub row_of : Verb → ℕ
row_of List = 0
row_of Check = 1
row_of Find = 2
row_of Compare = 3
row_of Read = 4
row_of Judge = 5
row_of Late = 6
row_of Sum = 7
row_of Make = 8
row_of Retire = 9
row_of Unwrap = 10
row_of Wrap = 11
row_of Acknowledge = 12
row_of Watch = 13
row_of Send = 14
row_of Help = 15

-- what `TryFrom<usize> for Verb` gives
abbrev pub VerbOfRow : ℕ → Result Verb NoRow → Type 0
VerbOfRow row (Ok verb) = row_of verb ≡ row
VerbOfRow row (Err _) = row_of Help < row
