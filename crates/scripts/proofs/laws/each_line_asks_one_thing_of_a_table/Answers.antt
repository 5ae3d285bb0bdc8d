use Rattle.std.proofs.Common.{◌≡◌, arith}
use Rattle.scripts.proofs.Lines.{asks_for_one_thing}
use Rattle.scripts.specs.TableLine.{table_line}
use Rattle.scripts.specs.declared.table_line.TableLine.{TableLine}
use Rattle.scripts.proofs.laws.each_line_asks_one_thing_of_a_table.Goals as goal

same_command : (one other : TableLine) → (table_line one).0 ≡ (table_line other).0
    → (table_line one).1 ≡ (table_line other).1 → one ≡ other
same_command one other word numbers = grind arith

pub returns : goal.returns
returns c = asks_for_one_thing table_line same_command
