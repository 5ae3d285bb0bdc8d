-- The value that is computed for a text.
use Rattle.std.specs.Prelude.{ℕ, count_by, nat_eq}
use Rattle.servo_arc.specs.HeaderSlice.{HeaderAndItems}

-- the number of lines that end in a text
abbrev pub line_count : HeaderAndItems (Unit {0}) ℕ → ℕ
line_count text = count_by (λ byte. nat_eq byte 10) text.items
