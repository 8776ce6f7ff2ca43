-- Document 02, No. 6: a line of a sheet, with three numbers in their columns.
use Rattle.std.specs.Prelude.{ℕ, ◌+◌, ◌-◌, List, [], ◌++◌, length, replicate}
use Rattle.printing.specs.Printed.{digits, ascii}

-- the byte of a space
abbrev pub space : ℕ
space = 32

abbrev pub spaces : ℕ → List ℕ
spaces k = replicate k space

-- columns of a field, and of a line
abbrev pub field_columns : ℕ
field_columns = 20

abbrev pub line_columns : ℕ
line_columns = 72

-- where the fields begin, counted from 1
abbrev pub first_column : ℕ
first_column = 1

abbrev pub second_column : ℕ
second_column = 24

abbrev pub third_column : ℕ
third_column = 48

-- a number, right-aligned in its columns
unfoldable pub sheet_field : ℕ → List ℕ
sheet_field n = spaces (field_columns - length (digits n)) ++ digits n

-- what follows a text begins at this column: the rest are spaces
abbrev pub up_to : ℕ → List ℕ → List ℕ
up_to column text = text ++ spaces (column - 1 - length text)

abbrev pub with_field : ℕ → ℕ → List ℕ → List ℕ
with_field column n text = up_to column text ++ sheet_field n

-- exactly 72 columns
unfoldable pub columns : ℕ → ℕ → ℕ → List ℕ
columns a b c = up_to (line_columns + 1) (with_field third_column c (with_field second_column b (with_field first_column a [])))

-- and a line feed
unfoldable pub sheet_line : ℕ → ℕ → ℕ → List ℕ
sheet_line a b c = columns a b c ++ ascii "\n"

-- bytes of a line
abbrev pub line_bytes : ℕ
line_bytes = line_columns + 1
