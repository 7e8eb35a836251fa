-- The numbers of the keyed cells, as src/cells.rt has them for the code.
use Rattle.std.specs.Prelude.{ℕ}

-- how far the keys of one row lie from those of the next
abbrev pub row_span : ℕ
row_span = 256

-- a table by place has an entry for each
abbrev pub place_room : ℕ
place_room = 256

-- rows are below this one, so that a row after each has keys
abbrev pub top_row : ℕ
top_row = 255

-- where the keys of the rows end: top_row * row_span
abbrev pub keys_end : ℕ
keys_end = 65280

-- "room for all cells the full table could hold", 50 rows of 129, and for one row more
abbrev pub cell_room : ℕ
cell_room = 6579

-- a dense row: place 0 is free, then a place for each of 129 symbols
abbrev pub row_room : ℕ
row_room = 130

-- the last place of a dense row
abbrev pub last_place : ℕ
last_place = 129

-- rows, and the line after the last, are below this one
abbrev pub lines_room : ℕ
lines_room = 64
