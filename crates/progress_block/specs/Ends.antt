-- What contracts say of a cell, its writer and a reader.
use Rattle.std.specs.Prelude.{◌≡◌, List, [], ◌∷◌, if◌then◌else◌}
use Rattle.atomic_table.specs.Seated.{TableId}
use Rattle.replay_core.specs.declared.counts.Counts.{Counts}
use Rattle.progress_block.specs.declared.ends.Writer.{Writer}
use Rattle.progress_block.specs.declared.ends.Reader.{Reader}
use Rattle.progress_block.specs.declared.progress.Progress.{Progress}

-- the rows that the writer has published, the first one too
abbrev pub rows_of : Writer → List Counts
rows_of w = if w.told then w.pass.me.0.client.rows else (w.first ∷ [])

-- the rows that the reader has seen
abbrev pub seen_of : Reader → List Counts
seen_of r = r.pass.me.0.client.rows

-- which cell it is, and to which cell an end belongs
abbrev pub cell_of : Progress → TableId
cell_of progress = progress.cell.table.shared.table_id

abbrev pub writer_cell : Writer → TableId
writer_cell w = w.pass.table_id

abbrev pub reader_cell : Reader → TableId
reader_cell r = r.pass.table_id

-- the cell made the writer
abbrev pub IsWriterOf : Progress → Writer → Type 0
IsWriterOf progress w = writer_cell w ≡ cell_of progress

-- the cell made the reader
abbrev pub IsReaderOf : Progress → Reader → Type 0
IsReaderOf progress r = reader_cell r ≡ cell_of progress

-- two states of one writer
abbrev pub IsSameWriter : Writer → Writer → Type 0
IsSameWriter before after = writer_cell after ≡ writer_cell before

-- two states of one reader
abbrev pub IsSameReader : Reader → Reader → Type 0
IsSameReader before after = reader_cell after ≡ reader_cell before
