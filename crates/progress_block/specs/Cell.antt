-- The rule of the progress cell, and what its steps tell.
use Rattle.std.specs.Prelude.{◌≡◌, ◌≢◌, ℕ, true, false, List, [], ◌∷◌, ◌++◌}
use mathlib.Core.List.{IsPrefix}
use mathlib.Core.Option.{some}
use lib.ListN.{get_elem?}
use Rattle.replay_core.specs.declared.counts.Counts.{Counts}
use Rattle.progress_block.specs.declared.cell_row.CellRow.{CellRow}
use Rattle.progress_block.specs.declared.view.View.{View}
use Rattle.progress_block.specs.Rows.{Rise, EndsWith}

-- one writer has published these rows, and the cell has the last of them. Each reader has seen a prefix
pub record IsTold (row : CellRow) (views : List View) : Type 0 where
  pub rows : List Counts
  pub last : rows ≢ [] → EndsWith rows row.counts
  pub rise : Rise 0 rows
  pub seen : (i : ℕ) (v : View) → get_elem? views i ≡ some v → IsPrefix v.rows rows
  pub writer : (i : ℕ) (v : View) → get_elem? views i ≡ some v → v.writes ≡ true → (i ≡ 0) × (v.rows ≡ rows)

abbrev pub published : View → List Counts → View
published v rows = record v { rows = v.rows ++ rows }

abbrev pub reader_of : View → View
reader_of v = record { writes = false; rows = v.rows }

-- publish: the writer knows of one more row
abbrev pub published_one : View → CellRow → CellRow → View → Type 0
published_one v before row w = w ≡ published v (row.counts ∷ [])

-- read: the reader has seen all rows up to the one that it found
pub record HasRead (v : View) (row found : CellRow) (w : View) : Type 0 where
  pub later : IsPrefix v.rows w.rows
  pub last : w.rows ≢ [] → EndsWith w.rows found.counts
  pub rise : Rise 0 w.rows
  pub writes : w.writes ≡ v.writes
