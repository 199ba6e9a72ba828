-- What is read of a dart by its entry.
use Rattle.std.proofs.Common.{◌≡◌, true, ℕ, List, is_some, option_map, sym, ap, ◌∙◌}
use Rattle.slab_laws.specs.declared.names.DartId.{DartId}
use Rattle.slab_laws.specs.Tables.{row_at}
use Rattle.slab_laws.specs.View.{HasDart, next_in, twin_in, source_in, line_in, next_or, twin_or, source_or, line_or}
use Rattle.arr_notes.specs.NamedRows.{each}
use Rattle.arr_notes.proofs.RowLaws.{row_at-each}
use Rattle.arr_notes.proofs.Reading.{some_mapped}
use Rattle.mirror_observer.specs.declared.tables.DartEntry.{DartEntry}
use Rattle.mirror_observer.specs.Tables.{dart_of, darts_of}
use Rattle.mirror_observer.proofs.Entries.{rows_row, read_some}

module _ (ds : List (ℕ × DartEntry)) (d : DartId) where
  pub next_is : next_in (darts_of ds) d ≡ next_or d (option_map dart_of (row_at ds d.0))
  next_is = ap (next_or d) (rows_row dart_of ds d.0)

  pub twin_is : twin_in (darts_of ds) d ≡ twin_or d (option_map dart_of (row_at ds d.0))
  twin_is = ap (twin_or d) (rows_row dart_of ds d.0)

  pub source_is : source_in (darts_of ds) d ≡ source_or (option_map dart_of (row_at ds d.0))
  source_is = ap source_or (rows_row dart_of ds d.0)

  pub line_is : line_in (darts_of ds) d ≡ line_or (option_map dart_of (row_at ds d.0))
  line_is = ap line_or (rows_row dart_of ds d.0)

  pub has_is : is_some (row_at ds d.0) ≡ true → HasDart (darts_of ds) d
  has_is s = ap is_some (rows_row dart_of ds d.0) ∙ read_some dart_of (row_at ds d.0) ∙ s

  pub is_has : HasDart (darts_of ds) d → is_some (row_at ds d.0) ≡ true
  is_has h = sym (read_some dart_of (row_at ds d.0)) ∙ sym (ap is_some (rows_row dart_of ds d.0)) ∙ h

-- a change of each entry keeps the names
pub has_each : (g : ℕ → DartEntry → DartEntry) (ds : List (ℕ × DartEntry)) (d : DartId) → HasDart (darts_of (each g ds)) d → HasDart (darts_of ds) d
has_each g ds d h = has_is ds d (sym (ap is_some (row_at-each g ds d.0) ∙ some_mapped (g d.0) (row_at ds d.0)) ∙ is_has (each g ds) d h)

pub each_has : (g : ℕ → DartEntry → DartEntry) (ds : List (ℕ × DartEntry)) (d : DartId) → HasDart (darts_of ds) d → HasDart (darts_of (each g ds)) d
each_has g ds d h = has_is (each g ds) d (ap is_some (row_at-each g ds d.0) ∙ some_mapped (g d.0) (row_at ds d.0) ∙ is_has ds d h)
