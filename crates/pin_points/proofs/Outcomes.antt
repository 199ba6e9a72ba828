-- What an outcome tells: an error's clauses where it is one, that want of memory is no other outcome, and what stays where nothing was changed.
use Rattle.std.proofs.Common.{◌≡◌, ℕ, Result, Ok, Err, refl, ◌∙◌}
use Rattle.std.proofs.lemmas.Bool.{false≢true}
use Rattle.std.specs.Prelude.{IsOk, OnErr}
use Rattle.dcel_records.specs.RecordsView.{RecordsView, IsSpare, SameRecordCapacity}
use Rattle.curve_history.specs.Past.{Past, SameLayer, SameHistoryCapacity}
use Rattle.observer_bus.proofs.Heard.{on_err}

-- ---- a result by what it is
-- the result of a call that succeeds is no error
pub not_both : {T E : Type 0} (r : Result T E) (e : E) → IsOk r → r ≡ Err e → ⊥
not_both (Ok x) e o is = absurd cc
not_both (Err y) e o is = false≢true o

-- ---- nothing was changed
pub layer_kept : (p : Past) → SameLayer p p
layer_kept p = record { names = refl; pieces = refl; next = refl }

pub records_kept : (r : RecordsView) → SameRecordCapacity r r
records_kept r = record { of_vertices = refl; of_darts = refl }

pub history_kept : (p : Past) → SameHistoryCapacity p p
history_kept p = record { by_edge = refl; by_curve = refl; of_pieces = refl }

-- ---- what has the same capacity after two changes
pub records_fit : (a b c : RecordsView) (vertices darts : ℕ) → IsSpare a b vertices darts → SameRecordCapacity b c → SameRecordCapacity a c
records_fit a b c vertices darts s t = record { of_vertices = t.of_vertices ∙ s.capacity_of_vertices; of_darts = t.of_darts ∙ s.capacity_of_darts }
