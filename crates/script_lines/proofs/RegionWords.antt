-- A word that names no operation.
use Rattle.std.proofs.Common.{◌≡◌, ℕ, false, List, [], ◌∷◌, Err, refl}
use Rattle.std.specs.Prelude.{codes, bytes_eq}
use Rattle.script_lines.specs.declared.error.LineError.TheVariants.{Word}
use Rattle.script_lines.specs.Form.{forms_reading}
use Rattle.script_lines.specs.Command.{region_forms}

pub no_region : (word : List ℕ) → bytes_eq (codes "union") word ≡ false → bytes_eq (codes "intersection") word ≡ false → bytes_eq (codes "difference") word ≡ false → bytes_eq (codes "symmetric") word ≡ false
    → forms_reading region_forms (word ∷ []) ≡ Err Word
no_region word a b d e = rw (a, b, d, e) refl
