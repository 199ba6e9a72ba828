use Rattle.arr_notes.proofs.CurveRows.{read_views_are_sound}
use Rattle.arr_notes.proofs.read_views_are_sound.Goals as goal

pub returns : goal.returns
returns c = read_views_are_sound
