use Rattle.std.proofs.Common.{sym}
use Rattle.script_lines.proofs.RegionWords.{no_region}
use Rattle.script_lines.proofs.form.region_of.Goals as goal

pub returns : goal.returns
returns c =
    sym (no_region c.args.word.now
    (rw c.as_bytes.ensures.value at (sym c.if-eq.ensures))
    (rw c.as_bytes-2.ensures.value at (sym c.if-eq-2.ensures))
    (rw c.as_bytes-3.ensures.value at (sym c.if-eq-3.ensures))
    (rw c.as_bytes-4.ensures.value at (sym c.if-eq-4.ensures)))
