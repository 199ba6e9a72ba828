use Rattle.headline.proofs.rows.done.Goals as goal

pub returns : goal.returns
returns g c = record {
  known = c.planar.ensures.known;
  done = λ asked is. let run = c.planar.ensures.answered asked is in (run.0, run.1, record { rest = c.planar.ensures.read_to_end asked is; out = run.2 });
}
