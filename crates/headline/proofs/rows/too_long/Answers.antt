use Rattle.headline.proofs.rows.too_long.Goals as goal

pub returns : goal.returns
returns g c = record {
  too_long = λ is. let run = c.planar.ensures.answered_to_limit is in (run.0, run.1, record { used = c.planar.ensures.too_long is; out = run.2 });
  within = c.planar.ensures.not_too_long;
}
