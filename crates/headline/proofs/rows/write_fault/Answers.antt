use Rattle.headline.proofs.rows.write_fault.Goals as goal

pub returns : goal.returns
returns g c = record {
  script = λ asked is. let run = c.planar.ensures.answered_to_write_fault asked is in (run.0, run.1, record { out = run.2 });
  usage = c.planar.ensures.usage_broken;
}
