use Rattle.headline.proofs.made_input.made.Goals as goal

pub returns : goal.returns
returns g c = record {
  status = λ segments seed asked. (c.planar.ensures.made_without_source segments seed asked).1;
  unread = λ segments seed asked. (c.planar.ensures.made_without_source segments seed asked).0;
  done = c.planar.ensures.made;
  broken = c.planar.ensures.made_to_write_fault;
}
