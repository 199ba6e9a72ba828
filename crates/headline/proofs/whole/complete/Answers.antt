use Rattle.headline.proofs.Statuses.{by_words}
use Rattle.headline.proofs.whole.complete.Goals as goal

pub returns : goal.returns
returns g c = λ known read written fits.
    by_words _ c.planar.result known
    (λ asked. c.planar.ensures.complete asked read written fits)
    (λ segments seed asked. (c.planar.ensures.made_without_source segments seed asked).1)
    (λ is. written (c.planar.ensures.write_fault is))
