use Rattle.headline.proofs.whole.other_words.Goals as goal

pub returns : goal.returns
returns g c = record { unread = c.planar.ensures.nothing_read; status = c.planar.ensures.other_words }
