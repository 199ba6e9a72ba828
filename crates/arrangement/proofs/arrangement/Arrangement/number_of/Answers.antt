use Rattle.arrangement.proofs.FaceNumbers.{number_left, number_round}
use Rattle.arrangement.proofs.arrangement.Arrangement.number_of.Goals as goal

pub returns-clause-number : goal.returns-clause-number
returns-clause-number g c =
    let e = c.laws.ensures in
    let n = c.rank_of.ensures.rank in
    record {
      place = n;
      left = λ d D q. number_left _ _ e.layer _ e.faced c.args.face _ n d D q;
      round = λ w W. number_round _ _ e.layer _ e.faced c.args.face _ n w W;
    }
