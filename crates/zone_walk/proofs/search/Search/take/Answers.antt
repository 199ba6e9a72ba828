use Rattle.std.proofs.Common.{sym, ap, ◌∙◌, ⊎_elim, inl, inr}
use Rattle.plane_graphs.specs.Line.{precedes}
use Rattle.zone_walk.proofs.search.Search.take.Goals as goal

pub returns-in-Ok-clause-only : goal.returns-in-Ok-clause-only
returns-in-Ok-clause-only c = λ p at m. ⊎_elim (λ n. inl n) (λ w. inr (w.0, w.1, ap (precedes c.args.self.now.here) w.0 ∙ sym c.lt.ensures ∙ c.if-lt.true)) (c.insert.ensures.only p at m)

pub returns-in-Err-clause-only : goal.returns-in-Err-clause-only
returns-in-Err-clause-only c = λ p at m. ⊎_elim (λ n. inl n) (λ w. inr (w.0, w.1, ap (precedes c.args.self.now.here) w.0 ∙ sym c.lt.ensures ∙ c.if-lt.true)) (c.insert.ensures.only p at m)
