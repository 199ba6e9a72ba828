use Rattle.std.proofs.Common.{◌≡◌, ℕ, Bool, false, List, [], ◌∷◌, length, nat_eq, refl, inr, subst}
use Rattle.outside.specs.Bytes.{Gains, GainsPrefix}
use Rattle.planar_run.proofs.engine.Engine.finish.Goals as goal

is_begun : (line : List ℕ) (empty : Bool) → empty ≡ nat_eq (length line) 0 → empty ≡ false → line ≡ [] → ⊥
is_begun [] empty e f none = absurd cc
is_begun (b ∷ line) empty e f none = absurd cc

pub returns-in-Ok : goal.returns-in-Ok
returns-in-Ok g c = record {
  finishes = inr (is_begun c.args.self.now.line c.is_empty.result c.is_empty.ensures c.if-is_empty.false, (_, (c.end_line.new.self.reply, c.end_line.ensures.replied, subst (Gains (g.K.Sink.taken c.args.sink.now) (g.K.Sink.taken c.write_all.new.sink)) c.as_slice.ensures c.in-Ok.ensures.ok)));
  causes = (refl, c.in-Ok.ensures.cause.same);
  kept = c.end_line.ensures.kept;
}

pub returns-in-Err : goal.returns-in-Err
returns-in-Err g c = record {
  finishes = (is_begun c.args.self.now.line c.is_empty.result c.is_empty.ensures c.if-is_empty.false, (c.end_line.new.self.reply, _, c.end_line.ensures.replied, subst (GainsPrefix (g.K.Sink.taken c.args.sink.now) (g.K.Sink.taken c.write_all.new.sink)) c.as_slice.ensures c.in-Err.ensures.err));
  causes = (refl, c.in-Err.ensures.cause.rose);
  kept = c.end_line.ensures.kept;
}
