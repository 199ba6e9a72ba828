use Rattle.std.proofs.Common.{sym, refl, ◌∙◌}
use Rattle.planar_run.proofs.Attaching.{back_kept, error_refused, gone_refused, handed_alike, handed_back, newcomer_kept, newly_attached, nobody_taken, not_refused, other_refused, placed_refused, same_waiting, still_within, unknown_refused, within}
use Rattle.planar_run.proofs.world.World.attach.Goals as goal

pub returns-then-not-has : goal.returns-then-not-has
returns-then-not-has g c = record {
  refused = unknown_refused _ _ _ _ c.args.self.now.strategy c.args.self.now.is_blue _ c.requires.kept c.if-not-has.ensures;
  attached = tt;
  err = refl;
  kept = c.requires.kept;
}

pub returns-then-is_attached : goal.returns-then-is_attached
returns-then-is_attached g c = record {
  refused = sym (other_refused _ _ _ _ c.args.self.now.strategy c.args.self.now.is_blue _ c.requires.kept c.requires.number _ c.has.ensures c.if-not-has.false (sym c.is_attached.ensures ∙ c.if-is_attached.true));
  attached = tt;
  err = refl;
  kept = c.requires.kept;
}

pub overflow_sub-place : goal.overflow_sub-place
overflow_sub-place g c = c.requires.number

pub take_waiting-requires : goal.take_waiting-requires
take_waiting-requires g c = within _ _ _ _ c.args.self.now.strategy c.args.self.now.is_blue _ c.requires.kept c.requires.number _ c.has.ensures c.if-not-has.false

pub returns-then-is_attached-2 : goal.returns-then-is_attached-2
returns-then-is_attached-2 g c = record {
  refused = sym (placed_refused _ _ _ _ c.args.self.now.strategy c.args.self.now.is_blue _ c.requires.kept c.requires.number _ c.has.ensures c.if-not-has.false (sym c.take_waiting.ensures.value ∙ c.in-None.is) (sym c.is_attached.ensures ∙ c.if-is_attached.false) (sym c.is_attached-in-None.ensures ∙ c.if-is_attached-2.true));
  attached = tt;
  err = nobody_taken _ _ _ _ c.args.self.now.strategy c.args.self.now.is_blue _ c.requires.kept c.requires.number _ c.has.ensures c.if-not-has.false _ (sym c.take_waiting.ensures.value ∙ c.in-None.is) c.take_waiting.ensures.after;
  kept = c.requires.kept;
}

pub returns-else-is_attached-2 : goal.returns-else-is_attached-2
returns-else-is_attached-2 g c = record {
  refused = sym (gone_refused _ _ _ _ c.args.self.now.strategy c.args.self.now.is_blue _ c.requires.kept c.requires.number _ c.has.ensures c.if-not-has.false (sym c.is_attached.ensures ∙ c.if-is_attached.false) (sym c.take_waiting.ensures.value ∙ c.in-None.is) (sym c.is_attached-in-None.ensures ∙ c.if-is_attached-2.false));
  attached = tt;
  err = nobody_taken _ _ _ _ c.args.self.now.strategy c.args.self.now.is_blue _ c.requires.kept c.requires.number _ c.has.ensures c.if-not-has.false _ (sym c.take_waiting.ensures.value ∙ c.in-None.is) c.take_waiting.ensures.after;
  kept = c.requires.kept;
}

pub put_waiting-requires : goal.put_waiting-requires
put_waiting-requires g c = still_within _ _ _ _ c.args.self.now.strategy c.args.self.now.is_blue _ c.requires.kept c.requires.number _ c.has.ensures c.if-not-has.false _ c.take_waiting.ensures.after

pub returns-in-Ok : goal.returns-in-Ok
returns-in-Ok g c = record {
  refused = not_refused _ _ _ _ c.args.self.now.strategy c.args.self.now.is_blue _ c.requires.kept c.requires.number _ c.has.ensures c.if-not-has.false (sym c.is_attached.ensures ∙ c.if-is_attached.false) _ (sym c.take_waiting.ensures.value ∙ c.in-Some.is) c.in-Ok.ensures.refused;
  attached = newly_attached _ _ _ _ c.args.self.now.strategy c.args.self.now.is_blue _ c.requires.kept c.requires.number _ c.has.ensures c.if-not-has.false (sym c.is_attached.ensures ∙ c.if-is_attached.false) _ (sym c.take_waiting.ensures.value ∙ c.in-Some.is) _ _ _ _ _ refl refl refl refl c.in-Ok.ensures.attached c.attach.ensures.layer c.take_waiting.ensures.after;
  err = tt;
  kept = newcomer_kept _ _ _ _ c.args.self.now.strategy c.args.self.now.is_blue _ c.requires.kept c.requires.number _ c.has.ensures c.if-not-has.false (sym c.is_attached.ensures ∙ c.if-is_attached.false) _ (sym c.take_waiting.ensures.value ∙ c.in-Some.is) _ _ _ c.in-Ok.ensures.attached c.attach.ensures.layer c.in-Ok.ensures.refused c.attach.ensures.watched;
}

pub returns-in-Err : goal.returns-in-Err
returns-in-Err g c = record {
  refused = c.refusal_of.ensures ∙ error_refused _ _ _ _ c.args.self.now.strategy c.args.self.now.is_blue _ c.requires.kept c.requires.number _ c.has.ensures c.if-not-has.false (sym c.is_attached.ensures ∙ c.if-is_attached.false) _ (sym c.take_waiting.ensures.value ∙ c.in-Some.is) c.in-Err.error c.in-Err.ensures.refused;
  attached = tt;
  err = handed_back _ _ _ _ c.args.self.now.strategy c.args.self.now.is_blue _ c.requires.kept c.requires.number _ c.has.ensures c.if-not-has.false (sym c.is_attached.ensures ∙ c.if-is_attached.false) _ (sym c.take_waiting.ensures.value ∙ c.in-Some.is) c.in-Err.observer _ _ _ (same_waiting _ _ (handed_alike (goal.Observer-dyn g) _ _ c.in-Err.ensures.back)) c.in-Err.ensures.err c.attach.ensures.layer c.take_waiting.ensures.after c.put_waiting.ensures;
  kept = back_kept _ _ _ _ c.args.self.now.strategy c.args.self.now.is_blue _ c.requires.kept c.requires.number _ c.has.ensures c.if-not-has.false (sym c.is_attached.ensures ∙ c.if-is_attached.false) _ (sym c.take_waiting.ensures.value ∙ c.in-Some.is) _ c.in-Err.ensures.err c.attach.ensures.layer c.attach.ensures.watched;
}
