use Rattle.std.proofs.Common.{refl, sym, ◌∙◌, inl}
use Rattle.plane_graphs.proofs.Lines.{point_is_proper}
use Rattle.locate_walk.proofs.Takes.{settled_looked, found_looked}
use Rattle.locate_landmarks.proofs.SeenAbove.{entry_looked}
use Rattle.locate_landmarks.proofs.survey.Survey.look_closely.Goals as goal

pub returns-then-is_settled : goal.returns-then-is_settled
returns-then-is_settled c = record {
  highest = settled_looked c.args.self.now.highest c.args.dart c.requires.map.sound.graph (point_is_proper c.args.self.now.highest.point c.laws.ensures) c.requires.best (sym c.is_settled.ensures ∙ c.if-is_settled.true);
  lowest = c.requires.lowest;
  lowered = inl refl;
  entry = refl;
  downward = refl;
}

pub returns-then-is_dart : goal.returns-then-is_dart
returns-then-is_dart c = record {
  highest = entry_looked c.args.self.now.highest c.requires.map.sound.graph (point_is_proper c.args.self.now.highest.point c.laws.ensures) c.args.self.now.descent.entry c.args.dart c.requires.entry (sym c.is_dart.ensures ∙ c.if-is_dart.true);
  lowest = c.requires.lowest;
  lowered = inl refl;
  entry = refl;
  downward = refl;
}

pub returns : goal.returns
returns c = record {
  highest = found_looked c.args.self.now.highest c.args.dart c.take.new.self c.find_at_dart-found.result (sym c.is_settled.ensures ∙ c.if-is_settled.false) c.find_at_dart-found.ensures.found c.take.ensures;
  lowest = c.find_at_dart-found.ensures.lowest;
  lowered = c.find_at_dart-found.ensures.lowered;
  entry = c.find_at_dart-found.ensures.entry;
  downward = c.find_at_dart-found.ensures.downward;
}
